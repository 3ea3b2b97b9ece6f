-- A pair put into a graph name: the names that it has then, and the same on pairs of places as on pairs of names.
use mathlib.Core.Path.{◌≡◌, refl, ap, ◌∙◌}
use mathlib.Core.Logic.{◌⊎◌, inl, inr, ⊎_elim, ◌↔◌}
use mathlib.Core.List.{List, [], ◌∷◌, ◌++◌, map, Memᴰ}
use Rattle.std.specs.declared.cmp.Ordering.{Ordering}
use Rattle.std.specs.declared.cmp.Ordering.TheVariants.{Less, Equal, Greater}
use Rattle.model.specs.declared.Kind.{Kind}
use Rattle.model.specs.declared.Kind.TheVariants.{Subgraph, Translation}
use Rattle.model.specs.Bytes.{Bytes, by_order, compare_bytes}
use Rattle.model.specs.Record.{Pair, GraphName, compare_pairs, insert, with_pair, own_name, pair_names, names}
use Rattle.text.proofs.Order.{bytes_order, pairs_order}
use Rattle.text.proofs.Ascending.{insert_members, insert_ascending, ascending_unique}
use Rattle.record.proofs.Names.{all_names, names_ascending, names_members}

-- a map that keeps the order keeps insertion
pub insert_map : {A B : Type 0} (cmp : A → A → Ordering) (cmp' : B → B → Ordering) (f : A → B) (x : A) (ys : List A)
    → ((y : A) → Memᴰ y ys → cmp' (f x) (f y) ≡ cmp x y) → map f (insert cmp x ys) ≡ insert cmp' (f x) (map f ys)
unfolding insert
insert_map cmp cmp' f x [] h = refl
insert_map cmp cmp' f x (y ∷ ys) h =
    rw (h y (mathlib.Core.List.Memᴰ.head refl), ← insert_map cmp cmp' f x ys (λ z m. h z (mathlib.Core.List.Memᴰ.tail m))) (go (cmp x y))
  where
    go : (o : Ordering) → map f (by_order o (x ∷ y ∷ ys) (y ∷ ys) (y ∷ insert cmp x ys)) ≡ by_order o (f x ∷ f y ∷ map f ys) (f y ∷ map f ys) (f y ∷ map f (insert cmp x ys))
    go Less = refl
    go Equal = refl
    go Greater = refl

-- ------------------------------------------------------------------ the names of pairs

abbrev pub Names : Pair → Bytes → Type 0
Names p x = (x ≡ p.from) ⊎ (x ≡ p.to)

pub names_pair : (x : Bytes) (ps : List Pair) (p : Pair) → Memᴰ p ps → Names p x → Memᴰ x (pair_names ps)
names_pair x [] p m n = absurd (mathlib.Core.List.Memᴰ.not-nil m)
names_pair x (q ∷ qs) p m n =
    ⊎_elim
    (λ (e : p ≡ q). ⊎_elim
    (λ (d : x ≡ p.from). mathlib.Core.List.Memᴰ.head (d ∙ ap (λ (z : Pair). z.from) e))
    (λ (d : x ≡ p.to). mathlib.Core.List.Memᴰ.tail (mathlib.Core.List.Memᴰ.head (d ∙ ap (λ (z : Pair). z.to) e)))
    n)
    (λ (k : Memᴰ p qs). mathlib.Core.List.Memᴰ.tail (mathlib.Core.List.Memᴰ.tail (names_pair x qs p k n)))
    (mathlib.Core.List.Memᴰ.cases_cons m)

pair_names_lem : (x : Bytes) (ps : List Pair) → Memᴰ x (pair_names ps) → (p : Pair) × Memᴰ p ps × Names p x
pair_names_lem x [] m = absurd (mathlib.Core.List.Memᴰ.not-nil m)
pair_names_lem x (q ∷ qs) m =
    ⊎_elim
    (λ (e : x ≡ q.from). (q, mathlib.Core.List.Memᴰ.head refl, inl e))
    (λ (k : Memᴰ x (q.to ∷ pair_names qs)). ⊎_elim
    (λ (e : x ≡ q.to). (q, mathlib.Core.List.Memᴰ.head refl, inr e))
    (λ (l : Memᴰ x (pair_names qs)). let r = pair_names_lem x qs l in (r.0, mathlib.Core.List.Memᴰ.tail r.1, r.2))
    (mathlib.Core.List.Memᴰ.cases_cons k))
    (mathlib.Core.List.Memᴰ.cases_cons m)

-- the names of the pairs with one more
more_names : (p : Pair) (ps : List Pair) (x : Bytes) → Memᴰ x (pair_names (insert compare_pairs p ps)) ↔ Names p x ⊎ Memᴰ x (pair_names ps)
more_names p ps x = (
  λ m.
      let r = pair_names_lem x (insert compare_pairs p ps) m in
      ⊎_elim (λ (e : r.0 ≡ p). inl (rw e at r.2)) (λ (k : Memᴰ r.0 ps). inr (names_pair x ps r.0 k r.2)) ((insert_members pairs_order p ps r.0).0 r.1),
  ⊎_elim
      (λ (n : Names p x). names_pair x (insert compare_pairs p ps) p ((insert_members pairs_order p ps p).1 (inl refl)) n)
      (λ (m : Memᴰ x (pair_names ps)).
      let r = pair_names_lem x ps m in
      names_pair x (insert compare_pairs p ps) r.0 ((insert_members pairs_order p ps r.0).1 (inr r.1)) r.2),
)

-- the names of a graph name with a pair of either kind added
all_names_lem : (k : Kind) (p : Pair) (g : GraphName) (x : Bytes) → Memᴰ x (all_names (with_pair k p g)) ↔ Names p x ⊎ Memᴰ x (all_names g)
all_names_lem k p g x = (there k, back k)
  where
    there : (k : Kind) → Memᴰ x (all_names (with_pair k p g)) → Names p x ⊎ Memᴰ x (all_names g)
    there Subgraph m =
        ⊎_elim
        (λ (n : Memᴰ x (own_name g.name ++ pair_names (insert compare_pairs p g.subgraph))). ⊎_elim
        (λ (l : Memᴰ x (own_name g.name)). inr (mathlib.Core.List.Memᴰ.append_left _ (mathlib.Core.List.Memᴰ.append_left _ l)))
        (λ (l : Memᴰ x (pair_names (insert compare_pairs p g.subgraph))). ⊎_elim
        inl
        (λ (j : Memᴰ x (pair_names g.subgraph)). inr (mathlib.Core.List.Memᴰ.append_left _ (mathlib.Core.List.Memᴰ.append_right (own_name g.name) j)))
        ((more_names p g.subgraph x).0 l))
        (mathlib.Core.List.Memᴰ.append_cases (own_name g.name) n))
        (λ (n : Memᴰ x (pair_names g.translation)). inr (mathlib.Core.List.Memᴰ.append_right (own_name g.name ++ pair_names g.subgraph) n))
        (mathlib.Core.List.Memᴰ.append_cases (own_name g.name ++ pair_names (insert compare_pairs p g.subgraph)) m)
    there Translation m =
        ⊎_elim
        (λ (n : Memᴰ x (own_name g.name ++ pair_names g.subgraph)). inr (mathlib.Core.List.Memᴰ.append_left _ n))
        (λ (n : Memᴰ x (pair_names (insert compare_pairs p g.translation))). ⊎_elim
        inl
        (λ (j : Memᴰ x (pair_names g.translation)). inr (mathlib.Core.List.Memᴰ.append_right (own_name g.name ++ pair_names g.subgraph) j))
        ((more_names p g.translation x).0 n))
        (mathlib.Core.List.Memᴰ.append_cases (own_name g.name ++ pair_names g.subgraph) m)

    back : (k : Kind) → Names p x ⊎ Memᴰ x (all_names g) → Memᴰ x (all_names (with_pair k p g))
    back Subgraph (inl n) = mathlib.Core.List.Memᴰ.append_left _ (mathlib.Core.List.Memᴰ.append_right (own_name g.name) ((more_names p g.subgraph x).1 (inl n)))
    back Subgraph (inr m) =
        ⊎_elim
        (λ (n : Memᴰ x (own_name g.name ++ pair_names g.subgraph)). mathlib.Core.List.Memᴰ.append_left _ (⊎_elim
        (λ (l : Memᴰ x (own_name g.name)). mathlib.Core.List.Memᴰ.append_left _ l)
        (λ (l : Memᴰ x (pair_names g.subgraph)). mathlib.Core.List.Memᴰ.append_right (own_name g.name) ((more_names p g.subgraph x).1 (inr l)))
        (mathlib.Core.List.Memᴰ.append_cases (own_name g.name) n)))
        (λ (n : Memᴰ x (pair_names g.translation)). mathlib.Core.List.Memᴰ.append_right (own_name g.name ++ pair_names (insert compare_pairs p g.subgraph)) n)
        (mathlib.Core.List.Memᴰ.append_cases (own_name g.name ++ pair_names g.subgraph) m)
    back Translation (inl n) = mathlib.Core.List.Memᴰ.append_right (own_name g.name ++ pair_names g.subgraph) ((more_names p g.translation x).1 (inl n))
    back Translation (inr m) =
        ⊎_elim
        (λ (n : Memᴰ x (own_name g.name ++ pair_names g.subgraph)). mathlib.Core.List.Memᴰ.append_left _ n)
        (λ (n : Memᴰ x (pair_names g.translation)). mathlib.Core.List.Memᴰ.append_right (own_name g.name ++ pair_names g.subgraph) ((more_names p g.translation x).1 (inr n)))
        (mathlib.Core.List.Memᴰ.append_cases (own_name g.name ++ pair_names g.subgraph) m)

pub names_with_pair : (k : Kind) (p : Pair) (g : GraphName) → names (with_pair k p g) ≡ insert compare_bytes p.to (insert compare_bytes p.from (names g))
names_with_pair k p g =
    ascending_unique bytes_order (names (with_pair k p g)) (insert compare_bytes p.to (insert compare_bytes p.from (names g)))
    (names_ascending (with_pair k p g))
    (insert_ascending bytes_order p.to (insert compare_bytes p.from (names g)) (insert_ascending bytes_order p.from (names g) (names_ascending g)))
    (λ x. (there x, back x))
  where
    there : (x : Bytes) → Memᴰ x (names (with_pair k p g)) → Memᴰ x (insert compare_bytes p.to (insert compare_bytes p.from (names g)))
    there x m =
        (insert_members bytes_order p.to (insert compare_bytes p.from (names g)) x).1
        (⊎_elim
        (λ (n : Names p x). ⊎_elim
        (λ (e : x ≡ p.from). inr ((insert_members bytes_order p.from (names g) x).1 (inl e)))
        inl
        n)
        (λ (n : Memᴰ x (all_names g)). inr ((insert_members bytes_order p.from (names g) x).1 (inr ((names_members g x).1 n))))
        ((all_names_lem k p g x).0 ((names_members (with_pair k p g) x).0 m)))

    back : (x : Bytes) → Memᴰ x (insert compare_bytes p.to (insert compare_bytes p.from (names g))) → Memᴰ x (names (with_pair k p g))
    back x m =
        (names_members (with_pair k p g) x).1 ((all_names_lem k p g x).1
        (⊎_elim
        (λ (e : x ≡ p.to). inl (inr e))
        (λ (n : Memᴰ x (insert compare_bytes p.from (names g))). ⊎_elim
        (λ (e : x ≡ p.from). inl (inl e))
        (λ (l : Memᴰ x (names g)). inr ((names_members g x).0 l))
        ((insert_members bytes_order p.from (names g) x).0 n))
        ((insert_members bytes_order p.to (insert compare_bytes p.from (names g)) x).0 m)))
