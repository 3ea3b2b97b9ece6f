-- Names and their places in an ascending list: each gives the other, and pairs of places are ordered as the pairs of names.
use mathlib.Core.Path.{◌≡◌, refl, sym, ◌∙◌}
use mathlib.Core.Logic.{◌⊎◌, inl, inr, ⊎_elim}
use mathlib.Core.Bool.{Bool, true, false, cond, false≢true}
use mathlib.Core.List.Memᴰ
use mathlib.Core.List.{List, [], ◌∷◌, map, Memᴰ}
use Prim.Native.Nat.{ℕ, zero, suc, ◌<◌}
use native.Mathlib.Omega.{arith}
use lib.ListN.{length}
use Rattle.std.specs.declared.cmp.Ordering.{Ordering}
use Rattle.model.specs.Bytes.{Bytes, then_by, compare_numbers, compare_bytes, same_bytes}
use Rattle.model.specs.Record.{Pair, compare_pairs, ascends, pair_names}
use Rattle.model.specs.Statements.{Ascending}
use Rattle.model.specs.Layout.{place_of, pair_places}
use Rattle.text.proofs.Order.{bytes_order, same_bytes_refl, same_bytes_true, same_bytes_false}
use Rattle.text.proofs.Ascending.{ascending_tail, ascending_below, less_irrefl}
use Rattle.text.proofs.Places.{get_or_member, ascends_map, ascending_places}
use Rattle.record.specs.Test.{Under}
use Rattle.record.specs.Coded.{name_in, pair_in, le_pairs}

abbrev pub places_in : List Bytes → Pair → ℕ × ℕ
places_in ns p = (place_of p.from ns, place_of p.to ns)

-- the places of pairs, one after the other
unfoldable pub flat : List (ℕ × ℕ) → List ℕ
flat [] = []
flat (p ∷ ps) = p.0 ∷ p.1 ∷ flat ps

unfoldable pub compare_places : ℕ × ℕ → ℕ × ℕ → Ordering
compare_places p q = then_by (compare_numbers p.0 q.0) (compare_numbers p.1 q.1)

-- ------------------------------------------------------------------ a name's place

pub place_found : (x : Bytes) (ns : List Bytes) → Memᴰ x ns → (place_of x ns < length ns) × (name_in ns (place_of x ns) ≡ x)
unfolding place_of
place_found x [] m = absurd (Memᴰ.not-nil m)
place_found x (n ∷ ns) m = go (same_bytes x n) refl (Memᴰ.cases_cons m) (place_found x ns)
  where
    go : (t : Bool) → same_bytes x n ≡ t → (x ≡ n) ⊎ Memᴰ x ns
        → (Memᴰ x ns → (place_of x ns < length ns) × (name_in ns (place_of x ns) ≡ x))
        → (cond t 0 (suc (place_of x ns)) < length (n ∷ ns)) × (name_in (n ∷ ns) (cond t 0 (suc (place_of x ns))) ≡ x)
    go true e m rest = (omega arith, sym ((same_bytes_true x n).0 e))
    go false e (inl d) rest = absurd (false≢true (sym e ∙ (same_bytes_true x n).1 d))
    go false e (inr m) rest = let r = rest m in (omega arith, r.1)

pub place_of_name : (ns : List Bytes) (i : ℕ) → Ascending compare_bytes ns → i < length ns → place_of (name_in ns i) ns ≡ i
unfolding place_of
place_of_name [] i a h = absurd (omega arith)
place_of_name (n ∷ ns) zero a h = rw (same_bytes_refl n)
place_of_name (n ∷ ns) (suc i) a h =
    let less = ascending_below bytes_order n ns a (name_in ns i) (get_or_member [] ns i (omega arith)) in
    rw (
      same_bytes_false (name_in ns i) n (λ e. less_irrefl bytes_order n (rw e at less)),
      place_of_name ns i (ascending_tail compare_bytes n ns a) (omega arith),
    )

-- ------------------------------------------------------------------ pairs

pub le_pairs_places : (ns : List Bytes) (ps : List Pair) → le_pairs (map (places_in ns) ps) ≡ pair_places ns ps
unfolding le_pairs pair_places
le_pairs_places ns [] = refl
le_pairs_places ns (p ∷ ps) = rw (le_pairs_places ns ps)

pub pair_names_in : (ns : List Bytes) (ps : List (ℕ × ℕ)) → pair_names (map (pair_in ns) ps) ≡ map (name_in ns) (flat ps)
unfolding flat
pair_names_in ns [] = refl
pair_names_in ns (p ∷ ps) = rw (pair_names_in ns ps)

pub flat_places : (ns : List Bytes) (ps : List Pair) → flat (map (places_in ns) ps) ≡ map (λ x. place_of x ns) (pair_names ps)
unfolding flat
flat_places ns [] = refl
flat_places ns (p ∷ ps) = rw (flat_places ns ps)

pub under_member : (n : ℕ) (ps : List (ℕ × ℕ)) (i : ℕ) → Under n ps → Memᴰ i (flat ps) → i < n
unfolding Under flat
under_member n [] i u m = absurd (Memᴰ.not-nil m)
under_member n (p ∷ ps) i u m =
    ⊎_elim (λ (e : i ≡ p.0). omega arith)
    (λ (k : Memᴰ i (p.1 ∷ flat ps)).
    ⊎_elim (λ (e : i ≡ p.1). omega arith) (under_member n ps i u.2) (Memᴰ.cases_cons k))
    (Memᴰ.cases_cons m)

pub under_all : (n : ℕ) (ps : List (ℕ × ℕ)) → ((i : ℕ) → Memᴰ i (flat ps) → i < n) → Under n ps
unfolding Under flat
under_all n [] h = tt
under_all n (p ∷ ps) h = (
  h p.0 (Memᴰ.head refl),
  h p.1 (Memᴰ.tail (Memᴰ.head refl)),
  under_all n ps (λ i m. h i (Memᴰ.tail (Memᴰ.tail m))),
)

pub under_pair : (n : ℕ) (ps : List (ℕ × ℕ)) (p : ℕ × ℕ) → Under n ps → Memᴰ p ps → (p.0 < n) × (p.1 < n)
unfolding Under
under_pair n [] p u m = absurd (Memᴰ.not-nil m)
under_pair n (q ∷ qs) p u m =
    ⊎_elim (λ (e : p ≡ q). rw e (u.0, u.1)) (under_pair n qs p u.2) (Memᴰ.cases_cons m)

-- pairs of places are ordered as the pairs of names
pub ascends_in : (ns : List Bytes) (ps : List (ℕ × ℕ)) → Ascending compare_bytes ns → Under (length ns) ps
    → ascends compare_pairs (map (pair_in ns) ps) ≡ ascends compare_places ps
unfolding compare_pairs compare_places
ascends_in ns ps a u =
    ascends_map compare_places compare_pairs (pair_in ns) ps
    (λ p q m k.
    let s = under_pair (length ns) ps p u m in
    let t = under_pair (length ns) ps q u k in
    rw (ascending_places bytes_order [] ns p.0 q.0 a s.0 t.0, ascending_places bytes_order [] ns p.1 q.1 a s.1 t.1))

pub places_in_lem : (ns : List Bytes) (ps : List (ℕ × ℕ)) → Ascending compare_bytes ns → Under (length ns) ps → map (places_in ns) (map (pair_in ns) ps) ≡ ps
unfolding Under
places_in_lem ns [] a u = refl
places_in_lem ns (p ∷ ps) a u = rw (place_of_name ns p.0 a u.0, place_of_name ns p.1 a u.1, places_in_lem ns ps a u.2)

pub in_places : (ns : List Bytes) (ps : List Pair) → ((x : Bytes) → Memᴰ x (pair_names ps) → Memᴰ x ns)
    → map (pair_in ns) (map (places_in ns) ps) ≡ ps
in_places ns [] h = refl
in_places ns (p ∷ ps) h =
    rw (
      (place_found p.from ns (h p.from (Memᴰ.head refl))).1,
      (place_found p.to ns (h p.to (Memᴰ.tail (Memᴰ.head refl)))).1,
      in_places ns ps (λ x m. h x (Memᴰ.tail (Memᴰ.tail m))),
    )
