-- A best path comes to no name twice, and all its names are names of the two records; so its bytes are at most 49,138.
use mathlib.Core.Path.{◌≡◌, refl, ap}
use mathlib.Core.Logic.{◌⊎◌, inl, inr, ⊎_elim}
use mathlib.Core.List.{List, [], ◌∷◌, ◌++◌, map, Memᴰ}
use Rattle.std.specs.Prelude.{Some}
use Prim.Native.Nat.{ℕ, suc, ◌+◌, ◌*◌, ◌≤◌, ◌<◌}
use native.Mathlib.Omega.{arith}
use lib.ListN.{length, length-append}
use Rattle.std.proofs.lemmas.List.Sums.{sum_by-cons}
use Rattle.model.specs.declared.Kind.{Kind}
use Rattle.model.specs.declared.Kind.TheVariants.{Subgraph, Translation}
use Rattle.model.specs.Bytes.{Bytes}
use Rattle.model.specs.Record.{Pair, GraphName, names, bodies, pair_names}
use Rattle.model.specs.Layout.{decode}
use Rattle.model.specs.Questions.{pairs_of}
use Rattle.model.specs.Path.{Step, path_bodies, path_bytes}
use Rattle.model.specs.Statements.{Relation, by_either, IsPath, Best}
use Rattle.text.proofs.Total.{total, Once, total_append, total_part}
use Rattle.record.proofs.Laws.{decoded}
use Rattle.record.proofs.Names.{own_listed, pair_listed}
use Rattle.record.proofs.Sizes.{judge_sizes}
use Rattle.path_bytes.proofs.PathBytes.{length_path}

-- the bytes that a name takes in a path: an entry and a body
abbrev weight : Bytes → ℕ
weight n = 4 + length n

weigh_bodies : (ns : List Bytes) → total weight ns ≡ 4 * length ns + length (bodies ns)
weigh_bodies [] = refl
weigh_bodies (n ∷ ns) = omega (arith, weigh_bodies ns, length-append n (bodies ns), sum_by-cons weight n ns)

-- ------------------------------------------------------------------ a shortest path comes to no name twice

abbrev nexts : List Step → List Bytes
nexts ss = map (λ (s : Step). s.next) ss

weigh_path : (a : Bytes) (ss : List Step) → total weight (a ∷ nexts ss) ≡ 4 + 4 * length ss + length (path_bodies a ss)
unfolding path_bodies
weigh_path a [] = omega arith
weigh_path a (s ∷ ss) =
    omega (arith, weigh_path s.next ss, length-append a (path_bodies s.next ss), sum_by-cons weight a (s.next ∷ nexts ss))

module _ (R : Relation) (b : Bytes) where
  -- what is left of a path after it comes to x
  after : (ss : List Step) (v x : Bytes) → IsPath R v ss b → Memᴰ x (nexts ss) → (ts : List Step) × IsPath R x ts b × (length ts < length ss)
  unfolding IsPath
  after [] v x p m = absurd (mathlib.Core.List.Memᴰ.not-nil m)
  after (s ∷ ss) v x p m = go (after ss s.next x p.1) (mathlib.Core.List.Memᴰ.cases_cons m)
    where
      go : (Memᴰ x (nexts ss) → (ts : List Step) × IsPath R x ts b × (length ts < length ss)) → (x ≡ s.next) ⊎ Memᴰ x (nexts ss)
          → (ts : List Step) × IsPath R x ts b × (length ts < suc (length ss))
      go further (inl e) = (ss, rw e p.1, omega arith)
      go further (inr w) = let r = further w in (r.0, r.1, omega (arith, r.2))

  shortest_once : (ss : List Step) (a : Bytes) → IsPath R a ss b → ((ts : List Step) → IsPath R a ts b → length ss ≤ length ts) → Once (a ∷ nexts ss)
  unfolding IsPath
  shortest_once [] a p h = ((λ m. mathlib.Core.List.Memᴰ.not-nil m), tt)
  shortest_once (s ∷ ss) a p h = (
    λ m. let r = after (s ∷ ss) a a p m in absurd (omega (arith, r.2, h r.0 r.1)),
    shortest_once ss s.next p.1 (λ ts q. omega (arith, h (s ∷ ts) (p.0, q))),
  )

  best_shortest : (a : Bytes) (ss : List Step) → Best R a ss b → (ts : List Step) → IsPath R a ts b → length ss ≤ length ts
  best_shortest a ss q ts p =
      ⊎_elim (λ (e : ts ≡ ss). omega (arith, ap length e)) (λ w. ⊎_elim (λ (l : length ss < length ts). omega arith) (λ l. omega (arith, l.0)) w) (q.first ts p)

-- ------------------------------------------------------------------ its names are names of the two records

to_listed : (ps : List Pair) (p : Pair) → Memᴰ p ps → Memᴰ p.to (pair_names ps)
to_listed [] p m = absurd (mathlib.Core.List.Memᴰ.not-nil m)
to_listed (q ∷ ps) p m = go (to_listed ps p) (mathlib.Core.List.Memᴰ.cases_cons m)
  where
    go : (Memᴰ p ps → Memᴰ p.to (pair_names ps)) → (p ≡ q) ⊎ Memᴰ p ps → Memᴰ p.to (q.from ∷ q.to ∷ pair_names ps)
    go further (inl e) = mathlib.Core.List.Memᴰ.tail (mathlib.Core.List.Memᴰ.head (ap (λ (x : Pair). x.to) e))
    go further (inr w) = mathlib.Core.List.Memᴰ.tail (mathlib.Core.List.Memᴰ.tail (further w))

module _ (g h : GraphName) where
  of_either : (k : Kind) (p : Pair) → Memᴰ p (pairs_of k g) ⊎ Memᴰ p (pairs_of k h) → Memᴰ p.to (names g ++ names h)
  of_either k p m =
      ⊎_elim
      (λ (w : Memᴰ p (pairs_of k g)). mathlib.Core.List.Memᴰ.append_left (names h) (pair_listed g k p.to (to_listed (pairs_of k g) p w)))
      (λ (w : Memᴰ p (pairs_of k h)). mathlib.Core.List.Memᴰ.append_right (names g) (pair_listed h k p.to (to_listed (pairs_of k h) p w)))
      m

  leads_to : (k : Kind) (a n : Bytes) → by_either g h k a n → Memᴰ n (names g ++ names h)
  leads_to Subgraph a n m = of_either Subgraph (record { from = a; to = n }) m
  leads_to Translation a n m = of_either Translation (record { from = a; to = n }) m

  path_listed : (b : Bytes) (ss : List Step) (a : Bytes) → IsPath (by_either g h) a ss b → (y : Bytes) → Memᴰ y (nexts ss) → Memᴰ y (names g ++ names h)
  unfolding IsPath
  path_listed b [] a p y m = absurd (mathlib.Core.List.Memᴰ.not-nil m)
  path_listed b (s ∷ ss) a p y m =
      ⊎_elim
      (λ (e : y ≡ s.next). mathlib.Core.List.Memᴰ.cast e (leads_to s.kind a s.next p.0))
      (λ (w : Memᴰ y (nexts ss)). path_listed b ss s.next p.1 y w)
      (mathlib.Core.List.Memᴰ.cases_cons m)

  pub best_fits : (b c a e : Bytes) (ss : List Step) → decode b ≡ Some g → decode c ≡ Some h → g.name ≡ Some a → Best (by_either g h) a ss e → length (path_bytes a ss) ≤ 49152
  best_fits b c a e ss d f n q =
      let s = judge_sizes g (decoded b g d).0.sizes in
      let t = judge_sizes h (decoded c h f).0.sizes in
      let own : Memᴰ a (names g ++ names h) = mathlib.Core.List.Memᴰ.append_left (names h) (own_listed g a (rw n (mathlib.Core.List.Memᴰ.head refl))) in
      let all : (y : Bytes) → Memᴰ y (a ∷ nexts ss) → Memᴰ y (names g ++ names h) =
      λ y m. ⊎_elim (λ (w : y ≡ a). mathlib.Core.List.Memᴰ.cast w own) (λ (w : Memᴰ y (nexts ss)). path_listed e ss a q.path y w) (mathlib.Core.List.Memᴰ.cases_cons m) in
      let l = total_part weight (a ∷ nexts ss) (names g ++ names h) (shortest_once (by_either g h) e ss a q.path (best_shortest (by_either g h) e a ss q)) all in
      omega (arith, l, total_append weight (names g) (names h), weigh_bodies (names g), weigh_bodies (names h), weigh_path a ss, length_path a ss, s.count, s.room, t.count, t.room)
