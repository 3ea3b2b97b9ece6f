-- The sizes that a graph name is judged by, each by name; and names that are all short.
use mathlib.Core.Path.{◌≡◌, refl, ap}
use mathlib.Core.Logic.{◌↔◌, ⊎_elim}
use mathlib.Core.Bool.{Bool, true, false, cond}
use mathlib.Core.List.Memᴰ
use mathlib.Core.List.{List, [], ◌∷◌, Memᴰ}
use Prim.Native.Nat.{ℕ, ◌≤◌, ◌<◌}
use native.Mathlib.Omega.{arith}
use lib.ListN.{length}
use lib.Dec.{lit<, ltb}
use borrow.Author.Tests.{ltb-false, le-ltb}
use Rattle.std.proofs.lemmas.Bool.{or_parts}
use Rattle.model.specs.Bytes.{Bytes}
use Rattle.model.specs.Record.{GraphName, names, any_long, bodies, judge, max_name_bytes, max_names, max_pairs, max_bodies_bytes}

pub record Sizes (g : GraphName) : Type 0 where
  pub short : any_long (names g) ≡ false
  pub count : length (names g) ≤ max_names
  pub subgraphs : length g.subgraph ≤ max_pairs
  pub translations : length g.translation ≤ max_pairs
  pub room : length (bodies (names g)) ≤ max_bodies_bytes

-- where a choice is 0 and its first number is not, the test failed
second : (m : ℕ) (t : Bool) (n : ℕ) → 0 < m → cond t m n ≡ 0 → (t ≡ false) × (n ≡ 0)
second m true n h e = absurd (omega arith)
second m false n h e = (refl, e)

pub judge_sizes : (g : GraphName) → judge g ≡ 0 → Sizes g
unfolding judge
judge_sizes g e =
    let (short, more) = second 11 _ _ (lit< tt) e in
    let (count, more) = second 12 _ _ (lit< tt) more in
    let (pairs, more) = second 13 _ _ (lit< tt) more in
    let (room, more) = second 14 _ _ (lit< tt) more in
    let (subgraphs, translations) = or_parts _ _ pairs in
    record {
      short = short;
      count = ltb-false max_names (length (names g)) count;
      subgraphs = ltb-false max_pairs (length g.subgraph) subgraphs;
      translations = ltb-false max_pairs (length g.translation) translations;
      room = ltb-false max_bodies_bytes (length (bodies (names g))) room;
    }

pub sizes_judge : (g : GraphName) → Sizes g → judge g ≡ 0
unfolding judge
sizes_judge g s =
    rw (
      s.short,
      le-ltb max_names (length (names g)) s.count,
      le-ltb max_pairs (length g.subgraph) s.subgraphs,
      le-ltb max_pairs (length g.translation) s.translations,
      le-ltb max_bodies_bytes (length (bodies (names g))) s.room,
    )

pub short_names : (ns : List Bytes) → any_long ns ≡ false ↔ ((n : Bytes) → Memᴰ n ns → length n ≤ max_name_bytes)
short_names [] = (λ e n m. absurd (Memᴰ.not-nil m), λ h. refl)
short_names (x ∷ xs) = (
  λ e n m.
      let p : (ltb max_name_bytes (length x) ≡ false) × (any_long xs ≡ false) = or_parts _ _ e in
      ⊎_elim (λ (d : n ≡ x). omega (arith, ltb-false max_name_bytes (length x) p.0, ap length d)) ((short_names xs).0 p.1 n) (Memᴰ.cases_cons m),
  λ h. rw (le-ltb max_name_bytes (length x) (h x (Memᴰ.head refl)), (short_names xs).1 (λ n m. h n (Memᴰ.tail m))),
)
