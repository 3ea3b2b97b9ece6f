-- Places after a name came in: each goes up by one from that name's place on, so that it still is the place of the same name, and the
-- order of the pairs stays.
use mathlib.Core.Path.{◌≡◌, refl, ap, ap₂, ◌∙◌}
use mathlib.Core.Logic.{◌⊎◌, inl, inr, ⊎_elim}
use mathlib.Core.Bool.{Bool, true, false, cond}
use mathlib.Core.List.Memᴰ
use mathlib.Core.List.{List, [], ◌∷◌, ◌++◌, map, Memᴰ}
use Prim.Native.Nat.{ℕ, ◌+◌, ◌-◌, ◌*◌, ◌/◌, ◌%◌, ◌≤◌, ◌<◌}
use native.Mathlib.Omega.{arith}
use native.Mathlib.Nat.{add-zero}
use lib.ListN.{length, take, drop, get_or, length-map}
use lib.Seq.{length-take-le}
use lib.Dec.{leb, ltb}
use borrow.Author.Tests.{leb-true, leb-false, ltb-true, ltb-false}
use Rattle.std.specs.declared.cmp.Ordering.{Ordering}
use Rattle.std.specs.declared.cmp.Ordering.TheVariants.{Less, Equal, Greater}
use Rattle.model.specs.Bytes.{Bytes, by_order, compare_numbers}
use Rattle.model.specs.Statements.{Ascending}
use Rattle.record.specs.Test.{Under}
use Rattle.record.specs.Coded.{name_in, pair_in}
use Rattle.text.proofs.Order.{less_numbers, equal_numbers, greater_numbers, compared_numbers}
use Rattle.text.proofs.Ascending.{ascends_true}
use Rattle.text.proofs.Places.{ascends_map, get_or_member}
use Rattle.std.specs.List.{insert as inserted}
use Rattle.std.proofs.lemmas.List.{get_or-append_right, get_or-drop}
use Rattle.std.proofs.lemmas.List.Edits.{get_or-insert_below, get_or-insert_above}
use Rattle.sorted.specs.Sorted.{above, renumbered}
use Rattle.sorted.specs.Tables.{places_of}

-- a place after a name came in at place p
abbrev pub raised : ℕ → ℕ → ℕ
raised p q = q + above p q

-- n is what q goes up by, by cases
abbrev Raises : ℕ → ℕ → ℕ → Type 0
Raises p q n = ((p ≤ q) × (n ≡ 1)) ⊎ ((q < p) × (n ≡ 0))

raises : (p q : ℕ) → Raises p q (above p q)
raises p q = go (leb p q) refl
  where
    go : (t : Bool) → leb p q ≡ t → Raises p q (cond t 1 0)
    go true e = inl (leb-true p q e, refl)
    go false e = inr (leb-false p q e, refl)

pub above_le : (p q : ℕ) → above p q ≤ 1
above_le p q = ⊎_elim (λ (e : (p ≤ q) × (above p q ≡ 1)). omega arith) (λ (e : (q < p) × (above p q ≡ 0)). omega arith) (raises p q)

raised_less : (p q r : ℕ) → q < r → raised p q < raised p r
raised_less p q r h = go (raises p q) (raises p r)
  where
    go : Raises p q (above p q) → Raises p r (above p r) → raised p q < raised p r
    go (inl a) (inl b) = omega arith
    go (inl a) (inr b) = omega arith
    go (inr a) (inl b) = omega arith
    go (inr a) (inr b) = omega arith

-- ------------------------------------------------------------------ one number

-- both places of a number are below n
abbrev pub Small : ℕ → ℕ → Type 0
Small n x = (x / 65536 < n) × (x % 65536 < n)

quotient : (x a b : ℕ) → x % 65536 + b < 65536 → (x + 65536 * a + b) / 65536 ≡ x / 65536 + a
quotient x a b h = omega arith

remainder : (x a b : ℕ) → x % 65536 + b < 65536 → (x + 65536 * a + b) % 65536 ≡ x % 65536 + b
remainder x a b h = omega arith

pub renumbered_places : (p x : ℕ) → Small 65535 x → places_of (renumbered p x) ≡ (raised p (x / 65536), raised p (x % 65536))
unfolding renumbered
renumbered_places p x s =
    let h = above_le p (x % 65536) in
    rw (quotient x (above p (x / 65536)) (above p (x % 65536)) (omega arith), remainder x (above p (x / 65536)) (above p (x % 65536)) (omega arith))

renumbered_less : (p x y : ℕ) → Small 65535 x → Small 65535 y → x < y → renumbered p x < renumbered p y
renumbered_less p x y s t h =
    let e = ap (λ (z : ℕ × ℕ). z.0) (renumbered_places p x s) in
    let f = ap (λ (z : ℕ × ℕ). z.1) (renumbered_places p x s) in
    let g = ap (λ (z : ℕ × ℕ). z.0) (renumbered_places p y t) in
    let k = ap (λ (z : ℕ × ℕ). z.1) (renumbered_places p y t) in
    go (ltb (x / 65536) (y / 65536)) refl e f g k
  where
    go : (b : Bool) → ltb (x / 65536) (y / 65536) ≡ b → renumbered p x / 65536 ≡ raised p (x / 65536) → renumbered p x % 65536 ≡ raised p (x % 65536)
        → renumbered p y / 65536 ≡ raised p (y / 65536) → renumbered p y % 65536 ≡ raised p (y % 65536) → renumbered p x < renumbered p y
    go true d e f g k = let u = raised_less p (x / 65536) (y / 65536) (ltb-true _ _ d) in omega arith
    go false d e f g k =
        let same : x / 65536 ≡ y / 65536 = omega (arith, ltb-false (x / 65536) (y / 65536) d) in
        let also = ap (raised p) same in
        let u = raised_less p (x % 65536) (y % 65536) (omega arith) in
        omega arith

-- numbers that are ordered alike compare alike
pub compare_alike : (m n x y : ℕ) → (m < n → x < y) → (n < m → y < x) → (m ≡ n → x ≡ y) → compare_numbers x y ≡ compare_numbers m n
compare_alike m n x y l g e = go (compare_numbers m n) refl (compared_numbers m n)
  where
    go : (o : Ordering) → compare_numbers m n ≡ o → by_order (compare_numbers m n) (m < n) (m ≡ n) (n < m) → compare_numbers x y ≡ o
    go Less d c = less_numbers x y (l (rw d at c))
    go Equal d c = rw (e (rw d at c)) (equal_numbers y)
    go Greater d c = greater_numbers x y (g (rw d at c))

renumbered_compare : (p x y : ℕ) → Small 65535 x → Small 65535 y → compare_numbers (renumbered p x) (renumbered p y) ≡ compare_numbers x y
renumbered_compare p x y s t = compare_alike x y _ _ (renumbered_less p x y s t) (renumbered_less p y x t s) (ap (renumbered p))

-- ------------------------------------------------------------------ all of a table

pub small_member : (n : ℕ) (xs : List ℕ) (x : ℕ) → Under n (map places_of xs) → Memᴰ x xs → Small n x
unfolding Under
small_member n [] x u m = absurd (Memᴰ.not-nil m)
small_member n (y ∷ ys) x u m = ⊎_elim (λ (e : x ≡ y). rw e (u.0, u.1)) (small_member n ys x u.2) (Memᴰ.cases_cons m)

-- so are those of a number that is not renumbered yet, while those before it are
pub small_next : (p i : ℕ) (xs ys : List ℕ) → Under 65535 (map places_of xs) → i < length xs → ys ≡ map (renumbered p) (take i xs) ++ drop i xs
    → Small 65535 (get_or ys i 0)
small_next p i xs ys u h e =
    let l = length-take-le i xs (omega arith) in
    let n : length (map (renumbered p) (take i xs)) ≡ i = length-map (take i xs) (renumbered p) ∙ l in
    let z : i + (i - i) ≡ i = omega arith in
    rw (e, get_or-append_right (map (renumbered p) (take i xs)) (drop i xs) i i 0 n (omega arith), get_or-drop, z)
    (small_member 65535 xs (get_or xs i 0) u (get_or_member 0 xs i h))

pub renumbered_ascending : (p : ℕ) (xs : List ℕ) → Under 65535 (map places_of xs) → Ascending compare_numbers xs
    → Ascending compare_numbers (map (renumbered p) xs)
renumbered_ascending p xs u a =
    (ascends_true compare_numbers (map (renumbered p) xs)).0
    (ascends_map compare_numbers compare_numbers (renumbered p) xs (λ x y m k. renumbered_compare p x y (small_member _ xs x u m) (small_member _ xs y u k))
    ∙ (ascends_true compare_numbers xs).1 a)

raised_le : (p q : ℕ) → raised p q ≤ q + 1
raised_le p q = omega (arith, above_le p q)

pub renumbered_under : (p n : ℕ) (xs : List ℕ) → n < 65536 → Under n (map places_of xs) → Under (n + 1) (map places_of (map (renumbered p) xs))
unfolding Under
renumbered_under p n [] h u = tt
renumbered_under p n (x ∷ xs) h u =
    let s = raised_le p (x / 65536) in
    let t = raised_le p (x % 65536) in
    let e = renumbered_places p x (omega arith, omega arith) in (
      rw (ap (λ (z : ℕ × ℕ). z.0) e) (omega arith),
      rw (ap (λ (z : ℕ × ℕ). z.1) e) (omega arith),
      renumbered_under p n xs h u.2,
    )

-- the name at the new place is the name that stood at the old one
pub name_raised : (a : Bytes) (p : ℕ) (ns : List Bytes) (q : ℕ) → p ≤ length ns → name_in (inserted ns p a) (raised p q) ≡ name_in ns q
name_raised a p ns q h =
    ⊎_elim
    (λ (c : (p ≤ q) × (above p q ≡ 1)). rw c.1 (get_or-insert_above ns p a [] q c.0 h))
    (λ (c : (q < p) × (above p q ≡ 0)). rw (c.1, add-zero q) (get_or-insert_below ns p a [] q c.0 h))
    (raises p q)

pub renumbered_pairs : (a : Bytes) (p n : ℕ) (ns : List Bytes) (xs : List ℕ) → p ≤ length ns → n < 65536 → Under n (map places_of xs)
    → map (pair_in (inserted ns p a)) (map places_of (map (renumbered p) xs)) ≡ map (pair_in ns) (map places_of xs)
unfolding Under
renumbered_pairs a p n ns [] h k u = refl
renumbered_pairs a p n ns (x ∷ xs) h k u =
    let e = renumbered_places p x (omega arith, omega arith) in
    ap₂ ◌∷◌ (ap (pair_in (inserted ns p a)) e ∙ (λ i. record { from = name_raised a p ns (x / 65536) h i; to = name_raised a p ns (x % 65536) h i }))
    (renumbered_pairs a p n ns xs h k u.2)
