-- The numbers that two byte strings spell, the greatest byte first, are in the order of the strings, and decide before what follows.
use mathlib.Core.Path.{◌≡◌, refl, sym, ap, ◌∙◌}
use mathlib.Core.Logic.{◌≢◌}
use mathlib.Core.List.{[], ◌∷◌}
use Prim.Native.Nat.{ℕ, zero, suc, ◌+◌, ◌*◌, ◌≤◌, ◌<◌}
use native.Mathlib.Omega.{arith}
use lib.ListN.{length, get_or, take, drop, length-take}
use Rattle.std.specs.Array.{IsFirstChunk}
use Rattle.std.specs.Ordering.{nat_cmp}
use Rattle.std.specs.Int.{w64, from_be_bytes}
use Rattle.std.specs.Slice.Scan.{big_endian}
use Rattle.std.specs.declared.cmp.Ordering.{Ordering}
use Rattle.std.specs.declared.cmp.Ordering.TheVariants.{Less, Equal, Greater}
use Rattle.model.specs.Bytes.{Bytes, by_order, then_by, compare_numbers, compare_bytes}
use Rattle.text.proofs.Order.{less_numbers, equal_numbers, greater_numbers, compared_numbers}

then_assoc : (o p q : Ordering) → then_by (then_by o p) q ≡ then_by o (then_by p q)
then_assoc Less p q = refl
then_assoc Equal p q = refl
then_assoc Greater p q = refl

-- numbers that differ leave nothing to what follows
then_apart : (p q : ℕ) (o : Ordering) → p ≢ q → then_by (compare_numbers p q) o ≡ compare_numbers p q
then_apart p q o apart = go (compare_numbers p q) (compared_numbers p q)
  where
    go : (r : Ordering) → by_order r (p < q) (p ≡ q) (q < p) → then_by r o ≡ r
    go Less h = refl
    go Equal h = absurd (apart h)
    go Greater h = refl

-- one more byte at the end of each
digit_order : (a b x y : ℕ) → x < 256 → y < 256 → compare_numbers (a * 256 + x) (b * 256 + y) ≡ then_by (compare_numbers a b) (compare_numbers x y)
digit_order a b x y small_x small_y = high (compare_numbers a b) refl (compared_numbers a b)
  where
    low : (o : Ordering) → compare_numbers x y ≡ o → by_order o (x < y) (x ≡ y) (y < x) → a ≡ b → compare_numbers (a * 256 + x) (b * 256 + y) ≡ o
    low Less e h s = less_numbers _ _ (omega arith)
    low Equal e h s = rw (h, s) (equal_numbers (b * 256 + y))
    low Greater e h s = greater_numbers _ _ (omega arith)

    high : (o : Ordering) → compare_numbers a b ≡ o → by_order o (a < b) (a ≡ b) (b < a) → compare_numbers (a * 256 + x) (b * 256 + y) ≡ then_by o (compare_numbers x y)
    high Less e h = less_numbers _ _ (omega arith)
    high Equal e h = low (compare_numbers x y) refl (compared_numbers x y) h
    high Greater e h = greater_numbers _ _ (omega arith)

-- the first n bytes as numbers, behind a and b, and then the others
pub spelled_order : (n a b : ℕ) (s t : Bytes) → n ≤ length s → n ≤ length t → ((k : ℕ) → get_or s k 0 < 256) → ((k : ℕ) → get_or t k 0 < 256)
    → then_by (compare_numbers (big_endian a (take n s)) (big_endian b (take n t))) (compare_bytes (drop n s) (drop n t)) ≡ then_by (compare_numbers a b) (compare_bytes s t)
unfolding compare_bytes
spelled_order zero a b s t long_s long_t small_s small_t = refl
spelled_order (suc n) a b [] t long_s long_t small_s small_t = absurd (omega arith)
spelled_order (suc n) a b (x ∷ s) [] long_s long_t small_s small_t = absurd (omega arith)
spelled_order (suc n) a b (x ∷ s) (y ∷ t) long_s long_t small_s small_t =
    spelled_order n (a * 256 + x) (b * 256 + y) s t (omega arith) (omega arith) (λ k. small_s (suc k)) (λ k. small_t (suc k))
    ∙ ap (λ o. then_by o (compare_bytes s t)) (digit_order a b x y (small_s 0) (small_t 0))
    ∙ then_assoc (compare_numbers a b) (compare_numbers x y) (compare_bytes s t)

pub eight_spelled : (s : Bytes) → length s ≡ 8 → from_be_bytes w64 s ≡ big_endian 0 s
eight_spelled [] l = absurd (omega arith)
eight_spelled (a ∷ []) l = absurd (omega arith)
eight_spelled (a ∷ b ∷ []) l = absurd (omega arith)
eight_spelled (a ∷ b ∷ c ∷ []) l = absurd (omega arith)
eight_spelled (a ∷ b ∷ c ∷ d ∷ []) l = absurd (omega arith)
eight_spelled (a ∷ b ∷ c ∷ d ∷ e ∷ []) l = absurd (omega arith)
eight_spelled (a ∷ b ∷ c ∷ d ∷ e ∷ f ∷ []) l = absurd (omega arith)
eight_spelled (a ∷ b ∷ c ∷ d ∷ e ∷ f ∷ g ∷ []) l = absurd (omega arith)
eight_spelled (a ∷ b ∷ c ∷ d ∷ e ∷ f ∷ g ∷ h ∷ []) l = omega arith
eight_spelled (a ∷ b ∷ c ∷ d ∷ e ∷ f ∷ g ∷ h ∷ x ∷ s) l = absurd (omega arith)

-- numbers that differ, read from the first eight bytes
pub fronts_order : (s t : Bytes) {p q : ℕ} {x y : Bytes} → ((k : ℕ) → get_or s k 0 < 256) → ((k : ℕ) → get_or t k 0 < 256) → IsFirstChunk s x 8 → IsFirstChunk t y 8
    → p ≡ from_be_bytes w64 x → q ≡ from_be_bytes w64 y → p ≢ q → nat_cmp p q ≡ compare_bytes s t
unfolding compare_bytes compare_numbers
fronts_order s t {p} {q} {x} {y} small_s small_t f g ps qs apart =
    let long_s = f.enough in
    let long_t = g.enough in
    let a : p ≡ big_endian 0 (take 8 s) = ps ∙ ap (from_be_bytes w64) f.same ∙ eight_spelled (take 8 s) (omega (arith, length-take 8 s)) in
    let b : q ≡ big_endian 0 (take 8 t) = qs ∙ ap (from_be_bytes w64) g.same ∙ eight_spelled (take 8 t) (omega (arith, length-take 8 t)) in
    sym (then_apart p q (compare_bytes (drop 8 s) (drop 8 t)) apart) ∙ rw (a, b) (spelled_order 8 0 0 s t long_s long_t small_s small_t)
