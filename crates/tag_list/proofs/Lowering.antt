-- Keys with their capitals lowered: as long as before, fit to be stored, and unchanged where they are stored.
use mathlib.Core.Path.{◌≡◌, refl, ap}
use mathlib.Core.Bool.{Bool, true, false, cond, not}
use mathlib.Core.List.{[], ◌∷◌}
use Prim.Native.Nat.{ℕ, ◌+◌}
use native.Mathlib.Omega.{arith}
use lib.ListN.{length}
use lib.Dec.{leb}
use borrow.Author.Tests.{leb-true, le-leb, lt-leb, not-true}
use Rattle.std.proofs.lemmas.Bool.{and_parts}
use Rattle.model.specs.Bytes.{Bytes, every_byte}
use Rattle.model.specs.TagList.{max_key, capital, lower, key_byte, fine_key, stored_byte, stored_key}

pub length_lower : (k : Bytes) → length (lower k) ≡ length k
unfolding lower
length_lower [] = refl
length_lower (x ∷ xs) = omega (arith, length_lower xs)

lowered_byte : (x : ℕ) → key_byte x ≡ true → stored_byte (cond (capital x) (x + 32) x) ≡ true
lowered_byte x f = go (capital x) refl
  where
    go : (c : Bool) → capital x ≡ c → stored_byte (cond c (x + 32) x) ≡ true
    go true e =
        let p = and_parts (leb 65 x) (leb x 90) e in
        let l = leb-true 65 x p.0 in
        let h = leb-true x 90 p.1 in
        rw (le-leb (x + 32) 127 (omega arith), le-leb 65 (x + 32) (omega arith), lt-leb (x + 32) 90 (omega arith))
    go false e = rw (f, e)

lowered_bytes : (k : Bytes) → every_byte key_byte k ≡ true → every_byte stored_byte (lower k) ≡ true
unfolding every_byte lower
lowered_bytes [] f = refl
lowered_bytes (x ∷ xs) f =
    let p = and_parts (key_byte x) (every_byte key_byte xs) f in
    rw (lowered_byte x p.0) (lowered_bytes xs p.1)

stored_bytes_fine : (k : Bytes) → every_byte stored_byte k ≡ true → every_byte key_byte k ≡ true
unfolding every_byte
stored_bytes_fine [] s = refl
stored_bytes_fine (x ∷ xs) s =
    let p = and_parts (stored_byte x) (every_byte stored_byte xs) s in
    rw (and_parts (leb x 127) (not (capital x)) p.0).0 (stored_bytes_fine xs p.1)

stored_bytes_same : (k : Bytes) → every_byte stored_byte k ≡ true → lower k ≡ k
unfolding every_byte lower
stored_bytes_same [] s = refl
stored_bytes_same (x ∷ xs) s =
    let p = and_parts (stored_byte x) (every_byte stored_byte xs) s in
    let n = not-true (capital x) (and_parts (leb x 127) (not (capital x)) p.0).1 in
    rw n (ap (◌∷◌ x) (stored_bytes_same xs p.1))

pub lower_stored : (k : Bytes) → fine_key k ≡ true → stored_key (lower k) ≡ true
unfolding fine_key stored_key
lower_stored k f =
    let p = and_parts (leb (length k) max_key) (every_byte key_byte k) f in
    rw (length_lower k, p.0) (lowered_bytes k p.1)

pub lower_same : (k : Bytes) → stored_key k ≡ true → lower k ≡ k
unfolding stored_key
lower_same k s = stored_bytes_same k (and_parts (leb (length k) max_key) (every_byte stored_byte k) s).1

pub stored_fine : (k : Bytes) → stored_key k ≡ true → fine_key k ≡ true
unfolding fine_key stored_key
stored_fine k s =
    let p = and_parts (leb (length k) max_key) (every_byte stored_byte k) s in
    rw p.0 (stored_bytes_fine k p.1)
