-- Keys as the tests of std have their bytes: what may come, what may be stored, and capitals lowered.
use mathlib.Core.Path.{◌≡◌, refl, ap, ap₂, ◌∙◌}
use mathlib.Core.Bool.{Bool, true, false, cond, ◌&&◌}
use mathlib.Core.List.{[], ◌∷◌, map}
use Prim.Native.Nat.{ℕ, zero, suc, ◌+◌, ◌≤◌, ◌<◌}
use native.Mathlib.Omega.{arith}
use lib.ListN.{length, take, get_or, length-map}
use lib.Seq.{length-take-le}
use lib.Dec.{leb}
use borrow.Author.Tests.{leb-true, le-leb, lt-leb}
use Rattle.std.specs.Bool.{MatchBool}
use Rattle.std.specs.Char.{to_ascii_lowercase}
use Rattle.std.specs.List.{list_all}
use Rattle.std.specs.Str.{IsAscii, IsNotAscii}
use Rattle.std.proofs.lemmas.Bool.Decides.{nat_tests}
use Rattle.std.proofs.lemmas.Bool.{and_parts}
use Rattle.std.proofs.lemmas.List.{take_all}
use Rattle.std.specs.Prelude.{Ok, Err}
use Rattle.model.specs.declared.fault.Fault.TheVariants.{BadKey}
use Rattle.model.specs.Bytes.{Bytes, every_byte}
use Rattle.model.specs.TagList.{max_key, capital, key_byte, stored_byte, lower, fine_key, stored_key}
use Rattle.model.specs.TagOutcome.{ready_key}

every_all : (is_of : ℕ → Bool) (k : Bytes) → list_all is_of k ≡ every_byte is_of k
unfolding every_byte
every_all is_of [] = refl
every_all is_of (x ∷ xs) = rw (every_all is_of xs)

-- no byte above 127, one by one
every_ascii : (k : Bytes) → IsAscii k → every_byte key_byte k ≡ true
unfolding every_byte
every_ascii [] h = refl
every_ascii (x ∷ xs) h = rw (le-leb x 127 (omega (arith, h 0)), every_ascii xs (λ i. h (suc i)))

some_above : (k : Bytes) (i : ℕ) → 128 ≤ get_or k i 0 → every_byte key_byte k ≡ false
unfolding every_byte
some_above [] i h = absurd (omega arith)
some_above (x ∷ xs) zero h = rw (lt-leb x 127 (omega arith))
some_above (x ∷ xs) (suc i) h = rw (some_above xs i h) (go (key_byte x))
  where
    go : (t : Bool) → t && false ≡ false
    go true = refl
    go false = refl

-- ------------------------------------------------------------------ a key that may come, and one that is stored

module _ (k : Bytes) where
  pub fine_long : max_key < length k → leb (length k) max_key ≡ fine_key k
  unfolding fine_key
  fine_long h = rw (lt-leb (length k) max_key h)

  pub fine_short : length k ≤ max_key → (r : Bool) → MatchBool r (IsAscii k) (IsNotAscii k) → r ≡ fine_key k
  unfolding fine_key
  fine_short h true m = rw (le-leb (length k) max_key h, every_ascii k m)
  fine_short h false m = rw (le-leb (length k) max_key h, some_above k m.0 m.1)

  pub stored_long : max_key < length k → leb (length k) max_key ≡ stored_key k
  unfolding stored_key
  stored_long h = rw (lt-leb (length k) max_key h)

  pub stored_short : length k ≤ max_key → list_all stored_byte k ≡ stored_key k
  unfolding stored_key
  stored_short h = rw (le-leb (length k) max_key h) (every_all stored_byte k)

pub ruleset fine = (fine_long, fine_short)

-- a key that may come is short
pub fine_length : (k : Bytes) → fine_key k ≡ true → length k ≤ max_key
unfolding fine_key
fine_length k e = leb-true (length k) max_key (and_parts (leb (length k) max_key) (every_byte key_byte k) e).0

-- ------------------------------------------------------------------ lowering

lowered_byte : (x : ℕ) → to_ascii_lowercase x ≡ cond (capital x) (x + 32) x
lowered_byte x = grind (arith, nat_tests)

pub lower_map : (k : Bytes) → map to_ascii_lowercase k ≡ lower k
unfolding lower
lower_map [] = refl
lower_map (x ∷ xs) = ap₂ ◌∷◌ (lowered_byte x) (lower_map xs)

-- ------------------------------------------------------------------ a key made ready

module _ (k : Bytes) where
  pub key_refused : fine_key k ≡ false → ready_key k ≡ Err BadKey
  unfolding ready_key
  key_refused e = rw e

  pub key_ready : fine_key k ≡ true → ready_key k ≡ Ok (lower k)
  unfolding ready_key
  key_ready e = rw e

-- the key of which the first i bytes are lowered
module _ (k o : Bytes) (i : ℕ) (lowered : o ≡ map to_ascii_lowercase (take i k)) (f : fine_key k ≡ true) where
  pub lowered_room : i < length k → length o < max_key
  lowered_room h =
      let l : length o ≡ i = ap length lowered ∙ length-map (take i k) to_ascii_lowercase ∙ length-take-le i k (omega arith) in
      omega (arith, fine_length k f)

  pub lowered_ready : length k ≤ i → Ok o ≡ ready_key k
  lowered_ready h = rw (key_ready k f, lowered, take_all i k h, lower_map k)

pub ruleset ready = (key_refused, fine_length)
