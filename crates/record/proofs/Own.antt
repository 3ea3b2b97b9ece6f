-- The own name that a buffer shows, by its number: none for 0, else the name at the place before.
use mathlib.Core.Path.{◌≡◌, refl}
use mathlib.Core.Bool.{true, false}
use Rattle.std.specs.Prelude.{Option, Some, None}
use Rattle.std.specs.Option.{option_map}
use Prim.Native.Nat.{ℕ, zero, suc, ◌<◌}
use native.Mathlib.Omega.{arith}
use Rattle.model.specs.Bytes.{Bytes}
use Rattle.model.specs.Layout.{own_number, name_at, own_at, shown}
use Rattle.model.specs.Opening.{is_some}
use Rattle.model.specs.Outcome.{name_or}
use Rattle.record.specs.Reader.{place_numbered}

-- the name at the own place, if there is one
pub own_shown : (b : Bytes) → (shown b).name ≡ option_map (name_at b) (place_numbered (own_number b))
unfolding shown
own_shown b = go (own_number b)
  where
    go : (i : ℕ) → own_at b i ≡ option_map (name_at b) (place_numbered i)
    go zero = refl
    go (suc i) = refl

-- there is none for the number 0, and one for any other
pub none_shown : (b : Bytes) → own_number b ≡ 0 → false ≡ is_some (shown b).name
none_shown b e = rw (own_shown b, e) refl

pub one_shown : (b : Bytes) → 0 < own_number b → true ≡ is_some (shown b).name
one_shown b h = rw (own_shown b) (go (own_number b) h)
  where
    go : (n : ℕ) → 0 < n → true ≡ is_some (option_map (name_at b) (place_numbered n))
    go zero k = absurd (omega (arith, k))
    go (suc i) k = refl

-- the number of a place is one more
pub number_placed : (n i : ℕ) → place_numbered n ≡ Some i → n ≡ suc i
number_placed zero i e = absurd cc
number_placed (suc j) i e = cc

-- a name that is there, and one that is not
pub named : (o : Option Bytes) → is_some o ≡ true → o ≡ Some (name_or o)
named None e = let k : ◌≡◌ {A = ℕ} 0 1 = cc in absurd (omega arith)
named (Some n) e = refl

pub unnamed : (o : Option Bytes) → is_some o ≡ false → o ≡ None
unnamed None e = refl
unnamed (Some n) e = let k : ◌≡◌ {A = ℕ} 0 1 = cc in absurd (omega arith)
