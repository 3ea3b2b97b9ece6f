-- Opening buffers: what is wrong with them is what the change is refused for, and where nothing is wrong it is made of what they show.
-- And names that are empty.
use mathlib.Core.Path.{◌≡◌, refl}
use Rattle.std.specs.Prelude.{Ok, Err}
use Rattle.model.specs.declared.fault.Fault.{Fault}
use mathlib.Core.Bool.{true, false}
use mathlib.Core.List.{[], ◌∷◌}
use native.Mathlib.Omega.{arith}
use lib.ListN.{length}
use Rattle.model.specs.Bytes.{Bytes, is_empty}
use Rattle.model.specs.Record.{GraphName}
use Rattle.model.specs.Layout.{shown, decode}
use Rattle.model.specs.Opening.{is_some, opened, record_in, check_of, check_of_both}
use Rattle.model.specs.Outcome.{Outcome, or_left, change_from}
use Rattle.tables.specs.Judging.{outcome}
use Rattle.record.proofs.Opening.{IsRecord, record_refused, record_opened, two_refused, two_opened}

is_some_lem : (b : Bytes) → IsRecord b → is_some (decode b) ≡ true
is_some_lem b r = rw r.decoded

module _ (b : Bytes) (f : GraphName → Outcome) where
  pub opened_refused : (e : Fault) → check_of b ≡ Err e → or_left b (opened (record_in b)) f ≡ outcome (Err e) b
  opened_refused e n = rw (record_refused b e n)

  pub opened_done : check_of b ≡ Ok tt → (is_some (decode b) ≡ true) × (or_left b (opened (record_in b)) f ≡ f (shown b))
  opened_done z = let r = record_opened b z in (is_some_lem b r.0, rw r.1)

module _ (b c : Bytes) (f : GraphName → GraphName → Outcome) where
  pub both_refused : (e : Fault) → check_of_both b c ≡ Err e → change_from b c f ≡ outcome (Err e) b
  both_refused e n = rw (two_refused b c e n)

  pub both_done : check_of_both b c ≡ Ok tt → (is_some (decode b) ≡ true) × (is_some (decode c) ≡ true) × (change_from b c f ≡ f (shown b) (shown c))
  both_done z = let r = two_opened b c z in (is_some_lem b r.0, is_some_lem c r.1, rw r.2)

-- ------------------------------------------------------------------ empty names

pub empty_true : (n : Bytes) → length n ≡ 0 → is_empty n ≡ true
empty_true [] h = refl
empty_true (x ∷ xs) h = absurd (omega arith)

pub empty_false : (n : Bytes) → (length n ≡ 0 → ⊥) → is_empty n ≡ false
empty_false [] h = absurd (h refl)
empty_false (x ∷ xs) h = refl
