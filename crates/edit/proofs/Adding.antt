-- An addition by its tests, in their order: what is wrong with the buffer, an empty name, a long name.
use mathlib.Core.Path.{◌≡◌, refl, ◌∙◌}
use mathlib.Core.Bool.{Bool, true, false, cond, ◌||◌}
use Rattle.std.specs.Prelude.{Ok, Err}
use Rattle.model.specs.declared.fault.Fault.{Fault}
use Rattle.model.specs.declared.fault.Fault.TheVariants.{LongName}
use Prim.Native.Nat.{◌<◌}
use lib.ListN.{length}
use lib.Dec.{ltb}
use borrow.Author.Tests.{lt-ltb}
use Rattle.model.specs.declared.Kind.{Kind}
use Rattle.model.specs.Bytes.{Bytes, compare_bytes, is_empty}
use Rattle.model.specs.Record.{GraphName, insert, with_pair, names, any_long, judge, max_name_bytes}
use Rattle.model.specs.Layout.{shown, decode}
use Rattle.model.specs.Opening.{is_some, check_of}
use Rattle.model.specs.Outcome.{Outcome, kept_or, add_pair}
use Rattle.tables.specs.Judging.{outcome}
use Rattle.sorted.proofs.Pairs.{names_with_pair}
use Rattle.tables.proofs.Judge.{any_insert}
use Rattle.edit.proofs.Openings.{opened_refused, opened_done, empty_true, empty_false}

either_second : (s : Bool) → s || true ≡ true
either_second true = refl
either_second false = refl

-- a long name refuses an addition
module _ (kind : Kind) (b from to : Bytes) (g : GraphName) where
  judge_long : ltb max_name_bytes (length to) || (ltb max_name_bytes (length from) || any_long (names g)) ≡ true → judge (with_pair kind (record { from = from; to = to }) g) ≡ 11
  unfolding judge
  judge_long e =
      rw (
        names_with_pair kind (record { from = from; to = to }) g,
        any_insert to (insert compare_bytes from (names g)),
        any_insert from (names g),
        e,
      )

  kept_long : ltb max_name_bytes (length to) || (ltb max_name_bytes (length from) || any_long (names g)) ≡ true
      → kept_or b (with_pair kind (record { from = from; to = to }) g) ≡ outcome (Err LongName) b
  kept_long e = rw (judge_long e)

-- with nothing wrong a buffer is a record
pub add_decodes : (b : Bytes) → check_of b ≡ Ok tt → is_some (decode b) ≡ true
add_decodes b ok = (opened_done b (λ g. outcome (Ok tt) b) ok).0

module _ (kind : Kind) (from to b : Bytes) where
  abbrev change : GraphName → Outcome
  change g = cond (is_empty from || is_empty to) (outcome (Ok tt) b) (kept_or b (with_pair kind (record { from = from; to = to }) g))

  pub add_refused : (e : Fault) → check_of b ≡ Err e → add_pair kind from to b ≡ outcome (Err e) b
  add_refused e n = opened_refused b change e n

  module _ (ok : check_of b ≡ Ok tt) where
    add_opened : add_pair kind from to b ≡ change (shown b)
    add_opened = (opened_done b change ok).1

    pub add_no_from : length from ≡ 0 → add_pair kind from to b ≡ outcome (Ok tt) b
    add_no_from e = add_opened ∙ rw (empty_true from e)

    pub add_no_to : length to ≡ 0 → add_pair kind from to b ≡ outcome (Ok tt) b
    add_no_to e = add_opened ∙ rw (empty_true to e, either_second (is_empty from))

    module _ (f : length from ≡ 0 → ⊥) (t : length to ≡ 0 → ⊥) where
      pub add_kept : add_pair kind from to b ≡ kept_or b (with_pair kind (record { from = from; to = to }) (shown b))
      add_kept = add_opened ∙ rw (empty_false from f, empty_false to t)

      pub add_long_from : max_name_bytes < length from → add_pair kind from to b ≡ outcome (Err LongName) b
      add_long_from h = add_kept ∙ kept_long kind b from to (shown b) (rw (lt-ltb max_name_bytes (length from) h) (either_second (ltb max_name_bytes (length to))))

      pub add_long_to : max_name_bytes < length to → add_pair kind from to b ≡ outcome (Err LongName) b
      add_long_to h = add_kept ∙ kept_long kind b from to (shown b) (rw (lt-ltb max_name_bytes (length to) h))

-- the ways through `add`, in the order of its tests
pub ruleset additions = (add_decodes, add_refused, add_no_from, add_no_to, add_long_from, add_long_to, add_kept)
