-- The first field decides, and then each field behind it, with its number.
use mathlib.Core.Logic.{inl}
use Rattle.std.proofs.Common.{◌∙◌, sym, arith}
use Rattle.std.proofs.lemmas.Bool.{MatchBool-at_true, MatchBool-at_false}
use Rattle.strict.proofs.Lines.{read_other, read_none, read_all, next_field}
use Rattle.strict.proofs.line.check_strict.Goals as goal

pub returns-then-ne : goal.returns-then-ne
returns-then-ne c =
    sym (read_other c.args.line.now c.of-fields.ensures _ _ c.next.ensures.steps _ c.as_slice.ensures (sym c.ne.ensures ∙ c.if-ne.true))

pub loop-place-init : goal.loop-place-init
loop-place-init c =
    let r = read_none c.args.line.now c.of-fields.ensures _ _ c.next.ensures.steps _ c.as_slice.ensures (sym c.ne.ensures ∙ c.if-ne.false) _ c.new-tags.ensures in
    rw (c.into_iter-place-iterator.ensures.into_iter_gives, c.enumerate-place-items.ensures.source, c.enumerate-place-items.ensures.count) record {
      reading = r;
      goes = ((_, _, inl (omega (arith, r.few))), _);
    }

pub returns-then-not-take : goal.returns-then-not-take
returns-then-not-take c =
    let s = c.in-Some.ensures.steps in
    let t = c.take.ensures in
    rw s.1 (sym (MatchBool-at_false _ _ c.if-not-take.true (next_field c.loop-place.invariant.reading s.0 c.take.result t.value _ t.seen_after)))

pub loop-place-preserved : goal.loop-place-preserved
loop-place-preserved c =
    let s = c.in-Some.ensures.steps in
    let t = c.take.ensures in
    let r = MatchBool-at_true _ _ c.if-not-take.false (next_field c.loop-place.invariant.reading s.0 c.take.result t.value _ t.seen_after) in
    rw s.2 record {
      reading = r;
      goes = ((_, _, inl (omega (arith, r.few))), _);
    }

pub returns : goal.returns
returns c = sym (read_all c.loop-place.invariant.reading c.in-None.ensures.steps.0.0)
