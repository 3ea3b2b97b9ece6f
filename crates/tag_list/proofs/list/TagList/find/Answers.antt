-- The key comes before the tag's, is the same, or comes behind it.
use mathlib.Core.Logic.{inl}
use mathlib.Core.Path.{ap, ◌∙◌}
use Rattle.std.proofs.Common.{arith}
use Rattle.model.specs.Opening.{is_some}
use Rattle.tag_list.specs.declared.list.Found.{Found}
use Rattle.tag_list.proofs.Asking.{found_held}
use Rattle.tag_list.proofs.Listing.{few_left}
use Rattle.tag_list.proofs.Walk.{list_few, ahead_all, ahead_none, ahead_less, ahead_equal, ahead_greater}
use Rattle.tag_list.proofs.list.TagList.find.Goals as goal

pub loop-place-init : goal.loop-place-init
loop-place-init c = rw (c.into_iter-place-iterator.ensures.into_iter_gives, c.enumerate-place-items.ensures.source, c.enumerate-place-items.ensures.count) record {
  ahead = ahead_all c.args.key.now c.self.inside.block.now c.self.invariant (rw (← c.self.view_is) at c.tags.ensures.parts);
  goes = ((_, _, inl (omega (arith, few_left c.tags.result))), _);
}

pub returns-in-Less-clause-found : goal.returns-in-Less-clause-found
returns-in-Less-clause-found c =
    let s = c.in-Some.ensures.steps in
    let o = rw (c.compare.ensures, c.key_in.ensures) at c.in-Less.is in
    rw (← c.self.view_is, s.1, ahead_less c.loop-place.invariant.ahead s.0 o)

pub returns-in-Less-clause-held : goal.returns-in-Less-clause-held
returns-in-Less-clause-held c =
    ap (λ (f : Found). is_some f.value) (returns-in-Less-clause-found c) ∙ rw (← c.self.view_is) (found_held c.self.inside.block.now c.self.invariant c.args.key.now)

pub returns-in-Equal-clause-found : goal.returns-in-Equal-clause-found
returns-in-Equal-clause-found c =
    let s = c.in-Some.ensures.steps in
    let o = rw (c.compare.ensures, c.key_in.ensures) at c.in-Equal.is in
    rw (← c.self.view_is, s.1, ahead_equal c.loop-place.invariant.ahead s.0 o)

pub returns-in-Equal-clause-held : goal.returns-in-Equal-clause-held
returns-in-Equal-clause-held c =
    ap (λ (f : Found). is_some f.value) (returns-in-Equal-clause-found c) ∙ rw (← c.self.view_is) (found_held c.self.inside.block.now c.self.invariant c.args.key.now)

pub loop-place-preserved : goal.loop-place-preserved
loop-place-preserved c =
    let s = c.in-Some.ensures.steps in
    let o = rw (c.compare.ensures, c.key_in.ensures) at c.in-Greater.is in
    let a = ahead_greater c.loop-place.invariant.ahead s.0 o in
    record {
      ahead = rw s.2 a;
      goes = ((_, _, inl (omega (arith, s.2, a.counted, list_few c.self.inside.block.now c.self.invariant, few_left c.next.new.self.iter))), _);
    }

pub returns-clause-found : goal.returns-clause-found
returns-clause-found c =
    let view = c.self.view_is in
    rw (← view) (ahead_none c.loop-place.invariant.ahead c.in-None.ensures.steps.0.0 (omega (arith, rw (← view) at c.count.ensures.count)) (rw (← view) at c.contents_end.ensures))

pub returns-clause-held : goal.returns-clause-held
returns-clause-held c =
    ap (λ (f : Found). is_some f.value) (returns-clause-found c) ∙ rw (← c.self.view_is) (found_held c.self.inside.block.now c.self.invariant c.args.key.now)
