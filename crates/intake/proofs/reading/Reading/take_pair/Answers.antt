-- There is room for the pair (`Progress`).
use Rattle.std.proofs.Common.{arith, ap, ◌∙◌}
use Rattle.model.specs.Record.{judge}
use Rattle.intake.proofs.Progress.{pair_room}
use Rattle.intake.proofs.reading.Reading.take_pair.Goals as goal

pub put_pair-requires : goal.put_pair-requires
put_pair-requires c = (
  omega arith,
  pair_room c.self.inside.tables _ c.self.invariant (ap judge c.self.view_is ∙ c.requires) c.args.from.now c.args.to.now
      c.if-from-gt-MAX_NAME_BYTES.false c.if-to-gt-MAX_NAME_BYTES.false,
)
