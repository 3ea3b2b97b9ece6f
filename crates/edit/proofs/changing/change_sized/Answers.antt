-- The tables hold the record, then the other too, then the pair too; what they show then is kept.
use Rattle.std.proofs.Common.{ap, ◌∙◌, rules}
use Rattle.model.specs.Outcome.{kept_or}
use Rattle.edit.proofs.Changes.{merge_rooms, changed}
use Rattle.edit.proofs.changing.change_sized.Goals as goal

pub merge-requires : goal.merge-requires
merge-requires g c =
    let l = c.load.ensures in
    (search rules, (l.good.kept, merge_rooms _ _ _ c.args.other _ l.good.kept (rw (l.sizes, c.of.ensures) c.requires.1)))

pub returns : goal.returns
returns g c =
    c.keep_named.ensures
    ∙ ap (kept_or c.args.buffer.now) (changed _ _ c.args.pair _ _ _ (rw c.of.ensures at c.load.ensures) c.merge.ensures c.put_if.ensures)
