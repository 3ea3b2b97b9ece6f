-- What is left to set makes the whole of the list as it is.
use Rattle.std.proofs.Common.{◌≡◌, true, drop}
use Rattle.model.specs.Opening.{is_some}
use Rattle.model.specs.TagList.{shown_tags, decode_tags}
use Rattle.graph_tags.specs.Change.{filled}
use Rattle.graph_tags.proofs.change.fill_present.Given as goal

abbrev pub invariant-loop-change : goal.invariant-loop-change
invariant-loop-change l = record {
  listed : is_some (decode_tags l.list) ≡ true;
  rest : filled l.changes (shown_tags l.fn.list) ≡ filled (drop l.change-index l.changes) (shown_tags l.list);
}
