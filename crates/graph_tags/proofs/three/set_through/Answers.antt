-- The record first, then the list, then the values; those that were written are put in.
use Rattle.std.proofs.Common.{◌≡◌, sym, ap, ◌∙◌, rules}
use Rattle.std.specs.Prelude.{Ok, Err}
use Rattle.std.specs.Option.{option_copied}
use Rattle.model.specs.Opening.{settled}
use Rattle.model.specs.TagOutcome.{tag_list, list_with}
use Rattle.graph_tags.proofs.Through.{written, values, name_written, subgraph_written, translation_written, through_done, through_values}
use Rattle.graph_tags.proofs.three.set_through.Goals as goal

pub returns-in_err-check_list-in-Ok-clause-value : goal.returns-in_err-check_list-in-Ok-clause-value
returns-in_err-check_list-in-Ok-clause-value c =
    let e = rw (c.requires.0, c.requires.1, c.requires.2) at c.in-Ok.ensures in
    let given : settled (tag_list c.args.list.now) ≡ Err c.in_err-check_list-in-Ok.field-0.0 = sym c.check_list.ensures ∙ c.in_err-check_list-in-Ok.was in
    rw (through_done c.args.list.now c.args.buffer.now c.in-Ok.sizes (sym e.sizes), given) (search rules)

pub returns-in_ok-check_list-in-Ok : goal.returns-in_ok-check_list-in-Ok
returns-in_ok-check_list-in-Ok c =
    let b = c.args.list.now in
    let buffer = c.args.buffer.now in
    let sizes = c.in-Ok.sizes in
    let e = rw (c.requires.0, c.requires.1, c.requires.2) at c.in-Ok.ensures in
    let w = written buffer in
    let given : settled (tag_list b) ≡ Ok tt = sym c.check_list.ensures ∙ c.in_ok-check_list-in-Ok.was in
    let n : option_copied c.value_in.result ≡ (values w).name = c.value_in.ensures ∙ rw e.name_output (name_written w sizes (sym e.sizes) c.args.name.now) in
    let s : option_copied c.value_in-in-Ok.result ≡ (values w).subgraph =
    c.value_in-in-Ok.ensures ∙ rw e.subgraph_output (subgraph_written w sizes (sym e.sizes) c.args.subgraph.now) in
    let t : option_copied c.value_in-in-Ok-2.result ≡ (values w).translation =
    c.value_in-in-Ok-2.ensures ∙ rw e.translation_output (translation_written w sizes (sym e.sizes) c.args.translation.now) in
    let done = through_values b buffer sizes (sym e.sizes) given _ _ _ n s t in
    record {
      value = c.put_three.ensures.value ∙ ap settled (sym done);
      list_after = c.put_three.ensures.list_after ∙ ap (λ g. list_with g b) (sym done);
    }
