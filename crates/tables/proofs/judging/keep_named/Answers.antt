-- The counts are the sizes of the graph name; its own name is among the names.
use Rattle.std.proofs.Common.{◌∙◌, ap, sym, rules}
use Rattle.std.proofs.lemmas.Result.{err_from_is_err_and}
use Rattle.std.specs.Prelude.{Ok}
use Rattle.model.specs.Layout.{encode}
use Rattle.tables.specs.Judging.{outcome}
use Rattle.sorted.proofs.Records.{is_held}
use Rattle.tables.proofs.Judge.{kept_refused, kept_stored, named_among, meaning_placed, storable_placed}
use Rattle.tables.proofs.judging.keep_named.Goals as goal

pub returns-in_err-count_fault : goal.returns-in_err-count_fault
returns-in_err-count_fault g c =
    let p = err_from_is_err_and c.from_residual.result c.from_residual.ensures.1 in
    rw (p.1, p.2) (kept_refused c.args.tables.now _ c.requires.1 c.args.buffer.now c.in_err-count_fault.field-0.0 (rw c.sizes.ensures.sizes at c.in_err-count_fault.ensures))

pub place_among-own-requires : goal.place_among-own-requires
place_among-own-requires g c = (search rules, rw c.own_name.ensures (named_among c.args.tables.now _ c.requires.1))

pub store-requires : goal.store-requires
store-requires g c =
    let p = c.place_among-own.ensures in
    (search rules, (storable_placed c.args.tables.now _ c.requires.1 _ p.within (p.place ∙ c.own_name.ensures) (rw c.sizes.ensures.sizes at c.in_ok-count_fault.ensures), (is_held c.args.buffer.now c.requires.0).long))

pub returns : goal.returns
returns g c =
    let p = c.place_among-own.ensures in
    let t = c.args.tables.now in
    ap (outcome (Ok tt)) (c.store.ensures ∙ ap encode (meaning_placed t _ c.requires.1 _ p.within (p.place ∙ c.own_name.ensures)))
    ∙ sym (kept_stored t _ c.requires.1 c.args.buffer.now (rw c.sizes.ensures.sizes at c.in_ok-count_fault.ensures))
