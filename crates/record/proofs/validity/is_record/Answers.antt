-- A part that fails refuses the buffer; with all others right the zeros decide.
use Rattle.std.proofs.Common.{sym, ◌∙◌, arith}
use Rattle.record.proofs.Laws.{is_record_lem}
use Rattle.record.proofs.Steps.{was_past, was_kept}
use Rattle.record.proofs.Refusals.{refuse_length, refuse_counts, refuse_bodies, refuse_tables, zeros_decide}
use Rattle.record.proofs.validity.is_record.Goals as goal

pub returns-then-b-ne-RECORD_LENGTH : goal.returns-then-b-ne-RECORD_LENGTH
returns-then-b-ne-RECORD_LENGTH c =
    let b = c.args.b.now in
    sym (refuse_length b c.if-b-ne-RECORD_LENGTH.true) ∙ is_record_lem b (λ i. omega (arith, c.type_inv.b i))

pub returns-then-not-counts_ok : goal.returns-then-not-counts_ok
returns-then-not-counts_ok c =
    let b = c.args.b.now in
    sym (refuse_counts b c.head_at-head.result c.head_at-head.ensures (sym c.counts_ok.ensures ∙ c.if-not-counts_ok.true))
    ∙ is_record_lem b (λ i. omega (arith, c.type_inv.b i))

pub returns-in_default : goal.returns-in_default
returns-in_default c =
    let b = c.args.b.now in
    sym (refuse_bodies b c.head_at-head.result c.head_at-head.ensures (was_past _ (sym c.body_end.ensures ∙ c.in_default.is)))
    ∙ is_record_lem b (λ i. omega (arith, c.type_inv.b i))

pub returns-then-not-tables_ok : goal.returns-then-not-tables_ok
returns-then-not-tables_ok c =
    let b = c.args.b.now in
    sym (refuse_tables b c.head_at-head.result c.head_at-head.ensures (sym c.tables_ok.ensures ∙ c.if-not-tables_ok.true))
    ∙ is_record_lem b (λ i. omega (arith, c.type_inv.b i))

pub overflow_add-bodies : goal.overflow_add-bodies
overflow_add-bodies c = let end = was_kept _ (sym c.body_end.ensures ∙ c.in-Some.is) in omega (arith, end, c.bodies_after-bodies.ensures)

pub returns : goal.returns
returns c =
    let b = c.args.b.now in
    let end = was_kept _ (sym c.body_end.ensures ∙ c.in-Some.is) in
    c.zeros_from.ensures
    ∙ rw (c.bodies_after-bodies.ensures, end.1) (zeros_decide b c.head_at-head.result c.head_at-head.ensures c.if-b-ne-RECORD_LENGTH.false (sym c.counts_ok.ensures ∙ c.if-not-counts_ok.false) end.0 (sym c.tables_ok.ensures ∙ c.if-not-tables_ok.false))
    ∙ is_record_lem b (λ i. omega (arith, c.type_inv.b i))

pub zeros_from-requires : goal.zeros_from-requires
zeros_from-requires c =
    let end = was_kept _ (sym c.body_end.ensures ∙ c.in-Some.is) in
    let ok = sym c.counts_ok.ensures ∙ c.if-not-counts_ok.false in
    grind (arith, end, ok)
