-- The keys and values first, then the entries, then the count.
use Rattle.std.proofs.Common.{arith}
use Rattle.tag_edits.proofs.Exchanging.{counts, first_fits, second_fits, third_fits, exchanges}
use Rattle.tag_edits.proofs.exchange.exchange.Goals as goal

pub overflow_sub-count : goal.overflow_sub-count
overflow_sub-count c =
    let a = c.args in
    omega (arith, (counts a.list.now a.gap a.entry.now a.t.now a.u.now c.requires c.count.result (rw c.of-tags.ensures at c.count.ensures.count)).0)

pub splice-requires : goal.splice-requires
splice-requires c =
    let a = c.args in
    let end = c.contents_end-end in
    first_fits a.list.now a.gap a.entry.now a.t.now a.u.now c.requires end.result (rw c.of-tags.ensures at end.ensures)

pub overflow_sub-end : goal.overflow_sub-end
overflow_sub-end c =
    let a = c.args in
    let end = c.contents_end-end in
    omega (arith, (first_fits a.list.now a.gap a.entry.now a.t.now a.u.now c.requires end.result (rw c.of-tags.ensures at end.ensures)).0)

pub splice-requires-2 : goal.splice-requires-2
splice-requires-2 c =
    let a = c.args in
    let end = c.contents_end-end in
    rw c.entry_start.ensures (second_fits a.list.now a.gap a.entry.now a.t.now a.u.now c.requires end.result (rw c.of-tags.ensures at end.ensures) c.splice.new.b c.splice.ensures)

pub write32-requires : goal.write32-requires
write32-requires c =
    let a = c.args in
    let end = c.contents_end-end in
    let e = rw c.entry_start.ensures at c.splice-2.ensures in
    third_fits a.list.now a.gap a.entry.now a.t.now a.u.now c.requires end.result (rw c.of-tags.ensures at end.ensures) c.splice.new.b c.splice.ensures c.splice-2.new.b e

pub returns : goal.returns
returns c =
    let a = c.args in
    let end = c.contents_end-end in
    let counted = counts a.list.now a.gap a.entry.now a.t.now a.u.now c.requires c.count.result (rw c.of-tags.ensures at c.count.ensures.count) in
    let e = rw c.entry_start.ensures at c.splice-2.ensures in
    exchanges a.list.now a.gap a.entry.now a.t.now a.u.now c.requires end.result (rw c.of-tags.ensures at end.ensures) c.splice.new.b c.splice.ensures c.splice-2.new.b e _ counted.1 c.write32.new.b c.write32.ensures.1
