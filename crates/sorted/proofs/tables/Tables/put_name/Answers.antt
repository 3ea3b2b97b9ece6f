-- The name is there, or its body is appended, its number goes to its place, and the pairs are renumbered.
use Rattle.std.proofs.Common.{◌∙◌, ap, arith, length, map}
use Rattle.std.proofs.Math.Seq.{take-length}
use Rattle.std.proofs.lemmas.Grind.{common_steps}
use Rattle.arrayvec.proofs.ArrayVecLemmas.{items-with_items}
use Rattle.record.proofs.Words.{under_weaken}
use Rattle.sorted.specs.Sorted.{renumbered}
use Rattle.sorted.proofs.PutName.{same_put, new_put}
use Rattle.sorted.proofs.tables.Tables.put_name.Goals as goal

pub returns-in-Ok : goal.returns-in-Ok
returns-in-Ok g c =
    same_put c.args.self.now c.args.name.now c.in-Ok.place (rw c.self.view_is at c.self.invariant.0)
    (rw (c.refs.ensures, c.pool.ensures) at c.in-Ok.ensures.value)

pub renumber-requires : goal.renumber-requires
renumber-requires g c =
    let (k, few, small) = c.self.invariant in
    let r = rw (← c.self.view_is) at c.requires.count in
    rw c.as_mut_slice.ensures.value (under_weaken _ 65535 _ (omega (arith, few, r)) (rw take-length at k.subgraph.under))

pub renumber-requires-in-Err : goal.renumber-requires-in-Err
renumber-requires-in-Err g c =
    let (k, few, small) = c.self.invariant in
    let r = rw (← c.self.view_is) at c.requires.count in
    rw c.as_mut_slice-in-Err.ensures.value (under_weaken _ 65535 _ (omega (arith, few, r)) (rw take-length at k.translation.under))

pub returns-in-Err : goal.returns-in-Err
returns-in-Err g c =
    let i = c.self.inside in
    let (k, few, small) = c.self.invariant in
    let r = rw (← c.self.view_is) at c.requires in
    rw (← c.self.view_is)
    (new_put i.refs.items i.subs.items i.trans.items i.pool.items c.args.name.now k r.short (omega (arith, few, r.count)) (omega (arith, small, r.room)) c.in-Err.place
    (rw (c.refs.ensures, c.pool.ensures, ← c.self.view_is) at c.in-Err.ensures.value)
    _ _ _ _
    (rw c.len-at.ensures.value at c.insert_at.ensures)
    (items-with_items i.subs _ (omega (arith, c.renumber.auto.pairs, ap length c.as_mut_slice.ensures.value))
    ∙ c.renumber.ensures ∙ ap (map (renumbered c.in-Err.place)) c.as_mut_slice.ensures.value)
    (items-with_items i.trans _ (omega (arith, c.renumber-in-Err.auto.pairs, ap length c.as_mut_slice-in-Err.ensures.value))
    ∙ c.renumber-in-Err.ensures ∙ ap (map (renumbered c.in-Err.place)) c.as_mut_slice-in-Err.ensures.value)
    (grind (arith, common_steps, c.append.ensures)))

pub invariant_of-self : goal.invariant_of-self
invariant_of-self g c = ((returns-in-Err g c).kept, c.self.invariant.1, c.self.invariant.2)
