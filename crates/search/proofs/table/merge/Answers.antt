-- The lesser of two steps is written, and passed where it stands.
use Rattle.std.proofs.Common.{◌≡◌, ◌⊎◌, inl, inr, refl, length, arith}
use Rattle.std.proofs.lemmas.List.{get_or_read}
use Rattle.search.proofs.Merging.{take_next, merging_turned, merging_rest, merging_end}
use Rattle.search.proofs.table.merge.Goals as goal
use Rattle.search.proofs.table.merge.Goals.{then-loop-i-test+else-j-b, else-loop-i-test}

pub loop-i-preserved : goal.loop-i-preserved
loop-i-preserved c =
    let x = get_or_read _ _ _ c.loop-i-test.true c.index-a-i.is 0 in
    let y = get_or_read _ _ _ c.if-j-b.true c.index-b-j.is 0 in
    take_next _ _ _ _ _ _ c.loop-i.invariant c.requires.first_rises c.requires.second_rises (omega arith) c.loop-i-test.true c.if-j-b.true
    _ _ _ _ _ x y c.min.ensures (λ h. grind arith) (λ h. grind arith) (λ h. grind arith) (λ h. grind arith)

pub returns : goal.returns
returns c =
    let one = c.append_rest-m.ensures in
    let two = c.append_rest.ensures in
    let over : (c.loop-i.i ≡ length c.args.a.now) ⊎ (c.loop-i.j ≡ length c.args.b.now) =
    elim c.loop-i-test.branch [ then-loop-i-test+else-j-b w ↦ inr (omega arith) | else-loop-i-test w ↦ inl (omega arith) ] in
    let m = merging_rest _ _ _ _ _ _ _ c.loop-i.invariant c.requires.first_rises over (omega arith) _ one.1 one.0 in
    let n = merging_rest _ _ _ _ _ _ _ (merging_turned _ _ _ _ _ _ m) c.requires.second_rises (inr refl) (omega arith) _ two.1 two.0 in
    merging_end _ _ _ _ (merging_turned _ _ _ _ _ _ n)
