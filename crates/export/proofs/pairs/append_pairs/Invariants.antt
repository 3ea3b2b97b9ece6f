-- Appending the pairs that are left makes the whole.
use Rattle.text.proofs.Appending.{Rest}
use Rattle.record.specs.Pairs.{pairs_left}
use Rattle.export.specs.Texts.{pair_texts}
use Rattle.export.proofs.pairs.append_pairs.Given as goal

abbrev pub invariant-loop-from : goal.invariant-loop-from
invariant-loop-from l =
    let a = l.around in
    Rest l.fn.out l.at (pair_texts a.before.now a.between a.after.now (pairs_left l.fn.pairs))
    l.out l.q (pair_texts a.before.now a.between a.after.now (pairs_left l.from-iterator))
