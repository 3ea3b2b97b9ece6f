-- One pair more is written.
use Rattle.std.proofs.Common.{◌∙◌, ap, sym, List, ℕ, map, arith}
use Rattle.std.proofs.lemmas.List.{drop_all}
use Rattle.model.specs.Bytes.{put}
use Rattle.record.specs.Coded.{le_pairs}
use Rattle.text.proofs.Put.{put_none}
use Rattle.record.proofs.Written.{pairs_none}
use Rattle.sorted.specs.Tables.{places_of}
use Rattle.tables.proofs.Writing.{pairs_again}
use Rattle.tables.proofs.storing.store_pairs.Goals as goal

pub loop-pair-preserved : goal.loop-pair-preserved
loop-pair-preserved c =
    let s = c.loop-pair in
    let e = c.write_pair-p.ensures in
    record {
      place = omega arith;
      output = pairs_again c.args.pairs.now s.pair-index c.loop-pair-test.true s.buffer _ s.p _ (omega arith) e.1 e.0 ∙ s.invariant.output;
    }

pub returns : goal.returns
returns c =
    let s = c.loop-pair in
    let e = drop_all s.pair-index c.args.pairs.now c.loop-pair-test.false in
    (omega arith, sym (ap (λ (xs : List ℕ). put s.buffer s.p (le_pairs (map places_of xs))) e ∙ rw pairs_none (put_none s.buffer s.p)) ∙ s.invariant.output)
