-- One entry more is written, and its body begins where the one before ends.
use Rattle.std.proofs.Common.{◌∙◌, ap, sym, List, ℕ, map, length, get_or, arith}
use Rattle.std.proofs.lemmas.List.{drop_all}
use Rattle.model.specs.Bytes.{Bytes, put}
use Rattle.model.specs.Layout.{entries}
use Rattle.text.proofs.Put.{put_none}
use Rattle.record.specs.Coded.{entry_of}
use Rattle.record.proofs.Written.{entries_none}
use Rattle.sorted.specs.Tables.{body_in}
use Rattle.tables.proofs.Writing.{body_short, entries_again}
use Rattle.tables.proofs.storing.store_entries.Goals as goal

pub loop-r-preserved : goal.loop-r-preserved
loop-r-preserved c =
    let a = c.args in
    let s = c.loop-r in
    let k = ap length c.body-name.ensures in
    let m = body_short a.pool.now (get_or a.refs.now s.r-index 0) in
    let e = c.write_entry-p.ensures in
    record {
      place = omega arith;
      bounded = omega (arith, k, m);
      output = rw k (entries_again a.refs.now s.r-index c.loop-r-test.true s.buffer _ s.p _ a.pool.now (omega arith) s.start (e.1 ∙ ap (λ (x : Bytes). put s.buffer s.p (entry_of s.start x)) c.body-name.ensures) e.0) ∙ s.invariant.output;
    }

pub returns : goal.returns
returns c =
    let a = c.args in
    let s = c.loop-r in
    let e = drop_all s.r-index a.refs.now c.loop-r-test.false in (
      omega arith,
      sym (ap (λ (xs : List ℕ). put s.buffer s.p (entries s.start (map (body_in a.pool.now) xs))) e ∙ rw (entries_none s.start) (put_none s.buffer s.p)) ∙ s.invariant.output,
    )
