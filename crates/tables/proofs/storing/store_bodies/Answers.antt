-- One body more is written.
use Rattle.std.proofs.Common.{◌∙◌, ap, sym, List, ℕ, ◌+◌, map, length, arith}
use Rattle.std.proofs.lemmas.List.{drop_all}
use Rattle.model.specs.Bytes.{put}
use Rattle.model.specs.Record.{bodies}
use Rattle.text.proofs.Put.{put_none}
use Rattle.sorted.specs.Tables.{body_in}
use Rattle.tables.proofs.Writing.{bodies_length, bodies_again}
use Rattle.tables.proofs.storing.store_bodies.Goals as goal

pub loop-r-preserved : goal.loop-r-preserved
loop-r-preserved c =
    let a = c.args in
    let s = c.loop-r in
    let v = c.copy-p.ensures in
    let b = c.body.ensures in
    let m = bodies_length a.refs.now s.r-index c.loop-r-test.true a.pool.now in
    let k = ap length b in
    record {
      place = omega arith;
      output =
          bodies_again a.refs.now s.r-index c.loop-r-test.true a.pool.now s.buffer _ s.p _ (omega arith) (v.1 ∙ ap (put s.buffer s.p) b) (v.0 ∙ ap (λ (j : ℕ). s.p + j) k)
          ∙ s.invariant.output;
    }

pub returns : goal.returns
returns c =
    let a = c.args in
    let s = c.loop-r in
    let e = drop_all s.r-index a.refs.now c.loop-r-test.false in
    let z = ap (λ (xs : List ℕ). length (bodies (map (body_in a.pool.now) xs))) e in
    (omega arith, sym (ap (λ (xs : List ℕ). put s.buffer s.p (bodies (map (body_in a.pool.now) xs))) e ∙ put_none s.buffer s.p) ∙ s.invariant.output)
