-- The parts stand one behind the other from the front on, and zeros are left.
use Rattle.std.proofs.Common.{◌∙◌, ap, ℕ, ◌-◌, replicate, arith}
use Rattle.std.proofs.lemmas.List.{length-take-le}
use Rattle.model.specs.Bytes.{put}
use Rattle.tables.specs.Judging.{numbered}
use Rattle.tables.proofs.Stored.{stored}
use Rattle.tables.proofs.Writing.{zeros_behind}
use Rattle.tables.proofs.storing.store.Goals as goal

pub returns : goal.returns
returns g c =
    let a = c.args in
    let t = a.tables.now in
    let k = c.sizes-sizes.ensures.kept in
    let h = c.write_counts-entries in
    let e = c.store_entries-subgraph in
    let u = c.store_pairs-translation in
    let v = c.store_pairs-bodies in
    let b = c.store_bodies-end in
    let long = b.auto.buffer ∙ v.auto.buffer ∙ u.auto.buffer ∙ e.auto.buffer ∙ h.auto.buffer ∙ c.requires.1 in
    let he = rw (c.numbered.ensures, c.sizes-sizes.ensures.sizes) at h.ensures in
    let ee = rw (c.refs-refs.ensures, c.pool-pool.ensures, length-take-le t.sizes.names t.refs k.count) at e.ensures in
    let ue = rw (c.pairs.ensures, length-take-le t.sizes.subgraph t.subs k.subgraph.within) at u.ensures in
    let ve = rw (c.pairs-2.ensures, length-take-le t.sizes.translation t.trans k.translation.within) at v.ensures in
    let be = rw (c.refs-refs.ensures, c.pool-pool.ensures) at b.ensures in
    stored t (numbered a.own) c.requires.0 a.buffer.now _ _ _ _ _ _
    h.result e.result u.result v.result b.result c.requires.1
    he.1 he.0 ee.1 ee.0 ue.1 ue.0 ve.1 ve.0 be.1 be.0
    (zeros_behind b.new.buffer _ b.result (omega arith) (c.fill.ensures.after (λ y e. e)) ∙ ap (λ (k : ℕ). put b.new.buffer b.result (replicate (k - b.result) 0)) long)
