-- Three tables of numbers, and the bodies as they stand.
use Rattle.std.proofs.Common.{◌≤◌, ◌∙◌, List, ap, arith, length, rules}
use Rattle.model.specs.declared.Kind.TheVariants.{Subgraph, Translation}
use Rattle.model.specs.Bytes.{Bytes}
use Rattle.model.specs.Record.{bodies}
use Rattle.model.specs.Opening.{is_some}
use Rattle.record.specs.Rows.{rows_of}
use Rattle.sorted.specs.declared.putting.Sizes.{Sizes}
use Rattle.sorted.proofs.Records.{shown_names, shown_count, pairs_counted}
use Rattle.sorted.proofs.Loaded.{loaded, length_entries_of, length_pairs_of}
use Rattle.sorted.proofs.tables.Tables.load.Goals as goal

pub load_rows-requires : goal.load_rows-requires
load_rows-requires g c =
    let b = c.bytes-b.result.now in
    let v = ap is_some c.bytes-b.ensures.held.decoded in
    let r = rw (← c.bytes-b.ensures.value) at c.requires in
    let h : length (rows_of c.entries.result) ≤ g.row.NAMES = rw c.entries.ensures.value (omega (arith, length_entries_of b, shown_count b v, r.count)) in
    (search rules, (h, c.entries.ensures.small))

pub load_rows-requires-2 : goal.load_rows-requires-2
load_rows-requires-2 g c =
    let b = c.bytes-b.result.now in
    let v = ap is_some c.bytes-b.ensures.held.decoded in
    let r = rw (← c.bytes-b.ensures.value) at c.requires in
    let h : length (rows_of c.pairs.result) ≤ g.row.PAIRS = rw c.pairs.ensures.value (omega (arith, length_pairs_of Subgraph b, pairs_counted b v Subgraph, r.subgraph)) in
    (search rules, (h, c.pairs.ensures.small))

pub load_rows-requires-3 : goal.load_rows-requires-3
load_rows-requires-3 g c =
    let b = c.bytes-b.result.now in
    let v = ap is_some c.bytes-b.ensures.held.decoded in
    let r = rw (← c.bytes-b.ensures.value) at c.requires in
    let h : length (rows_of c.pairs-2.result) ≤ g.row.PAIRS =
    rw c.pairs-2.ensures.value (omega (arith, length_pairs_of Translation b, pairs_counted b v Translation, r.translation)) in
    (search rules, (h, c.pairs-2.ensures.small))

pub load_bodies-requires : goal.load_bodies-requires
load_bodies-requires g c =
    let v = ap is_some c.bytes-b.ensures.held.decoded in
    let e = ap (λ (x : Sizes). x.bytes) c.of.ensures.sizes in
    let f = rw (← c.bytes-b.ensures.value) at e in
    let h : c.of.result.bytes ≤ g.row.BYTES = omega (arith, e, c.requires.room) in
    (search rules, (v, f ∙ ap (λ (ns : List Bytes). length (bodies ns)) (shown_names c.bytes-b.result.now v), h))

pub returns : goal.returns
returns g c =
    rw (← c.bytes-b.ensures.value)
    (loaded c.bytes-b.result.now (ap is_some c.bytes-b.ensures.held.decoded) _ _ _ _
    (c.load_rows.ensures ∙ c.entries.ensures.value) (c.load_rows-2.ensures ∙ c.pairs.ensures.value)
    (c.load_rows-3.ensures ∙ c.pairs-2.ensures.value) c.load_bodies.ensures)

pub invariant_of-self : goal.invariant_of-self
invariant_of-self g c = ((returns g c).good.kept, c.self.invariant.1, c.self.invariant.2)
