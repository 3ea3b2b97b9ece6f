-- Count by count; what a record takes is allowed.
use mathlib.Core.Path.{sym, ap, subst, ◌∙◌}
use mathlib.Core.List.{List}
use lib.ListN.{length}
use Rattle.model.specs.declared.Kind.TheVariants.{Subgraph, Translation}
use Rattle.model.specs.Bytes.{Bytes}
use Rattle.model.specs.Record.{GraphName, bodies}
use Rattle.model.specs.Opening.{is_some}
use Rattle.sorted.specs.Loading.{sizes_of, Limited}
use Rattle.sorted.proofs.Records.{sizes_limited, shown_names, shown_count, pairs_counted}
use Rattle.sorted.proofs.putting.Sizes.of.Goals as goal

pub returns-clause-sizes : goal.returns-clause-sizes
returns-clause-sizes c =
    let h = c.head_at-h.ensures in
    let x = c.bytes-b.result.now in
    let v = ap is_some c.bytes-b.ensures.held.decoded in
    rw (← c.bytes-b.ensures.value)
    (λ i. record {
      names = (h.names.0 ∙ sym (shown_count x v)) i;
      bytes = (c.bodies_length.ensures ∙ ap (λ (ns : List Bytes). length (bodies ns)) (sym (shown_names x v))) i;
      subgraph = (h.subgraph.0 ∙ sym (pairs_counted x v Subgraph)) i;
      translation = (h.translation.0 ∙ sym (pairs_counted x v Translation)) i;
    })

pub returns-clause-limited : goal.returns-clause-limited
returns-clause-limited c =
    let v = ap is_some c.bytes-b.ensures.held.decoded in
    subst Limited (sym (returns-clause-sizes c))
    (subst (λ (g : GraphName). Limited (sizes_of g)) c.bytes-b.ensures.value (sizes_limited c.bytes-b.result.now v))
