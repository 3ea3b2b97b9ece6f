-- What the questions about one record or two give, from the buffers alone: the number of a refusal, or the values.
use Rattle.std.specs.Prelude.{Bool, false, List, ℕ, length, Option, Some, None, slice_get, Ok}
use Rattle.model.specs.declared.Kind.{Kind}
use Rattle.model.specs.declared.holdings.Counts.{Counts}
use Rattle.model.specs.declared.holdings.Part.{Part}
use Rattle.model.specs.declared.holdings.PairParts.{PairParts}
use Rattle.model.specs.declared.Kind.TheVariants.{Subgraph, Translation}
use Rattle.model.specs.Bytes.{Bytes, same_bytes}
use Rattle.model.specs.Record.{Pair, GraphName, names}
use Rattle.model.specs.Layout.{body_of}
use Rattle.model.specs.Opening.{Given, and_then, opened, record_in, two_records}

-- f of the record
unfoldable pub asked : {A : Type 0} → Bytes → (GraphName → A) → Given A
asked b f = and_then (opened (record_in b)) λ g. Ok (f g)

-- f of two records
unfoldable pub asked_both : {A : Type 0} → Bytes → Bytes → (GraphName → GraphName → A) → Given A
asked_both b c f = and_then (opened (two_records b c)) λ r. Ok (f r.0 r.1)

unfoldable pub counts_in : Bytes → Given Counts
counts_in b = asked b λ g. record { names = length (names g); subgraph = length g.subgraph; translation = length g.translation }

-- where the body of a name stands in the record
unfoldable pub part_of : GraphName → Bytes → Part
part_of g n = record { start = body_of g n; size = length n }

abbrev pub mapped : {A B : Type 0} → (A → B) → Option A → Option B
mapped f None = None
mapped f (Some a) = Some (f a)

-- the own name
unfoldable pub name_in : Bytes → Given (Option Part)
name_in b = asked b λ g. mapped (part_of g) g.name

-- the name at a place, counted from 0; past the end there is none
unfoldable pub name_at_in : Bytes → ℕ → Given (Option Part)
name_at_in b i = asked b λ g. mapped (part_of g) (slice_get (names g) i)

abbrev pub pairs_of : Kind → GraphName → List Pair
pairs_of Subgraph g = g.subgraph
pairs_of Translation g = g.translation

abbrev pub pair_parts : GraphName → Pair → PairParts
pair_parts g p = record { from = part_of g p.from; to = part_of g p.to }

-- the pair of a kind at a place, likewise
unfoldable pub pair_at_in : Kind → Bytes → ℕ → Given (Option PairParts)
pair_at_in k b i = asked b λ g. mapped (pair_parts g) (slice_get (pairs_of k g) i)

-- both named, and by the same name
abbrev pub same_name : Option Bytes → Option Bytes → Bool
same_name None n = false
same_name (Some m) None = false
same_name (Some m) (Some n) = same_bytes m n

unfoldable pub is_same_in : Bytes → Bytes → Given Bool
is_same_in b c = asked_both b c λ g h. same_name g.name h.name
