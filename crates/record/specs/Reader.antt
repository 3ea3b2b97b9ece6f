-- What a buffer counts, and where it has a name.
use Rattle.std.specs.Prelude.{◌≡◌, ℕ, zero, suc, ◌+◌, ◌<◌, Option, Some, None}
use Rattle.model.specs.declared.Kind.{Kind}
use Rattle.model.specs.declared.Kind.TheVariants.{Subgraph, Translation}
use Rattle.model.specs.Bytes.{Bytes}
use Rattle.model.specs.Layout.{name_count, own_number, pair_count, body_start, body_length, bodies_at}
use Rattle.record.specs.declared.layout.Head.{Head}
use Rattle.model.specs.declared.holdings.Part.{Part}

-- the place that has this number, which is one more; 0 is the number of none
abbrev pub place_numbered : ℕ → Option ℕ
place_numbered zero = None
place_numbered (suc i) = Some i

-- n is a count m of the buffer
abbrev pub IsCount : ℕ → ℕ → Type 0
IsCount m n = (n ≡ m) × (n < 65536)

-- how many pairs of a kind are counted
abbrev pub counted_pairs : Head → Kind → ℕ
counted_pairs h Subgraph = h.subgraph
counted_pairs h Translation = h.translation

-- h has the four counts of b
pub record IsHead (b : Bytes) (h : Head) : Type 0 where
  pub names : IsCount (name_count b) h.names
  pub own : IsCount (own_number b) h.own
  pub subgraph : IsCount (pair_count Subgraph b) h.subgraph
  pub translation : IsCount (pair_count Translation b) h.translation

-- p is where the body of the name at place i stands
abbrev pub IsPart : Bytes → ℕ → Part → Type 0
IsPart b i p = (p.start ≡ bodies_at b + body_start b i) × (p.size ≡ body_length b i)
