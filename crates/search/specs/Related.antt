-- What the lists of a question stand for.
use Rattle.std.specs.Prelude.{◌≡◌, ◌⊎◌, ◌↔◌}
use mathlib.Core.List.{List, Memᴰ}
use Rattle.model.specs.declared.Kind.{Kind}
use Rattle.model.specs.declared.Kind.TheVariants.{Subgraph, Translation}
use Rattle.model.specs.Bytes.{Bytes}
use Rattle.model.specs.Record.{Pair, compare_pairs}
use Rattle.model.specs.Path.{Relations}
use Rattle.model.specs.Statements.{Ascending, Relation}

abbrev pub pair_of : Bytes → Bytes → Pair
pair_of a n = record { from = a; to = n }

abbrev pub related : Relations → Relation
related r Subgraph a n = Memᴰ (pair_of a n) r.subgraphs
related r Translation a n = Memᴰ (pair_of a n) r.translations

-- the lists of r are ascending and stand for R
pub record StandsFor (r : Relations) (R : Relation) : Type 0 where
  pub subgraphs : Ascending compare_pairs r.subgraphs
  pub translations : Ascending compare_pairs r.translations
  pub same : (k : Kind) (n m : Bytes) → related r k n m ↔ R k n m

-- the relations of a list of pairs of one kind
abbrev pub of_kind : Kind → List Pair → Relation
of_kind kind ps k a b = (k ≡ kind) × Memᴰ (pair_of a b) ps

-- the relations of either
abbrev pub either : Relation → Relation → Relation
either R S k a b = R k a b ⊎ S k a b
