-- A change made in the tables: the room that it has, a pair more, and what the tables show then.
use mathlib.Core.Path.{◌≡◌, refl, ap, ◌∙◌}
use Prim.Native.Nat.{ℕ}
use native.Mathlib.Omega.{arith}
use lib.ListN.{length}
use Rattle.std.specs.Prelude.{Option, Some, None}
use Rattle.std.specs.Borrow.{Bor}
use Rattle.std.specs.Option.{IfSome, option_copied}
use Rattle.model.specs.Bytes.{Bytes}
use Rattle.model.specs.declared.Kind.{Kind}
use Rattle.model.specs.declared.Kind.TheVariants.{Subgraph, Translation}
use Rattle.model.specs.Record.{Pair, GraphName, with_pair}
use Rattle.sorted.specs.Tables.{Tables, graph_in, Kept, PairPut}
use Rattle.sorted.specs.Loading.{sizes_of, owned, Loaded}
use Rattle.tables.specs.Merging.{MergeRoom}
use Rattle.edit.specs.declared.changing.Relation.{Relation}
use Rattle.edit.specs.Merging.{merged, merged_sizes, Merged}
use Rattle.edit.specs.Changing.{paired, ChangeRoom, Paired}
use Rattle.tables.proofs.Judge.{good_put}
use Rattle.tables.proofs.Merge.{all_count, all_bytes}

-- the room for a change is room for the other record
module _ (n k m : ℕ) where
  pub merge_room : (h : GraphName) (u : Tables) → Kept u → ChangeRoom u.sizes (sizes_of h) n k m → MergeRoom n k m u h (length h.subgraph) (length h.translation)
  merge_room h u kept r = record {
    count = omega (arith, all_count u h kept, r.count);
    room = omega (arith, all_bytes u h kept, r.room);
    subgraph = omega (arith, r.subgraph);
    translation = omega (arith, r.translation);
  }

  pub merge_rooms : (other : Option (Bor GraphName)) (u : Tables) → Kept u → ChangeRoom u.sizes (merged_sizes (option_copied other)) n k m
      → IfSome other (λ h. MergeRoom n k m u h.now (length h.now.subgraph) (length h.now.translation))
  merge_rooms None u kept r = tt
  merge_rooms (Some h) u kept r = merge_room h.now u kept r

-- a pair more
pub paired_put : (p : Relation) (u w : Tables) → PairPut p.kind u p.from.now p.to.now w → Paired (Some p) u w
paired_put p u w put = record { good = λ own g. good_put own p.kind u w p.from.now p.to.now g put; graph = put.graph }

-- an own name is kept apart from the pairs
owned_merged : (own : Option Bytes) (other : Option GraphName) (g : GraphName) → owned own (merged other g) ≡ merged other (owned own g)
owned_merged own None g = refl
owned_merged own (Some h) g = refl

owned_paired : (own : Option Bytes) (pair : Option Relation) (g : GraphName) → owned own (paired pair g) ≡ paired pair (owned own g)
owned_paired own None g = refl
owned_paired own (Some p) g = owned_pair p.kind (record { from = p.from.now; to = p.to.now })
  where
    owned_pair : (kind : Kind) (q : Pair) → owned own (with_pair kind q g) ≡ with_pair kind q (owned own g)
    owned_pair Subgraph q = refl
    owned_pair Translation q = refl

-- what the tables show after all steps, with the own name, is the record changed
pub changed : (g : GraphName) (other : Option GraphName) (pair : Option Relation) (t u w : Tables) → Loaded g t → Merged other t u → Paired pair u w
    → owned g.name (graph_in w) ≡ paired pair (merged other g)
changed g other pair t u w loaded merging pairing =
    ap (owned g.name) (pairing.graph ∙ ap (paired pair) (merging.graph ∙ ap (merged other) loaded.graph))
    ∙ owned_paired g.name pair (merged other (owned None g))
    ∙ ap (paired pair) (owned_merged g.name other (owned None g))
