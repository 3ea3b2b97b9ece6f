-- A change of a record: the pairs of another, if it is merged, and one pair more, if there is one. The room that it takes.
use Rattle.std.specs.Prelude.{◌≡◌, true, ℕ, ◌+◌, ◌*◌, ◌≤◌, ◌<◌, length, Option, Some, None}
use Rattle.model.specs.Bytes.{Bytes}
use Rattle.model.specs.Record.{GraphName, with_pair, max_name_bytes}
use Rattle.model.specs.Layout.{shown, decode}
use Rattle.model.specs.Opening.{is_some}
use Rattle.model.specs.Outcome.{Outcome, kept_or}
use Rattle.std.specs.Option.{IfSome}
use Rattle.sorted.specs.declared.putting.Sizes.{Sizes}
use Rattle.sorted.specs.Tables.{Tables, graph_in}
use Rattle.sorted.specs.Loading.{Good}
use Rattle.edit.specs.declared.changing.Relation.{Relation}
use Rattle.edit.specs.Merging.{merged}

-- with a pair more, if there is one
abbrev pub paired : Option Relation → GraphName → GraphName
paired None g = g
paired (Some p) g = with_pair p.kind (record { from = p.from.now; to = p.to.now }) g

-- what a change gives: a number, and the buffer then
abbrev pub change_of : Bytes → Option GraphName → Option Relation → Outcome
change_of b other pair = kept_or b (paired pair (merged other (shown b)))

-- both names of a relation are short
pub record ShortNames (p : Relation) : Type 0 where
  pub from : length p.from.now ≤ max_name_bytes
  pub to : length p.to.now ≤ max_name_bytes

-- what is known of the arguments: a record, and two short names if a pair is put in
pub record Changeable (b : Bytes) (pair : Option Relation) : Type 0 where
  pub own : is_some (decode b) ≡ true
  pub short : IfSome pair ShortNames

-- tables for so many names, pairs of each kind and bytes have room for two graph names of these sizes, and for a pair more with its two
-- names
pub record ChangeRoom (s t : Sizes) (names pairs bytes : ℕ) : Type 0 where
  pub count : s.names + t.names + 2 ≤ names
  pub room : s.bytes + t.bytes + 2 * max_name_bytes ≤ bytes
  pub subgraph : s.subgraph + t.subgraph + 1 ≤ pairs
  pub translation : s.translation + t.translation + 1 ≤ pairs
  pub few : names < 65536
  pub fewer : pairs < 65536
  pub small : bytes < 65536

-- two graph names of these sizes fit the small tables together
pub record FitSmall (s t : Sizes) : Type 0 where
  pub names : s.names + t.names ≤ 128
  pub bytes : s.bytes + t.bytes ≤ 8192
  pub subgraph : s.subgraph + t.subgraph ≤ 128
  pub translation : s.translation + t.translation ≤ 128

-- u are the tables t with a pair more, if there is one
pub record Paired (pair : Option Relation) (t u : Tables) : Type 0 where
  pub good : (own : Option Bytes) → Good own t → Good own u
  pub graph : graph_in u ≡ paired pair (graph_in t)
