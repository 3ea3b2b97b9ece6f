-- The record's bytes (docs/FORMAT.md, "Records"): its sizes and offsets, a meaning as bytes, and bytes as a meaning.
use Rattle.std.specs.Prelude.{◌≡◌, refl, cond, ◌&&◌, List, [], ◌∷◌, ◌++◌, ℕ, zero, suc, ◌+◌, ◌-◌, ◌*◌, length, take, drop, replicate, Option, Some, None}
use Rattle.model.specs.declared.Kind.{Kind}
use Rattle.model.specs.declared.Kind.TheVariants.{Subgraph, Translation}
use Rattle.model.specs.Bytes.{Bytes, same_bytes}
use Rattle.model.specs.Numbers.{le16, number}
use Rattle.model.specs.Record.{max_names, max_pairs, max_bodies_bytes, Pair, GraphName, names, bodies, is_valid}

-- ------------------------------------------------------------------ sizes: no other definition knows these numbers

-- every record buffer has this length
abbrev pub record_length : ℕ
record_length = 32768

-- the four counts
abbrev pub counts_length : ℕ
counts_length = 8

-- start and length of a name
abbrev pub entry_length : ℕ
entry_length = 4

-- two places
abbrev pub pair_length : ℕ
pair_length = 4

-- where entry i begins; the pairs begin where the entry after the last would
abbrev pub entry_at : ℕ → ℕ
entry_at i = counts_length + entry_length * i

-- where the bodies begin, after n entries and k pairs of both kinds together
abbrev pub bodies_after : ℕ → ℕ → ℕ
bodies_after n k = entry_at n + pair_length * k

-- a record has room for the most names and the most pairs of both kinds, and no byte more
pub record_length_lem : record_length ≡ bodies_after max_names (2 * max_pairs) + max_bodies_bytes
record_length_lem = refl

-- ------------------------------------------------------------------ a meaning as bytes

-- the place of x, or the length where it is not there
unfoldable pub place_of : Bytes → List Bytes → ℕ
place_of x [] = 0
place_of x (n ∷ ns) = cond (same_bytes x n) 0 (suc (place_of x ns))

-- start and length of each name, the first at `start`
unfoldable pub entries : ℕ → List Bytes → Bytes
entries start [] = []
entries start (n ∷ ns) = le16 start ++ le16 (length n) ++ entries (start + length n) ns

unfoldable pub pair_places : List Bytes → List Pair → Bytes
pair_places ns [] = []
pair_places ns (p ∷ ps) = le16 (place_of p.from ns) ++ le16 (place_of p.to ns) ++ pair_places ns ps

abbrev pub own_place : List Bytes → Option Bytes → ℕ
own_place ns None = 0
own_place ns (Some n) = suc (place_of n ns)

-- the record without its trailing zeros
unfoldable pub contents : GraphName → Bytes
contents g =
    le16 (length (names g)) ++ le16 (own_place (names g) g.name) ++ le16 (length g.subgraph) ++ le16 (length g.translation)
    ++ entries 0 (names g) ++ pair_places (names g) g.subgraph ++ pair_places (names g) g.translation ++ bodies (names g)

unfoldable pub encode : GraphName → Bytes
encode g = contents g ++ replicate (record_length - length (contents g)) 0

-- where the body of a name stands in the record
unfoldable pub body_of : GraphName → Bytes → ℕ
body_of g n =
    bodies_after (length (names g)) (length g.subgraph + length g.translation) + length (bodies (take (place_of n (names g)) (names g)))

-- ------------------------------------------------------------------ bytes as a meaning

-- the four counts: names; the own name's place and one more, or 0 for none; pairs of each kind
abbrev pub name_count : Bytes → ℕ
name_count b = number b 0

abbrev pub own_number : Bytes → ℕ
own_number b = number b 2

abbrev pub pair_count : Kind → Bytes → ℕ
pair_count Subgraph b = number b 4
pair_count Translation b = number b 6

-- start and length of the body at place i, the start counted from the first body
abbrev pub body_start : Bytes → ℕ → ℕ
body_start b i = number b (entry_at i)

abbrev pub body_length : Bytes → ℕ → ℕ
body_length b i = number b (entry_at i + 2)

-- where the pairs of a kind begin, and where the bodies do
abbrev pub table_at : Kind → Bytes → ℕ
table_at Subgraph b = entry_at (name_count b)
table_at Translation b = entry_at (name_count b) + pair_length * pair_count Subgraph b

abbrev pub bodies_at : Bytes → ℕ
bodies_at b = bodies_after (name_count b) (pair_count Subgraph b + pair_count Translation b)

-- the places of the two names of the pair at byte `at`
abbrev pub from_place : Bytes → ℕ → ℕ
from_place b at = number b at

abbrev pub to_place : Bytes → ℕ → ℕ
to_place b at = number b (at + 2)

-- what a buffer would mean, were it a record: read straight off, with no test
unfoldable pub name_at : Bytes → ℕ → Bytes
name_at b i = take (body_length b i) (drop (bodies_at b + body_start b i) b)

abbrev pub pair_at : Bytes → ℕ → Pair
pair_at b at = record { from = name_at b (from_place b at); to = name_at b (to_place b at) }

unfoldable pub pairs_from : Bytes → ℕ → ℕ → List Pair
pairs_from b at zero = []
pairs_from b at (suc k) = pair_at b at ∷ pairs_from b (at + pair_length) k

abbrev pub own_at : Bytes → ℕ → Option Bytes
own_at b zero = None
own_at b (suc i) = Some (name_at b i)

unfoldable pub shown : Bytes → GraphName
shown b = record {
  name = own_at b (own_number b);
  subgraph = pairs_from b (table_at Subgraph b) (pair_count Subgraph b);
  translation = pairs_from b (table_at Translation b) (pair_count Translation b);
}

-- a buffer is a record exactly if what it shows is valid and it is the encoding of that
unfoldable pub decode : Bytes → Option GraphName
decode b = cond (is_valid (shown b) && same_bytes (encode (shown b)) b) (Some (shown b)) None
