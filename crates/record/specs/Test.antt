-- The test of a buffer, part by part: what the check of a record goes through, in its order. That the whole says what `decode` says is
-- a law.
use Rattle.std.specs.Prelude.{Bool, true, false, cond, ◌&&◌, ◌||◌, List, [], ◌∷◌, ℕ, zero, suc, ◌+◌, ◌*◌, ◌<◌, length, take, drop, set, get_or, leb, ltb, eqb, Option, Some, None}
use Rattle.text.specs.Blocks.{all_zero}
use Rattle.model.specs.declared.Kind.TheVariants.{Subgraph, Translation}
use Rattle.std.specs.declared.cmp.Ordering.{Ordering}
use Rattle.model.specs.Bytes.{Bytes, by_order, compare_bytes}
use Rattle.model.specs.Numbers.{number}
use Rattle.model.specs.Record.{ascends, max_name_bytes, max_names, max_pairs, max_bodies_bytes}
use Rattle.model.specs.Layout.{record_length, counts_length, entry_length, pair_length, entry_at, bodies_after, name_count, own_number, pair_count, table_at, bodies_at}

-- the first two numbers of each of the n rows of `width` bytes at the front of b
unfoldable pub rows_at : ℕ → ℕ → Bytes → List (ℕ × ℕ)
rows_at width zero b = []
rows_at width (suc n) b = (number b 0, number b 2) ∷ rows_at width n (drop width b)

-- start and length of n names, by the entries at the front of b
abbrev pub entries_at : ℕ → Bytes → List (ℕ × ℕ)
entries_at n b = rows_at entry_length n b

-- the places of n pairs at the front of b
abbrev pub pairs_at : ℕ → Bytes → List (ℕ × ℕ)
pairs_at n b = rows_at pair_length n b

-- every number of the pairs is below n
unfoldable pub Under : ℕ → List (ℕ × ℕ) → Type 0
Under n [] = Unit {0}
Under n (p ∷ ps) = (p.0 < n) × (p.1 < n) × Under n ps

-- where the bodies end, counted from the first, if the entries leave no gap and no name is long; else a record's length
unfoldable pub body_end : ℕ → List (ℕ × ℕ) → ℕ
body_end at [] = at
body_end at (e ∷ es) = cond (eqb e.0 at && leb e.1 max_name_bytes) (body_end (at + e.1) es) record_length

-- the end of bodies, if it is within the most bytes that they take; a record's length is not
unfoldable pub end_within : ℕ → Option ℕ
end_within end = cond (leb end max_bodies_bytes) (Some end) None

-- the names, cut off the front of the bodies by their lengths
unfoldable pub cut : List (ℕ × ℕ) → Bytes → List Bytes
cut [] b = []
cut (e ∷ es) b = take e.1 b ∷ cut es (drop e.1 b)

abbrev pub is_less : Ordering → Bool
is_less o = by_order o true false false

-- (a, b) comes before (c, d)
abbrev pub pair_less : ℕ → ℕ → ℕ → ℕ → Bool
pair_less a b c d = ltb a c || eqb a c && ltb b d

abbrev pub before : ℕ → ℕ → List (ℕ × ℕ) → Bool
before a b [] = true
before a b (q ∷ qs) = pair_less a b q.0 q.1

-- the first pair is of places below n, and comes before the next
abbrev pub pair_ok : ℕ → List (ℕ × ℕ) → Bool
pair_ok n [] = true
pair_ok n (p ∷ ps) = ltb p.0 n && (ltb p.1 n && before p.0 p.1 ps)

unfoldable pub pairs_ok : ℕ → List (ℕ × ℕ) → Bool
pairs_ok n [] = true
pairs_ok n (p ∷ ps) = pair_ok n (p ∷ ps) && pairs_ok n ps

-- place i stands in a pair
unfoldable pub has_place : ℕ → List (ℕ × ℕ) → Bool
has_place i [] = false
has_place i (p ∷ ps) = eqb p.0 i || (eqb p.1 i || has_place i ps)

-- place i is the own place, whose number is one more, or stands in a pair of either kind
unfoldable pub is_used : ℕ → List (ℕ × ℕ) → List (ℕ × ℕ) → ℕ → Bool
is_used own ps qs i = eqb own (i + 1) || has_place i ps || has_place i qs

-- f holds at every number below n
unfoldable pub every : (ℕ → Bool) → ℕ → Bool
every f zero = true
every f (suc n) = every f n && f n

-- a byte of 1 at each place of the pairs, in the order of the pairs
unfoldable pub marks : List (ℕ × ℕ) → Bytes → Bytes
marks [] m = m
marks (p ∷ ps) m = marks ps (set (set m p.0 1) p.1 1)

-- a byte of 1 at the own place, whose number is one more
abbrev pub mark_own : ℕ → Bytes → Bytes
mark_own zero m = m
mark_own (suc i) m = set m i 1

abbrev pub is_one : Bytes → ℕ → Bool
is_one m i = eqb (get_or m i 0) 1

-- ------------------------------------------------------------------ the parts of a buffer

abbrev pub entries_of : Bytes → List (ℕ × ℕ)
entries_of b = entries_at (name_count b) (drop counts_length b)

abbrev pub subgraph_of : Bytes → List (ℕ × ℕ)
subgraph_of b = pairs_at (pair_count Subgraph b) (drop (table_at Subgraph b) b)

abbrev pub translation_of : Bytes → List (ℕ × ℕ)
translation_of b = pairs_at (pair_count Translation b) (drop (table_at Translation b) b)

abbrev pub names_of : Bytes → List Bytes
names_of b = cut (entries_of b) (drop (bodies_at b) b)

abbrev pub counts_ok : ℕ → ℕ → ℕ → ℕ → Bool
counts_ok n own s t = leb n max_names && (leb own n && (leb s max_pairs && leb t max_pairs))

-- the pairs of both kinds are right, the names ascend, and all are used
unfoldable pub tables_ok : Bytes → ℕ → ℕ → ℕ → ℕ → Bool
tables_ok b n own s t =
    let ps = pairs_at s (drop (entry_at n) b) in
    let qs = pairs_at t (drop (entry_at n + pair_length * s) b) in
    pairs_ok n ps && (pairs_ok n qs && (ascends compare_bytes (cut (entries_at n (drop counts_length b)) (drop (bodies_after n (s + t)) b)) && every (is_used own ps qs) n))

unfoldable pub is_record : Bytes → Bool
is_record b =
    eqb (length b) record_length
    && (leb (name_count b) max_names
    && (leb (own_number b) (name_count b)
    && (leb (pair_count Subgraph b) max_pairs
    && (leb (pair_count Translation b) max_pairs
    && (leb (body_end 0 (entries_of b)) max_bodies_bytes
    && (pairs_ok (name_count b) (subgraph_of b)
    && (pairs_ok (name_count b) (translation_of b)
    && (ascends compare_bytes (names_of b)
    && (every (is_used (own_number b) (subgraph_of b) (translation_of b)) (name_count b)
    && all_zero (drop (bodies_at b + body_end 0 (entries_of b)) b))))))))))
