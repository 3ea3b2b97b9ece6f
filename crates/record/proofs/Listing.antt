-- The pairs of a record as their names, one by one: the rows of the table give the places, and each is a place of a name.
use mathlib.Core.Path.{◌≡◌, refl}
use mathlib.Core.Bool.{false}
use mathlib.Core.List.{List, [], ◌∷◌, map}
use Prim.Native.Nat.{ℕ, zero, suc, ◌+◌, ◌≤◌, ◌<◌}
use native.Mathlib.Omega.{arith}
use lib.ListN.{length, drop}
use Rattle.std.specs.Prelude.{All, Option, None, Some, MatchOption}
use Rattle.std.proofs.lemmas.List.Elements.{All-nil, All-cons, All-head, All-tail}
use Rattle.model.specs.declared.Kind.{Kind}
use Rattle.model.specs.declared.Kind.TheVariants.{Subgraph, Translation}
use Rattle.model.specs.Bytes.{Bytes}
use Rattle.model.specs.Record.{names, any_long}
use Rattle.model.specs.Layout.{pair_length, entry_length, entry_at, name_count, name_at, pairs_from, shown, pair_count, table_at, bodies_at}
use Rattle.model.specs.Questions.{pairs_of}
use Rattle.record.specs.Test.{rows_at, pairs_at, Under}
use Rattle.record.specs.Pairs.{named}
use Rattle.record.specs.Holds.{HoldsRecord, BothBelow, PairsIn}
use Rattle.record.proofs.Access.{pairs_placed}
use Rattle.record.proofs.Laws.{decoded}
use Rattle.record.proofs.Sizes.{judge_sizes}
use Rattle.record.proofs.Words.{rows_at_step}

-- the rows from byte `at` on, by the names that they mean
rows_named : (b : Bytes) (at n : ℕ) → map (named b) (pairs_at n (drop at b)) ≡ pairs_from b at n
unfolding pairs_from
rows_named b at zero = unfold rows_at in refl
rows_named b at (suc n) = rw (rows_at_step pair_length n at b, rows_named b (at + pair_length) n) refl

pub kind_named : (b : Bytes) (k : Kind) → map (named b) (pairs_at (pair_count k b) (drop (table_at k b) b)) ≡ pairs_of k (shown b)
unfolding shown
kind_named b Subgraph = rows_named b (table_at Subgraph b) (pair_count Subgraph b)
kind_named b Translation = rows_named b (table_at Translation b) (pair_count Translation b)

pub short_held : (b : Bytes) → HoldsRecord b → any_long (names (shown b)) ≡ false
short_held b r = (judge_sizes (shown b) (decoded b (shown b) r.decoded).0.sizes).short

places_all : (n : ℕ) (rows : List (ℕ × ℕ)) → Under n rows → All (BothBelow n) rows
unfolding Under
places_all n [] u = All-nil (BothBelow n)
places_all n (p ∷ ps) u = All-cons (BothBelow n) p ps (u.0, u.1) (places_all n ps u.2)

pub pairs_held : (b : Bytes) → HoldsRecord b → (k : Kind) (bodies : ℕ) (rows : List (ℕ × ℕ)) → bodies ≡ bodies_at b → bodies < 4294967296
    → rows ≡ pairs_at (pair_count k b) (drop (table_at k b) b) → PairsIn b bodies rows
pairs_held b r k bodies rows e near d =
    record { start = e; near = near; entries = omega (arith, r.long, r.count); places = rw d (places_all _ _ (pairs_placed b (shown b) r.decoded k)) }

-- ------------------------------------------------------------------ one by one

module _ (b : Bytes) {rows rest : List (ℕ × ℕ)} {x y : ℕ} (e : rows ≡ (x, y) ∷ rest) where
  pub pairs_first : (from to : Bytes) → from ≡ name_at b x → to ≡ name_at b y → map (named b) rows ≡ record { from = from; to = to } ∷ map (named b) rest
  pairs_first from to f g = rw (e, f, g) refl

  module _ (bodies : ℕ) (within : PairsIn b bodies rows) where
    places : All (BothBelow (name_count b)) ((x, y) ∷ rest)
    places = rw e at within.places

    first : BothBelow (name_count b) (x, y)
    first = All-head (BothBelow (name_count b)) (x, y) rest places

    pub has_from : entry_at x + entry_length ≤ length b
    has_from = omega (arith, first.0, within.entries)

    pub has_to : entry_at y + entry_length ≤ length b
    has_to = omega (arith, first.1, within.entries)

    has_rest : PairsIn b bodies rest
    has_rest = record { start = within.start; near = within.near; entries = within.entries; places = All-tail (BothBelow (name_count b)) (x, y) rest places }

pub pairs_none : (b : Bytes) {rows : List (ℕ × ℕ)} → rows ≡ [] → map (named b) rows ≡ []
pairs_none b e = rw e refl

-- what holds of the rows holds of those that a step leaves
pub has_left : (b : Bytes) {rows rest : List (ℕ × ℕ)} (r : Option (ℕ × ℕ)) → MatchOption r ((rows ≡ []) × (rest ≡ [])) (λ x. rows ≡ x ∷ rest)
    → (bodies : ℕ) → PairsIn b bodies rows → PairsIn b bodies rest
has_left b None m bodies within = rw (m.1, ← m.0) within
has_left b (Some p) m bodies within = has_rest b m bodies within

pub ruleset read = (pairs_none, pairs_first, has_from, has_to)
