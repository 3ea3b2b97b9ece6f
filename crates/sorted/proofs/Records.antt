-- What is known of a buffer that decodes: what holds in it, its sizes, its names and how many pairs it has.
use mathlib.Core.Path.{◌≡◌, refl, sym, ap, ◌∙◌}
use mathlib.Core.Bool.{true, false≢true}
use Rattle.std.specs.Prelude.{Option, Some, None}
use Prim.Native.Nat.{ℕ, zero, suc, ◌+◌, ◌*◌, ◌≤◌, ◌<◌}
use native.Mathlib.Omega.{arith}
use lib.Dec.{lit≤}
use lib.ListN.{length, drop, length-drop}
use lib.Seq.{length-take-le}
use Rattle.model.specs.Bytes.{Bytes}
use Rattle.model.specs.Record.{GraphName, names, max_name_bytes, max_names}
use Rattle.model.specs.Layout.{record_length, name_count, own_number, pair_length, body_start, body_length, bodies_at, name_at, shown, decode, pair_count, table_at}
use Rattle.model.specs.Questions.{pairs_of}
use Rattle.model.specs.Opening.{is_some}
use Rattle.model.specs.Outcome.{name_or}
use Rattle.model.specs.declared.Kind.{Kind}
use Rattle.model.specs.declared.Kind.TheVariants.{Subgraph, Translation}
use Rattle.std.specs.Option.{option_map}
use Rattle.record.specs.Reader.{place_numbered}
use Rattle.record.specs.Test.{names_of}
use Rattle.record.proofs.Held.{Held}
use Rattle.record.proofs.Laws.{decoded, decode_held, decode_shown}
use Rattle.record.proofs.Own.{own_shown}
use Rattle.record.proofs.Access.{name_within, record_names, record_count, record_pair_count}
use Rattle.record.proofs.Sizes.{Sizes, judge_sizes}
use Rattle.sorted.specs.Loading.{sizes_of, Limited}

module _ (b : Bytes) (v : is_some (decode b) ≡ true) where
  pub decodes : decode b ≡ Some (shown b)
  decodes = go (decode b) refl v
    where
      go : (o : Option GraphName) → decode b ≡ o → is_some o ≡ true → decode b ≡ Some (shown b)
      go None e t = absurd (false≢true t)
      go (Some g) e t = e ∙ ap Some (sym (decode_shown b g e))

  pub is_held : Held b
  is_held = decode_held b (shown b) decodes

  pub sizes_within : Sizes (shown b)
  sizes_within = judge_sizes (shown b) (decoded b (shown b) decodes).0.sizes

  pub sizes_limited : Limited (sizes_of (shown b))
  sizes_limited = let s = sizes_within in record { names = s.count; bytes = s.room; subgraph = s.subgraphs; translation = s.translations }

  pub shown_names : names (shown b) ≡ names_of b
  shown_names = record_names b (shown b) decodes

  pub shown_count : length (names (shown b)) ≡ name_count b
  shown_count = record_count b (shown b) decodes

  -- a name's bytes are few
  pub name_short : (i : ℕ) → i < name_count b → length (name_at b i) ≤ max_name_bytes
  unfolding name_at
  name_short i h =
      let w = name_within b (shown b) decodes i h in
      let l = is_held.long in
      rw (length-take-le (body_length b i) (drop (bodies_at b + body_start b i) b) (rw length-drop (omega arith)))
      w.1

  -- how many pairs of a kind there are
  pub pairs_counted : (k : Kind) → length (pairs_of k (shown b)) ≡ pair_count k b
  pairs_counted k = record_pair_count b (shown b) decodes k

  -- which stand within the buffer
  pub pair_inside : (k : Kind) (i : ℕ) → i < pair_count k b → table_at k b + pair_length * i + pair_length ≤ length b
  pair_inside Subgraph i h = omega (arith, is_held.long, is_held.count, is_held.subgraphs)
  pair_inside Translation i h = omega (arith, is_held.long, is_held.count, is_held.subgraphs, is_held.translations)

-- what calls that read a record ask: how long it is, and how far its counts go
module _ (b : Bytes) (v : is_some (decode b) ≡ true) where
  pub held_long : length b ≡ record_length
  held_long = (is_held b v).long

  pub held_count : name_count b ≤ max_names
  held_count = (is_held b v).count

  pub held_own : own_number b ≤ name_count b
  held_own = (is_held b v).own

pub ruleset held = (held_long, held_count, held_own, pair_inside, length-take-le)

-- the own name is short, where there is one
pub own_short : (b : Bytes) → is_some (decode b) ≡ true → length (name_or (shown b).name) ≤ max_name_bytes
own_short b v = rw (own_shown b) (go (own_number b) refl)
  where
    go : (own : ℕ) → own_number b ≡ own → length (name_or (option_map (name_at b) (place_numbered own))) ≤ max_name_bytes
    go zero e = lit≤ tt
    go (suc i) e = name_short b v i (omega (arith, (is_held b v).own))
