-- The parts of the test by name.
use mathlib.Core.Path.{◌≡◌}
use mathlib.Core.Bool.{true}
use Prim.Native.Nat.{◌+◌, ◌≤◌}
use lib.ListN.{length, drop}
use borrow.Author.Tests.{leb-true, le-leb, eqb-true, eq-eqb}
use Rattle.std.proofs.lemmas.Bool.{and_parts}
use Rattle.text.specs.Blocks.{all_zero}
use Rattle.model.specs.Bytes.{Bytes, compare_bytes}
use Rattle.model.specs.Record.{ascends, max_names, max_pairs, max_bodies_bytes}
use Rattle.record.specs.Test.{body_end, pairs_ok, is_used, every, entries_of, subgraph_of, translation_of, names_of, is_record}
use Rattle.model.specs.Layout.{name_count, own_number, pair_count, record_length, bodies_at}
use Rattle.model.specs.declared.Kind.TheVariants.{Subgraph, Translation}

pub record Held (b : Bytes) : Type 0 where
  pub long : length b ≡ record_length
  pub count : name_count b ≤ max_names
  pub own : own_number b ≤ name_count b
  pub subgraphs : pair_count Subgraph b ≤ max_pairs
  pub translations : pair_count Translation b ≤ max_pairs
  pub row : body_end 0 (entries_of b) ≤ max_bodies_bytes
  pub subgraph : pairs_ok (name_count b) (subgraph_of b) ≡ true
  pub translation : pairs_ok (name_count b) (translation_of b) ≡ true
  pub order : ascends compare_bytes (names_of b) ≡ true
  pub used : every (is_used (own_number b) (subgraph_of b) (translation_of b)) (name_count b) ≡ true
  pub rest : all_zero (drop (bodies_at b + body_end 0 (entries_of b)) b) ≡ true

pub held : (b : Bytes) → is_record b ≡ true → Held b
unfolding is_record
held b h =
    let (long, more) = and_parts _ _ h in
    let (count, more) = and_parts _ _ more in
    let (own, more) = and_parts _ _ more in
    let (subgraphs, more) = and_parts _ _ more in
    let (translations, more) = and_parts _ _ more in
    let (row, more) = and_parts _ _ more in
    let (subgraph, more) = and_parts _ _ more in
    let (translation, more) = and_parts _ _ more in
    let (order, more) = and_parts _ _ more in
    let (used, rest) = and_parts _ _ more in
    record {
      long = eqb-true _ _ long;
      count = leb-true _ _ count;
      own = leb-true _ _ own;
      subgraphs = leb-true _ _ subgraphs;
      translations = leb-true _ _ translations;
      row = leb-true _ _ row;
      subgraph = subgraph;
      translation = translation;
      order = order;
      used = used;
      rest = rest;
    }

pub held_record : (b : Bytes) → Held b → is_record b ≡ true
unfolding is_record
held_record b h =
    rw (
      eq-eqb (length b) record_length h.long,
      le-leb (name_count b) max_names h.count,
      le-leb (own_number b) (name_count b) h.own,
      le-leb (pair_count Subgraph b) max_pairs h.subgraphs,
      le-leb (pair_count Translation b) max_pairs h.translations,
      le-leb (body_end 0 (entries_of b)) max_bodies_bytes h.row,
      h.subgraph,
      h.translation,
      h.order,
      h.used,
    ) h.rest
