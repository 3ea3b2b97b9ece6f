-- What a buffer that passes the test shows is the meaning of the form that is read from it.
use mathlib.Core.Path.{◌≡◌, refl}
use mathlib.Core.List.{◌∷◌, map}
use Prim.Native.Nat.{ℕ, zero, suc, ◌+◌, ◌≤◌, ◌<◌}
use native.Mathlib.Omega.{arith}
use native.Mathlib.Nat.{sub-zero}
use lib.ListN.{drop}
use lib.Seq.{drop-drop}
use Rattle.model.specs.Bytes.{Bytes}
use Rattle.model.specs.Numbers.{number}
use Rattle.model.specs.Layout.{counts_length, entry_length, pair_length, name_count, own_number, pair_count, table_at, name_at, pairs_from, own_at, shown, bodies_at}
use Rattle.record.specs.Test.{rows_at, pairs_at, entries_of, subgraph_of, translation_of, names_of, Under}
use Rattle.record.proofs.Words.{length_rows_at, rows_at_step, get_or_rows_at}
use Rattle.record.proofs.Held.{Held}
use Rattle.record.proofs.Entries.{get_or_cut}
use Rattle.record.specs.Coded.{name_in, pair_in, own_in, meaning}
use Rattle.record.proofs.TestLaws.{pairs_ok_true}
use Rattle.record.proofs.Write.{read}
use Rattle.model.specs.declared.Kind.TheVariants.{Subgraph, Translation}

module _ (b : Bytes) (h : Held b) where
  pub name_at_names : (i : ℕ) → i < name_count b → name_at b i ≡ name_in (names_of b) i
  unfolding name_at
  name_at_names i k =
      let l = length_rows_at entry_length (name_count b) (drop counts_length b) in
      let X = drop (bodies_at b) b in
      rw (get_or_cut (entries_of b) 0 X i h.row (omega arith), get_or_rows_at entry_length (name_count b) counts_length b i k, sub-zero, drop-drop)

  own_at_names : (o : ℕ) → o ≤ name_count b → own_at b o ≡ own_in (names_of b) o
  own_at_names zero k = refl
  own_at_names (suc i) k = rw (name_at_names i k)

  pairs_from_names : (at k : ℕ) → Under (name_count b) (pairs_at k (drop at b)) → pairs_from b at k ≡ map (pair_in (names_of b)) (pairs_at k (drop at b))
  unfolding pairs_from Under
  pairs_from_names at zero u = unfold rows_at in refl
  pairs_from_names at (suc k) u =
      let v : Under (name_count b) ((number b at, number b (at + 2)) ∷ pairs_at k (drop (at + pair_length) b)) = rw (rows_at_step pair_length k at b) at u in
      rw (
        rows_at_step pair_length k at b,
        name_at_names (number b at) v.0,
        name_at_names (number b (at + 2)) v.1,
        pairs_from_names (at + pair_length) k v.2,
      )

  pub shown_meaning : shown b ≡ meaning (read b)
  unfolding shown
  shown_meaning i = record {
    name = own_at_names (own_number b) h.own i;
    subgraph = pairs_from_names (table_at Subgraph b) (pair_count Subgraph b) ((pairs_ok_true (name_count b) (subgraph_of b)).0 h.subgraph).0 i;
    translation = pairs_from_names (table_at Translation b) (pair_count Translation b) ((pairs_ok_true (name_count b) (translation_of b)).0 h.translation).0 i;
  }
