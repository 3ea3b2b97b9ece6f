-- What the questions about a record give, from its bytes: a refusal where the buffer is no record, else the values that stand at known places.
use mathlib.Core.Path.{◌≡◌, refl, sym, ap, ◌∙◌}
use mathlib.Core.List.{List, [], ◌∷◌}
use Rattle.std.specs.Prelude.{Some, None, slice_get}
use Prim.Native.Nat.{ℕ, zero, suc, ◌+◌, ◌*◌, ◌≤◌, ◌<◌}
use native.Mathlib.Omega.{arith}
use native.Mathlib.Nat.{add-zero, add_assoc, zero-add}
use lib.ListN.{length, take, drop, get_or, length-append, length-drop}
use Rattle.model.specs.declared.Kind.{Kind}
use Rattle.model.specs.declared.Kind.TheVariants.{Subgraph, Translation}
use Rattle.model.specs.Bytes.{Bytes}
use Rattle.model.specs.Numbers.{number}
use Rattle.model.specs.Record.{Pair, GraphName, names, bodies}
use Rattle.model.specs.Layout.{body_of, counts_length, entry_length, pair_length, body_length, body_start, name_count, own_number, own_at, decode, bodies_at, pair_count, table_at}
use Rattle.model.specs.declared.holdings.Part.{Part}
use Rattle.model.specs.declared.holdings.PairParts.{PairParts}
use Rattle.model.specs.Questions.{part_of, mapped, pair_parts, pairs_of}
use Rattle.record.specs.Test.{entries_of}
use Rattle.record.proofs.Words.{get_or_rows_at}
use Rattle.record.specs.Coded.{spans}
use Rattle.record.proofs.Entries.{cut_holds}
use Rattle.record.proofs.Places.{place_of_name}
use Rattle.record.proofs.Names.{names_ascending}
use Rattle.record.proofs.Laws.{decode_held}
use Rattle.record.proofs.Access.{record_names, record_count, record_name, record_own, record_pair_count, record_pair, pair_within}

-- ------------------------------------------------------------------ places

get_elem_in : {A : Type 0} (xs : List A) (i : ℕ) (d : A) → i < length xs → slice_get xs i ≡ Some (get_or xs i d)
get_elem_in [] i d h = absurd (omega arith)
get_elem_in (x ∷ xs) zero d h = refl
get_elem_in (x ∷ xs) (suc i) d h = get_elem_in xs i d (omega arith)

get_elem_out : {A : Type 0} (xs : List A) (i : ℕ) → length xs ≤ i → slice_get xs i ≡ None
get_elem_out [] zero h = refl
get_elem_out [] (suc i) h = refl
get_elem_out (x ∷ xs) zero h = absurd (omega arith)
get_elem_out (x ∷ xs) (suc i) h = get_elem_out xs i (omega arith)

get_or_spans : (start : ℕ) (ns : List Bytes) (i : ℕ) → i < length ns → get_or (spans start ns) i (0, 0) ≡ (start + length (bodies (take i ns)), length (get_or ns i []))
unfolding spans
get_or_spans start [] i h = absurd (omega arith)
get_or_spans start (n ∷ ns) zero h = rw add-zero
get_or_spans start (n ∷ ns) (suc i) h =
    get_or_spans (start + length n) ns i (omega arith) ∙ rw (length-append n (bodies (take i ns)), add_assoc)

-- where a part begins and how long it is, by the entry at place i
abbrev pub entry_part : Bytes → ℕ → Part
entry_part b i = record { start = bodies_at b + body_start b i; size = body_length b i }

abbrev pub entry_parts : Bytes → ℕ → ℕ → PairParts
entry_parts b i j = record { from = entry_part b i; to = entry_part b j }

module _ (b : Bytes) (g : GraphName) (e : decode b ≡ Some g) where
  entry_at : (i : ℕ) → i < name_count b
      → (body_start b i ≡ length (bodies (take i (names g)))) × (body_length b i ≡ length (get_or (names g) i []))
  entry_at i k =
      let h = decode_held b g e in
      let es = (cut_holds (entries_of b) 0 (drop (bodies_at b) b) h.row (rw length-drop (omega arith))).entries in
      let p =
      sym (get_or_rows_at entry_length (name_count b) counts_length b i k)
      ∙ ap (λ (l : List (ℕ × ℕ)). get_or l i (0, 0)) (sym es ∙ ap (spans 0) (sym (record_names b g e)))
      ∙ get_or_spans 0 (names g) i (rw (record_count b g e) k) in
      (ap (λ (q : ℕ × ℕ). q.0) p ∙ zero-add _, ap (λ (q : ℕ × ℕ). q.1) p)

  pub part_at : (i : ℕ) → i < name_count b → part_of g (get_or (names g) i []) ≡ entry_part b i
  unfolding part_of body_of
  part_at i k =
      let l : i < length (names g) = rw (record_count b g e) k in
      let entry = entry_at i k in
      rw (place_of_name (names g) i (names_ascending g) l, record_count b g e, record_pair_count b g e Subgraph, record_pair_count b g e Translation, entry.0, entry.1)

  pub name_in_lem : (i : ℕ) → i < name_count b → mapped (part_of g) (slice_get (names g) i) ≡ Some (entry_part b i)
  name_in_lem i k = rw (get_elem_in (names g) i [] (rw (record_count b g e) k), part_at i k)

  pub name_out : (i : ℕ) → name_count b ≤ i → mapped (part_of g) (slice_get (names g) i) ≡ None
  name_out i k = rw (get_elem_out (names g) i (rw (record_count b g e) k))

  pub own_in_lem : (i : ℕ) → own_number b ≡ suc i → mapped (part_of g) g.name ≡ Some (entry_part b i)
  own_in_lem i k =
      let l : i < name_count b = omega (arith, (decode_held b g e).own) in
      ap (mapped (part_of g)) (record_own b g e ∙ ap (own_at b) k) ∙ ap Some (ap (part_of g) (sym (record_name b g e i l)) ∙ part_at i l)

  pub own_out : own_number b ≡ 0 → g.name ≡ None
  own_out k = rw (record_own b g e, k)

  pub pair_in : (k : Kind) (i : ℕ) → i < pair_count k b
      → mapped (pair_parts g) (slice_get (pairs_of k g) i) ≡ Some (entry_parts b (number b (table_at k b + pair_length * i)) (number b (table_at k b + pair_length * i + 2)))
  pair_in k i h =
      let d : Pair = record { from = []; to = [] } in
      let w = pair_within b g e k i h in
      rw (
        get_elem_in (pairs_of k g) i d (rw (record_pair_count b g e k) h),
        record_pair b g e k i d h,
        ← record_name b g e (number b (table_at k b + pair_length * i)) w.0,
        ← record_name b g e (number b (table_at k b + pair_length * i + 2)) w.1,
        part_at (number b (table_at k b + pair_length * i)) w.0,
        part_at (number b (table_at k b + pair_length * i + 2)) w.1,
      )

  pub pair_out : (k : Kind) (i : ℕ) → pair_count k b ≤ i → slice_get (pairs_of k g) i ≡ None
  pair_out k i h = get_elem_out (pairs_of k g) i (rw (record_pair_count b g e k) h)
