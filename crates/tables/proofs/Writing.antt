-- The turns of the loops that write a record: what is still to be written, written behind what was, is the whole.
use mathlib.Core.Path.{◌≡◌, sym, ap, ◌∙◌}
use mathlib.Core.List.{List, [], ◌∷◌, ◌++◌, map}
use Prim.Native.Nat.{ℕ, ◌+◌, ◌-◌, ◌*◌, ◌/◌, ◌%◌, ◌≤◌, ◌<◌}
use native.Mathlib.Omega.{arith}
use native.Mathlib.Numerals.{add-one}
use lib.ListN.{length, take, drop, get_or, replicate, length-append, length-take, length-drop, length-map, length-replicate, drop_of_length-le}
use lib.Seq.{drop-cons}
use Rattle.std.proofs.lemmas.List.{take_rest}
use Rattle.model.specs.Layout.{entry_length, pair_length, entries}
use Rattle.model.specs.Bytes.{Bytes, put}
use Rattle.model.specs.Record.{bodies}
use Rattle.record.specs.Coded.{le_pairs, entry_of}
use Rattle.record.proofs.Words.{length_le_pairs}
use Rattle.record.proofs.Written.{pairs_cons, entries_cons, length_entry, length_entries}
use Rattle.text.proofs.Put.{put_rest}
use Rattle.sorted.specs.Tables.{body_in, places_of}

-- a table's number has no more than two bytes for the length
pub body_short : (pool : Bytes) (r : ℕ) → length (body_in pool r) < 65536
body_short pool r = rw (length-take (r % 65536) (drop (r / 65536) pool)) (omega arith)

module _ (xs : List ℕ) (i : ℕ) (h : i < length xs) where
  rest_cons : drop i xs ≡ get_or xs i 0 ∷ drop (i + 1) xs
  rest_cons = rw add-one (drop-cons xs i 0 h)

  module _ (l l₁ : Bytes) (p q : ℕ) where
    pub pairs_again : p + pair_length * (length xs - i) ≤ length l → l₁ ≡ put l p (le_pairs (places_of (get_or xs i 0) ∷ [])) → q ≡ p + pair_length
        → put l₁ q (le_pairs (map places_of (drop (i + 1) xs))) ≡ put l p (le_pairs (map places_of (drop i xs)))
    pairs_again room b c =
        let x = places_of (get_or xs i 0) in
        let rest = map places_of (drop (i + 1) xs) in
        let d = length_le_pairs (x ∷ []) in
        let e = length_le_pairs rest ∙ ap (λ (k : ℕ). pair_length * k) (length-map (drop (i + 1) xs) places_of ∙ length-drop (i + 1) xs) in
        put_rest l l₁ p q (le_pairs (x ∷ [])) (le_pairs rest) (omega arith) b (omega arith) ∙ rw rest_cons (ap (put l p) (sym (pairs_cons x rest)))

    pub entries_again : (pool : Bytes) → p + entry_length * (length xs - i) ≤ length l → (start : ℕ) → l₁ ≡ put l p (entry_of start (body_in pool (get_or xs i 0))) → q ≡ p + entry_length
        → put l₁ q (entries (start + length (body_in pool (get_or xs i 0))) (map (body_in pool) (drop (i + 1) xs))) ≡ put l p (entries start (map (body_in pool) (drop i xs)))
    entries_again pool room start b c =
        let name = body_in pool (get_or xs i 0) in
        let rest = map (body_in pool) (drop (i + 1) xs) in
        let d = length_entry start name in
        let e = length_entries (start + length name) rest ∙ ap (λ (k : ℕ). entry_length * k) (length-map (drop (i + 1) xs) (body_in pool) ∙ length-drop (i + 1) xs) in
        put_rest l l₁ p q (entry_of start name) (entries (start + length name) rest) (omega arith) b (omega arith)
        ∙ rw rest_cons (ap (put l p) (sym (entries_cons start name rest)))

  -- the bodies
  pub bodies_length : (pool : Bytes)
      → length (bodies (map (body_in pool) (drop i xs))) ≡ length (body_in pool (get_or xs i 0)) + length (bodies (map (body_in pool) (drop (i + 1) xs)))
  bodies_length pool = rw rest_cons (length-append (body_in pool (get_or xs i 0)) (bodies (map (body_in pool) (drop (i + 1) xs))))

  pub bodies_again : (pool l l₁ : Bytes) (p q : ℕ) → p + length (bodies (map (body_in pool) (drop i xs))) ≤ length l
      → l₁ ≡ put l p (body_in pool (get_or xs i 0)) → q ≡ p + length (body_in pool (get_or xs i 0))
      → put l₁ q (bodies (map (body_in pool) (drop (i + 1) xs))) ≡ put l p (bodies (map (body_in pool) (drop i xs)))
  bodies_again pool l l₁ p q h b c =
      let m = bodies_length pool in
      put_rest l l₁ p q (body_in pool (get_or xs i 0)) (bodies (map (body_in pool) (drop (i + 1) xs))) (omega arith) b c ∙ rw rest_cons

-- the rest cleared
pub zeros_behind : (l rest : Bytes) (p : ℕ) → p ≤ length l → rest ≡ replicate (length (take (length l - p) (drop p l))) 0
    → take p l ++ (rest ++ drop (length l - p) (drop p l)) ≡ put l p (replicate (length l - p) 0)
unfolding put
zeros_behind l rest p h e =
    let n = length-replicate {A = ℕ} (length l - p) 0 in
    let d = length-drop p l in
    rw (
      e,
      take_rest l p,
      d,
      drop_of_length-le (drop p l) {i = length l - p} (omega arith),
      drop_of_length-le l {i = p + length (replicate {A = ℕ} (length l - p) 0)} (omega arith),
    )
