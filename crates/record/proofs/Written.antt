-- The parts of a record as they are written, number by number and name by name.
use mathlib.Core.Path.{◌≡◌, refl, ap, ◌∙◌}
use mathlib.Core.List.{List, [], ◌∷◌, ◌++◌}
use Prim.Native.Nat.{ℕ, ◌+◌, ◌*◌, ◌≤◌}
use native.Mathlib.Omega.{arith}
use lib.ListN.{length}
use Rattle.model.specs.Bytes.{Bytes, put}
use Rattle.model.specs.Numbers.{le16}
use Rattle.model.specs.Layout.{counts_length, entry_length, entries}
use Rattle.text.proofs.Put.{put_rest, length_put}
use Rattle.record.specs.Coded.{le_pairs, counts_of, entry_of}

-- two numbers, one behind the other
module _ (l l₁ l₂ : Bytes) (p q u v : ℕ) (h : p + 4 ≤ length l) (a : l₁ ≡ put l p (le16 u)) (b : q ≡ p + 2) (c : l₂ ≡ put l₁ q (le16 v)) where
  numbers_written : l₂ ≡ put l p (le16 u ++ le16 v)
  numbers_written = c ∙ put_rest l l₁ p q (le16 u) (le16 v) (omega arith) a b

  pub pair_written : l₂ ≡ put l p (le_pairs ((u, v) ∷ []))
  unfolding le_pairs
  pair_written = numbers_written

pub entry_written : (l l₁ l₂ : Bytes) (p q start : ℕ) (name : Bytes) → p + entry_length ≤ length l → l₁ ≡ put l p (le16 start) → q ≡ p + 2
    → l₂ ≡ put l₁ q (le16 (length name)) → l₂ ≡ put l p (entry_of start name)
entry_written l l₁ l₂ p q start name h a b c = numbers_written l l₁ l₂ p q start (length name) h a b c

pub pairs_none : le_pairs [] ≡ []
unfolding le_pairs
pairs_none = refl

pub pairs_cons : (p : ℕ × ℕ) (ps : List (ℕ × ℕ)) → le_pairs (p ∷ ps) ≡ le_pairs (p ∷ []) ++ le_pairs ps
unfolding le_pairs
pairs_cons p ps = refl

-- ------------------------------------------------------------------ the four counts

pub counts_written : (l l₁ l₂ l₃ l₄ : Bytes) (p q r n o s t : ℕ) → counts_length ≤ length l → l₁ ≡ put l 0 (le16 n) → p ≡ 2 → l₂ ≡ put l₁ p (le16 o) → q ≡ p + 2
    → l₃ ≡ put l₂ q (le16 s) → r ≡ q + 2 → l₄ ≡ put l₃ r (le16 t) → l₄ ≡ put l 0 (counts_of n o s t)
counts_written l l₁ l₂ l₃ l₄ p q r n o s t h a b c d e f g =
    let w = numbers_written l l₁ l₂ 0 p n o (omega arith) a b c in
    let long = ap length w ∙ length_put l 0 (le16 n ++ le16 o) (omega arith) in
    numbers_written l₂ l₃ l₄ q r s t (omega arith) e f g ∙ put_rest l l₂ 0 q (le16 n ++ le16 o) (le16 s ++ le16 t) (omega arith) w (omega arith)

pub length_counts : (n o s t : ℕ) → length (counts_of n o s t) ≡ counts_length
length_counts n o s t = refl

-- ------------------------------------------------------------------ entries

pub entries_none : (start : ℕ) → entries start [] ≡ []
unfolding entries
entries_none start = refl

pub entries_cons : (start : ℕ) (n : Bytes) (ns : List Bytes) → entries start (n ∷ ns) ≡ entry_of start n ++ entries (start + length n) ns
unfolding entries
entries_cons start n ns = refl

pub length_entry : (start : ℕ) (name : Bytes) → length (entry_of start name) ≡ entry_length
length_entry start name = refl

pub length_entries : (start : ℕ) (ns : List Bytes) → length (entries start ns) ≡ entry_length * length ns
unfolding entries
length_entries start [] = refl
length_entries start (n ∷ ns) = omega (arith, length_entries (start + length n) ns)
