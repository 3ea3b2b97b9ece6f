-- The loops that test a record, one law for each way through a turn, with the rows still to come.
use mathlib.Core.Path.{◌≡◌, refl}
use mathlib.Core.Bool.{Bool, true, false, ◌&&◌}
use mathlib.Core.List.{List, [], ◌∷◌}
use Prim.Native.Nat.{ℕ, ◌+◌, ◌≤◌, ◌<◌}
use native.Mathlib.Numerals.{add-one}
use native.Mathlib.Omega.{arith}
use lib.Dec.{ltb}
use Rattle.std.specs.Prelude.{Some, None}
use lib.ListN.{take, drop, set}
use lib.Seq.{drop-drop}
use borrow.Author.Tests.{eq-eqb, ne_eqb, le-leb, lt-leb}
use Rattle.model.specs.Bytes.{Bytes, compare_bytes}
use Rattle.model.specs.Record.{ascends, max_name_bytes, max_bodies_bytes}
use Rattle.record.specs.Test.{Under, body_end, end_within, cut, is_less, pair_less, pairs_ok, every, marks}
use Rattle.model.specs.Layout.{record_length}

-- ------------------------------------------------------------------ the entries

module _ {rows rest : List (ℕ × ℕ)} {x y : ℕ} (e : rows ≡ (x, y) ∷ rest) (at : ℕ) where
  pub body_end_gap : (x ≡ at → ⊥) → body_end at rows ≡ record_length
  unfolding body_end
  body_end_gap n = rw (e, ne_eqb x at n)

  pub body_end_long : x ≡ at → max_name_bytes < y → body_end at rows ≡ record_length
  unfolding body_end
  body_end_long h l = rw (e, eq-eqb x at h, lt-leb y max_name_bytes l)

  pub body_end_more : x ≡ at → y ≤ max_name_bytes → body_end at rows ≡ body_end (at + y) rest
  unfolding body_end
  body_end_more h l = rw (e, eq-eqb x at h, le-leb y max_name_bytes l)

pub body_end_none : {rows : List (ℕ × ℕ)} → rows ≡ [] → (at : ℕ) → body_end at rows ≡ at
unfolding body_end
body_end_none e at = rw e

pub end_past : {end : ℕ} → max_bodies_bytes < end → end_within end ≡ None
unfolding end_within
end_past {end} h = rw (lt-leb end max_bodies_bytes h)

pub end_kept : {end : ℕ} → end ≤ max_bodies_bytes → end_within end ≡ Some end
unfolding end_within
end_kept {end} h = rw (le-leb end max_bodies_bytes h)

-- and back: what an end that was judged says of it
pub was_past : (end : ℕ) → end_within end ≡ None → max_bodies_bytes < end
unfolding end_within
was_past end e = grind arith

pub was_kept : (end : ℕ) {x : ℕ} → end_within end ≡ Some x → (end ≤ max_bodies_bytes) × (x ≡ end)
unfolding end_within
was_kept end e = grind arith

-- ------------------------------------------------------------------ the pairs

pub pairs_ok_none : {rows : List (ℕ × ℕ)} → rows ≡ [] → (n : ℕ) → pairs_ok n rows ≡ true
unfolding pairs_ok
pairs_ok_none e n = rw e

module _ (n : ℕ) (p : ℕ × ℕ) where
  -- the last pair is in order if it is of places below n
  pub pairs_ok_last : {rows : List (ℕ × ℕ)} → rows ≡ [] → pairs_ok n (p ∷ rows) ≡ (ltb p.0 n && ltb p.1 n)
  unfolding pairs_ok
  pairs_ok_last e = rw e (go (ltb p.0 n) (ltb p.1 n))
    where
      go : (s t : Bool) → ((s && (t && true)) && true) ≡ (s && t)
      go true true = refl
      go true false = refl
      go false t = refl

  module _ {rows rest : List (ℕ × ℕ)} {q : ℕ × ℕ} (e : rows ≡ q ∷ rest) where
    pub pairs_ok_more : pairs_ok n (p ∷ rows) ≡ ((ltb p.0 n && ltb p.1 n) && (pair_less p.0 p.1 q.0 q.1 && pairs_ok n (q ∷ rest)))
    unfolding pairs_ok
    pairs_ok_more = rw e (go (ltb p.0 n) (ltb p.1 n) (pair_less p.0 p.1 q.0 q.1) (pairs_ok n (q ∷ rest)))
      where
        go : (s t u v : Bool) → ((s && (t && u)) && v) ≡ ((s && t) && (u && v))
        go true true u v = refl
        go true false u v = refl
        go false t u v = refl

-- ------------------------------------------------------------------ the names

pub cut_more : {rows rest : List (ℕ × ℕ)} {x y : ℕ} → rows ≡ (x, y) ∷ rest → (at : ℕ) (b : Bytes) → cut rows (drop at b) ≡ take y (drop at b) ∷ cut rest (drop (at + y) b)
unfolding cut
cut_more e at b = rw (e, drop-drop)

pub ascends_none : {rows : List (ℕ × ℕ)} → rows ≡ [] → (b : Bytes) → ascends compare_bytes (cut rows b) ≡ true
unfolding ascends cut
ascends_none e b = rw e

module _ (at size : ℕ) (b : Bytes) where
  -- the last name is in order
  pub ascends_last : {rows : List (ℕ × ℕ)} → rows ≡ [] → ascends compare_bytes (take size (drop at b) ∷ cut rows (drop (at + size) b)) ≡ true
  unfolding ascends cut
  ascends_last e = rw e

  module _ {rows rest : List (ℕ × ℕ)} {x y : ℕ} (e : rows ≡ (x, y) ∷ rest) where
    pub ascends_more : ascends compare_bytes (take size (drop at b) ∷ cut rows (drop (at + size) b))
        ≡ (is_less (compare_bytes (take size (drop at b)) (take y (drop (at + size) b)))
        && ascends compare_bytes (take y (drop (at + size) b) ∷ cut rest (drop (at + size + y) b)))
    unfolding ascends cut
    ascends_more = rw (e, drop-drop)

-- ------------------------------------------------------------------ the marks

module _ {rows rest : List (ℕ × ℕ)} {x y : ℕ} (e : rows ≡ (x, y) ∷ rest) where
  pub marks_more : (m : Bytes) → marks rows m ≡ marks rest (set (set m x 1) y 1)
  unfolding marks
  marks_more m = rw e

  pub under_more : (n : ℕ) → Under n rows → (x < n) × (y < n) × Under n rest
  unfolding Under
  under_more n u = rw e at u

pub marks_none : {rows : List (ℕ × ℕ)} → rows ≡ [] → (m : Bytes) → marks rows m ≡ m
unfolding marks
marks_none e m = rw e

pub every_none : (f : ℕ → Bool) → every f 0 ≡ true
unfolding every
every_none f = refl

pub every_more : (f : ℕ → Bool) (n : ℕ) → every f (n + 1) ≡ (every f n && f n)
unfolding every
every_more f n = rw add-one
