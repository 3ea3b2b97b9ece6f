-- The marks of the places that pairs use: a place is marked exactly if it stands in a pair or was marked before.
use mathlib.Core.Logic.{◌≢◌}
use mathlib.Core.Path.{◌≡◌, refl, sym, ◌∙◌}
use mathlib.Core.Bool.{Bool, true, false, ◌&&◌, ◌||◌, and-false}
use Rattle.std.proofs.Common.{length-take-le, get_or-take}
use mathlib.Core.List.{List, [], ◌∷◌}
use Prim.Native.Nat.{ℕ, zero, suc, ◌+◌, ◌≤◌, ◌<◌}
use native.Mathlib.Omega.{arith}
use native.Mathlib.Decide.{ℕ_discrete}
use lib.Dec.{eqb}
use lib.ListN.{length, take, set, replicate, length-set, length-replicate, get_or-replicate}
use lib.Seq.{get_or-set_same, get_or-set_other}
use borrow.Author.Tests.{eq-eqb, ne_eqb}
use Rattle.std.specs.Bool.{MatchBool}
use Rattle.std.specs.List.{AllWithin, HoldsAt}
use Rattle.model.specs.Bytes.{Bytes}
use Rattle.record.specs.Test.{Under, has_place, is_used, every, marks, mark_own, is_one}
use Rattle.record.proofs.Words.{under_weaken}

pub length_marks : (ps : List (ℕ × ℕ)) (m : Bytes) → length (marks ps m) ≡ length m
unfolding marks
length_marks [] m = refl
length_marks (p ∷ ps) m = length_marks ps (set (set m p.0 1) p.1 1) ∙ simp length-set

pub length_mark_own : (own : ℕ) (m : Bytes) → length (mark_own own m) ≡ length m
length_mark_own zero m = refl
length_mark_own (suc i) m = length-set m i 1

one_set : (m : Bytes) (j i : ℕ) → j < length m → is_one (set m j 1) i ≡ (eqb j i || is_one m i)
one_set m j i h = go (ℕ_discrete j i)
  where
    go : Dec (j ≡ i) → is_one (set m j 1) i ≡ (eqb j i || is_one m i)
    go (yes e) = rw (← e, get_or-set_same m j 1 0 h, eq-eqb j j refl)
    go (no n) = rw (get_or-set_other m j i 1 0 (λ e. n (sym e)), ne_eqb j i n)

regroup : (a b c d : Bool) → ((b || (a || c)) || d) ≡ (c || (a || (b || d)))
regroup true true true d = refl
regroup true true false d = refl
regroup true false true d = refl
regroup true false false d = refl
regroup false true true d = refl
regroup false true false d = refl
regroup false false true d = refl
regroup false false false d = refl

one_marks : (ps : List (ℕ × ℕ)) (m : Bytes) (i : ℕ) → Under (length m) ps → is_one (marks ps m) i ≡ (is_one m i || has_place i ps)
unfolding marks has_place Under
one_marks [] m i u = sym (or_nothing (is_one m i))
  where
    or_nothing : (t : Bool) → (t || false) ≡ t
    or_nothing true = refl
    or_nothing false = refl
one_marks (p ∷ ps) m i u =
    let l : length (set (set m p.0 1) p.1 1) ≡ length m = simp length-set in
    one_marks ps (set (set m p.0 1) p.1 1) i (rw l u.2)
    ∙ rw (one_set (set m p.0 1) p.1 i (simp length-set u.1), one_set m p.0 i u.0) (regroup (eqb p.0 i) (eqb p.1 i) (is_one m i) (has_place i ps))

one_own : (own i n : ℕ) → own ≤ n → i < n → is_one (mark_own own (replicate n 0)) i ≡ eqb own (i + 1)
one_own zero i n h k = rw (get_or-replicate {A = ℕ} n i 0 0 k, ne_eqb 0 (i + 1) (λ e. omega arith))
one_own (suc j) i n h k =
    one_set (replicate n 0) j i (rw length-replicate h)
    ∙ rw (get_or-replicate {A = ℕ} n i 0 0 k) (same (ℕ_discrete j i))
  where
    same : Dec (j ≡ i) → (eqb j i || false) ≡ eqb (suc j) (i + 1)
    same (yes e) = rw (eq-eqb j i e, eq-eqb (suc j) (i + 1) (omega arith))
    same (no f) = rw (ne_eqb j i f, ne_eqb (suc j) (i + 1) (λ e. f (omega arith)))

pub every_same : (f g : ℕ → Bool) (n : ℕ) → ((i : ℕ) → i < n → f i ≡ g i) → every f n ≡ every g n
unfolding every
every_same f g zero h = refl
every_same f g (suc n) h = rw (every_same f g n (λ i k. h i (omega arith)), h n (omega arith))

-- all places below n are marked exactly if all are used
pub marks_used : (own : ℕ) (ps qs : List (ℕ × ℕ)) (n room : ℕ) → n ≤ room → own ≤ n → Under n ps → Under n qs
    → every (is_one (marks qs (marks ps (mark_own own (replicate room 0))))) n ≡ every (is_used own ps qs) n
unfolding is_used
marks_used own ps qs n room h o u w = every_same _ _ n at
  where
    m : Bytes
    m = mark_own own (replicate room 0)

    long : length m ≡ room
    long = length_mark_own own (replicate room 0) ∙ length-replicate room 0

    at : (i : ℕ) → i < n → is_one (marks qs (marks ps m)) i ≡ (eqb own (i + 1) || has_place i ps || has_place i qs)
    at i k =
        one_marks qs (marks ps m) i (rw (length_marks ps m, long) (under_weaken n room qs h w))
        ∙ rw (one_marks ps m i (rw long (under_weaken n room ps h u)), one_own own i room (omega arith) (omega arith))

-- ------------------------------------------------------------------ all marked

every_all : (f : ℕ → Bool) (n : ℕ) → ((i : ℕ) → i < n → f i ≡ true) → every f n ≡ true
unfolding every
every_all f zero h = refl
every_all f (suc n) h = rw (every_all f n (λ i l. h i (omega arith)), h n (omega arith))

every_fails : (f : ℕ → Bool) (n k : ℕ) → k < n → f k ≡ false → every f n ≡ false
unfolding every
every_fails f zero k l e = absurd (omega arith)
every_fails f (suc n) k l e = go (ℕ_discrete k n) λ d. every_fails f n k (omega (arith, d)) e
  where
    go : Dec (k ≡ n) → ((k ≡ n → ⊥) → every f n ≡ false) → (every f n && f n) ≡ false
    go (yes d) h = rw (← d, e) (and-false (every f k))
    go (no d) h = rw (h d)

-- whether each of the first n bytes is 1, by the bytes themselves
pub every_within : (m : Bytes) (n : ℕ) (r : Bool) → n ≤ length m
    → MatchBool r (AllWithin (λ x. x ≡ 1) (take n m) 0 (length (take n m))) ((k : ℕ) × (k < length (take n m)) × HoldsAt (λ x. x ≢ 1) (take n m) k)
    → r ≡ every (is_one m) n
every_within m n true h a =
    sym (every_all (is_one m) n λ i l. eq-eqb _ _ (sym (get_or-take n m i 0 l) ∙ a i 0 (omega arith) (rw (length-take-le n m h) l)))
every_within m n false h a =
    let l : a.0 < n = rw (length-take-le n m h) at a.1 in
    sym (every_fails (is_one m) n a.0 l (ne_eqb _ _ λ e. a.2 0 (get_or-take n m a.0 0 l ∙ e)))
