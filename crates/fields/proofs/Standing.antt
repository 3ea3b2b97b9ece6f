-- Where the parts of a text stand: what splitting gives stands one part behind the other, each but the first behind a separator, and none
-- holds one. And which line a place is in, by the line ends before it.
use Rattle.std.proofs.Common.{◌≡◌, refl, ap, subst, ◌∙◌, Bool, true, false, cond, List, [], ◌∷◌, ◌++◌, ℕ, zero, suc, ◌+◌, ◌≤◌, ◌<◌, arith, add-one, eqb, length, take, drop, get_or, drop-cons, take-suc, eqb-true, eq-eqb, ne_eqb}
use Rattle.std.proofs.Math.Seq.{take-length}
use borrow.Author.Tests.{eqb-false}
use Rattle.model.specs.Bytes.{Bytes, is_empty, cons_head, split}
use Rattle.model.specs.Reading.{without_last_empty}
use Rattle.text.proofs.Split.{split_from}

-- w stands in t from i on
abbrev pub Stands : Bytes → ℕ → Bytes → Type 0
Stands t i w = (i + length w ≤ length t) × (take (length w) (drop i t) ≡ w)

-- the whole of t
pub all_stands : (t : Bytes) → Stands t 0 t
all_stands t = (omega arith, take-length t)

module _ (t : Bytes) (i x : ℕ) (w : Bytes) where
  first_stands : Stands t i (x ∷ w) → (i < length t) × (get_or t i 0 ≡ x) × Stands t (i + 1) w
  first_stands s =
      let l : i < length t = omega (arith, s.0) in
      let e : ◌≡◌ {A = Bytes} (get_or t i 0 ∷ take (length w) (drop (suc i) t)) (x ∷ w) = rw (drop-cons t i 0 l) at s.1 in
      let r : take (length w) (drop (suc i) t) ≡ w = cc in
      (l, cc, (omega (arith, s.0), rw (add-one i) r))

  more_stands : i < length t → get_or t i 0 ≡ x → Stands t (i + 1) w → Stands t i (x ∷ w)
  more_stands l e s =
      let r : take (length w) (drop (suc i) t) ≡ w = rw (add-one i) at s.1 in
      (omega (arith, s.0), rw (drop-cons t i 0 l, e, r))

-- no byte of t from i up to e is x
abbrev pub Free : ℕ → Bytes → ℕ → ℕ → Type 0
Free x t i e = (j : ℕ) → i ≤ j → j < e → get_or t j 0 ≡ x → ⊥

free_from : (x : ℕ) (t : Bytes) (i e : ℕ) → (get_or t i 0 ≡ x → ⊥) → Free x t (i + 1) e → Free x t i e
free_from x t i e here f j l h = go (eqb i j) refl
  where
    go : (b : Bool) → eqb i j ≡ b → get_or t j 0 ≡ x → ⊥
    go true d = subst (λ (k : ℕ). get_or t k 0 ≡ x → ⊥) (eqb-true i j d) here
    go false d = f j (omega (arith, eqb-false i j d)) h

-- ------------------------------------------------------------------ the parts of a split

-- the parts stand from i on one behind the other, a byte between two, without the separator, and P holds of where each begins
unfoldable pub Follow : ℕ → (ℕ → Type 0) → Bytes → ℕ → List Bytes → Type 0
Follow sep P t i [] = Unit {0}
Follow sep P t i (w ∷ ws) = P i × Stands t i w × Free sep t i (i + length w) × Follow sep P t (i + length w + 1) ws

-- the same, where nothing is said of the first one's place
abbrev pub Parts : ℕ → (ℕ → Type 0) → Bytes → ℕ → List Bytes → Type 0
Parts sep P t i [] = ⊥
Parts sep P t i (w ∷ ws) = Stands t i w × Free sep t i (i + length w) × Follow sep P t (i + length w + 1) ws

pub follow_from : (sep : ℕ) (P : ℕ → Type 0) (t : Bytes) (i : ℕ) (ws : List Bytes) → P i → Parts sep P t i ws → Follow sep P t i ws
unfolding Follow
follow_from sep P t i [] p f = tt
follow_from sep P t i (w ∷ ws) p f = (p, f.0, f.1, f.2)

-- the parts of s, which stands in t from i on, between lo and hi; P holds behind each separator there
module _ (sep : ℕ) (P : ℕ → Type 0) (t : Bytes) (lo hi : ℕ) (behind : (i : ℕ) → lo ≤ i → i < hi → get_or t i 0 ≡ sep → P (i + 1)) where
  pub split_stands : (s : Bytes) (i : ℕ) → lo ≤ i → i + length s ≤ hi → Stands t i s → Parts sep P t i (split sep s)
  unfolding split Follow
  split_stands [] i l h s = (s, λ j m n. absurd (omega arith), tt)
  split_stands (x ∷ s) i l h w = go (split_stands s (i + 1) (omega arith) (omega arith) first.2) (eqb x sep) refl
    where
      first : (i < length t) × (get_or t i 0 ≡ x) × Stands t (i + 1) s
      first = first_stands t i x s w

      before : (x ≡ sep → ⊥) → (ws : List Bytes) → Parts sep P t (i + 1) ws → Parts sep P t i (cons_head x ws)
      before n [] f = absurd f
      before n (w ∷ ws) f =
          let e : i + 1 + length w ≡ i + suc (length w) = omega arith in (
            more_stands t i x w first.0 first.1 f.0,
            free_from sep t i (i + suc (length w)) (λ d. n (rw first.1 at d)) (rw e at f.1),
            subst (λ (j : ℕ). Follow sep P t (j + 1) ws) e f.2,
          )

      go : Parts sep P t (i + 1) (split sep s) → (b : Bool) → eqb x sep ≡ b → Parts sep P t i (cond b ([] ∷ split sep s) (cons_head x (split sep s)))
      go f true e =
          let z : i + 0 + 1 ≡ i + 1 = omega arith in (
            (omega (arith, first.0), refl),
            λ j m n. absurd (omega arith),
            rw z (follow_from sep P t (i + 1) (split sep s) (behind i l (omega arith) (rw (eqb-true x sep e) at first.1)) f),
          )
      go f false e = before (eqb-false x sep e) (split sep s) f

-- a last empty part left out
pub without_last : (sep : ℕ) (P : ℕ → Type 0) (t : Bytes) (i : ℕ) (ws : List Bytes) → Follow sep P t i ws → Follow sep P t i (without_last_empty ws)
unfolding without_last_empty Follow
without_last sep P t i [] f = f
without_last sep P t i (w ∷ []) f = go (is_empty w)
  where
    go : (b : Bool) → Follow sep P t i (cond b [] (w ∷ []))
    go true = tt
    go false = f
without_last sep P t i (w ∷ v ∷ ws) f = (f.0, f.1, f.2, without_last sep P t (i + length w + 1) (v ∷ ws) f.3)

-- ------------------------------------------------------------------ lines counted

some_part : (sep : ℕ) (s : Bytes) → 0 < length (split sep s)
some_part sep s = rw (split_from sep s 0 (omega arith)) (omega arith)

same_count : (x : ℕ) (ws : List Bytes) → 0 < length ws → length (cons_head x ws) ≡ length ws
same_count x [] h = absurd (omega arith)
same_count x (w ∷ ws) h = refl

-- how many parts there are with a byte more
count_more : (sep x : ℕ) (s : Bytes) → length (split sep (s ++ (x ∷ []))) ≡ cond (eqb x sep) (suc (length (split sep s))) (length (split sep s))
unfolding split
count_more sep x [] = go (eqb x sep)
  where
    go : (b : Bool) → length (cond b ([] ∷ [] ∷ []) ((x ∷ []) ∷ [])) ≡ cond b 2 1
    go true = refl
    go false = refl
count_more sep x (y ∷ s) = go (count_more sep x s) (eqb y sep)
  where
    many : List Bytes
    many = split sep (s ++ (x ∷ []))

    go : length many ≡ cond (eqb x sep) (suc (length (split sep s))) (length (split sep s)) → (b : Bool)
        → length (cond b ([] ∷ many) (cons_head y many))
        ≡ cond (eqb x sep) (suc (length (cond b ([] ∷ split sep s) (cons_head y (split sep s))))) (length (cond b ([] ∷ split sep s) (cons_head y (split sep s))))
    go e true = ap suc e ∙ pushed (eqb x sep)
      where
        pushed : (c : Bool) → suc (cond c (suc (length (split sep s))) (length (split sep s))) ≡ cond c (suc (suc (length (split sep s)))) (suc (length (split sep s)))
        pushed true = refl
        pushed false = refl
    go e false = same_count y many (some_part sep (s ++ (x ∷ []))) ∙ rw (same_count y (split sep s) (some_part sep s)) e

-- the line of a place: how many lines the text up to there has
abbrev pub line_at : Bytes → ℕ → ℕ
line_at t i = length (split 10 (take i t))

line_step : (t : Bytes) (i : ℕ) → i < length t → line_at t (i + 1) ≡ cond (eqb (get_or t i 0) 10) (suc (line_at t i)) (line_at t i)
line_step t i l = rw (add-one i, take-suc t i 0 l) (count_more 10 (get_or t i 0) (take i t))

-- behind a line end the next line begins
pub line_ended : (t : Bytes) (i : ℕ) → i < length t → get_or t i 0 ≡ 10 → line_at t (i + 1) ≡ suc (line_at t i)
line_ended t i l e = line_step t i l ∙ rw (eq-eqb (get_or t i 0) 10 e)

-- where there is none it goes on
pub line_along : (t : Bytes) (i e : ℕ) → Free 10 t i e → e ≤ length t → (n : ℕ) → i + n ≤ e → line_at t (i + n) ≡ line_at t i
line_along t i e f h zero l = let z : i + 0 ≡ i = omega arith in rw z
line_along t i e f h (suc n) l =
    let z : i + suc n ≡ i + n + 1 = omega arith in
    rw z
    (line_step t (i + n) (omega arith) ∙ (rw (ne_eqb (get_or t (i + n) 0) 10 (f (i + n) (omega arith) (omega arith))) (line_along t i e f h n (omega arith))))
