-- Splitting a text that was joined: the part before a separator, the last part, and the lines of a text.
use mathlib.Core.Path.{◌≡◌, refl, sym}
use mathlib.Core.List.Memᴰ
use mathlib.Core.List.{List, [], ◌∷◌, ◌++◌, Memᴰ}
use mathlib.Core.Logic.{◌⊎◌, inl, inr, ⊎_elim, ◌≢◌}
use mathlib.Core.Bool.{Bool, true, false, cond}
use Rattle.std.specs.Prelude.{Some}
use Prim.Native.Nat.{ℕ, suc}
use lib.Dec.{eqb}
use lib.ListN.{length}
use native.Mathlib.Omega.{arith}
use borrow.Author.Tests.{eq-eqb, ne_eqb, eqb-false}
use Rattle.model.specs.Bytes.{Bytes, index_of, split}
use Rattle.model.specs.Record.{Pair}
use Rattle.model.specs.Reading.{two_parts, without_last_empty}
use Rattle.model.specs.Statements.{Without}
use Rattle.text.proofs.Split.{split_from}

-- ------------------------------------------------------------------ a byte that a text is without

module _ {x : ℕ} where
  pub without_cons : (y : ℕ) (s : Bytes) → x ≢ y → Without x s → Without x (y ∷ s)
  without_cons y s n w m = ⊎_elim n w (Memᴰ.cases_cons m)

  pub without_append : (s t : Bytes) → Without x s → Without x t → Without x (s ++ t)
  without_append s t v w m = ⊎_elim v w (Memᴰ.append_cases s m)

-- shown by a test, for a text at hand
pub absent : (x : ℕ) (s : Bytes) → index_of x s ≡ length s → Without x s
unfolding index_of
absent x [] e m = Memᴰ.not-nil m
absent x (y ∷ ys) e m = go (eqb y x) refl e (Memᴰ.cases_cons m) (absent x ys)
  where
    go : (t : Bool) → eqb y x ≡ t → cond t 0 (suc (index_of x ys)) ≡ suc (length ys) → (x ≡ y) ⊎ Memᴰ x ys
        → (index_of x ys ≡ length ys → Without x ys) → ⊥
    go true d e c rest = omega arith
    go false d e (inl f) rest = eqb-false y x d (sym f)
    go false d e (inr n) rest = rest (omega arith) n

-- ------------------------------------------------------------------ splitting

module _ (sep : ℕ) where
  pub split_part : (s r : Bytes) → Without sep s → split sep (s ++ (sep ∷ r)) ≡ s ∷ split sep r
  unfolding split
  split_part [] r w = rw (eq-eqb sep sep refl)
  split_part (x ∷ xs) r w =
      rw (ne_eqb x sep (λ e. w (Memᴰ.head (sym e))), split_part xs r (λ m. w (Memᴰ.tail m)))

  pub split_whole : (s : Bytes) → Without sep s → split sep s ≡ s ∷ []
  unfolding split
  split_whole [] w = refl
  split_whole (x ∷ xs) w =
      rw (ne_eqb x sep (λ e. w (Memᴰ.head (sym e))), split_whole xs (λ m. w (Memᴰ.tail m)))

  pub split_two : (s t : Bytes) → Without sep s → Without sep t → split sep (s ++ (sep ∷ t)) ≡ s ∷ t ∷ []
  split_two s t v w = rw (split_part s t v, split_whole t w)

-- two names, neither empty
pub two_parts_lem : (p : Pair) → p.from ≢ [] → p.to ≢ [] → two_parts (p.from ∷ p.to ∷ []) ≡ Some p
two_parts_lem p m n = go p.from p.to m n
  where
    go : (a b : Bytes) → a ≢ [] → b ≢ [] → two_parts (a ∷ b ∷ []) ≡ Some (record { from = a; to = b })
    go [] b m n = absurd (m refl)
    go (x ∷ xs) [] m n = absurd (n refl)
    go (x ∷ xs) (y ∷ ys) m n = refl

-- two names round a comma
pub comma_pair : (p : Pair) → p.from ≢ [] → p.to ≢ [] → Without 44 p.from → Without 44 p.to
    → two_parts (split 44 (p.from ++ (44 ∷ p.to))) ≡ Some p
comma_pair p m n v w = rw (split_two 44 p.from p.to v w) (two_parts_lem p m n)

-- ------------------------------------------------------------------ lines

abbrev pub lines_of : Bytes → List Bytes
lines_of t = without_last_empty (split 10 t)

pub lines_none : lines_of [] ≡ []
unfolding split without_last_empty
lines_none = refl

-- a line in front: behind it stands at least one part more
pub lines_one : (l r : Bytes) → Without 10 l → lines_of (l ++ (10 ∷ r)) ≡ l ∷ lines_of r
lines_one l r w = rw (split_part 10 l r w) (further (split_from 10 r 0 (omega arith)))
  where
    further : {v : Bytes} {vs ws : List Bytes} → ws ≡ v ∷ vs → without_last_empty (l ∷ ws) ≡ l ∷ without_last_empty ws
    further e = unfold without_last_empty in rw e
