-- What each part of the test says.
use mathlib.Core.Path.{◌≡◌, refl, sym}
use mathlib.Core.Logic.Iff
use mathlib.Core.Logic.{◌⊎◌, inl, inr, ⊎_elim, ◌↔◌}
use mathlib.Core.Bool.{Bool, true, false, cond, ◌&&◌, ◌||◌, false≢true}
use mathlib.Core.List.Memᴰ
use mathlib.Core.List.{List, [], ◌∷◌, ◌++◌, Memᴰ}
use Prim.Native.Nat.{ℕ, zero, suc, ◌+◌, ◌<◌}
use native.Mathlib.Omega.{arith}
use lib.Dec.{ltb, eqb}
use borrow.Author.Tests.{ltb-true, ltb-false, lt-ltb, eqb-true, eq-eqb}
use Rattle.std.specs.declared.cmp.Ordering.TheVariants.{Less, Equal, Greater}
use Rattle.std.proofs.lemmas.Bool.{and_parts}
use Rattle.std.proofs.lemmas.Bool.Decides.{Decides-or}
use Rattle.model.specs.Bytes.{by_order, then_by, compare_numbers}
use Rattle.model.specs.Record.{ascends}
use Rattle.text.proofs.Places.{member_cons, member_append}
use Rattle.record.specs.Test.{pair_less, pairs_ok, has_place, is_used, every, Under}
use Rattle.record.proofs.Places.{flat, compare_places}

-- ------------------------------------------------------------------ pairs

pub pair_less_order : (p q : ℕ × ℕ) → pair_less p.0 p.1 q.0 q.1 ≡ by_order (compare_places p q) true false false
unfolding compare_places compare_numbers
pair_less_order p q = go (ltb p.0 q.0) (eqb p.0 q.0) (ltb p.1 q.1) (eqb p.1 q.1)
  where
    go : (s t u v : Bool) → s || t && u ≡ by_order (then_by (cond s Less (cond t Equal Greater)) (cond u Less (cond v Equal Greater))) true false false
    go true t u v = refl
    go false true true v = refl
    go false true false true = refl
    go false true false false = refl
    go false false u v = refl

pub pairs_ok_true : (n : ℕ) (ps : List (ℕ × ℕ)) → pairs_ok n ps ≡ true ↔ Under n ps × (ascends compare_places ps ≡ true)
unfolding pairs_ok Under ascends
pairs_ok_true n [] = (λ e. (tt, refl), λ u. refl)
pairs_ok_true n (p ∷ []) = (
  λ e.
      let a = and_parts _ _ e in
      let b = and_parts (ltb p.0 n) _ a.0 in
      let c = and_parts (ltb p.1 n) _ b.1 in
      ((ltb-true p.0 n b.0, ltb-true p.1 n c.0, tt), refl),
  λ u. rw (lt-ltb p.0 n u.0.0, lt-ltb p.1 n u.0.1),
)
pairs_ok_true n (p ∷ q ∷ qs) = (
  λ e.
      let a = and_parts _ _ e in
      let b = and_parts (ltb p.0 n) _ a.0 in
      let c = and_parts (ltb p.1 n) _ b.1 in
      let r = (pairs_ok_true n (q ∷ qs)).0 a.1 in
      ((ltb-true p.0 n b.0, ltb-true p.1 n c.0, r.0), rw (← pair_less_order p q, c.1) r.1),
  λ u.
      let a = and_parts (by_order (compare_places p q) true false false) (ascends compare_places (q ∷ qs)) u.1 in
      rw (lt-ltb p.0 n u.0.0, lt-ltb p.1 n u.0.1, pair_less_order p q, a.0) ((pairs_ok_true n (q ∷ qs)).1 (u.0.2, a.1)),
)

-- ------------------------------------------------------------------ places in use

below_suc : (i n : ℕ) → i < suc n → (i < n) ⊎ (i ≡ n)
below_suc i n h = go (ltb i n) refl
  where
    go : (t : Bool) → ltb i n ≡ t → (i < n) ⊎ (i ≡ n)
    go true e = inl (ltb-true i n e)
    go false e = let k = ltb-false i n e in inr (omega arith)

pub every_true : (f : ℕ → Bool) (n : ℕ) → every f n ≡ true ↔ ((i : ℕ) → i < n → f i ≡ true)
unfolding every
every_true f zero = (λ e i h. absurd (omega arith), λ h. refl)
every_true f (suc n) = (
  λ e i h.
      let p = and_parts (every f n) (f n) e in
      ⊎_elim (λ (k : i < n). (every_true f n).0 p.0 i k) (λ (k : i ≡ n). rw k p.1) (below_suc i n h),
  λ h. rw ((every_true f n).1 (λ i k. h i (omega arith))) (h n (omega arith)),
)

pub has_place_true : (i : ℕ) (ps : List (ℕ × ℕ)) → has_place i ps ≡ true ↔ Memᴰ i (flat ps)
unfolding has_place flat
has_place_true i [] = (λ e. absurd (false≢true e), λ m. absurd (Memᴰ.not-nil m))
has_place_true i (p ∷ ps) = cons p.0 _ _ (cons p.1 _ _ (has_place_true i ps))
  where
    cons : (j : ℕ) (t : Bool) (l : List ℕ) → (t ≡ true ↔ Memᴰ i l) → eqb j i || t ≡ true ↔ Memᴰ i (j ∷ l)
    cons j t l h = Iff.trans (Decides-or (eqb j i) t (λ e. sym (eqb-true j i e), λ e. eq-eqb j i (sym e)) h) (member_cons i j l)

-- the own place, where there is one
abbrev pub own_places : ℕ → List ℕ
own_places zero = []
own_places (suc i) = i ∷ []

abbrev pub used_places : ℕ → List (ℕ × ℕ) → List (ℕ × ℕ) → List ℕ
used_places own ps qs = own_places own ++ flat ps ++ flat qs

pub is_used_true : (own : ℕ) (ps qs : List (ℕ × ℕ)) (i : ℕ) → is_used own ps qs i ≡ true ↔ Memᴰ i (used_places own ps qs)
unfolding is_used
is_used_true own ps qs i = append (append (own_place own) (has_place_true i ps)) (has_place_true i qs)
  where
    own_place : (o : ℕ) → eqb o (i + 1) ≡ true ↔ Memᴰ i (own_places o)
    own_place zero = (λ e. let h = eqb-true 0 (i + 1) e in absurd (omega arith), λ m. absurd (Memᴰ.not-nil m))
    own_place (suc o) = (
      λ e. let h = eqb-true (suc o) (i + 1) e in let k : i ≡ o = omega arith in Memᴰ.head k,
      λ m. let h = Memᴰ.eq_of_singleton m in eq-eqb (suc o) (i + 1) (omega arith),
    )

    append : {s t : Bool} {l k : List ℕ} → (s ≡ true ↔ Memᴰ i l) → (t ≡ true ↔ Memᴰ i k) → s || t ≡ true ↔ Memᴰ i (l ++ k)
    append {s} {t} {l} {k} f g = Iff.trans (Decides-or s t f g) (member_append i l k)
