-- How the test by derivatives goes through sequences, choices and repetitions.
use mathlib.Core.Path.{◌≡◌, refl, sym, ap, ◌∙◌, subst}
use mathlib.Core.Logic.{inl, inr, ⊎_elim}
use mathlib.Core.Bool.{Bool, true, false, cond, ◌&&◌, ◌||◌, and-or_distrib_right}
use mathlib.Core.List.{[], ◌∷◌, ◌++◌, append-nil, append_assoc}
use Prim.Native.Nat.{ℕ}
use lib.Dec.{eqb}
use Rattle.std.specs.Cmp.{both_ways}
use Rattle.model.specs.Bytes.{Bytes}
use Rattle.model.specs.Strict.{Class, Regex, never, epsilon, one, seq, alt, plus, opt, one_of, Repeats, last, more, Matches, nullable, after, matches}
use Rattle.strict.specs.Class.{is_one_of}
use Rattle.strict.proofs.Regex.{matches_exactly}

-- expressions that match the same texts have the same test
same_test : (r t : Regex) (s : Bytes) → (Matches r s → Matches t s) → (Matches t s → Matches r s) → matches r s ≡ matches t s
same_test r t s f g =
    let h = matches_exactly r s in
    let k = matches_exactly t s in
    both_ways (matches r s) (matches t s) (λ e. k.1 (f (h.0 e))) (λ e. h.1 (g (k.0 e)))

pub never_fails : (s : Bytes) → matches never s ≡ false
unfolding matches nullable after
never_fails [] = refl
never_fails (x ∷ s) = never_fails s

seq_never : (r : Regex) (s : Bytes) → matches (seq never r) s ≡ false
unfolding matches nullable after
seq_never r [] = refl
seq_never r (x ∷ s) = seq_never r s

seq_epsilon : (r : Regex) (s : Bytes) → matches (seq epsilon r) s ≡ matches r s
unfolding Matches
seq_epsilon r s =
    same_test (seq epsilon r) r s (λ m. subst (Matches r) (sym (m.2 ∙ ap (λ (l : Bytes). l ++ m.1) m.3)) m.4) (λ m. ([], s, refl, refl, m))

pub seq_end : (r : Regex) (s : Bytes) → matches (seq r epsilon) s ≡ matches r s
unfolding Matches
seq_end r s =
    same_test (seq r epsilon) r s
    (λ m. subst (Matches r) (sym (m.2 ∙ ap (λ (l : Bytes). m.0 ++ l) m.4 ∙ append-nil m.0)) m.3)
    (λ m. (s, [], sym (append-nil s), m, refl))

pub seq_seq : (p q r : Regex) (s : Bytes) → matches (seq (seq p q) r) s ≡ matches (seq p (seq q r)) s
unfolding Matches
seq_seq p q r s =
    same_test (seq (seq p q) r) (seq p (seq q r)) s
    (λ m. let n = m.3 in
    (n.0, n.1 ++ m.1, m.2 ∙ ap (λ (l : Bytes). l ++ m.1) n.2 ∙ append_assoc n.0 n.1 m.1, n.3, (n.1, m.1, refl, n.4, m.4)))
    (λ m. let n = m.4 in
    (m.0 ++ n.0, n.1, m.2 ∙ ap (λ (l : Bytes). m.0 ++ l) n.2 ∙ sym (append_assoc m.0 n.0 n.1), (m.0, n.0, refl, m.3, n.3), n.4))

pub alt_or : (p q : Regex) (s : Bytes) → matches (alt p q) s ≡ matches p s || matches q s
unfolding matches nullable after
alt_or p q [] = refl
alt_or p q (x ∷ s) = alt_or (after x p) (after x q) s

pub seq_alt : (p q r : Regex) (s : Bytes) → matches (seq (alt p q) r) s ≡ matches (seq p r) s || matches (seq q r) s
unfolding Matches
seq_alt p q r s =
    same_test (seq (alt p q) r) (alt (seq p r) (seq q r)) s
    (λ m. ⊎_elim (λ n. inl (m.0, m.1, m.2, n, m.4)) (λ n. inr (m.0, m.1, m.2, n, m.4)) m.3)
    (⊎_elim (λ m. (m.0, m.1, m.2, inl m.3, m.4)) (λ m. (m.0, m.1, m.2, inr m.3, m.4)))
    ∙ alt_or (seq p r) (seq q r) s

pub seq_opt : (p r : Regex) (s : Bytes) → matches (seq (opt p) r) s ≡ matches (seq p r) s || matches r s
seq_opt p r s = seq_alt p epsilon r s ∙ ap (λ (t : Bool). matches (seq p r) s || t) (seq_epsilon r s)

-- one or more times p, then r: p once, and then r or the whole again
pub seq_plus : (p r : Regex) (s : Bytes) → matches (seq (plus p) r) s ≡ matches (seq p (alt r (seq (plus p) r))) s
unfolding Matches
seq_plus p r s =
    same_test (seq (plus p) r) (seq p (alt r (seq (plus p) r))) s (λ m. go m.1 m.2 m.3 m.4)
    (λ m. ⊎_elim (λ n. (m.0, m.1, m.2, last m.3, n))
    (λ n. (m.0 ++ n.0, n.1, m.2 ∙ ap (λ (l : Bytes). m.0 ++ l) n.2 ∙ sym (append_assoc m.0 n.0 n.1), more refl m.3 n.3, n.4))
    m.4)
  where
    go : {a : Bytes} (b : Bytes) → s ≡ a ++ b → Repeats (Matches p) a → Matches r b → Matches (seq p (alt r (seq (plus p) r))) s
    go {a} b e (last m) n = (a, b, e, m, inl n)
    go b e (more {a = a₁} {b = a₂} f m q) n =
        (a₁, a₂ ++ b, e ∙ ap (λ (l : Bytes). l ++ b) f ∙ append_assoc a₁ a₂ b, m, inr (a₂, b, refl, q, n))

-- a byte of a class, then r
pub seq_one : (c : Class) (r : Regex) (x : ℕ) (s : Bytes) → matches (seq (one c) r) (x ∷ s) ≡ c x && matches r s
unfolding matches nullable after
seq_one c r x s = go (c x)
  where
    go : (t : Bool) → matches (seq (cond t epsilon never) r) s ≡ t && matches r s
    go true = seq_epsilon r s
    go false = seq_never r s

-- one of some bytes, then r
pub seq_one_of : (bs : Bytes) (r : Regex) (x : ℕ) (s : Bytes) → matches (seq (one_of bs) r) (x ∷ s) ≡ is_one_of bs x && matches r s
seq_one_of [] r x s = seq_never r (x ∷ s)
seq_one_of (b ∷ bs) r x s =
    seq_alt (one (eqb b)) (one_of bs) r (x ∷ s)
    ∙ rw (seq_one (eqb b) r x s, seq_one_of bs r x s) (sym (and-or_distrib_right (eqb b x) (is_one_of bs x) (matches r s)))

-- bytes of a class, one or more, then r
pub seq_run : (c : Class) (r : Regex) (x : ℕ) (s : Bytes)
    → matches (seq (plus (one c)) r) (x ∷ s) ≡ c x && (matches r s || matches (seq (plus (one c)) r) s)
seq_run c r x s =
    let p = seq (plus (one c)) r in
    seq_plus (one c) r (x ∷ s) ∙ seq_one c (alt r p) x s ∙ ap (λ (t : Bool). c x && t) (alt_or r p s)
