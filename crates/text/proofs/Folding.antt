-- `try_fold` at a closure that answers an `Option` is the fold over that option: behind the first answer that is none, all is none.
use mathlib.Core.Path.{◌≡◌, refl, sym, ap, ◌∙◌, subst}
use mathlib.Core.List.{List, [], ◌∷◌, ◌++◌, map}
use Prim.Native.Nat.{suc, ◌<◌}
use lib.ListN.{length, get_or, take, drop}
use lib.Seq.{drop-cons}
use denote.Param.Members.{Mut}
use Rattle.std.specs.Prelude.{Option, Some, None, option_and_then, fold}
use Rattle.std.specs.List.{FoldsTo}
use Rattle.std.specs.Option.{MatchOption}
use Rattle.std.specs.Fn.{Called}
use Rattle.std.specs.ControlFlow.{continue_value}
use Rattle.std.specs.declared.ops.ControlFlow.{ControlFlow}
use Rattle.std.specs.Iterator.{TryFoldsItems}
use Rattle.std.proofs.lemmas.List.{take-append-drop}
use Rattle.std.proofs.lemmas.List.Sums.{fold-append}
use Rattle.std.proofs.lemmas.List.Folds.{fold_stays}
use Rattle.std.proofs.lemmas.Iterator.{YieldsList}
use Rattle.std.proofs.lemmas.Iterator.Consumers.{YieldsList-so_far, YieldsList-turn, YieldsList-end}

-- the fold of h over an option
abbrev step : {B C : Type 0} → (B → C → Option C) → Option C → B → Option C
step h o y = option_and_then (h y) o

module _ {A B C F : Type 0} {v : A → B} (g : Mut F (C × (A × Unit {0})) (Option C)) (h : B → C → Option C) {f : F}
    (acts : (c : C) (x : A) (r : Option C) (q : F) → Called g f (c, (x, tt)) r q → (q ≡ f) × (r ≡ h (v x) c)) where
  -- turns that go on
  turns : (xs : List A) (k : F) (a b : C) (q : F) → k ≡ f → FoldsTo {P = F × C} (λ p x q. (r : Option C) × Called g p.0 (p.1, (x, tt)) r q.0 × (r ≡ Some q.1)) (k, a) xs (q, b)
      → (q ≡ f) × (fold (step h) (Some a) (map v xs) ≡ Some b)
  turns [] k a b q e p = (sym (ap (λ (t : F × C). t.0) p) ∙ e, ap (λ (t : F × C). Some t.1) p)
  turns (x ∷ xs) k a b q e (j, (r, c, n), rest) =
      let d = acts a x r j.0 (subst (λ (t : F). Called g t (a, (x, tt)) r j.0) e c) in
      let t = turns xs j.0 j.1 b q d.0 rest in
      (t.0, ap (λ (o : Option C). fold (step h) o (map v xs)) (sym d.1 ∙ n) ∙ t.1)

  module _ {S E : Type 0} {steps : S → Option A → S → Type 0} {s : S} {all : List B} (init : C) where
    pub fold_from_try_fold : (r : Option C) (u : S) → TryFoldsItems steps g (λ (r : Option C) (b : ControlFlow E C). r ≡ continue_value b) (λ (e : E) (r : Option C). r ≡ None) s f init r u → YieldsList steps v s all
        → r ≡ fold (step h) (Some init) all
    fold_from_try_fold r u (xs, o, q, a, (w, y, z), p, m) l = go o z m
      where
        t : (q ≡ f) × (fold (step h) (Some init) (map v xs) ≡ Some a)
        t = turns xs f init a q refl p

        whole : (x : A) → length xs < length all → v x ≡ get_or all (length xs) (v x) → map v xs ++ (v x ∷ drop (suc (length xs)) all) ≡ all
        whole x h e =
            rw (YieldsList-so_far l xs w y)
            (ap (λ (y : B). take (length xs) all ++ (y ∷ drop (suc (length xs)) all)) e
            ∙ ap (λ (ys : List B). take (length xs) all ++ ys) (sym (drop-cons all (length xs) (v x) h))
            ∙ take-append-drop (length xs) all)

        go : (o : Option A) → steps w o u
            → MatchOption o (r ≡ Some a) (λ x. (r' : Option C) × (k : F) × (e : E) × Called g q (a, (x, tt)) r' k × (r' ≡ None) × (r ≡ None))
            → r ≡ fold (step h) (Some init) all
        go None z m = m ∙ sym t.1 ∙ ap (fold (step h) (Some init)) (YieldsList-end l xs w y None u refl z).0
        go (Some x) z (r', k, e, c, n, d) =
            let b = YieldsList-turn l xs w y (Some x) u x refl z in
            let i = length xs in
            let none : h (v x) a ≡ None = sym (acts a x r' k (subst (λ (j : F). Called g j (a, (x, tt)) r' k) t.0 c)).1 ∙ n in
            d
            ∙ sym (fold_stays (step h) None (λ y. refl) (drop (suc i) all))
            ∙ ap (λ (o : Option C). fold (step h) o (drop (suc i) all)) (sym none)
            ∙ ap (λ (o : Option C). fold (step h) o (v x ∷ drop (suc i) all)) (sym t.1)
            ∙ sym (fold-append (step h) (Some init) (map v xs) (v x ∷ drop (suc i) all))
            ∙ ap (fold (step h) (Some init)) (whole x b.0 b.1)
