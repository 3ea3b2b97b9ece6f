-- The laws of a finite map, on lists ascending by key: what each key gives after setting and removing, that both keep the order,
-- and that a list is told by what its keys give.
use mathlib.Core.Path.{◌≡◌, refl, sym, ap₂, ◌∙◌}
use mathlib.Core.Logic.{◌⊎◌, inl, inr, ⊎_elim, ◌≢◌}
use mathlib.Core.Bool.{Bool, true, false}
use mathlib.Core.List.Memᴰ
use mathlib.Core.List.{List, [], ◌∷◌, Memᴰ}
use Rattle.std.specs.Prelude.{Some, None}
use Prim.Native.Nat.{ℕ}
use native.Mathlib.Omega.{arith}
use Rattle.std.specs.declared.cmp.Ordering.{Ordering}
use Rattle.std.specs.declared.cmp.Ordering.TheVariants.{Less, Equal, Greater}
use Rattle.model.specs.Bytes.{Bytes, by_order, compare_bytes, same_bytes}
use Rattle.model.specs.Statements.{Ascending}
use Rattle.model.specs.TagList.{Tag, tag, compare_tags, look_up, set_tag, remove_tag}
use Rattle.model.specs.TagStatements.{FiniteMap}
use Rattle.text.proofs.Order.{bytes_order, same_bytes_true}
use Rattle.text.proofs.Ascending.{ascending_tail, ascending_cons, greater_less}
use Rattle.tag_list.proofs.Keys.{greater_differs, same_key, first_below, look_none, look_first, look_past, look_further, look_behind, look_before}

-- ------------------------------------------------------------------ setting

pub set_same : (k v : Bytes) (ts : List Tag) → look_up k (set_tag k v ts) ≡ Some v
unfolding set_tag
set_same k v [] = look_first k (tag k v) [] refl
set_same k v (t ∷ ts) = go (compare_bytes k t.key) refl (set_same k v ts)
  where
    go : (o : Ordering) → compare_bytes k t.key ≡ o → look_up k (set_tag k v ts) ≡ Some v
        → look_up k (by_order o (tag k v ∷ t ∷ ts) (tag k v ∷ ts) (t ∷ set_tag k v ts)) ≡ Some v
    go Less e r = look_first k (tag k v) (t ∷ ts) refl
    go Equal e r = look_first k (tag k v) ts refl
    go Greater e r = look_past k t (set_tag k v ts) (greater_differs k t.key e) ∙ r

pub set_other : (j k v : Bytes) (ts : List Tag) → j ≢ k → look_up j (set_tag k v ts) ≡ look_up j ts
unfolding set_tag
set_other j k v [] n = look_past j (tag k v) [] n
set_other j k v (t ∷ ts) n = go (compare_bytes k t.key) refl (set_other j k v ts n)
  where
    go : (o : Ordering) → compare_bytes k t.key ≡ o → look_up j (set_tag k v ts) ≡ look_up j ts
        → look_up j (by_order o (tag k v ∷ t ∷ ts) (tag k v ∷ ts) (t ∷ set_tag k v ts)) ≡ look_up j (t ∷ ts)
    go Less e r = look_past j (tag k v) (t ∷ ts) n
    go Equal e r = look_past j (tag k v) ts n ∙ sym (look_past j t ts (λ d. n (d ∙ sym (same_key k t.key e))))
    go Greater e r = look_further j t (set_tag k v ts) ts r

pub set_member : (k v : Bytes) (ts : List Tag) (u : Tag) → Memᴰ u (set_tag k v ts) → (u ≡ tag k v) ⊎ Memᴰ u ts
unfolding set_tag
set_member k v [] u m = Memᴰ.cases_cons m
set_member k v (t ∷ ts) u m = go (compare_bytes k t.key) (set_member k v ts u) m
  where
    further : (u ≡ tag k v) ⊎ Memᴰ u ts → (u ≡ tag k v) ⊎ Memᴰ u (t ∷ ts)
    further (inl e) = inl e
    further (inr m) = inr (Memᴰ.tail m)

    go : (o : Ordering) → (Memᴰ u (set_tag k v ts) → (u ≡ tag k v) ⊎ Memᴰ u ts)
        → Memᴰ u (by_order o (tag k v ∷ t ∷ ts) (tag k v ∷ ts) (t ∷ set_tag k v ts)) → (u ≡ tag k v) ⊎ Memᴰ u (t ∷ ts)
    go Less rest m = Memᴰ.cases_cons m
    go Equal rest m = further (Memᴰ.cases_cons m)
    go Greater rest m =
        ⊎_elim (λ (e : u ≡ t). inr (Memᴰ.head e)) (λ (n : Memᴰ u (set_tag k v ts)). further (rest n)) (Memᴰ.cases_cons m)

pub set_kept : (k v : Bytes) (ts : List Tag) → Ascending compare_tags ts → Ascending compare_tags (set_tag k v ts)
unfolding set_tag
set_kept k v [] a = unfold Ascending in tt
set_kept k v (t ∷ ts) a = go (compare_bytes k t.key) refl (set_kept k v ts (ascending_tail compare_tags t ts a))
  where
    go : (o : Ordering) → compare_bytes k t.key ≡ o → Ascending compare_tags (set_tag k v ts)
        → Ascending compare_tags (by_order o (tag k v ∷ t ∷ ts) (tag k v ∷ ts) (t ∷ set_tag k v ts))
    go Less e r = unfold Ascending in (e, a)
    go Equal e r =
        ascending_cons compare_tags (tag k v) ts (rw (same_key k t.key e) (first_below t ts a)) (ascending_tail compare_tags t ts a)
    go Greater e r =
        ascending_cons compare_tags t (set_tag k v ts)
        (λ u m. ⊎_elim (λ (d : u ≡ tag k v). rw d (greater_less bytes_order k t.key e)) (first_below t ts a u) (set_member k v ts u m))
        r

-- ------------------------------------------------------------------ removing

pub remove_same : (k : Bytes) (ts : List Tag) → Ascending compare_tags ts → look_up k (remove_tag k ts) ≡ None
unfolding remove_tag
remove_same k [] a = look_none k
remove_same k (t ∷ ts) a = go (compare_bytes k t.key) refl (remove_same k ts (ascending_tail compare_tags t ts a))
  where
    go : (o : Ordering) → compare_bytes k t.key ≡ o → look_up k (remove_tag k ts) ≡ None
        → look_up k (by_order o (t ∷ ts) ts (t ∷ remove_tag k ts)) ≡ None
    go Less e r = look_before k t ts a e
    go Equal e r = look_behind k t ts a (same_key k t.key e)
    go Greater e r = look_past k t (remove_tag k ts) (greater_differs k t.key e) ∙ r

pub remove_other : (j k : Bytes) (ts : List Tag) → j ≢ k → look_up j (remove_tag k ts) ≡ look_up j ts
unfolding remove_tag
remove_other j k [] n = refl
remove_other j k (t ∷ ts) n = go (compare_bytes k t.key) refl (remove_other j k ts n)
  where
    go : (o : Ordering) → compare_bytes k t.key ≡ o → look_up j (remove_tag k ts) ≡ look_up j ts
        → look_up j (by_order o (t ∷ ts) ts (t ∷ remove_tag k ts)) ≡ look_up j (t ∷ ts)
    go Less e r = refl
    go Equal e r = sym (look_past j t ts (λ d. n (d ∙ sym (same_key k t.key e))))
    go Greater e r = look_further j t (remove_tag k ts) ts r

pub remove_member : (k : Bytes) (ts : List Tag) (u : Tag) → Memᴰ u (remove_tag k ts) → Memᴰ u ts
unfolding remove_tag
remove_member k [] u m = m
remove_member k (t ∷ ts) u m = go (compare_bytes k t.key) (remove_member k ts u) m
  where
    go : (o : Ordering) → (Memᴰ u (remove_tag k ts) → Memᴰ u ts)
        → Memᴰ u (by_order o (t ∷ ts) ts (t ∷ remove_tag k ts)) → Memᴰ u (t ∷ ts)
    go Less rest m = m
    go Equal rest m = Memᴰ.tail m
    go Greater rest m =
        ⊎_elim (λ (e : u ≡ t). Memᴰ.head e) (λ (n : Memᴰ u (remove_tag k ts)). Memᴰ.tail (rest n)) (Memᴰ.cases_cons m)

pub remove_kept : (k : Bytes) (ts : List Tag) → Ascending compare_tags ts → Ascending compare_tags (remove_tag k ts)
unfolding remove_tag
remove_kept k [] a = a
remove_kept k (t ∷ ts) a = go (compare_bytes k t.key) (remove_kept k ts (ascending_tail compare_tags t ts a))
  where
    go : (o : Ordering) → Ascending compare_tags (remove_tag k ts) → Ascending compare_tags (by_order o (t ∷ ts) ts (t ∷ remove_tag k ts))
    go Less r = a
    go Equal r = ascending_tail compare_tags t ts a
    go Greater r = ascending_cons compare_tags t (remove_tag k ts) (λ u m. first_below t ts a u (remove_member k ts u m)) r

-- ------------------------------------------------------------------ a list is told by what its keys give

-- the first key of one list is not below that of the other
not_before : (t u : Tag) (ts us : List Tag) → Ascending compare_tags (u ∷ us) → look_up t.key (t ∷ ts) ≡ look_up t.key (u ∷ us)
    → compare_bytes t.key u.key ≡ Less → ⊥
not_before t u ts us a h e = let z : ◌≡◌ {A = ℕ} 0 1 = cc (look_first t.key t ts refl, look_before t.key u us a e) in omega arith

pub same_lists : (ts us : List Tag) → Ascending compare_tags ts → Ascending compare_tags us → ((k : Bytes) → look_up k ts ≡ look_up k us) → ts ≡ us
same_lists [] [] a b h = refl
same_lists [] (u ∷ us) a b h = cc (h u.key, look_none u.key, look_first u.key u us refl)
same_lists (t ∷ ts) [] a b h = cc (h t.key, look_none t.key, look_first t.key t ts refl)
same_lists (t ∷ ts) (u ∷ us) a b h =
    go (compare_bytes t.key u.key) refl (same_lists ts us (ascending_tail compare_tags t ts a) (ascending_tail compare_tags u us b))
  where
    value : t.key ≡ u.key → t.value ≡ u.value
    value e = cc (h t.key, look_first t.key t ts refl, look_first t.key u us e)

    tails : t.key ≡ u.key → (k : Bytes) (s : Bool) → same_bytes k t.key ≡ s → look_up k ts ≡ look_up k us
    tails e k true d =
        let f = (same_bytes_true k t.key).0 d in
        look_behind k t ts a f ∙ sym (look_behind k u us b (f ∙ e))
    tails e k false d =
        let n : k ≢ t.key = λ f. let z : ◌≡◌ {A = ℕ} 0 1 = cc ((same_bytes_true k t.key).1 f) in omega arith in
        sym (look_past k t ts n) ∙ h k ∙ look_past k u us (λ f. n (f ∙ sym e))

    go : (o : Ordering) → compare_bytes t.key u.key ≡ o → (((k : Bytes) → look_up k ts ≡ look_up k us) → ts ≡ us) → t ∷ ts ≡ u ∷ us
    go Less e r = absurd (not_before t u ts us b (h t.key) e)
    go Equal e r =
        let d = same_key t.key u.key e in
        ap₂ ◌∷◌ (λ i. record { key = d i; value = value d i }) (r (λ k. tails d k (same_bytes k t.key) refl))
    go Greater e r = absurd (not_before u t us ts a (sym (h u.key)) (greater_less bytes_order t.key u.key e))

pub finite_map : FiniteMap
finite_map = record {
  set_kept = set_kept;
  remove_kept = remove_kept;
  set_same = λ k v ts a. set_same k v ts;
  set_other = λ j k v ts a. set_other j k v ts;
  remove_same = remove_same;
  remove_other = λ j k ts a. remove_other j k ts;
  same = same_lists;
}
