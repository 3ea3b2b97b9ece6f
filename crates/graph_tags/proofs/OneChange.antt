-- One tag set where a value is present and removed where it is absent, at once or in two steps: what each key gives then, and how many tags
-- there are.
use mathlib.Core.Path.{◌≡◌, refl}
use mathlib.Core.Logic.{◌⊎◌, inl, inr, ◌≢◌}
use mathlib.Core.Bool.{Bool, true, false, cond, not, ◌&&◌}
use mathlib.Core.List.{List}
use Rattle.std.specs.Prelude.{Option, Some, None}
use Prim.Native.Nat.{ℕ, ◌+◌, ◌≤◌}
use native.Mathlib.Omega.{arith}
use lib.ListN.{length}
use borrow.Author.Tests.{leb-true}
use Rattle.model.specs.Bytes.{Bytes, same_bytes}
use Rattle.model.specs.Opening.{is_some}
use Rattle.model.specs.Written.{fits}
use Rattle.model.specs.Statements.{Ascending}
use Rattle.model.specs.TagList.{Tag, compare_tags, look_up, set_tag, set_or_remove, max_tags, max_value, stored_key}
use Rattle.model.specs.TagStatements.{ValidTags}
use Rattle.text.proofs.Order.{same_bytes_true}
use Rattle.tag_edits.proofs.Outcome.{differ}
use Rattle.graph_tags.specs.Change.{remove_absent, set_present}
use Rattle.tag_list.proofs.Map.{set_same, set_other, set_kept, remove_same, remove_other, remove_kept}
use Rattle.tag_list.proofs.Valid.{length_set, length_remove, set_valid, remove_valid}

-- how many tags one change adds, and how many it takes away
abbrev pub added_by : Bytes → Option Bytes → List Tag → ℕ
added_by k o ts = cond (is_some o && not (is_some (look_up k ts))) 1 0

abbrev pub gone_by : Bytes → Option Bytes → List Tag → ℕ
gone_by k o ts = cond (not (is_some o) && is_some (look_up k ts)) 1 0

pub same_or_not : (j k : Bytes) → (j ≡ k) ⊎ (j ≢ k)
same_or_not j k = go (same_bytes j k) refl
  where
    go : (s : Bool) → same_bytes j k ≡ s → (j ≡ k) ⊎ (j ≢ k)
    go true e = inl ((same_bytes_true j k).0 e)
    go false e = inr (differ j k e)

module _ (k : Bytes) where
  pub change_kept : (o : Option Bytes) (ts : List Tag) → Ascending compare_tags ts → Ascending compare_tags (set_or_remove k o ts)
  change_kept None ts a = remove_kept k ts a
  change_kept (Some v) ts a = set_kept k v ts a

  pub absent_kept : (o : Option Bytes) (ts : List Tag) → Ascending compare_tags ts → Ascending compare_tags (remove_absent k o ts)
  absent_kept None ts a = remove_kept k ts a
  absent_kept (Some v) ts a = a

  pub present_kept : (o : Option Bytes) (ts : List Tag) → Ascending compare_tags ts → Ascending compare_tags (set_present k o ts)
  present_kept None ts a = a
  present_kept (Some v) ts a = set_kept k v ts a

  pub change_same : (o : Option Bytes) (ts : List Tag) → Ascending compare_tags ts → look_up k (set_or_remove k o ts) ≡ o
  change_same None ts a = remove_same k ts a
  change_same (Some v) ts a = set_same k v ts

  pub absent_same : (o : Option Bytes) (ts : List Tag) → Ascending compare_tags ts → o ≡ None → look_up k (remove_absent k o ts) ≡ None
  absent_same None ts a e = remove_same k ts a
  absent_same (Some v) ts a e = cc

  pub present_same : (o : Option Bytes) (ts : List Tag) → (o ≡ None → look_up k ts ≡ None) → look_up k (set_present k o ts) ≡ o
  present_same None ts h = h refl
  present_same (Some v) ts h = set_same k v ts

  pub change_other : (j : Bytes) → j ≢ k → (o : Option Bytes) (ts : List Tag) → look_up j (set_or_remove k o ts) ≡ look_up j ts
  change_other j n None ts = remove_other j k ts n
  change_other j n (Some v) ts = set_other j k v ts n

  pub absent_other : (j : Bytes) → j ≢ k → (o : Option Bytes) (ts : List Tag) → look_up j (remove_absent k o ts) ≡ look_up j ts
  absent_other j n None ts = remove_other j k ts n
  absent_other j n (Some v) ts = refl

  pub present_other : (j : Bytes) → j ≢ k → (o : Option Bytes) (ts : List Tag) → look_up j (set_present k o ts) ≡ look_up j ts
  present_other j n None ts = refl
  present_other j n (Some v) ts = set_other j k v ts n

  pub length_change : (o : Option Bytes) (ts : List Tag) → Ascending compare_tags ts
      → length (set_or_remove k o ts) + gone_by k o ts ≡ length ts + added_by k o ts
  length_change None ts a = omega (arith, length_remove k ts a)
  length_change (Some v) ts a = go (is_some (look_up k ts)) (length_set k v ts a)
    where
      go : (b : Bool) → length (set_tag k v ts) ≡ cond b (length ts) (length ts + 1) → length (set_tag k v ts) + 0 ≡ length ts + cond (not b) 1 0
      go true e = omega arith
      go false e = omega arith

  -- setting takes no tag away
  pub present_longer : (o : Option Bytes) (ts : List Tag) → Ascending compare_tags ts → length ts ≤ length (set_present k o ts)
  present_longer None ts a = omega arith
  present_longer (Some v) ts a = omega (arith, length_change (Some v) ts a)

  pub absent_valid : (o : Option Bytes) (ts : List Tag) → ValidTags ts → ValidTags (remove_absent k o ts)
  absent_valid None ts h = remove_valid k ts h
  absent_valid (Some v) ts h = h

  pub present_valid : (o : Option Bytes) (ts : List Tag) → ValidTags ts → stored_key k ≡ true → fits o max_value ≡ true
      → length (set_present k o ts) ≤ max_tags → ValidTags (set_present k o ts)
  present_valid None ts h stored short few = h
  present_valid (Some v) ts h stored short few = set_valid k v ts h stored (leb-true (length v) max_value short) few

-- what a key holds decides what is added and taken away
pub added_same : (k : Bytes) (o : Option Bytes) (ts us : List Tag) → look_up k ts ≡ look_up k us → added_by k o ts ≡ added_by k o us
added_same k None ts us e = refl
added_same k (Some v) ts us e = rw e

pub gone_same : (k : Bytes) (o : Option Bytes) (ts us : List Tag) → look_up k ts ≡ look_up k us → gone_by k o ts ≡ gone_by k o us
gone_same k None ts us e = rw e
gone_same k (Some v) ts us e = refl
