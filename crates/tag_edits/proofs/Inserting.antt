-- What an insertion and a removal come to: refused, or done.
use mathlib.Core.Path.{◌≡◌, refl, sym, ap, ◌∙◌}
use mathlib.Core.Bool.{Bool, true, false, cond}
use mathlib.Core.List.{List}
use Rattle.std.specs.Prelude.{Option, Some, None, Ok, Err}
use Prim.Native.Nat.{ℕ, ◌+◌, ◌≤◌, ◌<◌}
use native.Mathlib.Omega.{arith}
use lib.ListN.{length}
use lib.Dec.{leb}
use Rattle.model.specs.declared.fault.Fault.TheVariants.{BadKey, LongValue, TagsFull}
use borrow.Author.Tests.{le-leb, lt-leb}
use Rattle.model.specs.declared.holdings.Part.{Part}
use Rattle.model.specs.Bytes.{Bytes}
use Rattle.model.specs.Opening.{is_some}
use Rattle.model.specs.Questions.{mapped}
use Rattle.model.specs.Written.{fits}
use Rattle.model.specs.TagList.{Tag, look_up, set_tag, max_tags, max_key, max_value, lower, fine_key, stored_key, tag_count_length, keys_after, shown_tags, decode_tags}
use Rattle.model.specs.TagOutcome.{ready_key, judged_tags}
use Rattle.model.specs.TagStatements.{part_in}
use Rattle.tag_list.specs.Spot.{spot_in}
use Rattle.tag_list.proofs.Asking.{spot_within, found_value, found_held}
use Rattle.tag_list.proofs.Lowering.{length_lower, lower_stored}
use Rattle.tag_list.proofs.Parted.{part_behind, spot_value}
use Rattle.tag_list.proofs.Ready.{list_is, list_shown}
use Rattle.tag_list.proofs.Standing.{stored_short}
use Rattle.tag_list.proofs.Valid.{length_set}
use Rattle.tag_list.proofs.Walk.{holds}
use Rattle.tag_edits.proofs.Outcome.{judged_gives, parts_look}
use Rattle.tag_edits.proofs.Placed.{remove_none}

module _ (short : Bool) (ts : List Tag) where
  pub judged_long : short ≡ false → judged_tags short ts ≡ Err LongValue
  unfolding judged_tags
  judged_long e = rw e

  pub judged_many : short ≡ true → max_tags < length ts → judged_tags short ts ≡ Err TagsFull
  unfolding judged_tags
  judged_many e h = rw (e, lt-leb (length ts) max_tags h)

-- a value and then the whole list
module _ (value : Bytes) (ts : List Tag) where
  pub value_long : max_value < length value → judged_tags (leb (length value) max_value) ts ≡ Err LongValue
  value_long h = judged_long (leb (length value) max_value) ts (lt-leb (length value) max_value h)

  pub value_many : length value ≤ max_value → max_tags < length ts → judged_tags (leb (length value) max_value) ts ≡ Err TagsFull
  value_many h = judged_many (leb (length value) max_value) ts (le-leb (length value) max_value h)

  pub value_done : length value ≤ max_value → length ts ≤ max_tags → judged_tags (leb (length value) max_value) ts ≡ Ok ts
  value_done h = judged_gives (leb (length value) max_value) ts (le-leb (length value) max_value h)

-- the key that is ready
module _ (key k : Bytes) (e : ready_key key ≡ Ok k) where
  ready_lower : (fine_key key ≡ true) × (k ≡ lower key)
  unfolding ready_key
  ready_lower = go (fine_key key) refl e
    where
      go : (t : Bool) → fine_key key ≡ t → cond t (Ok (lower key)) (Err BadKey) ≡ Ok k → (fine_key key ≡ true) × (k ≡ lower key)
      go true f e = (f, cc)
      go false f e = cc

  pub ready_stored : stored_key k ≡ true
  ready_stored = rw ready_lower.1 (lower_stored key ready_lower.0)

  pub ready_short : length k ≤ max_key
  ready_short = stored_short k ready_stored

  same_length : length k ≡ length key
  same_length = ap length ready_lower.1 ∙ length_lower key

-- a key that is ready is as long as before; the first half is what the prover finds the law by, here and in `value_behind`
pub ready_length : (key : Bytes) → (ready_key key ≡ ready_key key) × ((k : Bytes) → ready_key key ≡ Ok k → length k ≡ length key)
ready_length key = (refl, same_length key)

module _ (b : Bytes) (d : is_some (decode_tags b) ≡ true) (k : Bytes) where
  -- ------------------------------------------------------------------ insertion

  module _ (value : Bytes) where
    set_length : length (set_tag k value (shown_tags b)) ≡ cond (is_some (spot_in k b).value) (length (shown_tags b)) (length (shown_tags b) + 1)
    set_length =
        let ts = shown_tags b in
        length_set k value ts (holds b d).valid.order ∙ ap (λ (t : Bool). cond t (length ts) (length ts + 1)) (sym (found_held b d k))

    -- a new key where there is no room for one
    pub set_full : (spot_in k b).value ≡ None → max_tags ≤ length (shown_tags b) → max_tags < length (set_tag k value (shown_tags b))
    set_full e h = omega (arith, rw e at set_length)

    -- a new key where there is room, and a held key
    pub set_new : length (shown_tags b) < max_tags → length (set_tag k value (shown_tags b)) ≤ max_tags
    set_new h = go (is_some (spot_in k b).value) set_length
      where
        go : (t : Bool) → length (set_tag k value (shown_tags b)) ≡ cond t (length (shown_tags b)) (length (shown_tags b) + 1)
            → length (set_tag k value (shown_tags b)) ≤ max_tags
        go true n = omega arith
        go false n = omega arith

    pub set_held : (p : Part) → (spot_in k b).value ≡ Some p → length (set_tag k value (shown_tags b)) ≤ max_tags
    set_held p e = omega (arith, rw e at set_length, (holds b d).valid.count)

  -- ------------------------------------------------------------------ removal

  -- there is no such key
  pub look_absent : (spot_in k b).value ≡ None → look_up k (shown_tags b) ≡ None
  look_absent e = go (look_up k (shown_tags b)) (rw e at (found_value b d k))
    where
      go : (o : Option Bytes) → None ≡ mapped (part_behind k (spot_in k b).start) o → o ≡ None
      go None f = refl
      go (Some v) f = cc

  -- the value of a held key
  pub look_held : (p : Part) → (spot_in k b).value ≡ Some p → look_up k (shown_tags b) ≡ Some (part_in b p)
  look_held p e =
      let ts = shown_tags b in
      let q = keys_after (length ts) in
      let w = holds b d in
      sym (parts_look b k ts tag_count_length q w.stands) ∙ rw (spot_value k 0 q ts w.valid.order, e)

  module _ (p : Part) (e : (spot_in k b).value ≡ Some p) where
    pub look_size : mapped length (look_up k (shown_tags b)) ≡ Some p.size
    look_size = go (look_up k (shown_tags b)) (rw e at (found_value b d k))
      where
        go : (o : Option Bytes) → Some p ≡ mapped (part_behind k (spot_in k b).start) o → mapped length o ≡ Some p.size
        go None f = cc
        go (Some v) f = let h : p ≡ part_behind k (spot_in k b).start v = cc in rw h

    behind_key : (spot_in k b).start + length k ≡ p.start
    behind_key = go (look_up k (shown_tags b)) (rw e at (found_value b d k))
      where
        go : (o : Option Bytes) → Some p ≡ mapped (part_behind k (spot_in k b).start) o → (spot_in k b).start + length k ≡ p.start
        go None f = cc
        go (Some v) f = let h : p ≡ part_behind k (spot_in k b).start v = cc in rw h

    -- whether there is room for it
    value_room : (room : ℕ) → fits (look_up k (shown_tags b)) room ≡ leb p.size room
    value_room room = go (look_up k (shown_tags b)) look_size
      where
        go : (o : Option Bytes) → mapped length o ≡ Some p.size → fits o room ≡ leb p.size room
        go None f = cc
        go (Some v) f = let h : length v ≡ p.size = cc in rw h

    pub value_fits : (room : ℕ) → p.size ≤ room → fits (look_up k (shown_tags b)) room ≡ true
    value_fits room h = value_room room ∙ le-leb p.size room h

    pub value_overflows : (room : ℕ) → room < p.size → fits (look_up k (shown_tags b)) room ≡ false
    value_overflows room h = value_room room ∙ lt-leb p.size room h

  -- a value stands right behind its key
  pub value_behind : ((spot_in k b).value ≡ (spot_in k b).value) × ((p : Part) → (spot_in k b).value ≡ Some p → (spot_in k b).start + length k ≡ p.start)
  value_behind = (refl, behind_key)

pub ruleset inserting = (list_is, list_shown, ready_stored, value_long, value_many, value_done, set_full, set_new, set_held)

pub ruleset removing =
    (list_is, list_shown, ready_short, ready_length, spot_within, look_absent, look_held, look_size, value_behind, value_fits, value_overflows, remove_none)
