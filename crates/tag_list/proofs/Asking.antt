-- What is found of a key in a list.
use mathlib.Core.Path.{◌≡◌, refl, sym, ap, ◌∙◌}
use mathlib.Core.Bool.{true}
use mathlib.Core.List.{List, ◌++◌}
use Rattle.std.specs.Prelude.{Option, Some, None}
use Prim.Native.Nat.{◌+◌, ◌≤◌}
use native.Mathlib.Omega.{arith}
use lib.ListN.{length, length-append}
use Rattle.model.specs.Bytes.{Bytes}
use Rattle.model.specs.Opening.{is_some}
use Rattle.model.specs.Questions.{mapped}
use Rattle.model.specs.TagList.{Tag, look_up, tags_length, tag_bodies, keys_after, shown_tags, decode_tags}
use Rattle.model.specs.TagOutcome.{parts_with, value_part}
use Rattle.tag_list.specs.Spot.{spot_in}
use Rattle.tag_list.proofs.Bodies.{tag_bodies_append}
use Rattle.tag_list.proofs.Parted.{part_behind, parted, spot_value}
use Rattle.tag_list.proofs.Standing.{contents_within, length_contents}
use Rattle.tag_list.proofs.Walk.{holds}

module _ (b : Bytes) (d : is_some (decode_tags b) ≡ true) (k : Bytes) where
  -- a key stands, or would, within the contents
  pub spot_within : (spot_in k b).start ≤ tags_length
  spot_within =
      let ts = shown_tags b in
      let h = holds b d in
      let p = parted k 0 (keys_after (length ts)) ts h.valid.order in
      let f = p.parts.front in
      let r = p.parts.held ++ p.parts.back in
      let n : length (tag_bodies ts) ≡ length (tag_bodies f) + length (tag_bodies r) =
      ap (λ (x : List Tag). length (tag_bodies x)) p.parts.whole ∙ rw (tag_bodies_append f r) (length-append (tag_bodies f) (tag_bodies r)) in
      omega (arith, p.start, contents_within ts h.valid, length_contents ts)

  -- the value's part, where the list holds the key
  pub found_value : (spot_in k b).value ≡ mapped (part_behind k (spot_in k b).start) (look_up k (shown_tags b))
  found_value = (parted k 0 (keys_after (length (shown_tags b))) (shown_tags b) (holds b d).valid.order).value

  pub found_held : is_some (spot_in k b).value ≡ is_some (look_up k (shown_tags b))
  found_held = rw found_value (go (look_up k (shown_tags b)))
    where
      go : (o : Option Bytes) → is_some (mapped (part_behind k (spot_in k b).start) o) ≡ is_some o
      go None = refl
      go (Some v) = refl

  -- the value's part is the answer
  pub value_found : (spot_in k b).value ≡ mapped value_part (parts_with (keys_after (length (shown_tags b))) k (shown_tags b))
  value_found = sym (spot_value k 0 (keys_after (length (shown_tags b))) (shown_tags b) (holds b d).valid.order)
