-- From where a key was found to the tags exchanged there: a tag set in the place of the one that is held, or where none is, and a tag removed.
use mathlib.Core.Path.{◌≡◌, refl, sym, ap, ◌∙◌}
use mathlib.Core.Logic.{◌⊎◌, inl, inr}
use mathlib.Core.Bool.{true}
use mathlib.Core.List.{List, [], ◌∷◌, ◌++◌, append_assoc, append-nil}
use Rattle.std.specs.Prelude.{None}
use Rattle.std.proofs.lemmas.List.{nil_from_length}
use Prim.Native.Nat.{ℕ, ◌+◌, ◌*◌, ◌≤◌}
use native.Mathlib.Omega.{arith}
use lib.ListN.{length, take, drop, length-append}
use lib.Seq.{take_at, drop_at}
use Rattle.model.specs.Bytes.{Bytes, pad_to}
use Rattle.model.specs.Numbers.{le32}
use Rattle.model.specs.Opening.{is_some}
use Rattle.model.specs.Questions.{mapped}
use Rattle.model.specs.TagList.{Tag, tag, set_tag, remove_tag, max_tags, max_value, stored_key, tags_length, tag_entries, tag_bodies, tag_contents, encode_tags, keys_after, shown_tags, decode_tags}
use Rattle.model.specs.TagStatements.{ValidTags}
use Rattle.tag_list.specs.Spot.{spot_in}
use Rattle.tag_list.proofs.Bodies.{length_tag_entries}
use Rattle.tag_list.proofs.Parted.{PartedAt, part_behind, parted, value_held}
use Rattle.tag_list.proofs.Standing.{valid_stored, bodies_within, contents_within, length_contents}
use Rattle.tag_list.proofs.Valid.{set_valid, remove_valid}
use Rattle.tag_list.proofs.Walk.{holds}
use Rattle.tag_edits.specs.declared.exchange.Gap.{Gap}
use Rattle.tag_edits.specs.Exchanged.{count_then, held_of, size_of, gap_of, exchanged, Exchange}
use Rattle.tag_edits.proofs.Exchanging.{entries_three, bodies_three}

-- ------------------------------------------------------------------ tags in the place of others

module _ (a m r : List Tag) where
  length_three : length (a ++ (m ++ r)) ≡ length a + (length m + length r)
  length_three = omega (arith, length-append a (m ++ r), length-append m r)

  length_bodies : length (tag_bodies (a ++ (m ++ r))) ≡ length (tag_bodies a) + (length (tag_bodies m) + length (tag_bodies r))
  length_bodies =
      ap length (bodies_three a m r) ∙ omega (arith, length-append (tag_bodies a) (tag_bodies m ++ tag_bodies r), length-append (tag_bodies m) (tag_bodies r))

  front : take (length a) (a ++ (m ++ r)) ≡ a
  front = take_at a (m ++ r) (length a) refl

  middle : take (length m) (drop (length a) (a ++ (m ++ r))) ≡ m
  middle = rw (drop_at a (m ++ r) (length a) refl) (take_at m r (length m) refl)

  back : drop (length a + length m) (a ++ (m ++ r)) ≡ r
  back = rw (← append_assoc a m r) (drop_at (a ++ m) r (length a + length m) (length-append a m))

-- the gap behind a where m stands, in a list of n tags
abbrev gap_behind : List Tag → List Tag → ℕ → Gap
gap_behind a m n = record { place = length a; start = keys_after n + length (tag_bodies a); held = length m; size = length (tag_bodies m) }

-- the entries and bodies of n in the place of those of m
exchanged_tags : (a m n r : List Tag) (c : ℕ)
    → exchanged (gap_behind a m c) (tag_entries n) (tag_bodies n) (a ++ (m ++ r)) ≡ tag_contents (a ++ (n ++ r))
unfolding exchanged tag_contents
exchanged_tags a m n r c =
    let c : count_then (length m) (tag_entries n) (a ++ (m ++ r)) ≡ length (a ++ (n ++ r)) =
    omega (arith, length_three a m r, length_three a n r, length_tag_entries n) in
    rw (front a m r, back a m r, c, entries_three a n r, bodies_three a n r)

module _ (b : Bytes) (d : is_some (decode_tags b) ≡ true) (a m n r : List Tag) (w : shown_tags b ≡ a ++ (m ++ r)) (v : ValidTags (a ++ (n ++ r))) where
  exchange_tags : Exchange b (gap_behind a m (length (shown_tags b))) (length (tag_entries n)) (length (tag_bodies n))
  exchange_tags =
      let ts = shown_tags b in
      let us = a ++ (n ++ r) in
      let few : length ts ≤ max_tags = (holds b d).valid.count in
      let k : length ts ≡ length a + (length m + length r) = ap length w ∙ length_three a m r in
      let l : length (tag_contents ts) ≡ 4 + 8 * length ts + (length (tag_bodies a) + (length (tag_bodies m) + length (tag_bodies r))) =
      length_contents ts ∙ ap (λ (x : List Tag). 4 + 8 * length ts + length (tag_bodies x)) w ∙ omega (arith, length_bodies a m r) in
      let fits = contents_within us v in
      let size = length_contents us in
      let bodies = length_bodies a n r in
      let short = bodies_within us (valid_stored us v) in
      record {
        listed = d;
        place = omega arith;
        begins = ap (λ (x : List Tag). keys_after (length ts) + length (tag_bodies x)) (sym (rw w (front a m r)));
        size = ap (λ (x : List Tag). length (tag_bodies x)) (sym (rw w (middle a m r)));
        room = omega (arith, v.count);
        entry_room = omega (arith, length_three a n r, length_tag_entries n);
      }

-- ------------------------------------------------------------------ one tag

one_entry : (k v : Bytes) → tag_entries (tag k v ∷ []) ≡ le32 (length k) ++ le32 (length v)
unfolding tag_entries
one_entry k v = refl

one_body : (k v : Bytes) → tag_bodies (tag k v ∷ []) ≡ k ++ v
unfolding tag_bodies
one_body k v = ap (λ (x : Bytes). k ++ x) (append-nil v)

one_size : (k v : Bytes) → length (tag_bodies (tag k v ∷ [])) ≡ length k + length v
one_size k v = ap length (one_body k v) ∙ length-append k v

no_entry : tag_entries [] ≡ []
unfolding tag_entries
no_entry = refl

no_body : tag_bodies [] ≡ []
unfolding tag_bodies
no_body = refl

-- the tags held where a key is found stand between those below it and those above
record Between (b k : Bytes) : Type 0 where
  below : List Tag
  held : List Tag
  above : List Tag
  whole : shown_tags b ≡ below ++ (held ++ above)
  gap : gap_of (spot_in k b) (length k) ≡ gap_behind below held (length (shown_tags b))
  set : (v : Bytes) → set_tag k v (shown_tags b) ≡ below ++ (tag k v ∷ above)
  removed : remove_tag k (shown_tags b) ≡ below ++ above

module _ (b : Bytes) (d : is_some (decode_tags b) ≡ true) (k : Bytes) where
  at_key : PartedAt k 0 (keys_after (length (shown_tags b))) (shown_tags b)
  at_key = parted k 0 (keys_after (length (shown_tags b))) (shown_tags b) (holds b d).valid.order

  -- how many tags are held, and how long they are
  held_is : (held_of (spot_in k b).value ≡ length at_key.parts.held) × (size_of (spot_in k b).value (length k) ≡ length (tag_bodies at_key.parts.held))
  held_is = rw (at_key.value ∙ ap (mapped (part_behind k (spot_in k b).start)) at_key.parts.found) (go at_key.parts.held at_key.parts.one)
    where
      go : (held : List Tag) → (held ≡ []) ⊎ ((w : Bytes) × (held ≡ tag k w ∷ []))
          → (held_of (mapped (part_behind k (spot_in k b).start) (value_held held)) ≡ length held)
          × (size_of (mapped (part_behind k (spot_in k b).start) (value_held held)) (length k) ≡ length (tag_bodies held))
      go held (inl e) = rw (e, no_body) (refl, refl)
      go held (inr (w, e)) = rw (e, one_size k w) (refl, refl)

  between : Between b k
  between =
      let p = at_key.parts in
      let place : (spot_in k b).place ≡ length p.front = omega (arith, at_key.place) in
      record {
        below = p.front;
        held = p.held;
        above = p.back;
        whole = p.whole;
        gap = λ i. record { place = place i; start = at_key.start i; held = held_is.0 i; size = held_is.1 i };
        set = p.set;
        removed = p.removed;
      }

  -- the bytes of a tag are within the block
  pub gap_within : size_of (spot_in k b).value (length k) ≤ tags_length
  gap_within =
      let p = at_key.parts in
      let ts = shown_tags b in
      omega (
        arith,
        held_is.1,
        contents_within ts (holds b d).valid,
        length_contents ts,
        ap (λ (x : List Tag). length (tag_bodies x)) p.whole,
        length_bodies p.front p.held p.back,
      )

  module _ (n us : List Tag) (v : ValidTags us) where
    between_exchange : us ≡ between.below ++ (n ++ between.above) → Exchange b (gap_of (spot_in k b) (length k)) (length (tag_entries n)) (length (tag_bodies n))
    between_exchange e = let p = between in rw p.gap (exchange_tags b d p.below p.held n p.above p.whole (rw e at v))

    between_gives : us ≡ between.below ++ (n ++ between.above)
        → pad_to tags_length (exchanged (gap_of (spot_in k b) (length k)) (tag_entries n) (tag_bodies n) (shown_tags b)) ≡ encode_tags us
    unfolding encode_tags
    between_gives e =
        let p = between in
        ap (pad_to tags_length)
        (ap (λ (g : Gap). exchanged g (tag_entries n) (tag_bodies n) (shown_tags b)) p.gap
        ∙ ap (exchanged (gap_behind p.below p.held (length (shown_tags b))) (tag_entries n) (tag_bodies n)) p.whole
        ∙ exchanged_tags p.below p.held n p.above (length (shown_tags b))
        ∙ ap tag_contents (sym e))

  -- ------------------------------------------------------------------ set

  module _ (v : Bytes) (stored : stored_key k ≡ true) (short : length v ≤ max_value) (few : length (set_tag k v (shown_tags b)) ≤ max_tags) where
    pub set_exchange : Exchange b (gap_of (spot_in k b) (length k)) 8 (length k + length v)
    set_exchange =
        let valid = set_valid k v (shown_tags b) (holds b d).valid stored short few in
        rw (one_entry k v, one_size k v) at (between_exchange (tag k v ∷ []) (set_tag k v (shown_tags b)) valid (between.set v))

    pub set_gives : pad_to tags_length (exchanged (gap_of (spot_in k b) (length k)) (le32 (length k) ++ le32 (length v)) (k ++ v) (shown_tags b))
        ≡ encode_tags (set_tag k v (shown_tags b))
    set_gives =
        let valid = set_valid k v (shown_tags b) (holds b d).valid stored short few in
        rw (one_entry k v, one_body k v) at (between_gives (tag k v ∷ []) (set_tag k v (shown_tags b)) valid (between.set v))

  -- ------------------------------------------------------------------ removed

  pub remove_exchange : Exchange b (gap_of (spot_in k b) (length k)) 0 0
  remove_exchange =
      let valid = remove_valid k (shown_tags b) (holds b d).valid in
      rw (no_entry, no_body) at (between_exchange [] (remove_tag k (shown_tags b)) valid between.removed)

  pub remove_gives : pad_to tags_length (exchanged (gap_of (spot_in k b) (length k)) [] [] (shown_tags b)) ≡ encode_tags (remove_tag k (shown_tags b))
  remove_gives =
      let valid = remove_valid k (shown_tags b) (holds b d).valid in
      rw (no_entry, no_body) at (between_gives [] (remove_tag k (shown_tags b)) valid between.removed)

  -- where no such tag is held, nothing is removed
  pub remove_none : (spot_in k b).value ≡ None → b ≡ encode_tags (remove_tag k (shown_tags b))
  remove_none h =
      let p = at_key.parts in
      let n : length p.held ≡ 0 = sym (rw h at held_is.0) in
      (holds b d).block ∙ ap encode_tags (p.whole ∙ rw (nil_from_length p.held n) (sym p.removed))

pub ruleset placed = (gap_within, set_exchange, set_gives, remove_exchange, remove_gives)
