-- Tags exchanged in a block, step by step: the keys and values, then the entries, then the count; that each step fits, and what the block
-- holds in the end.
use mathlib.Core.Path.{◌≡◌, refl, sym, ap, ◌∙◌}
use mathlib.Core.Bool.{true}
use mathlib.Core.List.{List, [], ◌++◌, append_assoc, append-nil}
use Prim.Native.Nat.{ℕ, ◌+◌, ◌-◌, ◌*◌, ◌/◌, ◌≤◌, ◌<◌}
use native.Mathlib.Omega.{arith}
use lib.ListN.{length, take, drop, take-append-drop, length-append, length-drop}
use lib.Seq.{length-take-le, drop-drop}
use Rattle.model.specs.Bytes.{Bytes, put, pad_to}
use Rattle.model.specs.Numbers.{le32}
use Rattle.model.specs.TagList.{Tag, tags_length, tag_entries, tag_bodies, tag_contents, encode_tags, shown_tags}
use Rattle.text.specs.Blocks.{all_zero}
use Rattle.block.specs.Splice.{spliced}
use Rattle.block.proofs.Spliced.{length_pad_to, pad_zeros, put_pad_to, splice_parts}
use Rattle.tag_list.proofs.Bodies.{tag_bodies_append, tag_entries_append, length_tag_entries}
use Rattle.tag_list.proofs.Standing.{contents_within}
use Rattle.tag_list.proofs.Walk.{holds}
use Rattle.tag_edits.specs.declared.exchange.Gap.{Gap}
use Rattle.tag_edits.specs.Exchanged.{count_then, exchanged, Exchange}

-- ------------------------------------------------------------------ contents in parts

module _ (a m r : List Tag) where
  pub entries_three : tag_entries (a ++ (m ++ r)) ≡ tag_entries a ++ (tag_entries m ++ tag_entries r)
  entries_three = rw (tag_entries_append a (m ++ r), tag_entries_append m r)

  pub bodies_three : tag_bodies (a ++ (m ++ r)) ≡ tag_bodies a ++ (tag_bodies m ++ tag_bodies r)
  bodies_three = rw (tag_bodies_append a (m ++ r), tag_bodies_append m r)

-- the count n, the entries and the bodies of ts, with `entry` and t in the place of those of the `held` tags at place i
unfoldable joined : ℕ → Bytes → Bytes → ℕ → ℕ → List Tag → Bytes
joined n entry t i held ts =
    le32 n
    ++ ((tag_entries (take i ts) ++ (entry ++ tag_entries (drop (i + held) ts)))
    ++ (tag_bodies (take i ts) ++ (t ++ tag_bodies (drop (i + held) ts))))

-- the entries not exchanged yet
abbrev halfway : Bytes → ℕ → ℕ → List Tag → Bytes
halfway t i held ts = joined (length ts) (tag_entries (take held (drop i ts))) t i held ts

-- a text in the place of a part of the bodies, or of the entries
in_bodies : (size : ℕ) (h e a s c t : Bytes) (end at : ℕ) → end ≡ length h + (length e + (length a + (length s + length c)))
    → at ≡ length h + (length e + length a) → end ≤ size
    → spliced (pad_to size (h ++ (e ++ (a ++ (s ++ c))))) end at (length s) t ≡ pad_to size (h ++ (e ++ (a ++ (t ++ c))))
in_bodies size h e a s c t end at d f l =
    let x = h ++ (e ++ a) in
    let n : length x ≡ at = rw (length-append h (e ++ a), length-append e a) (sym f) in
    let m : length x + (length s + length c) ≡ end = omega arith in
    let g : (r : Bytes) → h ++ (e ++ (a ++ (r ++ c))) ≡ x ++ (r ++ c) = λ r. simp append_assoc in
    ap (λ (b : Bytes). spliced (pad_to size b) end at (length s) t) (g s)
    ∙ rw (m, n) at (splice_parts size x s c t (omega arith))
    ∙ ap (pad_to size) (sym (g t))

in_entries : (size : ℕ) (h a s c d t : Bytes) (end at : ℕ) → end ≡ length h + (length a + (length s + length c) + length d)
    → at ≡ length h + length a → end ≤ size
    → spliced (pad_to size (h ++ ((a ++ (s ++ c)) ++ d))) end at (length s) t ≡ pad_to size (h ++ ((a ++ (t ++ c)) ++ d))
in_entries size h a s c d t end at e f l =
    let x = h ++ a in
    let z = c ++ d in
    let n : length x ≡ at = length-append h a ∙ sym f in
    let m : length x + (length s + length z) ≡ end = omega (arith, length-append c d) in
    let g : (r : Bytes) → h ++ ((a ++ (r ++ c)) ++ d) ≡ x ++ (r ++ z) = λ r. simp append_assoc in
    ap (λ (b : Bytes). spliced (pad_to size b) end at (length s) t) (g s)
    ∙ rw (m, n) at (splice_parts size x s z t (omega arith))
    ∙ ap (pad_to size) (sym (g t))

module _ (i held : ℕ) (ts : List Tag) (h : i + held ≤ length ts) where
  parts : ts ≡ take i ts ++ (take held (drop i ts) ++ drop (i + held) ts)
  parts =
      sym (take-append-drop i ts)
      ∙ ap (λ (r : List Tag). take i ts ++ r)
      (sym (take-append-drop held (drop i ts)) ∙ ap (λ (r : List Tag). take held (drop i ts) ++ r) (drop-drop held i ts))

  contents_joined : tag_contents ts ≡ halfway (tag_bodies (take held (drop i ts))) i held ts
  unfolding tag_contents joined
  contents_joined =
      let a = take i ts in
      let m = take held (drop i ts) in
      let r = drop (i + held) ts in
      ap (λ (x : Bytes). le32 (length ts) ++ (x ++ tag_bodies ts)) (ap tag_entries parts ∙ entries_three a m r)
      ∙ ap (λ (x : Bytes). le32 (length ts) ++ ((tag_entries a ++ (tag_entries m ++ tag_entries r)) ++ x)) (ap tag_bodies parts ∙ bodies_three a m r)

  front_entries : length (tag_entries (take i ts)) ≡ 8 * i
  front_entries = omega (arith, length_tag_entries (take i ts), length-take-le i ts (omega arith))

  back_entries : length (tag_entries (drop (i + held) ts)) ≡ 8 * (length ts - (i + held))
  back_entries = omega (arith, length_tag_entries (drop (i + held) ts), length-drop (i + held) ts)

  held_entries : length (tag_entries (take held (drop i ts))) ≡ 8 * held
  held_entries =
      omega (arith, length_tag_entries (take held (drop i ts)), length-take-le held (drop i ts) (omega (arith, length-drop i ts)), length-drop i ts)

  module _ (n : ℕ) (entry t : Bytes) where
    length_joined : length (joined n entry t i held ts)
        ≡ 4 + (8 * (length ts - held) + length entry) + (length (tag_bodies (take i ts)) + (length t + length (tag_bodies (drop (i + held) ts))))
    unfolding joined
    length_joined =
        let e = tag_entries (take i ts) in
        let f = tag_entries (drop (i + held) ts) in
        let a = tag_bodies (take i ts) in
        let c = tag_bodies (drop (i + held) ts) in
        omega (
          arith,
          length-append (e ++ (entry ++ f)) (a ++ (t ++ c)),
          length-append e (entry ++ f),
          length-append entry f,
          length-append a (t ++ c),
          length-append t c,
          front_entries,
          back_entries,
        )

    module _ (size end : ℕ) (l : end ≡ length (joined n entry t i held ts)) (w : end ≤ size) where
      other_bodies : (at : ℕ) (u : Bytes) → at ≡ 4 + (8 * (length ts - held) + length entry) + length (tag_bodies (take i ts))
          → spliced (pad_to size (joined n entry t i held ts)) end at (length t) u ≡ pad_to size (joined n entry u i held ts)
      unfolding joined
      other_bodies at u f =
          let e = tag_entries (take i ts) in
          let g = tag_entries (drop (i + held) ts) in
          let a = tag_bodies (take i ts) in
          let c = tag_bodies (drop (i + held) ts) in
          let k : length (e ++ (entry ++ g)) ≡ 8 * (length ts - held) + length entry =
          omega (arith, length-append e (entry ++ g), length-append entry g, front_entries, back_entries) in
          let d : end ≡ 4 + (length (e ++ (entry ++ g)) + (length a + (length t + length c))) = omega (arith, length_joined) in
          in_bodies size (le32 n) (e ++ (entry ++ g)) a t c u end at d (omega arith) w

      other_entries : (at : ℕ) (other : Bytes) → at ≡ 4 + 8 * i
          → spliced (pad_to size (joined n entry t i held ts)) end at (length entry) other ≡ pad_to size (joined n other t i held ts)
      unfolding joined
      other_entries at other f =
          let e = tag_entries (take i ts) in
          let g = tag_entries (drop (i + held) ts) in
          let a = tag_bodies (take i ts) in
          let c = tag_bodies (drop (i + held) ts) in
          let d : end ≡ 4 + (length e + (length entry + length g) + length (a ++ (t ++ c))) =
          omega (arith, length_joined, front_entries, back_entries, length-append a (t ++ c), length-append t c) in
          let k : at ≡ 4 + length e = omega (arith, front_entries) in
          in_entries size (le32 n) e entry g (a ++ (t ++ c)) other end at d k w

    other_count : (size m : ℕ) → put (pad_to size (joined n entry t i held ts)) 0 (le32 m) ≡ pad_to size (joined m entry t i held ts)
    unfolding joined
    other_count size m =
        put_pad_to size (le32 n) (le32 m)
        ((tag_entries (take i ts) ++ (entry ++ tag_entries (drop (i + held) ts))) ++ (tag_bodies (take i ts) ++ (t ++ tag_bodies (drop (i + held) ts))))
        refl

-- ------------------------------------------------------------------ the steps

module _ (b : Bytes) (g : Gap) (entry t u : Bytes) (x : Exchange b g (length entry) (length t + length u)) where
  abbrev i : ℕ
  i = g.place

  abbrev start : ℕ
  start = g.start

  abbrev held : ℕ
  held = g.held

  abbrev old : ℕ
  old = g.size

  -- the tags stand within the count that is read, and the count then follows from it
  pub counts : (n : ℕ) → n ≡ length (shown_tags b) → (i + held ≤ n) × (n - held + length entry / 8 ≡ count_then held entry (shown_tags b))
  counts n e = (omega (arith, x.place), ap (λ (m : ℕ). m - held + length entry / 8) e)

  -- where the contents end, by parts
  ends : length (tag_contents (shown_tags b))
      ≡ 4 + 8 * length (shown_tags b)
      + (length (tag_bodies (take i (shown_tags b))) + (old + length (tag_bodies (drop (i + held) (shown_tags b)))))
  ends =
      let ts = shown_tags b in
      let m = take held (drop i ts) in
      omega (
        arith,
        ap length (contents_joined i held ts x.place),
        length_joined i held ts x.place (length ts) (tag_entries m) (tag_bodies m),
        held_entries i held ts x.place,
        x.size,
        x.place,
      )

  module _ (end : ℕ) (n : end ≡ length (tag_contents (shown_tags b))) where
    -- keys and values
    pub first_fits : (start + old ≤ end) × (end ≤ length b) × (end + length t + length u ≤ length b + old) × (all_zero (drop end b) ≡ true)
    first_fits =
        let ts = shown_tags b in
        let h = holds b x.listed in
        let w : end ≤ tags_length = omega (arith, contents_within ts h.valid) in
        let z : all_zero (drop (length (tag_contents ts)) (encode_tags ts)) ≡ true = unfold encode_tags in pad_zeros tags_length (tag_contents ts) in
        (omega (arith, ends, x.begins), omega (arith, h.size), omega (arith, h.size, x.room), rw n (rw (← h.block) at z))

    module _ (b₁ : Bytes) (e₁ : b₁ ≡ spliced b end start old (t ++ u)) where
      first_done : b₁ ≡ pad_to tags_length (halfway (t ++ u) i held (shown_tags b))
      first_done =
          let ts = shown_tags b in
          let m = take held (drop i ts) in
          let h = holds b x.listed in
          let e : encode_tags ts ≡ pad_to tags_length (halfway (tag_bodies m) i held ts) =
          unfold encode_tags in ap (pad_to tags_length) (contents_joined i held ts x.place) in
          let l : end ≡ length (halfway (tag_bodies m) i held ts) = n ∙ ap length (contents_joined i held ts x.place) in
          let w : end ≤ tags_length = omega (arith, contents_within ts h.valid) in
          let at : start ≡ 4 + (8 * (length ts - held) + length (tag_entries m)) + length (tag_bodies (take i ts)) =
          omega (arith, x.begins, x.place, held_entries i held ts x.place) in
          e₁
          ∙ ap (λ (c : Bytes). spliced c end start old (t ++ u)) (h.block ∙ e)
          ∙ ap (λ (o : ℕ). spliced (pad_to tags_length (halfway (tag_bodies m) i held ts)) end start o (t ++ u)) x.size
          ∙ other_bodies i held ts x.place (length ts) (tag_entries m) (tag_bodies m) tags_length end l w start (t ++ u) at

      first_ends : end - old + (length t + length u) ≡ length (halfway (t ++ u) i held (shown_tags b))
      first_ends =
          let ts = shown_tags b in
          let m = take held (drop i ts) in
          omega (
            arith,
            ends,
            length_joined i held ts x.place (length ts) (tag_entries m) (t ++ u),
            held_entries i held ts x.place,
            length-append t u,
            x.place,
          )

      first_within : end - old + (length t + length u) ≤ tags_length
      first_within = omega (arith, ends, x.room)

      pub first_length : length b₁ ≡ tags_length
      first_length =
          let ts = shown_tags b in
          ap length first_done
          ∙ length_pad_to tags_length (halfway (t ++ u) i held ts) (omega (arith, first_ends, first_within))

      -- entries
      pub second_fits : (4 + 8 * i + 8 * held ≤ end - old + (length t + length u)) × (end - old + (length t + length u) ≤ length b₁)
          × (end - old + (length t + length u) + length entry + 0 ≤ length b₁ + 8 * held)
          × (all_zero (drop (end - old + (length t + length u)) b₁) ≡ true)
      second_fits =
          let ts = shown_tags b in
          let c = halfway (t ++ u) i held ts in
          let z : all_zero (drop (end - old + (length t + length u)) b₁) ≡ true = rw (first_ends, first_done) (pad_zeros tags_length c) in
          (omega (arith, ends, x.place), omega (arith, first_length, first_within), omega (arith, first_length, ends, x.entry_room), z)

      module _ (b₂ : Bytes) (e₂ : b₂ ≡ spliced b₁ (end - old + (length t + length u)) (4 + 8 * i) (8 * held) (entry ++ [])) where
        second_done : b₂ ≡ pad_to tags_length (joined (length (shown_tags b)) entry (t ++ u) i held (shown_tags b))
        second_done =
            let ts = shown_tags b in
            let e = tag_entries (take held (drop i ts)) in
            let k = held_entries i held ts x.place in
            let c = halfway (t ++ u) i held ts in
            let to = end - old + (length t + length u) in
            e₂
            ∙ ap (λ (v : Bytes). spliced b₁ to (4 + 8 * i) (8 * held) v) (append-nil entry)
            ∙ ap (λ (v : Bytes). spliced v to (4 + 8 * i) (8 * held) entry) first_done
            ∙ ap (λ (m : ℕ). spliced (pad_to tags_length c) to (4 + 8 * i) m entry) (sym k)
            ∙ other_entries i held ts x.place (length ts) e (t ++ u) tags_length to first_ends first_within (4 + 8 * i) entry refl

        pub second_length : length b₂ ≡ tags_length
        second_length =
            let ts = shown_tags b in
            ap length second_done
            ∙ length_pad_to tags_length (joined (length ts) entry (t ++ u) i held ts)
            (omega (arith, length_joined i held ts x.place (length ts) entry (t ++ u), length-append t u, ends, x.entry_room, x.place))

        -- the count, and the whole
        pub third_fits : 3 < length b₂
        third_fits = omega (arith, second_length)

        pub exchanges : (count : ℕ) → count ≡ count_then held entry (shown_tags b) → (b₃ : Bytes) → b₃ ≡ put b₂ 0 (le32 count)
            → b₃ ≡ pad_to tags_length (exchanged g entry (t ++ u) (shown_tags b))
        exchanges count d b₃ e₃ =
            let ts = shown_tags b in
            let f : joined (count_then held entry ts) entry (t ++ u) i held ts ≡ exchanged g entry (t ++ u) ts = unfold joined exchanged in refl in
            e₃
            ∙ ap (λ (c : Bytes). put c 0 (le32 count)) second_done
            ∙ other_count i held ts x.place (length ts) entry (t ++ u) tags_length count
            ∙ ap (λ (m : ℕ). pad_to tags_length (joined m entry (t ++ u) i held ts)) d
            ∙ ap (pad_to tags_length) f
