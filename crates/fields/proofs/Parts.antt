-- Splitting by places: the parts from a place on, and when a string is two parts round one separator.
use Rattle.std.proofs.Common.{◌≡◌, refl, sym, ap, ◌∙◌, Bool, true, false, cond, List, [], ◌∷◌, ℕ, ◌+◌, ◌-◌, ◌≤◌, ◌<◌, arith, add-one, leb, length, take, drop, drop_of_length-le, length-drop, take_all, length-take-le, le-leb, leb-true, leb-false}
use Rattle.std.specs.Prelude.{Some, None}
use borrow.Author.Tests.{lt-leb}
use Rattle.model.specs.Bytes.{Bytes, index_of, split}
use Rattle.model.specs.Reading.{two_parts}
use Rattle.fields.specs.Fields.{fault, named, one_named}
use Rattle.text.proofs.Split.{index_within, split_from}

-- the parts from a place on; none past the end of s
abbrev pub parts_from : ℕ → Bytes → ℕ → List Bytes
parts_from sep s i = cond (leb i (length s)) (split sep (drop i s)) []

-- the part from a place up to another
abbrev pub between : Bytes → ℕ → ℕ → Bytes
between s i e = take (e - i) (drop i s)

pub parts_end : (sep : ℕ) (s : Bytes) (i : ℕ) → length s < i → parts_from sep s i ≡ []
parts_end sep s i h = rw (lt-leb i (length s) h)

-- the part that begins at i, where e is the place of the next separator or the end of s
module _ (sep : ℕ) (s : Bytes) (i e : ℕ) (h : i ≤ length s) (f : e ≡ i + index_of sep (drop i s)) where
  pub part_within : (i ≤ e) × (e ≤ length s)
  part_within = (omega arith, rw f (index_within sep s i h))

  pub part_length : length (between s i e) ≡ e - i
  part_length = length-take-le (e - i) (drop i s) (rw length-drop (omega (arith, part_within)))

  pub parts_more : parts_from sep s i ≡ between s i e ∷ parts_from sep s (e + 1)
  parts_more =
      let k : index_of sep (drop i s) ≡ e - i = omega arith in
      let r : i + (e - i) ≡ e = omega arith in
      rw (le-leb i (length s) h, split_from sep s i h, k, r, add-one e)

-- a string from its first part on
pub parts_all : (sep : ℕ) (s : Bytes) → split sep s ≡ parts_from sep s 0
parts_all sep s = rw (le-leb 0 (length s) (omega arith))

empty_part : (a : Bytes) (ws : List Bytes) → length a ≡ 0 → two_parts (a ∷ ws) ≡ None
empty_part [] [] e = refl
empty_part [] (b ∷ []) e = refl
empty_part [] (b ∷ c ∷ ws) e = refl
empty_part (x ∷ a) ws e = let z : ◌≡◌ {A = ℕ} 0 1 = omega arith in cc

empty_second : (a b : Bytes) → length b ≡ 0 → two_parts (a ∷ b ∷ []) ≡ None
empty_second [] [] e = refl
empty_second (x ∷ a) [] e = refl
empty_second a (x ∷ b) e = let z : ◌≡◌ {A = ℕ} 0 1 = omega arith in cc

both_parts : (a b : Bytes) → 0 < length a → 0 < length b → two_parts (a ∷ b ∷ []) ≡ Some (record { from = a; to = b })
both_parts [] b h k = let z : ◌≡◌ {A = ℕ} 0 1 = omega arith in cc
both_parts (x ∷ a) [] h k = let z : ◌≡◌ {A = ℕ} 0 1 = omega arith in cc
both_parts (x ∷ a) (y ∷ b) h k = refl

-- i is the place of the first separator, or the length of s
module _ (sep : ℕ) (s : Bytes) (i : ℕ) (f : i ≡ 0 + index_of sep (drop 0 s)) where
  first_part : split sep s ≡ between s 0 i ∷ parts_from sep s (i + 1)
  first_part = parts_all sep s ∙ parts_more sep s 0 i (omega arith) f

  pub separator_within : i ≤ length s
  separator_within = (part_within sep s 0 i (omega arith) f).1

  first_length : length (between s 0 i) ≡ i
  first_length = part_length sep s 0 i (omega arith) f ∙ omega arith

  pub first_and_rest : i < length s → split sep s ≡ take i s ∷ split sep (drop (i + 1) s)
  first_and_rest h = let z : i - 0 ≡ i = omega arith in first_part ∙ rw (z, le-leb (i + 1) (length s) (omega arith))

  pub no_rest : length s ≤ i → split sep s ≡ take i s ∷ []
  no_rest h = let z : i - 0 ≡ i = omega arith in first_part ∙ rw (z, parts_end sep s (i + 1) (omega arith))

  pub none_before : i ≡ 0 → None ≡ two_parts (split sep s)
  none_before z = sym (ap two_parts first_part ∙ empty_part (between s 0 i) (parts_from sep s (i + 1)) (first_length ∙ z))

  -- j is the place of the second, or the length of s
  module _ (j : ℕ) (h : i + 1 ≤ length s) (g : j ≡ i + 1 + index_of sep (drop (i + 1) s)) where
    second_part : split sep s ≡ between s 0 i ∷ between s (i + 1) j ∷ parts_from sep s (j + 1)
    second_part = first_part ∙ rw (parts_more sep s (i + 1) j h g)

    second_length : length (between s (i + 1) j) ≡ j - (i + 1)
    second_length = part_length sep s (i + 1) j h g

    pub third_part : j < length s → None ≡ two_parts (split sep s)
    third_part l = rw (second_part, parts_more sep s (j + 1) (j + 1 + index_of sep (drop (j + 1) s)) (omega arith) refl)

    pub two_parts_lem : (i ≡ 0 → ⊥) → i + 1 < length s → length s ≤ j → Some (record { from = take i s; to = drop (i + 1) s }) ≡ two_parts (split sep s)
    two_parts_lem n m l =
        let z : i - 0 ≡ i = omega arith in
        let b : between s (i + 1) j ≡ drop (i + 1) s = take_all (j - (i + 1)) (drop (i + 1) s) (rw length-drop (omega arith)) in
        let p : 0 < length (between s 0 i) = rw first_length (omega arith) in
        let q : 0 < length (between s (i + 1) j) = rw second_length (omega arith) in
        sym (ap two_parts second_part ∙ rw (parts_end sep s (j + 1) (omega arith), both_parts (between s 0 i) (between s (i + 1) j) p q, z, b))

  pub none_behind : length s ≤ i + 1 → None ≡ two_parts (split sep s)
  none_behind h = go (leb (i + 1) (length s)) refl
    where
      j : ℕ
      j = i + 1 + index_of sep (drop (i + 1) s)

      go : (t : Bool) → leb (i + 1) (length s) ≡ t → None ≡ two_parts (split sep s)
      go false e = rw (first_part, parts_end sep s (i + 1) (leb-false _ _ e))
      go true e =
          let l : i + 1 ≤ length s = leb-true _ _ e in
          let w = part_within sep s (i + 1) j l refl in
          let z : length (between s (i + 1) j) ≡ 0 = second_length j l refl ∙ omega arith in
          rw (second_part j l refl, parts_end sep s (j + 1) (omega arith), empty_second (between s 0 i) (between s (i + 1) j) z)

one_name_lem : (w : Bytes) → 0 < length w → named w ≡ one_named (w ∷ [])
one_name_lem [] h = let z : ◌≡◌ {A = ℕ} 0 1 = omega arith in cc
one_name_lem (x ∷ w) h = refl

-- e is the place of the next separator from i on, or the end of s
module _ (sep : ℕ) (s : Bytes) (i : ℕ) where
  pub no_name : length s ≤ i → fault 6 ≡ one_named (split sep (drop i s))
  unfolding split
  no_name h = rw (drop_of_length-le s h)

  module _ (e : ℕ) (h : i ≤ length s) (f : e ≡ i + index_of sep (drop i s)) where
    from_here : split sep (drop i s) ≡ between s i e ∷ parts_from sep s (e + 1)
    from_here = rw (← parts_more sep s i e h f, le-leb i (length s) h)

    pub more_names : e < length s → fault 6 ≡ one_named (split sep (drop i s))
    more_names l = rw (from_here, parts_more sep s (e + 1) (e + 1 + index_of sep (drop (e + 1) s)) (omega arith) refl)

    pub the_name : i < length s → length s ≤ e → named (drop i s) ≡ one_named (split sep (drop i s))
    the_name m l =
        let b : between s i e ≡ drop i s = take_all (e - i) (drop i s) (rw length-drop (omega arith)) in
        rw (from_here, parts_end sep s (e + 1) (omega arith), b) (one_name_lem (drop i s) (rw length-drop (omega arith)))
