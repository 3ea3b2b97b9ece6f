-- Demand 1 of every entry on tag lists: the numbers that it gives, what it leaves where it refuses, and that it keeps every size.
use mathlib.Core.Path.{◌≡◌, refl, sym, ◌∙◌}
use mathlib.Core.Logic.{◌≢◌}
use mathlib.Core.Bool.{Bool, true, false, cond}
use mathlib.Core.List.{List, [], ◌∷◌, Memᴰ}
use Rattle.std.specs.Prelude.{Option, Some, None, Ok, Err}
use Prim.Native.Nat.{ℕ, suc, ◌≤◌}
use native.Mathlib.Omega.{arith}
use lib.ListN.{length}
use lib.Dec.{leb}
use Rattle.model.specs.declared.fault.Fault.TheVariants.{WrongBuffer, NotARecord, OutputShort, BadKey, LongValue, TagsFull, NotATagList}
use Rattle.model.specs.Faults.{fault_number}
use borrow.Author.Tests.{leb-true}
use Rattle.model.specs.Bytes.{Bytes}
use Rattle.model.specs.Record.{GraphName}
use Rattle.model.specs.Layout.{decode}
use Rattle.model.specs.Opening.{Given, and_then, or_refuse, number_of, opened, has_size, record_in}
use Rattle.model.specs.Written.{tags_of, fits, put_value}
use Rattle.model.specs.TagList.{Tag, look_up, set_tag, remove_tag, set_graph_name, max_tags, max_value, lower, fine_key, tags_length, decode_tags}
use Rattle.model.specs.TagOutcome.{Removal, tag_list, ready_key, with_key, tag_count_in, tag_at_in, get_in, contains_in, judged_tags, short_tags, insert_in, set_graph_name_in, remove_in, rest_given, list_with, output_with_removed}
use Rattle.model.specs.TagStatements.{ValidTags, AnswersWith, ChangesWith, RemovesWith, TagsDemand1}
use Rattle.text.proofs.Put.{length_put}
use Rattle.tag_list.proofs.Lowering.{lower_stored}
use Rattle.tag_list.proofs.Valid.{set_valid, remove_valid}
use Rattle.tag_list.proofs.Standing.{length_encoded}
use Rattle.tag_list.proofs.Coding.{decoded_valid, decoded_length}
use Rattle.graph_tags.proofs.ThreeTags.{three_valid}
use Rattle.graph_tags.proofs.Numbers.{tag_numbers}

-- ------------------------------------------------------------------ refusals

-- n is the number of a refusal, and one of these
abbrev Refusal : List ℕ → ℕ → Type 0
Refusal ns n = Memᴰ n ns × (n ≢ 0)

-- one of these refusals, or an answer of which P holds
abbrev Yields : {A : Type 0} → List ℕ → (A → Type 0) → Given A → Type 0
Yields ns P (Err e) = Refusal ns (fault_number e)
Yields ns P (Ok a) = P a

-- a block b changed: it has the size of a tag list, and the new tags are one
record Done (b : Bytes) (us : List Tag) : Type 0 where
  long : length b ≡ tags_length
  valid : ValidTags us

-- a tag removed: so for the tags that are left, and the value has room in the output
record Removed (b : Bytes) (room : ℕ) (r : Removal) : Type 0 where
  done : Done b r.rest
  fitting : fits r.value room ≡ true

module _ (ns : List ℕ) where
  module _ {A : Type 0} (P : A → Type 0) where
    list_yields : (b : Bytes) (f : List Tag → Given A) → Refusal ns 29 → ((ts : List Tag) → decode_tags b ≡ Some ts → Yields ns P (f ts))
        → Yields ns P (and_then (tag_list b) f)
    unfolding tag_list
    list_yields b f r h = go (decode_tags b) refl
      where
        go : (o : Option (List Tag)) → decode_tags b ≡ o → Yields ns P (and_then (or_refuse NotATagList o) f)
        go None d = r
        go (Some ts) d = h ts d

    key_yields : (b key : Bytes) (f : List Tag → Bytes → Given A) → Refusal ns 29 → Refusal ns 19
        → ((ts : List Tag) → decode_tags b ≡ Some ts → fine_key key ≡ true → Yields ns P (f ts (lower key))) → Yields ns P (with_key b key f)
    unfolding ready_key
    key_yields b key f r s h = list_yields b (λ ts. and_then (ready_key key) λ k. f ts k) r (λ ts d. go ts d (fine_key key) refl)
      where
        go : (ts : List Tag) → decode_tags b ≡ Some ts → (t : Bool) → fine_key key ≡ t
            → Yields ns P (and_then (cond t (Ok (lower key)) (Err BadKey)) λ k. f ts k)
        go ts d true e = h ts d e
        go ts d false e = s

    record_yields : (buffer : Bytes) (f : GraphName → Given A) → Refusal ns 15 → Refusal ns 16 → ((g : GraphName) → Yields ns P (f g))
        → Yields ns P (and_then (opened (record_in buffer)) f)
    unfolding opened
    record_yields buffer f r s h = go (has_size buffer) (decode buffer)
      where
        go : (t : Bool) (o : Option GraphName) → Yields ns P (and_then (cond t (or_refuse NotARecord o) (Err WrongBuffer)) f)
        go false o = r
        go true None = s
        go true (Some g) = h g

  judged_yields : (P : List Tag → Type 0) (short : Bool) (us : List Tag) → Refusal ns 20 → Refusal ns 21
      → (short ≡ true → length us ≤ max_tags → P us) → Yields ns P (judged_tags short us)
  unfolding judged_tags
  judged_yields P short us r s h = go short (leb (length us) max_tags) refl h
    where
      go : (u t : Bool) → leb (length us) max_tags ≡ t → (u ≡ true → length us ≤ max_tags → P us)
          → Yields ns P (cond u (cond t (Ok us) (Err TagsFull)) (Err LongValue))
      go true true e h = h refl (leb-true (length us) max_tags e)
      go true false e h = s
      go false t e h = r

  -- ------------------------------------------------------------------ questions

  answers : {A : Type 0} (P : A → Type 0) (a : Given A) → Yields ns P a → AnswersWith (0 ∷ ns) a
  answers P (Err n) y = record { number = Memᴰ.tail y.0; kept = λ m value old. refl }
  answers P (Ok x) y = record { number = Memᴰ.head refl; kept = λ m. absurd (m refl) }

  -- ------------------------------------------------------------------ changes

  changes : (answer : Bytes → Given (List Tag)) → ((b : Bytes) → Yields ns (Done b) (answer b)) → ChangesWith (0 ∷ ns) answer
  changes answer h = record {
    numbers = λ b. answers (Done b) (answer b) (h b);
    kept = λ b. same b (answer b);
    size = λ b. long b (answer b) (h b);
    wrong = λ b n. wrong b n (answer b) (h b);
  }
    where
      same : (b : Bytes) (a : Given (List Tag)) → number_of a ≢ 0 → list_with a b ≡ b
      same b (Err n) m = refl
      same b (Ok us) m = absurd (m refl)

      long : (b : Bytes) (a : Given (List Tag)) → Yields ns (Done b) a → length (list_with a b) ≡ length b
      long b (Err n) y = refl
      long b (Ok us) y = length_encoded us y.valid ∙ sym y.long

      wrong : (b : Bytes) → length b ≢ tags_length → (a : Given (List Tag)) → Yields ns (Done b) a → number_of a ≢ 0
      wrong b n (Err k) y = y.1
      wrong b n (Ok us) y = absurd (n y.long)

  -- ------------------------------------------------------------------ removals

  fits_yields : (b : Bytes) (room : ℕ) (value : Option Bytes) (us : List Tag) → Refusal ns 17 → Done b us
      → Yields ns (Removed b room) (cond (fits value room) (Ok (record { value = value; rest = us })) (Err OutputShort))
  fits_yields b room value us r d = go (fits value room) refl
    where
      go : (t : Bool) → fits value room ≡ t → Yields ns (Removed b room) (cond t (Ok (record { value = value; rest = us })) (Err OutputShort))
      go true e = record { done = d; fitting = e }
      go false e = r

  removes : (answer : Bytes → ℕ → Given Removal) → ((b : Bytes) (room : ℕ) → Yields ns (Removed b room) (answer b room)) → RemovesWith (0 ∷ ns) answer
  removes answer h = record {
    list = λ room. changes (λ b. rest_given (answer b room)) (λ b. left b room (answer b room) (h b room));
    numbers = λ b room. answers (Removed b room) (answer b room) (h b room);
    kept = λ b out. same out (answer b (length out));
    size = λ b out. long b out (answer b (length out)) (h b (length out));
  }
    where
      left : (b : Bytes) (room : ℕ) (a : Given Removal) → Yields ns (Removed b room) a → Yields ns (Done b) (rest_given a)
      left b room (Err n) y = y
      left b room (Ok r) y = y.done

      same : (out : Bytes) (a : Given Removal) → number_of a ≢ 0 → output_with_removed a out ≡ out
      same out (Err n) m = refl
      same out (Ok r) m = absurd (m refl)

      put_long : (out : Bytes) (value : Option Bytes) → fits value (length out) ≡ true → length (put_value value out) ≡ length out
      put_long out None e = refl
      put_long out (Some t) e = let h = leb-true (length t) (length out) e in length_put out 0 t (omega arith)

      long : (b out : Bytes) (a : Given Removal) → Yields ns (Removed b (length out)) a → length (output_with_removed a out) ≡ length out
      long b out (Err n) y = refl
      long b out (Ok r) y = put_long out r.value y.fitting

-- ------------------------------------------------------------------ the numbers of refusals, each found by its place

first : {n : ℕ} {ns : List ℕ} → Refusal (suc n ∷ ns) (suc n)
first = (Memᴰ.head refl, λ e. omega arith)

next : {m n : ℕ} {ns : List ℕ} → Refusal ns n → Refusal (m ∷ ns) n
next r = (Memᴰ.tail r.0, r.1)

abbrev of_list : List ℕ
of_list = 29 ∷ []

abbrev of_key : List ℕ
of_key = 29 ∷ 19 ∷ []

abbrev of_insert : List ℕ
of_insert = 29 ∷ 19 ∷ 20 ∷ 21 ∷ []

abbrev of_remove : List ℕ
of_remove = 29 ∷ 19 ∷ 17 ∷ []

abbrev of_three : List ℕ
of_three = 15 ∷ 16 ∷ 29 ∷ 20 ∷ 21 ∷ []

-- ------------------------------------------------------------------ every entry

-- whatever is answered
abbrev Any : {A : Type 0} → A → Type 0
Any a = Unit {0}

list_asked : {A : Type 0} (b : Bytes) (f : List Tag → A) → AnswersWith (0 ∷ of_list) (and_then (tag_list b) λ ts. Ok (f ts))
list_asked b f = answers of_list Any _ (list_yields of_list Any b (λ ts. Ok (f ts)) first (λ ts d. tt))

key_asked : {A : Type 0} (b key : Bytes) (f : List Tag → Bytes → A) → AnswersWith (0 ∷ of_key) (with_key b key λ ts k. Ok (f ts k))
key_asked b key f = answers of_key Any _ (key_yields of_key Any b key (λ ts k. Ok (f ts k)) first (next first) (λ ts d e. tt))

insert_yields : (b key value : Bytes) → Yields of_insert (Done b) (insert_in b key value)
unfolding insert_in
insert_yields b key value =
    let short = leb (length value) max_value in
    let k = lower key in
    key_yields of_insert (Done b) b key (λ ts j. judged_tags short (set_tag j value ts)) first (next first) (λ ts d e.
    judged_yields of_insert (Done b) short (set_tag k value ts) (next (next first)) (next (next (next first))) (λ s few.
    record {
      long = decoded_length b ts d;
      valid = set_valid k value ts (decoded_valid b ts d) (lower_stored key e) (leb-true (length value) max_value s) few;
    }))

remove_yields : (b key : Bytes) (room : ℕ) → Yields of_remove (Removed b room) (remove_in b key room)
unfolding remove_in
remove_yields b key room =
    let k = lower key in
    key_yields of_remove (Removed b room) b key
    (λ ts j. cond (fits (look_up j ts) room) (Ok (record { value = look_up j ts; rest = remove_tag j ts })) (Err OutputShort))
    first (next first) (λ ts d e.
    fits_yields of_remove b room (look_up k ts) (remove_tag k ts) (next (next first))
    (record { long = decoded_length b ts d; valid = remove_valid k ts (decoded_valid b ts d) }))

three_yields : (b buffer : Bytes) → Yields of_three (Done b) (set_graph_name_in b buffer)
unfolding set_graph_name_in
three_yields b buffer =
    record_yields of_three (Done b) buffer (λ g. and_then (tag_list b) λ ts. judged_tags (short_tags (tags_of g)) (set_graph_name g ts)) first (next first) (λ g.
    list_yields of_three (Done b) b (λ ts. judged_tags (short_tags (tags_of g)) (set_graph_name g ts)) (next (next first)) (λ ts d.
    judged_yields of_three (Done b) (short_tags (tags_of g)) (set_graph_name g ts) (next (next (next first))) (next (next (next (next first)))) (λ short few.
    let v = decoded_valid b ts d in
    record { long = decoded_length b ts d; valid = three_valid g ts v.order v short few })))

pub tags_demand1 : TagsDemand1
unfolding tag_count_in tag_at_in get_in contains_in
tags_demand1 = record {
  counts = λ b. list_asked b _;
  at = λ b i. list_asked b _;
  get = λ b key. key_asked b key _;
  contains_key = λ b key. key_asked b key _;
  insert = λ key value. changes of_insert _ (λ b. insert_yields b key value);
  remove = λ key. removes of_remove _ (λ b room. remove_yields b key room);
  set_graph_name_lem = λ buffer. changes of_three _ (λ b. three_yields b buffer);
  situations = tag_numbers;
}
