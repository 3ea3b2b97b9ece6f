-- Each number speaks of its own situation alone: no tag list, a key that is not fine, a value that is too long, a full list, an output that
-- is too short, a buffer that is no record.
use mathlib.Core.Path.{◌≡◌, refl, ap}
use mathlib.Core.Logic.{◌↔◌, ◌≢◌}
use mathlib.Core.Bool.{Bool, true, false, cond}
use mathlib.Core.List.{List}
use Rattle.std.specs.Prelude.{Option, Some, None, Ok, Err}
use Prim.Native.Nat.{ℕ, ◌+◌, ◌≤◌, ◌<◌}
use native.Mathlib.Omega.{arith}
use lib.ListN.{length}
use lib.Dec.{leb}
use Rattle.model.specs.declared.fault.Fault.TheVariants.{WrongBuffer, NotARecord, OutputShort, BadKey, LongValue, TagsFull, NotATagList}
use borrow.Author.Tests.{leb-true, leb-false, le-leb, lt-leb, eqb-true, eqb-false}
use Rattle.model.specs.Bytes.{Bytes}
use Rattle.model.specs.Record.{GraphName}
use Rattle.model.specs.Layout.{record_length, decode}
use Rattle.model.specs.Opening.{Given, and_then, or_refuse, number_of, is_some, opened, has_size, record_in}
use Rattle.model.specs.Written.{tags_of, fits}
use Rattle.model.specs.TagList.{Tag, look_up, set_tag, remove_tag, set_graph_name, max_tags, max_value, lower, fine_key, decode_tags}
use Rattle.model.specs.TagOutcome.{Removal, tag_list, ready_key, with_key, tag_count_in, tag_at_in, get_in, contains_in, value_in, judged_tags, short_tags, insert_in, set_graph_name_in, remove_in}
use Rattle.model.specs.TagStatements.{KeyNumbers, SetNumbers, TagNumbers}
use Rattle.tag_list.proofs.Valid.{length_set}
use Rattle.tag_list.proofs.Coding.{decoded_valid}
use Rattle.tag_edits.proofs.Outcome.{Accepted, with_key_accepted, value_decoded}

-- ------------------------------------------------------------------ the list

-- a number that is not of a record, of a list or of a key
record Own (n : ℕ) : Type 0 where
  not_size : n ≢ 15
  not_contents : n ≢ 16
  not_key : n ≢ 19
  not_list : n ≢ 29

some_not : {A : Type 0} (a : A) → Some a ≢ None
some_not a e = let z : ◌≡◌ {A = ℕ} 0 1 = cc in omega arith

list_refused : {A : Type 0} (b : Bytes) (f : List Tag → Given A) → ((ts : List Tag) → number_of (f ts) ≢ 29)
    → number_of (and_then (tag_list b) f) ≡ 29 ↔ decode_tags b ≡ None
unfolding tag_list
list_refused b f h = go (decode_tags b)
  where
    go : (o : Option (List Tag)) → number_of (and_then (or_refuse NotATagList o) f) ≡ 29 ↔ o ≡ None
    go None = (λ e. refl, λ e. refl)
    go (Some ts) = (λ e. absurd (h ts e), λ e. absurd (some_not ts e))

count_number : (b : Bytes) → number_of (tag_count_in b) ≡ 29 ↔ decode_tags b ≡ None
unfolding tag_count_in
count_number b = list_refused b _ (λ ts e. omega arith)

at_number : (b : Bytes) (i : ℕ) → number_of (tag_at_in b i) ≡ 29 ↔ decode_tags b ≡ None
unfolding tag_at_in
at_number b i = list_refused b _ (λ ts e. omega arith)

-- ------------------------------------------------------------------ the list and the key

-- what an entry with a key gives, by the list, if any, and whether the key is fine
abbrev keyed : {A : Type 0} → Bytes → (List Tag → Bytes → Given A) → Option (List Tag) → Bool → Given A
keyed key f o t = and_then (or_refuse NotATagList o) λ ts. and_then (cond t (Ok (lower key)) (Err BadKey)) λ k. f ts k

module _ {A : Type 0} (b key : Bytes) (f : List Tag → Bytes → Given A) where
  -- the list and the key are refused by every entry in the same way
  keyed_refused : number_of (value_in b key) ≢ 0 → number_of (with_key b key f) ≡ number_of (value_in b key)
  unfolding value_in tag_list ready_key
  keyed_refused = go (decode_tags b) (fine_key key)
    where
      go : (o : Option (List Tag)) (t : Bool)
          → number_of (keyed key (λ ts k. Ok (look_up k ts)) o t) ≢ 0 → number_of (keyed key f o t) ≡ number_of (keyed key (λ ts k. Ok (look_up k ts)) o t)
      go None t m = refl
      go (Some ts) false m = refl
      go (Some ts) true m = absurd (m refl)

  module _ (own : (ts : List Tag) (k : Bytes) → Own (number_of (f ts k))) where
    keyed_list : number_of (with_key b key f) ≡ 29 ↔ decode_tags b ≡ None
    unfolding ready_key
    keyed_list = list_refused b (λ ts. and_then (ready_key key) λ k. f ts k) (λ ts. go ts (fine_key key))
      where
        go : (ts : List Tag) (t : Bool) → number_of (and_then (cond t (Ok (lower key)) (Err BadKey)) λ k. f ts k) ≢ 29
        go ts true = (own ts (lower key)).not_list
        go ts false = λ e. omega arith

    keyed_key : number_of (with_key b key f) ≡ 19 ↔ (decode_tags b ≢ None) × (fine_key key ≡ false)
    unfolding tag_list ready_key
    keyed_key = go (decode_tags b) (fine_key key)
      where
        go : (o : Option (List Tag)) (t : Bool) → number_of (keyed key f o t) ≡ 19 ↔ (o ≢ None) × (t ≡ false)
        go None t = (λ e. absurd (omega arith), λ p. absurd (p.0 refl))
        go (Some ts) true = (λ e. absurd ((own ts (lower key)).not_key e), λ p. let d = p.1 in cc)
        go (Some ts) false = (λ e. (some_not ts, refl), λ p. refl)

    key_numbers : KeyNumbers b key (with_key b key f)
    key_numbers = record { refused = keyed_refused; list = keyed_list; key = keyed_key }

module _ (b key : Bytes) where
  value_numbers : KeyNumbers b key (value_in b key)
  unfolding value_in
  value_numbers = key_numbers b key (λ ts k. Ok (look_up k ts)) (λ ts k. omega arith)

  -- a question is refused for nothing else
  asked_number : {A : Type 0} (f : List Tag → Bytes → A) → number_of (with_key b key λ ts k. Ok (f ts k)) ≡ number_of (value_in b key)
  unfolding value_in tag_list ready_key
  asked_number f = go (decode_tags b) (fine_key key)
    where
      go : (o : Option (List Tag)) (t : Bool)
          → number_of (keyed key (λ ts k. Ok (f ts k)) o t) ≡ number_of (keyed key (λ ts k. Ok (look_up k ts)) o t)
      go None t = refl
      go (Some ts) false = refl
      go (Some ts) true = refl

  get_number : number_of (get_in b key) ≡ number_of (value_in b key)
  unfolding get_in
  get_number = asked_number _

  contains_number : number_of (contains_in b key) ≡ number_of (value_in b key)
  unfolding contains_in
  contains_number = asked_number _

  -- an answer has a list and a fine key
  value_accepted : number_of (value_in b key) ≡ 0 → Accepted b key (λ ts k. Ok (look_up k ts))
  unfolding value_in
  value_accepted z = with_key_accepted b key (λ ts k. Ok (look_up k ts)) z

  -- what is given then
  module _ (ts : List Tag) (d : decode_tags b ≡ Some ts) (e : fine_key key ≡ true) where
    insert_judged : (value : Bytes) → insert_in b key value ≡ judged_tags (leb (length value) max_value) (set_tag (lower key) value ts)
    unfolding insert_in tag_list ready_key
    insert_judged value = rw (d, e)

    remove_fits : (room : ℕ)
        → remove_in b key room
        ≡ cond (fits (look_up (lower key) ts) room) (Ok (record { value = look_up (lower key) ts; rest = remove_tag (lower key) ts })) (Err OutputShort)
    unfolding remove_in tag_list ready_key
    remove_fits room = rw (d, e)

-- ------------------------------------------------------------------ insert and remove

-- a list that is judged gives 0, 20 or 21
judged_own : (short : Bool) (us : List Tag) → Own (number_of (judged_tags short us))
unfolding judged_tags
judged_own short us = go short (leb (length us) max_tags)
  where
    go : (s t : Bool) → Own (number_of (cond s (cond t (Ok us) (Err TagsFull)) (Err LongValue)))
    go true true = omega arith
    go true false = omega arith
    go false t = omega arith

insert_numbers : (b key value : Bytes) → KeyNumbers b key (insert_in b key value)
unfolding insert_in
insert_numbers b key value = key_numbers b key _ (λ ts k. judged_own (leb (length value) max_value) (set_tag k value ts))

remove_numbers : (b key : Bytes) (room : ℕ) → KeyNumbers b key (remove_in b key room)
unfolding remove_in
remove_numbers b key room =
    key_numbers b key _ (λ ts k. go (record { value = look_up k ts; rest = remove_tag k ts }) (fits (look_up k ts) room))
  where
    go : (r : Removal) (t : Bool) → Own (number_of (cond t (Ok r) (Err OutputShort)))
    go r true = omega arith
    go r false = omega arith

-- ------------------------------------------------------------------ the value, the list and the output

short_number : (short : Bool) (us : List Tag) → number_of (judged_tags short us) ≡ 20 ↔ short ≡ false
unfolding judged_tags
short_number short us = go short (leb (length us) max_tags)
  where
    go : (s t : Bool) → number_of (cond s (cond t (Ok us) (Err TagsFull)) (Err LongValue)) ≡ 20 ↔ s ≡ false
    go true true = (λ e. absurd (omega arith), λ e. cc)
    go true false = (λ e. absurd (omega arith), λ e. cc)
    go false t = (λ e. refl, λ e. refl)

long_number : (n : ℕ) (us : List Tag) → number_of (judged_tags (leb n max_value) us) ≡ 20 ↔ max_value < n
long_number n us =
    let s = short_number (leb n max_value) us in
    (λ z. leb-false n max_value (s.0 z), λ l. s.1 (lt-leb n max_value l))

many_number : (us : List Tag) → number_of (judged_tags true us) ≡ 21 ↔ max_tags < length us
unfolding judged_tags
many_number us = go (leb (length us) max_tags) refl
  where
    go : (t : Bool) → leb (length us) max_tags ≡ t → number_of (cond t (Ok us) (Err TagsFull)) ≡ 21 ↔ max_tags < length us
    go true e = let h = leb-true (length us) max_tags e in (λ z. absurd (omega arith), λ l. absurd (omega arith))
    go false e = (λ z. leb-false (length us) max_tags e, λ l. refl)

value_number : (b key value : Bytes) → number_of (value_in b key) ≡ 0 → number_of (insert_in b key value) ≡ 20 ↔ max_value < length value
value_number b key value z =
    let a = value_accepted b key z in
    rw (insert_judged b key a.tags a.decoded a.fine value) (long_number (length value) (set_tag (lower key) value a.tags))

-- a new key is one too many exactly if the list is full
full_number : (b key value : Bytes) (ts : List Tag) → decode_tags b ≡ Some ts → fine_key key ≡ true → length value ≤ max_value
    → number_of (insert_in b key value) ≡ 21 ↔ (look_up (lower key) ts ≡ None) × (length ts ≡ max_tags)
full_number b key value ts d e short =
    let v = decoded_valid b ts d in
    let us = set_tag (lower key) value ts in
    let m = many_number us in
    let g = go (look_up (lower key) ts) us v.count (length_set (lower key) value ts v.order) in
    rw (insert_judged b key ts d e value, le-leb (length value) max_value short) (λ z. g.0 (m.0 z), λ p. m.1 (g.1 p))
  where
    go : (o : Option Bytes) (us : List Tag) → length ts ≤ max_tags → length us ≡ cond (is_some o) (length ts) (length ts + 1)
        → max_tags < length us ↔ (o ≡ None) × (length ts ≡ max_tags)
    go None us l s = (λ h. (refl, omega arith), λ p. omega arith)
    go (Some w) us l s = (λ h. absurd (omega arith), λ p. let x = p.0 in let z : ◌≡◌ {A = ℕ} 0 1 = cc in absurd (omega arith))

output_number : (b key : Bytes) (room : ℕ) → number_of (value_in b key) ≡ 0
    → number_of (remove_in b key room) ≡ 17 ↔ ((v : Bytes) × (value_in b key ≡ Ok (Some v)) × (room < length v))
output_number b key room z =
    let a = value_accepted b key z in
    let ts = a.tags in
    let k = lower key in
    rw (remove_fits b key ts a.decoded a.fine room, value_decoded b ts key a.decoded a.fine)
    (go (look_up k ts) (record { value = look_up k ts; rest = remove_tag k ts }))
  where
    go : (o : Option Bytes) (r : Removal) → number_of (cond (fits o room) (Ok r) (Err OutputShort)) ≡ 17 ↔ ((v : Bytes) × (◌≡◌ {A = Given (Option Bytes)} (Ok o) (Ok (Some v))) × (room < length v))
    go None r = (λ e. absurd (omega arith), λ p. let x = p.1 in let z : ◌≡◌ {A = ℕ} 0 1 = cc in absurd (omega arith))
    go (Some w) r = cut (leb (length w) room) refl
      where
        same : (v : Bytes) → ◌≡◌ {A = Given (Option Bytes)} (Ok (Some w)) (Ok (Some v)) → w ≡ v
        same v e = cc

        cut : (t : Bool) → leb (length w) room ≡ t
            → number_of (cond t (Ok r) (Err OutputShort)) ≡ 17 ↔ ((v : Bytes) × (◌≡◌ {A = Given (Option Bytes)} (Ok (Some w)) (Ok (Some v))) × (room < length v))
        cut true e =
            let h = leb-true (length w) room e in
            (λ z. absurd (omega arith), λ p. absurd (omega (arith, p.2, ap length (same p.0 p.1))))
        cut false e = (λ z. (w, refl, leb-false (length w) room e), λ p. refl)

-- ------------------------------------------------------------------ set_graph_name

module _ {A : Type 0} (buffer : Bytes) (f : GraphName → Given A) where
  record_refused : number_of (opened (record_in buffer)) ≢ 0 → number_of (and_then (opened (record_in buffer)) f) ≡ number_of (opened (record_in buffer))
  record_refused = go (opened (record_in buffer))
    where
      go : (o : Given GraphName) → number_of o ≢ 0 → number_of (and_then o f) ≡ number_of o
      go (Err n) m = refl
      go (Ok g) m = absurd (m refl)

  record_size : ((g : GraphName) → number_of (f g) ≢ 15) → number_of (and_then (opened (record_in buffer)) f) ≡ 15 ↔ length buffer ≢ record_length
  unfolding opened
  record_size h = go (has_size buffer) refl (decode buffer)
    where
      go : (t : Bool) → has_size buffer ≡ t → (o : Option GraphName)
          → number_of (and_then (cond t (or_refuse NotARecord o) (Err WrongBuffer)) f) ≡ 15 ↔ length buffer ≢ record_length
      go false e o = (λ z. eqb-false (length buffer) record_length e, λ n. refl)
      go true e None = (λ z. absurd (omega arith), λ n. absurd (n (eqb-true (length buffer) record_length e)))
      go true e (Some g) = (λ z. absurd (h g z), λ n. absurd (n (eqb-true (length buffer) record_length e)))

  record_contents : ((g : GraphName) → number_of (f g) ≢ 16)
      → number_of (and_then (opened (record_in buffer)) f) ≡ 16 ↔ (length buffer ≡ record_length) × (decode buffer ≡ None)
  unfolding opened
  record_contents h = go (has_size buffer) refl (decode buffer)
    where
      go : (t : Bool) → has_size buffer ≡ t → (o : Option GraphName)
          → number_of (and_then (cond t (or_refuse NotARecord o) (Err WrongBuffer)) f) ≡ 16 ↔ (length buffer ≡ record_length) × (o ≡ None)
      go false e o = (λ z. absurd (omega arith), λ p. absurd (eqb-false (length buffer) record_length e p.0))
      go true e None = (λ z. (eqb-true (length buffer) record_length e, refl), λ p. refl)
      go true e (Some g) = (λ z. absurd (h g z), λ p. absurd (some_not g p.1))

module _ (b buffer : Bytes) where
  -- the record's tags set in the list of b
  abbrev three_judged : GraphName → List Tag → Given (List Tag)
  three_judged g ts = judged_tags (short_tags (tags_of g)) (set_graph_name g ts)

  -- a record that is read gives neither of its two numbers
  three_own : (g : GraphName) → (number_of (and_then (tag_list b) (three_judged g)) ≢ 15) × (number_of (and_then (tag_list b) (three_judged g)) ≢ 16)
  unfolding tag_list
  three_own g = go (decode_tags b)
    where
      go : (o : Option (List Tag))
          → (number_of (and_then (or_refuse NotATagList o) (three_judged g)) ≢ 15) × (number_of (and_then (or_refuse NotATagList o) (three_judged g)) ≢ 16)
      go None = omega arith
      go (Some ts) = let own = judged_own (short_tags (tags_of g)) (set_graph_name g ts) in (own.not_size, own.not_contents)

  module _ (g : GraphName) (r : opened (record_in buffer) ≡ Ok g) where
    three_read : set_graph_name_in b buffer ≡ and_then (tag_list b) (three_judged g)
    unfolding set_graph_name_in
    three_read = rw r

    three_list : number_of (set_graph_name_in b buffer) ≡ 29 ↔ decode_tags b ≡ None
    three_list =
        rw three_read
        (list_refused b (three_judged g) (λ ts. (judged_own (short_tags (tags_of g)) (set_graph_name g ts)).not_list))

    module _ (ts : List Tag) (d : decode_tags b ≡ Some ts) where
      three_decoded : set_graph_name_in b buffer ≡ three_judged g ts
      unfolding set_graph_name_in tag_list
      three_decoded = rw (r, d)

      three_value : number_of (set_graph_name_in b buffer) ≡ 20 ↔ short_tags (tags_of g) ≡ false
      three_value = rw three_decoded (short_number (short_tags (tags_of g)) (set_graph_name g ts))

      three_full : short_tags (tags_of g) ≡ true → number_of (set_graph_name_in b buffer) ≡ 21 ↔ max_tags < length (set_graph_name g ts)
      three_full short = rw (three_decoded, short) (many_number (set_graph_name g ts))

  three_numbers : SetNumbers b buffer
  unfolding set_graph_name_in
  three_numbers =
      let f : GraphName → Given (List Tag) = λ g. and_then (tag_list b) (three_judged g) in
      record {
        refused = record_refused buffer f;
        size = record_size buffer f (λ g. (three_own g).0);
        contents = record_contents buffer f (λ g. (three_own g).1);
        list = three_list;
        value = λ g ts r d. three_value g r ts d;
        full = λ g ts r d. three_full g r ts d;
      }

pub tag_numbers : TagNumbers
tag_numbers = record {
  list = λ b key. (value_numbers b key).list;
  key = λ b key. (value_numbers b key).key;
  counts = count_number;
  at = at_number;
  get = get_number;
  contains_key = contains_number;
  insert = insert_numbers;
  remove = remove_numbers;
  value = value_number;
  full = full_number;
  output = output_number;
  set_graph_name_lem = three_numbers;
}
