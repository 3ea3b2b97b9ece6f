-- Demand 1: the number of every entry is one of docs/FORMAT.md's, and a refusal leaves what it must.
use Rattle.std.proofs.Common.{◌≡◌, refl, sym, ◌∙◌, ◌≢◌, Bool, true, false, cond, ◌&&◌, ◌||◌, List, [], ◌∷◌, ℕ, ◌+◌, ◌*◌, ◌≤◌, arith, lit≤, eqb, leb, length, drop, replicate, length-append, length-drop, eqb-true, leb-true}
use Rattle.std.specs.Prelude.{Option, Some, None, Ok, Err}
use Rattle.std.proofs.lemmas.List.{length-replicate}
use Rattle.std.proofs.lemmas.Bool.{and_parts}
use Rattle.model.specs.declared.fault.Fault.TheVariants.{WrongBuffer, NotARecord, OutputShort, LongDesc}
use Rattle.model.specs.declared.fault.Fault.{Fault}
use Rattle.model.specs.Faults.{fault_number}
use borrow.Author.Tests.{eqb-false}
use Rattle.model.specs.declared.Kind.{Kind}
use Rattle.model.specs.declared.Kind.TheVariants.{Subgraph, Translation}
use Rattle.model.specs.Bytes.{Bytes, is_empty}
use Rattle.model.specs.Record.{Pair, GraphName, empty, with_name, with_pair, with_relationships, names, bodies, judge}
use Rattle.model.specs.Layout.{record_length, entry_length, pair_length, bodies_after, entries, pair_places, contents, encode, decode}
use Rattle.model.specs.Reading.{Reading, done, refused, from_header_lines, from_tags}
use Rattle.model.specs.Path.{Step, subgraph_path, full_path, path_bytes}
use Rattle.model.specs.Message.{error_message}
use Rattle.model.specs.Describe.{describe_relationship}
use Rattle.model.specs.Writing.{to_gfa_header_lines, to_gaf_header_lines}
use Rattle.model.specs.Outcome.{Outcome, reading_into, read_into, read_tags_into, refusal_into, or_left, kept_or, add_pair, add_subgraph, add_translation, change_from, add_relationships, related, relate, make_subgraph_of, add_translation_to, fresh_or, new_record}
use Rattle.model.specs.Outcome.{Answer, answered, name_or, sized, ask, ask_subgraph, ask_full, output_after, answer_number, answer_value}
use Rattle.model.specs.Questions.{asked, asked_both, counts_in, name_in, name_at_in, pair_at_in, is_same_in}
use Rattle.model.specs.Opening.{Given, number_of, and_then, both_given, or_refuse, Buffer, opened, has_size, record_in, two_records}
use Rattle.model.specs.Written.{within, gfa_written, gaf_written, message_written, with_descs, relationship_written, output_with, Tags, tags_of, fits, all_within, tags_written, put_value}
use Rattle.model.specs.Statements.{LeavesEmpty, LeavesRecord, LeavesNumbers, LeavesOutput, OneTagLeft, LeavesTags, LeavesAnswer, RecordsDemand1}
use Rattle.text.proofs.Put.{length_put}
use Rattle.record.proofs.Sizes.{judge_sizes}
use Rattle.record.proofs.Opening.{written_opened, written_refused}
use Rattle.parse.proofs.Bounds.{Small, judge_small, header_small, tags_small}

-- ------------------------------------------------------------------ a record is as long as its buffer

length_entries : (start : ℕ) (ns : List Bytes) → length (entries start ns) ≡ entry_length * length ns
unfolding entries
length_entries start [] = refl
length_entries start (n ∷ ns) = omega (arith, length_entries (start + length n) ns)

length_places : (ns : List Bytes) (ps : List Pair) → length (pair_places ns ps) ≡ pair_length * length ps
unfolding pair_places
length_places ns [] = refl
length_places ns (p ∷ ps) = omega (arith, length_places ns ps)

length_contents : (g : GraphName)
    → length (contents g) ≡ bodies_after (length (names g)) (length g.subgraph + length g.translation) + length (bodies (names g))
unfolding contents
length_contents g =
    simp length-append
    (omega (arith, length_entries 0 (names g), length_places (names g) g.subgraph, length_places (names g) g.translation))

length_encode : (g : GraphName) → judge g ≡ 0 → length (encode g) ≡ record_length
unfolding encode
length_encode g j =
    let s = judge_sizes g j in
    let h = length_contents g in
    simp (length-append, length-replicate) (omega (arith, h, s.count, s.subgraphs, s.translations, s.room))

-- ------------------------------------------------------------------ readings, and `new`

record EmptyAt (b : Bytes) (o : Outcome) : Type 0 where
  number : o.number ≤ 18
  size : length o.buffer ≡ length b
  wrong : length b ≢ record_length → (o.number ≡ 15) × (o.buffer ≡ b)
  refused : o.number ≢ 0 → o.number ≢ 15 → o.buffer ≡ replicate record_length 0
  fifteen : o.number ≡ 15 → length b ≢ record_length

leaves_empty : (entry : Bytes → Outcome) → ((b : Bytes) → EmptyAt b (entry b)) → LeavesEmpty entry
leaves_empty entry h = record {
  bounded = record { number = λ b. (h b).number; size = λ b. (h b).size; wrong = λ b. (h b).wrong };
  refused = λ b. (h b).refused;
  fifteen = λ b. (h b).fifteen;
}

module _ (b : Bytes) where
  wrong_size : length b ≢ record_length → EmptyAt b (record { number = 15; buffer = b })
  wrong_size w = record { number = lit≤ tt; size = refl; wrong = λ n. (refl, refl); refused = λ m n. absurd (n refl); fifteen = λ e. w }

  module _ (e : length b ≡ record_length) where
    stored : (g : GraphName) → judge g ≡ 0 → EmptyAt b (record { number = 0; buffer = encode g })
    stored g j = record {
      number = lit≤ tt;
      size = length_encode g j ∙ sym e;
      wrong = λ n. absurd (n e);
      refused = λ n. absurd (n refl);
      fifteen = λ (n : ◌≡◌ {A = ℕ} 0 15). absurd (omega arith);
    }

    cleared : (n : ℕ) → n ≤ 14 → EmptyAt b (record { number = n; buffer = replicate record_length 0 })
    cleared n h = record {
      number = omega arith;
      size = length-replicate {A = ℕ} record_length 0 ∙ sym e;
      wrong = λ m. absurd (m e);
      refused = λ m k. refl;
      fifteen = λ (m : n ≡ 15). absurd (omega arith);
    }

    fresh : (g : GraphName) → EmptyAt b (fresh_or g)
    fresh g = go (eqb (judge g) 0) refl
      where
        go : (t : Bool) → eqb (judge g) 0 ≡ t
            → EmptyAt b (cond t (record { number = 0; buffer = encode g }) (record { number = judge g; buffer = replicate record_length 0 }))
        go true h = stored g (eqb-true (judge g) 0 h)
        go false h = cleared (judge g) (judge_small g)

  reading : (r : Reading) → Small r → EmptyAt b (record { number = (refusal_into r b).number; buffer = (reading_into r b).buffer })
  reading r s = go (has_size b) refl r s
    where
      go : (t : Bool) → has_size b ≡ t → (r : Reading) → Small r → EmptyAt b (record { number = (refusal_into r b).number; buffer = (reading_into r b).buffer })
      go true e (done g) s = let l = eqb-true (length b) record_length e in rw (written_opened b l) (stored l g s)
      go true e (refused r) s = let l = eqb-true (length b) record_length e in rw (written_opened b l) (cleared l r.number s)
      go false e r s = let l = eqb-false (length b) record_length e in rw (written_refused b l) (wrong_size l)

  new_left : (n : Bytes) → EmptyAt b (new_record n b)
  unfolding new_record
  new_left n = go (has_size b) refl
    where
      go : (t : Bool) → has_size b ≡ t → EmptyAt b (new_record n b)
      go true e = let l = eqb-true (length b) record_length e in rw (written_opened b l) (fresh l (with_name n empty))
      go false e = let l = eqb-false (length b) record_length e in rw (written_refused b l) (wrong_size l)

-- ------------------------------------------------------------------ buffers that are read

-- the numbers of what is read of one record and of two
record_small : (b : Bytes) → number_of (record_in b).reading ≤ 18
record_small b = go (decode b)
  where
    go : (o : Option GraphName) → number_of (or_refuse NotARecord o) ≤ 18
    go None = lit≤ tt
    go (Some g) = lit≤ tt

two_small : (b c : Bytes) → number_of (two_records b c).reading ≤ 18
two_small b c = go (record_in b).reading (record_in c).reading (record_small b) (record_small c)
  where
    go : (g h : Given GraphName) → number_of g ≤ 18 → number_of h ≤ 18 → number_of (both_given g h) ≤ 18
    go (Err n) h p q = p
    go (Ok a) (Err n) p q = q
    go (Ok a) (Ok c) p q = lit≤ tt

-- f of what was opened, for whatever an opening gives: a size, a number of what is read, or an answer
module _ {A B : Type 0} (x : Buffer A) (small : number_of x.reading ≤ 18) (f : Given A → B) (P : B → Type 0) where
  of_opened : P (f (Err WrongBuffer)) → ((n : Fault) → x.sized ≡ true → fault_number n ≤ 18 → P (f (Err n))) → ((a : A) → x.sized ≡ true → P (f (Ok a))) → P (f (opened x))
  unfolding opened
  of_opened sized numbered given = go x.sized refl x.reading small
    where
      go : (t : Bool) → x.sized ≡ t → (g : Given A) → number_of g ≤ 18 → P (f (cond t g (Err WrongBuffer)))
      go false e g h = sized
      go true e (Err n) h = numbered n e h
      go true e (Ok a) h = given a e

-- ------------------------------------------------------------------ changes

record RecordAt (b : Bytes) (o : Outcome) : Type 0 where
  number : o.number ≤ 18
  size : length o.buffer ≡ length b
  wrong : length b ≢ record_length → (o.number ≡ 15) × (o.buffer ≡ b)
  refused : o.number ≢ 0 → o.buffer ≡ b

leaves_record : (entry : Bytes → Outcome) → ((b : Bytes) → RecordAt b (entry b)) → LeavesRecord entry
leaves_record entry h = record {
  bounded = record { number = λ b. (h b).number; size = λ b. (h b).size; wrong = λ b. (h b).wrong };
  refused = λ b. (h b).refused;
}

module _ (b : Bytes) where
  fifteen_left : RecordAt b (record { number = 15; buffer = b })
  fifteen_left = record { number = lit≤ tt; size = refl; wrong = λ n. (refl, refl); refused = λ n. refl }

  module _ (e : length b ≡ record_length) where
    left : (n : ℕ) → n ≤ 18 → RecordAt b (record { number = n; buffer = b })
    left n h = record { number = h; size = refl; wrong = λ m. absurd (m e); refused = λ m. refl }

    kept : (g : GraphName) → RecordAt b (kept_or b g)
    kept g = go (eqb (judge g) 0) refl
      where
        go : (t : Bool) → eqb (judge g) 0 ≡ t → RecordAt b (cond t (record { number = 0; buffer = encode g }) (record { number = judge g; buffer = b }))
        go true h = record {
          number = lit≤ tt;
          size = length_encode g (eqb-true (judge g) 0 h) ∙ sym e;
          wrong = λ n. absurd (n e);
          refused = λ n. absurd (n refl);
        }
        go false h = left (judge g) (let k = judge_small g in omega arith)

    related_left : (kind : Kind) (g h : GraphName) (m n : Option Bytes) → RecordAt b (related kind b g h m n)
    related_left kind g h None n = left 0 (lit≤ tt)
    related_left kind g h (Some m) None = left 0 (lit≤ tt)
    related_left kind g h (Some m) (Some n) = kept (with_pair kind (record { from = m; to = n }) (with_relationships h g))

    added_left : (t : Bool) (g : GraphName) → RecordAt b (cond t (record { number = 0; buffer = b }) (kept_or b g))
    added_left true g = left 0 (lit≤ tt)
    added_left false g = kept g

  opened_left : {A : Type 0} (x : Buffer A) → number_of x.reading ≤ 18 → (x.sized ≡ true → has_size b ≡ true) → (f : A → Outcome)
      → (length b ≡ record_length → (a : A) → RecordAt b (f a)) → RecordAt b (or_left b (opened x) f)
  opened_left x small sized f h =
      of_opened x small (λ g. or_left b g f) (RecordAt b) fifteen_left
      (λ n e k. left (long e) (fault_number n) k) (λ a e. h (long e) a)
    where
      long : x.sized ≡ true → length b ≡ record_length
      long e = eqb-true (length b) record_length (sized e)

  both_left : (c : Bytes) (f : GraphName → GraphName → Outcome) → (length b ≡ record_length → (g h : GraphName) → RecordAt b (f g h)) → RecordAt b (change_from b c f)
  both_left c f h =
      opened_left (two_records b c) (two_small b c) (λ e. (and_parts (has_size b) (has_size c) e).0) (λ r. f r.0 r.1) (λ e r. h e r.0 r.1)

  pair_left : (kind : Kind) (from to : Bytes) → RecordAt b (add_pair kind from to b)
  pair_left kind from to =
      opened_left (record_in b) (record_small b) (λ e. e) _
      (λ e g. added_left e (is_empty from || is_empty to) (with_pair kind (record { from = from; to = to }) g))

  relate_left : (kind : Kind) (parent : Bytes) → RecordAt b (relate kind b parent)
  relate_left kind parent = both_left parent _ (λ e g h. related_left e kind g h g.name h.name)

-- ------------------------------------------------------------------ questions

numbers_left : {A : Type 0} (a : Given A) → number_of a ≤ 18 → LeavesNumbers a
numbers_left (Err n) h = record { number = h; kept = λ m value old. refl }
numbers_left (Ok x) h = record { number = h; kept = λ m. absurd (m refl) }

asked_small : {A : Type 0} (b : Bytes) (f : GraphName → A) → number_of (asked b f) ≤ 18
unfolding asked
asked_small {A} b f =
    of_opened (record_in b) (record_small b) (λ g. and_then g λ h. Ok (f h)) (λ (g : Given A). number_of g ≤ 18) (lit≤ tt) (λ n e h. h) (λ g e. lit≤ tt)

both_small : {A : Type 0} (b c : Bytes) (f : GraphName → GraphName → A) → number_of (asked_both b c f) ≤ 18
unfolding asked_both
both_small {A} b c f =
    of_opened (two_records b c) (two_small b c) (λ g. and_then g λ r. Ok (f r.0 r.1)) (λ (g : Given A). number_of g ≤ 18) (lit≤ tt) (λ n e h. h) (λ g e. lit≤ tt)

asked_left : {A : Type 0} (b : Bytes) (f : GraphName → A) → LeavesNumbers (asked b f)
asked_left b f = numbers_left (asked b f) (asked_small b f)

-- ------------------------------------------------------------------ path questions

abbrev FitsIn : ℕ → Answer → Type 0
FitsIn room (Err n) = fault_number n ≤ 18
FitsIn room (Ok None) = Unit {0}
FitsIn room (Ok (Some bytes)) = length bytes ≤ room

module _ (path : GraphName → GraphName → Option (List Step)) (b c : Bytes) where
  answer_fits : (room : ℕ) → FitsIn room (ask path b c room)
  answer_fits room =
      of_opened (two_records b c) (two_small b c) (λ g. and_then g λ r. sized room (answered (name_or r.0.name) (path r.0 r.1))) (FitsIn room)
      (lit≤ tt) (λ n e h. h) (λ r e. whole (name_or r.0.name) (path r.0 r.1))
    where
      cut : (bytes : Bytes) (t : Bool) → leb (length bytes) room ≡ t → FitsIn room (cond t (Ok (Some bytes)) (Err OutputShort))
      cut bytes true e = leb-true (length bytes) room e
      cut bytes false e = lit≤ tt

      whole : (a : Bytes) (o : Option (List Step)) → FitsIn room (sized room (answered a o))
      whole a None = tt
      whole a (Some ss) = cut (path_bytes a ss) (leb (length (path_bytes a ss)) room) refl

  answer_left : LeavesAnswer (ask path b c)
  answer_left = record {
    number = λ room. small room (ask path b c room) (answer_fits room);
    answer_kept = λ room old. value old (ask path b c room);
    kept = λ out. output out (ask path b c (length out));
    size = λ out. same out (ask path b c (length out)) (answer_fits (length out));
  }
    where
      small : (room : ℕ) (a : Answer) → FitsIn room a → answer_number a ≤ 18
      small room (Err n) h = h
      small room (Ok None) h = lit≤ tt
      small room (Ok (Some bytes)) h = lit≤ tt

      value : (old : ℕ) (a : Answer) → answer_number a ≢ 0 → answer_value old a ≡ old
      value old (Err n) h = refl
      value old (Ok None) h = absurd (h refl)
      value old (Ok (Some bytes)) h = absurd (h refl)

      output : (out : Bytes) (a : Answer) → answer_number a ≢ 0 → output_after a out ≡ out
      output out (Err n) h = refl
      output out (Ok None) h = refl
      output out (Ok (Some bytes)) h = absurd (h refl)

      same : (out : Bytes) (a : Answer) → FitsIn (length out) a → length (output_after a out) ≡ length out
      same out (Err n) h = refl
      same out (Ok None) h = refl
      same out (Ok (Some bytes)) h = rw (length-append bytes (drop (length bytes) out), length-drop (length bytes) out) (omega arith)

-- ------------------------------------------------------------------ writings

module _ (a : Given Bytes) (small : number_of a ≤ 18) where
  output_left : LeavesOutput (λ room. within room a)
  output_left = record {
    numbers = λ room. numbers_left (within room a) (bound room a small);
    kept = λ out. same out (within (length out) a);
    size = λ out. long out a;
  }
    where
      bound : (room : ℕ) (x : Given Bytes) → number_of x ≤ 18 → number_of (within room x) ≤ 18
      bound room (Err n) h = h
      bound room (Ok t) h = go (leb (length t) room)
        where
          go : (u : Bool) → number_of (cond u (Ok t) (Err OutputShort)) ≤ 18
          go true = lit≤ tt
          go false = lit≤ tt

      same : (out : Bytes) (x : Given Bytes) → number_of x ≢ 0 → output_with x out ≡ out
      same out (Err n) h = refl
      same out (Ok t) h = absurd (h refl)

      long : (out : Bytes) (x : Given Bytes) → length (output_with (within (length out) x) out) ≡ length out
      long out (Err n) = refl
      long out (Ok t) = go (leb (length t) (length out)) refl
        where
          go : (u : Bool) → leb (length t) (length out) ≡ u → length (output_with (cond u (Ok t) (Err OutputShort)) out) ≡ length out
          go true e = let h = leb-true (length t) (length out) e in length_put out 0 t (omega arith)
          go false e = refl

descs_small : (p q : Bytes) (a : Given Bytes) → number_of a ≤ 18 → number_of (with_descs p q a) ≤ 18
descs_small p q (Err n) h = h
descs_small p q (Ok t) h = go (leb (length p) 4096 && leb (length q) 4096)
  where
    go : (u : Bool) → number_of (cond u (Ok t) (Err LongDesc)) ≤ 18
    go true = lit≤ tt
    go false = lit≤ tt

-- ------------------------------------------------------------------ tags

tag_left : (value : Tags → Option Bytes) (out : Bytes) (v : Tags) (u : Bool) → (u ≡ true → fits (value v) (length out) ≡ true)
    → OneTagLeft value (cond u (Ok v) (Err OutputShort)) out
tag_left value out v true h = (λ n. absurd (n refl), go (value v) (h refl))
  where
    go : (o : Option Bytes) → fits o (length out) ≡ true → length (put_value o out) ≡ length out
    go None e = refl
    go (Some t) e = let h = leb-true (length t) (length out) e in length_put out 0 t (omega arith)
tag_left value out v false h = (λ n. refl, refl)

tags_left : (a : Given Tags) → number_of a ≤ 18 → LeavesTags (λ n s t. all_within n s t a)
tags_left (Err k) small = record {
  numbers = λ n s t. numbers_left (Err k) small;
  name = λ n s t. (λ m. refl, refl);
  subgraph = λ n s t. (λ m. refl, refl);
  translation = λ n s t. (λ m. refl, refl);
}
tags_left (Ok v) small = record {
  numbers = λ n s t. numbers_left (all_within n s t (Ok v)) (bound (fits v.name n && (fits v.subgraph s && fits v.translation t)));
  name = λ n s t. tag_left (λ w. w.name) n v (all n s t) (λ e. (and_parts (one n) (two s t) e).0);
  subgraph = λ n s t. tag_left (λ w. w.subgraph) s v (all n s t) (λ e. (rest n s t e).0);
  translation = λ n s t. tag_left (λ w. w.translation) t v (all n s t) (λ e. (rest n s t e).1);
}
  where
    bound : (u : Bool) → number_of (cond u (Ok v) (Err OutputShort)) ≤ 18
    bound true = lit≤ tt
    bound false = lit≤ tt

    one : Bytes → Bool
    one n = fits v.name (length n)

    two : Bytes → Bytes → Bool
    two s t = fits v.subgraph (length s) && fits v.translation (length t)

    all : Bytes → Bytes → Bytes → Bool
    all n s t = one n && two s t

    rest : (n s t : Bytes) → all n s t ≡ true → (fits v.subgraph (length s) ≡ true) × (fits v.translation (length t) ≡ true)
    rest n s t e = and_parts (fits v.subgraph (length s)) (fits v.translation (length t)) (and_parts (one n) (two s t) e).1

-- ------------------------------------------------------------------ every entry

pub records_demand1 : RecordsDemand1
unfolding read_into read_tags_into add_subgraph add_translation make_subgraph_of add_translation_to add_relationships counts_in name_in name_at_in pair_at_in is_same_in ask_subgraph ask_full gfa_written gaf_written message_written relationship_written tags_written
records_demand1 = record {
  from_header_lines_lem = λ t. leaves_empty _ (λ b. reading b (from_header_lines t) (header_small t));
  from_tags_lem = λ n s t. leaves_empty _ (λ b. reading b (from_tags n s t) (tags_small n s t));
  new = λ n. leaves_empty (new_record n) (λ b. new_left b n);
  add_subgraph_lem = λ from to. leaves_record _ (λ b. pair_left b Subgraph from to);
  add_translation_lem = λ from to. leaves_record _ (λ b. pair_left b Translation from to);
  make_subgraph_of_lem = λ parent. leaves_record _ (λ b. relate_left b Subgraph parent);
  add_translation_to_lem = λ parent. leaves_record _ (λ b. relate_left b Translation parent);
  add_relationships_lem = λ other. leaves_record _ (λ b. both_left b other _ (λ e g h. kept b e (with_relationships h g)));
  counts = λ b. asked_left b _;
  name = λ b. asked_left b _;
  name_at = λ b i. asked_left b _;
  pair_at = λ k b i. asked_left b _;
  is_same = λ b c. numbers_left (is_same_in b c) (both_small b c _);
  is_subgraph_of = λ b c. answer_left subgraph_path b c;
  translates_to = λ b c. answer_left full_path b c;
  to_gfa = λ b. output_left (asked b to_gfa_header_lines) (asked_small b to_gfa_header_lines);
  to_gaf = λ b. output_left (asked b to_gaf_header_lines) (asked_small b to_gaf_header_lines);
  error_message_lem = λ number line part. output_left (Ok (error_message number line part)) (lit≤ tt);
  describe_relationship_lem = λ b c p q.
      let a = asked_both b c (λ g h. describe_relationship g h p q) in
      output_left (with_descs p q a) (descs_small p q a (both_small b c _));
  set_tags = λ b. tags_left (asked b tags_of) (asked_small b tags_of);
}
