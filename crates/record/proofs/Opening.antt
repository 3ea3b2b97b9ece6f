-- The one way to refuse: what the code has of the buffers is what was opened of them without its value, so a fault is their refusal, and with
-- nothing wrong they are read. A further kind of buffer joins by its law of what it reads.
use mathlib.Core.Path.{◌≡◌, refl, sym, ap, ap₂, ◌∙◌}
use mathlib.Core.Logic.{◌≢◌}
use mathlib.Core.Bool.{Bool, true, false, cond, ◌&&◌, false≢true}
use Rattle.std.specs.Prelude.{Option, Some, None, Ok, Err}
use Rattle.std.proofs.lemmas.Bool.{and_parts}
use lib.ListN.{length}
use Rattle.model.specs.declared.fault.Fault.{Fault}
use Rattle.model.specs.declared.fault.Fault.TheVariants.{WrongBuffer, NotARecord}
use borrow.Author.Tests.{eq-eqb, ne_eqb}
use Rattle.model.specs.Bytes.{Bytes}
use Rattle.model.specs.Record.{GraphName}
use Rattle.model.specs.Layout.{record_length, shown, decode}
use Rattle.model.specs.Opening.{Given, settled, both_given, or_refuse, is_some, Buffer, followed_by, opened, has_size, record_in, overwritten, two_records, check_of, check_of_both}
use Rattle.model.specs.Questions.{asked, asked_both}
use Rattle.record.proofs.Held.{Held}
use Rattle.record.proofs.Laws.{decode_held, decode_shown}

-- ------------------------------------------------------------------ any buffers

-- an answer without its value is refused as the answer is, and else there is a value
pub settled_refused : {A : Type 0} (g : Given A) (e : Fault) → settled g ≡ Err e → g ≡ Err e
settled_refused (Err d) e s = cc
settled_refused (Ok a) e s = absurd cc

pub settled_given : {A : Type 0} (g : Given A) → settled g ≡ Ok tt → (a : A) × (g ≡ Ok a)
settled_given (Err d) s = absurd cc
settled_given (Ok a) s = (a, refl)

-- a is read of a buffer
pub record ReadAs {A : Type 0} (x : Buffer A) (a : A) : Type 0 where
  pub sized : x.sized ≡ true
  pub reading : x.reading ≡ Ok a

pub reads_opened : {A : Type 0} (x : Buffer A) (a : A) → ReadAs x a → opened x ≡ Ok a
unfolding opened
reads_opened x a r = rw (r.sized, r.reading)

-- with nothing wrong, something is read
pub opened_reads : {A : Type 0} (x : Buffer A) → settled (opened x) ≡ Ok tt → (a : A) × ReadAs x a
unfolding opened
opened_reads x z = go x.sized x.reading refl refl z
  where
    go : (t : Bool) (g : Given _) → x.sized ≡ t → x.reading ≡ g → settled (cond t g (Err WrongBuffer)) ≡ Ok tt → (a : _) × ReadAs x a
    go true (Ok a) s r z = (a, record { sized = s; reading = r })
    go true (Err e) s r z = absurd cc
    go false g s r z = absurd cc

module _ {A B : Type 0} (x : Buffer A) (y : Buffer B) where
  pub reads_both : (a : A) (b : B) → ReadAs (followed_by x y) (a, b) → ReadAs x a × ReadAs y b
  reads_both a b r = let s = and_parts x.sized y.sized r.sized in go x.reading y.reading refl refl s r.reading
    where
      go : (g : Given A) (h : Given B) → x.reading ≡ g → y.reading ≡ h → (x.sized ≡ true) × (y.sized ≡ true)
          → both_given g h ≡ Ok (a, b) → ReadAs x a × ReadAs y b
      go (Ok c) (Ok d) p q s e =
          let k : ◌≡◌ {A = A × B} (c, d) (a, b) = cc in
          (record { sized = s.0; reading = p ∙ ap (λ (w : A × B). Ok w.0) k }, record { sized = s.1; reading = q ∙ ap (λ (w : A × B). Ok w.1) k })
      go (Ok c) (Err n) p q s e = absurd cc
      go (Err n) h p q s e = absurd cc

  pub both_read : (a : A) (b : B) → ReadAs x a → ReadAs y b → ReadAs (followed_by x y) (a, b)
  both_read a b r s = record { sized = rw (r.sized, s.sized); reading = rw (r.reading, s.reading) }

-- ------------------------------------------------------------------ records

read_decodes : (b : Bytes) (g : GraphName) → ReadAs (record_in b) g → decode b ≡ Some g
read_decodes b g r = go (decode b) r.reading
  where
    go : (o : Option GraphName) → or_refuse NotARecord o ≡ Ok g → o ≡ Some g
    go None e = absurd cc
    go (Some h) e = cc

pub decoded_reads : (b : Bytes) (g : GraphName) → decode b ≡ Some g → ReadAs (record_in b) g
decoded_reads b g d = record { sized = eq-eqb (length b) record_length (decode_held b g d).long; reading = rw d }

-- a buffer with nothing wrong is the record that it shows
pub record IsRecord (b : Bytes) : Type 0 where
  pub decoded : decode b ≡ Some (shown b)
  pub held : Held b

pub is_record_lem : (b : Bytes) (g : GraphName) → decode b ≡ Some g → (g ≡ shown b) × IsRecord b
is_record_lem b g d =
    let s = decode_shown b g d in
    (sym s, record { decoded = d ∙ ap (λ (h : GraphName). Some h) (sym s); held = decode_held b g d })

pub shown_decoded : (b : Bytes) → IsRecord b → is_some (decode b) ≡ true
shown_decoded b r = rw r.decoded refl

-- ------------------------------------------------------------------ one record

module _ (b : Bytes) where
  -- as the code tests it
  pub check_tested : check_of b ≡ cond (has_size b) (cond (is_some (decode b)) (Ok tt) (Err NotARecord)) (Err WrongBuffer)
  unfolding check_of opened
  check_tested = go (has_size b) (decode b)
    where
      go : (t : Bool) (o : Option GraphName)
          → settled (cond t (or_refuse NotARecord o) (Err WrongBuffer)) ≡ cond t (cond (is_some o) (Ok tt) (Err NotARecord)) (Err WrongBuffer)
      go true None = refl
      go true (Some g) = refl
      go false o = refl

  pub record_refused : (e : Fault) → check_of b ≡ Err e → opened (record_in b) ≡ Err e
  unfolding check_of
  record_refused e n = settled_refused (opened (record_in b)) e n

  pub record_opened : check_of b ≡ Ok tt → IsRecord b × (opened (record_in b) ≡ Ok (shown b))
  unfolding check_of
  record_opened z =
      let r = opened_reads (record_in b) z in
      let d = is_record_lem b r.0 (read_decodes b r.0 r.1) in
      (d.1, reads_opened (record_in b) r.0 r.1 ∙ ap Ok d.0)

  -- with nothing wrong it decodes, and what decodes is read as what it shows
  pub unrefused_decodes : check_of b ≡ Ok tt → is_some (decode b) ≡ true
  unrefused_decodes z = shown_decoded b (record_opened z).0

  pub decoded_opened : is_some (decode b) ≡ true → opened (record_in b) ≡ Ok (shown b)
  decoded_opened v = go (decode b) refl v
    where
      go : (o : Option GraphName) → decode b ≡ o → is_some o ≡ true → opened (record_in b) ≡ Ok (shown b)
      go None e t = absurd (false≢true t)
      go (Some g) e t = reads_opened (record_in b) g (decoded_reads b g e) ∙ ap Ok (is_record_lem b g e).0

  -- a buffer that is only written
  pub written_opened : length b ≡ record_length → opened (overwritten b) ≡ Ok tt
  unfolding opened
  written_opened e = rw (eq-eqb (length b) record_length e)

  pub written_refused : length b ≢ record_length → opened (overwritten b) ≡ Err WrongBuffer
  unfolding opened
  written_refused n = rw (ne_eqb (length b) record_length n)

pub ruleset opens = (unrefused_decodes, decoded_opened)

-- ------------------------------------------------------------------ two records

module _ (b c : Bytes) where
  pub checks_tested : check_of_both b c ≡ cond (has_size b && has_size c) (cond (is_some (decode b) && is_some (decode c)) (Ok tt) (Err NotARecord)) (Err WrongBuffer)
  unfolding check_of_both opened
  checks_tested = go (has_size b && has_size c) (decode b) (decode c)
    where
      go : (t : Bool) (o p : Option GraphName)
          → settled (cond t (both_given (or_refuse NotARecord o) (or_refuse NotARecord p)) (Err WrongBuffer))
          ≡ cond t (cond (is_some o && is_some p) (Ok tt) (Err NotARecord)) (Err WrongBuffer)
      go true None p = refl
      go true (Some g) None = refl
      go true (Some g) (Some h) = refl
      go false o p = refl

  pub two_refused : (e : Fault) → check_of_both b c ≡ Err e → opened (two_records b c) ≡ Err e
  unfolding check_of_both
  two_refused e n = settled_refused (opened (two_records b c)) e n

  pub two_opened : check_of_both b c ≡ Ok tt → IsRecord b × IsRecord c × (opened (two_records b c) ≡ Ok (shown b, shown c))
  unfolding check_of_both
  two_opened z =
      let r = opened_reads (two_records b c) z in
      let s = reads_both (record_in b) (record_in c) r.0.0 r.0.1 r.1 in
      let d = is_record_lem b r.0.0 (read_decodes b r.0.0 s.0) in
      let e = is_record_lem c r.0.1 (read_decodes c r.0.1 s.1) in
      (d.1, e.1, reads_opened (two_records b c) r.0 r.1 ∙ ap₂ (λ (g h : GraphName). Ok (g, h)) d.0 e.0)

  pub two_decoded : (g h : GraphName) → decode b ≡ Some g → decode c ≡ Some h → opened (two_records b c) ≡ Ok (g, h)
  two_decoded g h d e =
      reads_opened (two_records b c) (g, h) (both_read (record_in b) (record_in c) g h (decoded_reads b g d) (decoded_reads c h e))

-- ------------------------------------------------------------------ questions

-- what is asked of a record is asked of what it shows
pub asked_shown : {A : Type 0} (b : Bytes) (f : GraphName → A) → check_of b ≡ Ok tt → asked b f ≡ Ok (f (shown b))
unfolding asked
asked_shown b f z = rw (record_opened b z).1

pub refused_asked : {A : Type 0} (b : Bytes) (f : GraphName → A) (e : Fault) → check_of b ≡ Err e → asked b f ≡ Err e
unfolding asked
refused_asked b f e n = rw (record_refused b e n)

pub both_shown : {A : Type 0} (b c : Bytes) (f : GraphName → GraphName → A) → check_of_both b c ≡ Ok tt → asked_both b c f ≡ Ok (f (shown b) (shown c))
unfolding asked_both
both_shown b c f z = rw (two_opened b c z).2

pub refused_both : {A : Type 0} (b c : Bytes) (f : GraphName → GraphName → A) (e : Fault) → check_of_both b c ≡ Err e → asked_both b c f ≡ Err e
unfolding asked_both
refused_both b c f e n = rw (two_refused b c e n)
