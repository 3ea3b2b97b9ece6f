-- Names and their entries: cutting by entries without gaps undoes writing, and writing undoes cutting.
use mathlib.Core.Path.{◌≡◌, refl, ap}
use mathlib.Core.Bool.{Bool, true, false, cond, ◌&&◌, ◌||◌}
use mathlib.Core.List.{List, [], ◌∷◌, ◌++◌, append_assoc}
use Prim.Native.Nat.{ℕ, zero, suc, ◌+◌, ◌-◌, ◌*◌, ◌≤◌, ◌<◌}
use native.Mathlib.Omega.{arith}
use lib.ListN.{length, take, drop, get_or, length-append, length-drop, take-append-drop}
use lib.Seq.{take-add, take-append_seam, drop-append_seam, drop-drop, length-take-le}
use lib.Dec.{leb, ltb, eqb}
use borrow.Author.Tests.{eq-eqb, eqb-true, leb-true, le-leb, ltb-false, le-ltb}
use Rattle.std.proofs.lemmas.Bool.{and_parts, or_parts}
use Rattle.model.specs.Bytes.{Bytes}
use Rattle.model.specs.Record.{any_long, bodies, max_name_bytes, max_bodies_bytes}
use Rattle.model.specs.Numbers.{number}
use Rattle.model.specs.Layout.{record_length, entry_length, entries}
use Rattle.record.specs.Test.{rows_at, entries_at, body_end, cut, Under}
use Rattle.record.specs.Coded.{spans}
use Rattle.record.proofs.Words.{AllBytes, whole, two_again, bytes_drop}

pub length_spans : (start : ℕ) (ns : List Bytes) → length (spans start ns) ≡ length ns
unfolding spans
length_spans start [] = refl
length_spans start (n ∷ ns) = ap suc (length_spans (start + length n) ns)

pub length_cut : (es : List (ℕ × ℕ)) (b : Bytes) → length (cut es b) ≡ length es
unfolding cut
length_cut [] b = refl
length_cut (e ∷ es) b = ap suc (length_cut es (drop e.1 b))

-- ------------------------------------------------------------------ from names

pub cut_spans : (start : ℕ) (ns : List Bytes) (r : Bytes) → cut (spans start ns) (bodies ns ++ r) ≡ ns
unfolding cut spans
cut_spans start [] r = refl
cut_spans start (n ∷ ns) r =
    rw (append_assoc n (bodies ns) r, take-append_seam n (bodies ns ++ r), drop-append_seam n (bodies ns ++ r), cut_spans (start + length n) ns r)

short : (m : ℕ) (t : Bool) → ltb max_name_bytes m || t ≡ false → (m ≤ max_name_bytes) × (t ≡ false)
short m t e = let (s, t) = or_parts (ltb max_name_bytes m) t e in (ltb-false max_name_bytes m s, t)

pub body_end_spans : (start : ℕ) (ns : List Bytes) → any_long ns ≡ false → body_end start (spans start ns) ≡ start + length (bodies ns)
unfolding body_end spans
body_end_spans start [] h = omega arith
body_end_spans start (n ∷ ns) h =
    let p = short (length n) (any_long ns) h in
    rw (eq-eqb start start refl, le-leb (length n) max_name_bytes p.0, body_end_spans (start + length n) ns p.1, length-append n (bodies ns)) (omega arith)

pub under_spans : (start : ℕ) (ns : List Bytes) → any_long ns ≡ false → start + length (bodies ns) < 65536 → Under 65536 (spans start ns)
unfolding Under spans
under_spans start [] h k = tt
under_spans start (n ∷ ns) h k =
    let p = short (length n) (any_long ns) h in
    let l = length-append n (bodies ns) in
    (omega arith, omega arith, under_spans (start + length n) ns p.1 (omega arith))

-- reading what was written
pub entries_read : (start : ℕ) (ns : List Bytes) (r : Bytes) → Under 65536 (spans start ns) → entries_at (length ns) (entries start ns ++ r) ≡ spans start ns
unfolding rows_at entries spans Under
entries_read start [] r u = refl
entries_read start (n ∷ ns) r u = rw (whole start u.0, whole (length n) u.1, entries_read (start + length n) ns r u.2)

-- writing what was read
pub entries_again : (start : ℕ) (ns : List Bytes) (b : Bytes) → AllBytes b → entry_length * length ns ≤ length b → spans start ns ≡ entries_at (length ns) b
    → entries start ns ≡ take (entry_length * length ns) b
unfolding rows_at entries spans
entries_again start [] b h k e = refl
entries_again start (n ∷ ns) b h k e =
    let d : entry_length * suc (length ns) ≡ entry_length + entry_length * length ns = omega arith in
    let s : start ≡ number b 0 = ap (λ (es : List (ℕ × ℕ)). (get_or es 0 (0, 0)).0) e in
    let l : length n ≡ number b 2 = ap (λ (es : List (ℕ × ℕ)). (get_or es 0 (0, 0)).1) e in
    let rest = entries_again (start + length n) ns (drop entry_length b) (bytes_drop entry_length b h) (rw length-drop (omega arith)) (ap (drop 1) e) in
    rw (d, take-add entry_length (entry_length * length ns) b, ← two_again b h (omega arith), ← s, ← l, rest)

-- ------------------------------------------------------------------ from entries

within : (t : Bool) (x : ℕ) → cond t x record_length ≤ max_bodies_bytes → (t ≡ true) × (x ≤ max_bodies_bytes)
within true x h = (refl, h)
within false x h = absurd (omega arith)

-- what body_end says of the first entry and of the others
first_entry_lem : (e : ℕ × ℕ) (es : List (ℕ × ℕ)) (at : ℕ) → body_end at (e ∷ es) ≤ max_bodies_bytes
    → (e.0 ≡ at) × (e.1 ≤ max_name_bytes) × (body_end (at + e.1) es ≤ max_bodies_bytes) × (body_end at (e ∷ es) ≡ body_end (at + e.1) es)
unfolding body_end
first_entry_lem e es at h =
    let p = within (eqb e.0 at && leb e.1 max_name_bytes) (body_end (at + e.1) es) h in
    let q = and_parts (eqb e.0 at) (leb e.1 max_name_bytes) p.0 in
    (eqb-true e.0 at q.0, leb-true e.1 max_name_bytes q.1, p.1, rw p.0)

at_most : (es : List (ℕ × ℕ)) (at : ℕ) → body_end at es ≤ max_bodies_bytes → at ≤ body_end at es
at_most [] at h = unfold body_end in omega arith
at_most (e ∷ es) at h = let p = first_entry_lem e es at h in omega (arith, at_most es (at + e.1) p.2)

-- names cut by entries without gaps have those entries and are short; behind them stands the rest
pub record Cut (es : List (ℕ × ℕ)) (at : ℕ) (b : Bytes) : Type 0 where
  pub entries : spans at (cut es b) ≡ es
  pub short : any_long (cut es b) ≡ false
  pub whole : bodies (cut es b) ++ drop (body_end at es - at) b ≡ b

pub cut_holds : (es : List (ℕ × ℕ)) (at : ℕ) (b : Bytes) → body_end at es ≤ max_bodies_bytes → max_bodies_bytes ≤ at + length b → Cut es at b
unfolding spans cut
cut_holds [] at b h k = record { entries = refl; short = refl; whole = unfold body_end in let z : at - at ≡ 0 = omega arith in rw z }
cut_holds (e ∷ es) at b h k =
    let p = first_entry_lem e es at h in
    let m = at_most es (at + e.1) p.2 in
    let l : length (take e.1 b) ≡ e.1 = length-take-le e.1 b (omega arith) in
    let z : body_end at (e ∷ es) - at ≡ e.1 + (body_end (at + e.1) es - (at + e.1)) = omega arith in
    let rest = cut_holds es (at + e.1) (drop e.1 b) p.2 (rw length-drop (omega arith)) in
    record {
      entries = rw (l, rest.entries, ← p.0);
      short = rw (l, le-ltb max_name_bytes e.1 p.1) rest.short;
      whole =
          rw (append_assoc, z, ← drop-drop (body_end (at + e.1) es - (at + e.1)) e.1 b, rest.whole)
          (take-append-drop e.1 b);
    }

-- an entry lies between the first start and the end of the bodies, and is short
pub entry_within : (es : List (ℕ × ℕ)) (at i : ℕ) → body_end at es ≤ max_bodies_bytes → i < length es
    → (at ≤ (get_or es i (0, 0)).0) × ((get_or es i (0, 0)).0 + (get_or es i (0, 0)).1 ≤ body_end at es) × ((get_or es i (0, 0)).1 ≤ max_name_bytes)
entry_within [] at i h k = absurd (omega arith)
entry_within (e ∷ es) at zero h k =
    let p = first_entry_lem e es at h in
    let m = at_most es (at + e.1) p.2 in
    (omega arith, omega arith, p.1)
entry_within (e ∷ es) at (suc i) h k =
    let p = first_entry_lem e es at h in
    let r = entry_within es (at + e.1) i p.2 (omega arith) in
    (omega arith, omega arith, r.2)

-- a name by its entry
pub get_or_cut : (es : List (ℕ × ℕ)) (at : ℕ) (b : Bytes) (i : ℕ) → body_end at es ≤ max_bodies_bytes → i < length es
    → get_or (cut es b) i [] ≡ take (get_or es i (0, 0)).1 (drop ((get_or es i (0, 0)).0 - at) b)
unfolding cut
get_or_cut [] at b i h k = absurd (omega arith)
get_or_cut (e ∷ es) at b zero h k =
    let p = first_entry_lem e es at h in
    let z : e.0 - at ≡ 0 = omega arith in
    rw z
get_or_cut (e ∷ es) at b (suc i) h k =
    let p = first_entry_lem e es at h in
    let w = entry_within es (at + e.1) i p.2 (omega arith) in
    let z : (get_or es i (0, 0)).0 - at ≡ e.1 + ((get_or es i (0, 0)).0 - (at + e.1)) = omega arith in
    rw (z, ← drop-drop ((get_or es i (0, 0)).0 - (at + e.1)) e.1 b) (get_or_cut es (at + e.1) (drop e.1 b) i p.2 (omega arith))
