-- What was found decides the text: the path's, with the sides as they are or exchanged, or that of no path, the sides exchanged.
use mathlib.Core.Path.{◌≡◌, refl, sym, ap, ◌∙◌}
use mathlib.Core.Bool.{Bool, true, false, cond, ◌&&◌}
use mathlib.Core.List.{List}
use Rattle.std.specs.Prelude.{Option, Some, None, Ok, Err}
use Prim.Native.Nat.{ℕ, ◌≤◌}
use native.Mathlib.Omega.{arith}
use lib.Dec.{leb}
use lib.ListN.{length}
use Rattle.model.specs.declared.fault.Fault.{Fault}
use Rattle.model.specs.declared.fault.Fault.TheVariants.{LongDesc}
use Rattle.model.specs.Bytes.{Bytes}
use Rattle.model.specs.Record.{GraphName}
use Rattle.model.specs.Layout.{entry_at, own_number, shown, decode}
use Rattle.model.specs.Questions.{asked_both}
use Rattle.model.specs.Opening.{Given, check_of_both}
use Rattle.model.specs.Path.{Step, full_path}
use Rattle.model.specs.Describe.{StepFrom, steps_from, after_last_empty, or_no_name, describe_path, describe_none, described, describe_relationship}
use Rattle.model.specs.Written.{within, with_descs, relationship_written}
use Rattle.record.proofs.Laws.{decode_held, decode_shown}
use Rattle.record.proofs.Opening.{refused_both, two_decoded}
use Rattle.path_bytes.specs.Reading.{start_at, path_steps, PathIn}
use Rattle.path_bytes.proofs.ReadBack.{path_in, start_read, path_steps_lem}
use Rattle.describe.specs.Direction.{NoPath, HasPath, text_written, path_text}

one_record : (b : Bytes) (g h : GraphName) → decode b ≡ Some g → decode b ≡ Some h → g ≡ h
one_record b g h d e = let same : ◌≡◌ {A = Option GraphName} (Some g) (Some h) = sym d ∙ e in cc

own_shown : (b : Bytes) (g : GraphName) → decode b ≡ Some g → g.name ≡ (shown b).name
own_shown b g d = ap (λ (h : GraphName). h.name) (sym (decode_shown b g d))

-- the test of the descs is the same with the sides exchanged
exchanged : (t from to : Bytes) (room : ℕ) → text_written t from to room ≡ text_written t to from room
exchanged t from to room = ap (λ (x : Bool). within room (cond x (Ok t) (Err LongDesc))) (go (leb (length from) 4096) (leb (length to) 4096))
  where
    go : (x y : Bool) → (x && y) ≡ (y && x)
    go true true = refl
    go true false = refl
    go false true = refl
    go false false = refl

-- with short descs only the room is left to test
pub short_written : (t from to : Bytes) (room : ℕ) → (leb (length from) 4096 && leb (length to) 4096) ≡ true → text_written t from to room ≡ within room (Ok t)
short_written t from to room e = rw e

pub long_written : (t from to : Bytes) (room : ℕ) → (leb (length from) 4096 && leb (length to) 4096) ≡ false → text_written t from to room ≡ Err LongDesc
long_written t from to room e = rw e

-- the text of a path by its first name and the steps that are listed
pub path_text_of : (p start : Bytes) (ls : List StepFrom) (from to : Bytes) → start ≡ start_at p → ls ≡ after_last_empty (path_steps p)
    → path_text p from to ≡ describe_path start ls from to
path_text_of p start ls from to e f = rw (e, f)

-- the text of the path whose bytes are p
path_described : (b c p from to : Bytes) (w : HasPath b c p) (otherwise : Bytes)
    → described w.g.name from to (Some w.steps) otherwise ≡ path_text p from to
path_described b c p from to w otherwise =
    let start = start_read p w.start w.steps w.rest w.bytes w.size in
    let listed = path_steps_lem p w.start w.steps w.rest w.bytes w.size in
    ap (λ (n : Option Bytes). describe_path (or_no_name n) (after_last_empty (steps_from (or_no_name n) w.steps)) from to) w.named
    ∙ ap (λ (n : Bytes). describe_path n (after_last_empty (steps_from w.start w.steps)) from to) (sym start)
    ∙ ap (λ (ls : List StepFrom). describe_path (start_at p) (after_last_empty ls) from to) (sym listed)

module _ (b c s o : Bytes) (room : ℕ) where
  pub written_fault : (e : Fault) → check_of_both b c ≡ Err e → relationship_written b c s o room ≡ Err e
  unfolding relationship_written
  written_fault e n = ap (λ (x : Given Bytes). within room (with_descs s o x)) (refused_both b c (λ g h. describe_relationship g h s o) e n)

  written_of : (g h : GraphName) → decode b ≡ Some g → decode c ≡ Some h → relationship_written b c s o room ≡ text_written (describe_relationship g h s o) s o room
  unfolding relationship_written asked_both
  written_of g h d e = rw (two_decoded b c g h d e)

  pub written_forward : (p : Bytes) → HasPath b c p → relationship_written b c s o room ≡ text_written (path_text p s o) s o room
  unfolding describe_relationship
  written_forward p w =
      let back = described w.h.name o s (full_path w.h w.g) (describe_none w.h.name w.g.name o s) in
      written_of w.g w.h w.first w.second
      ∙ ap (λ (t : Bytes). text_written t s o room)
      (ap (λ (x : Option (List Step)). described w.g.name s o x back) w.path ∙ path_described b c p s o w back)

  no_path : (w : NoPath b c) (g h : GraphName) → decode b ≡ Some g → decode c ≡ Some h → full_path g h ≡ None
  no_path w g h d e =
      ap (λ (x : GraphName). full_path x h) (one_record b g w.g d w.first) ∙ ap (full_path w.g) (one_record c h w.h e w.second) ∙ w.path

  pub written_backward : (p : Bytes) → HasPath c b p → NoPath b c → relationship_written b c s o room ≡ text_written (path_text p o s) o s room
  unfolding describe_relationship
  written_backward p w v =
      let neither = describe_none w.g.name w.h.name o s in
      written_of w.h w.g w.second w.first
      ∙ ap (λ (t : Bytes). text_written t s o room)
      (ap (λ (x : Option (List Step)). described w.h.name s o x (described w.g.name o s (full_path w.g w.h) neither)) (no_path v w.h w.g w.second w.first)
      ∙ ap (λ (x : Option (List Step)). described w.g.name o s x neither) w.path ∙ path_described c b p o s w neither)
      ∙ exchanged (path_text p o s) s o room

  pub written_neither : NoPath c b → NoPath b c → relationship_written b c s o room ≡ text_written (describe_none (shown c).name (shown b).name o s) o s room
  unfolding describe_relationship
  written_neither w v =
      let neither = describe_none w.g.name w.h.name o s in
      written_of w.h w.g w.second w.first
      ∙ ap (λ (t : Bytes). text_written t s o room)
      (ap (λ (x : Option (List Step)). described w.h.name s o x (described w.g.name o s (full_path w.g w.h) neither)) (no_path v w.h w.g w.second w.first)
      ∙ ap (λ (x : Option (List Step)). described w.g.name o s x neither) w.path
      ∙ ap (λ (n : Option Bytes). describe_none n w.h.name o s) (own_shown c w.g w.first)
      ∙ ap (λ (n : Option Bytes). describe_none (shown c).name n o s) (own_shown b w.h w.second))
      ∙ exchanged (describe_none (shown c).name (shown b).name o s) s o room

-- ------------------------------------------------------------------ what the writers ask

pub has_path_in : (b c p : Bytes) → HasPath b c p → PathIn p
has_path_in b c p w = path_in p w.start w.steps w.rest w.bytes w.size

-- the own name's entry lies within the buffer
pub no_path_own_names : (b c : Bytes) → NoPath b c → (entry_at (own_number b) ≤ length b) × (entry_at (own_number c) ≤ length c)
no_path_own_names b c w =
    let h = decode_held b w.g w.first in
    let k = decode_held c w.h w.second in
    (omega (arith, h.long, h.own, h.count), omega (arith, k.long, k.own, k.count))
