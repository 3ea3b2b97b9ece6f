-- The laws of the layout: decoding undoes encoding, what decodes is an encoding, and a buffer of bytes decodes exactly if it
-- passes the test.
use mathlib.Core.Path.{◌≡◌, refl, sym, ap, ◌∙◌}
use mathlib.Core.Logic.{◌↔◌}
use mathlib.Core.Bool.{Bool, true, false, cond, ◌&&◌, false≢true}
use Rattle.std.specs.Prelude.{Option, Some, None}
use Rattle.std.specs.Cmp.{both_ways}
use Rattle.std.proofs.lemmas.Bool.{and_parts}
use Prim.Native.Nat.{ℕ}
use native.Mathlib.Omega.{arith}
use lib.Dec.{eqb}
use borrow.Author.Tests.{eqb-true, eq-eqb}
use Rattle.model.specs.Bytes.{Bytes, same_bytes}
use Rattle.model.specs.Record.{GraphName, compare_pairs, ascends, judge, is_valid}
use Rattle.model.specs.Layout.{encode, shown, decode}
use Rattle.model.specs.Statements.{Valid, Encoded, Decoded}
use Rattle.text.proofs.Order.{same_bytes_refl, same_bytes_true}
use Rattle.text.proofs.Ascending.{ascends_true}
use Rattle.record.specs.Test.{is_record}
use Rattle.model.specs.Opening.{is_some}
use Rattle.record.proofs.Words.{AllBytes}
use Rattle.record.proofs.Held.{Held, held, held_record}
use Rattle.record.specs.Coded.{meaning}
use Rattle.record.proofs.Coded.{coded, meaning_coded, valid_fits, coded_meaning, meaning_valid}
use Rattle.record.proofs.Write.{write, read, encode_write}
use Rattle.record.proofs.ReadWrite.{read_write, write_held, held_fits, write_read}
use Rattle.record.proofs.Shown.{shown_meaning}

pub is_valid_true : (g : GraphName) → is_valid g ≡ true ↔ Valid g
unfolding is_valid
is_valid_true g = (
  λ e.
      let p = and_parts (ascends compare_pairs g.subgraph && ascends compare_pairs g.translation) (eqb (judge g) 0) e in
      let q = and_parts (ascends compare_pairs g.subgraph) (ascends compare_pairs g.translation) p.0 in
      record {
        subgraphs = (ascends_true compare_pairs g.subgraph).0 q.0;
        translations = (ascends_true compare_pairs g.translation).0 q.1;
        sizes = eqb-true (judge g) 0 p.1;
      },
  λ v. rw (
    (ascends_true compare_pairs g.subgraph).1 v.subgraphs,
    (ascends_true compare_pairs g.translation).1 v.translations,
    eq-eqb (judge g) 0 v.sizes,
  ),
)

-- an encoding of a valid graph name passes the test
pub encode_held : (g : GraphName) → Valid g → Held (encode g)
encode_held g v = rw (encode_write g) (write_held (coded g) (valid_fits g v))

shown_encode : (g : GraphName) → Valid g → shown (encode g) ≡ g
shown_encode g v =
    shown_meaning (encode g) (encode_held g v)
    ∙ ap (λ b. meaning (read b)) (encode_write g)
    ∙ ap meaning (read_write (coded g) (valid_fits g v))
    ∙ meaning_coded g

decode_some : (b : Bytes) (g : GraphName) → shown b ≡ g → Valid g → encode g ≡ b → decode b ≡ Some g
unfolding decode
decode_some b g s v e = rw (s, (is_valid_true g).1 v, e, same_bytes_refl b)

pub encoded : Encoded
encoded g v = decode_some (encode g) g (shown_encode g v) v refl

-- what decodes passes both tests, and is what is shown
decode_passes : (b : Bytes) (g : GraphName) → decode b ≡ Some g → (is_valid (shown b) && same_bytes (encode (shown b)) b ≡ true) × (shown b ≡ g)
unfolding decode
decode_passes b g e = go (is_valid (shown b) && same_bytes (encode (shown b)) b) e
  where
    go : (t : Bool) → cond t (Some (shown b)) None ≡ Some g → (t ≡ true) × (shown b ≡ g)
    go true e = (refl, cc)
    go false e = let z : ◌≡◌ {A = ℕ} 0 1 = cc in absurd (omega arith)

pub decode_shown : (b : Bytes) (g : GraphName) → decode b ≡ Some g → shown b ≡ g
decode_shown b g e = (decode_passes b g e).1

pub decoded : Decoded
decoded b g e =
    let (t, s) = decode_passes b g e in
    let p = and_parts (is_valid (shown b)) (same_bytes (encode (shown b)) b) t in
    (rw s at ((is_valid_true (shown b)).0 p.0), sym (rw s at ((same_bytes_true (encode (shown b)) b).0 p.1)))

-- ------------------------------------------------------------------ the test

-- what a buffer that passes the test decodes to
pub held_decode : (b : Bytes) → AllBytes b → Held b → decode b ≡ Some (meaning (read b))
held_decode b a h =
    let f = held_fits b h in
    decode_some b (meaning (read b)) (shown_meaning b h) (meaning_valid (read b) f)
    (encode_write (meaning (read b)) ∙ ap write (coded_meaning (read b) f) ∙ write_read b h a)

pub decode_held : (b : Bytes) (g : GraphName) → decode b ≡ Some g → Held b
decode_held b g e = let p = decoded b g e in rw p.1 (encode_held g p.0)

pub is_record_lem : (b : Bytes) → AllBytes b → is_record b ≡ is_some (decode b)
is_record_lem b a = both_ways (is_record b) (is_some (decode b)) (λ e. rw (held_decode b a (held b e))) (λ e. held_record b (go (decode b) refl e))
  where
    go : (o : Option GraphName) → decode b ≡ o → is_some o ≡ true → Held b
    go None d e = absurd (false≢true e)
    go (Some g) d e = decode_held b g d
