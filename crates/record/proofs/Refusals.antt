-- What the parts of the test come to, at the four counts as the code has read them: a part that fails refuses the buffer, and with all
-- the others right the zeros decide.
use mathlib.Core.Path.{◌≡◌, refl}
use mathlib.Core.Bool.{Bool, true, false}
use Prim.Native.Nat.{ℕ, ◌+◌, ◌≤◌, ◌<◌}
use native.Mathlib.Omega.{arith}
use lib.ListN.{length, drop}
use borrow.Author.Tests.{le-leb, leb-true}
use Rattle.std.specs.Cmp.{both_ways}
use Rattle.std.proofs.lemmas.Bool.{and_parts}
use Rattle.model.specs.Record.{max_names, max_pairs, max_bodies_bytes}
use Rattle.text.specs.Blocks.{all_zero}
use Rattle.model.specs.Bytes.{Bytes}
use Rattle.record.specs.Test.{entries_at, pairs_at, Under, body_end, pairs_ok, counts_ok, tables_ok, is_record}
use Rattle.record.proofs.TestLaws.{pairs_ok_true}
use Rattle.record.specs.Reader.{IsHead}
use Rattle.record.specs.declared.layout.Head.{Head}
use Rattle.record.proofs.Held.{held, held_record}
use Rattle.model.specs.Layout.{bodies_after, counts_length, name_count, own_number, pair_count, record_length}
use Rattle.model.specs.declared.Kind.TheVariants.{Subgraph, Translation}

pub not_so : (t : Bool) → (t ≡ true → ⊥) → t ≡ false
not_so true f = absurd (f refl)
not_so false f = refl

pub clash : (t : Bool) → t ≡ true → t ≡ false → ⊥
clash t p q = let z : ◌≡◌ {A = ℕ} 0 1 = cc in omega arith

pub record Counted (n o s t : ℕ) : Type 0 where
  pub names : n ≤ max_names
  pub own : o ≤ n
  pub subgraphs : s ≤ max_pairs
  pub translations : t ≤ max_pairs

pub counted : (n own s t : ℕ) → counts_ok n own s t ≡ true → Counted n own s t
counted n own s t e =
    let p = and_parts _ _ e in
    let q = and_parts _ _ p.1 in
    let r = and_parts _ _ q.1 in
    record { names = leb-true _ _ p.0; own = leb-true _ _ q.0; subgraphs = leb-true _ _ r.0; translations = leb-true _ _ r.1 }

pub pairs_under : (n : ℕ) (b : Bytes) (left p : ℕ) → pairs_ok n (pairs_at left (drop p b)) ≡ true → Under n (pairs_at left (drop p b))
pairs_under n b left p e = ((pairs_ok_true n (pairs_at left (drop p b))).0 e).0

pub refuse_length : (b : Bytes) → (length b ≡ record_length → ⊥) → is_record b ≡ false
refuse_length b f = not_so (is_record b) (λ r. f (held b r).long)

module _ (b : Bytes) (h : Head) (k : IsHead b h) where
  abbrev n : ℕ
  n = h.names

  abbrev own : ℕ
  own = h.own

  abbrev s : ℕ
  s = h.subgraph

  abbrev t : ℕ
  t = h.translation

  abbrev en : n ≡ name_count b
  en = k.names.0

  abbrev eo : own ≡ own_number b
  eo = k.own.0

  abbrev es : s ≡ pair_count Subgraph b
  es = k.subgraph.0

  abbrev et : t ≡ pair_count Translation b
  et = k.translation.0

  pub refuse_counts : counts_ok n own s t ≡ false → is_record b ≡ false
  refuse_counts e = not_so (is_record b) λ r.
      let d = held b r in
      clash (counts_ok n own s t)
      (rw (en, eo, es, et, le-leb _ _ d.count, le-leb _ _ d.own, le-leb _ _ d.subgraphs, le-leb _ _ d.translations)) e

  pub refuse_bodies : max_bodies_bytes < body_end 0 (entries_at n (drop counts_length b)) → is_record b ≡ false
  refuse_bodies long = not_so (is_record b) λ r.
      let l : body_end 0 (entries_at n (drop counts_length b)) ≤ max_bodies_bytes = rw en (held b r).row in
      omega arith

  pub refuse_tables : tables_ok b n own s t ≡ false → is_record b ≡ false
  unfolding tables_ok
  refuse_tables e = not_so (is_record b) λ r.
      let d = held b r in
      clash _ (rw (en, eo, es, et, d.subgraph, d.translation, d.order) d.used) e

  pub zeros_decide : length b ≡ record_length → counts_ok n own s t ≡ true → body_end 0 (entries_at n (drop counts_length b)) ≤ max_bodies_bytes → tables_ok b n own s t ≡ true
      → all_zero (drop (bodies_after n (s + t) + body_end 0 (entries_at n (drop counts_length b))) b) ≡ is_record b
  unfolding tables_ok
  zeros_decide l c r w =
      let m = counted n own s t c in
      let p = and_parts _ _ w in
      let q = and_parts _ _ p.1 in
      let u = and_parts _ _ q.1 in
      both_ways _ (is_record b) (λ z. held_record b (record {
        long = l;
        count = rw (← en) m.names;
        own = rw (← eo, ← en) m.own;
        subgraphs = rw (← es) m.subgraphs;
        translations = rw (← et) m.translations;
        row = rw (← en) r;
        subgraph = rw (← en, ← es) p.0;
        translation = rw (← en, ← es, ← et) q.0;
        order = rw (← en, ← es, ← et) u.0;
        used = rw (← en, ← eo, ← es, ← et) u.1;
        rest = rw (← en, ← es, ← et) z;
      })) (λ e. rw (en, es, et) (held b e).rest)
