-- A record of a name alone: what it comes to, and the tables that it is stored from.
use mathlib.Core.Path.{◌≡◌, refl, sym, ap, ◌∙◌}
use mathlib.Core.List.{[], ◌∷◌}
use Prim.Native.Nat.{ℕ, suc, ◌≤◌, ◌<◌}
use native.Mathlib.Omega.{arith}
use lib.ListN.{length, length-append, replicate}
use borrow.Author.Tests.{lt-ltb, le-ltb}
use Rattle.model.specs.Bytes.{Bytes}
use Rattle.model.specs.Record.{insert, insert_all, empty, with_name, names, judge, bodies, max_name_bytes, max_bodies_bytes}
use Rattle.model.specs.Layout.{record_length, encode}
use Rattle.model.specs.Outcome.{Outcome, fresh_or, new_record}
use Rattle.record.proofs.Opening.{written_opened, written_refused}
use Rattle.record.specs.Coded.{meaning}
use Rattle.sorted.specs.Tables.{Tables, fresh, read_out, NamePut}
use Rattle.tables.specs.Judging.{Storable}
use Rattle.sorted.proofs.Unused.{fresh_good}
use Rattle.tables.proofs.Judge.{meaning_own, complete_own}

module _ (name : Bytes) where
  alone : names (with_name name empty) ≡ name ∷ []
  unfolding names insert_all insert
  alone = refl

  pub fresh_long : max_name_bytes < length name → fresh_or (with_name name empty) ≡ record { number = 11; buffer = replicate record_length 0 }
  unfolding judge
  fresh_long h = rw (alone, lt-ltb max_name_bytes (length name) h)

  pub fresh_short : length name ≤ max_name_bytes → fresh_or (with_name name empty) ≡ record { number = 0; buffer = encode (with_name name empty) }
  unfolding judge
  fresh_short h =
      let l = length-append name [] in
      rw (alone, le-ltb max_name_bytes (length name) h, le-ltb max_bodies_bytes (length (bodies (name ∷ []))) (omega arith))

  module _ (b : Bytes) where
    pub new_wrong : (length b ≡ record_length → ⊥) → new_record name b ≡ record { number = 15; buffer = b }
    unfolding new_record
    new_wrong n = rw (written_refused b n)

    pub new_long : length b ≡ record_length → max_name_bytes < length name → new_record name b ≡ record { number = 11; buffer = replicate record_length 0 }
    unfolding new_record
    new_long e h = rw (written_opened b e) (fresh_long h)

    -- which is what clearing leaves
    pub new_cleared : length b ≡ record_length → max_name_bytes < length name → (new_record name b).buffer ≡ replicate (length b) 0
    new_cleared e h = ap (λ (o : Outcome). o.buffer) (new_long e h) ∙ ap (λ (k : ℕ). replicate {A = ℕ} k 0) (sym e)

    pub new_short : length b ≡ record_length → length name ≤ max_name_bytes → new_record name b ≡ record { number = 0; buffer = encode (with_name name empty) }
    unfolding new_record
    new_short e h = rw (written_opened b e) (fresh_short h)

-- tables in which a name alone was put in
module _ (name : Bytes) (u : Tables) (p : ℕ) (put : NamePut fresh name u p) where
  pub alone_meaning : meaning (read_out u (suc p)) ≡ with_name name empty
  alone_meaning = meaning_own fresh u name p put

  pub alone_storable : length name ≤ max_name_bytes → Storable u (suc p)
  alone_storable short = record {
    complete = complete_own fresh u name p put fresh_good;
    sizes = record {
      names = omega (arith, put.count);
      bytes = omega (arith, put.bytes);
      subgraph = omega (arith, put.subgraph);
      translation = omega (arith, put.translation);
    };
  }

-- the ways through `new`
pub ruleset news = (new_wrong, new_long, new_cleared, new_short)
