-- The tables at the end of a reading, with the own name put in, are those of the graph name so far.
use Rattle.std.proofs.Common.{false, ltb, ltb-false, ◌||◌, suc, ◌≡◌, sym, ap, ◌∙◌, ℕ, ◌+◌, ◌*◌, ◌≤◌, arith, length}
use Rattle.std.specs.Prelude.{Option, Some, None}
use Rattle.model.specs.Bytes.{Bytes}
use Rattle.model.specs.Record.{GraphName, names, any_long, judge, max_name_bytes, max_names, max_bodies_bytes}
use Rattle.std.proofs.lemmas.Bool.{or_parts}
use Rattle.record.proofs.Sizes.{judge_sizes}
use Rattle.record.specs.Coded.{meaning}
use Rattle.sorted.specs.Tables.{Tables, graph_in, read_out, NameRoom, NamePut}
use Rattle.sorted.specs.Loading.{owned, Good}
use Rattle.tables.specs.Judging.{Storable}
use Rattle.tables.proofs.Judge.{names_owned, any_insert, meaning_own, judged_storable, complete_without, complete_own}
use Rattle.intake.proofs.Progress.{in_use}

module _ {t : Tables} {own : Option Bytes} {g : GraphName} (good : Good None t) (shows : owned own (graph_in t) ≡ g) (sizes : judge g ≡ 0) where
  -- without an own name they are as they stand
  pub graph_none : own ≡ None → meaning (read_out t 0) ≡ g
  graph_none e = rw (← shows, e)

  pub stored_none : own ≡ None → Storable t 0
  stored_none e = judged_storable t 0 (complete_without t good) (ap judge (graph_none e) ∙ sizes)

  -- x is the own name
  module _ {x : Bytes} (s : own ≡ Some x) where
    graph_named : g ≡ owned (Some x) (graph_in t)
    graph_named = rw (← shows, s)

    pub name_room : NameRoom (max_names + 2) (max_bodies_bytes + 2 * max_name_bytes) t x
    name_room =
        let u = in_use t own good (ap judge shows ∙ sizes) in
        record { short = name_size; count = omega (arith, u); room = omega (arith, u, name_size) }
      where
        name_size : length x ≤ max_name_bytes
        name_size =
            let l = (judge_sizes g sizes).short in
            let k : any_long (names (owned (Some x) (graph_in t))) ≡ false = rw graph_named at l in
            let n : ltb max_name_bytes (length x) || any_long (names (owned None (graph_in t))) ≡ false =
            sym (any_insert x (names (owned None (graph_in t)))) ∙ ap any_long (sym (names_owned (Some x) (graph_in t))) ∙ k in
            ltb-false max_name_bytes (length x) (or_parts _ _ n).0

    -- with the own name, which stands at p, they are the tables u; n is the number of that place
    module _ {u : Tables} {p : ℕ} (put : NamePut t x u p) where
      pub graph_own : meaning (read_out u (suc p)) ≡ g
      graph_own = meaning_own t u x p put ∙ sym graph_named

      pub stored_own : (n : ℕ) → n ≡ suc p → Storable u n
      stored_own n e = rw e (judged_storable u (suc p) (complete_own t u x p put good) (ap judge graph_own ∙ sizes))
