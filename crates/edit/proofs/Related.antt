-- What is kept of a relation between two own names, by what is wrong with the buffers and by whether there are such names.
use mathlib.Core.Path.{◌≡◌, refl, ap, ap₂, ◌∙◌}
use mathlib.Core.Bool.{true}
use Rattle.std.specs.Prelude.{Option, Some, None, Ok, Err}
use Rattle.model.specs.declared.fault.Fault.{Fault}
use Prim.Native.Nat.{◌≤◌}
use lib.ListN.{length}
use Rattle.std.proofs.lemmas.List.{length-take-le}
use Rattle.model.specs.declared.Kind.{Kind}
use Rattle.model.specs.Bytes.{Bytes}
use Rattle.model.specs.Record.{GraphName, max_name_bytes, with_pair, with_relationships}
use Rattle.model.specs.Layout.{shown, decode}
use Rattle.model.specs.Outcome.{Outcome, kept_or, related, relate, add_relationships}
use Rattle.model.specs.Opening.{is_some, check_of_both}
use Rattle.tables.specs.Judging.{outcome}
use Rattle.sorted.proofs.Records.{held_long, held_count, held_own, own_short}
use Rattle.edit.proofs.Openings.{both_refused, both_done}

module _ (kind : Kind) (b c : Bytes) where
  abbrev relation : Option Bytes → Option Bytes → Outcome
  relation = related kind b (shown b) (shown c)

  -- the change by what both records mean
  abbrev change : GraphName → GraphName → Outcome
  change g h = related kind b g h g.name h.name

  pub relate_refused : (e : Fault) → check_of_both b c ≡ Err e → relate kind b c ≡ outcome (Err e) b
  relate_refused e n = both_refused b c change e n

  module _ (ok : check_of_both b c ≡ Ok tt) where
    relate_opened : relate kind b c ≡ relation (shown b).name (shown c).name
    relate_opened = (both_done b c change ok).2

    pub relate_done : (m n : Bytes) → (shown b).name ≡ Some m → (shown c).name ≡ Some n
        → relate kind b c ≡ kept_or b (with_pair kind (record { from = m; to = n }) (with_relationships (shown c) (shown b)))
    relate_done m n d e = relate_opened ∙ ap₂ relation d e

    pub relate_unnamed : (shown b).name ≡ None → relate kind b c ≡ outcome (Ok tt) b
    relate_unnamed e = relate_opened ∙ ap (λ (o : Option Bytes). relation o (shown c).name) e

    pub relate_parentless : (shown c).name ≡ None → relate kind b c ≡ outcome (Ok tt) b
    relate_parentless e = relate_opened ∙ ap (relation (shown b).name) e ∙ go (shown b).name
      where
        go : (o : Option Bytes) → relation o None ≡ outcome (Ok tt) b
        go None = refl
        go (Some n) = refl

-- with nothing wrong both are records
module _ (b c : Bytes) (ok : check_of_both b c ≡ Ok tt) where
  pub first_decodes : is_some (decode b) ≡ true
  first_decodes = (both_done b c (λ g h. outcome (Ok tt) b) ok).0

  pub second_decodes : is_some (decode c) ≡ true
  second_decodes = (both_done b c (λ g h. outcome (Ok tt) b) ok).1

-- an own name is short
pub own_within : (b : Bytes) (m : Bytes) → is_some (decode b) ≡ true → Some m ≡ (shown b).name → length m ≤ max_name_bytes
own_within b m v e = rw (← e) at (own_short b v)

-- all pairs of another record added
module _ (b c : Bytes) where
  pub merge_refused : (e : Fault) → check_of_both b c ≡ Err e → add_relationships b c ≡ outcome (Err e) b
  unfolding add_relationships
  merge_refused e n = both_refused b c (λ g h. kept_or b (with_relationships h g)) e n

  pub merge_done : check_of_both b c ≡ Ok tt → add_relationships b c ≡ kept_or b (with_relationships (shown c) (shown b))
  unfolding add_relationships
  merge_done z = (both_done b c (λ g h. kept_or b (with_relationships h g)) z).2

-- the ways through `relate_to`
pub ruleset relations = (relate_refused, relate_done, relate_unnamed, relate_parentless, first_decodes, second_decodes, held_long, held_count, held_own, own_within, length-take-le)

-- the ways through `add_relationships`
pub ruleset merges = (merge_refused, merge_done, first_decodes, second_decodes)
