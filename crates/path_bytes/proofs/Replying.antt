-- From what a search tells to the reply of a question.
use mathlib.Core.Path.{◌≡◌, refl, sym, ◌∙◌}
use mathlib.Core.Bool.{Bool, true, false, cond}
use mathlib.Core.List.{List}
use Rattle.std.specs.Prelude.{Option, Some, None, Ok, Err}
use Prim.Native.Nat.{ℕ}
use native.Mathlib.Omega.{arith}
use lib.ListN.{length}
use lib.Dec.{leb}
use Rattle.model.specs.Bytes.{Bytes}
use Rattle.model.specs.declared.fault.Fault.{Fault}
use Rattle.model.specs.declared.fault.Fault.TheVariants.{OutputShort}
use Rattle.model.specs.Opening.{Given, settled}
use Rattle.model.specs.Path.{Relations, best_path, path_bytes}
use Rattle.model.specs.Questions.{mapped}
use Rattle.model.specs.Outcome.{answered, output_after}
use Rattle.model.specs.Statements.{Relation}
use Rattle.search.specs.declared.Searched.{Searched}
use Rattle.search.specs.Steps.{leads}
use Rattle.search.specs.Table.{Indexed}
use Rattle.search.specs.Queue.{node_at}
use Rattle.search.specs.Promise.{SearchedFrom}
use Rattle.search.specs.Names.{StepTable}
use Rattle.search.specs.Related.{related, StandsFor}
use Rattle.search.proofs.Laws.{target_last, node_inside, leads_back}
use Rattle.search.proofs.Answer.{answer_is}
use Rattle.search.proofs.Beginnings.{searchable_tables, tables_searchable}
use Rattle.search.proofs.StepTables.{table_same}
use Rattle.path_bytes.specs.Written.{path_back, start_name, Readback, PathWritten}
use Rattle.path_bytes.specs.Replies.{Replies, Askable, QuestionTables, Represents, RepliesRight}

-- a table that stands for any relations, given as lists
pub represents : (steps : List ℕ) (n : ℕ) (name : ℕ → Bytes) (R : Relation) (rs : Relations) → StepTable steps n name R → StandsFor rs R → Represents steps n name rs
represents steps n name R rs t lists = record {
  table = table_same steps n name R (related rs) t (λ k a b. let s = lists.same k a b in (s.1, s.0));
  subgraphs = lists.subgraphs;
  translations = lists.translations;
}

-- what a question wants is what it wants of a graph, and the index that the graph keeps
module _ (names : ℕ) (steps starts : List ℕ) (from target : ℕ) (q : List ℕ) (places : List (Option ℕ)) where
  pub askable_tables : Askable names steps starts from target q places → QuestionTables names steps starts from target q places
  askable_tables a = record { tables = searchable_tables steps starts from q places a.tables; asked = a.asked; named = a.named }

  pub tables_askable : Indexed steps starts → QuestionTables names steps starts from target q places → Askable names steps starts from target q places
  tables_askable index t = record { tables = tables_searchable steps starts from q places index t.tables; asked = t.asked; named = t.named }

-- what was asked, and what the search left
module _ (names : ℕ) (steps starts : List ℕ) (from target : ℕ) (q₀ : List ℕ) (places₀ : List (Option ℕ)) (a : QuestionTables names steps starts from target q₀ places₀)
    (q : List ℕ) (places : List (Option ℕ)) (r : Searched) (s : SearchedFrom (leads steps) (length places₀) from target q places r) where
  -- a path that was found can be read back
  pub readback : (place : ℕ) → r.target ≡ Some place → Readback names q place
  readback place e =
      let l = target_last (leads steps) (length places₀) from target q places r s place e in
      let b = leads_back (leads steps) (length places₀) from target q places r s place (omega (arith, l.0, s.count.0)) in
      record {
        back = b;
        nodes = λ j m. omega (arith, node_inside (leads steps) (length places₀) from target q places r s j (omega (arith, l.0)), a.named);
        small = omega (arith, l.0, s.count, a.tables.room.small);
      }

  module _ (name : ℕ → Bytes) (out : Bytes) where
    best_is : (rs : Relations) → Represents steps (length places₀) name rs → best_path rs (name from) (name target) ≡ mapped (path_back name q) r.target
    best_is rs h =
        answer_is (leads steps) (length places₀) name (related rs) h.table.stands from target a.tables.start a.asked q places r s rs
        (record { subgraphs = h.subgraphs; translations = h.translations; same = λ k n m. ((λ x. x), (λ x. x)) })

    pub reply_no : r.target ≡ None → RepliesRight name steps (length places₀) from target out (Ok false) out
    reply_no e rs h = rw (best_is rs h, e) (refl, refl)

    module _ (place : ℕ) (yes : r.target ≡ Some place) (w : Given Unit) (o : Bytes) (p : PathWritten name q place out w o) where
      abbrev bytes : Bytes
      bytes = path_bytes (start_name name q) (path_back name q place)

      answer_found : (rs : Relations) → Represents steps (length places₀) name rs → answered (name from) (best_path rs (name from) (name target)) ≡ Ok (Some bytes)
      answer_found rs h =
          let e : node_at q 0 ≡ from = omega (arith, s.start.1, a.tables.start, a.tables.room.small) in
          rw (best_is rs h, yes, e)

      -- what the writer of the path says of it
      said : (t : Bool) → leb (length bytes) (length out) ≡ t → (w ≡ settled (cond t (Ok (Some bytes)) (Err OutputShort))) × (o ≡ output_after (cond t (Ok (Some bytes)) (Err OutputShort)) out)
      said t l = rw l at p

      pub reply_yes : w ≡ Ok tt → RepliesRight name steps (length places₀) from target out (Ok true) o
      reply_yes e rs h = rw (answer_found rs h) (go (leb (length bytes) (length out)) refl)
        where
          go : (t : Bool) → leb (length bytes) (length out) ≡ t → Replies (cond t (Ok (Some bytes)) (Err OutputShort)) out (Ok true) o
          go true l = (refl, (said true l).1)
          go false l = absurd (let f = sym e ∙ (said false l).0 in cc)

      pub reply_short : (f : Fault) → w ≡ Err f → RepliesRight name steps (length places₀) from target out (Err f) o
      reply_short f e rs h = rw (answer_found rs h) (go (leb (length bytes) (length out)) refl)
        where
          go : (t : Bool) → leb (length bytes) (length out) ≡ t → Replies (cond t (Ok (Some bytes)) (Err OutputShort)) out (Err f) o
          go true l = absurd (let g = sym e ∙ (said true l).0 in cc)
          go false l = let g = sym e ∙ (said false l).0 in (cc, (said false l).1)
