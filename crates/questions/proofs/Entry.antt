-- The question on two buffers: refusals first, then whether both graphs are named, then the path between the names.
use mathlib.Core.Path.{◌≡◌, refl, ◌∙◌}
use Rattle.std.specs.Prelude.{Option, Some, None, Ok, Err}
use Prim.Native.Nat.{ℕ}
use Rattle.model.specs.declared.fault.Fault.{Fault}
use Rattle.model.specs.Bytes.{Bytes}
use Rattle.model.specs.Record.{GraphName}
use Rattle.model.specs.Opening.{opened, two_records}
use Rattle.model.specs.Path.{between, subgraph_path, full_path}
use Rattle.model.specs.Outcome.{answered, name_or, sized, ask_subgraph, ask_full}
use Rattle.union.specs.declared.steps.Question.{Question}
use Rattle.union.specs.declared.steps.Question.TheVariants as question
use Rattle.questions.specs.Asked.{ask_of, relations_of, answer_of}

module _ (b c : Bytes) (room : ℕ) where
  -- a fault refuses the question
  pub ask_fault : (q : Question) (e : Fault) → opened (two_records b c) ≡ Err e → ask_of q b c room ≡ Err e
  unfolding ask_full ask_subgraph
  ask_fault question.Full e f = rw f
  ask_fault question.Subgraph e f = rw f

  module _ (g h : GraphName) (o : opened (two_records b c) ≡ Ok (g, h)) where
    -- what is asked of the meanings
    ask_is : (q : Question) → ask_of q b c room ≡ sized room (answered (name_or g.name) (between (relations_of q g h) g.name h.name))
    unfolding ask_full ask_subgraph full_path subgraph_path
    ask_is question.Full = rw o
    ask_is question.Subgraph = rw o

    pub ask_unnamed : (q : Question) → g.name ≡ None → ask_of q b c room ≡ Ok None
    ask_unnamed q n = ask_is q ∙ rw n

    pub ask_other_unnamed : (q : Question) → h.name ≡ None → ask_of q b c room ≡ Ok None
    ask_other_unnamed q n = ask_is q ∙ go g.name
      where
        go : (o : Option Bytes) → sized room (answered (name_or o) (between (relations_of q g h) o h.name)) ≡ Ok None
        go None = refl
        go (Some a) = rw n

    -- both named
    pub ask_named : (q : Question) (m n : Bytes) → g.name ≡ Some m → h.name ≡ Some n → ask_of q b c room ≡ answer_of q g h room
    ask_named q m n x y = ask_is q ∙ rw (x, y)
