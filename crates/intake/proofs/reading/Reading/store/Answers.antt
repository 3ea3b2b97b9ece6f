-- As the tables stand, or with the own name put in (`Stored`).
use Rattle.std.proofs.Common.{ap, sym, arith, ◌∙◌}
use Rattle.std.specs.Prelude.{Some}
use Rattle.std.proofs.lemmas.Grind.{common_steps}
use Rattle.model.specs.Layout.{encode}
use Rattle.intake.specs.Own.{own_of}
use Rattle.intake.proofs.Stored.{graph_none, stored_none, name_room, graph_own, stored_own}
use Rattle.intake.proofs.reading.Reading.store.Goals.{in-None, in-Some}
use Rattle.intake.proofs.reading.Reading.store.Goals as goal

pub store-requires : goal.store-requires
store-requires c = (
  omega arith,
  (stored_none c.self.invariant c.self.view_is c.requires.sizes (ap own_of c.in-None.is), c.requires.room),
)

pub put_name-place-requires : goal.put_name-place-requires
put_name-place-requires c = (
  omega arith,
  name_room c.self.invariant c.self.view_is c.requires.sizes (ap own_of c.in-Some.is ∙ ap Some (sym c.as_slice.ensures.value)),
)

pub store-requires-in-Some : goal.store-requires-in-Some
store-requires-in-Some c = (
  omega arith,
  (stored_own c.self.invariant c.self.view_is c.requires.sizes (ap own_of c.in-Some.is ∙ ap Some (sym c.as_slice.ensures.value)) c.put_name-place.ensures _ (grind arith), c.requires.room),
)

pub returns-clause-stored : goal.returns-clause-stored
returns-clause-stored c = elim c.match-self.branch [
  | in-None w ↦ w.buffer-is ∙ w.store.ensures ∙ ap encode (graph_none c.self.invariant c.self.view_is c.requires.sizes (ap own_of w.in-None.is))
  | in-Some w ↦
      let k = graph_own c.self.invariant c.self.view_is c.requires.sizes (ap own_of w.in-Some.is ∙ ap Some (sym w.as_slice.ensures.value)) w.put_name-place.ensures in
      grind (arith, common_steps, w.buffer-is, w.store-in-Some.ensures, k)
]
