-- The three tags one after the other: each reading goes on from what the one before has, and a refusal stays.
use Rattle.std.proofs.Common.{◌≡◌, refl}
use Rattle.model.specs.Record.{GraphName}
use Rattle.model.specs.Reading.{Refusal, Reading, done, refused, after_reading}
use Rattle.parse.proofs.Finished.{nothing_judged}

pub stops : {r : Refusal} {x : Reading} (go : GraphName → Reading) → refused r ≡ x → refused r ≡ after_reading x go
stops go e = rw (← e) refl

pub goes_on : {g : GraphName} {x : Reading} (go : GraphName → Reading) → done g ≡ x → after_reading x go ≡ go g
goes_on go e = rw (← e) refl

pub ruleset in_turn = (nothing_judged, stops, goes_on)
