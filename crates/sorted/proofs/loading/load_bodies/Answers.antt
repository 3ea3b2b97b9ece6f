-- What is taken are the bodies, as they stand.
use Rattle.std.proofs.Common.{◌∙◌, ℕ, ap₂, take, drop}
use Rattle.sorted.proofs.Loaded.{taken_bodies}
use Rattle.sorted.proofs.loading.load_bodies.Goals as goal

pub returns : goal.returns
returns g c =
    let b = c.args.b.now in
    rw c.clear.ensures at c.append.ensures
    ∙ c.part.ensures ∙ ap₂ (λ (size at : ℕ). take size (drop at b)) c.requires.1 c.bodies_at.ensures.0 ∙ taken_bodies b c.requires.0
