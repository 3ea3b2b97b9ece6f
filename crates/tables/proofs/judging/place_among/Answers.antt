-- The own name is found among the names.
use Rattle.std.proofs.Common.{◌≡◌, ℕ, ◌<◌, arith, rules, length}
use Rattle.std.specs.Prelude.{Ok}
use Rattle.record.specs.Coded.{name_in}
use Rattle.sorted.specs.Tables.{table_names}
use Rattle.tables.proofs.Judge.{among}
use Rattle.tables.proofs.judging.place_among.Given.{Over}
use Rattle.tables.proofs.judging.place_among.Goals as goal
use Rattle.tables.proofs.judging.place_among.Goals.{After-seek}

there : (g : Over) (c : After-seek g) → (p : ℕ) × (c.seek.result ≡ Ok p) × (p < length (table_names c.args.tables.now)) × (name_in (table_names c.args.tables.now) p ≡ c.in_ok-own.field-0.now)
there g c = among c.in_ok-own.field-0.now (table_names c.args.tables.now) c.seek.result (rw c.in_ok-own.was at c.requires) c.seek.ensures.value

pub unwrap-requires : goal.unwrap-requires
unwrap-requires g c = rw (there g c).1 (search rules)

pub returns-clause-place : goal.returns-clause-place
returns-clause-place g c =
    let w = there g (goal.at.returns-clause-place g c).After-seek in
    grind (arith, w.1, w.3, c.in_ok-own.was)
