-- Demand 1 of every entry: of those on records, and of those on tag lists.
use Rattle.model.specs.TagStatements.{Demand1}
use Rattle.parse.proofs.Demand.{records_demand1}
use Rattle.graph_tags.proofs.Demand.{tags_demand1}

pub demand1 : Demand1
demand1 = record { records = records_demand1; tags = tags_demand1 }
