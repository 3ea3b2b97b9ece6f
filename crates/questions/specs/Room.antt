-- How large the tables of a question are, and that two records fit.
use Rattle.std.specs.Prelude.{◌≡◌, ◌*◌, ◌≤◌, ◌<◌, length}
use Rattle.model.specs.Record.{GraphName, max_names, max_pairs}
use Rattle.union.specs.United.{names_of_both, pairs_of_two}
use Rattle.questions.specs.declared.tables.Size.{Size}
use Rattle.questions.specs.declared.tables.Tables.{Tables}

-- so many names and pairs, and no more than any two records have
pub record IsSize (g h : GraphName) (s : Size) : Type 0 where
  pub names : s.names ≡ names_of_both g h
  pub pairs : s.pairs ≡ pairs_of_two g h
  pub names_most : s.names ≤ 2 * max_names
  pub pairs_most : s.pairs ≤ 4 * max_pairs

-- the tables have room for the names and pairs of two records, and are not so long that a place in them is a large number
pub record Roomy (g h : GraphName) (t : Tables) : Type 0 where
  pub rows_for_names : names_of_both g h ≤ length t.rows.now
  pub rows_for_pairs : pairs_of_two g h ≤ length t.rows.now
  pub spans_room : names_of_both g h ≤ length t.spans.now
  pub numbers_room : names_of_both g h ≤ length t.numbers.now
  pub steps_room : pairs_of_two g h ≤ length t.steps.now
  pub starts_room : names_of_both g h < length t.starts.now
  pub places_room : names_of_both g h ≤ length t.places.now
  pub few_steps : length t.steps.now < 65536
