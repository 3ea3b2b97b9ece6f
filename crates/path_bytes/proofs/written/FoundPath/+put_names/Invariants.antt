-- The path to the place before is written first, and then one name more; the number of steps falls.
use Rattle.path_bytes.proofs.written.FoundPath.+put_names.Given as goal

abbrev pub decreases-put_names : goal.decreases-put_names
decreases-put_names g l = l.step
