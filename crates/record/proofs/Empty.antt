-- The empty record is all zeros.
use mathlib.Core.Path.{◌≡◌, refl}
use lib.ListN.{replicate}
use Rattle.model.specs.Record.{empty, insert_all, names}
use Rattle.model.specs.Layout.{record_length, entries, pair_places, contents, encode}

pub encode_empty : encode empty ≡ replicate record_length 0
unfolding encode contents names insert_all entries pair_places
encode_empty = refl
