-- The text of a reading's refusal, as the Rust words it, from its number, its line and the quoted part.
use Rattle.std.specs.Prelude.{cond, [], ◌++◌, ℕ, eqb}
use Rattle.model.specs.Text.{text}
use Rattle.model.specs.Bytes.{Bytes}
use Rattle.model.specs.Numbers.{decimal}

-- empty for every number but 1 to 10
unfoldable pub error_message : ℕ → ℕ → Bytes → Bytes
error_message number line part =
    cond (eqb number 1) (text "Error parsing header line " ++ decimal line ++ text ": not enough fields")
    (cond (eqb number 2) (text "Error parsing header line " ++ decimal line ++ text ": unknown first field " ++ part)
    (cond (eqb number 3) (text "Invalid GFA typed field: " ++ part)
    (cond (eqb number 4) (text "Invalid subgraph field: " ++ part)
    (cond (eqb number 5) (text "Invalid translation field: " ++ part)
    (cond (eqb number 6) (text "Invalid GAF name header line: " ++ part)
    (cond (eqb number 7) (text "Invalid GAF subgraph header line: " ++ part)
    (cond (eqb number 8) (text "Invalid GAF translation header line: " ++ part)
    (cond (eqb number 9) (text "Invalid subgraph relationship: " ++ part)
    (cond (eqb number 10) (text "Invalid translation relationship: " ++ part)
    [])))))))))
