-- Another record merged, a change by its parts, and each operation by its tests.
pub mod MergeAll
pub mod Changes
pub mod Openings
pub mod Related
pub mod Adding
pub mod Alone
