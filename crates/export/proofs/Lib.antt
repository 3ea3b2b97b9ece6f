-- The texts of a record by their parts, the laws that they read back, and what a writer answers.
pub mod Parts
pub mod Sizes
pub mod Adding
pub mod Lines
pub mod ReadBack
pub mod Texts
pub mod Runs
pub mod Wording
pub mod Values
