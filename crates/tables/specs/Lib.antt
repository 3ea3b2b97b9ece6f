-- The sizes, and the pairs of a record put in.
pub mod Judging
pub mod Merging
