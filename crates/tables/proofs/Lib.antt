-- The tables stored, the sizes judged, and the pairs of a record put in one after the other.
pub mod Writing
pub mod Stored
pub mod Judge
pub mod Merge
