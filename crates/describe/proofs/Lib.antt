-- The lines and texts of a description, and what a search finds.
pub mod Runs
pub mod Bound
pub mod Finding
pub mod Outcomes
