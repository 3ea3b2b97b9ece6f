-- Tags changed.
pub mod Change
