-- The lines of a description, and its direction.
pub mod Lines
pub mod Direction
