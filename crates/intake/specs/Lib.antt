-- What a field taken comes to, and the own name that is kept.
pub mod Own
pub mod State
