-- What a field means, what the answers about it mean, and what is left of a reading.
pub mod Fields
pub mod Contents
pub mod Rest
