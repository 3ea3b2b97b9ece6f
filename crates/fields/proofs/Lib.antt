-- The laws of fields: what one says, splitting by places, the rest of a reading, one step of it, and where a refusal is.
pub mod Classified
pub mod Parts
pub mod Rest
pub mod Steps
pub mod Standing
pub mod Offsets
