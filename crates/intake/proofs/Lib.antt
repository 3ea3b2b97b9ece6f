-- The laws of a reading's state: a field taken, and the record stored at the end.
pub mod Progress
pub mod Stored
