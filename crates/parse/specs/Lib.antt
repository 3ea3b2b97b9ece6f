-- What a refusal, an answer and the end of a reading mean.
pub mod Refusals
pub mod Endings
