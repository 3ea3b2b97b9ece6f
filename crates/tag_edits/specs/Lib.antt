-- Tags exchanged, and what each case of an answer means.
pub mod Exchanged
pub mod Answers
