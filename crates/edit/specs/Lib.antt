-- The merge of another record's pairs, and a change as a whole.
pub mod Merging
pub mod Changing
