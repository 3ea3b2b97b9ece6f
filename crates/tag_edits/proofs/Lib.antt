-- The laws of answers about a block, of tags exchanged in it, and of what an insertion and a removal come to.
pub mod Outcome
pub mod Exchanging
pub mod Placed
pub mod Inserting
