-- Bytes moved, a text in the place of another, and numbers of four bytes.
pub mod Moves
pub mod Numbers32
pub mod Spliced
