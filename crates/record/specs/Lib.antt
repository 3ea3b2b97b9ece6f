-- The test of a buffer, the form between a graph name and its bytes, and the record's reader.
pub mod Test
pub mod Coded
pub mod Reader
pub mod Holds
pub mod Rows
pub mod Pairs
