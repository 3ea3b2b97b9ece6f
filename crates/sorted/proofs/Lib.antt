-- Ascending numbers and what is put into them, and bytes appended; names and pairs put into the tables; what is known of records, and one loaded.
pub mod Before
pub mod Lower
pub mod Splice
pub mod Renumber
pub mod Search
pub mod Bodies
pub mod Chunks
pub mod Raised
pub mod Pairs
pub mod Unused
pub mod PutName
pub mod PutPair
pub mod Records
pub mod Loaded
