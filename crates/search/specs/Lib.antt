-- Steps and paths as numbers, the queue of a search, what it promises, and the names that its nodes stand for.
pub mod Steps
pub mod Queue
pub mod Table
pub mod Promise
pub mod Extent
pub mod Spans
pub mod Names
pub mod Related
