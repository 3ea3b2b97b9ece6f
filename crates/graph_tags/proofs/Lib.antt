-- The laws of changes, of one tag and of three; that blocks are finite maps; and demand 1 of the entries on tag lists.
pub mod OneChange
pub mod Listed
pub mod ThreeTags
pub mod Putting
pub mod Through
pub mod ThreeSet
pub mod AreMap
pub mod Numbers
pub mod Demand
