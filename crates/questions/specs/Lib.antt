-- The question of either kind, and the room that it takes.
pub mod Asked
pub mod Room
