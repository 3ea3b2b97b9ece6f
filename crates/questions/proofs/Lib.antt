-- A question by its tests, demand 3, and the reply over united records.
pub mod Entry
pub mod Demand
pub mod Answering
