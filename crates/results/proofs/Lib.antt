-- Demand 1 of every entry.
pub mod Demand
