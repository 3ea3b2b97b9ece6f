-- Ascending numbers; the tables, what they show and what is put in; a record loaded.
pub mod Sorted
pub mod Tables
pub mod Loading
