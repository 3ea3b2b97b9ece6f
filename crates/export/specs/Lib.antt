-- The texts, and what their writers ask of what appends a text.
pub mod Texts
