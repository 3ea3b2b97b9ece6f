-- One text in the place of another.
pub mod Splice
