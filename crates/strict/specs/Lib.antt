-- Classes of bytes, numbers, tags and parts as the code reads them.
pub mod Class
pub mod Number
pub mod Tag
pub mod Parts
