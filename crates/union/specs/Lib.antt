-- Names joined, pairs as steps, and both for two records.
pub mod Names
pub mod Steps
pub mod United
