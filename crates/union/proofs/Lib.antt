-- Names joined, pairs as rows of steps, the steps of a question, and the nodes of two records.
pub mod Placed
pub mod Joining
pub mod Rows
pub mod BothKinds
pub mod Uniting
