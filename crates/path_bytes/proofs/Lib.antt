-- Bytes of a path step by step, written behind one another, the reply to a question, and a path's bytes read back.
pub mod PathBytes
pub mod Joined
pub mod Replying
pub mod ReadBack
pub mod Stepping
