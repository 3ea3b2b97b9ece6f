-- Where the parts of a path's bytes stand, a path read off a queue, the replies to a question, and a path's steps read off its bytes.
pub mod Layout
pub mod Written
pub mod Replies
pub mod Reading
pub mod Steps
