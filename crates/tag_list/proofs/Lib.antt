-- The laws of keys, of the list as a finite map, of a block and its meaning, and of the test of a block.
pub mod Keys
pub mod Map
pub mod Bodies
pub mod Parted
pub mod Lowering
pub mod KeyBytes
pub mod Valid
pub mod Steps
pub mod Standing
pub mod Coding
pub mod Listing
pub mod Walk
pub mod Passing
pub mod Tested
pub mod Ready
pub mod Asking
