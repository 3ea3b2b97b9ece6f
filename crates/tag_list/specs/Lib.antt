-- Where a tag stands, the tags of a block one by one, the test of a block, and where a key stands or would.
pub mod Parts
pub mod Tags
pub mod Test
pub mod Spot
