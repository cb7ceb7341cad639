pub mod Chunks
pub mod Submit
pub mod Steps
pub mod Making
