pub mod Going
pub mod Flags
pub mod Destination
pub mod Options
pub mod Reading
pub mod Parts
