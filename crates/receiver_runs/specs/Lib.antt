pub mod Runs
pub mod History
pub mod Delivered
