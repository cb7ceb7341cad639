pub mod Fold
pub mod Stops
