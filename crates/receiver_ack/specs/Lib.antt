pub mod Missing
pub mod Fields
pub mod Acknowledge
