-- What belongs to no one function: that each promise has one result.
pub mod Determined
