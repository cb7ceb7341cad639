-- What belongs to no one function: that each promise has one result (Determined), and that a refusal changes nothing (Refused).
pub mod Determined
pub mod Refused
