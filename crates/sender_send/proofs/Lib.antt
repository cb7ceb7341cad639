-- What belongs to no one function: the number at a rank, what the calls leave, and that the promises determine their results.
pub mod Ranks
pub mod Outcomes
pub mod Determined
