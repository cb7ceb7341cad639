-- What belongs to no one function: the laws of writing, and that the promises determine their results.
pub mod Joins
pub mod Passed
pub mod Determined
pub mod ReadsBack
pub mod WritesBack
