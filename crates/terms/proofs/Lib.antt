-- What belongs to no one function: laws of tests and lists, and that the promises determine their results.
pub mod Laws
pub mod Scan
pub mod Numbers
pub mod Determined
