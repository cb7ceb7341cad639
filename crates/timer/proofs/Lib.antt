-- What belongs to no one function: the laws that callers cite, and that the promises determine their results.
pub mod Laws
pub mod Determined
