-- What belongs to no one function: where the parts stand, and that the promises determine their results.
pub mod Laws
pub mod Determined
