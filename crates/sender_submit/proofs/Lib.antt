-- What belongs to no one function: storing chunk by chunk, the ways out of the code, and that the promise determines its result.
pub mod Storing
pub mod Ways
pub mod Determined
