-- What belongs to no one function: lengths and chunks, and that the promise determines its result.
pub mod Lengths
pub mod Determined
