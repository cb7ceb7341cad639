-- What belongs to no one function: a test at each index, the rules as the code tests them, and that the promise determines its result.
pub mod Every
pub mod Buckets
pub mod Check
pub mod Determined
