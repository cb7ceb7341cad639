-- What belongs to no one function: the laws of reading, and that the promises determine their results.
pub mod Form
pub mod Moved
pub mod Readable
pub mod Looks
pub mod Determined
