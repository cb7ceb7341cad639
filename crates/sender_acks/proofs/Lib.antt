-- What belongs to no one function: the loops over the table, what acks leaves, and that the promise determines its result.
pub mod Tables
pub mod Freeing
pub mod Determined
