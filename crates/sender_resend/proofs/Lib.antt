-- What belongs to no one function: the expired run, what resend leaves, and that the promise determines its result.
pub mod Expiry
pub mod Resending
pub mod Determined
