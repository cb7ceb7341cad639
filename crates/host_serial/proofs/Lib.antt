-- That the promise determines its result (Determined).
pub mod Determined
