-- The NACKs one by one (Ways), and that the promise determines its result (Determined).
pub mod Ways
pub mod Determined
