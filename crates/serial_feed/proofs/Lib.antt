-- What the bytes of a portion do (Bytes), and that the promise determines its result (Determined).
pub mod Bytes
pub mod Determined
