-- Read byte by byte, a file gives what it says as a whole (Whole).
pub mod Whole
