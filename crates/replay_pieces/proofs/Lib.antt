-- What a byte keeps (Kept), one call (Calls), and all of them (Pieced).
pub mod Kept
pub mod Calls
pub mod Pieced
