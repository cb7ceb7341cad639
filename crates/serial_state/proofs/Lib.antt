-- What the rules say of a reader (Facts), and that the promises determine their results (Determined).
pub mod Facts
pub mod Determined
