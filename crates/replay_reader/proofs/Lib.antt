-- What the rules say of a reader (Facts), bytes within a record's data (Data) and outside it (Turns), and that the promises determine their results
-- (Determined).
pub mod Facts
pub mod Data
pub mod Turns
pub mod Determined
