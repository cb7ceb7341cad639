-- The rules as facts (Facts) and as the code tests them (Bands), and that each promise has one result (Determined).
pub mod Facts
pub mod Bands
pub mod Determined
