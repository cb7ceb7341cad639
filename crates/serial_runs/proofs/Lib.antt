-- A line of frames (Lines), the law of one call (Calls), of calls one after another (Along), and the promises (Serial).
pub mod Lines
pub mod Calls
pub mod Along
pub mod Serial
