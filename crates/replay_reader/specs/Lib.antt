-- The reader's numbers and rules (Rules), its two calls (ReadOn, Finish), and the steps of the code (Steps).
pub mod Rules
pub mod ReadOn
pub mod Finish
pub mod Steps
