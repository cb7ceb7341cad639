-- The definitions that the promises cite: the table of slots, the rules of a state, and start.
pub mod Slots
pub mod Rules
pub mod Answers
pub mod Start
