-- The definitions that the promises cite: lists by index (Table), the table of places and its changes (Places), the same by number (Numbers), the rules of a
-- state, what calls answer, and start.
pub mod Table
pub mod Places
pub mod Numbers
pub mod Rules
pub mod Answers
pub mod Start
pub mod Steps
