-- The definitions that the laws cite: what a state says of each number (Meaning), what each call makes of that (Steps), and what is promised of each
-- call (Changes).
pub mod Meaning
pub mod Steps
pub mod Changes
