-- The definitions that the promises cite: what a run of a sender is (Runs), what is promised of every run (Remembers), and what leaves (Leaves).
pub mod Runs
pub mod Remembers
pub mod Leaves
