-- The definitions that the promise cites: what acks does.
pub mod Acks
pub mod Steps
