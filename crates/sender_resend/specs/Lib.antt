-- The definitions that the promise cites: what resend does.
pub mod Resend
pub mod Steps
