-- The definitions that the promises cite: what each call does.
pub mod Fetch
pub mod Send
pub mod Steps
