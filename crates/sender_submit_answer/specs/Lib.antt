-- The definitions that the promise cites: what submit answers.
pub mod Answer
