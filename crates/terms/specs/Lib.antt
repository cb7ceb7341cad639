pub mod Refusals
pub mod Ladder
pub mod Lists
pub mod Answers
