pub mod Accept
pub mod Take
pub mod Meaning
