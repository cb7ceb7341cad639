-- The definitions that the promises cite: the bytes submitted and the bytes taken, each joined; and what becomes of a packet that arrives.
pub mod Whole
