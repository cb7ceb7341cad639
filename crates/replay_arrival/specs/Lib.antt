-- What a packet does that arrives (Arrive).
pub mod Arrive
