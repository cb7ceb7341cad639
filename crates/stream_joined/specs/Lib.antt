-- The definitions that the promise cites: what may be done at a sender and at a receiver (Moves), what goes between them (Wire), and what is promised of
-- every run of both (Forgotten).
pub mod Moves
pub mod Wire
pub mod Forgotten
