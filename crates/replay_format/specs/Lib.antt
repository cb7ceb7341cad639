-- A recorded night as a whole (Night), and byte by byte (Bytes).
pub mod Night
pub mod Bytes
