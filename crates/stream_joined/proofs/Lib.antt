-- Each half is a run of its own (Halves), what is written is as it was made (AsMade), what arrives is what was submitted (Arrivals), what acks name came
-- (Claimed), and what others cite: of every run, nothing is forgotten that was not received (Remembered).
pub mod Halves
pub mod AsMade
pub mod Arrivals
pub mod Claimed
pub mod Remembered
