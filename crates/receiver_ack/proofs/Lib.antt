-- What belongs to no one function: the laws of the missing numbers, the ways out of the code, what an acknowledgement claims, how a packet
-- that carries one reads, and that the promises determine their results.
pub mod Among
pub mod Listed
pub mod Ways
pub mod Claims
pub mod Carried
pub mod PlainAck
pub mod Determined
