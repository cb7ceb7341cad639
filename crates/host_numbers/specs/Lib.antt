-- The definitions that the promises cite: what a call gives a host, and a packet as it is read, in numbers.
pub mod Numbers
pub mod Fields
