-- What the calls leave (Outcomes), that the rules are kept (Keeps), the standing of a number (Standings), and what others cite: the laws
-- of the calls (Laws) and that each promise has one result (Determined).
pub mod Outcomes
pub mod Keeps
pub mod Standings
pub mod Laws
pub mod Determined
