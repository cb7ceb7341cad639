-- Lists of pieces (Pieces), what is known at each point of a run (Known), that every call keeps it (Steps), what that says of where each number is
-- (Places) and of an acknowledgement (Claims), demand 3 as one theorem (Delivery), and one call more
-- (More).
pub mod Pieces
pub mod Starts
pub mod Known
pub mod Steps
pub mod Places
pub mod Claims
pub mod Delivery
pub mod More
