-- What belongs to no one function: the tables of the code are the list, and what holds of every type of it.
pub mod Listed
pub mod Determined
