-- What belongs to no one function: the loops over the table, the numbers that bear a mark, the rules fact by fact, and that the promises
-- determine their results.
pub mod Folds
pub mod Facts
pub mod Runs
pub mod Search
pub mod Replaced
pub mod Determined
