-- However a string is cut, it is read the same (Folds), and so it is in calls that stop at the first thing given (Stops).
pub mod Folds
pub mod Stops
