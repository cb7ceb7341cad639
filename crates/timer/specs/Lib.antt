-- The definitions that the promises cite: the timer, and the window.
pub mod Timer
pub mod Window
