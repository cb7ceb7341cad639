pub mod Frames
pub mod Rules
pub mod Start
