pub mod Float
pub mod Engines
