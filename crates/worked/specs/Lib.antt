pub mod Lines
pub mod Table
