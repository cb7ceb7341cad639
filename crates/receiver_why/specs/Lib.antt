-- Why a piece is not delivered (Reasons), and what is proved of the answer (Stands).
pub mod Reasons
pub mod Stands
