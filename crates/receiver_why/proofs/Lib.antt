-- The smallest missing number (Smallest), each case alone (Cases), the theorem that exactly one holds (One), that the last number is told first (Ways), and that the
-- promise has one result (Determined).
pub mod Smallest
pub mod Cases
pub mod One
pub mod Ways
pub mod Determined
