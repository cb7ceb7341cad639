pub mod Offers
pub mod Promises
