-- A host that offers a file piece by piece (Offers), and what is promised of it (Promises).
pub mod Offers
pub mod Promises
