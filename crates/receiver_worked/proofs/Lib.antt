pub mod Happens
