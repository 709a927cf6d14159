pub mod Paths
pub mod Asks
pub mod Theorems
pub mod Laying
