pub mod Figures
pub mod Readings
pub mod Spelt
pub mod Order
pub mod Rest
