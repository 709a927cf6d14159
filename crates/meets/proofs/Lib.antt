pub mod Held
pub mod OnePlace
pub mod Meeting
