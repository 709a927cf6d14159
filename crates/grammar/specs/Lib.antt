pub mod Terms
pub mod Spelt
pub mod Described
pub mod Good
pub mod Lines
pub mod Rules
pub mod Least
pub mod Points
