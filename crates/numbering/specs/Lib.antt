pub mod Quotient
pub mod Sides
pub mod Classes
pub mod Picking
pub mod Numbers
pub mod Writing
