pub mod Firsts
pub mod Ahead
pub mod Back
pub mod Next
pub mod Stops
