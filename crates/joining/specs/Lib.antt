pub mod Forest
pub mod Closure
pub mod Ordered
pub mod Two
pub mod Rings
