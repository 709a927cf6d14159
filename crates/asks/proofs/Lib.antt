pub mod Moved
pub mod Under
pub mod Adds
pub mod Reading
pub mod Pasting
pub mod Drawing
pub mod Sides
