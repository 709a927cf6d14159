pub mod Arranged
pub mod Reading
