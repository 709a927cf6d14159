pub mod Merge
pub mod Scan
pub mod Theorems
pub mod Examples
