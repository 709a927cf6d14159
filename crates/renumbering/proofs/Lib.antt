pub mod Counts
pub mod Deciding
pub mod Drafting
pub mod Marking
