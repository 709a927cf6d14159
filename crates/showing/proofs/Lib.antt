pub mod Putting
pub mod Walking
pub mod Depth
pub mod Tagging
pub mod Progressing
pub mod Stepping
pub mod Answering
