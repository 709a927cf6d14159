mod Opened
pub mod Answering
pub mod Blanks
pub mod Added
