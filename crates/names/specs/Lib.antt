pub mod Names
pub mod Spellings
