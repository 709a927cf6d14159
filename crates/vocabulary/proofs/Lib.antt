pub mod Mapping
pub mod Owning
