pub mod Forests
pub mod Growth
pub mod Walks
pub mod Beside
pub mod Owning
pub mod Ringing
