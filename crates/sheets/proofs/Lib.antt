mod Answering
mod Numbered
mod Deciding
mod Finding
mod Forming
pub mod Showing
