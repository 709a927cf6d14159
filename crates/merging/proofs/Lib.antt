pub mod Classing
pub mod Tables
