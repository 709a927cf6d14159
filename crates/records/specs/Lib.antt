pub mod Tables
pub mod Checks
pub mod Sheets
pub mod Satisfaction
pub mod Beside
