pub mod Refusals
pub mod Faults
pub mod FaultLaws
pub mod Checks
pub mod Scans
pub mod Shown
