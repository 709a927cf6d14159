pub mod Contents
pub mod Sound
pub mod Jobs
pub mod Faults
pub mod FaultLaws
pub mod Adding
