pub mod Faults
pub mod FaultLaws
pub mod Tokens
pub mod Answers
