pub mod FormTerms
pub mod FormSpelt
pub mod FormLines
pub mod FormRules
pub mod FormLeast
