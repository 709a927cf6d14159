pub mod Texts
pub mod Words
pub mod Alone
pub mod Orders
pub mod AloneLaws
pub mod OrdersLaws
