pub mod Either
pub mod EitherLaws
