pub mod Core
pub mod United
