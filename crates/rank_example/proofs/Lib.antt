pub mod AfterSteps
pub mod Jobs
pub mod Letters
