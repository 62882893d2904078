pub mod Answers
pub mod Tasks
pub mod Books
pub mod JobPlans
