pub mod BookStages
pub mod BookCalls
pub mod Laws
