pub mod KidSteps
pub mod Levels
pub mod Joined
pub mod Fitted
