mod Answering
mod Closed
mod Names
mod Opens
mod Outcomes
pub mod ServeSteps
mod Sharing
mod Sound
pub mod Spelling
mod TroubledServing
mod TroubledSteps
mod Troubles
