pub mod Questions
pub mod Filling
pub mod Ranges
pub mod Counts
pub mod Exactness
pub mod Agreeing
pub mod Joining
pub mod Loops
