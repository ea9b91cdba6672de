pub mod Files
pub mod Conditions
pub mod laws
