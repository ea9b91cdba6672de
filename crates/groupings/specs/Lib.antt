pub mod Members
pub mod Memberships
pub mod Splits
pub mod Answers
pub mod Grouped
pub mod Joined
pub mod laws
