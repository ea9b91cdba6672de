pub mod Ledgers
pub mod Calls
pub mod Runs
pub mod Laws
pub mod Theorems
