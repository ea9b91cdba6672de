pub mod Agreeing
pub mod Known
pub mod Replying
