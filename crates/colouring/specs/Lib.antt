pub mod Colouring
pub mod Boards
pub mod passes
