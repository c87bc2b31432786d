pub mod Placed
pub mod Loop
pub mod Placing
