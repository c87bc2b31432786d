pub mod Literals
pub mod Placing
pub mod Numbers
pub mod Sizes
