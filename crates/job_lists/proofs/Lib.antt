pub mod Steps
pub mod Fits
pub mod Different
pub mod Loops
pub mod Accepted
pub mod Printed
