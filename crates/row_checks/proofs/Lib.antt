pub mod Ranges
pub mod Sides
pub mod Literals
pub mod Projects
pub mod FarClear
pub mod Building
pub mod Agreeing
pub mod Standing
