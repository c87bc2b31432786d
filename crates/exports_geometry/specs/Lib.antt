pub mod Measures
pub mod Outline
pub mod Fronts
