pub mod Fitting
pub mod Plating
pub mod Texts
