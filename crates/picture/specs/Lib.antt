pub mod Plates
pub mod Picture
