pub mod Helpers
pub mod Root
pub mod RootTheorems
pub mod Values
