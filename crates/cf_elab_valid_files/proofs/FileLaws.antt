pub mod Decided
pub mod Items
pub mod Lists
pub mod Measured
pub mod Small
pub mod Sorted
pub mod Units
