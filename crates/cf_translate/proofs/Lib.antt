pub mod Units
