pub mod Landmark
