pub mod Behind
pub mod Good
pub mod Landmarks
pub mod Read
