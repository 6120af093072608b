mod Giving
mod Shapes
