mod Braces
mod Returns
