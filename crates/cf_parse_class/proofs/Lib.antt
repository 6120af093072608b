mod Loops
mod Read
mod Rows
