pub mod ItemRuns
mod Runs
mod TreeRuns
mod TypeRuns
