pub mod Leaving
pub mod Loops
pub mod Lowered
pub mod StepsBetween
pub mod StepsLocals
pub mod StepsStatements
