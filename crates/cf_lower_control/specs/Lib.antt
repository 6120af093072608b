pub mod Returning
pub mod Loops
pub mod StepsOwn
pub mod StepsFlows
pub mod StepsLowering
pub mod LowerStatements
pub mod LowerWritten
pub mod LowerKept
