pub mod Constness
pub mod ConversionExamples
pub mod Known
pub mod Steps
pub mod UserConversionExamples
