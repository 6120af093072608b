pub mod Acts
pub mod Answer
pub mod Log
pub mod Made
pub mod Named
pub mod Site
pub mod Store
pub mod Then
