pub mod ChangeLaws
pub mod PlaceLaws
pub mod PointerLaws
pub mod PrefixLaws
pub mod SubscriptLaws
