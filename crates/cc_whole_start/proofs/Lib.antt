mod BirthLaws
pub mod Exits
pub mod FirstLaws
mod NameLaws
mod Quiet
mod RoomLaws
mod StaticLaws
