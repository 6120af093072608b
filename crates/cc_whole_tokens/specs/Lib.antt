pub mod Cut
pub mod Mark
pub mod Token
