pub mod ArgumentLaws
pub mod CalleeLaws
pub mod CallLaws
pub mod MatchingLaws
pub mod ResultLaws
pub mod SignatureLaws
