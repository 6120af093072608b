mod CheckingItemsLaws
mod CheckingLaws
mod ListLaws
mod ScopeLaws
mod SignatureLaws
mod TypingLaws
mod WalkLaws
