pub mod Actions
pub mod Arguments
pub mod Binding
pub mod Branches
pub mod Calling
pub mod Changes
mod ClassRows
mod ControlRows
mod OrderRows
mod TemporaryRows
mod ListRows
mod ArmRows
pub mod Doing
pub mod Loops
pub mod Scopes
pub mod Silent
pub mod Standing
pub mod Evaluating
pub mod Labels
pub mod Lasting
pub mod LastingCode
pub mod Lists
pub mod Elements
pub mod Operands
pub mod Parts
pub mod Following
pub mod Filling
pub mod Fulls
pub mod Joining
pub mod Kept
pub mod Moving
pub mod Passing
pub mod Placing
pub mod PlainSteps
pub mod Pointers
pub mod References
pub mod Sample
pub mod StaticObjects
pub mod NoVirtual
pub mod SameTypes
pub mod Constants
pub mod Settings
pub mod LastingStatics
pub mod StaticReferences
pub mod SameStatics
pub mod JoinedObjects
pub mod Renamed
pub mod RenamedCode
pub mod RenamedLists
pub mod RenamedStatements
pub mod OwnNames
pub mod Steps
pub mod Switching
pub mod Temporaries
pub mod Tested
pub mod Whole
mod ScalarRows
mod StaticListRows
mod StaticReferenceRows
