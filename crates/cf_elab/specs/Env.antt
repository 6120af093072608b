-- What is known at a place of a file while it is elaborated (3).
use Rattle.std.specs.Prelude.{ℕ, Bool, List, ℤ, Option}
use Rattle.cf_types.specs.Table.{Table}
use Rattle.cf_classes.specs.ClassTable.{ClassTable}
use Rattle.cf_classes.specs.declared.class.Access.{Access}
use Rattle.cf_classes.specs.declared.class.ClassDef.{ClassDef}
use Rattle.cf_classes.specs.declared.class.MemberRef.{MemberRef}
use Rattle.cf_lookup.specs.Scope.{OpenScopes}
use Rattle.cf_core.specs.declared.node.Core.{Core as Node}
use Rattle.cf_core.specs.declared.unit.CoreFn.{CoreFn}
use Rattle.cf_core.specs.declared.unit.CoreStatic.{CoreStatic}
use Rattle.cf_elab.specs.Access.{Asker}

abbrev pub Name : Type 0
Name = List ℕ

-- where an object is: a parameter or local by its number, or a static object by its link name
pub data Home : Type 0 where
  local_home : ℕ → Home
  static_home : Name → Home

-- a declared object or reference
pub record Object : Type 0 where
  pub type : ℕ
  pub home : Home
  pub number : Option ℤ  -- its value, where it is a const integer that a constant expression initialises (5.19)
  pub at : ℕ  -- the place of its first declaration
  pub is_defined : Bool
  pub is_internal : Bool  -- whether its name is local to the file (3.3)
  pub is_extern : Bool  -- whether some declaration said `extern`

-- an expression behind a parameter (8.2.6): its core for this parameter, with its literals numbered from 0, and how many they are
pub record Default : Type 0 where
  pub start : Node
  pub literals : ℕ

-- a declared function that is no member
pub record FunctionEntry : Type 0 where
  pub name : Name
  pub link : Name
  pub type : ℕ
  pub defaults : List Default  -- of the last parameters, in order
  pub at : ℕ
  pub is_defined : Bool
  pub is_internal : Bool

-- what a name stands for
pub data Entity : Type 0 where
  object : Object → Entity
  functions : List ℕ → Entity  -- the functions of one name in one scope, by their numbers
  alias : ℕ → Entity  -- a type that `typedef` names
  class_name : ℕ → Entity
  enum_name : ℕ → Entity
  enumerator : ℕ → Option ℤ → Entity  -- its type, and its value, which it does not have yet in its own expression

-- what kind of function a body belongs to (6.6.3, 9.3.1)
pub data BodyKind : Type 0 where
  file_level : BodyKind  -- none: the initialisers of the file
  plain_body : BodyKind
  main_body : BodyKind
  member_body : ℕ → Bool → BodyKind  -- a nonstatic member function of this class, and whether it is const
  static_body : ℕ → BodyKind
  constructor_body : ℕ → BodyKind
  destructor_body : ℕ → BodyKind

-- the function at hand
pub record Hand : Type 0 where
  pub link : Name
  pub kind : BodyKind
  pub asker : Asker  -- whose uses of members are looked at (11)
  pub result : ℕ
  pub locals : List ℕ  -- the types of its parameters, its locals, and the temporaries that its references bind
  pub literals : ℕ  -- how many string literals it has so far
  pub statics : ℕ  -- how many static objects it has so far
  pub breaks : Bool  -- whether `break` may stand here (6.6.1)
  pub continues : Bool  -- and `continue` (6.6.2)

-- Forms of the language that only elaboration shows, and that may be left out of what is built.
pub record Extent : Type 0 where
  pub overloads : Bool  -- a second function of one name with other parameters
  pub computed : Bool  -- a static object whose initialiser is not constant
  pub elsewhere : Bool  -- a declaration of what the file does not define

-- a class whose definition is open, with its bases, and its members and friends so far
pub record OpenClass : Type 0 where
  pub class : ℕ
  pub access : Access  -- of the members that come next (11.1)
  pub def : ClassDef

pub record Env : Type 0 where
  pub extent : Extent
  pub defines : List Name  -- the names that the file's own declarations define
  pub types : Table
  pub classes : ClassTable
  pub open_classes : List OpenClass  -- the innermost first
  pub scopes : OpenScopes
  pub entities : List Entity
  pub linked : List (Name × ℕ)  -- the objects with linkage, by name: also those that only a block declares (3.3)
  pub entries : List FunctionEntry
  pub member_defaults : List (MemberRef × List Default)  -- of member functions
  pub hand : Hand
  pub functions : List CoreFn
  pub statics : List CoreStatic
