-- The classes of a program, as far as its meaning depends on them (9, 10, 12).
use Rattle.std.specs.Prelude.{ℕ, Bool, false, List, [], Option, Some, None, bytes_eq, find, ◌∷◌}
use Rattle.cf_core.specs.Types.{Name, SourceType, void}

pub record Base : Type 0 where
  pub class : Name
  pub is_virtual : Bool

-- A nonstatic member function that the class declares; a needed generated destructor counts as declared.
pub record MemberFunction : Type 0 where
  pub signature : Name  -- its link name without the class: equal for functions of one name, parameter types and constness
  pub name : Name  -- its link name
  pub is_virtual : Bool  -- by its own word or since it overrides (10.2)
  pub is_pure : Bool

-- a copy constructor or a copying assignment: its link name and its type
pub record Special : Type 0 where
  pub name : Name
  pub type : SourceType

-- A class that is defined. A function that is absent here is trivial: it isn't declared, and no generated one is needed (12.1, 12.4, 12.8).
pub record Class : Type 0 where
  pub code : Name  -- its link code
  pub bases : List Base  -- the direct ones, in order
  pub fields : List SourceType  -- of the nonstatic data members, in order
  pub functions : List MemberFunction
  pub is_built : Bool  -- whether a constructor builds its objects
  pub destructor : Option Name
  pub copy : Option Special  -- the copy constructor: of several the one that takes a reference to const, and then the first (12.8)
  pub assignment : Option Special  -- the copying assignment, chosen in the same way
  pub description : List ℕ  -- the text of its bases and members, which files must have alike

abbrev pub class_named : List Class → Name → Option Class
class_named classes code = find (λ (c : Class). bytes_eq c.code code) classes

abbrev pub bases_in : Option Class → List Base
bases_in None = []
bases_in (Some c) = c.bases

abbrev pub bases_of : List Class → Name → List Base
bases_of classes code = bases_in (class_named classes code)

abbrev pub fields_in : Option Class → List SourceType
fields_in None = []
fields_in (Some c) = c.fields

abbrev pub fields_of : List Class → Name → List SourceType
fields_of classes code = fields_in (class_named classes code)

abbrev pub functions_in : Option Class → List MemberFunction
functions_in None = []
functions_in (Some c) = c.functions

-- the function of this signature that the class itself declares
abbrev pub declared : List Class → Name → Name → Option MemberFunction
declared classes code signature =
    find (λ (f : MemberFunction). bytes_eq f.signature signature) (functions_in (class_named classes code))

abbrev pub is_built_in : Option Class → Bool
is_built_in None = false
is_built_in (Some c) = c.is_built

abbrev pub destructor_in : Option Class → Option Name
destructor_in None = None
destructor_in (Some c) = c.destructor

abbrev pub copy_in : Option Class → Option Special
copy_in None = None
copy_in (Some c) = c.copy

abbrev pub assignment_in : Option Class → Option Special
assignment_in None = None
assignment_in (Some c) = c.assignment

abbrev pub special_names : Option Special → List Name
special_names None = []
special_names (Some f) = f.name ∷ []

-- the type of this entry of a list
abbrev pub type_in : Option SourceType → SourceType
type_in None = void
type_in (Some t) = t
