-- What names mean, and what is known at a statement.
use Rattle.std.specs.Prelude.{ℕ, Bool, List, [], ◌∷◌, Option, codes, nat_eq, bytes_eq, find, map, option_map}
use Rattle.std.specs.List.{list_any, starts_with}
use Rattle.cc_whole.specs.declared.types.CType.{CType}
use Rattle.cc_whole.specs.declared.types.CVariableType.{CVariableType}
use Rattle.cc_whole.specs.declared.types.CVariableType.TheVariants as variable
use Rattle.cc_whole.specs.declared.statement.CLocal.{CLocal}
use Rattle.cc_whole.specs.declared.unit.CParameter.{CParameter}
use Rattle.cc_whole.specs.declared.unit.CPrototype.{CPrototype}
use Rattle.cc_whole.specs.Types.{local_type}

abbrev pub is_in : List (List ℕ) → List ℕ → Bool
is_in names name = list_any (λ other. bytes_eq other name) names

-- a function of this prototype, or a variable, local or parameter of this type
pub data Meant : Type 0 where
  function : CPrototype → Meant
  object : CVariableType → Meant

pub record Named : Type 0 where
  pub name : List ℕ
  pub meant : Meant

-- what a name means: the innermost one stands first
abbrev pub lookup : List Named → List ℕ → Option Meant
lookup names name = option_map (λ (x : Named). x.meant) (find (λ (x : Named). bytes_eq x.name name) names)

abbrev pub parameters_named : List CParameter → List Named
parameters_named ps = map (λ (p : CParameter). record { name = p.name; meant = object (variable.Scalar p.ty) }) ps

abbrev pub locals_named : List CLocal → List Named
locals_named xs = map (λ (x : CLocal). record { name = x.name; meant = object (local_type x.ty) }) xs

-- what is known at a statement: the names in scope, whether the function around it is a helper, its result, whether a loop is around it,
-- and whether a loop or a `switch` is
pub record Known : Type 0 where
  pub names : List Named
  pub in_helper : Bool
  pub result : Option CType
  pub in_loop : Bool
  pub may_break : Bool

-- a function whose name begins with `__h`
abbrev pub is_helper : List ℕ → Bool
is_helper name = starts_with nat_eq name (codes "__h")

abbrev pub is_main : List ℕ → Bool
is_main name = bytes_eq name (codes "main")

-- the six library functions
abbrev pub library : List (List ℕ)
library = codes "putchar" ∷ codes "getchar" ∷ codes "exit" ∷ codes "malloc" ∷ codes "free" ∷ codes "atexit" ∷ []

abbrev pub is_library : List ℕ → Bool
is_library name = is_in library name
