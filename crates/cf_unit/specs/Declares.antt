-- What a declarator declares: its name, and the parameters behind it (8.2.5).
use Rattle.std.specs.Prelude.{ℕ, Bool, true, false, cond, List, [], ◌∷◌, ◌++◌, Option, Some, None}
use Rattle.cf_syntax.specs.declared.name.Last.{Last}
use Rattle.cf_syntax.specs.declared.name.Last.TheVariants as last
use Rattle.cf_syntax.specs.declared.name.Name.{Name}
use Rattle.cf_syntax.specs.declared.declarator.DeclTree.{DeclTree, fold-DeclTree}
use Rattle.cf_syntax.specs.declared.declarator.DeclTree.TheOpen.{DeclTree-F, Expr-F}
use Rattle.cf_syntax.specs.declared.declarator.Param.{Param-F}
use Rattle.cf_syntax.specs.declared.declarator.TypeId.{TypeId-F}

-- the declared name, whether nothing but brackets stands round it, whether parameters stand directly behind it, and their names
pub record Shape : Type 0 where
  pub name : Option Name
  pub is_bare : Bool
  pub has_params : Bool
  pub params : List (List ℕ)

-- a declarator at its first token, with what it declares
pub record Declared : Type 0 where
  pub at : ℕ
  pub tree : DeclTree
  pub shape : Shape

abbrev pub unnamed : Shape
unnamed = record { name = None; is_bare = true; has_params = false; params = [] }

abbrev pub covered : Shape → Shape
covered s = record { name = s.name; is_bare = false; has_params = s.has_params; params = s.params }

abbrev pub called : Shape → List (List ℕ) → Shape
called s params = record { name = s.name; is_bare = false; has_params = true; params = params }

abbrev pub joined : List (List (List ℕ)) → List (List ℕ)
joined [] = []
joined (x ∷ xs) = x ++ joined xs

-- an identifier that no class qualifies
abbrev pub plain_last : Last → List (List ℕ)
plain_last (last.Ident bytes) = bytes ∷ []
plain_last (last.Destructor bytes) = []
plain_last (last.Operator n) = []
plain_last (last.Conversion list ps) = []

abbrev pub if_none : List (List ℕ) → List (List ℕ) → List (List ℕ)
if_none [] names = names
if_none (x ∷ xs) names = []

abbrev pub plain_name : Option Name → List (List ℕ)
plain_name None = []
plain_name (Some n) = cond n.from_file [] (if_none n.scopes (plain_last n.last))

abbrev pub tree_step : DeclTree-F Shape (Unit {0}) (List (List ℕ)) (Unit {0}) → Shape
tree_step DeclTree-F.Unnamed = unnamed
tree_step (DeclTree-F.Declared n) = record { name = Some n; is_bare = true; has_params = false; params = [] }
tree_step (DeclTree-F.Pointed p d) = covered d
tree_step (DeclTree-F.Bracketed at d) = d
tree_step (DeclTree-F.Function at d all is_const) = cond d.is_bare (called d (joined all)) (covered d)
tree_step (DeclTree-F.Array at d bound) = covered d

abbrev pub expr_step : Expr-F Shape (Unit {0}) (List (List ℕ)) (Unit {0}) → Unit {0}
expr_step e = tt

abbrev pub param_step : Param-F Shape (Unit {0}) (List (List ℕ)) (Unit {0}) → List (List ℕ)
param_step p = plain_name p.declarator.name

abbrev pub type_step : TypeId-F Shape (Unit {0}) (List (List ℕ)) (Unit {0}) → Unit {0}
type_step t = tt

-- what the tree of a declarator tells
abbrev pub shape : DeclTree → Shape
shape = fold-DeclTree Shape (Unit {0}) (List (List ℕ)) (Unit {0}) tree_step expr_step param_step type_step
