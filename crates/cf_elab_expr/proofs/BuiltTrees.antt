-- Declarators, parameters and types that are built are made of parts that are built.
use Rattle.std.proofs.Common.{◌≡◌, ℕ, zero, suc, ◌<◌, Bool, true, List, [], ◌∷◌, map, length, get_or, Option, None, Some, refl, sym, ap, ◌∙◌, arith}
use Rattle.cf_syntax.specs.declared.declarator.DeclTree.{DeclTree, roll-DeclTree}
use Rattle.cf_syntax.specs.declared.declarator.DeclTree.TheOpen.{DeclTree-F}
use Rattle.cf_syntax.specs.declared.declarator.DeclTree.TheFolds.{fold-roll-DeclTree, fold_out-Param, fold_out-TypeId, map-DeclTree}
use Rattle.cf_syntax.specs.declared.declarator.DeclTree.TheVariants as tree
use Rattle.cf_syntax.specs.declared.declarator.Param.{Param, Param-F, out-Param, map-Param}
use Rattle.cf_syntax.specs.declared.declarator.TypeId.{TypeId, out-TypeId}
use Rattle.cf_syntax.specs.declared.expression.Expr.{Expr}
use Rattle.cf_syntax.specs.declared.name.Name.{Name as WrittenName}
use Rattle.cf_syntax.specs.declared.specifier.Pointer.{Pointer}
use Rattle.cf_syntax.specs.declared.specifier.Pointer.TheVariants as pointer
use Rattle.cf_syntax.specs.declared.specifier.TypeSpecifier.{TypeSpecifier}
use Rattle.cf_elab.specs.Built as built
use Rattle.cf_elab.specs.Built.{Place, first, first_of}
use Rattle.cf_elab_shape.specs.Shapes.Seen.{is_built as has_shape}
use Rattle.cf_elab_expr.specs.Shut.{IsBuilt, BoundIsBuilt, TreeIsBuilt, ParameterIsBuilt, ParametersAreBuilt, TypeIsBuilt, parameter_place, type_place}
use Rattle.cf_elab_expr.proofs.BuiltForms.{left, right}

seen : (x : DeclTree-F DeclTree Expr Param TypeId)
    → built.declarator (roll-DeclTree x) ≡ built.tree_step (map-DeclTree DeclTree Expr Param TypeId Place Place Place Place built.declarator built.expression parameter_place type_place x)
seen x = fold-roll-DeclTree Place Place Place Place built.tree_step built.expression_step built.param_step built.type_step x

-- ---- declarators

pub declared_name : (n : WrittenName) → TreeIsBuilt (tree.Declared n) → built.of_name n ≡ None
unfolding TreeIsBuilt roll-DeclTree denote.Hole.Carrier.roll
declared_name n h = sym (seen (DeclTree-F.Declared n)) ∙ h

no_member : (p : Pointer) → built.of_pointer p ≡ None → has_shape p ≡ true
no_member (pointer.To at c) h = refl
no_member (pointer.Reference at) h = refl
no_member (pointer.ToMember at path c) h = cc

module _ (p : Pointer) (d : DeclTree) (h : TreeIsBuilt (tree.Pointed p d)) where
  pub pointed_by : has_shape p ≡ true
  unfolding TreeIsBuilt roll-DeclTree denote.Hole.Carrier.roll
  pointed_by = no_member p (left (built.of_pointer p) (built.declarator d) (sym (seen (DeclTree-F.Pointed p d)) ∙ h))

  pub pointed_inside : TreeIsBuilt d
  unfolding TreeIsBuilt roll-DeclTree denote.Hole.Carrier.roll
  pointed_inside = right (built.of_pointer p) (built.declarator d) (sym (seen (DeclTree-F.Pointed p d)) ∙ h)

pub bracketed_inside : (at : ℕ) (d : DeclTree) → TreeIsBuilt (tree.Bracketed at d) → TreeIsBuilt d
unfolding TreeIsBuilt roll-DeclTree denote.Hole.Carrier.roll
bracketed_inside at d h = sym (seen (DeclTree-F.Bracketed at d)) ∙ h

module _ (at : ℕ) (d : DeclTree) (ps : List Param) (c : Bool) (h : TreeIsBuilt (tree.Function at d ps c)) where
  pub function_inside : TreeIsBuilt d
  unfolding TreeIsBuilt roll-DeclTree denote.Hole.Carrier.roll
  function_inside = left (built.declarator d) (first_of (map parameter_place ps)) (sym (seen (DeclTree-F.Function at d ps c)) ∙ h)

  pub function_parameters : ParametersAreBuilt ps
  unfolding TreeIsBuilt ParametersAreBuilt roll-DeclTree denote.Hole.Carrier.roll
  function_parameters = right (built.declarator d) (first_of (map parameter_place ps)) (sym (seen (DeclTree-F.Function at d ps c)) ∙ h)

pub array_inside : (at : ℕ) (d : DeclTree) (b : Option Expr) → TreeIsBuilt (tree.Array at d b) → TreeIsBuilt d
unfolding TreeIsBuilt roll-DeclTree denote.Hole.Carrier.roll
array_inside at d None h = left (built.declarator d) None (sym (seen (DeclTree-F.Array at d None)) ∙ h)
array_inside at d (Some e) h = left (built.declarator d) (built.expression e) (sym (seen (DeclTree-F.Array at d (Some e))) ∙ h)

pub array_bound : (at : ℕ) (d : DeclTree) (b : Option Expr) → TreeIsBuilt (tree.Array at d b) → BoundIsBuilt b
unfolding TreeIsBuilt BoundIsBuilt roll-DeclTree denote.Hole.Carrier.roll
array_bound at d None h = refl
array_bound at d (Some e) h = right (built.declarator d) (built.expression e) (sym (seen (DeclTree-F.Array at d (Some e))) ∙ h)

pub bound_inside : (e : Expr) → BoundIsBuilt (Some e) → IsBuilt e
unfolding BoundIsBuilt IsBuilt
bound_inside e h = h

-- ---- parameters

-- a default argument, at its `=`
abbrev given_place : Option (ℕ × Expr) → Place
given_place None = None
given_place (Some d) = Some d.0

abbrev layer : ℕ → List TypeSpecifier → DeclTree → Option (ℕ × Expr) → Param-F DeclTree Expr Param TypeId
layer at ss d g = record { at = at; specifiers = ss; declarator = d; default = g }

layer_place : (at : ℕ) (ss : List TypeSpecifier) (d : DeclTree) (g : Option (ℕ × Expr))
    → built.param_step (map-Param DeclTree Expr Param TypeId Place Place Place Place built.declarator built.expression parameter_place type_place (layer at ss d g))
    ≡ first (built.of_specifiers ss) (first (built.declarator d) (given_place g))
layer_place at ss d None = refl
layer_place at ss d (Some g) = refl

module _ (p : Param) (h : ParameterIsBuilt p) where
  abbrev x : Param-F DeclTree Expr Param TypeId
  x = out-Param p

  parts : first (built.of_specifiers x.specifiers) (first (built.declarator x.declarator) (given_place x.default)) ≡ None
  unfolding ParameterIsBuilt
  parts =
      sym (layer_place x.at x.specifiers x.declarator x.default)
      ∙ sym (fold_out-Param Place Place Place Place built.tree_step built.expression_step built.param_step built.type_step p) ∙ h

  behind : first (built.declarator x.declarator) (given_place x.default) ≡ None
  behind = right (built.of_specifiers x.specifiers) (first (built.declarator x.declarator) (given_place x.default)) parts

  pub parameter_specifiers : built.of_specifiers (out-Param p).specifiers ≡ None
  parameter_specifiers = left (built.of_specifiers x.specifiers) (first (built.declarator x.declarator) (given_place x.default)) parts

  pub parameter_tree : TreeIsBuilt (out-Param p).declarator
  unfolding TreeIsBuilt
  parameter_tree = left (built.declarator x.declarator) (given_place x.default) behind

  pub no_default : (out-Param p).default ≡ None
  no_default = by x.default (right (built.declarator x.declarator) (given_place x.default) behind)
    where
      by : (d : Option (ℕ × Expr)) → given_place d ≡ None → d ≡ None
      by None h = refl
      by (Some d) h = cc

-- each of several
pub one_parameter : (ps : List Param) (i : ℕ) (p : Param) → ParametersAreBuilt ps → i < length ps → p ≡ get_or ps i p → ParameterIsBuilt p
unfolding ParametersAreBuilt ParameterIsBuilt
one_parameter [] i p h lt is = absurd (omega arith)
one_parameter (x ∷ ps) zero p h lt is = ap parameter_place is ∙ left (parameter_place x) (first_of (map parameter_place ps)) h
one_parameter (x ∷ ps) (suc i) p h lt is = one_parameter ps i p (right (parameter_place x) (first_of (map parameter_place ps)) h) (omega arith) is

-- ---- types in brackets

module _ (t : TypeId) (h : TypeIsBuilt t) where
  whole : first (built.of_specifiers (out-TypeId t).specifiers) (built.declarator (out-TypeId t).declarator) ≡ None
  unfolding TypeIsBuilt
  whole = sym (fold_out-TypeId Place Place Place Place built.tree_step built.expression_step built.param_step built.type_step t) ∙ h

  pub type_specifiers : built.of_specifiers (out-TypeId t).specifiers ≡ None
  type_specifiers = left (built.of_specifiers (out-TypeId t).specifiers) (built.declarator (out-TypeId t).declarator) whole

  pub type_tree : TreeIsBuilt (out-TypeId t).declarator
  unfolding TreeIsBuilt
  type_tree = right (built.of_specifiers (out-TypeId t).specifiers) (built.declarator (out-TypeId t).declarator) whole

-- as `built.declarator` says it
pub tree_is_built : (d : DeclTree) → built.declarator d ≡ None → TreeIsBuilt d
unfolding TreeIsBuilt
tree_is_built d h = h

pub ruleset type_parts = (type_specifiers, type_tree)

pub ruleset parameter_parts = (parameter_specifiers, parameter_tree)
