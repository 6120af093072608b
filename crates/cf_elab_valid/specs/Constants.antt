-- Trees whose constants are of their types (2.5), as all trees of texts are.
use Rattle.std.specs.Prelude.{Bool, true, ◌&&◌, List, pos, Option, None, Some}
use Rattle.std.specs.List.{list_all}
use Rattle.cf_base.specs.Integers.{fits}
use Rattle.cf_base.specs.declared.kind.Kind.TheVariants.{Char}
use Rattle.cf_syntax.specs.declared.declarator.DeclTree.{DeclTree, fold-DeclTree}
use Rattle.cf_syntax.specs.declared.declarator.DeclTree.TheOpen.{DeclTree-F, Expr-F}
use Rattle.cf_syntax.specs.declared.declarator.Param.{Param, Param-F, fold-Param}
use Rattle.cf_syntax.specs.declared.declarator.TypeId.{TypeId, TypeId-F, fold-TypeId}
use Rattle.cf_syntax.specs.declared.expression.Expr.{Expr, fold-Expr}

abbrev pub all_of : List Bool → Bool
all_of xs = list_all (λ (x : Bool). x) xs

abbrev pub maybe_of : Option Bool → Bool
maybe_of None = true
maybe_of (Some x) = x

abbrev pub tree_step : DeclTree-F Bool Bool Bool Bool → Bool
tree_step DeclTree-F.Unnamed = true
tree_step (DeclTree-F.Declared n) = true
tree_step (DeclTree-F.Pointed p d) = d
tree_step (DeclTree-F.Bracketed at d) = d
tree_step (DeclTree-F.Function at d ps c) = d && all_of ps
tree_step (DeclTree-F.Array at d b) = d && maybe_of b

abbrev pub expression_step : Expr-F Bool Bool Bool Bool → Bool
expression_step (Expr-F.Int at n k) = fits k (pos n)
expression_step (Expr-F.Char at z) = fits Char z
expression_step (Expr-F.Text at bytes) = true
expression_step (Expr-F.This at) = true
expression_step (Expr-F.Paren at a) = a
expression_step (Expr-F.Named n) = true
expression_step (Expr-F.BasicCall at b args) = all_of args
expression_step (Expr-F.TypeCall at path args) = all_of args
expression_step (Expr-F.Index at a b) = a && b
expression_step (Expr-F.Call at f args) = f && all_of args
expression_step (Expr-F.Dot at a n) = a
expression_step (Expr-F.Arrow at a n) = a
expression_step (Expr-F.StepAfter at op a) = a
expression_step (Expr-F.StepBefore at op a) = a
expression_step (Expr-F.Prefix at op a) = a
expression_step (Expr-F.SizeofExpr at a) = a
expression_step (Expr-F.SizeofType at t) = t
expression_step (Expr-F.Delete at file is_array a) = a
expression_step (Expr-F.New at file specifiers pointers bounds has_arguments args) = all_of bounds && all_of args
expression_step (Expr-F.NewBracketed at file t has_arguments args) = t && all_of args
expression_step (Expr-F.Cast at t a) = t && a
expression_step (Expr-F.Binary at op a b) = a && b
expression_step (Expr-F.Conditional at c a b) = c && a && b
expression_step (Expr-F.Assign at op a b) = a && b
expression_step (Expr-F.Comma at all) = all_of all

-- a default argument is none of the forms that are built
abbrev pub param_step : Param-F Bool Bool Bool Bool → Bool
param_step p = p.declarator

abbrev pub type_step : TypeId-F Bool Bool Bool Bool → Bool
type_step t = t.declarator

abbrev pub constants_fit : Expr → Bool
constants_fit = fold-Expr Bool Bool Bool Bool tree_step expression_step param_step type_step

abbrev pub declarator_fits : DeclTree → Bool
declarator_fits = fold-DeclTree Bool Bool Bool Bool tree_step expression_step param_step type_step

abbrev pub parameter_fits : Param → Bool
parameter_fits = fold-Param Bool Bool Bool Bool tree_step expression_step param_step type_step

abbrev pub type_id_fits : TypeId → Bool
type_id_fits = fold-TypeId Bool Bool Bool Bool tree_step expression_step param_step type_step
