-- Names in declarators that are built, and the parameters that a declarator has (8.1, 8.2).
use Rattle.std.proofs.Common.{◌≡◌, ℕ, Bool, true, false, if◌then◌else◌, List, [], ◌∷◌, map, Option, Some, None, refl, sym, ap, subst, ◌∙◌}
use Rattle.cf_syntax.specs.declared.declarator.DeclTree.{DeclTree, roll-DeclTree, ind-DeclTree}
use Rattle.cf_syntax.specs.declared.declarator.DeclTree.TheOpen.{DeclTree-F, Expr-F}
use Rattle.cf_syntax.specs.declared.declarator.DeclTree.TheFolds.{fold-roll-DeclTree, map-DeclTree, map-Expr}
use Rattle.cf_syntax.specs.declared.declarator.Param.{Param, Param-F, fold-Param, roll-Param, map-Param}
use Rattle.cf_syntax.specs.declared.declarator.TypeId.{TypeId, TypeId-F, fold-TypeId, roll-TypeId, map-TypeId}
use Rattle.cf_syntax.specs.declared.expression.Expr.{Expr, roll-Expr}
use Rattle.cf_syntax.specs.declared.name.Name.{Name as WrittenName}
use Rattle.cf_elab.specs.Answer.{Elab}
use Rattle.cf_elab.specs.Built as built
use Rattle.cf_elab.specs.Built.{Place}
use Rattle.cf_elab.specs.Declarator.{Declared, declared_step, parameter_step, type_id_step}
use Rattle.cf_elab.specs.Env.{Env, Name}
use Rattle.cf_elab.specs.Expression.{elaborated, declared, expression_step}
use Rattle.cf_elab.specs.Operand.{Part}
use Rattle.cf_elab.specs.Shape.{Parameter, Shape, inner, pointing, referring, to_member, taking, holding, is_inner, function_of}
use Rattle.cf_elab_valid.proofs.Named.{first-none}
use Rattle.cf_elab_valid.proofs.Options.{none_some, some_is, never_none}
use Rattle.cf_elab_valid.proofs.Shapes.{NoDefaults, ParametersThere, IsPlainShape, ShapeThere}

-- ---- the name

abbrev parameter : Param → Elab Parameter
parameter = fold-Param Declared Part (Elab Parameter) (Elab ℕ) declared_step expression_step parameter_step type_id_step

abbrev type_of : TypeId → Elab ℕ
type_of = fold-TypeId Declared Part (Elab Parameter) (Elab ℕ) declared_step expression_step parameter_step type_id_step

abbrev parameter_place : Param → Place
parameter_place = fold-Param Place Place Place Place built.tree_step built.expression_step built.param_step built.type_step

abbrev type_place : TypeId → Place
type_place = fold-TypeId Place Place Place Place built.tree_step built.expression_step built.param_step built.type_step

abbrev P-tree : DeclTree → Type 0
P-tree d = built.declarator d ≡ None → (n : WrittenName) → (declared d).name ≡ Some n → built.of_name n ≡ None

abbrev P-expr : Expr → Type 0
P-expr x = Unit {0}

abbrev P-param : Param → Type 0
P-param p = Unit {0}

abbrev P-type : TypeId → Type 0
P-type t = Unit {0}

abbrev Tree : Type 0
Tree = (d : DeclTree) × P-tree d

abbrev Expression : Type 0
Expression = (x : Expr) × P-expr x

abbrev Parametered : Type 0
Parametered = (p : Param) × P-param p

abbrev Typing : Type 0
Typing = (t : TypeId) × P-type t

abbrev tree_of : DeclTree-F Tree Expression Parametered Typing → DeclTree-F DeclTree Expr Param TypeId
tree_of y = map-DeclTree Tree Expression Parametered Typing DeclTree Expr Param TypeId (λ (x : Tree). x.0) (λ (x : Expression). x.0) (λ (x : Parametered). x.0) (λ (x : Typing). x.0) y

tree-layer : (y : DeclTree-F Tree Expression Parametered Typing)
    → built.tree_step (map-DeclTree DeclTree Expr Param TypeId Place Place Place Place built.declarator built.expression parameter_place type_place (tree_of y)) ≡ None
    → (n : WrittenName) → (declared_step (map-DeclTree DeclTree Expr Param TypeId Declared Part (Elab Parameter) (Elab ℕ) declared elaborated parameter type_of (tree_of y))).name ≡ Some n → built.of_name n ≡ None
tree-layer DeclTree-F.Unnamed b n is = absurd (none_some n is)
tree-layer (DeclTree-F.Declared m) b n is = subst (λ x. built.of_name x ≡ None) (some_is m n is) b
tree-layer (DeclTree-F.Pointed p d) b n is = d.1 (first-none (built.of_pointer p) (built.declarator d.0) b).1 n is
tree-layer (DeclTree-F.Bracketed at d) b n is = d.1 b n is
tree-layer (DeclTree-F.Function at d ps q) b n is = d.1 (first-none (built.declarator d.0) (built.first_of (map parameter_place (map (λ (x : Parametered). x.0) ps))) b).0 n is
tree-layer (DeclTree-F.Array at d None) b n is = d.1 (first-none (built.declarator d.0) None b).0 n is
tree-layer (DeclTree-F.Array at d (Some x)) b n is = d.1 (first-none (built.declarator d.0) (built.expression x.0) b).0 n is

tree-step : (x : DeclTree-F DeclTree Expr Param TypeId) (y : DeclTree-F Tree Expression Parametered Typing) → tree_of y ≡ x → P-tree (roll-DeclTree x)
tree-step x y is = subst (λ z. P-tree (roll-DeclTree z)) is (λ b n named.
    tree-layer y (sym (fold-roll-DeclTree Place Place Place Place built.tree_step built.expression_step built.param_step built.type_step (tree_of y)) ∙ b) n
    (ap (λ (d : Declared). d.name) (sym (fold-roll-DeclTree Declared Part (Elab Parameter) (Elab ℕ) declared_step expression_step parameter_step type_id_step (tree_of y))) ∙ named))

-- the declared name is an identifier without a class before it
pub name-built : (d : DeclTree) → P-tree d
name-built = ind-DeclTree P-tree P-expr P-param P-type tree-step (λ x y is. tt) (λ x y is. tt) (λ x y is. tt)

pub no-scopes : (n : WrittenName) → built.of_name n ≡ None → n.scopes ≡ []
no-scopes n b = by n.from_file n.scopes b
  where
    by : (file : Bool) (scopes : List Name) → (if built.is_qualified file scopes then Some n.at else built.of_last n.at n.last) ≡ None → scopes ≡ []
    by file [] q = refl
    by true (x ∷ xs) q = never_none n.at q
    by false (x ∷ xs) q = never_none n.at q

-- ---- the parameters

pub function-plain : (x : Shape) (ps : List Parameter) → function_of x ≡ Some ps → IsPlainShape x → NoDefaults ps
function-plain inner ps is p = absurd (none_some ps is)
function-plain (pointing at c x) ps is p = function-plain x ps is p
function-plain (referring at x) ps is p = function-plain x ps is p
function-plain (to_member at c k x) ps is p = absurd p
function-plain (holding at b x) ps is p = function-plain x ps is p
function-plain (taking at qs c x) ps is p = by (λ q. function-plain x ps q p.1) (is_inner x) is
  where
    by : (function_of x ≡ Some ps → NoDefaults ps) → (b : Bool) → (if b then Some qs else function_of x) ≡ Some ps → NoDefaults ps
    by rest true q = subst NoDefaults (some_is qs ps q) p.0
    by rest false q = rest q

pub function-params : (x : Shape) (ps : List Parameter) (e : Env) → function_of x ≡ Some ps → ShapeThere x e → ParametersThere ps e
function-params inner ps e is p = absurd (none_some ps is)
function-params (pointing at c x) ps e is p = function-params x ps e is p
function-params (referring at x) ps e is p = function-params x ps e is p
function-params (to_member at c k x) ps e is p = function-params x ps e is p
function-params (holding at b x) ps e is p = function-params x ps e is p
function-params (taking at qs c x) ps e is p = by (λ q. function-params x ps e q p.1) (is_inner x) is
  where
    by : (function_of x ≡ Some ps → ParametersThere ps e) → (b : Bool) → (if b then Some qs else function_of x) ≡ Some ps → ParametersThere ps e
    by rest true q = subst (λ l. ParametersThere l e) (some_is qs ps q) p.0
    by rest false q = rest q
