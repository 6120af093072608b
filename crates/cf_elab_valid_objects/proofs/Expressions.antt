-- Every expression that is built leaves everything but types and literals (5).
use Rattle.std.proofs.Common.{◌≡◌, ℕ, true, false, ◌+◌, ◌++◌, length, if◌then◌else◌, List, [], ◌∷◌, map, pos, Option, Some, None, refl, sym, subst, ◌∙◌}
use Rattle.cf_base.specs.declared.kind.Kind.{Kind}
use Rattle.cf_base.specs.declared.kind.Kind.TheVariants as kind
use Rattle.cf_types.specs.declared.ty.Ty.TheVariants as ty
use Rattle.cf_syntax.specs.declared.declarator.DeclTree.{DeclTree, roll-DeclTree, ind-DeclTree}
use Rattle.cf_syntax.specs.declared.declarator.DeclTree.TheOpen.{DeclTree-F, Expr-F}
use Rattle.cf_syntax.specs.declared.declarator.DeclTree.TheFolds.{fold-roll-DeclTree, fold-roll-Expr, fold-roll-Param, fold-roll-TypeId, map-DeclTree, map-Expr}
use Rattle.cf_syntax.specs.declared.declarator.Param.{Param, Param-F, fold-Param, roll-Param, map-Param}
use Rattle.cf_syntax.specs.declared.declarator.TypeId.{TypeId, TypeId-F, fold-TypeId, roll-TypeId, ind-TypeId, map-TypeId}
use Rattle.cf_syntax.specs.declared.expression.Expr.{Expr, roll-Expr, ind-Expr}
use Rattle.cf_syntax.specs.declared.operator.BinaryOp.{BinaryOp}
use Rattle.cf_syntax.specs.declared.operator.BinaryOp.TheVariants as binary
use Rattle.cf_syntax.specs.declared.operator.PrefixOp.{PrefixOp}
use Rattle.cf_syntax.specs.declared.operator.PrefixOp.TheVariants as prefix
use Rattle.cf_syntax.specs.declared.specifier.TypeSpecifier.{TypeSpecifier}
use Rattle.cf_core.specs.declared.node.Core.TheVariants as node
use Rattle.cf_elab.specs.Answer.{Answer, Made, Elab, onward}
use Rattle.cf_elab.specs.Built as built
use Rattle.cf_elab.specs.Built.{Place}
use Rattle.cf_elab.specs.ClassOperators.{binary_operator, prefix_operator, step_operator, index_operator, assign_operator, cast_operator}
use Rattle.cf_elab.specs.Declarator.{Declared, declared_step, parameter_step, type_id_step}
use Rattle.cf_elab.specs.Env.{Env}
use Rattle.cf_elab.specs.Expression as row
use Rattle.cf_elab.specs.Expression.{elaborated, declared, expression_step, with_one, with_two}
use Rattle.cf_elab.specs.Made.{of_kind, array_of}
use Rattle.cf_elab.specs.Operand.{Value, Part, part, evaluated, constant, place_of as place_value}
use Rattle.cf_elab.specs.Paths.{type_at_path}
use Rattle.cf_elab.specs.Shape.{Parameter}
use Rattle.cf_elab.specs.Specifiers.{gathered, basic_word, base_type}
use Rattle.cf_elab.specs.Unary.{size_constant}
use Rattle.cf_elab_valid.specs.Scene.{Classless}
use Rattle.cf_elab_valid.proofs.Named.{first-none}
use Rattle.cf_elab_valid.proofs.Options.{never_none, some_is}
use Rattle.cf_elab_valid_objects.specs.Quiet.{Quiet, QuietIn, QuietOperand, IsQuietPart, AreQuietParts}
use Rattle.cf_elab_valid_objects.proofs.Calls.{call-quiet, built-quiet, conditional_row-quiet, comma-quiet, with_one-quiet, with_two-quiet}
use Rattle.cf_elab_valid_objects.proofs.Casts.{cast_operator-quiet, size_constant-quiet}
use Rattle.cf_elab_valid_objects.proofs.Conversions.{evaluated-quiet}
use Rattle.cf_elab_valid_objects.proofs.Names.{identifier-quiet, alone-name, path-quiet, base-quiet}
use Rattle.cf_elab_valid_objects.proofs.Operators.{prefix_operator-quiet, step_operator-quiet, index_operator-quiet, binary_operator-quiet, assign_operator-quiet}
use Rattle.cf_elab_valid_objects.proofs.Shapes.{IsQuietShape, IsQuiet, AreQuiet, inner-quiet, pointed-quiet, function-quiet, array-quiet, parameter-quiet, type-quiet}
use Rattle.cf_elab_valid_objects.proofs.Steps.{quiet-none, quiet-classless, quiet-before, quiet-onward, shown-onward, one-quiet, of_kind-quiet, intern-quiet, counted-quiet}

abbrev parameter : Param → Elab Parameter
parameter = fold-Param Declared Part (Elab Parameter) (Elab ℕ) declared_step expression_step parameter_step type_id_step

abbrev type_of : TypeId → Elab ℕ
type_of = fold-TypeId Declared Part (Elab Parameter) (Elab ℕ) declared_step expression_step parameter_step type_id_step

abbrev parameter_place : Param → Place
parameter_place = fold-Param Place Place Place Place built.tree_step built.expression_step built.param_step built.type_step

abbrev type_place : TypeId → Place
type_place = fold-TypeId Place Place Place Place built.tree_step built.expression_step built.param_step built.type_step

-- a part by itself
pub record IsWhole (p : Part) : Type 0 where
  pub part : IsQuietPart p
  pub alone : p.of_class ≡ None

whole : (p : Part) → p.of_class ≡ None → ((e : Env) → Classless e → QuietOperand e (p.run e)) → IsWhole p
whole p is q = record { part = record { run = q }; alone = is }

-- ---- constants

kind-quiet : (k : Kind) (make : ℕ → Value) (e : Env) → Classless e → QuietIn e (onward (of_kind k e) (λ t f. Made (make t) f))
kind-quiet k make e c = quiet-onward e (of_kind k e) (λ t f. Made (make t) f) c (of_kind-quiet k e c) (λ t f cf. quiet-none f cf)

pub literal-quiet : (at : ℕ) (bytes : List ℕ) (e : Env) → Classless e → QuietOperand e (row.literal at bytes e)
literal-quiet at bytes e c =
    let begun : Env = record e { hand = record e.hand { literals = e.hand.literals + 1 } } in
    let q : Quiet e begun = counted-quiet (e.hand.literals + 1) e c in
    one-quiet e (onward (of_kind kind.Char begun) (sized e.hand.literals))
    (quiet-before e begun (onward (of_kind kind.Char begun) (sized e.hand.literals)) q
    (quiet-onward begun (of_kind kind.Char begun) (sized e.hand.literals) (quiet-classless e begun c q) (of_kind-quiet kind.Char begun (quiet-classless e begun c q))
    (λ ch f cf. intern-quiet (ty.Array ch (length bytes + 1)) f refl cf)))
  where
    sized : ℕ → ℕ → Env → Answer Value
    sized j ch k = onward (array_of ch (length bytes + 1) k) (λ t x. Made (place_value at (node.Text at j (bytes ++ 0 ∷ [])) t true) x)

-- ---- constructs on one part, and on two

one-part : (a : Part) (go : Value → Elab Value) → IsQuietPart a → ((x : Value) (f : Env) → Classless f → QuietIn f (go x f)) → IsWhole (part (with_one a go))
one-part a go k next = record { part = record { run = λ e c. with_one-quiet a go e k next c }; alone = refl }

two-parts : (a b : Part) (go : Value → Value → Elab Value) → IsQuietPart a → IsQuietPart b → ((x y : Value) (f : Env) → Classless f → QuietIn f (go x y f)) → IsWhole (part (with_two a b go))
two-parts a b go k l next = record { part = record { run = λ e c. with_two-quiet a b go e k l next c }; alone = refl }

prefix-whole : (at : ℕ) (op : PrefixOp) (a : Part) → IsWhole a → IsWhole (part (row.prefix_row at op a))
prefix-whole at op a k = by op
  where
    plain : (o : PrefixOp) → IsWhole (part (with_one a (prefix_operator at o)))
    plain o = one-part a (prefix_operator at o) k.part (λ x f cf. prefix_operator-quiet at o x f cf)

    by : (o : PrefixOp) → IsWhole (part (row.prefix_row at o a))
    by prefix.AddressOf = subst (λ c. IsWhole (part (row.address_row at a c))) (sym k.alone) (plain prefix.AddressOf)
    by o = plain o

binary-whole : (at : ℕ) (op : BinaryOp) (a b : Part) → built.of_binary at op ≡ None → IsQuietPart a → IsQuietPart b → IsWhole (part (row.binary_row at op a b))
binary-whole at binary.DotStar a b h k l = never_none at h
binary-whole at binary.ArrowStar a b h k l = never_none at h
binary-whole at op a b h k l = two-parts a b (binary_operator at op) k l (λ x y f cf. binary_operator-quiet at op x y f cf)

-- ---- types in an expression

sized-type : (at : ℕ) (t : Elab ℕ) → IsQuiet t → IsWhole (part (λ e. onward (t e) (λ u. row.one (size_constant at u))))
sized-type at t k = record { part = record { run = λ e c. shown-onward e (t e) _ c (k.fine e c) (λ u f cf. one-quiet f (size_constant at u f) (size_constant-quiet at u f cf)) }; alone = refl }

-- the literals of the operand are none of the function's
sized-part : (at : ℕ) (a : Part) → IsQuietPart a → IsWhole (part (row.size_of_part at a))
sized-part at a k = record { part = record { run = λ e c. shown-onward e (evaluated a e) _ c (evaluated-quiet a e k c) (λ v f cf. again e v f cf) }; alone = refl }
  where
    again : (e : Env) (v : Value) (f : Env) → Classless f → QuietOperand f (row.one (size_constant at v.type) (record f { hand = record f.hand { literals = e.hand.literals } }))
    again e v f cf =
        let back : Env = record f { hand = record f.hand { literals = e.hand.literals } } in
        let q : Quiet f back = counted-quiet e.hand.literals f cf in
        shown-onward f (Made v back) (λ x. row.one (size_constant at x.type)) cf q (λ x g cg. one-quiet g (size_constant at x.type g) (size_constant-quiet at x.type g cg))

cast-whole : (at : ℕ) (t : Elab ℕ) (a : Part) → IsQuiet t → IsQuietPart a → IsWhole (part (λ e. onward (t e) (λ u. with_one a (cast_operator at u))))
cast-whole at t a k l = record { part = record { run = λ e c. shown-onward e (t e) _ c (k.fine e c) (λ u f cf. with_one-quiet a (cast_operator at u) f l (λ x g cg. cast_operator-quiet at u x g cg) cf) }; alone = refl }

-- ---- all forms

abbrev P-tree : DeclTree → Type 0
P-tree d = built.declarator d ≡ None → IsQuietShape (declared d).shape

abbrev P-expr : Expr → Type 0
P-expr x = built.expression x ≡ None → IsWhole (elaborated x)

abbrev P-param : Param → Type 0
P-param p = parameter_place p ≡ None → IsQuiet (parameter p)

abbrev P-type : TypeId → Type 0
P-type t = type_place t ≡ None → IsQuiet (type_of t)

abbrev Tree : Type 0
Tree = (d : DeclTree) × P-tree d

abbrev Expression : Type 0
Expression = (x : Expr) × P-expr x

abbrev Parametered : Type 0
Parametered = (p : Param) × P-param p

abbrev Typing : Type 0
Typing = (t : TypeId) × P-type t

-- several expressions
parts-of : (es : List Expression) → built.first_of (map built.expression (map (λ (x : Expression). x.0) es)) ≡ None
    → AreQuietParts (map elaborated (map (λ (x : Expression). x.0) es))
parts-of [] b = tt
parts-of (x ∷ xs) b = let split = first-none (built.expression x.0) (built.first_of (map built.expression (map (λ (y : Expression). y.0) xs))) b in ((x.1 split.0).part, parts-of xs split.1)

parameters-of : (ps : List Parametered) → built.first_of (map parameter_place (map (λ (x : Parametered). x.0) ps)) ≡ None
    → AreQuiet (map parameter (map (λ (x : Parametered). x.0) ps))
parameters-of [] b = tt
parameters-of (x ∷ xs) b = let split = first-none (parameter_place x.0) (built.first_of (map parameter_place (map (λ (y : Parametered). y.0) xs))) b in (x.1 split.0, parameters-of xs split.1)

-- the trees of a layer alone
abbrev expr_of : Expr-F Tree Expression Parametered Typing → Expr-F DeclTree Expr Param TypeId
expr_of y = map-Expr Tree Expression Parametered Typing DeclTree Expr Param TypeId (λ (x : Tree). x.0) (λ (x : Expression). x.0) (λ (x : Parametered). x.0) (λ (x : Typing). x.0) y

abbrev tree_of : DeclTree-F Tree Expression Parametered Typing → DeclTree-F DeclTree Expr Param TypeId
tree_of y = map-DeclTree Tree Expression Parametered Typing DeclTree Expr Param TypeId (λ (x : Tree). x.0) (λ (x : Expression). x.0) (λ (x : Parametered). x.0) (λ (x : Typing). x.0) y

abbrev elaborates : Expr-F DeclTree Expr Param TypeId → Part
elaborates x = expression_step (map-Expr DeclTree Expr Param TypeId Declared Part (Elab Parameter) (Elab ℕ) declared elaborated parameter type_of x)

abbrev place_of : Expr-F DeclTree Expr Param TypeId → Place
place_of x = built.expression_step (map-Expr DeclTree Expr Param TypeId Place Place Place Place built.declarator built.expression parameter_place type_place x)

expr-layer : (y : Expr-F Tree Expression Parametered Typing) → place_of (expr_of y) ≡ None → IsWhole (elaborates (expr_of y))
expr-layer (Expr-F.Int at n k) b = whole (part (row.integer at (pos n) k)) refl (λ e c. one-quiet e (onward (of_kind k e) (λ t f. Made (constant at (pos n) t) f)) (kind-quiet k (constant at (pos n)) e c))
expr-layer (Expr-F.Char at z) b = whole (part (row.integer at z kind.Char)) refl (λ e c. one-quiet e (onward (of_kind kind.Char e) (λ t f. Made (constant at z t) f)) (kind-quiet kind.Char (constant at z) e c))
expr-layer (Expr-F.Text at bytes) b = record { part = record { run = λ e c. literal-quiet at bytes e c }; alone = refl }
expr-layer (Expr-F.This at) b = never_none at b
expr-layer (Expr-F.Paren at a) b = record { part = record { run = (a.1 b).part.run }; alone = refl }
expr-layer (Expr-F.Named n) b = record { part = record { run = λ e c. identifier-quiet n e b c }; alone = alone-name n b }
expr-layer (Expr-F.BasicCall at x args) b =
    record {
      part = record {
        run = λ e c. built-quiet at (base_type (gathered (basic_word at x ∷ []))) (map elaborated (map (λ (y : Expression). y.0) args)) e (λ f cf. base-quiet (gathered (basic_word at x ∷ [])) f cf) (parts-of args b) c;
      };
      alone = refl;
    }
expr-layer (Expr-F.TypeCall at path args) b =
    let split = first-none (built.of_path path) (built.first_of (map built.expression (map (λ (y : Expression). y.0) args))) b in
    record { part = record { run = λ e c. built-quiet at (type_at_path path) (map elaborated (map (λ (y : Expression). y.0) args)) e (λ f cf. path-quiet path f split.0 cf) (parts-of args split.1) c }; alone = refl }
expr-layer (Expr-F.Index at x y) b =
    let split = first-none (built.expression x.0) (built.expression y.0) b in
    two-parts (elaborated x.0) (elaborated y.0) (index_operator at) (x.1 split.0).part (y.1 split.1).part (λ u v f cf. index_operator-quiet at u v f cf)
expr-layer (Expr-F.Call at g args) b =
    let split = first-none (built.expression g.0) (built.first_of (map built.expression (map (λ (y : Expression). y.0) args))) b in
    record { part = record { run = λ e c. call-quiet at (elaborated g.0) (map elaborated (map (λ (y : Expression). y.0) args)) e (g.1 split.0).part (parts-of args split.1) c }; alone = refl }
expr-layer (Expr-F.Dot at a n) b = never_none at (first-none (Some at) (built.expression a.0) b).0
expr-layer (Expr-F.Arrow at a n) b = never_none at (first-none (Some at) (built.expression a.0) b).0
expr-layer (Expr-F.StepAfter at op a) b = one-part (elaborated a.0) (step_operator at op true) (a.1 b).part (λ x f cf. step_operator-quiet at op true x f cf)
expr-layer (Expr-F.StepBefore at op a) b = one-part (elaborated a.0) (step_operator at op false) (a.1 b).part (λ x f cf. step_operator-quiet at op false x f cf)
expr-layer (Expr-F.Prefix at op a) b = prefix-whole at op (elaborated a.0) (a.1 b)
expr-layer (Expr-F.SizeofExpr at a) b = sized-part at (elaborated a.0) (a.1 b).part
expr-layer (Expr-F.SizeofType at t) b = sized-type at (type_of t.0) (t.1 b)
expr-layer (Expr-F.Delete at file many a) b = never_none at b
expr-layer (Expr-F.New at file specifiers pointers bounds has args) b = never_none at b
expr-layer (Expr-F.NewBracketed at file t has args) b = never_none at b
expr-layer (Expr-F.Cast at t a) b = let split = first-none (type_place t.0) (built.expression a.0) b in cast-whole at (type_of t.0) (elaborated a.0) (t.1 split.0) (a.1 split.1).part
expr-layer (Expr-F.Binary at op x y) b =
    let split = first-none (built.of_binary at op) (built.first (built.expression x.0) (built.expression y.0)) b in
    let sides = first-none (built.expression x.0) (built.expression y.0) split.1 in
    binary-whole at op (elaborated x.0) (elaborated y.0) split.0 (x.1 sides.0).part (y.1 sides.1).part
expr-layer (Expr-F.Conditional at q x y) b =
    let split = first-none (built.expression q.0) (built.first (built.expression x.0) (built.expression y.0)) b in
    let sides = first-none (built.expression x.0) (built.expression y.0) split.1 in
    record { part = record { run = λ e c. conditional_row-quiet at (elaborated q.0) (elaborated x.0) (elaborated y.0) e (q.1 split.0).part (x.1 sides.0).part (y.1 sides.1).part c }; alone = refl }
expr-layer (Expr-F.Assign at op x y) b =
    let split = first-none (built.expression x.0) (built.expression y.0) b in
    two-parts (elaborated x.0) (elaborated y.0) (assign_operator at op) (x.1 split.0).part (y.1 split.1).part (λ u v f cf. assign_operator-quiet at op u v f cf)
expr-layer (Expr-F.Comma at all) b = record { part = record { run = λ e c. comma-quiet at (map elaborated (map (λ (y : Expression). y.0) all)) e (parts-of all b) c }; alone = refl }

tree-layer : (y : DeclTree-F Tree Expression Parametered Typing)
    → built.tree_step (map-DeclTree DeclTree Expr Param TypeId Place Place Place Place built.declarator built.expression parameter_place type_place (tree_of y)) ≡ None
    → IsQuietShape (declared_step (map-DeclTree DeclTree Expr Param TypeId Declared Part (Elab Parameter) (Elab ℕ) declared elaborated parameter type_of (tree_of y))).shape
tree-layer DeclTree-F.Unnamed b = inner-quiet
tree-layer (DeclTree-F.Declared n) b = inner-quiet
tree-layer (DeclTree-F.Pointed p d) b = let split = first-none (built.of_pointer p) (built.declarator d.0) b in pointed-quiet p (declared d.0).shape split.0 (d.1 split.1)
tree-layer (DeclTree-F.Bracketed at d) b = d.1 b
tree-layer (DeclTree-F.Function at d ps q) b =
    let split = first-none (built.declarator d.0) (built.first_of (map parameter_place (map (λ (x : Parametered). x.0) ps))) b in
    function-quiet at (declared d.0).shape (map parameter (map (λ (x : Parametered). x.0) ps)) q (d.1 split.0) (parameters-of ps split.1)
tree-layer (DeclTree-F.Array at d None) b =
    let split = first-none (built.declarator d.0) None b in
    array-quiet at (declared d.0).shape None (d.1 split.0) (λ p is. never_none p (sym is))
tree-layer (DeclTree-F.Array at d (Some x)) b =
    let split = first-none (built.declarator d.0) (built.expression x.0) b in
    array-quiet at (declared d.0).shape (Some (elaborated x.0)) (d.1 split.0) (λ p is. subst IsQuietPart (some_is (elaborated x.0) p is) (x.1 split.1).part)

-- ---- parameters and types in brackets

abbrev param_of : Param-F Tree Expression Parametered Typing → Param-F DeclTree Expr Param TypeId
param_of y = map-Param Tree Expression Parametered Typing DeclTree Expr Param TypeId (λ (x : Tree). x.0) (λ (x : Expression). x.0) (λ (x : Parametered). x.0) (λ (x : Typing). x.0) y

abbrev type_layer_of : TypeId-F Tree Expression Parametered Typing → TypeId-F DeclTree Expr Param TypeId
type_layer_of y = map-TypeId Tree Expression Parametered Typing DeclTree Expr Param TypeId (λ (x : Tree). x.0) (λ (x : Expression). x.0) (λ (x : Parametered). x.0) (λ (x : Typing). x.0) y

abbrev ParamLayer : Param-F Tree Expression Parametered Typing → Type 0
ParamLayer y =
    built.param_step (map-Param DeclTree Expr Param TypeId Place Place Place Place built.declarator built.expression parameter_place type_place (param_of y)) ≡ None
    → IsQuiet (parameter_step (map-Param DeclTree Expr Param TypeId Declared Part (Elab Parameter) (Elab ℕ) declared elaborated parameter type_of (param_of y)))

param-at : (at : ℕ) (ss : List TypeSpecifier) (d : Tree) (o : Option (ℕ × Expression)) → ParamLayer (record { at = at; specifiers = ss; declarator = d; default = o })
param-at at ss d None b =
    let split = first-none (built.of_specifiers ss) (built.first (built.declarator d.0) None) b in
    parameter-quiet ss (declared d.0).shape split.0 (d.1 (first-none (built.declarator d.0) None split.1).0) at (declared d.0).name
param-at at ss d (Some x) b =
    let split = first-none (built.of_specifiers ss) (built.first (built.declarator d.0) (Some x.0)) b in
    never_none x.0 (first-none (built.declarator d.0) (Some x.0) split.1).1

param-layer : (y : Param-F Tree Expression Parametered Typing) → ParamLayer y
param-layer y = param-at y.at y.specifiers y.declarator y.default

type-layer : (y : TypeId-F Tree Expression Parametered Typing)
    → built.type_step (map-TypeId DeclTree Expr Param TypeId Place Place Place Place built.declarator built.expression parameter_place type_place (type_layer_of y)) ≡ None
    → IsQuiet (type_id_step (map-TypeId DeclTree Expr Param TypeId Declared Part (Elab Parameter) (Elab ℕ) declared elaborated parameter type_of (type_layer_of y)))
type-layer y b = let split = first-none (built.of_specifiers y.specifiers) (built.declarator y.declarator.0) b in type-quiet y.specifiers (declared y.declarator.0).shape split.0 (y.declarator.1 split.1)

-- ---- the whole

tree-step : (x : DeclTree-F DeclTree Expr Param TypeId) (y : DeclTree-F Tree Expression Parametered Typing) → tree_of y ≡ x → P-tree (roll-DeclTree x)
tree-step x y is = subst (λ z. P-tree (roll-DeclTree z)) is (λ b.
    subst (λ (d : Declared). IsQuietShape d.shape) (sym (fold-roll-DeclTree Declared Part (Elab Parameter) (Elab ℕ) declared_step expression_step parameter_step type_id_step (tree_of y)))
    (tree-layer y (sym (fold-roll-DeclTree Place Place Place Place built.tree_step built.expression_step built.param_step built.type_step (tree_of y)) ∙ b)))

expr-step : (x : Expr-F DeclTree Expr Param TypeId) (y : Expr-F Tree Expression Parametered Typing) → expr_of y ≡ x → P-expr (roll-Expr x)
expr-step x y is = subst (λ z. P-expr (roll-Expr z)) is (λ b.
    subst IsWhole (sym (fold-roll-Expr Declared Part (Elab Parameter) (Elab ℕ) declared_step expression_step parameter_step type_id_step (expr_of y)))
    (expr-layer y (sym (fold-roll-Expr Place Place Place Place built.tree_step built.expression_step built.param_step built.type_step (expr_of y)) ∙ b)))

param-step : (x : Param-F DeclTree Expr Param TypeId) (y : Param-F Tree Expression Parametered Typing) → param_of y ≡ x → P-param (roll-Param x)
param-step x y is = subst (λ z. P-param (roll-Param z)) is (λ b.
    subst (λ (r : Elab Parameter). IsQuiet r) (sym (fold-roll-Param Declared Part (Elab Parameter) (Elab ℕ) declared_step expression_step parameter_step type_id_step (param_of y)))
    (param-layer y (sym (fold-roll-Param Place Place Place Place built.tree_step built.expression_step built.param_step built.type_step (param_of y)) ∙ b)))

type-step : (x : TypeId-F DeclTree Expr Param TypeId) (y : TypeId-F Tree Expression Parametered Typing) → type_layer_of y ≡ x → P-type (roll-TypeId x)
type-step x y is = subst (λ z. P-type (roll-TypeId z)) is (λ b.
    subst (λ (r : Elab ℕ). IsQuiet r) (sym (fold-roll-TypeId Declared Part (Elab Parameter) (Elab ℕ) declared_step expression_step parameter_step type_id_step (type_layer_of y)))
    (type-layer y (sym (fold-roll-TypeId Place Place Place Place built.tree_step built.expression_step built.param_step built.type_step (type_layer_of y)) ∙ b)))

-- an expression of forms that are built
pub expression-whole : (x : Expr) → P-expr x
expression-whole = ind-Expr P-tree P-expr P-param P-type tree-step expr-step param-step type-step

pub declarator-shape : (d : DeclTree) → P-tree d
declarator-shape = ind-DeclTree P-tree P-expr P-param P-type tree-step expr-step param-step type-step

pub type-whole : (t : TypeId) → P-type t
type-whole = ind-TypeId P-tree P-expr P-param P-type tree-step expr-step param-step type-step
