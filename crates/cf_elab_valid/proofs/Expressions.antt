-- Every expression that is built is fine wherever it is elaborated (5).
use Rattle.std.proofs.Common.{◌≡◌, ℕ, Bool, true, false, ◌&&◌, if◌then◌else◌, List, [], ◌∷◌, map, pos, Option, Some, None, refl, sym, subst, ◌∙◌}
use Rattle.cf_base.specs.declared.kind.Kind.TheVariants as kind
use Rattle.cf_syntax.specs.declared.declarator.DeclTree.{DeclTree, roll-DeclTree, ind-DeclTree}
use Rattle.cf_syntax.specs.declared.declarator.DeclTree.TheOpen.{DeclTree-F, Expr-F}
use Rattle.cf_syntax.specs.declared.declarator.DeclTree.TheFolds.{fold-roll-DeclTree, fold-roll-Expr, fold-roll-Param, fold-roll-TypeId, map-DeclTree, map-Expr}
use Rattle.cf_syntax.specs.declared.declarator.Param.{Param, Param-F, fold-Param, roll-Param, map-Param}
use Rattle.cf_syntax.specs.declared.declarator.TypeId.{TypeId, TypeId-F, fold-TypeId, roll-TypeId, ind-TypeId, map-TypeId}
use Rattle.cf_syntax.specs.declared.expression.Expr.{Expr, roll-Expr, ind-Expr}
use Rattle.cf_syntax.specs.declared.name.Last.{Last}
use Rattle.cf_syntax.specs.declared.name.Last.TheVariants as last
use Rattle.cf_syntax.specs.declared.name.Name.{Name as WrittenName}
use Rattle.cf_syntax.specs.declared.operator.BinaryOp.{BinaryOp}
use Rattle.cf_syntax.specs.declared.operator.BinaryOp.TheVariants as binary
use Rattle.cf_syntax.specs.declared.operator.PrefixOp.{PrefixOp}
use Rattle.cf_syntax.specs.declared.operator.PrefixOp.TheVariants as prefix
use Rattle.cf_core_typed.proofs.Same.{and-left, and-right}
use Rattle.cf_syntax.specs.declared.specifier.TypeSpecifier.{TypeSpecifier}
use Rattle.cf_elab.specs.Answer.{Answer, Made, Refused, Passed, Elab, onward}
use Rattle.cf_elab.specs.Built as built
use Rattle.cf_elab.specs.Built.{Place}
use Rattle.cf_elab.specs.ClassOperators.{binary_operator, prefix_operator, step_operator, index_operator, assign_operator, cast_operator}
use Rattle.cf_elab.specs.Declarator.{Declared, declared_step, parameter_step, type_id_step}
use Rattle.cf_elab.specs.Env.{Env, Name}
use Rattle.cf_elab.specs.Expression as row
use Rattle.cf_elab.specs.Expression.{elaborated, declared, expression_step, with_one, with_two}
use Rattle.cf_elab.specs.Names.{key}
use Rattle.cf_elab.specs.Operand.{Value, Operand, Part, part, evaluated}
use Rattle.cf_elab.specs.Paths.{found_alone, operand_found, named, named_in_class, in_class_alone, name_of_scopes, type_at_path}
use Rattle.cf_elab.specs.Shape.{Parameter}
use Rattle.cf_elab.specs.Specifiers.{gathered, basic_word, base_type}
use Rattle.cf_elab.specs.Unary.{size_constant}
use Rattle.cf_elab_valid.specs.Answers.{Fine, FineOperand, IsPart}
use Rattle.cf_elab_valid.specs.Constants as constants
use Rattle.cf_elab_valid.specs.Constants.{constants_fit, declarator_fits, parameter_fits, type_id_fits}
use Rattle.cf_elab_valid.specs.Scene.{Scene, IsScene, Classless, Holds, Fits}
use Rattle.cf_elab_valid.proofs.Arithmetic.{IsOperand}
use Rattle.cf_elab_valid.proofs.Constructs.{assign_operator-fine, cast_operator-fine}
use Rattle.cf_elab_valid.proofs.Named.{IsThere, first-none, path-fine, gathered_named, base-fine}
use Rattle.cf_elab_valid.proofs.Names.{one-fine, name-fine}
use Rattle.cf_elab_valid.proofs.Operands.{prefix_operator-fine, step_operator-fine, index_operator-fine}
use Rattle.cf_elab_valid.proofs.Operations.{binary_operator-fine}
use Rattle.cf_elab_valid.proofs.Options.{never_none, some_is}
use Rattle.cf_elab_valid.proofs.Parts.{evaluated-fine, with_one-fine, with_two-fine}
use Rattle.cf_elab_valid.proofs.Several.{AreParts, operand-before, call-fine, built-fine, conditional_row-fine, comma-fine}
use Rattle.cf_elab_valid.proofs.Shapes.{IsShape, IsParameter, AreParameters, IsTypeId, inner-shape, pointed-shape, function-shape, array-shape, parameter-fine, type-fine}
use Rattle.cf_elab_valid.proofs.Sizes.{counted, counted-steps, counted-classless, counted-holds, size_constant-fine, integer-fine, literal-fine}
use Rattle.cf_elab_valid.proofs.Ways.{inside-later, onward-fine, within-before, When}

abbrev parameter : Param → Elab Parameter
parameter = fold-Param Declared Part (Elab Parameter) (Elab ℕ) declared_step expression_step parameter_step type_id_step

abbrev type_of : TypeId → Elab ℕ
type_of = fold-TypeId Declared Part (Elab Parameter) (Elab ℕ) declared_step expression_step parameter_step type_id_step

abbrev parameter_place : Param → Place
parameter_place = fold-Param Place Place Place Place built.tree_step built.expression_step built.param_step built.type_step

abbrev type_place : TypeId → Place
type_place = fold-TypeId Place Place Place Place built.tree_step built.expression_step built.param_step built.type_step

-- a part by itself
pub record IsWhole (s : Scene) (p : Part) : Type 0 where
  pub part : IsPart s p
  pub alone : p.of_class ≡ None

module _ (s : Scene) (scene : IsScene s) where
  -- ---- names

  identifier : (n : WrittenName) (e : Env) → built.of_name n ≡ None → Classless e → When s e (Holds s e) → FineOperand s e (named n e)
  identifier n e b c h = by n.from_file n.scopes n.last b
    where
      by : (file : Bool) (scopes : List Name) (l : Last) → (if built.is_qualified file scopes then Some n.at else built.of_last n.at l) ≡ None
          → FineOperand s e ((elim scopes as (λ _. Elab Operand) [ [] ↦ (λ env. operand_found n.last_at (found_alone env file (key l)) env) | q ∷ qs ↦ name_of_scopes n (q ∷ qs) ]) e)
      by true scopes l q = never_none n.at q
      by false (x ∷ xs) l q = never_none n.at q
      by false [] (last.Ident name) q = name-fine s scene n.last_at name e c h
      by false [] (last.Destructor name) q = never_none n.at q
      by false [] (last.Operator o) q = never_none n.at q
      by false [] (last.Conversion specifiers pointers) q = never_none n.at q

  alone_name : (n : WrittenName) → built.of_name n ≡ None → named_in_class n ≡ None
  alone_name n b = by n.from_file n.scopes b
    where
      by : (file : Bool) (scopes : List Name) → (if built.is_qualified file scopes then Some n.at else built.of_last n.at n.last) ≡ None
          → (elim scopes as (λ _. Option (Elab Operand)) [ [] ↦ None | q ∷ qs ↦ Some (in_class_alone n q qs) ]) ≡ None
      by file [] q = refl
      by true (x ∷ xs) q = never_none n.at q
      by false (x ∷ xs) q = never_none n.at q

  -- ---- constructs on one part, and on two

  one-part : (a : Part) (go : Value → Elab Value) → IsPart s a → ((x : Value) (e1 : Env) → Classless e1 → When s e1 (Holds s e1) → When s e1 (Fits s e1 x) → Fine s (IsOperand s) e1 (go x e1)) → IsWhole s (part (with_one a go))
  one-part a go k next = record { part = record { run = λ e c h. with_one-fine s scene a go e k next c h }; alone = refl }

  two-parts : (a b : Part) (go : Value → Value → Elab Value) → IsPart s a → IsPart s b
      → ((x y : Value) (e1 : Env) → Classless e1 → When s e1 (Holds s e1) → When s e1 (Fits s e1 x) → When s e1 (Fits s e1 y) → Fine s (IsOperand s) e1 (go x y e1)) → IsWhole s (part (with_two a b go))
  two-parts a b go k l next = record { part = record { run = λ e c h. with_two-fine s scene a b go e k l next c h }; alone = refl }

  prefix-whole : (at : ℕ) (op : PrefixOp) (a : Part) → IsWhole s a → IsWhole s (part (row.prefix_row at op a))
  prefix-whole at op a k = by op
    where
      plain : (o : PrefixOp) → IsWhole s (part (with_one a (prefix_operator at o)))
      plain o = one-part a (prefix_operator at o) k.part (λ x e1 c1 h1 f. prefix_operator-fine s scene at o x e1 c1 h1 f)

      by : (o : PrefixOp) → IsWhole s (part (row.prefix_row at o a))
      by prefix.AddressOf = subst (λ c. IsWhole s (part (row.address_row at a c))) (sym k.alone) (plain prefix.AddressOf)
      by o = plain o

  binary-whole : (at : ℕ) (op : BinaryOp) (a b : Part) → built.of_binary at op ≡ None → IsPart s a → IsPart s b → IsWhole s (part (row.binary_row at op a b))
  binary-whole at binary.DotStar a b h k l = never_none at h
  binary-whole at binary.ArrowStar a b h k l = never_none at h
  binary-whole at op a b h k l = two-parts a b (binary_operator at op) k l (λ x y e1 c1 h1 f g. binary_operator-fine s scene at op x y e1 c1 h1 f g)

  -- ---- types in an expression

  sized-type : (at : ℕ) (t : Elab ℕ) → IsTypeId s t → IsWhole s (part (λ e. onward (t e) (λ u. row.one (size_constant at u))))
  sized-type at t k = record { part = record { run = λ e c h. by e (t e) (k.fine e c h) }; alone = refl }
    where
      by : (e : Env) (r : Answer ℕ) → Fine s IsThere e r → FineOperand s e (onward r (λ u. row.one (size_constant at u)))
      by e (Made u e1) g = operand-before s e e1 (row.one (size_constant at u) e1) g.steps (one-fine s e1 (size_constant at u) (size_constant-fine s scene at u e1 g.classless g.holds g.made))
      by e (Refused rule place) g = tt
      by e (Passed bound most) g = tt

  -- the literals of the operand are none of the function's
  sized-part : (at : ℕ) (a : Part) → IsPart s a → IsWhole s (part (row.size_of_part at a))
  sized-part at a k = record { part = record { run = λ e c h. by e (evaluated a e) (evaluated-fine s scene a e k c h) }; alone = refl }
    where
      by : (e : Env) (r : Answer Value) → Fine s (IsOperand s) e r → FineOperand s e (onward r (λ v f. row.one (size_constant at v.type) (counted s scene e.hand.literals f)))
      by e (Made v e1) g =
          let e2 = counted s scene e.hand.literals e1 in
          let step = counted-steps s scene e.hand.literals e1 in
          operand-before s e e1 (row.one (size_constant at v.type) e2) g.steps (operand-before s e1 e2 (row.one (size_constant at v.type) e2) step
          (one-fine s e2 (size_constant at v.type) (size_constant-fine s scene at v.type e2 (counted-classless s scene e.hand.literals e1 g.classless) (counted-holds s scene e.hand.literals e1 g.holds)
          (λ w. inside-later e1 e2 v.type step (g.made (within-before e1 e2 s step w)).inside))))
      by e (Refused rule place) g = tt
      by e (Passed bound most) g = tt

  cast-whole : (at : ℕ) (t : Elab ℕ) (a : Part) → IsTypeId s t → IsPart s a → IsWhole s (part (λ e. onward (t e) (λ u. with_one a (cast_operator at u))))
  cast-whole at t a k l = record { part = record { run = λ e c h. by e (t e) (k.fine e c h) }; alone = refl }
    where
      by : (e : Env) (r : Answer ℕ) → Fine s IsThere e r → FineOperand s e (onward r (λ u. with_one a (cast_operator at u)))
      by e (Made u e1) g =
          operand-before s e e1 (with_one a (cast_operator at u) e1) g.steps
          (one-fine s e1 (λ f. onward (evaluated a f) (cast_operator at u))
          (onward-fine s (IsOperand s) (IsOperand s) e1 (evaluated a e1) (cast_operator at u) (evaluated-fine s scene a e1 l g.classless g.holds)
          (λ x e2 step c2 h2 f. cast_operator-fine s scene at u x e2 c2 h2 (λ w. inside-later e1 e2 u step (g.made (within-before e1 e2 s step w))) f)))
      by e (Refused rule place) g = tt
      by e (Passed bound most) g = tt

  -- ---- all forms

  abbrev P-tree : DeclTree → Type 0
  P-tree d = built.declarator d ≡ None → declarator_fits d ≡ true → IsShape s scene (declared d).shape

  abbrev P-expr : Expr → Type 0
  P-expr x = built.expression x ≡ None → constants_fit x ≡ true → IsWhole s (elaborated x)

  abbrev P-param : Param → Type 0
  P-param p = parameter_place p ≡ None → parameter_fits p ≡ true → IsParameter s (parameter p)

  abbrev P-type : TypeId → Type 0
  P-type t = type_place t ≡ None → type_id_fits t ≡ true → IsTypeId s (type_of t)

  abbrev Tree : Type 0
  Tree = (d : DeclTree) × P-tree d

  abbrev Expression : Type 0
  Expression = (x : Expr) × P-expr x

  abbrev Parametered : Type 0
  Parametered = (p : Param) × P-param p

  abbrev Typing : Type 0
  Typing = (t : TypeId) × P-type t

  -- several expressions
  parts-of : (es : List Expression) → built.first_of (map built.expression (map (λ (x : Expression). x.0) es)) ≡ None → constants.all_of (map constants_fit (map (λ (x : Expression). x.0) es)) ≡ true
      → AreParts s (map elaborated (map (λ (x : Expression). x.0) es))
  parts-of [] b f = tt
  parts-of (x ∷ xs) b f =
      let split = first-none (built.expression x.0) (built.first_of (map built.expression (map (λ (y : Expression). y.0) xs))) b in (
        (x.1 split.0 (and-left (constants_fit x.0) (constants.all_of (map constants_fit (map (λ (y : Expression). y.0) xs))) f)).part,
        parts-of xs split.1 (and-right (constants_fit x.0) (constants.all_of (map constants_fit (map (λ (y : Expression). y.0) xs))) f),
      )

  parameters-of : (ps : List Parametered) → built.first_of (map parameter_place (map (λ (x : Parametered). x.0) ps)) ≡ None → constants.all_of (map parameter_fits (map (λ (x : Parametered). x.0) ps)) ≡ true
      → AreParameters s (map parameter (map (λ (x : Parametered). x.0) ps))
  parameters-of [] b f = tt
  parameters-of (x ∷ xs) b f =
      let split = first-none (parameter_place x.0) (built.first_of (map parameter_place (map (λ (y : Parametered). y.0) xs))) b in (
        x.1 split.0 (and-left (parameter_fits x.0) (constants.all_of (map parameter_fits (map (λ (y : Parametered). y.0) xs))) f),
        parameters-of xs split.1 (and-right (parameter_fits x.0) (constants.all_of (map parameter_fits (map (λ (y : Parametered). y.0) xs))) f),
      )

  -- the trees of a layer alone
  abbrev expr_of : Expr-F Tree Expression Parametered Typing → Expr-F DeclTree Expr Param TypeId
  expr_of y = map-Expr Tree Expression Parametered Typing DeclTree Expr Param TypeId (λ (x : Tree). x.0) (λ (x : Expression). x.0) (λ (x : Parametered). x.0) (λ (x : Typing). x.0) y

  abbrev tree_of : DeclTree-F Tree Expression Parametered Typing → DeclTree-F DeclTree Expr Param TypeId
  tree_of y = map-DeclTree Tree Expression Parametered Typing DeclTree Expr Param TypeId (λ (x : Tree). x.0) (λ (x : Expression). x.0) (λ (x : Parametered). x.0) (λ (x : Typing). x.0) y

  abbrev elaborates : Expr-F DeclTree Expr Param TypeId → Part
  elaborates x = expression_step (map-Expr DeclTree Expr Param TypeId Declared Part (Elab Parameter) (Elab ℕ) declared elaborated parameter type_of x)

  abbrev place_of : Expr-F DeclTree Expr Param TypeId → Place
  place_of x = built.expression_step (map-Expr DeclTree Expr Param TypeId Place Place Place Place built.declarator built.expression parameter_place type_place x)

  abbrev fit_of : Expr-F DeclTree Expr Param TypeId → Bool
  fit_of x = constants.expression_step (map-Expr DeclTree Expr Param TypeId Bool Bool Bool Bool declarator_fits constants_fit parameter_fits type_id_fits x)

  expr-layer : (y : Expr-F Tree Expression Parametered Typing) → place_of (expr_of y) ≡ None → fit_of (expr_of y) ≡ true → IsWhole s (elaborates (expr_of y))
  expr-layer (Expr-F.Int at n k) b f = record { part = record { run = λ e c h. integer-fine s scene at (pos n) k e f c h }; alone = refl }
  expr-layer (Expr-F.Char at z) b f = record { part = record { run = λ e c h. integer-fine s scene at z kind.Char e f c h }; alone = refl }
  expr-layer (Expr-F.Text at bytes) b f = record { part = record { run = λ e c h. literal-fine s scene at bytes e c h }; alone = refl }
  expr-layer (Expr-F.This at) b f = never_none at b
  expr-layer (Expr-F.Paren at a) b f = record { part = record { run = (a.1 b f).part.run }; alone = refl }
  expr-layer (Expr-F.Named n) b f = record { part = record { run = λ e c h. identifier n e b c h }; alone = alone_name n b }
  expr-layer (Expr-F.BasicCall at x args) b f =
      record {
        part = record {
          run = λ e c h. built-fine s scene at (base_type (gathered (basic_word at x ∷ []))) (map elaborated (map (λ (y : Expression). y.0) args)) e
              (base-fine s scene (gathered (basic_word at x ∷ [])) e c h (λ w. gathered_named (basic_word at x ∷ []) e (tt, tt))) (parts-of args b f);
        };
        alone = refl;
      }
  expr-layer (Expr-F.TypeCall at path args) b f =
      let split = first-none (built.of_path path) (built.first_of (map built.expression (map (λ (y : Expression). y.0) args))) b in
      record { part = record { run = λ e c h. built-fine s scene at (type_at_path path) (map elaborated (map (λ (y : Expression). y.0) args)) e (path-fine s path e split.0 c h) (parts-of args split.1 f) }; alone = refl }
  expr-layer (Expr-F.Index at x y) b f =
      let split = first-none (built.expression x.0) (built.expression y.0) b in
      two-parts (elaborated x.0) (elaborated y.0) (index_operator at) (x.1 split.0 (and-left (constants_fit x.0) (constants_fit y.0) f)).part (y.1 split.1 (and-right (constants_fit x.0) (constants_fit y.0) f)).part
      (λ u v e1 c1 h1 p q. index_operator-fine s scene at u v e1 c1 h1 p q)
  expr-layer (Expr-F.Call at g args) b f =
      let split = first-none (built.expression g.0) (built.first_of (map built.expression (map (λ (y : Expression). y.0) args))) b in
      let others = constants.all_of (map constants_fit (map (λ (y : Expression). y.0) args)) in
      record {
        part = record {
          run = λ e c h. call-fine s scene at (elaborated g.0) (map elaborated (map (λ (y : Expression). y.0) args)) e (g.1 split.0 (and-left (constants_fit g.0) others f)).part
              (parts-of args split.1 (and-right (constants_fit g.0) others f)) c h;
        };
        alone = refl;
      }
  expr-layer (Expr-F.Dot at a n) b f = never_none at (first-none (Some at) (built.expression a.0) b).0
  expr-layer (Expr-F.Arrow at a n) b f = never_none at (first-none (Some at) (built.expression a.0) b).0
  expr-layer (Expr-F.StepAfter at op a) b f = one-part (elaborated a.0) (step_operator at op true) (a.1 b f).part (λ x e1 c1 h1 p. step_operator-fine s scene at op true x e1 c1 h1 p)
  expr-layer (Expr-F.StepBefore at op a) b f = one-part (elaborated a.0) (step_operator at op false) (a.1 b f).part (λ x e1 c1 h1 p. step_operator-fine s scene at op false x e1 c1 h1 p)
  expr-layer (Expr-F.Prefix at op a) b f = prefix-whole at op (elaborated a.0) (a.1 b f)
  expr-layer (Expr-F.SizeofExpr at a) b f = sized-part at (elaborated a.0) (a.1 b f).part
  expr-layer (Expr-F.SizeofType at t) b f = sized-type at (type_of t.0) (t.1 b f)
  expr-layer (Expr-F.Delete at file many a) b f = never_none at b
  expr-layer (Expr-F.New at file specifiers pointers bounds has args) b f = never_none at b
  expr-layer (Expr-F.NewBracketed at file t has args) b f = never_none at b
  expr-layer (Expr-F.Cast at t a) b f =
      let split = first-none (type_place t.0) (built.expression a.0) b in
      cast-whole at (type_of t.0) (elaborated a.0) (t.1 split.0 (and-left (type_id_fits t.0) (constants_fit a.0) f)) (a.1 split.1 (and-right (type_id_fits t.0) (constants_fit a.0) f)).part
  expr-layer (Expr-F.Binary at op x y) b f =
      let split = first-none (built.of_binary at op) (built.first (built.expression x.0) (built.expression y.0)) b in
      let sides = first-none (built.expression x.0) (built.expression y.0) split.1 in
      binary-whole at op (elaborated x.0) (elaborated y.0) split.0 (x.1 sides.0 (and-left (constants_fit x.0) (constants_fit y.0) f)).part (y.1 sides.1 (and-right (constants_fit x.0) (constants_fit y.0) f)).part
  expr-layer (Expr-F.Conditional at q x y) b f =
      let split = first-none (built.expression q.0) (built.first (built.expression x.0) (built.expression y.0)) b in
      let sides = first-none (built.expression x.0) (built.expression y.0) split.1 in
      let two = and-left (constants_fit q.0 && constants_fit x.0) (constants_fit y.0) f in
      record {
        part = record {
          run = λ e c h. conditional_row-fine s scene at (elaborated q.0) (elaborated x.0) (elaborated y.0) e (q.1 split.0 (and-left (constants_fit q.0) (constants_fit x.0) two)).part
              (x.1 sides.0 (and-right (constants_fit q.0) (constants_fit x.0) two)).part (y.1 sides.1 (and-right (constants_fit q.0 && constants_fit x.0) (constants_fit y.0) f)).part c h;
        };
        alone = refl;
      }
  expr-layer (Expr-F.Assign at op x y) b f =
      let split = first-none (built.expression x.0) (built.expression y.0) b in
      two-parts (elaborated x.0) (elaborated y.0) (assign_operator at op) (x.1 split.0 (and-left (constants_fit x.0) (constants_fit y.0) f)).part (y.1 split.1 (and-right (constants_fit x.0) (constants_fit y.0) f)).part
      (λ u v e1 c1 h1 p q. assign_operator-fine s scene at op u v e1 c1 h1 p q)
  expr-layer (Expr-F.Comma at all) b f = record { part = record { run = λ e c h. comma-fine s scene at (map elaborated (map (λ (y : Expression). y.0) all)) e (parts-of all b f) c h }; alone = refl }

  tree-layer : (y : DeclTree-F Tree Expression Parametered Typing)
      → built.tree_step (map-DeclTree DeclTree Expr Param TypeId Place Place Place Place built.declarator built.expression parameter_place type_place (tree_of y)) ≡ None
      → constants.tree_step (map-DeclTree DeclTree Expr Param TypeId Bool Bool Bool Bool declarator_fits constants_fit parameter_fits type_id_fits (tree_of y)) ≡ true
      → IsShape s scene (declared_step (map-DeclTree DeclTree Expr Param TypeId Declared Part (Elab Parameter) (Elab ℕ) declared elaborated parameter type_of (tree_of y))).shape
  tree-layer DeclTree-F.Unnamed b f = inner-shape s scene
  tree-layer (DeclTree-F.Declared n) b f = inner-shape s scene
  tree-layer (DeclTree-F.Pointed p d) b f = let split = first-none (built.of_pointer p) (built.declarator d.0) b in pointed-shape s scene p (declared d.0).shape split.0 (d.1 split.1 f)
  tree-layer (DeclTree-F.Bracketed at d) b f = d.1 b f
  tree-layer (DeclTree-F.Function at d ps q) b f =
      let split = first-none (built.declarator d.0) (built.first_of (map parameter_place (map (λ (x : Parametered). x.0) ps))) b in
      let others = constants.all_of (map parameter_fits (map (λ (x : Parametered). x.0) ps)) in
      function-shape s scene at (declared d.0).shape (map parameter (map (λ (x : Parametered). x.0) ps)) q (d.1 split.0 (and-left (declarator_fits d.0) others f)) (parameters-of ps split.1 (and-right (declarator_fits d.0) others f))
  tree-layer (DeclTree-F.Array at d None) b f =
      let split = first-none (built.declarator d.0) None b in
      array-shape s scene at (declared d.0).shape None (d.1 split.0 (and-left (declarator_fits d.0) true f)) (λ p is. never_none p (sym is))
  tree-layer (DeclTree-F.Array at d (Some x)) b f =
      let split = first-none (built.declarator d.0) (built.expression x.0) b in
      array-shape s scene at (declared d.0).shape (Some (elaborated x.0)) (d.1 split.0 (and-left (declarator_fits d.0) (constants_fit x.0) f))
      (λ p is. subst (IsPart s) (some_is (elaborated x.0) p is) (x.1 split.1 (and-right (declarator_fits d.0) (constants_fit x.0) f)).part)

  -- ---- parameters and types in brackets

  abbrev param_of : Param-F Tree Expression Parametered Typing → Param-F DeclTree Expr Param TypeId
  param_of y = map-Param Tree Expression Parametered Typing DeclTree Expr Param TypeId (λ (x : Tree). x.0) (λ (x : Expression). x.0) (λ (x : Parametered). x.0) (λ (x : Typing). x.0) y

  abbrev type_layer_of : TypeId-F Tree Expression Parametered Typing → TypeId-F DeclTree Expr Param TypeId
  type_layer_of y = map-TypeId Tree Expression Parametered Typing DeclTree Expr Param TypeId (λ (x : Tree). x.0) (λ (x : Expression). x.0) (λ (x : Parametered). x.0) (λ (x : Typing). x.0) y

  abbrev ParamLayer : Param-F Tree Expression Parametered Typing → Type 0
  ParamLayer y =
      built.param_step (map-Param DeclTree Expr Param TypeId Place Place Place Place built.declarator built.expression parameter_place type_place (param_of y)) ≡ None
      → constants.param_step (map-Param DeclTree Expr Param TypeId Bool Bool Bool Bool declarator_fits constants_fit parameter_fits type_id_fits (param_of y)) ≡ true
      → IsParameter s (parameter_step (map-Param DeclTree Expr Param TypeId Declared Part (Elab Parameter) (Elab ℕ) declared elaborated parameter type_of (param_of y)))

  param-at : (at : ℕ) (ss : List TypeSpecifier) (d : Tree) (o : Option (ℕ × Expression)) → ParamLayer (record { at = at; specifiers = ss; declarator = d; default = o })
  param-at at ss d None b f =
      let split = first-none (built.of_specifiers ss) (built.first (built.declarator d.0) None) b in
      parameter-fine s scene ss (declared d.0).shape split.0 (d.1 (first-none (built.declarator d.0) None split.1).0 f) at (declared d.0).name
  param-at at ss d (Some x) b f =
      let split = first-none (built.of_specifiers ss) (built.first (built.declarator d.0) (Some x.0)) b in
      never_none x.0 (first-none (built.declarator d.0) (Some x.0) split.1).1

  param-layer : (y : Param-F Tree Expression Parametered Typing) → ParamLayer y
  param-layer y = param-at y.at y.specifiers y.declarator y.default

  type-layer : (y : TypeId-F Tree Expression Parametered Typing)
      → built.type_step (map-TypeId DeclTree Expr Param TypeId Place Place Place Place built.declarator built.expression parameter_place type_place (type_layer_of y)) ≡ None
      → constants.type_step (map-TypeId DeclTree Expr Param TypeId Bool Bool Bool Bool declarator_fits constants_fit parameter_fits type_id_fits (type_layer_of y)) ≡ true
      → IsTypeId s (type_id_step (map-TypeId DeclTree Expr Param TypeId Declared Part (Elab Parameter) (Elab ℕ) declared elaborated parameter type_of (type_layer_of y)))
  type-layer y b f =
      let split = first-none (built.of_specifiers y.specifiers) (built.declarator y.declarator.0) b in
      type-fine s scene y.specifiers (declared y.declarator.0).shape split.0 (y.declarator.1 split.1 f)

  -- ---- the whole

  tree-step : (x : DeclTree-F DeclTree Expr Param TypeId) (y : DeclTree-F Tree Expression Parametered Typing) → tree_of y ≡ x → P-tree (roll-DeclTree x)
  tree-step x y is = subst (λ z. P-tree (roll-DeclTree z)) is (λ b f.
      subst (λ (d : Declared). IsShape s scene d.shape) (sym (fold-roll-DeclTree Declared Part (Elab Parameter) (Elab ℕ) declared_step expression_step parameter_step type_id_step (tree_of y)))
      (tree-layer y (sym (fold-roll-DeclTree Place Place Place Place built.tree_step built.expression_step built.param_step built.type_step (tree_of y)) ∙ b)
      (sym (fold-roll-DeclTree Bool Bool Bool Bool constants.tree_step constants.expression_step constants.param_step constants.type_step (tree_of y)) ∙ f)))

  expr-step : (x : Expr-F DeclTree Expr Param TypeId) (y : Expr-F Tree Expression Parametered Typing) → expr_of y ≡ x → P-expr (roll-Expr x)
  expr-step x y is = subst (λ z. P-expr (roll-Expr z)) is (λ b f.
      subst (IsWhole s) (sym (fold-roll-Expr Declared Part (Elab Parameter) (Elab ℕ) declared_step expression_step parameter_step type_id_step (expr_of y)))
      (expr-layer y (sym (fold-roll-Expr Place Place Place Place built.tree_step built.expression_step built.param_step built.type_step (expr_of y)) ∙ b)
      (sym (fold-roll-Expr Bool Bool Bool Bool constants.tree_step constants.expression_step constants.param_step constants.type_step (expr_of y)) ∙ f)))

  param-step : (x : Param-F DeclTree Expr Param TypeId) (y : Param-F Tree Expression Parametered Typing) → param_of y ≡ x → P-param (roll-Param x)
  param-step x y is = subst (λ z. P-param (roll-Param z)) is (λ b f.
      subst (IsParameter s) (sym (fold-roll-Param Declared Part (Elab Parameter) (Elab ℕ) declared_step expression_step parameter_step type_id_step (param_of y)))
      (param-layer y (sym (fold-roll-Param Place Place Place Place built.tree_step built.expression_step built.param_step built.type_step (param_of y)) ∙ b)
      (sym (fold-roll-Param Bool Bool Bool Bool constants.tree_step constants.expression_step constants.param_step constants.type_step (param_of y)) ∙ f)))

  type-step : (x : TypeId-F DeclTree Expr Param TypeId) (y : TypeId-F Tree Expression Parametered Typing) → type_layer_of y ≡ x → P-type (roll-TypeId x)
  type-step x y is = subst (λ z. P-type (roll-TypeId z)) is (λ b f.
      subst (IsTypeId s) (sym (fold-roll-TypeId Declared Part (Elab Parameter) (Elab ℕ) declared_step expression_step parameter_step type_id_step (type_layer_of y)))
      (type-layer y (sym (fold-roll-TypeId Place Place Place Place built.tree_step built.expression_step built.param_step built.type_step (type_layer_of y)) ∙ b)
      (sym (fold-roll-TypeId Bool Bool Bool Bool constants.tree_step constants.expression_step constants.param_step constants.type_step (type_layer_of y)) ∙ f)))

  -- an expression of forms that are built, with constants of their types
  pub expression-whole : (x : Expr) → P-expr x
  expression-whole = ind-Expr P-tree P-expr P-param P-type tree-step expr-step param-step type-step

  pub declarator-shape : (d : DeclTree) → P-tree d
  declarator-shape = ind-DeclTree P-tree P-expr P-param P-type tree-step expr-step param-step type-step

  pub type-whole : (t : TypeId) → P-type t
  type-whole = ind-TypeId P-tree P-expr P-param P-type tree-step expr-step param-step type-step
