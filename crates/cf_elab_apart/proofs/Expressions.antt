-- Every expression that is built is apart wherever it is elaborated (5, 5.19).
use Rattle.std.proofs.Common.{◌≡◌, ℕ, Bool, true, false, ◌&&◌, if◌then◌else◌, List, [], ◌∷◌, map, pos, Some, None, sym, subst, ◌∙◌}
use Rattle.cf_base.specs.declared.kind.Kind.TheVariants as kind
use Rattle.cf_syntax.specs.declared.declarator.DeclTree.{DeclTree}
use Rattle.cf_syntax.specs.declared.declarator.DeclTree.TheOpen.{Expr-F}
use Rattle.cf_syntax.specs.declared.declarator.DeclTree.TheFolds.{fold-roll-Expr, map-Expr}
use Rattle.cf_syntax.specs.declared.declarator.Param.{Param, fold-Param}
use Rattle.cf_syntax.specs.declared.declarator.TypeId.{TypeId, fold-TypeId}
use Rattle.cf_syntax.specs.declared.expression.Expr.{Expr, roll-Expr, ind-Expr}
use Rattle.cf_syntax.specs.declared.name.Last.{Last}
use Rattle.cf_syntax.specs.declared.name.Last.TheVariants as last
use Rattle.cf_syntax.specs.declared.name.Name.{Name as WrittenName}
use Rattle.cf_syntax.specs.declared.operator.BinaryOp.{BinaryOp}
use Rattle.cf_syntax.specs.declared.operator.BinaryOp.TheVariants as binary
use Rattle.cf_syntax.specs.declared.operator.PrefixOp.{PrefixOp}
use Rattle.cf_syntax.specs.declared.operator.PrefixOp.TheVariants as prefix
use Rattle.cf_core_typed.proofs.Same.{and-left, and-right}
use Rattle.cf_elab.specs.Answer.{Answer, Made, Refused, Passed, Elab, onward}
use Rattle.cf_elab.specs.Built as built
use Rattle.cf_elab.specs.Built.{Place}
use Rattle.cf_elab.specs.ClassOperators.{binary_operator, prefix_operator, step_operator, index_operator, assign_operator, cast_operator}
use Rattle.cf_elab.specs.Declarator.{Declared, declared_step, parameter_step, type_id_step}
use Rattle.cf_elab.specs.Env.{Env, Name}
use Rattle.cf_elab.specs.Expression as row
use Rattle.cf_elab.specs.Expression.{elaborated, declared, expression_step, with_one}
use Rattle.cf_elab.specs.Names.{key}
use Rattle.cf_elab.specs.Operand.{Operand, Part, part, evaluated}
use Rattle.cf_elab.specs.Paths.{found_alone, operand_found, named, name_of_scopes, type_at_path}
use Rattle.cf_elab.specs.Shape.{Parameter}
use Rattle.cf_elab.specs.Specifiers.{gathered, basic_word, base_type}
use Rattle.cf_elab_valid.specs.Answers.{Fine, FineOperand}
use Rattle.cf_elab_valid.specs.Constants as constants
use Rattle.cf_elab_valid.specs.Constants.{constants_fit, declarator_fits, parameter_fits, type_id_fits}
use Rattle.cf_elab_valid.specs.Scene.{Scene, IsScene, Classless, Holds}
use Rattle.cf_elab_valid.proofs.Expressions.{expression-whole, type-whole}
use Rattle.cf_elab_valid.proofs.Named.{IsThere, first-none, path-fine, gathered_named, base-fine}
use Rattle.cf_elab_valid.proofs.Options.{never_none}
use Rattle.cf_elab_valid.proofs.Ways.{inside-later, within-before, When}
use Rattle.cf_elab_apart.specs.Apart.{Apart, OperandApart}
use Rattle.cf_elab_apart.proofs.Answers.{Tells, tells-behind}
use Rattle.cf_elab_apart.proofs.Bare.{assign_operator-bare, bare-tells}
use Rattle.cf_elab_apart.proofs.Binary.{binary_operator-tells}
use Rattle.cf_elab_apart.proofs.Casts.{cast_operator-tells}
use Rattle.cf_elab_apart.proofs.Fit.{Both}
use Rattle.cf_elab_apart.proofs.Names.{one-tells, name-tells, integer-tells, literal-tells}
use Rattle.cf_elab_apart.proofs.Parts.{ApartPart, ApartParts, evaluated-both, with_one-tells, with_two-tells, call-tells, built-tells, comma-tells, conditional_row-tells}
use Rattle.cf_elab_apart.proofs.Sizes.{size-tells, size_of_part-tells}
use Rattle.cf_elab_apart.proofs.Unary.{prefix_operator-tells, step_operator-tells, index_operator-tells}

abbrev parameter : Param → Elab Parameter
parameter = fold-Param Declared Part (Elab Parameter) (Elab ℕ) declared_step expression_step parameter_step type_id_step

abbrev type_of : TypeId → Elab ℕ
type_of = fold-TypeId Declared Part (Elab Parameter) (Elab ℕ) declared_step expression_step parameter_step type_id_step

abbrev parameter_place : Param → Place
parameter_place = fold-Param Place Place Place Place built.tree_step built.expression_step built.param_step built.type_step

abbrev type_place : TypeId → Place
type_place = fold-TypeId Place Place Place Place built.tree_step built.expression_step built.param_step built.type_step

module _ (s : Scene) (scene : IsScene s) where
  -- wherever it is elaborated
  abbrev Runs : Elab Operand → Type 0
  Runs run = (e : Env) → Classless e → When s e (Holds s e) → Tells s (OperandApart s) (run e)

  -- ---- names

  identifier : (n : WrittenName) → built.of_name n ≡ None → Runs (named n)
  identifier n b e c h = by n.from_file n.scopes n.last b
    where
      by : (file : Bool) (scopes : List Name) (l : Last) → (if built.is_qualified file scopes then Some n.at else built.of_last n.at l) ≡ None
          → Tells s (OperandApart s) ((elim scopes as (λ _. Elab Operand) [ [] ↦ (λ env. operand_found n.last_at (found_alone env file (key l)) env) | q ∷ qs ↦ name_of_scopes n (q ∷ qs) ]) e)
      by true scopes l q = never_none n.at q
      by false (x ∷ xs) l q = never_none n.at q
      by false [] (last.Ident name) q = name-tells s n.last_at name e c
      by false [] (last.Destructor name) q = never_none n.at q
      by false [] (last.Operator o) q = never_none n.at q
      by false [] (last.Conversion specifiers pointers) q = never_none n.at q

  -- ---- constructs

  prefix-runs : (at : ℕ) (op : PrefixOp) (a : Part) → a.of_class ≡ None → ApartPart s a → Runs (row.prefix_row at op a)
  prefix-runs at op a alone k = by op
    where
      plain : (o : PrefixOp) → Runs (with_one a (prefix_operator at o))
      plain o e c h = with_one-tells s scene a (prefix_operator at o) e k (λ x e1 c1 h1 b. prefix_operator-tells s scene at o x e1 c1 h1 b) c h

      by : (o : PrefixOp) → Runs (row.prefix_row at o a)
      by prefix.AddressOf = subst (λ o. Runs (row.address_row at a o)) (sym alone) (plain prefix.AddressOf)
      by o = plain o

  binary-runs : (at : ℕ) (op : BinaryOp) (a b : Part) → built.of_binary at op ≡ None → ApartPart s a → ApartPart s b → Runs (row.binary_row at op a b)
  binary-runs at binary.DotStar a b h k l e c held = never_none at h
  binary-runs at binary.ArrowStar a b h k l e c held = never_none at h
  binary-runs at op a b h k l e c held = with_two-tells s scene a b (binary_operator at op) e k l (λ x y e1 c1 h1 p q. binary_operator-tells s scene at op x y e1 c1 h1 p q) c held

  -- ---- all forms

  abbrev P-expr : Expr → Type 0
  P-expr x = built.expression x ≡ None → constants_fit x ≡ true → Runs (elaborated x).run

  abbrev Expression : Type 0
  Expression = (x : Expr) × P-expr x

  abbrev Tree : Type 0
  Tree = (d : DeclTree) × Unit {0}

  abbrev Parametered : Type 0
  Parametered = (p : Param) × Unit {0}

  abbrev Typing : Type 0
  Typing = (t : TypeId) × Unit {0}

  part-of : (x : Expression) → built.expression x.0 ≡ None → constants_fit x.0 ≡ true → ApartPart s (elaborated x.0)
  part-of x b f = record { part = (expression-whole s scene x.0 b f).part; tells = λ e c h. x.1 b f e c h }

  parts-of : (es : List Expression) → built.first_of (map built.expression (map (λ (x : Expression). x.0) es)) ≡ None → constants.all_of (map constants_fit (map (λ (x : Expression). x.0) es)) ≡ true
      → ApartParts s (map elaborated (map (λ (x : Expression). x.0) es))
  parts-of [] b f = tt
  parts-of (x ∷ xs) b f =
      let split = first-none (built.expression x.0) (built.first_of (map built.expression (map (λ (y : Expression). y.0) xs))) b in (
        part-of x split.0 (and-left (constants_fit x.0) (constants.all_of (map constants_fit (map (λ (y : Expression). y.0) xs))) f),
        parts-of xs split.1 (and-right (constants_fit x.0) (constants.all_of (map constants_fit (map (λ (y : Expression). y.0) xs))) f),
      )

  abbrev expr_of : Expr-F Tree Expression Parametered Typing → Expr-F DeclTree Expr Param TypeId
  expr_of y = map-Expr Tree Expression Parametered Typing DeclTree Expr Param TypeId (λ (x : Tree). x.0) (λ (x : Expression). x.0) (λ (x : Parametered). x.0) (λ (x : Typing). x.0) y

  abbrev elaborates : Expr-F DeclTree Expr Param TypeId → Part
  elaborates x = expression_step (map-Expr DeclTree Expr Param TypeId Declared Part (Elab Parameter) (Elab ℕ) declared elaborated parameter type_of x)

  abbrev place_of : Expr-F DeclTree Expr Param TypeId → Place
  place_of x = built.expression_step (map-Expr DeclTree Expr Param TypeId Place Place Place Place built.declarator built.expression parameter_place type_place x)

  abbrev fit_of : Expr-F DeclTree Expr Param TypeId → Bool
  fit_of x = constants.expression_step (map-Expr DeclTree Expr Param TypeId Bool Bool Bool Bool declarator_fits constants_fit parameter_fits type_id_fits x)

  expr-layer : (y : Expr-F Tree Expression Parametered Typing) → place_of (expr_of y) ≡ None → fit_of (expr_of y) ≡ true → Runs (elaborates (expr_of y)).run
  expr-layer (Expr-F.Int at n k) b f e c h = integer-tells s at (pos n) k e
  expr-layer (Expr-F.Char at z) b f e c h = integer-tells s at z kind.Char e
  expr-layer (Expr-F.Text at bytes) b f e c h = literal-tells s at bytes e
  expr-layer (Expr-F.This at) b f e c h = never_none at b
  expr-layer (Expr-F.Paren at a) b f e c h = a.1 b f e c h
  expr-layer (Expr-F.Named n) b f e c h = identifier n b e c h
  expr-layer (Expr-F.BasicCall at x args) b f e c h =
      built-tells s scene at (base_type (gathered (basic_word at x ∷ []))) (map elaborated (map (λ (y : Expression). y.0) args)) e
      (base-fine s scene (gathered (basic_word at x ∷ [])) e c h (λ w. gathered_named (basic_word at x ∷ []) e (tt, tt))) (parts-of args b f)
  expr-layer (Expr-F.TypeCall at path args) b f e c h =
      let split = first-none (built.of_path path) (built.first_of (map built.expression (map (λ (y : Expression). y.0) args))) b in
      built-tells s scene at (type_at_path path) (map elaborated (map (λ (y : Expression). y.0) args)) e (path-fine s path e split.0 c h) (parts-of args split.1 f)
  expr-layer (Expr-F.Index at x y) b f e c h =
      let split = first-none (built.expression x.0) (built.expression y.0) b in
      with_two-tells s scene (elaborated x.0) (elaborated y.0) (index_operator at) e (part-of x split.0 (and-left (constants_fit x.0) (constants_fit y.0) f)) (part-of y split.1 (and-right (constants_fit x.0) (constants_fit y.0) f))
      (λ u v e1 c1 h1 p q. index_operator-tells s scene at u v e1 c1 h1 p q) c h
  expr-layer (Expr-F.Call at g args) b f e c h =
      let split = first-none (built.expression g.0) (built.first_of (map built.expression (map (λ (y : Expression). y.0) args))) b in
      let others = constants.all_of (map constants_fit (map (λ (y : Expression). y.0) args)) in
      call-tells s scene at (elaborated g.0) (map elaborated (map (λ (y : Expression). y.0) args)) e (part-of g split.0 (and-left (constants_fit g.0) others f)) (parts-of args split.1 (and-right (constants_fit g.0) others f)) c h
  expr-layer (Expr-F.Dot at a n) b f e c h = never_none at (first-none (Some at) (built.expression a.0) b).0
  expr-layer (Expr-F.Arrow at a n) b f e c h = never_none at (first-none (Some at) (built.expression a.0) b).0
  expr-layer (Expr-F.StepAfter at op a) b f e c h = with_one-tells s scene (elaborated a.0) (step_operator at op true) e (part-of a b f) (λ x e1 c1 h1 p. step_operator-tells s scene at op true x e1 c1 h1) c h
  expr-layer (Expr-F.StepBefore at op a) b f e c h = with_one-tells s scene (elaborated a.0) (step_operator at op false) e (part-of a b f) (λ x e1 c1 h1 p. step_operator-tells s scene at op false x e1 c1 h1) c h
  expr-layer (Expr-F.Prefix at op a) b f e c h = prefix-runs at op (elaborated a.0) (expression-whole s scene a.0 b f).alone (part-of a b f) e c h
  expr-layer (Expr-F.SizeofExpr at a) b f e c h = size_of_part-tells s at (elaborated a.0) e
  expr-layer (Expr-F.SizeofType at t) b f e c h = size-tells s at (type_of t.0) e
  expr-layer (Expr-F.Delete at file many a) b f e c h = never_none at b
  expr-layer (Expr-F.New at file specifiers pointers bounds has args) b f e c h = never_none at b
  expr-layer (Expr-F.NewBracketed at file t has args) b f e c h = never_none at b
  expr-layer (Expr-F.Cast at t a) b f e c h =
      let split = first-none (type_place t.0) (built.expression a.0) b in
      tells-behind s IsThere (OperandApart s) e (type_of t.0 e) _ ((type-whole s scene t.0 split.0 (and-left (type_id_fits t.0) (constants_fit a.0) f)).fine e c h)
      (λ u e1 g c1 h1 i. one-tells s (λ k. onward (evaluated (elaborated a.0) k) (cast_operator at u)) e1
      (tells-behind s (Both s) (Apart s) e1 (evaluated (elaborated a.0) e1) (cast_operator at u) (evaluated-both s scene (elaborated a.0) e1 (part-of a split.1 (and-right (type_id_fits t.0) (constants_fit a.0) f)) c1 h1)
      (λ x e2 step c2 h2 k. cast_operator-tells s scene at u x e2 c2 h2 (λ w. inside-later e1 e2 u step (i (within-before e1 e2 s step w))) k)))
  expr-layer (Expr-F.Binary at op x y) b f e c h =
      let split = first-none (built.of_binary at op) (built.first (built.expression x.0) (built.expression y.0)) b in
      let sides = first-none (built.expression x.0) (built.expression y.0) split.1 in
      binary-runs at op (elaborated x.0) (elaborated y.0) split.0 (part-of x sides.0 (and-left (constants_fit x.0) (constants_fit y.0) f)) (part-of y sides.1 (and-right (constants_fit x.0) (constants_fit y.0) f)) e c h
  expr-layer (Expr-F.Conditional at q x y) b f e c h =
      let split = first-none (built.expression q.0) (built.first (built.expression x.0) (built.expression y.0)) b in
      let sides = first-none (built.expression x.0) (built.expression y.0) split.1 in
      let two = and-left (constants_fit q.0 && constants_fit x.0) (constants_fit y.0) f in
      conditional_row-tells s scene at (elaborated q.0) (elaborated x.0) (elaborated y.0) e (part-of q split.0 (and-left (constants_fit q.0) (constants_fit x.0) two)) (part-of x sides.0 (and-right (constants_fit q.0) (constants_fit x.0) two))
      (part-of y sides.1 (and-right (constants_fit q.0 && constants_fit x.0) (constants_fit y.0) f)) c h
  expr-layer (Expr-F.Assign at op x y) b f e c h =
      let split = first-none (built.expression x.0) (built.expression y.0) b in
      with_two-tells s scene (elaborated x.0) (elaborated y.0) (assign_operator at op) e (part-of x split.0 (and-left (constants_fit x.0) (constants_fit y.0) f)) (part-of y split.1 (and-right (constants_fit x.0) (constants_fit y.0) f))
      (λ u v e1 c1 h1 p q. bare-tells s _ (assign_operator-bare at op u v e1 c1)) c h
  expr-layer (Expr-F.Comma at all) b f e c h = comma-tells s scene at (map elaborated (map (λ (y : Expression). y.0) all)) e (parts-of all b f) c h

  -- ---- the whole

  expr-step : (x : Expr-F DeclTree Expr Param TypeId) (y : Expr-F Tree Expression Parametered Typing) → expr_of y ≡ x → P-expr (roll-Expr x)
  expr-step x y is = subst (λ z. P-expr (roll-Expr z)) is (λ b f.
      subst (λ (p : Part). Runs p.run) (sym (fold-roll-Expr Declared Part (Elab Parameter) (Elab ℕ) declared_step expression_step parameter_step type_id_step (expr_of y)))
      (expr-layer y (sym (fold-roll-Expr Place Place Place Place built.tree_step built.expression_step built.param_step built.type_step (expr_of y)) ∙ b)
      (sym (fold-roll-Expr Bool Bool Bool Bool constants.tree_step constants.expression_step constants.param_step constants.type_step (expr_of y)) ∙ f)))

  pub expression-runs : (x : Expr) → P-expr x
  expression-runs = ind-Expr (λ (d : DeclTree). Unit {0}) P-expr (λ (p : Param). Unit {0}) (λ (t : TypeId). Unit {0}) (λ _ _ _. tt) expr-step (λ _ _ _. tt) (λ _ _ _. tt)

  -- an expression of forms that are built, with constants of their types
  pub expression-apart : (x : Expr) → built.expression x ≡ None → constants_fit x ≡ true → ApartPart s (elaborated x)
  expression-apart x b f = record { part = (expression-whole s scene x b f).part; tells = λ e c h. expression-runs x b f e c h }

  pub expression-fine : (x : Expr) → built.expression x ≡ None → constants_fit x ≡ true → (e : Env) → Classless e → When s e (Holds s e) → Fine s (λ o f. OperandApart s o) e ((elaborated x).run e)
  expression-fine x b f e c h = by ((elaborated x).run e) ((expression-whole s scene x b f).part.run e c h) (expression-runs x b f e c h)
    where
      by : (r : Answer Operand) → FineOperand s e r → Tells s (OperandApart s) r → Fine s (λ o f. OperandApart s o) e r
      by (Made o g) k a = record { steps = k.0.steps; classless = k.0.classless; holds = k.0.holds; made = a }
      by (Refused rule at) k a = tt
      by (Passed bound most) k a = tt
