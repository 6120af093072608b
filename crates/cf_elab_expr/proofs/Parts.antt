-- What an expression is by its parts (5).
use Rattle.std.proofs.Common.{◌≡◌, ℕ, zero, suc, Bool, true, false, List, [], ◌∷◌, map, Option, None, Some, ℤ, pos, refl, sym, ap, ◌∙◌, if◌then◌else◌, is_some, not, ◌||◌, true≢false}
use Rattle.cf_base.specs.declared.kind.Kind.{Kind}
use Rattle.cf_base.specs.declared.kind.Kind.TheVariants as kind
use Rattle.cf_syntax.specs.declared.declarator.TypeId.{TypeId, fold-TypeId}
use Rattle.cf_syntax.specs.declared.declarator.DeclTree.{DeclTree}
use Rattle.cf_syntax.specs.declared.declarator.DeclTree.TheOpen.{Expr-F}
use Rattle.cf_syntax.specs.declared.declarator.DeclTree.TheFolds.{fold-roll-Expr, map-Expr}
use Rattle.cf_syntax.specs.declared.declarator.Param.{Param, fold-Param}
use Rattle.cf_syntax.specs.declared.expression.Expr.{Expr, roll-Expr, ind-Expr}
use Rattle.cf_syntax.specs.declared.expression.Expr.TheVariants as form
use Rattle.cf_syntax.specs.declared.name.Name.{Name as WrittenName}
use Rattle.cf_syntax.specs.declared.name.Path.{Path}
use Rattle.cf_syntax.specs.declared.specifier.BasicType.{BasicType}
use Rattle.cf_syntax.specs.declared.operator.AssignOp.{AssignOp}
use Rattle.cf_syntax.specs.declared.operator.BinaryOp.{BinaryOp}
use Rattle.cf_syntax.specs.declared.operator.BinaryOp.TheVariants as binary
use Rattle.cf_syntax.specs.declared.operator.PrefixOp.{PrefixOp}
use Rattle.cf_syntax.specs.declared.operator.PrefixOp.TheVariants as prefix
use Rattle.cf_syntax.specs.declared.operator.StepOp.{StepOp}
use Rattle.cf_elab.specs.Answer.{Answer, Made, Refused, Passed, onward, Elab, all}
use Rattle.cf_elab.specs.Built as built
use Rattle.cf_elab.specs.Env.{Env}
use Rattle.cf_elab.specs.Declarator.{Declared, declared_step, parameter_step, type_id_step}
use Rattle.cf_elab.specs.Expression as expression
use Rattle.cf_elab.specs.Expression.{elaborated, declared, expression_step, call_place, binary_row, prefix_row, address_row}
use Rattle.cf_elab.specs.Members.{class_number}
use Rattle.cf_elab.specs.Paths.{named_in_class, in_class_alone}
use Rattle.cf_elab.specs.Shape.{Parameter}
use Rattle.cf_elab.specs.Specifiers.{gathered, basic_word, conflicts, fits_basics, with_basic, no_basics, nothing_gathered}
use Rattle.cf_elab.specs.Unary.{size_constant}
use Rattle.cf_elab.specs.Operand.{Value, Operand, Part, value, value_of, sort_of, Sort, is_class, class_sort}
use Rattle.cf_elab_cast.specs.ChoiceShut as choice
use Rattle.cf_elab_env.specs.Holds.{IsEnv, IsType}
use Rattle.cf_elab_call.specs.Shut as call_row
use Rattle.cf_elab_cast.specs.Shut as cast_row
use Rattle.cf_elab_cast.proofs.ChoiceClassFree.{no_class}
use Rattle.cf_elab_specifiers.specs.Said.Shut as specifier
use Rattle.cf_elab_specifiers.specs.Named.Shut as type_name
use Rattle.cf_elab_operand.specs.Shut as operand_row
use Rattle.cf_elab_operators.specs.Operators.Shut as operator
use Rattle.cf_elab_expr.specs.Shut as shut
use Rattle.cf_elab_expr.proofs.BuiltForms.{binary_op, prefix_inside, name_built}

abbrev pub parameter : Param → Elab Parameter
parameter = fold-Param Declared Part (Elab Parameter) (Elab ℕ) declared_step expression_step parameter_step type_id_step

abbrev pub type_of : TypeId → Elab ℕ
type_of = fold-TypeId Declared Part (Elab Parameter) (Elab ℕ) declared_step expression_step parameter_step type_id_step

-- an expression is made of what its parts are
pub made_of : (x : Expr-F DeclTree Expr Param TypeId) → elaborated (roll-Expr x) ≡ expression_step (map-Expr DeclTree Expr Param TypeId Declared Part (Elab Parameter) (Elab ℕ) declared elaborated parameter type_of x)
made_of x = fold-roll-Expr Declared Part (Elab Parameter) (Elab ℕ) declared_step expression_step parameter_step type_id_step x

ran : (x : Expr-F DeclTree Expr Param TypeId) (env : Env) → shut.run (roll-Expr x) env ≡ (expression_step (map-Expr DeclTree Expr Param TypeId Declared Part (Elab Parameter) (Elab ℕ) declared elaborated parameter type_of x)).run env
unfolding shut.run
ran x env = ap (λ (p : Part). p.run env) (made_of x)

-- one value, as an operand
abbrev pub as_operand : Answer Value → Answer Operand
as_operand a = onward a (λ v env. Made (value v) env)

pub valued_is : (e : Expr) (env : Env) → shut.valued e env ≡ onward (shut.run e env) (λ o env. operand_row.value_of o env)
unfolding shut.valued shut.run operand_row.value_of
valued_is e env = refl

-- what comes behind the second comes behind the first and the second
pub through : {A B C : Type 0} (a : Answer A) (f : A → Env → Answer B) (g : B → Env → Answer C) → onward (onward a f) g ≡ onward a (λ x env. onward (f x env) g)
through (Made x env) f g = refl
through (Refused rule at) f g = refl
through (Passed bound most) f g = refl

pub second_is : (o : Operand) (b : Expr) (env : Env)
    → shut.second o b env ≡ onward (shut.run b env) (λ p env. onward (operand_row.value_of o env) (λ x env. onward (operand_row.value_of p env) (λ y env. Made (x, y) env)))
unfolding shut.second operand_row.value_of
second_is o b env = refl

pub two_is : (go : Value → Value → Elab Value) (o : Operand) (b : Expr) (env : Env) → shut.two go o b env ≡ as_operand (onward (shut.second o b env) (λ xy env. go xy.0 xy.1 env))
unfolding shut.two
two_is go o b env = refl

pub third_is : (at : ℕ) (o p : Operand) (b : Expr) (env : Env)
    → shut.third at o p b env
    ≡ onward (shut.run b env) (λ q env. onward (operand_row.value_of o env) (λ x env. onward (operand_row.value_of p env) (λ y env. onward (operand_row.value_of q env) (λ z env. as_operand (choice.conditional at x y z env)))))
unfolding shut.third operand_row.value_of choice.conditional
third_is at o p b env = refl

pub of_type_is : (at t : ℕ) (es : List Expr) (env : Env) → shut.of_type at t es env ≡ onward (shut.values es env) (λ vs env. as_operand (shut.given_to at t vs env))
unfolding shut.of_type shut.values shut.given_to
of_type_is at t es env = refl

no_number : (s : Sort) → is_class s ≡ false → class_number s ≡ None
no_number (class_sort c) h = absurd (true≢false h)
no_number other h = refl

pub given_is : (at t : ℕ) (vs : List Value) (env : Env) → IsEnv env → IsType env.types t → shut.given_to at t vs env ≡ cast_row.from_arguments at t vs env
unfolding shut.given_to cast_row.from_arguments
given_is at t vs env e k =
    ap (λ c. expression.from_type at t vs c env) (no_number (sort_of env.types t) (no_class env.types t e.table e.no_class_type k))

-- one fundamental type names none
pub basic_named : (at : ℕ) (b : BasicType) → (gathered (basic_word at b ∷ [])).named ≡ None
basic_named at b = by (is_some nothing_gathered.named || not (fits_basics b no_basics))
  where
    by : (x : Bool) → (conflicts x at (record nothing_gathered { basics = with_basic b no_basics; is_empty = false })).named ≡ None
    by true = refl
    by false = refl

pub called_is : (at : ℕ) (o : Operand) (es : List Expr) (env : Env) → shut.called at o es env ≡ onward (shut.values es env) (λ vs env. as_operand (call_row.call_operand at o vs env))
unfolding shut.called shut.values call_row.call_operand
called_is at o es env = refl

-- both parts, and what is made of them
paired : (go : Value → Value → Elab Value) (a b : Expr) (env : Env) → expression.with_two (elaborated a) (elaborated b) go env ≡ onward (shut.run a env) (λ o env. shut.two go o b env)
unfolding shut.run shut.two shut.second
paired go a b env =
    ap as_operand (through ((elaborated a).run env) (λ o env. shut.second o b env) (λ xy env. go xy.0 xy.1 env))
    ∙ through ((elaborated a).run env) (λ o env. onward (shut.second o b env) (λ xy env. go xy.0 xy.1 env)) (λ v env. Made (value v) env)

runs_map : (es : List Expr) → map (λ (p : Part). p.run) (map elaborated es) ≡ map shut.run es
unfolding shut.run
runs_map [] = refl
runs_map (e ∷ es) = ap (λ l. (elaborated e).run ∷ l) (runs_map es)

pub values_is : (es : List Expr) (env : Env) → shut.values es env ≡ onward (shut.runs es env) (λ os env. operand_row.values os env)
unfolding shut.values shut.runs operand_row.values
values_is es env = ap (λ l. onward (all l env) (λ os env. operand_row.values os env)) (runs_map es)

module _ (at : ℕ) (env : Env) where
  pub basic_is : (b : BasicType) (es : List Expr)
      → shut.run (form.BasicCall at b es) env ≡ onward (specifier.base_type (gathered (basic_word at b ∷ [])) env) (λ t env. shut.of_type at t es env)
  unfolding shut.run shut.of_type shut.given_to specifier.base_type roll-Expr denote.Hole.Carrier.roll
  basic_is b es = ran (Expr-F.BasicCall at b es) env

  pub typed_is : (p : Path) (es : List Expr) → shut.run (form.TypeCall at p es) env ≡ onward (type_name.type_at_path p env) (λ t env. shut.of_type at t es env)
  unfolding shut.run shut.of_type shut.given_to type_name.type_at_path roll-Expr denote.Hole.Carrier.roll
  typed_is p es = ran (Expr-F.TypeCall at p es) env

  pub binary_is : (op : BinaryOp) (a b : Expr) → shut.IsBuilt (form.Binary at op a b)
      → shut.run (form.Binary at op a b) env ≡ onward (shut.run a env) (λ o env. shut.two (operator.binary_operator at op) o b env)
  unfolding shut.run operator.binary_operator roll-Expr denote.Hole.Carrier.roll
  binary_is op a b h = ran (Expr-F.Binary at op a b) env ∙ by op (binary_op at op a b h) ∙ paired (operator.binary_operator at op) a b env
    where
      by : (op : BinaryOp) → built.of_binary at op ≡ None
          → binary_row at op (elaborated a) (elaborated b) env ≡ expression.with_two (elaborated a) (elaborated b) (operator.binary_operator at op) env
      by binary.DotStar e = cc
      by binary.ArrowStar e = cc
      by op e = refl

  pub index_is : (a b : Expr) → shut.run (form.Index at a b) env ≡ onward (shut.run a env) (λ o env. shut.two (operator.index_operator at) o b env)
  unfolding shut.run operator.index_operator roll-Expr denote.Hole.Carrier.roll
  index_is a b = ran (Expr-F.Index at a b) env ∙ paired (operator.index_operator at) a b env

  pub before_is : (op : StepOp) (a : Expr) → shut.run (form.StepBefore at op a) env ≡ as_operand (onward (shut.valued a env) (λ x env. operator.step_operator at op false x env))
  unfolding shut.run shut.valued operator.step_operator roll-Expr denote.Hole.Carrier.roll
  before_is op a = ran (Expr-F.StepBefore at op a) env

  pub behind_is : (op : StepOp) (a : Expr) → shut.run (form.StepAfter at op a) env ≡ as_operand (onward (shut.valued a env) (λ x env. operator.step_operator at op true x env))
  unfolding shut.run shut.valued operator.step_operator roll-Expr denote.Hole.Carrier.roll
  behind_is op a = ran (Expr-F.StepAfter at op a) env

  pub assign_is : (op : AssignOp) (a b : Expr) → shut.run (form.Assign at op a b) env ≡ onward (shut.run a env) (λ o env. shut.two (operator.assign_operator at op) o b env)
  unfolding shut.run operator.assign_operator roll-Expr denote.Hole.Carrier.roll
  assign_is op a b = ran (Expr-F.Assign at op a b) env ∙ paired (operator.assign_operator at op) a b env

  pub comma_is : (es : List Expr) → shut.run (form.Comma at es) env ≡ shut.between at es env
  unfolding shut.run shut.between roll-Expr denote.Hole.Carrier.roll
  comma_is es = ran (Expr-F.Comma at es) env

  pub comma_of : (es : List Expr) → shut.between at es env ≡ as_operand (onward (shut.values es env) (λ vs env. choice.sequence at vs env))
  unfolding shut.between shut.values choice.sequence
  comma_of es = refl

  pub size_is : (a : Expr) → shut.run (form.SizeofExpr at a) env ≡ onward (shut.run a env) (λ o behind. operand_row.size_behind at env.hand.literals o behind)
  unfolding shut.run operand_row.size_behind roll-Expr denote.Hole.Carrier.roll
  size_is a = ran (Expr-F.SizeofExpr at a) env ∙ through ((elaborated a).run env) value_of (λ v behind. sized v behind)
    where
      sized : Value → Env → Answer Operand
      sized v behind = expression.one (size_constant at v.type) (record behind { hand = record behind.hand { literals = env.hand.literals } })

  pub size_of_type_is : (t : TypeId) → shut.run (form.SizeofType at t) env ≡ onward (shut.type_of t env) (λ u env. as_operand (operand_row.size_constant at u env))
  unfolding shut.run shut.type_of operand_row.size_constant roll-Expr denote.Hole.Carrier.roll
  size_of_type_is t = ran (Expr-F.SizeofType at t) env

  pub cast_is : (t : TypeId) (a : Expr) → shut.run (form.Cast at t a) env ≡ onward (shut.type_of t env) (λ u env. shut.cast_to at u a env)
  unfolding shut.run shut.type_of shut.cast_to roll-Expr denote.Hole.Carrier.roll
  cast_is t a = ran (Expr-F.Cast at t a) env

  pub cast_to_is : (t : ℕ) (a : Expr) → shut.cast_to at t a env ≡ as_operand (onward (shut.valued a env) (λ x env. cast_row.cast_operator at t x env))
  unfolding shut.cast_to shut.valued cast_row.cast_operator
  cast_to_is t a = refl

  pub call_is : (f : Expr) (es : List Expr) → shut.run (form.Call at f es) env ≡ onward (shut.run f env) (λ o env. shut.called (call_place at (shut.last_name f)) o es env)
  unfolding shut.run shut.called shut.last_name roll-Expr denote.Hole.Carrier.roll
  call_is f es = ran (Expr-F.Call at f es) env

  pub int_is : (n : ℕ) (k : Kind) → shut.run (form.Int at n k) env ≡ operand_row.integer at (pos n) k env
  unfolding shut.run operand_row.integer roll-Expr denote.Hole.Carrier.roll
  int_is n k = ran (Expr-F.Int at n k) env

  pub char_is : (z : ℤ) → shut.run (form.Char at z) env ≡ operand_row.integer at z kind.Char env
  unfolding shut.run operand_row.integer roll-Expr denote.Hole.Carrier.roll
  char_is z = ran (Expr-F.Char at z) env

  pub text_is : (bytes : List ℕ) → shut.run (form.Text at bytes) env ≡ operand_row.literal at bytes env
  unfolding shut.run operand_row.literal roll-Expr denote.Hole.Carrier.roll
  text_is bytes = ran (Expr-F.Text at bytes) env

  pub paren_is : (a : Expr) → shut.run (form.Paren at a) env ≡ shut.run a env
  unfolding shut.run roll-Expr denote.Hole.Carrier.roll
  paren_is a = ran (Expr-F.Paren at a) env

  pub conditional_is : (c a b : Expr)
      → shut.run (form.Conditional at c a b) env ≡ onward (shut.run c env) (λ o env. onward (shut.run a env) (λ p env. shut.third at o p b env))
  unfolding shut.run shut.third roll-Expr denote.Hole.Carrier.roll
  conditional_is c a b = ran (Expr-F.Conditional at c a b) env

-- a name that is not qualified stands for itself
named_alone : (n : WrittenName) → built.of_name n ≡ None → named_in_class n ≡ None
named_alone n h = by n.from_file n.scopes h
  where
    alone : List (List ℕ) → Option (Elab Operand)
    alone scopes = elim scopes [ [] ↦ None | q ∷ qs ↦ Some (in_class_alone n q qs) ]

    by : (file : Bool) (scopes : List (List ℕ)) → (if built.is_qualified file scopes then Some n.at else built.of_last n.at n.last) ≡ None → alone scopes ≡ None
    by file [] h = refl
    by true (q ∷ qs) h = let e : Some n.at ≡ None = h in absurd cc
    by false (q ∷ qs) h = let e : Some n.at ≡ None = h in absurd cc

alone_of : (x : Expr-F DeclTree Expr Param TypeId) → shut.IsBuilt (roll-Expr x) → (expression_step (map-Expr DeclTree Expr Param TypeId Declared Part (Elab Parameter) (Elab ℕ) declared elaborated parameter type_of x)).of_class ≡ None
unfolding roll-Expr shut.IsBuilt denote.Hole.Carrier.roll
alone_of (Expr-F.Named n) h = named_alone n (name_built n h)
alone_of (Expr-F.Int at n k) h = refl
alone_of (Expr-F.Char at z) h = refl
alone_of (Expr-F.Text at bytes) h = refl
alone_of (Expr-F.This at) h = refl
alone_of (Expr-F.Paren at a) h = refl
alone_of (Expr-F.BasicCall at b args) h = refl
alone_of (Expr-F.TypeCall at path args) h = refl
alone_of (Expr-F.Index at a b) h = refl
alone_of (Expr-F.Call at f args) h = refl
alone_of (Expr-F.Dot at a n) h = refl
alone_of (Expr-F.Arrow at a n) h = refl
alone_of (Expr-F.StepAfter at op a) h = refl
alone_of (Expr-F.StepBefore at op a) h = refl
alone_of (Expr-F.Prefix at op a) h = refl
alone_of (Expr-F.SizeofExpr at a) h = refl
alone_of (Expr-F.SizeofType at t) h = refl
alone_of (Expr-F.Delete at file many a) h = refl
alone_of (Expr-F.New at file ss ps bs has args) h = refl
alone_of (Expr-F.NewBracketed at file t has args) h = refl
alone_of (Expr-F.Cast at t a) h = refl
alone_of (Expr-F.Binary at op a b) h = refl
alone_of (Expr-F.Conditional at c a b) h = refl
alone_of (Expr-F.Assign at op a b) h = refl
alone_of (Expr-F.Comma at es) h = refl

abbrev StandsAlone : Expr → Type 0
StandsAlone e = shut.IsBuilt e → (elaborated e).of_class ≡ None

stands_alone : (e : Expr) → StandsAlone e
stands_alone =
    ind-Expr (λ _. Unit {0}) StandsAlone (λ _. Unit {0}) (λ _. Unit {0}) (λ _ _ _. tt)
    (λ x y is h. ap (λ (p : Part). p.of_class) (made_of x) ∙ alone_of x h)
    (λ _ _ _. tt) (λ _ _ _. tt)

module _ (at : ℕ) (env : Env) where
  pub prefix_is : (op : PrefixOp) (a : Expr) → shut.IsBuilt (form.Prefix at op a)
      → shut.run (form.Prefix at op a) env ≡ as_operand (onward (shut.valued a env) (λ x env. operator.prefix_operator at op x env))
  unfolding shut.run shut.valued operator.prefix_operator roll-Expr denote.Hole.Carrier.roll
  prefix_is op a h = ran (Expr-F.Prefix at op a) env ∙ by op
    where
      by : (op : PrefixOp) → prefix_row at op (elaborated a) env ≡ as_operand (onward (shut.valued a env) (λ x env. operator.prefix_operator at op x env))
      by prefix.AddressOf = ap (λ c. address_row at (elaborated a) c env) (stands_alone a (prefix_inside at op a h))
      by op = refl

pub named_is : (n : WrittenName) (env : Env) → shut.run (form.Named n) env ≡ operand_row.named n env
unfolding shut.run operand_row.named roll-Expr denote.Hole.Carrier.roll
named_is n env = ran (Expr-F.Named n) env
