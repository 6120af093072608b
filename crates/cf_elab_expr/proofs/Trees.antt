-- What declarators, parameters and types in brackets are by their parts (8).
use Rattle.std.proofs.Common.{◌≡◌, ℕ, ◌<◌, ◌≤◌, Bool, List, [], ◌∷◌, length, map, get_or, Option, None, Some, refl, sym, ap, subst, ◌∙◌, arith}
use Rattle.cf_syntax.specs.declared.declarator.DeclTree.{DeclTree, roll-DeclTree}
use Rattle.cf_syntax.specs.declared.declarator.DeclTree.TheOpen.{DeclTree-F}
use Rattle.cf_syntax.specs.declared.declarator.DeclTree.TheFolds.{fold-roll-DeclTree, fold_out-Param, fold_out-TypeId, map-DeclTree}
use Rattle.cf_syntax.specs.declared.declarator.DeclTree.TheVariants as tree
use Rattle.cf_syntax.specs.declared.declarator.Param.{Param, Param-F, out-Param, map-Param}
use Rattle.cf_syntax.specs.declared.declarator.TypeId.{TypeId, out-TypeId}
use Rattle.cf_syntax.specs.declared.expression.Expr.{Expr}
use Rattle.cf_syntax.specs.declared.name.Name.{Name as WrittenName}
use Rattle.cf_syntax.specs.declared.specifier.Pointer.{Pointer}
use Rattle.cf_syntax.specs.declared.specifier.TypeSpecifier.{TypeSpecifier}
use Rattle.cf_elab.specs.Answer.{Answer, Made, Refused, Passed, onward, Elab, ◌>>=◌, ◌>>◌, gives, none_at, each}
use Rattle.cf_elab.specs.Declarator.{Declared, declared_step, parameter_step, type_id_step, pointed, words_of, as_object, object_parameter}
use Rattle.cf_elab.specs.Env.{Env}
use Rattle.cf_elab.specs.Expression.{elaborated, declared, expression_step}
use Rattle.cf_elab.specs.Operand.{Part}
use Rattle.cf_elab.specs.Shape as shape
use Rattle.cf_elab.specs.Shape.{Parameter, Shape, typed, bounds_constant}
use Rattle.cf_elab.specs.Specifiers.{Word, gathered, base_type, is_stored, parameter_conflict}
use Rattle.cf_elab_env.specs.Answered.{Stops}
use Rattle.cf_elab_env.specs.declared.stop.Stop.{Stop}
use Rattle.cf_elab_env.specs.declared.stop.Stop.TheVariants.{Broken as RuleBroken, Passed as LimitPassed, Memory}
use Rattle.cf_elab_shape.specs.Shapes.Seen.{pointed_shape}
use Rattle.cf_elab_shape.specs.Shapes.Shut as shape_row
use Rattle.cf_elab_shape.proofs.ShapesLaws.StepLaws.{pointed_is}
use Rattle.cf_elab_shape.specs.TypeIds.Shut as type_row
use Rattle.cf_elab_specifiers.specs.Named.Shut as type_name
use Rattle.cf_elab_expr.specs.Shut as shut
use Rattle.cf_elab_expr.proofs.BuiltTrees.{pointed_by, no_default}
use Rattle.cf_elab_expr.proofs.Parts.{parameter, type_of, through}

-- what is the same of each value is so behind an answer
onward-same : {A B : Type 0} (a : Answer A) (f g : A → Elab B) → ((x : A) (env : Env) → f x env ≡ g x env) → onward a f ≡ onward a g
onward-same (Made x env) f g same = same x env
onward-same (Refused rule at) f g same = refl
onward-same (Passed bound most) f g same = refl

-- a declarator is made of what its parts are
made_of : (x : DeclTree-F DeclTree Expr Param TypeId)
    → declared (roll-DeclTree x) ≡ declared_step (map-DeclTree DeclTree Expr Param TypeId Declared Part (Elab Parameter) (Elab ℕ) declared elaborated parameter type_of x)
made_of x = fold-roll-DeclTree Declared Part (Elab Parameter) (Elab ℕ) declared_step expression_step parameter_step type_id_step x

shaped : (x : DeclTree-F DeclTree Expr Param TypeId) (env : Env)
    → shut.shape_of (roll-DeclTree x) env ≡ (declared_step (map-DeclTree DeclTree Expr Param TypeId Declared Part (Elab Parameter) (Elab ℕ) declared elaborated parameter type_of x)).shape env
unfolding shut.shape_of
shaped x env = ap (λ (d : Declared). d.shape env) (made_of x)

named : (x : DeclTree-F DeclTree Expr Param TypeId)
    → shut.name_of (roll-DeclTree x) ≡ (declared_step (map-DeclTree DeclTree Expr Param TypeId Declared Part (Elab Parameter) (Elab ℕ) declared elaborated parameter type_of x)).name
unfolding shut.name_of
named x = ap (λ (d : Declared). d.name) (made_of x)

-- ---- the name

pub name_unnamed : shut.name_of tree.Unnamed ≡ None
unfolding shut.name_of roll-DeclTree denote.Hole.Carrier.roll
name_unnamed = named DeclTree-F.Unnamed

pub name_declared : (n : WrittenName) → shut.name_of (tree.Declared n) ≡ Some n
unfolding shut.name_of roll-DeclTree denote.Hole.Carrier.roll
name_declared n = named (DeclTree-F.Declared n)

pub name_pointed : (p : Pointer) (d : DeclTree) → shut.name_of (tree.Pointed p d) ≡ shut.name_of d
unfolding shut.name_of roll-DeclTree denote.Hole.Carrier.roll
name_pointed p d = named (DeclTree-F.Pointed p d)

pub name_bracketed : (at : ℕ) (d : DeclTree) → shut.name_of (tree.Bracketed at d) ≡ shut.name_of d
unfolding shut.name_of roll-DeclTree denote.Hole.Carrier.roll
name_bracketed at d = named (DeclTree-F.Bracketed at d)

pub name_function : (at : ℕ) (d : DeclTree) (ps : List Param) (c : Bool) → shut.name_of (tree.Function at d ps c) ≡ shut.name_of d
unfolding shut.name_of roll-DeclTree denote.Hole.Carrier.roll
name_function at d ps c = named (DeclTree-F.Function at d ps c)

pub name_array : (at : ℕ) (d : DeclTree) (b : Option Expr) → shut.name_of (tree.Array at d b) ≡ shut.name_of d
unfolding shut.name_of roll-DeclTree denote.Hole.Carrier.roll
name_array at d None = named (DeclTree-F.Array at d None)
name_array at d (Some e) = named (DeclTree-F.Array at d (Some e))

pub ruleset name_laws = (name_unnamed, name_declared, name_pointed, name_bracketed, name_function, name_array)

-- ---- the operators

module _ (env : Env) where
  pub shape_unnamed : shut.shape_of tree.Unnamed env ≡ Made shape.inner env
  unfolding shut.shape_of roll-DeclTree denote.Hole.Carrier.roll
  shape_unnamed = shaped DeclTree-F.Unnamed env

  pub shape_declared : (n : WrittenName) → shut.shape_of (tree.Declared n) env ≡ Made shape.inner env
  unfolding shut.shape_of roll-DeclTree denote.Hole.Carrier.roll
  shape_declared n = shaped (DeclTree-F.Declared n) env

  pub shape_pointed : (p : Pointer) (d : DeclTree) → shut.TreeIsBuilt (tree.Pointed p d)
      → shut.shape_of (tree.Pointed p d) env ≡ onward (shut.shape_of d env) (λ s env. Made (pointed_shape p s) env)
  unfolding shut.shape_of shape_row.pointed roll-DeclTree denote.Hole.Carrier.roll
  shape_pointed p d h = shaped (DeclTree-F.Pointed p d) env ∙ by (shut.shape_of d env)
    where
      by : (a : Answer Shape) → onward a (λ s env. pointed p s env) ≡ onward a (λ s env. Made (pointed_shape p s) env)
      by (Made s e) = pointed_is p s e (pointed_by p d h)
      by (Refused rule at) = refl
      by (Passed bound most) = refl

  pub shape_bracketed : (at : ℕ) (d : DeclTree) → shut.shape_of (tree.Bracketed at d) env ≡ shut.shape_of d env
  unfolding shut.shape_of roll-DeclTree denote.Hole.Carrier.roll
  shape_bracketed at d = shaped (DeclTree-F.Bracketed at d) env

  pub shape_function : (at : ℕ) (d : DeclTree) (ps : List Param) (c : Bool)
      → shut.shape_of (tree.Function at d ps c) env ≡ onward (shut.shape_of d env) (λ s env. shut.taking at ps c s env)
  unfolding shut.shape_of shut.taking shut.parameter roll-DeclTree denote.Hole.Carrier.roll
  shape_function at d ps c = shaped (DeclTree-F.Function at d ps c) env

  pub shape_array : (at : ℕ) (d : DeclTree) (b : Option Expr)
      → shut.shape_of (tree.Array at d b) env ≡ onward (shut.shape_of d env) (λ s env. shut.holding at b s env)
  unfolding shut.shape_of shut.holding roll-DeclTree denote.Hole.Carrier.roll
  shape_array at d None = shaped (DeclTree-F.Array at d None) env
  shape_array at d (Some e) = shaped (DeclTree-F.Array at d (Some e)) env

  -- behind what stands inside
  pub taking_is : (at : ℕ) (ps : List Param) (c : Bool) (s : Shape)
      → shut.taking at ps c s env ≡ onward (shut.parameters ps env) (λ qs env. Made (shape.taking at qs c s) env)
  unfolding shut.taking shut.parameters
  taking_is at ps c s = refl

  pub holding_is : (at : ℕ) (b : Option Expr) (s : Shape) → shut.holding at b s env ≡ onward (shut.bound b env) (λ v env. Made (shape.holding at v s) env)
  unfolding shut.holding shut.bound
  holding_is at b s = refl

  pub no_bound : shut.bound None env ≡ Made None env
  unfolding shut.bound
  no_bound = refl

  pub bound_is : (e : Expr) → shut.bound (Some e) env ≡ onward (shut.valued e env) (λ v env. Made (Some v) env)
  unfolding shut.bound shut.valued
  bound_is e = refl

-- the bound of an array stops its declarator
pub array_stopped : (d inside : DeclTree) (at : ℕ) (b : Option Expr) (s : Shape) (env mid : Env) (stop : Stop) → d ≡ tree.Array at inside b
    → shut.shape_of inside env ≡ Made s mid → Stops (shut.holding at b s mid) stop → Stops (shut.shape_of d env) stop
array_stopped d inside at b s env mid stop is inner g =
    let all : shut.shape_of d env ≡ shut.holding at b s mid = ap (λ d. shut.shape_of d env) is ∙ shape_array env at inside b ∙ ap (λ a. onward a (λ s env. shut.holding at b s env)) inner in
    subst (λ a. Stops a stop) (sym all) g

pub ruleset shape_laws = (shape_unnamed, shape_declared, shape_pointed, shape_bracketed, shape_function, shape_array)

pub ruleset bound_laws = (no_bound, bound_is)

-- ---- types in brackets

pub type_is : (t : TypeId) (env : Env) → shut.type_of t env ≡ shut.type_by (out-TypeId t).specifiers (out-TypeId t).declarator env
unfolding shut.type_of shut.type_by
type_is t env = ap (λ (run : Elab ℕ). run env) (fold_out-TypeId Declared Part (Elab Parameter) (Elab ℕ) declared_step expression_step parameter_step type_id_step t)

pub type_by_is : (ss : List TypeSpecifier) (d : DeclTree) (env : Env)
    → shut.type_by ss d env ≡ onward (type_name.words_of ss env) (λ ws env. onward (shut.shape_of d env) (λ s env. type_row.type_behind ws s env))
unfolding shut.type_by shut.shape_of type_name.words_of type_row.type_behind
type_by_is ss d env = refl

-- ---- parameters

pub object_parameter_is : (p : Param) (env : Env)
    → shut.object_parameter p env ≡ onward (shut.parameter p env) (λ q env. onward (shape_row.no_void q env) (λ _ env. Made q env))
unfolding shut.object_parameter shut.parameter shape_row.no_void
object_parameter_is p env = refl

same_objects : (ps : List Param) (env : Env) → each object_parameter (map parameter ps) env ≡ shut.object_parameters ps env
unfolding shut.object_parameters shut.object_parameter shut.parameter
same_objects [] env = refl
same_objects (p ∷ ps) env =
    onward-same (object_parameter (parameter p) env) (λ y e. onward (each object_parameter (map parameter ps) e) (λ ys e. Made (y ∷ ys) e)) (λ y e. onward (shut.object_parameters ps e) (λ ys e. Made (y ∷ ys) e))
    (λ y e. ap (λ a. onward a (λ ys e. Made (y ∷ ys) e)) (same_objects ps e))

pub one_parameter : (ps : List Param) (p : Param) (env : Env) → 1 ≤ length ps → length ps < 2 → p ≡ get_or ps 0 p
    → shut.parameters ps env ≡ onward (shut.parameter p env) (λ q env. shape_row.only_parameter q env)
unfolding shut.parameters shut.parameter shape_row.only_parameter
one_parameter [] p env some few is = absurd (omega arith)
one_parameter (q ∷ []) p env some few is = ap (λ (x : Param). shut.parameters (x ∷ []) env) (sym is)
one_parameter (q ∷ r ∷ ps) p env some few is = absurd (omega arith)

pub more_parameters : (ps : List Param) (env : Env) → (length ps ≡ 1 → ⊥) → shut.parameters ps env ≡ shut.object_parameters ps env
unfolding shut.parameters shut.parameter
more_parameters [] env other = same_objects [] env
more_parameters (p ∷ []) env other = absurd (other refl)
more_parameters (p ∷ q ∷ ps) env other = same_objects (p ∷ q ∷ ps) env

pub ruleset parameters_laws = (one_parameter, more_parameters)

-- what stops a step stops what is behind it
stops_behind : {A B : Type 0} (a : Answer A) (f : A → Elab B) (stop : Stop) → Stops a stop → Stops (onward a f) stop
stops_behind a f (RuleBroken b) g = ap (λ a. onward a f) g
stops_behind a f (LimitPassed l) g = ap (λ a. onward a f) g
stops_behind a f Memory g = tt

module _ (ps : List Param) (p : Param) (env : Env) (some : 1 ≤ length ps) (few : length ps < 2) (is : p ≡ get_or ps 0 p) where
  abbrev alone : Answer Parameter → Answer (List Parameter)
  alone a = onward a (λ q env. shape_row.only_parameter q env)

  pub parameter_stops : (stop : Stop) → Stops (shut.parameter p env) stop → Stops (shut.parameters ps env) stop
  parameter_stops stop g =
      subst (λ (a : Answer (List Parameter)). Stops a stop) (sym (one_parameter ps p env some few is))
      (stops_behind (shut.parameter p env) (λ q env. shape_row.only_parameter q env) stop g)

  pub list_stops : (q : Parameter) (next : Env) (stop : Stop) → shut.parameter p env ≡ Made q next → Stops (shape_row.only_parameter q next) stop → Stops (shut.parameters ps env) stop
  list_stops q next stop h g = subst (λ (a : Answer (List Parameter)). Stops a stop) (sym (one_parameter ps p env some few is ∙ ap alone h)) g

  pub list_made : (q : Parameter) (list : List Parameter) (next : Env) → shut.parameter p env ≡ Made q next → shape_row.only_parameter q next ≡ Made list next
      → shut.parameters ps env ≡ Made list next
  list_made q list next h g = one_parameter ps p env some few is ∙ ap alone h ∙ g

-- what comes behind five steps comes behind the last of them
module _ {B C D E F : Type 0} (b : Elab B) (t : B → Elab C) (c : Elab D) (o : C → Elab E) (go : E → Elab F) where
  behind_third : (r : Answer C) → onward (onward r (λ y e. onward (c e) (λ _. o y))) go ≡ onward r (λ y e. onward (c e) (λ _ e. onward (o y e) go))
  behind_third (Made y e) = through (c e) (λ _. o y) go
  behind_third (Refused rule at) = refl
  behind_third (Passed bound most) = refl

  behind_second : (r : Answer B) → onward (onward r (λ x e. onward (t x e) (λ y e. onward (c e) (λ _. o y)))) go
      ≡ onward r (λ x e. onward (t x e) (λ y e. onward (c e) (λ _ e. onward (o y e) go)))
  behind_second (Made x e) = behind_third (t x e)
  behind_second (Refused rule at) = refl
  behind_second (Passed bound most) = refl

  behind_all : {A : Type 0} (r : Answer A) → onward (onward r (λ _ e. onward (b e) (λ x e. onward (t x e) (λ y e. onward (c e) (λ _. o y))))) go
      ≡ onward r (λ _ e. onward (b e) (λ x e. onward (t x e) (λ y e. onward (c e) (λ _ e. onward (o y e) go))))
  behind_all (Made u e) = behind_second (b e)
  behind_all (Refused rule at) = refl
  behind_all (Passed bound most) = refl

abbrev layer : ℕ → List TypeSpecifier → DeclTree → Option (ℕ × Expr) → Param-F DeclTree Expr Param TypeId
layer at ss d g = record { at = at; specifiers = ss; declarator = d; default = g }

module _ (at : ℕ) (d : DeclTree) where
  -- a parameter without a default argument, of this type and with these specifiers
  abbrev with_type : List Word → ℕ → Parameter
  with_type ws t = record { at = at; name = (declared d).name; type = t; default = None; is_stored = is_stored (gathered ws) }

  -- its type, and then the parameter; and the same where the type is one step
  abbrev typed_then : List Word → Shape → Elab Parameter
  typed_then ws s = do
    none_at (parameter_conflict (gathered ws)) 24
    base ← base_type (gathered ws)
    t ← typed type_row.of_parameter s base
    bounds_constant s
    u ← as_object t
    gives (with_type ws u)

  abbrev typed_behind : List Word → Shape → Elab Parameter
  typed_behind ws s env = onward (type_row.parameter_behind ws s env) (λ t env. Made (with_type ws t) env)

  same_type : (ws : List Word) (s : Shape) (env : Env) → typed_then ws s env ≡ typed_behind ws s env
  unfolding type_row.parameter_behind
  same_type ws s env =
      sym
      (behind_all (base_type (gathered ws)) (typed type_row.of_parameter s) (bounds_constant s) as_object (λ u env. Made (with_type ws u) env) (none_at (parameter_conflict (gathered ws)) 24 env))

  layer_is : (ss : List TypeSpecifier) (g : Option (ℕ × Expr)) (env : Env) → g ≡ None
      → parameter_step (map-Param DeclTree Expr Param TypeId Declared Part (Elab Parameter) (Elab ℕ) declared elaborated parameter type_of (layer at ss d g)) env
      ≡ onward (words_of ss env) (λ ws env. onward ((declared d).shape env) (λ s. typed_then ws s))
  layer_is ss None env is = refl
  layer_is ss (Some g) env is = cc

pub parameter_is : (p : Param) (env : Env) → shut.ParameterIsBuilt p
    → shut.parameter p env ≡ shut.parameter_by (out-Param p).at (out-Param p).specifiers (out-Param p).declarator env
unfolding shut.parameter shut.parameter_by type_row.is_stored
parameter_is p env h =
    let x : Param-F DeclTree Expr Param TypeId = out-Param p in
    ap (λ (run : Elab Parameter). run env) (fold_out-Param Declared Part (Elab Parameter) (Elab ℕ) declared_step expression_step parameter_step type_id_step p)
    ∙ layer_is x.at x.declarator x.specifiers x.default env (no_default p h)
    ∙ onward-same (words_of x.specifiers env) (λ ws env. onward ((declared x.declarator).shape env) (λ s. typed_then x.at x.declarator ws s))
    (λ ws env. onward ((declared x.declarator).shape env) (λ s. typed_behind x.at x.declarator ws s))
    (λ ws env. onward-same ((declared x.declarator).shape env) (λ s. typed_then x.at x.declarator ws s) (λ s. typed_behind x.at x.declarator ws s) (λ s env. same_type x.at x.declarator ws s env))

pub parameter_by_is : (at : ℕ) (ss : List TypeSpecifier) (d : DeclTree) (env : Env)
    → shut.parameter_by at ss d env
    ≡ onward (type_name.words_of ss env) (λ ws env. onward (shut.shape_of d env) (λ s env.
    onward (type_row.parameter_behind ws s env) (λ t env. Made (record { at = at; name = shut.name_of d; type = t; default = None; is_stored = type_row.is_stored ws }) env)))
unfolding shut.parameter_by shut.shape_of shut.name_of type_name.words_of
parameter_by_is at ss d env = refl
