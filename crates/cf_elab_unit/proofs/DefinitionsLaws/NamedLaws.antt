-- A definition behind its specifiers and its declarator.
use Rattle.std.proofs.Common.{◌≡◌, ℕ, true, false, List, map, Option, None, Some, slice_get, refl, sym, ap, subst, ◌∙◌}
use Rattle.cf_syntax.specs.declared.name.Last.{Last}
use Rattle.cf_syntax.specs.declared.name.Last.TheVariants as last
use Rattle.cf_syntax.specs.declared.name.Name.{Name as WrittenName}
use Rattle.cf_types.specs.Table.{Table}
use Rattle.cf_unit.specs.declared.statement.Stmt.{Stmt}
use Rattle.cf_elab.specs.Answer.{Elab, Made as Done, Refused, onward, none_at}
use Rattle.cf_elab.specs.Built.{of_name}
use Rattle.cf_elab.specs.Complete.{types_within}
use Rattle.cf_elab.specs.Declaration as declaration
use Rattle.cf_elab.specs.Definition as definition
use Rattle.cf_elab.specs.Env.{Env}
use Rattle.cf_elab.specs.Functions as functions
use Rattle.cf_elab.specs.Made as made
use Rattle.cf_elab.specs.Operand.{sort_of}
use Rattle.cf_elab.specs.Shape.{Parameter, Shape, Shaped, function_of, nowhere, typed, bounds_constant}
use Rattle.cf_elab.specs.Specifiers.{Gathered, base_type}
use Rattle.cf_elab.specs.Trees as tree
use Rattle.cf_elab_unit.specs.Body.DeclareShut as declare
use Rattle.cf_elab_unit.proofs.BodyLaws.DeclareFunctionLaws.{function_grown, types_grown}
use Rattle.cf_elab_unit.proofs.BodyLaws.DeclareNameLaws.{is_identifier, unqualified_is}
use Rattle.cf_elab_env.specs.Holds.{IsFunctionSort}
use Rattle.cf_elab_env.specs.Shut as making
use Rattle.cf_elab_env.proofs.Growth.{grown_laws}
use Rattle.cf_elab_functions.specs.Shut as declaring
use Rattle.cf_elab_limits.specs.Shut as limits
use Rattle.cf_elab_shape.specs.Shapes.Holds.{AreObjects, IsShape}
use Rattle.cf_elab_shape.specs.Shapes.Seen.{type_of}
use Rattle.cf_elab_shape.specs.Shapes.Shut as shaping
use Rattle.cf_elab_shape.proofs.ShapesLaws.ObjectLaws.{type_of_shaped_is}
use Rattle.cf_elab_shape.proofs.ShapesLaws.ParameterLaws.{objects_grown}
use Rattle.cf_elab_shape.proofs.ShapesLaws.TypedLaws.{shape_grown}
use Rattle.cf_elab_specifiers.specs.Said.Shut as specifying
use Rattle.cf_elab_unit.proofs.BodyLaws.StatementOnward.{onward-assoc, onward-same}
use Rattle.cf_elab_unit.specs.Definitions.Shut as shut
use Rattle.cf_elab_unit.proofs.DefinitionsLaws.FunctionShapes.{makes_function, objects_of}

-- ---- the type

module _ (g : Gathered) (at : ℕ) (s : Shape) (env : Env) where
  abbrev checked : (Shaped → Elab ℕ) → ℕ → Elab ℕ
  checked go b e = onward (shut.no_conflict (declaration.declares_function e b s) at g e) (λ _ e. onward (declare.no_definition g s e) (λ _ e. onward (shaping.typed nowhere s b e) go))

  abbrev its_type : Shaped → Elab ℕ
  its_type x e = Done (type_of x) e

  typed_is : shut.function_typed g at s env ≡ onward (specifying.base_type g env) (checked shaping.type_of_shaped)
  unfolding shut.function_typed declare.no_definition specifying.base_type shaping.typed shaping.type_of_shaped
  typed_is = refl

  pub type_is : shut.function_typed g at s env
      ≡ onward (specifying.base_type g env) (λ b e. onward (shut.no_conflict (declaration.declares_function e b s) at g e) (λ _ e. onward (declare.no_definition g s e)
      (λ _ e. onward (shaping.typed nowhere s b e) (λ x e. Done (type_of x) e))))
  type_is =
      typed_is
      ∙ onward-same (specifying.base_type g env) (checked shaping.type_of_shaped) (checked its_type)
      (λ b e. onward-same (shut.no_conflict (declaration.declares_function e b s) at g e) (λ _. behind shaping.type_of_shaped b) (λ _. behind its_type b)
      (λ _ e. onward-same (declare.no_definition g s e) (λ _ e. onward (shaping.typed nowhere s b e) shaping.type_of_shaped) (λ _ e. onward (shaping.typed nowhere s b e) its_type)
      (λ _ e. onward-same (shaping.typed nowhere s b e) shaping.type_of_shaped its_type type_of_shaped_is)))
    where
      behind : (Shaped → Elab ℕ) → ℕ → Elab ℕ
      behind go b e = onward (declare.no_definition g s e) (λ _ e. onward (shaping.typed nowhere s b e) go)

pub function_made : (s : Shape) (b t : ℕ) (env e : Env) (x : Shaped) → shaping.typed nowhere s b env ≡ Done x e → t ≡ type_of x
    → (ps : List Parameter) → function_of s ≡ Some ps → IsFunctionSort (sort_of e.types t)
unfolding shaping.typed
function_made s b t env e x h is ps f = subst (λ t. IsFunctionSort (sort_of e.types t)) (sym is) (makes_function s b env e x ps h f)

pub ruleset typed_laws = (type_is, shape_grown, grown_laws)

-- ---- the declaration, and the body behind it

pub declare_is : (g : Gathered) (s : Shape) (n : WrittenName) (t : ℕ) (env : Env)
    → shut.declare g s n t env ≡ onward (making.int env) (λ i e. declaring.declare_function i (declaration.function_says g n t s true false) e)
unfolding shut.declare making.int declaring.declare_function
declare_is g s n t env = refl

pub ruleset declare_laws = (declare_is, function_grown, types_grown, shape_grown, grown_laws)

module _ (count : ℕ) (g : Gathered) (s : Shape) (n : WrittenName) (t at : ℕ) (body : List Stmt) (env : Env) where
  abbrev by_parameters : Option (List Parameter) → Elab (Unit {0})
  by_parameters o env =
      onward (definition.parameters_or n.last_at o env) (λ ps e. onward (bounds_constant s e) (λ _ e. onward (shut.declare g s n t e) (λ k e. onward (types_within count e) (λ _ e. shut.define_at k ps at body e))))

  pub shape_is : (ps : List Parameter) → Some ps ≡ function_of s
      → shut.define_shape count g s n t at body env
      ≡ onward (shaping.bounds_constant s env) (λ _ e. onward (shut.declare g s n t e) (λ k e. onward (limits.types_within count e) (λ _ e. shut.define_at k ps at body e)))
  unfolding shut.define_shape shaping.bounds_constant limits.types_within
  shape_is ps is = ap (λ o. by_parameters o env) (sym is)

  pub no_function : None ≡ function_of s → shut.define_shape count g s n t at body env ≡ Refused 26 n.last_at
  unfolding shut.define_shape
  no_function is = ap (λ o. by_parameters o env) (sym is)

pub objects_given : (types : Table) (s : Shape) (ps : List Parameter) → IsShape types s → Some ps ≡ function_of s → AreObjects types ps
objects_given types s ps k is = objects_of types s ps k (sym is)

pub function_there : (types : Table) (t : ℕ) (s : Shape) (ps : List Parameter) → ((ps : List Parameter) → function_of s ≡ Some ps → IsFunctionSort (sort_of types t)) → Some ps ≡ function_of s
    → IsFunctionSort (sort_of types t)
function_there types t s ps f is = f ps (sym is)

pub ruleset shape_laws = (shape_is, no_function, objects_given, function_there, objects_grown, grown_laws)

-- ---- the whole

module _ (count : ℕ) (g : Gathered) (at : ℕ) (s : Shape) (n : WrittenName) (b : ℕ) (body : List Stmt) (h : of_name n ≡ None) where
  plain : (e : Env) → declaration.need_plain_name n.last n.last_at e ≡ Done tt e
  plain e = by n.last refl
    where
      by : (l : Last) → n.last ≡ l → declaration.need_plain_name l n.last_at e ≡ Done tt e
      by (last.Ident name) is = refl
      by (last.Operator k) is = refl
      by (last.Destructor name) is = absurd (is_identifier n h (λ other same. cc))
      by (last.Conversion ss ps) is = absurd (is_identifier n h (λ other same. cc))

  module _ (t : ℕ) where
    abbrev with_body : List Parameter → Elab (Unit {0})
    with_body ps e =
        onward (made.int e)
        (λ i e. onward (functions.declare_function i (declaration.function_says g n t s true false) e)
        (λ k e. onward (types_within count e) (λ _ e. definition.define_function ps (definition.body_of b (map tree.statement body)) (slice_get e.entries k) e)))

    abbrev behind_parameters : (Elab (Unit {0}) → Elab (Unit {0})) → Option (List Parameter) → Elab (Unit {0})
    behind_parameters go o e = onward (definition.parameters_or n.last_at o e) (λ ps e. onward (bounds_constant s e) (λ _. go (with_body ps)))

    -- behind the type
    abbrev behind_type : Elab (Unit {0})
    behind_type = behind_parameters (λ run e. onward (declaration.need_plain_name n.last n.last_at e) (λ _. run)) (function_of s)

    without_check : (ps : List Parameter) (e : Env)
        → onward (bounds_constant s e) (λ _ e. onward (declaration.need_plain_name n.last n.last_at e) (λ _. with_body ps)) ≡ onward (bounds_constant s e) (λ _. with_body ps)
    without_check ps e =
        onward-same (bounds_constant s e) (λ _ e. onward (declaration.need_plain_name n.last n.last_at e) (λ _. with_body ps)) (λ _. with_body ps)
        (λ _ e. ap (λ a. onward a (λ _. with_body ps)) (plain e))

    shaped : (o : Option (List Parameter)) (e : Env)
        → behind_parameters (λ run e. onward (declaration.need_plain_name n.last n.last_at e) (λ _. run)) o e
        ≡ onward (definition.parameters_or n.last_at o e) (λ ps e. onward (bounds_constant s e) (λ _ e. onward (shut.declare g s n t e) (λ k e. onward (types_within count e) (λ _ e. shut.define_at k ps b body e))))
    unfolding shut.declare shut.define_at
    shaped None e = refl
    shaped (Some ps) e = without_check ps e

    behind_is : (e : Env) → behind_type e ≡ shut.define_shape count g s n t b body e
    unfolding shut.define_shape
    behind_is e = shaped (function_of s) e

  abbrev typed_then : (ℕ → Elab (Unit {0})) → ℕ → Elab (Unit {0})
  typed_then go base e = onward (typed nowhere s base e) (λ x e. onward (definition.type_of_shaped x e) go)

  abbrev in_order : (ℕ → Elab (Unit {0})) → Elab (Unit {0})
  in_order go env =
      onward (base_type g env)
      (λ base e. onward (none_at (definition.definition_conflict (declaration.declares_function e base s) at g) 24 e)
      (λ _ e. onward (declaration.unqualified n e) (λ _ e. onward (declaration.no_definition g s e) (λ _. typed_then go base))))

  written : (env : Env) → shut.named count g at s n b body env ≡ in_order behind_type env
  unfolding shut.named
  written env = refl

  abbrev with_type : (ℕ → Elab (Unit {0})) → Elab (Unit {0})
  with_type go env =
      onward (base_type g env)
      (λ base e. onward (none_at (definition.definition_conflict (declaration.declares_function e base s) at g) 24 e) (λ _ e. onward (declaration.no_definition g s e) (λ _. typed_then go base)))

  without_qualified : (go : ℕ → Elab (Unit {0})) (env : Env) → in_order go env ≡ with_type go env
  without_qualified go env =
      onward-same (base_type g env) (λ base e. before base e) (λ base e. after base e)
      (λ base e. onward-same (none_at (definition.definition_conflict (declaration.declares_function e base s) at g) 24 e) (λ _ e. onward (declaration.unqualified n e) (λ _. rest base)) (λ _. rest base)
      (λ _ e. ap (λ a. onward a (λ _. rest base)) (unqualified_is n e h)))
    where
      rest : ℕ → Elab (Unit {0})
      rest base e = onward (declaration.no_definition g s e) (λ _. typed_then go base)

      before : ℕ → Elab (Unit {0})
      before base e = onward (none_at (definition.definition_conflict (declaration.declares_function e base s) at g) 24 e) (λ _ e. onward (declaration.unqualified n e) (λ _. rest base))

      after : ℕ → Elab (Unit {0})
      after base e = onward (none_at (definition.definition_conflict (declaration.declares_function e base s) at g) 24 e) (λ _. rest base)

  -- the type by itself
  grouped : (go : ℕ → Elab (Unit {0})) (env : Env) → onward (shut.function_typed g at s env) go ≡ with_type go env
  unfolding shut.function_typed shut.no_conflict
  grouped go env =
      onward-assoc (base_type g env) (λ base e. onward (none_at (definition.definition_conflict (declaration.declares_function e base s) at g) 24 e) (λ _. checking base)) go
      ∙ onward-same (base_type g env) (λ base e. onward (onward (none_at (definition.definition_conflict (declaration.declares_function e base s) at g) 24 e) (λ _. checking base)) go)
      (λ base e. onward (none_at (definition.definition_conflict (declaration.declares_function e base s) at g) 24 e) (λ _ e. onward (declaration.no_definition g s e) (λ _. typed_then go base)))
      (λ base e. onward-assoc (none_at (definition.definition_conflict (declaration.declares_function e base s) at g) 24 e) (λ _. checking base) go
      ∙ onward-same (none_at (definition.definition_conflict (declaration.declares_function e base s) at g) 24 e) (λ _ e. onward (checking base e) go) (λ _ e. onward (declaration.no_definition g s e) (λ _. typed_then go base))
      (λ _ e. onward-assoc (declaration.no_definition g s e) (λ _. typing base) go
      ∙ onward-same (declaration.no_definition g s e) (λ _ e. onward (typing base e) go) (λ _. typed_then go base)
      (λ _ e. onward-assoc (typed nowhere s base e) definition.type_of_shaped go)))
    where
      typing : ℕ → Elab ℕ
      typing base e = onward (typed nowhere s base e) definition.type_of_shaped

      checking : ℕ → Elab ℕ
      checking base e = onward (declaration.no_definition g s e) (λ _. typing base)

  pub named_is : (env : Env) → shut.named count g at s n b body env ≡ onward (shut.function_typed g at s env) (λ t e. shut.define_shape count g s n t b body e)
  named_is env =
      written env ∙ without_qualified behind_type env ∙ sym (grouped behind_type env)
      ∙ onward-same (shut.function_typed g at s env) behind_type (λ t e. shut.define_shape count g s n t b body e) behind_is

pub ruleset named_laws = (named_is, shape_grown, grown_laws)
