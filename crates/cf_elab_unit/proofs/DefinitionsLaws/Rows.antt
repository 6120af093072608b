-- A function with a body is defined in the steps that this crate does.
use Rattle.std.proofs.Common.{◌≡◌, ℕ, ◌+◌, Bool, false, List, [], ◌∷◌, ◌++◌, drop, length, map, Option, None, Some, slice_get, refl, sym, ap, ◌∙◌}
use Rattle.cf_core.specs.declared.node.Core.{Core as Node}
use Rattle.cf_core.specs.declared.node.Core.TheVariants as node
use Rattle.cf_core.specs.declared.unit.CoreFn.{CoreFn}
use Rattle.cf_core.specs.declared.unit.Role.TheVariants as role
use Rattle.cf_syntax.specs.declared.name.Last.{Last}
use Rattle.cf_syntax.specs.declared.name.Last.TheVariants as last
use Rattle.cf_syntax.specs.declared.name.Name.{Name as WrittenName}
use Rattle.cf_unit.specs.declared.statement.Stmt.{Stmt}
use Rattle.cf_elab.specs.Answer.{Answer, Made as Done, Refused, Passed, Elab, onward}
use Rattle.cf_elab.specs.Definition as definition
use Rattle.cf_elab.specs.Env.{Env, Hand, FunctionEntry, Name}
use Rattle.cf_elab.specs.Names.{leave_scope}
use Rattle.cf_elab.specs.Shape.{Parameter}
use Rattle.cf_elab.specs.Statement.{nodes_of}
use Rattle.cf_elab.specs.Trees as tree
use Rattle.cf_elab_unit.specs.Body.Shut as body
use Rattle.cf_elab_unit.specs.Body.CallSignatures.{result_at}
use Rattle.cf_elab_env.specs.Shut as scope
use Rattle.cf_elab_unit.specs.Definitions.Shut as shut

-- ---- parameters

pub no_parameters : (i : ℕ) (env : Env) → shut.declare_parameters i [] env ≡ Done tt env
unfolding shut.declare_parameters
no_parameters i env = refl

pub parameters_are : (i : ℕ) (p : Parameter) (ps : List Parameter) (env : Env)
    → shut.declare_parameters i (p ∷ ps) env ≡ onward (shut.declare_parameter i p env) (λ _ env. shut.declare_parameters (i + 1) ps env)
unfolding shut.declare_parameters shut.declare_parameter shut.named_parameter
parameters_are i p ps env = by p.name
  where
    by_last : (n : WrittenName) (l : Last)
        → definition.declare_parameters i (record p { name = Some (record n { last = l }) } ∷ ps) env
        ≡ onward (shut.declare_parameter i (record p { name = Some (record n { last = l }) }) env) (λ _ env. definition.declare_parameters (i + 1) ps env)
    by_last n (last.Ident name) = refl
    by_last n (last.Destructor name) = refl
    by_last n (last.Operator k) = refl
    by_last n (last.Conversion ss pointers) = refl

    by : (o : Option WrittenName)
        → definition.declare_parameters i (record p { name = o } ∷ ps) env
        ≡ onward (shut.declare_parameter i (record p { name = o }) env) (λ _ env. definition.declare_parameters (i + 1) ps env)
    by None = refl
    by (Some n) = by_last n n.last

-- ---- a body

-- a function of the core, and a file that has it too
abbrev function_of : ℕ → Node → Name → Bool → List ℕ → List ℕ → CoreFn
function_of r n name internal params locals = record {
  name = name;
  role = role.Plain;
  result = r;
  params = params;
  locals = locals;
  body = n;
  is_shared = false;
  is_local = internal;
}

abbrev with_function : Env → CoreFn → Env
with_function e f = record e { functions = e.functions ++ f ∷ [] }

-- behind the body: this hand is there again, and the function is one of the file's
abbrev made_of : FunctionEntry → ℕ → List Parameter → Hand → Node → Env → Answer (Unit {0})
made_of f r ps before n e = Done tt (with_function (record e { hand = before }) (definition.core_function f r ps (n, drop (length ps) e.hand.locals)))

module _ (before : Hand) (f : FunctionEntry) (r : ℕ) (ps : List Parameter) where
  abbrev left : Hand → Node → Env → Answer (Unit {0})
  left h n e = onward (leave_scope e) (λ _ e. made_of f r ps h n e)

  abbrev left_by : Node → Env → Answer Node
  left_by n e = onward (leave_scope e) (λ _ e. Done n e)

  abbrev hand_back : Node → Env → Answer (Node × List ℕ)
  hand_back n e = Done (n, drop (length ps) e.hand.locals) (record e { hand = before })

  abbrev added : Node × List ℕ → Env → Answer (Unit {0})
  added b e = Done tt (with_function e (definition.core_function f r ps b))

  by_node : (a : Answer Node) → onward (onward (onward a left_by) hand_back) added ≡ onward a (λ n e. left before n e)
  by_node (Done n e) = refl
  by_node (Refused rule place) = refl
  by_node (Passed bound most) = refl

  by_parameters : (run : Elab Node) (a : Answer (Unit {0}))
      → onward (onward (onward (onward a (λ _ e. run e)) left_by) hand_back) added
      ≡ onward (onward a (λ _ e. Done before e)) (λ h e. onward (run e) (λ n e. left h n e))
  by_parameters run (Done u e) = by_node (run e)
  by_parameters run (Refused rule place) = refl
  by_parameters run (Passed bound most) = refl

pub body_is : (at : ℕ) (ss : List Stmt) (env : Env) → shut.body_of at ss env ≡ onward (body.statements ss env) (λ ms e. Done (node.Block at (nodes_of ms)) e)
unfolding shut.body_of body.statements body.statement
body_is at ss env = refl

module _ (f : FunctionEntry) (ps : List Parameter) (at : ℕ) (ss : List Stmt) (env : Env) where
  abbrev in_steps : ℕ → Hand → Answer (Unit {0})
  in_steps r h = onward (shut.begin_body h ps env) (λ before e. onward (shut.body_of at ss e) (λ n e. shut.end_body before f r ps n e))

  abbrev r : ℕ
  r = result_at env.types f.type

  abbrev run : Elab Node
  run = definition.body_of at (map tree.statement ss)

  abbrev parameters_made : Answer (Unit {0})
  parameters_made =
      definition.declare_parameters 0 ps (record env { hand = shut.hand_of f r ps; scopes = record { outer = env.scopes.outer ++ env.scopes.inner ∷ []; inner = [] } })

  as_written : shut.define f ps at ss env
      ≡ onward (onward (onward (onward parameters_made (λ _ e. run e)) (left_by env.hand f r ps)) (hand_back env.hand f r ps)) (added env.hand f r ps)
  unfolding shut.define result_at
  as_written = refl

  as_steps : onward (onward parameters_made (λ _ e. Done env.hand e)) (λ h e. onward (run e) (λ n e. left env.hand f r ps h n e)) ≡ in_steps r (shut.hand_of f r ps)
  unfolding shut.begin_body shut.end_body shut.body_of
  as_steps = refl

  defined : shut.define f ps at ss env ≡ in_steps r (shut.hand_of f r ps)
  defined = as_written ∙ by_parameters env.hand f r ps run parameters_made ∙ as_steps

  pub define_is : (r : ℕ) (h : Hand) → r ≡ result_at env.types f.type → h ≡ shut.hand_of f r ps → shut.define f ps at ss env ≡ in_steps r h
  define_is r h result hand = defined ∙ ap (λ r. in_steps r (shut.hand_of f r ps)) (sym result) ∙ ap (in_steps r) (sym hand)

module _ (k : ℕ) (ps : List Parameter) (at : ℕ) (ss : List Stmt) (env : Env) where
  pub no_entry : None ≡ slice_get env.entries k → shut.define_at k ps at ss env ≡ Done tt env
  unfolding shut.define_at
  no_entry is = ap (λ o. definition.define_function ps (definition.body_of at (map tree.statement ss)) o env) (sym is)

  pub entry_is : (f : FunctionEntry) → Some f ≡ slice_get env.entries k → shut.define_at k ps at ss env ≡ shut.define f ps at ss env
  unfolding shut.define_at shut.define
  entry_is f is = ap (λ o. definition.define_function ps (definition.body_of at (map tree.statement ss)) o env) (sym is)

module _ (h : Hand) (ps : List Parameter) (env : Env) where
  pub begin_is : (before : Hand) (held : Env) → before ≡ env.hand → held ≡ record env { hand = h }
      → shut.begin_body h ps env ≡ onward (scope.enter_scope held) (λ _ e. onward (shut.declare_parameters 0 ps e) (λ _ e. Done before e))
  unfolding shut.begin_body shut.declare_parameters scope.enter_scope
  begin_is before held was is =
      ap (λ b. onward (scope.enter_scope (record env { hand = h })) (λ _ e. onward (definition.declare_parameters 0 ps e) (λ _ e. Done b e))) (sym was)
      ∙ ap (λ e. onward (scope.enter_scope e) (λ _ e. onward (definition.declare_parameters 0 ps e) (λ _ e. Done before e))) (sym is)

module _ (before : Hand) (f : FunctionEntry) (r : ℕ) (ps : List Parameter) (n : Node) (env : Env) where
  end_is : shut.end_body before f r ps n env ≡ onward (scope.leave_scope env) (λ _ e. made_of f r ps before n e)
  unfolding shut.end_body scope.leave_scope
  end_is = refl

  -- the state behind the scope, the same with the hand before, and that with the function
  pub ended : (out back new : Env) (hand : Hand) (name : Name) (internal : Bool) (params locals objects : List ℕ) (function : CoreFn) → scope.leave_scope env ≡ Done tt out
      → hand ≡ out.hand → back ≡ record out { hand = before } → objects ≡ hand.locals → name ≡ f.link → internal ≡ f.is_internal → params ≡ definition.own_types ps → locals ≡ drop (length ps) objects
      → function ≡ function_of r n name internal params locals → new ≡ with_function back function → shut.end_body before f r ps n env ≡ Done tt new
  ended out back new hand name internal params locals objects function left at_hand held all named kept given behind is made =
      end_is ∙ ap (λ a. onward a (λ _ e. made_of f r ps before n e)) left
      ∙ ap (λ l. Done tt (with_function there (function_of r n f.link f.is_internal (definition.own_types ps) l))) (sym (behind ∙ ap (drop (length ps)) (all ∙ ap (λ (h : Hand). h.locals) at_hand)))
      ∙ ap (λ l. Done tt (with_function there (function_of r n f.link f.is_internal l locals))) (sym given)
      ∙ ap (λ m. Done tt (with_function there (function_of r n m f.is_internal params locals))) (sym named)
      ∙ ap (λ b. Done tt (with_function there (function_of r n name b params locals))) (sym kept)
      ∙ ap (λ x. Done tt (with_function there x)) (sym is)
      ∙ ap (λ e. Done tt (with_function e function)) (sym held)
      ∙ ap (Done tt) (sym made)
    where
      there : Env
      there = record out { hand = before }
