-- The checks of a declared function, each under a name of its own that does not unfold. `Rattle.cf_elab_functions.proofs` says what each is.
use Rattle.std.specs.Prelude.{ℕ, Bool, not, ◌==◌, ◌||◌, List, Option, Some}
use Rattle.cf_types.specs.declared.ty.Fun.{Fun}
use Rattle.cf_types.specs.Table.{Table}
use Rattle.cf_classes.specs.TypeTree as tree
use Rattle.cf_elab.specs.Answer.{Elab, ◌>>=◌, ◌>>◌, known, need}
use Rattle.cf_elab.specs.Arguments as arguments
use Rattle.cf_elab.specs.Env.{Env, Name, FunctionEntry}
use Rattle.cf_elab.specs.Functions as functions
use Rattle.cf_elab.specs.Functions.{Says}

unfoldable pub fun_at : Table → ℕ → Option Fun
fun_at = arguments.fun_at

unfoldable pub params_of : Table → ℕ → List ℕ
params_of types t = tree.params_of (arguments.fun_at types t)

unfoldable pub result_of : Table → ℕ → ℕ
result_of types t = arguments.result_of (arguments.fun_at types t)

-- whether functions of these two types have the same parameters
unfoldable pub same_params : Table → ℕ → ℕ → Bool
same_params types t u = functions.same_params types (tree.params_of (arguments.fun_at types t)) u

unfoldable pub entry_of : Env → Says → Option ℕ
entry_of = functions.entry_of

unfoldable pub main_form : Table → ℕ → Says → Bool
main_form = functions.main_form

-- `main` has its form, K11
unfoldable pub need_main : ℕ → Says → Elab (Unit {0})
need_main int_type d = known >>= (λ env. need (not (functions.is_called_main d.called) || functions.main_form env.types int_type d) 11 d.at)

unfoldable pub is_function_set : Env → Option ℕ → Bool
is_function_set = functions.is_function_set

-- the innermost scope has nothing but functions by the name, K8
unfoldable pub need_set : Option ℕ → ℕ → Elab (Unit {0})
need_set here at = known >>= (λ env. need (functions.is_function_set env here) 8 at)

unfoldable pub need_definition : Says → Elab (Unit {0})
need_definition d = known >>= (λ env. functions.need_definition env d)

unfoldable pub need_single : Says → Elab (Unit {0})
need_single d = known >>= (λ env. functions.need_single env d)

-- the link name, which is empty where an initialiser stands behind the declaration
unfoldable pub said_link : Env → Says → Name
said_link = functions.said_link

unfoldable pub new_entry : Says → Elab ℕ
new_entry = functions.new_entry

unfoldable pub need_that : Bool → ℕ → ℕ → Elab (Unit {0})
need_that = need

-- whether a function that is known may be said so again: K8, K9 and K8
unfoldable pub fits_entry : Says → FunctionEntry → Elab (Unit {0})
fits_entry d f = do
  env ← known
  need (arguments.result_of (arguments.fun_at env.types f.type) == arguments.result_of (arguments.fun_at env.types d.type)) 8 d.at
  need (not (functions.says_internal d) || f.is_internal) 9 d.at
  need (not d.defines || not (f.is_defined || functions.is_library f.link)) 8 d.at

-- the function of this number said again
unfoldable pub known_at : Says → ℕ → Elab ℕ
known_at d n = functions.entry_or_new d (Some n)

unfoldable pub entry_or_new : Says → Option ℕ → Elab ℕ
entry_or_new = functions.entry_or_new

unfoldable pub joins : ℕ → List ℕ → List ℕ
joins = functions.joins

-- one more function of the name that this entity has
unfoldable pub join_at : Says → ℕ → ℕ → Elab (Unit {0})
join_at d n e = functions.entity_joined d n (Some e)

unfoldable pub entity_joined : Says → ℕ → Option ℕ → Elab (Unit {0})
entity_joined = functions.entity_joined

unfoldable pub declare_function : ℕ → Says → Elab ℕ
declare_function = functions.declare_function
