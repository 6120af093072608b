-- The rows of calls, each under a name of its own that does not unfold. `Rattle.cf_elab_call.proofs` says what each is.
use Rattle.std.specs.Prelude.{ℕ, List, [], ◌∷◌, ◌++◌, length, None}
use Rattle.cf_core.specs.declared.node.Core.{Core as Node}
use Rattle.cf_core.specs.declared.node.Core.TheVariants as node
use Rattle.cf_elab.specs.Answer.{Elab, ◌>>=◌, ◌>>◌, gives, done, known}
use Rattle.cf_elab.specs.Arguments.{with_arguments}
use Rattle.cf_elab.specs.Best.{Candidate}
use Rattle.cf_elab.specs.Call as call
use Rattle.cf_elab.specs.ClassOperators as operators
use Rattle.cf_elab.specs.Env.{Name}
use Rattle.cf_elab.specs.Expression as expression
use Rattle.cf_elab.specs.Initial.{no_keeper}
use Rattle.cf_elab.specs.Operand.{Value, Operand, sort_of}
use Rattle.cf_elab.specs.UserFit as user

-- ---- arguments of functions without default arguments

unfoldable pub arguments : ℕ → List ℕ → List Value → Elab (List Node)
arguments at ps vs = user.arguments at ps [] vs

-- the same, behind those that are found so far
unfoldable pub arguments_behind : ℕ → List ℕ → List Value → List Node → Elab (List Node)
arguments_behind at ps vs found = with_arguments (user.initial no_keeper) at ps vs >>= (λ ns. gives (found ++ ns))

-- ---- one function takes the arguments, K15 and K46

abbrev pub alone : List ℕ → Candidate
alone ps = record { params = ps; least = length ps }

unfoldable pub need_arguments : ℕ → List ℕ → List Value → Elab (Unit {0})
need_arguments at ps vs = call.pick at (alone ps ∷ []) vs >> done

-- ---- calls

unfoldable pub called : ℕ → ℕ → Node → Elab Value
called = call.called

-- of the function of this link name and type, whose parameters and result are these
unfoldable pub direct : ℕ → Name → ℕ → List ℕ → ℕ → List Value → Elab Value
direct at link t ps r vs = do
  args ← user.arguments at ps [] vs
  call.called at r (node.Call at link t None args)

unfoldable pub through : ℕ → Value → ℕ → List ℕ → ℕ → List Value → Elab Value
through at p t ps r vs = do
  args ← user.arguments at ps [] vs
  call.called at r (node.PointerCall at None p.node t args)

unfoldable pub call_functions : ℕ → List ℕ → List Value → Elab Value
call_functions = call.call_functions

unfoldable pub call_pointer : ℕ → Value → ℕ → List Value → Elab Value
call_pointer = call.call_pointer

-- of a plain value
unfoldable pub call_plain : ℕ → Value → List Value → Elab Value
call_plain at p vs = known >>= (λ env. call.call_sort at p (sort_of env.types p.type) vs)

unfoldable pub call_value : ℕ → Value → List Value → Elab Value
call_value = call.call_value

-- of a value that may be a class object, and of what an expression is
unfoldable pub call_operator : ℕ → Value → List Value → Elab Value
call_operator = operators.call_operator

unfoldable pub call_operand : ℕ → Operand → List Value → Elab Value
call_operand = expression.call_operand
