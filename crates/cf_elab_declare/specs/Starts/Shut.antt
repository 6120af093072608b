-- The rows that this crate does, each under a name of its own that does not unfold. `Rattle.cf_elab_declare.proofs.StartsLaws` says what each is.
use Rattle.std.specs.Prelude.{ℕ, ◌||◌, List, Option, None}
use Rattle.cf_elab.specs.Answer.{Elab, ◌>>=◌, gives, known, need}
use Rattle.cf_elab.specs.Env.{Name}
use Rattle.cf_elab.specs.Expression.{literal}
use Rattle.cf_elab.specs.Initial.{Start, Keeper, no_keeper}
use Rattle.cf_elab.specs.Lists as lists
use Rattle.cf_elab.specs.Lists.{Tree, Plan, Starts, planned}
use Rattle.cf_elab.specs.Objects as objects
use Rattle.cf_elab.specs.Objects.{Written}
use Rattle.cf_elab.specs.Operand.{value_of}
use Rattle.cf_elab.specs.UserFit.{initial}
use Rattle.cf_elab_declare.specs.Starts.Carried.{list_start}

unfoldable pub carried_out : (ℕ → Elab Keeper) → Plan → Elab Start
carried_out = lists.carried_out

unfoldable pub all_carried_out : (ℕ → Elab Keeper) → List Plan → Elab Starts
all_carried_out keeper ps = lists.all_carried_out keeper (planned ps)

unfoldable pub by_list : (ℕ → Elab Keeper) → ℕ → List Plan → Elab Start
by_list keeper at ps = all_carried_out keeper ps >>= (λ s. gives (list_start at s))

unfoldable pub by_tree : (ℕ → Elab Keeper) → ℕ → ℕ → Tree → Elab Start
by_tree = lists.by_tree

-- a scalar by a literal at its place
unfoldable pub by_literal : (ℕ → Elab Keeper) → ℕ → ℕ → ℕ → List ℕ → Elab Start
by_literal keeper at t n bytes = literal n bytes >>= value_of >>= initial keeper at t

unfoldable pub start_by : (ℕ → Elab Keeper) → ℕ → ℕ → Tree → Elab Start
start_by = lists.start_by

-- ---- what is written

unfoldable pub initialised : (ℕ → Elab Keeper) → ℕ → Written → Elab Start
initialised = objects.initialised

unfoldable pub default_object : ℕ → ℕ → Elab Start
default_object = objects.default_object

unfoldable pub without_initialiser : ℕ → ℕ → Elab Start
without_initialiser at t = objects.start_or_none no_keeper at t None

unfoldable pub start_or_none : (ℕ → Elab Keeper) → ℕ → ℕ → Option Written → Elab Start
start_or_none = objects.start_or_none

unfoldable pub started : (ℕ → Elab Keeper) → Name → ℕ → ℕ → Option Written → Elab Start
started = objects.started

-- at the place of the initialiser
unfoldable pub check_constant : ℕ → Start → Elab (Unit {0})
check_constant at s = known >>= (λ env. need (env.extent.computed || s.is_constant) 48 at)
