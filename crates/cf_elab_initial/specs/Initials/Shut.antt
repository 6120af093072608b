-- The rows that this crate does, each under a name of its own that does not unfold. `Rattle.cf_elab_initial.proofs.InitialsLaws` says what each is.
use Rattle.std.specs.Prelude.{ℕ, None}
use Rattle.cf_convert.specs.Constness.{bare}
use Rattle.cf_elab.specs.Answer.{Elab, ◌>>=◌, gives, known}
use Rattle.cf_elab.specs.Initial as initials
use Rattle.cf_elab.specs.Initial.{Start, Keeper}
use Rattle.cf_elab.specs.Operand.{Value}
use Rattle.cf_elab.specs.UserFit as user

-- the initialiser of an object or reference of the type by a value
unfoldable pub initial : (ℕ → Elab Keeper) → ℕ → ℕ → Value → Elab Start
initial = user.initial

-- of an object, which is no reference
unfoldable pub object : ℕ → ℕ → Value → Elab Start
object at t v = do
  env ← known
  x ← user.fit at v (bare env.types t)
  gives (initials.start_of x)

-- of a reference to this type: it binds the value's own place, or a temporary
unfoldable pub bound : (ℕ → Elab Keeper) → ℕ → ℕ → Value → Elab Start
bound keeper at u v = initials.bound user.fit keeper at u v

unfoldable pub by_temporary : (ℕ → Elab Keeper) → ℕ → ℕ → Value → Elab Start
by_temporary keeper at u v = initials.bound_or user.fit keeper at u v None

-- the temporary is kept, of a value that is one of its type
unfoldable pub held : (ℕ → Elab Keeper) → ℕ → ℕ → Value → Elab Start
held keeper at u x = keeper u >>= (λ k. gives (initials.keeps at u k x))
