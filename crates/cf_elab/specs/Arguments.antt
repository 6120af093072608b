-- Arguments and default arguments (5.2.2, 8.2.6).
use Rattle.std.specs.Prelude.{ℕ, ◌+◌, ◌-◌, List, [], ◌∷◌, ◌++◌, length, drop, Option, None, Some, slice_get}
use Rattle.cf_types.specs.declared.ty.Fun.{Fun}
use Rattle.cf_types.specs.Table.{Table}
use Rattle.cf_classes.specs.TypeTree.{fun_of}
use Rattle.cf_core.specs.declared.node.Core.{Core as Node, fold-Core, roll-Core}
use Rattle.cf_core.specs.declared.node.Core.TheOpen.{Core-F}
use Rattle.cf_core.specs.declared.node.Core.TheVariants as node
use Rattle.cf_core.specs.declared.node.PartStart.{PartStart, roll-PartStart}
use Rattle.cf_convert.specs.Constness.{bare}
use Rattle.cf_elab.specs.Env.{Default}
use Rattle.cf_elab.specs.Answer.{Elab, ◌>>=◌, ◌>>◌, gives, known, hand_changed, each}
use Rattle.cf_elab.specs.Operand.{Value}
use Rattle.cf_elab.specs.Initial.{Start}

-- ---- default arguments

-- the same initialiser with its literals numbered from there on
abbrev pub renumbered_step : ℕ → Core-F Node PartStart → Node
renumbered_step n (Core-F.Text at j bytes) = node.Text at (j + n) bytes
renumbered_step n x = roll-Core x

abbrev pub renumbered : ℕ → Node → Node
renumbered n c = fold-Core Node PartStart (renumbered_step n) roll-PartStart c

abbrev pub defaulted : Default → Elab Node
defaulted d = do
  env ← known
  hand_changed (λ h. record h { literals = h.literals + d.literals })
  gives (renumbered env.hand.literals d.start)

-- ---- arguments

abbrev pub with_arguments : (ℕ → ℕ → Value → Elab Start) → ℕ → List ℕ → List Value → Elab (List Node)
with_arguments initial at [] vs = gives []
with_arguments initial at (p ∷ ps) [] = gives []
with_arguments initial at (p ∷ ps) (v ∷ vs) = do
  s ← initial at p v
  rest ← with_arguments initial at ps vs
  gives (s.node ∷ rest)

-- the last parameters without an argument take their default arguments
abbrev pub arguments_by : (ℕ → ℕ → Value → Elab Start) → ℕ → List ℕ → List Default → List Value → Elab (List Node)
arguments_by initial at ps ds vs = do
  given ← with_arguments initial at ps vs
  rest ← each defaulted (drop (length ds - (length ps - length vs)) ds)
  gives (given ++ rest)

abbrev pub fun_at : Table → ℕ → Option Fun
fun_at types t = fun_of types (slice_get types.types (bare types t))

abbrev pub result_of : Option Fun → ℕ
result_of None = 0
result_of (Some f) = f.result
