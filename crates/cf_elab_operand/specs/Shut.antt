-- The rows of names, literals and `sizeof`, each under a name of its own that does not unfold. `Rattle.cf_elab_operand.proofs` says what each is.
use Rattle.std.specs.Prelude.{ℕ, ℤ, false, not, List, length, true, Some, slice_get}
use Rattle.cf_base.specs.declared.kind.Kind.{Kind}
use Rattle.cf_base.specs.declared.kind.Kind.TheVariants as kind
use Rattle.cf_core.specs.declared.node.Core.TheVariants as node
use Rattle.cf_syntax.specs.declared.name.Name.{Name as WrittenName}
use Rattle.cf_elab.specs.Answer.{Elab, ◌>>=◌, ◌>>◌, gives, known, need, each, hand_changed}
use Rattle.cf_elab.specs.Complete.{complete}
use Rattle.cf_elab.specs.Env.{Name, Entity, functions}
use Rattle.cf_elab.specs.Expression as expression
use Rattle.cf_elab.specs.Made.{of_kind, array_of}
use Rattle.cf_elab.specs.Names as names
use Rattle.cf_elab.specs.Operand as operand
use Rattle.cf_elab.specs.Operand.{Value, Operand, sort_of}
use Rattle.cf_elab.specs.Paths as paths
use Rattle.cf_elab.specs.Unary as unary

-- ---- names

unfoldable pub named : WrittenName → Elab Operand
named = paths.named

-- an identifier, and what it is found as
unfoldable pub operand_named : ℕ → Name → Elab Operand
operand_named at name = known >>= (λ env. paths.operand_found at (paths.found_alone env false name))

unfoldable pub operand_of : ℕ → Entity → Elab Operand
operand_of at e = names.operand_of at (Some e)

unfoldable pub functions_of : ℕ → List ℕ → Elab Operand
functions_of at fs = names.operand_of at (Some (functions fs))

-- ---- values

unfoldable pub one_function : ℕ → ℕ → Elab Value
one_function at f = known >>= (λ env. operand.one_function at (slice_get env.entries f))

unfoldable pub value_named : ℕ → List ℕ → Elab Value
value_named at fs = operand.value_of (operand.functions at fs)

unfoldable pub value_of : Operand → Elab Value
value_of = operand.value_of

unfoldable pub values : List Operand → Elab (List Value)
values = each operand.value_of

-- ---- literals

unfoldable pub integer : ℕ → ℤ → Kind → Elab Operand
integer = expression.integer

-- a string literal of this number in its function, by all its bytes
unfoldable pub text_value : ℕ → ℕ → List ℕ → Elab Value
text_value at n bytes = do
  c ← of_kind kind.Char
  t ← array_of c (length bytes)
  gives (operand.place_of at (node.Text at n bytes) t true)

unfoldable pub literal : ℕ → List ℕ → Elab Operand
literal = expression.literal

-- ---- sizeof

-- no function and no `void`, and complete
unfoldable pub need_sized : ℕ → ℕ → Elab (Unit {0})
need_sized at t = do
  env ← known
  need (not (unary.is_unsized (sort_of env.types t))) 18 at
  need (complete env t) 30 at

unfoldable pub size_of_object : ℕ → ℕ → Elab Value
size_of_object = unary.size_of_object

unfoldable pub size_constant : ℕ → ℕ → Elab Value
size_constant = unary.size_constant

-- behind the operand, where the function had so many literals before it
unfoldable pub size_behind : ℕ → ℕ → Operand → Elab Operand
size_behind at n o = do
  v ← operand.value_of o
  hand_changed (λ h. record h { literals = n })
  expression.one (unary.size_constant at v.type)
