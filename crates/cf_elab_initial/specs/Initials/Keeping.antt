-- How long a temporary lives that a reference binds, as the definitions of elaboration see it.
use Rattle.std.specs.Prelude.{ℕ, true, Option}
use Rattle.cf_elab.specs.Answer.{Elab}
use Rattle.cf_core.specs.declared.node.Core.TheVariants as node
use Rattle.cf_core.specs.declared.node.Holder.{Holder}
use Rattle.cf_elab.specs.Initial.{Start, Keeper, no_keeper, fixed_start, is_constant_value}
use Rattle.cf_elab.specs.Operand.{Value}
use Rattle.cf_core.specs.declared.unit.CoreStatic.{CoreStatic}
use Rattle.cf_elab.specs.Env.{Name}
use Rattle.cf_elab.specs.Objects.{local_keeper, static_keeper, static_of}
use Rattle.cf_elab_initial.specs.declared.initials.keeping.Keeping.{Keeping}
use Rattle.cf_elab_initial.specs.declared.initials.keeping.Keeping.TheVariants as keeping

abbrev pub keeping_seen : Keeping → ℕ → Elab Keeper
keeping_seen keeping.FullExpression = no_keeper
keeping_seen keeping.Local = local_keeper
keeping_seen (keeping.Static reference owner at) = static_keeper reference owner at

-- a reference to a temporary that is kept so
abbrev pub kept_start : ℕ → Holder → Value → Start
kept_start at h v = fixed_start (node.Bind at h v.node) (is_constant_value v)

-- the static object of this link name that is the temporary of a static reference
abbrev pub temporary_of : Name → Option Name → ℕ → ℕ → CoreStatic
temporary_of name owner at t = static_of name t (node.Blank at) owner true true
