-- The rows of enumerations with the expressions in them, each under a name of its own that does not unfold. `Rattle.cf_elab_declaration.proofs.EnumsLaws` says what each is.
use Rattle.std.specs.Prelude.{ℕ, List, map, ℤ, pos, Option, None, Some, is_some}
use Rattle.cf_syntax.specs.declared.expression.Expr.{Expr}
use Rattle.cf_types.specs.declared.ty.Ty.TheVariants as ty
use Rattle.cf_unit.specs.declared.enumeration.EnumDef.{EnumDef}
use Rattle.cf_unit.specs.declared.enumeration.Enumerator.{Enumerator}
use Rattle.cf_elab.specs.Answer.{Elab, ◌>>=◌, ◌>>◌, gives}
use Rattle.cf_elab.specs.Enumeration as spec
use Rattle.cf_elab.specs.Enumeration.{Counted, item_of, number_of, own_names}
use Rattle.cf_elab.specs.Env.{Name, enumerator}
use Rattle.cf_elab.specs.Expression.{elaborated}
use Rattle.cf_elab.specs.Made.{intern}
use Rattle.cf_elab.specs.Names.{declare, scoped}
use Rattle.cf_elab.specs.Operand.{Value, evaluated}
use Rattle.cf_elab_enumeration.specs.Shut as row

-- a new enumeration and its type
unfoldable pub new_type : Name → Elab (ℕ × ℕ)
new_type name = do
  e ← spec.new_enum name
  t ← intern (ty.Enum e)
  gives (e, t)

-- ---- enumerators

-- the value of an expression in which the enumerator of this name has none yet
unfoldable pub own_value : ℕ → Name → Expr → Elab Value
own_value t name e = scoped (declare name (enumerator t None) >> evaluated (elaborated e))

-- the value behind `=`, if there is one
unfoldable pub value : ℕ → Enumerator → Elab (Option Value)
value t e = spec.own_value t (item_of e)

abbrev pub counted_as : Option ℤ → Enumerator → Option Value → Counted
counted_as next e v = record { at = e.at; name = e.name; number = number_of next v }

-- one that has this number without an expression
unfoldable pub counted_one : ℕ → Option ℤ → Enumerator → Elab Counted
counted_one t next e = do
  v ← value t e
  row.declare_counted t (counted_as next e v)
  gives (counted_as next e v)

unfoldable pub counted : ℕ → Option ℤ → List Enumerator → Elab (List Counted)
counted t next es = spec.counted t next (map item_of es)

-- all of them, in a scope of their own, and in one around it in which the enumeration's own name is known
unfoldable pub in_own_scope : ℕ → List Enumerator → Elab (List Counted)
in_own_scope t es = scoped (counted t (Some (pos 0)) es)

unfoldable pub in_scope : ℕ → ℕ → Option (ℕ × Name) → List Enumerator → Elab (List Counted)
in_scope e t name es = scoped (row.name_known e name >> in_own_scope t es)

-- ---- behind the expressions

-- K48, K8, K19 and K5
unfoldable pub checked : ℕ → Option (ℕ × Name) → List Counted → Elab (Unit {0})
checked at name cs = do
  row.need_place (is_some name) at
  row.name_checked name
  row.all_new (own_names name) cs
  row.all_constant cs
  row.all_ints cs

unfoldable pub declared : ℕ → ℕ → Option (ℕ × Name) → List Counted → Elab (Unit {0})
declared e t name cs = do
  row.name_declared e t name
  row.declare_all t cs

unfoldable pub enumeration : Option Name → EnumDef → Elab ℕ
enumeration = spec.enumeration
