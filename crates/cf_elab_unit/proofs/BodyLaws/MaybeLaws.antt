-- Values of expressions that may be left out.
use Rattle.std.proofs.Common.{◌≡◌, Option, None, Some, refl, ap}
use Rattle.cf_syntax.specs.declared.expression.Expr.{Expr}
use Rattle.cf_types.specs.Table.{Table}
use Rattle.cf_elab.specs.Answer.{Made as Done, onward}
use Rattle.cf_elab.specs.Env.{Env}
use Rattle.cf_elab.specs.Operand.{Value}
use Rattle.cf_elab_env.specs.Holds.{Grows, IsType, Known}
use Rattle.cf_elab_env.proofs.Growth.{known_grown, grown_laws}
use Rattle.cf_elab_declaration.specs.Enums.ExprShut as expression
use Rattle.cf_elab_statement.specs.Parts.{KnownIf, TypedIf}
use Rattle.cf_elab_unit.specs.Body.Shut as shut
use Rattle.cf_elab_unit.proofs.BodyLaws.BuiltForms.{given_built}

pub no_value : (o : Option Expr) (env : Env) → o ≡ None → shut.maybe_value o env ≡ Done None env
unfolding shut.maybe_value
no_value o env is = ap (λ o. shut.maybe_value o env) is

pub some_value : (x : Expr) (env : Env) → shut.maybe_value (Some x) env ≡ onward (expression.valued x env) (λ v env. Done (Some v) env)
unfolding shut.maybe_value expression.valued
some_value x env = refl

pub ruleset value_laws = (no_value, some_value, given_built, grown_laws)

pub known_typed : (types : Table) (v : Value) → Known types v → IsType types v.type
known_typed types v k = k.typed

pub known_if_grown : (a b : Table) (o : Option Value) → Grows a b → KnownIf a o → KnownIf b o
known_if_grown a b None g h = tt
known_if_grown a b (Some v) g h = known_grown a b v g h

pub typed_if_known : (types : Table) (o : Option Value) → KnownIf types o → TypedIf types o
typed_if_known types None h = tt
typed_if_known types (Some v) h = h.typed

pub ruleset known_if_laws = (known_if_grown, typed_if_known)
