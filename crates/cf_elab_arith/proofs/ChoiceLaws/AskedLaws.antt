-- What is asked of two values, from what the types answer.
use Rattle.std.proofs.Common.{◌≡◌, ℕ, Bool, List, Option, None, refl, sym, ap, ◌∙◌}
use Rattle.cf_base.specs.declared.kind.Kind.{Kind}
use Rattle.cf_types.specs.Table.{Table}
use Rattle.cf_convert.specs.Converts.{steps}
use Rattle.cf_convert.specs.declared.conv.ConvStep.{ConvStep}
use Rattle.cf_elab.specs.Env.{Env}
use Rattle.cf_elab.specs.Members.{class_number}
use Rattle.cf_elab.specs.Operand.{Value, val, defs, sort_of, is_void}
use Rattle.cf_elab.specs.Cast.{takes_null}
use Rattle.cf_elab_arith.specs.Arith.Sorts.{kind_at}
use Rattle.cf_elab_env.specs.Seen.{sort_seen}
use Rattle.cf_elab_env.specs.declared.sort.Sort.{Sort as FoundSort}
use Rattle.cf_elab_arith.proofs.ArithLaws.FitTruthLaws.{no_class_sort}
use Rattle.cf_elab_arith.specs.Choice.Asked.{common, common_kind, void_at, pointer_at, steps_between}

pub common_is : (types : Table) (t u x y : ℕ) (a b r : Option Kind) → x ≡ t → y ≡ u → a ≡ kind_at types x → b ≡ kind_at types y → r ≡ common a b → r ≡ common_kind types t u
unfolding common_kind
common_is types t u x y a b r e f g h is =
    is ∙ ap (λ a. common a b) (g ∙ ap (kind_at types) e) ∙ ap (common (kind_at types t)) (h ∙ ap (kind_at types) f)

pub void_is : (types : Table) (t x : ℕ) (s : FoundSort) (b : Bool) → x ≡ t → sort_seen s ≡ sort_of types x → b ≡ is_void (sort_seen s) → b ≡ void_at types t
unfolding void_at
void_is types t x s b e seen is = is ∙ ap is_void (seen ∙ ap (sort_of types) e)

pub pointer_is : (types : Table) (t x : ℕ) (s : FoundSort) (b : Bool) → x ≡ t → sort_seen s ≡ sort_of types x → b ≡ takes_null (sort_seen s) → b ≡ pointer_at types t
unfolding pointer_at
pointer_is types t x s b e seen is = is ∙ ap takes_null (seen ∙ ap (sort_of types) e)

pub steps_are : (env : Env) (x : Value) (t u : ℕ) (o : Option (List ConvStep)) → u ≡ t → o ≡ steps env.types (defs env) (val x) u → o ≡ steps_between env x t
unfolding steps_between
steps_are env x t u o e h = h ∙ ap (steps env.types (defs env) (val x)) e

pub between_steps : (env : Env) (x : Value) (t u : ℕ) (o : Option (List ConvStep)) → u ≡ t → steps_between env x t ≡ o → steps env.types (defs env) (val x) u ≡ o
unfolding steps_between
between_steps env x t u o e h = ap (steps env.types (defs env) (val x)) e ∙ h

pub no_class_of : (types : Table) (t x : ℕ) (s : FoundSort) → x ≡ t → sort_seen s ≡ sort_of types x → class_number (sort_of types t) ≡ None
no_class_of types t x s e seen = ap class_number (sym (seen ∙ ap (sort_of types) e)) ∙ no_class_sort s
