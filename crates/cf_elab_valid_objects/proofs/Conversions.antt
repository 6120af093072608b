-- Conversions, and the initialisers of arguments and results (4, 8.4, 8.4.3).
use Rattle.std.proofs.Common.{◌≡◌, ℕ, true, false, ◌+◌, List, [], ◌∷◌, ◌++◌, drop, length, ◌-◌, Option, Some, None, IsTrue, sym, ap, subst, ◌∙◌, true≢false}
use Rattle.cf_base.specs.declared.kind.Kind.{Kind}
use Rattle.cf_types.specs.declared.ty.Ty.{Ty}
use Rattle.cf_types.specs.declared.ty.Ty.TheVariants as ty
use Rattle.cf_convert.specs.Constness.{type_at, bare, is_const}
use Rattle.cf_convert.specs.Converts.{steps, binds}
use Rattle.cf_convert.specs.UserConversion.{Nothing, by_user}
use Rattle.cf_convert.specs.declared.conv.ConvStep.{ConvStep}
use Rattle.cf_convert.specs.declared.conv.ConvStep.TheVariants.{Read, Decay, AddConst, Promote, Integer, Null, ToVoid, ToBase, ToMember}
use Rattle.cf_elab.specs.Answer.{each, Made, onward, for_each}
use Rattle.cf_elab.specs.Arguments.{with_arguments, defaulted}
use Rattle.cf_elab.specs.ClassOperand as class_operand
use Rattle.cf_elab.specs.Env.{Env, Default}
use Rattle.cf_elab.specs.Fit as row
use Rattle.cf_elab.specs.Fit.{all_steps, stepped, step_checked, converted, to_kind, truth}
use Rattle.cf_elab.specs.Initial as initial_row
use Rattle.cf_elab.specs.Initial.{no_keeper}
use Rattle.cf_elab.specs.Made.{of_kind, pointer_to}
use Rattle.cf_elab.specs.Operand.{Value, Operand, value, functions, methods, field_name, bound_method, Sort, array_sort, function_sort, class_sort, sort_of, plain, plain_sort, decayed as decayed_row, value_of, val, defs, is_testable, one_function, Part, evaluated}
use Rattle.cf_elab.specs.UserFit as user
use Rattle.cf_elab_env.specs.Holds.{without_class}
use Rattle.cf_elab_valid.proofs.FitNoUser.{no_user_function}
use Rattle.cf_elab_valid.specs.Scene.{Classless, IsShown}
use Rattle.cf_elab_valid.proofs.FitRows.{classless-type, no_defs, all_checked}
use Rattle.cf_elab_valid.proofs.Unary.{classless-number}
use Rattle.cf_elab.specs.Env.{FunctionEntry}
use Rattle.std.specs.Prelude.{slice_get}
use Rattle.cf_elab_valid_objects.specs.Quiet.{QuietIn, IsQuietPart}
use Rattle.cf_elab_valid_objects.proofs.Steps.{quiet-none, quiet-onward, still-quiet, need-quiet, each-quiet, shown-behind, pointer_to-quiet, of_kind-quiet, counted-quiet}

-- ---- values

pub plain-quiet : (v : Value) (e : Env) → Classless e → QuietIn e (plain v e)
plain-quiet v e c = by (sort_of e.types v.type)
  where
    decayed : (t : ℕ) → QuietIn e (decayed_row v t e)
    decayed t = pointer_to-quiet t e c

    by : (k : Sort) → QuietIn e (plain_sort e.types v k e)
    by (array_sort t n) = decayed t
    by (function_sort f) = decayed (bare e.types v.type)
    by (class_sort k) = quiet-none e c
    by k = quiet-none e c

one_function-quiet : (at : ℕ) (o : Option FunctionEntry) (e : Env) → Classless e → QuietIn e (one_function at o e)
one_function-quiet at None e c = tt
one_function-quiet at (Some f) e c = quiet-none e c

pub value_of-quiet : (o : Operand) (e : Env) → IsShown o → Classless e → QuietIn e (value_of o e)
value_of-quiet (value v) e shown c = quiet-none e c
value_of-quiet (functions at []) e shown c = tt
value_of-quiet (functions at (n ∷ [])) e shown c = one_function-quiet at (slice_get e.entries n) e c
value_of-quiet (functions at (n ∷ m ∷ rest)) e shown c = tt
value_of-quiet (methods m) e shown c = absurd shown
value_of-quiet (field_name x y z m) e shown c = absurd shown
value_of-quiet (bound_method x y z) e shown c = absurd shown

pub evaluated-quiet : (p : Part) (e : Env) → IsQuietPart p → Classless e → QuietIn e (evaluated p e)
evaluated-quiet p e k c = shown-behind e (p.run e) value_of c (k.run e c) (λ o f shown cf. value_of-quiet o f shown cf)

-- ---- conversions

stepped-quiet : (t : ℕ) (y : ConvStep) (v : Value) (e : Env) → Classless e → QuietIn e (stepped t y v e)
stepped-quiet t Decay v e c = plain-quiet v e c
stepped-quiet t Read v e c = quiet-none e c
stepped-quiet t AddConst v e c = quiet-none e c
stepped-quiet t Promote v e c = quiet-none e c
stepped-quiet t (Integer k) v e c = quiet-none e c
stepped-quiet t Null v e c = quiet-none e c
stepped-quiet t ToVoid v e c = quiet-none e c
stepped-quiet t (ToBase p) v e c = quiet-none e c
stepped-quiet t (ToMember p) v e c = quiet-none e c

all_steps-quiet : (t : ℕ) (ss : List ConvStep) (v : Value) (e : Env) → Classless e → QuietIn e (all_steps t ss v e)
all_steps-quiet t [] v e c = quiet-none e c
all_steps-quiet t (y ∷ ys) v e c = quiet-onward e (stepped t y v e) (all_steps t ys) c (stepped-quiet t y v e c) (λ x f cf. all_steps-quiet t ys x f cf)

pub converted-quiet : (at t : ℕ) (ss : List ConvStep) (v : Value) (e : Env) → Classless e → QuietIn e (converted at t ss v e)
converted-quiet at t ss v e c = still-quiet e (for_each (step_checked at t v) ss e) (all_steps t ss v) (all_checked e at t v ss) (all_steps-quiet t ss v e c)

pub standard-quiet : (at t : ℕ) (v : Value) (e : Env) → Classless e → QuietIn e (row.fit at v t e)
standard-quiet at t v e c = by (steps e.types (defs e) (val v) (bare e.types t))
  where
    by : (o : Option (List ConvStep)) → QuietIn e (row.fitted row.no_user at v (bare e.types t) o e)
    by None = tt
    by (Some ss) = converted-quiet at (bare e.types t) ss v e c

pub fit-quiet : (at t : ℕ) (v : Value) (e : Env) → Classless e → QuietIn e (user.fit at v t e)
fit-quiet at t v e c = by (steps e.types (defs e) (val v) (bare e.types t))
  where
    nothing : by_user e.types (defs e) (val v) (bare e.types t) ≡ Nothing
    nothing = ap (λ d. by_user e.types d (val v) (bare e.types t)) (no_defs e c) ∙ no_user_function e.types (val v) (bare e.types t)

    by : (o : Option (List ConvStep)) → QuietIn e (row.fitted user.user_value at v (bare e.types t) o e)
    by None = subst (λ u. QuietIn e (user.by_function at v (bare e.types t) u e)) (sym nothing) tt
    by (Some ss) = converted-quiet at (bare e.types t) ss v e c

pub to_kind-quiet : (k : Kind) (v : Value) (e : Env) → Classless e → QuietIn e (to_kind k v e)
to_kind-quiet k v e c = quiet-onward e (of_kind k e) (λ t. row.fit 0 v t) c (of_kind-quiet k e c) (λ t f cf. standard-quiet 0 t v f cf)

pub truth-quiet : (rule at : ℕ) (v : Value) (e : Env) → Classless e → QuietIn e (truth rule at v e)
truth-quiet rule at v e c = quiet-onward e (plain v e) _ c (plain-quiet v e c) (λ x f cf. need-quiet f (is_testable (sort_of f.types x.type)) rule at (λ g. Made x g) (quiet-none f cf))

pub class_truth-quiet : (rule at : ℕ) (v : Value) (e : Env) → Classless e → QuietIn e (class_operand.truth rule at v e)
class_truth-quiet rule at v e c =
    subst (λ o. QuietIn e (onward (class_operand.scalar_of_class rule at v o e) (truth rule at))) (sym (classless-number e c v.type)) (truth-quiet rule at v e c)

-- ---- arguments

-- a reference that binds without a temporary, or with one of the full expression
bound-quiet : (at u : ℕ) (v : Value) (e : Env) → Classless e → QuietIn e (initial_row.bound user.fit no_keeper at u v e)
bound-quiet at u v e c = by (binds e.types (defs e) (val v) u)
  where
    by : (o : Option (List ConvStep)) → QuietIn e (initial_row.bound_or user.fit no_keeper at u v o e)
    by (Some ss) = quiet-onward e (converted at u ss v e) _ c (converted-quiet at u ss v e c) (λ x f cf. quiet-none f cf)
    by None = need-quiet e (is_const e.types u) 29 at _ (quiet-onward e (user.fit at v u e) _ c (fit-quiet at u v e c) (λ x f cf. quiet-none f cf))

pub initial-quiet : (at t : ℕ) (v : Value) (e : Env) → Classless e → QuietIn e (user.initial no_keeper at t v e)
initial-quiet at t v e c = by (type_at e.types (bare e.types t)) (classless-type e.types c.no_type (bare e.types t))
  where
    fitted : QuietIn e (onward (user.fit at v (bare e.types t) e) (λ x f. Made (initial_row.start_of x) f))
    fitted = quiet-onward e (user.fit at v (bare e.types t) e) (λ x f. Made (initial_row.start_of x) f) c (fit-quiet at (bare e.types t) v e c) (λ x f cf. quiet-none f cf)

    by : (x : Ty) → IsTrue (without_class x) → QuietIn e (initial_row.taken user.fit no_keeper at (bare e.types t) v x e)
    by (ty.Ref u) p = bound-quiet at u v e c
    by (ty.Class k) p = absurd (true≢false (sym p))
    by ty.Void p = fitted
    by (ty.Int k) p = fitted
    by (ty.Enum k) p = fitted
    by (ty.Ptr k) p = fitted
    by (ty.Array k n) p = fitted
    by (ty.Fun k) p = fitted
    by (ty.MemData k n) p = fitted
    by (ty.MemFun k n) p = fitted
    by (ty.Const k) p = fitted

with_arguments-quiet : (at : ℕ) (ps : List ℕ) (vs : List Value) (e : Env) → Classless e → QuietIn e (with_arguments (user.initial no_keeper) at ps vs e)
with_arguments-quiet at [] vs e c = quiet-none e c
with_arguments-quiet at (p ∷ ps) [] e c = quiet-none e c
with_arguments-quiet at (p ∷ ps) (v ∷ vs) e c =
    quiet-onward e (user.initial no_keeper at p v e) _ c (initial-quiet at p v e c)
    (λ x f cf. quiet-onward f (with_arguments (user.initial no_keeper) at ps vs f) _ cf (with_arguments-quiet at ps vs f cf) (λ rest g cg. quiet-none g cg))

defaulted-quiet : (d : Default) (e : Env) → Classless e → QuietIn e (defaulted d e)
defaulted-quiet d e c = counted-quiet (e.hand.literals + d.literals) e c

pub arguments-quiet : (at : ℕ) (ps : List ℕ) (ds : List Default) (vs : List Value) (e : Env) → Classless e → QuietIn e (user.arguments at ps ds vs e)
arguments-quiet at ps ds vs e c =
    quiet-onward e (with_arguments (user.initial no_keeper) at ps vs e) _ c (with_arguments-quiet at ps vs e c)
    (λ given f cf. quiet-onward f (each defaulted (drop (length ds - (length ps - length vs)) ds) f) (λ rest g. Made (given ++ rest) g) cf
    (each-quiet defaulted defaulted-quiet (drop (length ds - (length ps - length vs)) ds) f cf) (λ rest g cg. quiet-none g cg))
