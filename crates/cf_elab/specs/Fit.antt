-- Implicit conversion of a value to a type (4, 12.3), and the values that conditions take (6.4.1).
use Rattle.std.specs.Prelude.{ℕ, true, List, [], ◌∷◌, pos, Option, None, Some}
use Rattle.std.specs.Option.{option_map}
use Rattle.cf_base.specs.declared.kind.Kind.{Kind}
use Rattle.cf_base.specs.declared.kind.Kind.TheVariants as kind
use Rattle.cf_base.specs.Integers.{convert}
use Rattle.cf_types.specs.Table.{Table}
use Rattle.cf_convert.specs.Constness.{bare}
use Rattle.cf_convert.specs.Better.{class_reached}
use Rattle.cf_convert.specs.Converts.{steps}
use Rattle.cf_convert.specs.declared.conv.ConvStep.{ConvStep}
use Rattle.cf_convert.specs.declared.conv.ConvStep.TheVariants.{Read, Decay, AddConst, Promote, Integer, Null, ToVoid, ToBase, ToMember}
use Rattle.cf_core.specs.declared.node.Core.{Core as Node}
use Rattle.cf_core.specs.declared.node.Core.TheVariants as node
use Rattle.cf_elab.specs.Answer.{Elab, ◌>>=◌, ◌>>◌, gives, breaks, need, known, for_each, done}
use Rattle.cf_elab.specs.Made.{of_kind}
use Rattle.cf_elab.specs.Members.{need_base}
use Rattle.cf_elab.specs.Operand.{Value, val, defs, computed, read_value, plain, sort_of, Sort, integral, enumeral, is_testable}

-- ---- the steps of a conversion, one after the other

abbrev pub to_integer : ℕ → Kind → Value → Value
to_integer t k v =
    record v { node = node.Convert v.at t v.node; type = t; number = option_map (convert k) v.number }

-- a node is put round a pointer, a place or a pointer to member
abbrev pub wrapped : (ℕ → Node → Node) → Value → Value
wrapped make v = record v { node = make v.at v.node; number = None }

-- a null pointer is made of the constant 0 alone
abbrev pub null_of : ℕ → Value → Value
null_of t v = record (computed v.at (node.Convert v.at t (node.Number v.at (pos 0))) t) { is_fixed = true }

-- one step on the way to the type t
abbrev pub stepped : ℕ → ConvStep → Value → Elab Value
stepped t Read v = known >>= (λ env. gives (read_value env.types v))
stepped t Decay v = plain v
stepped t AddConst v = gives v
stepped t Promote v = do
  env ← known
  gives (to_integer t (promoted_kind (sort_of env.types t)) v)
  where
    promoted_kind : Sort → Kind
    promoted_kind (integral k) = k
    promoted_kind other = kind.Int
stepped t (Integer k) v = gives (to_integer t k v)
stepped t Null v = gives (null_of t v)
stepped t ToVoid v = gives (wrapped (λ at n. node.Convert at t n) v)
stepped t (ToBase p) v = gives (wrapped (λ at n. node.Up at p n) v)
stepped t (ToMember p) v = gives (wrapped (λ at n. node.ToMember at p n) v)

abbrev pub all_steps : ℕ → List ConvStep → Value → Elab Value
all_steps t [] v = gives (record v { type = t })
all_steps t (s ∷ ss) v = stepped t s v >>= all_steps t ss

-- the base is one, and accessible: else K14 (4.6, 4.8)
abbrev pub base_of_classes : ℕ → Option ℕ → Option ℕ → Elab (Unit {0})
base_of_classes at (Some d) (Some b) = need_base at d b
base_of_classes at d b = done

abbrev pub step_checked : ℕ → ℕ → Value → ConvStep → Elab (Unit {0})
step_checked at t v (ToBase p) = known >>= (λ env. base_of_classes at (class_reached env.types v.type) (class_reached env.types t))
step_checked at t v (ToMember p) = known >>= (λ env. base_of_classes at (class_reached env.types t) (class_reached env.types v.type))
step_checked at t v s = done

-- by these steps, to the type
abbrev pub converted : ℕ → ℕ → List ConvStep → Value → Elab Value
converted at t ss v = for_each (step_checked at t v) ss >> all_steps t ss v

-- ---- Fit

-- an integer or an enumeration becomes an enumeration by a cast alone (7.2)
abbrev pub misfit : Table → Value → ℕ → ℕ
misfit types v t = misfit_of (sort_of types v.type) (sort_of types t)
  where
    misfit_of : Sort → Sort → ℕ
    misfit_of (integral k) (enumeral e) = 25
    misfit_of (enumeral f) (enumeral e) = 25
    misfit_of a b = 13

module _ (user : ℕ → Value → ℕ → Elab Value) where
  -- by a standard conversion or, where there is none, by a user's function
  abbrev pub fitted : ℕ → Value → ℕ → Option (List ConvStep) → Elab Value
  fitted at v t None = user at v t
  fitted at v t (Some ss) = converted at t ss v

  -- the value as one of the type, which is no reference
  abbrev pub fit_by : ℕ → Value → ℕ → Elab Value
  fit_by at v t = do
    env ← known
    fitted at v (bare env.types t) (steps env.types (defs env) (val v) (bare env.types t))

-- a value that no class is asked for
abbrev pub no_user : ℕ → Value → ℕ → Elab Value
no_user at v t = known >>= (λ env. breaks (misfit env.types v t) at)

-- Fit: the value as one of the type; else the rule is broken at the place
abbrev pub fit : ℕ → Value → ℕ → Elab Value
fit at v t = fit_by no_user at v t

-- an integer or an enumeration as a value of an integer type
abbrev pub to_kind : Kind → Value → Elab Value
to_kind k v = do
  t ← of_kind k
  fit 0 v t

-- Truth: a value of an arithmetic or pointer type
abbrev pub truth : ℕ → ℕ → Value → Elab Value
truth rule at v = do
  x ← plain v
  env ← known
  need (is_testable (sort_of env.types x.type)) rule at
  gives x
