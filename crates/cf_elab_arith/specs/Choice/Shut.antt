-- The rows that this crate does, each under a name of its own that does not unfold. `Rattle.cf_elab_arith.proofs.ChoiceLaws.Steps` says what each is.
use Rattle.std.specs.Prelude.{ℕ, if◌then◌else◌, List, Option, None, Some}
use Rattle.cf_base.specs.declared.kind.Kind.{Kind}
use Rattle.cf_convert.specs.declared.conv.ConvStep.{ConvStep}
use Rattle.cf_elab.specs.Answer.{Elab, ◌>>=◌, gives, known, breaks}
use Rattle.cf_elab.specs.Choice as choice
use Rattle.cf_elab.specs.Fit.{converted, to_kind}
use Rattle.cf_elab.specs.Made.{of_kind}
use Rattle.cf_elab.specs.Members.{class_number}
use Rattle.cf_elab.specs.Operand.{Value, plain, sort_of, arithmetic}
use Rattle.cf_elab_arith.specs.Choice.Asked.{is_one_place, is_one_pointer, are_void, steps_between}

-- two arithmetic values as values of one type
unfoldable pub both_arithmetic : ℕ → Value → Value → Value → Kind → Elab Value
both_arithmetic at c x y k = do
  a ← to_kind k x
  b ← to_kind k y
  t ← of_kind k
  gives (choice.one_of at c a b t)

-- the first by these steps as one of the second's type, and the other way
unfoldable pub as_second : ℕ → Value → Value → Value → List ConvStep → Elab Value
as_second at c x y ss = do
  a ← converted at y.type ss x
  gives (choice.one_of at c a y y.type)

unfoldable pub as_first : ℕ → Value → Value → Value → List ConvStep → Elab Value
as_first at c x y ss = do
  b ← converted at x.type ss y
  gives (choice.one_of at c x b x.type)

-- the second as one of the first's type, where the first is not converted to that of the second
abbrev pub by_first : ℕ → Value → Value → Value → Option (List ConvStep) → Elab Value
by_first at c x y None = breaks 18 at
by_first at c x y (Some ss) = as_first at c x y ss

unfoldable pub not_second : ℕ → Value → Value → Value → Elab Value
not_second at c x y = known >>= (λ env. by_first at c x y (steps_between env y x.type))

unfoldable pub one_type : ℕ → Value → Value → Value → Elab Value
one_type at c x y = known >>= (λ env. choice.one_type at c x y (steps_between env x y.type) (steps_between env y x.type))

-- a pointer and another value
unfoldable pub pointers : ℕ → Value → Value → Value → Elab Value
pointers at c x y = known >>= (λ env. if is_one_pointer env.types x.type y.type then one_type at c x y else breaks 18 at)

-- two values that are not both arithmetic
unfoldable pub not_arithmetic : ℕ → Value → Value → Value → Elab Value
not_arithmetic at c x y = known >>= (λ env. if are_void env.types x.type y.type then gives (choice.one_of at c x y x.type) else pointers at c x y)

unfoldable pub alternatives : ℕ → Value → Value → Value → Elab Value
alternatives at c x y =
    known >>= (λ env. choice.alternatives at c x y (sort_of env.types x.type) (sort_of env.types y.type) (arithmetic (sort_of env.types x.type)) (arithmetic (sort_of env.types y.type)))

unfoldable pub by_values : ℕ → Value → Value → Value → Elab Value
by_values at c x y = do
  a ← plain x
  b ← plain y
  alternatives at c a b

abbrev pub by_class : ℕ → Value → Value → Value → Option ℕ → Elab Value
by_class at c x y None = by_values at c x y
by_class at c x y (Some k) = choice.one_object at c x y k

-- behind the condition
unfoldable pub chosen_one : ℕ → Value → Value → Value → Elab Value
chosen_one at c x y = do
  env ← known
  if is_one_place x y then gives (choice.one_place at c x y)
      else by_class at c x y (choice.same_class (class_number (sort_of env.types x.type)) (class_number (sort_of env.types y.type)))

unfoldable pub conditional : ℕ → Value → Value → Value → Elab Value
conditional = choice.conditional

unfoldable pub sequence : ℕ → List Value → Elab Value
sequence = choice.sequence
