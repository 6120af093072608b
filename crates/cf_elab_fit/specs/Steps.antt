-- What the steps of a conversion ask of the types.
use Rattle.std.specs.Prelude.{ℕ, Bool, true, false, IsTrue, if◌then◌else◌, ℤ, Option, None, Some}
use Rattle.cf_base.specs.declared.kind.Kind.{Kind}
use Rattle.cf_base.specs.declared.kind.Kind.TheVariants as kind
use Rattle.cf_convert.specs.declared.conv.ConvStep.{ConvStep}
use Rattle.cf_convert.specs.declared.conv.ConvStep.TheVariants.{ToBase, ToMember}
use Rattle.cf_elab.specs.Operand as operand
use Rattle.cf_types.specs.Table.{Table}
use Rattle.cf_elab.specs.Operand.{Value}
use Rattle.cf_elab_env.specs.Holds.{Known, fits_sort}
use Rattle.cf_elab_env.specs.declared.sort.Sort.{Sort}
use Rattle.cf_elab_env.specs.declared.sort.Sort.TheVariants as sort

-- the integer type that promotion goes to
abbrev pub kind_promoted : Sort → Kind
kind_promoted (sort.Integral k) = k
kind_promoted other = kind.Int

-- whether a step goes to no base
abbrev pub stays_in_class : ConvStep → Bool
stays_in_class (ToBase p) = false
stays_in_class (ToMember p) = false
stays_in_class other = true

-- a number that is known is one of a type of this sort
abbrev pub FitsAs : operand.Sort → Option ℤ → Type 0
FitsAs s None = Unit {0}
FitsAs s (Some z) = IsTrue (fits_sort s z)

abbrev pub is_number : Sort → Bool
is_number (sort.Integral k) = true
is_number (sort.Enumeral e) = true
is_number other = false

-- the rule that a value breaks which is not converted: an integer or an enumeration becomes an enumeration by a cast alone (7.2)
abbrev pub misfit_rule : Sort → Sort → ℕ
misfit_rule from (sort.Enumeral e) = if is_number from then 25 else 13
misfit_rule from other = 13

-- what is made of a value whose number is one of its type is such a value again
pub record StaysKnown (old : Table) (v : Value) (new : Table) (r : Value) : Type 0 where
  pub by : Known old v → Known new r
