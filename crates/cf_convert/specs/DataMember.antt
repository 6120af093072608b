-- A pointer to a data member, while no class has a base: the class is the same, and so is the type but for an added const.
use Rattle.std.specs.Prelude.{ℕ, Bool, if◌then◌else◌, List, [], Option, None, Some}
use Rattle.cf_types.specs.Table.{Table}
use Rattle.cf_convert.specs.declared.conv.ConvStep.{ConvStep}
use Rattle.cf_convert.specs.Converts.{with_const, same_then}
use Rattle.cf_convert.specs.Constness.{is_const, is_alike}

abbrev pub data_member_steps : Table → Bool → ℕ → ℕ → Option (List ConvStep)
data_member_steps types same_class t u =
    with_const (is_const types t) (is_const types u) (same_then (is_alike types t u) (if same_class then Some [] else None))
