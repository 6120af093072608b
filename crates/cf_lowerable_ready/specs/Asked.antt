-- What is asked of a scalar that is changed.
use Rattle.std.specs.Prelude.{Bool, true, Option}
use Rattle.cf_core.specs.Core.{Change, arithmetic, moved}
use Rattle.cf_plain_kept.specs.Kept.{Kept}
use Rattle.cf_lower_kept.specs.Ready.{of_place, is_object}

abbrev pub change_ready : Change → Option Kept → Bool
change_ready (moved back) x = of_place is_object x
change_ready (arithmetic op k to) x = true
