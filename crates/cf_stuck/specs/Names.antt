-- What a function gives that finds names.
use Rattle.std.specs.Prelude.{◌≡◌, Option, Some, None, Result, Ok, Err}
use Rattle.cf_syntax.specs.NamesData.{Names}
use Rattle.cf_parse_expr.specs.declared.stop.Stop.{Stop}
use Rattle.cf_parse_expr.specs.declared.stop.Stop.TheVariants as stop

abbrev pub NoNames : Option Names → Stop → Type 0
NoNames found stop.Nothing = found ≡ None
NoNames found stop.Memory = Unit {0}

-- it answers `Nothing` exactly where there are none, and want of memory anywhere
abbrev pub FindsNames : Option Names → Result Names Stop → Type 0
FindsNames found (Ok names) = found ≡ Some names
FindsNames found (Err e) = NoNames found e
