-- The objects of calls' arguments are locals of their own: no call passes on an object of a parameter of the function in which it stands.
use Rattle.std.specs.Prelude.{nat_le, Bool, length}
use Rattle.std.specs.List.{list_all}
use Rattle.cf_core.specs.Types.{parameters}
use Rattle.cf_plain.specs.Plain.{PlainFunction, PlainFile}
use Rattle.cf_lower.specs.Functions.{locals_of}

abbrev pub behind_parameters : PlainFunction → Bool
behind_parameters f = list_all (λ i. nat_le (length (parameters f.type)) i) (locals_of f).arguments

abbrev pub arguments_apart : PlainFile → Bool
arguments_apart file = list_all behind_parameters file.functions
