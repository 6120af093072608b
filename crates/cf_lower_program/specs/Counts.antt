-- Registers, locals and flags have names of their own: their numbers are written with 64 digits at most. And what files share is local to none (3.3).
use Rattle.std.specs.Prelude.{◌^◌, Bool, ◌&&◌, not, nat_le, ◌++◌, length}
use Rattle.std.specs.List.{list_all}
use Rattle.cf_core.specs.Types.{parameters}
use Rattle.cf_plain.specs.Plain.{PlainFunction, PlainStatic, PlainFile}
use Rattle.cf_lower.specs.Functions.{all_bound, all_nesting}

abbrev pub function_counts : PlainFunction → Bool
function_counts f =
    nat_le (all_bound f.body) (2 ^ 64) && nat_le (all_nesting f.body) (2 ^ 64) && nat_le (length (parameters f.type ++ f.locals)) (2 ^ 64)

abbrev pub counts_fit : PlainFile → Bool
counts_fit file = list_all function_counts file.functions

abbrev pub shared_apart : PlainFile → Bool
shared_apart file =
    list_all (λ (f : PlainFunction). not (f.is_shared && f.is_local)) file.functions
    && list_all (λ (x : PlainStatic). not (x.is_shared && x.is_local)) file.statics
