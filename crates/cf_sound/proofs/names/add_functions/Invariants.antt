use Rattle.std.proofs.Common.{◌≡◌, ℕ, List, ◌||◌, drop}
use Rattle.cf_name_list.specs.Names.{is_in}
use Rattle.cf_sound.specs.Named.{function_names}
use Rattle.cf_sound.proofs.names.add_functions.Given as goal

abbrev pub invariant-loop-function : goal.invariant-loop-function
invariant-loop-function l =
    (q : List ℕ) → (is_in (function_names (drop l.function-index l.functions)) q || is_in l.names q) ≡ (is_in (function_names l.functions) q || is_in l.initial.names q)
