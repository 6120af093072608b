use Rattle.std.proofs.Common.{◌≡◌, ℕ, List, ◌||◌, drop}
use Rattle.cf_name_list.specs.Names.{is_in}
use Rattle.cf_lowerable_known.specs.Owned.{names_of}
use Rattle.cf_lowerable_known.proofs.owners.add_functions.Given as goal

abbrev pub invariant-loop-function : goal.invariant-loop-function
invariant-loop-function l =
    (q : List ℕ) → (is_in (names_of (drop l.function-index l.functions)) q || is_in l.names q) ≡ (is_in (names_of l.functions) q || is_in l.initial.names q)
