use Rattle.std.proofs.Common.{◌≡◌, ℕ, List, ◌||◌, drop}
use Rattle.cc_whole.specs.Known.{is_in}
use Rattle.cc_whole_uses.specs.Told.{told}
use Rattle.cf_lowerable_names.proofs.known.add_all.Given as goal

abbrev pub invariant-loop-name : goal.invariant-loop-name
invariant-loop-name l = (q : List ℕ) → (is_in (told (drop l.name-index l.more)) q || is_in l.names q) ≡ (is_in (told l.more) q || is_in l.initial.names q)
