use Rattle.std.proofs.Common.{◌≡◌, true, drop, get_or}
use Rattle.std.specs.List.{list_all}
use Rattle.cf_sound.proofs.proper.all_told.Given as goal

abbrev pub invariant-loop-id : goal.invariant-loop-id
invariant-loop-id l = list_all (λ t. get_or l.known t true) (drop l.id-index l.ids) ≡ list_all (λ t. get_or l.known t true) l.ids
