use Rattle.std.proofs.Common.{◌≡◌, drop, map}
use Rattle.cf_plain.specs.View.{static_of}
use Rattle.cf_lowerable_known.specs.Owned.{all_known}
use Rattle.cf_lowerable_known.proofs.statics.all_known.Given as goal

abbrev pub invariant-loop-object : goal.invariant-loop-object
invariant-loop-object l = all_known l.names (map (static_of l.tables) (drop l.object-index l.statics)) ≡ all_known l.names (map (static_of l.tables) l.statics)
