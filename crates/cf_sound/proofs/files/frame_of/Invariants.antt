use Rattle.std.proofs.Common.{◌≡◌, ◌++◌, drop}
use Rattle.cf_sound.proofs.files.frame_of.Given as goal

abbrev pub invariant-loop-local : goal.invariant-loop-local
invariant-loop-local l = l.frame ++ drop l.local-index l.local-items ≡ l.f.params ++ l.f.locals
