use Rattle.std.proofs.Common.{◌≡◌, ◌++◌, drop}
use Rattle.cc_whole.specs.Uses.{local_names}
use Rattle.cc_whole_uses.specs.Told.{told}
use Rattle.cc_whole_uses.proofs.inner.own.Given as goal

abbrev pub invariant-loop-local : goal.invariant-loop-local
invariant-loop-local l = told l.out.items ++ local_names (drop l.local-index l.locals) ≡ told l.initial.out.items ++ local_names l.locals
