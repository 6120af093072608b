use Rattle.std.proofs.Common.{◌≡◌, drop}
use Rattle.cf_elab_functions.specs.Entries.{first_of}
use Rattle.cf_elab_functions.proofs.entries.first_of.Given as goal

abbrev pub invariant-loop-number : goal.invariant-loop-number
invariant-loop-number l =
    first_of l.env.types l.env.entries l.says.ty (drop l.number-index l.numbers) ≡ first_of l.env.types l.env.entries l.says.ty l.numbers
