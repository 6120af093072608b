use Rattle.cf_core_load.proofs.FileLaws.{program_is, meaning_is}
use Rattle.cf_core_load.proofs.file.load.Goals as goal

pub returns-clause-program : goal.returns-clause-program
returns-clause-program c = program_is c.args.unit.now c.functions-valid.ensures.valid c.in_ok-found.found c.in_ok-found.ensures.0 c.in_ok-found.ensures.1

pub returns-clause-meaning : goal.returns-clause-meaning
returns-clause-meaning c = meaning_is c.args.unit.now c.functions-valid.ensures.valid c.in_ok-found.found c.in_ok-found.ensures.0 c.in_ok-found.ensures.1
