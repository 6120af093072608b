use Rattle.cc_whole_registered.proofs.Program.{registers-nothing}
use Rattle.cc_whole_registered.proofs.valid_programs_register_nothing.Goals as goal

pub returns : goal.returns
returns c = registers-nothing
