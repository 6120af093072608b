use Rattle.std.proofs.Common.{◌∙◌}
use Rattle.cc_whole_linker.proofs.NameLaws.{is-in}
use Rattle.cc_whole_linker.proofs.capturing.is_among.Goals as goal

pub returns : goal.returns
returns c = c.has.ensures ∙ is-in c.args.names.now c.args.name.now
