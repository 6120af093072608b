use Rattle.std.proofs.Common.{◌∙◌, ap, sym, codes}
use Rattle.cf_core.specs.Joined.{in_file, owner_or}
use Rattle.cf_core_run.proofs.StaticLaws.{first-setter}
use Rattle.cf_core_run.proofs.statics.setter.Goals as goal

pub returns-in-None : goal.returns-in-None
returns-in-None c = λ T p. c.as_slice.ensures ∙ first-setter ∙ sym (ap (owner_or (in_file 1 (codes "__sti"))) c.in-None.is)
