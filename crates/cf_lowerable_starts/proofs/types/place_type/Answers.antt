use Rattle.cf_lowerable_starts.proofs.TypeLaws.{bare_twice}
use Rattle.cf_lowerable_starts.proofs.types.place_type.Goals as goal

pub returns-in-Bare : goal.returns-in-Bare
returns-in-Bare c = λ tables. bare_twice tables c.args.target.now c.in-Bare.id c.in-Bare.is
