use Rattle.cf_elab_apart.proofs.Starts.{static-starts}
use Rattle.cf_elab_apart.proofs.laws.starts_are_apart.Goals as goal

pub returns : goal.returns
returns c = λ s scene arrays reference owner own place at t w e classless h f a i n. static-starts s scene arrays reference owner own place at t w e classless h f a i n
