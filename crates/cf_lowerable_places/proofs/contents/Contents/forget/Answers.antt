use Rattle.std.proofs.Common.{refl}
use Rattle.cf_lower_held.specs.Scenes.{locals_in, statements_in}
use Rattle.cf_lowerable_places.proofs.Holding.{forgotten}
use Rattle.cf_lowerable_places.proofs.contents.Contents.forget.Goals as goal

pub returns : goal.returns
returns c =
    let x = c.args.x.now in
    forgotten x (locals_in x) (statements_in x c.args.all.now) c.args.self.now (record { registers = c.forget.new.rs; kinds = c.args.self.now.kinds }) c.forget.ensures refl
