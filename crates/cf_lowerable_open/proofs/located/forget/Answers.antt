use Rattle.std.proofs.Common.{rules, tests}
use Rattle.std.proofs.lemmas.Fn.{filter_same}
use Rattle.cf_lowerable_open.proofs.Counts.{forgets, is_other}
use Rattle.cf_lowerable_open.proofs.located.forget.Goals as goal

pub returns : goal.returns
returns c =
    forgets c.args.register c.args.places.now.items c.retain.new.self.items
    (filter_same _ (is_other c.args.register) _ (λ x b q h. search (rules, tests)) _ _ c.retain.ensures.filtered)
