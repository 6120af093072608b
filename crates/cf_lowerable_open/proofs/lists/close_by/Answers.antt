use Rattle.std.proofs.Common.{rules, tests}
use Rattle.std.specs.Prelude.{not}
use Rattle.std.proofs.lemmas.Fn.{filter_same}
use Rattle.cf_lower_kept.specs.Opened.{goes_by}
use Rattle.cf_lowerable_open.specs.declared.opened.Opened.{Opened as CodeOpened}
use Rattle.cf_lowerable_open.specs.Told.{told}
use Rattle.cf_lowerable_open.proofs.Telling.{left_told}
use Rattle.cf_lowerable_open.proofs.lists.close_by.Goals as goal

pub returns : goal.returns
returns c =
    left_told (λ x. not (goes_by c.args.register x)) c.args.all.now.items c.retain.new.self.items
    (filter_same _ (λ (x : CodeOpened). not (goes_by c.args.register (told x))) _ (λ x b q h. search (rules, tests)) _ _ c.retain.ensures.filtered)
