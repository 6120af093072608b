use Rattle.std.proofs.Common.{◌||◌, ap, ◌∙◌}
use Rattle.cf_name_list.specs.Names.{is_in}
use Rattle.cf_lowerable_known.specs.Owned.{names_of}
use Rattle.cf_lowerable_known.proofs.Files.{or_false}
use Rattle.cf_lowerable_known.proofs.owners.names_of.Goals as goal

pub returns : goal.returns
returns c =
    λ q. c.in_ok-add_functions.ensures q ∙ ap (λ l. is_in (names_of c.args.functions.now) q || is_in l q) c.new-names.ensures ∙ or_false (is_in (names_of c.args.functions.now) q)
