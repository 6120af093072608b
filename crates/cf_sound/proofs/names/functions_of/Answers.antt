use Rattle.std.proofs.Common.{ap, ◌∙◌, ◌||◌}
use Rattle.cf_name_list.specs.Names.{is_in}
use Rattle.cf_sound.specs.Named.{function_names}
use Rattle.cf_sound.proofs.NameLaws.{are_functions}
use Rattle.cf_sound.proofs.names.functions_of.Goals as goal

pub returns : goal.returns
returns c =
    are_functions c.args.unit.now c.new-names.result c.add_functions.new.names c.new-names.ensures
    (λ q. c.in_ok-add_functions.ensures q ∙ ap (λ l. is_in (function_names l) q || is_in c.new-names.result q) c.functions.ensures.functions)
