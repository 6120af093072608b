-- The first name has the first bytes.
use Rattle.std.proofs.Common.{◌∙◌, sym, ap, [], string_bytes}
use Rattle.std.proofs.lemmas.List.{get_or-map}
use Rattle.cfront.proofs.go.first_name.Goals as goal

pub returns : goal.returns
returns c = c.as_str.ensures.value ∙ (ap string_bytes c.index-names-0.is
    ∙ sym (get_or-map string_bytes c.args.names.now 0 c.index-names-0.result [] c.requires))
