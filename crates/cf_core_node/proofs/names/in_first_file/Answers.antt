use Rattle.std.proofs.Common.{◌∙◌, ap, ℕ, List, ◌++◌}
use Rattle.std.specs.Prelude.{codes}
use Rattle.cf_core_node.proofs.NameLaws.{in_first}
use Rattle.cf_core_node.proofs.names.in_first_file.Goals as goal

pub returns : goal.returns
returns c =
    c.from_vec.ensures ∙ c.in_ok-extend_from_slice.ensures.items ∙ ap (λ (l : List ℕ). l ++ codes "__u1") c.in_ok-bytes.ensures.items ∙ in_first c.args.name.now
