use Rattle.std.proofs.Common.{◌≡◌, suc, length, subst, ◌∙◌, ap, rules}
use Rattle.cf_syntax.specs.Names.{no_names}
use Rattle.cf_unit.specs.Known.{in_block}
use Rattle.cf_parse_unit.specs.Files.{items}
use Rattle.cf_parse_unit.specs.Whole.{GivesItems}
use Rattle.cf_parse_unit.proofs.Read.{items-are}
use Rattle.cf_parse_unit.proofs.files.items_of.Goals as goal

pub returns : goal.returns
returns c =
    let same : items c.depth-depth.result (in_block no_names) c.args.tokens.now ≡ items (suc (length c.args.tokens.now)) (in_block no_names) c.args.tokens.now =
    ap (λ n. items n (in_block no_names) c.args.tokens.now) (search rules) in
    let given : GivesItems (items c.depth-depth.result (in_block no_names) c.args.tokens.now) c.items_to.result = search rules in
    subst (λ o. GivesItems o c.items_to.result) (same ∙ items-are (suc (length c.args.tokens.now)) (in_block no_names) c.args.tokens.now) given
