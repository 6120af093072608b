use Rattle.std.proofs.Common.{◌≡◌, refl, subst, rules}
use Rattle.cf_nesting.specs.declared.nesting.Nesting.TheVariants as found
use Rattle.cf_nesting.specs.Found.{found_in}
use Rattle.cf_parse_expr.specs.Answers.{outside}
use Rattle.cf_unit.specs.Answers.{IsUnit, nested, refused, unpaired}
use Rattle.cf_parse_file.proofs.Nested.{deep, unmatched-at}
use Rattle.cf_parse_file.proofs.answer.unit.Goals as goal

pub returns-in-TooDeep : goal.returns-in-TooDeep
returns-in-TooDeep c =
    let is : found_in c.args.tokens.now ≡ found.TooDeep = search rules in (refl, nested (deep c.args.tokens.now is))

pub returns-in-Unmatched : goal.returns-in-Unmatched
returns-in-Unmatched c =
    let is : found_in c.args.tokens.now ≡ found.Unmatched c.in-Unmatched.at = search rules in
    let parts = unmatched-at c.args.tokens.now c.in-Unmatched.at is in
    let there : outside c.in-Unmatched.at ≡ c.outside.result = search rules in
    subst (λ b. (b ≡ outside b.at) × IsUnit c.args.tokens.now (refused b.at)) there
    (refl, unpaired c.in-Unmatched.at parts.0 parts.1)
