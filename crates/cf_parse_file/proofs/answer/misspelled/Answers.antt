use Rattle.std.proofs.Common.{◌≡◌, Some, IsSome, refl, subst, sym, rules}
use Rattle.cf_parse_expr.specs.Answers.{outside}
use Rattle.cf_unit.specs.Answers.{IsUnit, refused}
use Rattle.cf_stuck.specs.Place.{refused_at}
use Rattle.cf_parse_file.proofs.Laws.{refused-at, some-place}
use Rattle.cf_parse_file.proofs.answer.misspelled.Goals as goal

pub unwrap-requires : goal.unwrap-requires
unwrap-requires c =
    let told : refused_at c.args.tokens.now ≡ c.in-Ok.found = search rules in
    subst (λ o. IsSome o) told (some-place c.args.tokens.now c.requires.none)

pub returns-in-Ok : goal.returns-in-Ok
returns-in-Ok c =
    let told : refused_at c.args.tokens.now ≡ Some c.unwrap.result = search rules in
    let there : outside c.unwrap.result ≡ c.outside.result = search rules in
    subst (λ b. (b ≡ outside b.at) × IsUnit c.args.tokens.now (refused b.at)) there
    (refl, refused-at c.args.tokens.now c.unwrap.result c.requires.nesting c.requires.brackets told)
