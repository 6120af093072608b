use Rattle.std.proofs.Common.{ap, ◌∙◌}
use Rattle.cf_lower.specs.Constants.{Known, know, known_by}
use Rattle.cf_lower_constants.specs.Sites.{action_at, told_all}
use Rattle.cf_lower_program.specs.Starts.{is_known}
use Rattle.cf_lowerable_known.proofs.Turns.{none_of}
use Rattle.cf_lowerable_known.proofs.acts.set.Goals as goal

pub returns : goal.returns
returns c =
    let x = c.args.x.now in
    let g = told_all x c.args.known.now in
    let given = c.in_ok-given.given in
    let told =
    c.in_ok-given.ensures ∙ ap (λ cs. known_by cs x.owner.now g (action_at x c.args.a.now)) (none_of x.tables.now c.types-types.ensures.ordered.no_classes) in
    record {
      known = c.is_known-is.ensures x.tables.now given.target given.name ∙ ap is_known told;
      behind = c.in_ok-know.ensures x.tables.now ∙ ap (λ (k : Known). know g c.args.register k) told;
    }
