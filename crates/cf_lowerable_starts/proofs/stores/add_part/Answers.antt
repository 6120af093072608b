use Rattle.std.proofs.Common.{◌∷◌, ap, ◌∙◌}
use Rattle.cf_lower_constants.specs.Knowing.{known_in}
use Rattle.cf_lower_program.specs.Alike.{Part, part_of}
use Rattle.cf_lowerable_starts.specs.Telling.{tells}
use Rattle.cf_lowerable_starts.proofs.StateLaws.{both}
use Rattle.cf_lowerable_starts.proofs.stores.add_part.Goals as goal

pub returns : goal.returns
returns c =
    let x = c.args.x.now in
    let old = tells x c.args.s.now in
    let tables = x.tables.now in
    record {
      known = c.in_ok-add_part.ensures.known x;
      told = c.in_ok-add_part.ensures.told x
          ∙ ap (λ (p : Part). both old.facts (p ∷ old.parts))
          (c.in_ok-part.ensures c.in_ok-at.at.name ∙ ap (λ k. part_of (known_in tables k)) c.in_ok-at.ensures);
    }
