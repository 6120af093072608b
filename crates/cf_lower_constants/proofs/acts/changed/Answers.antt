use Rattle.std.proofs.Common.{◌≡◌, ap, ◌∙◌}
use Rattle.cf_lower_types.specs.Bare.{classes_of}
use Rattle.cf_lower_constants.specs.Knowing.{changed_to, fact_number, known_in, nameless}
use Rattle.cf_lower_constants.specs.Sites.{told_all}
use Rattle.cf_lower_constants.proofs.Operated.{changed_is}
use Rattle.cf_lower_constants.proofs.acts.changed.Goals as goal

pub returns : goal.returns
returns c =
    let x = c.args.x.now in
    let tables = x.tables.now in
    let a = c.in_ok-a.a in
    let given : c.in_ok-given.given ≡ changed_to c.args.op c.args.kind (fact_number a.fact) = cc c.in_ok-given.ensures in
    ap (known_in tables) (c.nameless.ensures ∙ ap nameless c.of_number.ensures)
    ∙ changed_is tables (classes_of tables) x.owner.now (told_all x c.args.known.now) c.args.kind c.args.op c.args.operand a c.in_ok-given.given
    (ap (known_in tables) c.in_ok-a.ensures) given
