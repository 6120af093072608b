use Rattle.std.proofs.Common.{◌≡◌, ap, ◌∙◌}
use Rattle.cf_lower_types.specs.Bare.{classes_of}
use Rattle.cf_lower_constants.specs.Knowing.{fact_number, known_in, nameless, operated_on}
use Rattle.cf_lower_constants.specs.Sites.{told_all}
use Rattle.cf_lower_constants.proofs.Operated.{operated_is}
use Rattle.cf_lower_constants.proofs.acts.operated.Goals as goal

pub returns : goal.returns
returns c =
    let x = c.args.x.now in
    let tables = x.tables.now in
    let a = c.in_ok-a.a in
    let b = c.in_ok-b.b in
    let given : c.in_ok-given.given ≡ operated_on c.args.op c.args.kind (fact_number a.fact) (fact_number b.fact) = cc c.in_ok-given.ensures in
    ap (known_in tables) (c.nameless.ensures ∙ ap nameless c.of_number.ensures)
    ∙ operated_is tables (classes_of tables) x.owner.now (told_all x c.args.known.now) c.args.kind c.args.op c.args.left c.args.right a b c.in_ok-given.given
    (ap (known_in tables) c.in_ok-a.ensures) (ap (known_in tables) c.in_ok-b.ensures) given
