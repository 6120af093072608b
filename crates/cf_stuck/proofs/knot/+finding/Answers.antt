use Rattle.std.proofs.Common.{◌≡◌, suc, ◌-◌, sym, ◌∙◌, ap, subst, arith}
use Rattle.cf_parse_decl.specs.declared.grammar.Wanted.TheVariants as wanted
use Rattle.cf_stuck_statement.specs.Finds.{Finds}
use Rattle.cf_stuck_statement.specs.Inside.{places, stuck_inside}
use Rattle.cf_stuck.proofs.Elements.{specified-is}
use Rattle.cf_stuck.proofs.Whole.{class-is}
use Rattle.cf_stuck.proofs.knot.+finding.Goals as goal

pub find_class-returns : goal.find_class-returns
find_class-returns t c =
    let one : suc (c.args.depth - 1) ≡ c.args.depth = omega arith in
    subst (λ o. Finds o c.class.result)
    (class-is (c.args.depth - 1) c.args.known.now c.args.c.now ∙ ap (λ n. (places n).class c.args.known.now c.args.c.now) one) c.class.ensures

pub find_statement-returns : goal.find_statement-returns
find_statement-returns t c =
    let one : suc (c.args.depth - 1) ≡ c.args.depth = omega arith in
    subst (λ n. Finds ((places n).statement c.args.known.now c.args.c.now) c.statement.result) one c.statement.ensures

pub find_inside-returns-in-Declaration : goal.find_inside-returns-in-Declaration
find_inside-returns-in-Declaration t c =
    subst (λ w. Finds (stuck_inside (places c.args.depth) w c.args.known.now c.args.c.now) c.in_specifiers.result) (sym c.in-Declaration.is)
    (subst (λ o. Finds o c.in_specifiers.result) ((specified-is c.args.depth c.args.known.now).same c.args.c.now) c.in_specifiers.ensures)
