use Rattle.std.proofs.Common.{◌≡◌, suc, ◌-◌, subst, ◌∙◌, ap, arith, rules}
use Rattle.cf_parse_decl.specs.Insides.{insides}
use Rattle.cf_parse_decl.specs.Nests.{within}
use Rattle.cf_parse_decl.specs.Reads.{Gives}
use Rattle.cf_parse_decl.specs.declared.grammar.Wanted.TheVariants as wanted
use Rattle.cf_parse_unit.proofs.knot.+knot.Goals as goal

pub inside-returns-else-depth-eq0 : goal.inside-returns-else-depth-eq0
inside-returns-else-depth-eq0 t c =
    let one : suc (c.args.depth - 1) ≡ c.args.depth = omega arith in
    let asked : wanted.Statement ≡ c.args.wanted = search rules in
    let same = ap (λ n. within (insides n) wanted.Statement c.args.known.now c.args.c.now) one
    ∙ ap (λ w. within (insides c.args.depth) w c.args.known.now c.args.c.now) asked in
    subst (λ o. Gives o c.statement_node.result c.statement_node.new.known c.statement_node.new.c) same c.statement_node.ensures

pub inside-returns-else-depth-eq0-2 : goal.inside-returns-else-depth-eq0-2
inside-returns-else-depth-eq0-2 t c =
    let one : suc (c.args.depth - 1) ≡ c.args.depth = omega arith in
    let asked : wanted.Class ≡ c.args.wanted = search rules in
    let same = ap (λ n. within (insides n) wanted.Class c.args.known.now c.args.c.now) one
    ∙ ap (λ w. within (insides c.args.depth) w c.args.known.now c.args.c.now) asked in
    subst (λ o. Gives o c.class_node.result c.class_node.new.known c.class_node.new.c) same c.class_node.ensures
