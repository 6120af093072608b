use Rattle.std.proofs.Common.{◌≡◌, ◌≤◌, ◌<◌, suc, Some, None, ◌∷◌, [], ◌++◌, ◌-◌, length, ap, ◌∙◌, subst, arith, rules}
use Rattle.cf_parse_expr.specs.Reads.{Reads}
use Rattle.cf_unit.specs.Read.{reading, taking, row}
use Rattle.cf_unit.specs.Files.{inner, by_tree}
use Rattle.cf_parse_decl.specs.Initialisers.{init_at, init_turn, more_inits}
use Rattle.cf_parse_decl.proofs.Inits.{init-is}
use Rattle.cf_parse_decl.proofs.Rows.{row-stops, row-stalls, row-goes-on, row-ends}
use Rattle.cf_parse_decl.proofs.initialisers.+inits.Goals as goal

pub more_inits-returns-then-len-left : goal.more_inits-returns-then-len-left
unfolding more_inits init_turn
more_inits-returns-then-len-left t c =
    let read : init_turn c.args.depth c.args.names.now c.loop-turn.all c.loop-turn.c ≡ Some (c.loop-turn.all ++ c.in-Ok.x ∷ [], c.listed_init.new.c) = search rules in
    let longer : length c.loop-turn.c ≤ length c.listed_init.new.c = search rules in
    let e = row-stalls (init_turn c.args.depth c.args.names.now) (c.len-turn-end.result - c.loop-turn._turn) c.loop-turn.all (c.loop-turn.all ++ c.in-Ok.x ∷ []) c.loop-turn.c c.listed_init.new.c (row (λ b us. taking (init_turn c.args.depth c.args.names.now b us) us) (length c.args.c.now) c.args.first c.args.c.now) read longer c.loop-turn.invariant in
    search rules

pub more_inits-returns-in-Err-Nothing : goal.more_inits-returns-in-Err-Nothing
unfolding more_inits init_turn
more_inits-returns-in-Err-Nothing t c =
    let over : init_turn c.args.depth c.args.names.now c.loop-turn.all c.loop-turn.c ≡ None = search rules in
    let e = row-stops (init_turn c.args.depth c.args.names.now) (c.len-turn-end.result - c.loop-turn._turn) c.loop-turn.all c.loop-turn.c (row (λ b us. taking (init_turn c.args.depth c.args.names.now b us) us) (length c.args.c.now) c.args.first c.args.c.now) over c.loop-turn.invariant in
    search rules

pub more_inits-loop-turn-preserved : goal.more_inits-loop-turn-preserved
unfolding init_turn
more_inits-loop-turn-preserved t c =
    let read : init_turn c.args.depth c.args.names.now c.loop-turn.all c.loop-turn.c ≡ Some (c.push.new.self, c.listed_init.new.c) = search rules in
    let shorter : length c.listed_init.new.c < length c.loop-turn.c = search rules in
    row-goes-on (init_turn c.args.depth c.args.names.now) c.len-turn-end.result c.loop-turn._turn c.loop-turn.all c.push.new.self c.loop-turn.c c.listed_init.new.c (row (λ b us. taking (init_turn c.args.depth c.args.names.now b us) us) (length c.args.c.now) c.args.first c.args.c.now)
    c.loop-turn-test.true read shorter c.loop-turn.invariant

pub more_inits-returns : goal.more_inits-returns
unfolding more_inits
more_inits-returns t c = row-ends (init_turn c.args.depth c.args.names.now) c.len-turn-end.result c.loop-turn._turn c.loop-turn.all c.loop-turn.c (row (λ b us. taking (init_turn c.args.depth c.args.names.now b us) us) (length c.args.c.now) c.args.first c.args.c.now) c.loop-turn-test.false c.loop-turn.invariant

pub init-returns-then-depth-eq0 : goal.init-returns-then-depth-eq0
unfolding init_at
init-returns-then-depth-eq0 t c =
    let none : c.args.depth ≡ 0 = omega arith in
    ap (λ n. reading ((inner by_tree n).init c.args.names.now) c.args.c.now) none

pub init-returns : goal.init-returns
unfolding init_at
init-returns t c =
    let one : suc (c.args.depth - 1) ≡ c.args.depth = omega arith in
    let same = init-is (c.args.depth - 1) c.args.names.now c.args.c.now ∙ ap (λ n. reading ((inner by_tree n).init c.args.names.now) c.args.c.now) one in
    subst (λ o. Reads o c.initialising.result c.initialising.new.c) same c.initialising.ensures
