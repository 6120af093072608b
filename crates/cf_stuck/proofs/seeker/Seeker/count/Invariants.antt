use Rattle.cf_unit.specs.Read.{element}
use Rattle.cf_stuck.specs.Members.{ends, past}
use Rattle.cf_stuck_statement.proofs.Turns.{Counted}
use Rattle.cf_stuck.proofs.seeker.Seeker.count.Given as goal

abbrev pub invariant-loop-count : goal.invariant-loop-count
invariant-loop-count g l =
    Counted (λ b. element (ends l.self.finder.grammar.depth l.item) (past l.self.finder.grammar.depth l.item b)) l.most l.count l.fn.known l.fn.c l.known l.c
