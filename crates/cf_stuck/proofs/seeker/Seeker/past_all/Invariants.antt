use Rattle.std.proofs.Common.{◌≡◌, ◌-◌}
use Rattle.cf_unit.specs.Read.{element}
use Rattle.cf_stuck.specs.Members.{ends, past}
use Rattle.cf_stuck_statement.specs.Parts.{turns}
use Rattle.cf_stuck.proofs.seeker.Seeker.past_all.Given as goal

abbrev pub invariant-loop-turn : goal.invariant-loop-turn
invariant-loop-turn g l =
    turns (λ b. element (ends l.self.finder.grammar.depth l.item) (past l.self.finder.grammar.depth l.item b)) (l.count - l._turn) l.known l.c
    ≡ turns (λ b. element (ends l.self.finder.grammar.depth l.item) (past l.self.finder.grammar.depth l.item b)) l.fn.count l.fn.known l.fn.c
