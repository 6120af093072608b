use Rattle.std.proofs.Common.{◌≡◌, ◌-◌, length}
use Rattle.cf_parse_decl.specs.Insides.{insides}
use Rattle.cf_parse_simple.specs.Specifiers.{one_given}
use Rattle.cf_unit.specs.Enters.{nothing_given}
use Rattle.cf_unit.specs.Read.{taking, row}
use Rattle.cf_parse_simple.proofs.specifier_list.all_given.Given as goal

abbrev pub invariant-loop-turn : goal.invariant-loop-turn
invariant-loop-turn g l =
    row (λ s us. taking (one_given (insides l.grammar.depth) s us) us) (l._turn-end - l._turn) (l.given, l.known) l.c
    ≡ row (λ s us. taking (one_given (insides l.grammar.depth) s us) us) (length l.fn.c) (nothing_given, l.fn.known) l.fn.c
