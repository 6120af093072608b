use Rattle.std.proofs.Common.{◌≡◌, ◌-◌, [], length}
use Rattle.cf_unit.specs.Members.{next_base_word}
use Rattle.cf_unit.specs.Read.{taking, row}
use Rattle.cf_parse_class.proofs.bases.base_words.Given as goal

abbrev pub invariant-loop-turn : goal.invariant-loop-turn
invariant-loop-turn l = record {
  left : length l.c ≡ l._turn-end - l._turn;
  same : row (λ b us. taking (next_base_word b us) us) (l._turn-end - l._turn) l.all l.c
      ≡ row (λ b us. taking (next_base_word b us) us) (length l.fn.c) [] l.fn.c;
}
