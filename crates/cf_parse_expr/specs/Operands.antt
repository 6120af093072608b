-- Operands and what stands behind them (5.1, 5.2), read step by step.
use Rattle.std.specs.Prelude.{length, is_some}
use Rattle.cf_syntax.specs.declared.expression.Expr.{Expr}
use Rattle.cf_syntax.specs.declared.expression.Expr.TheVariants as tree
use Rattle.cf_syntax.specs.declared.name.Path.{Path}
use Rattle.cf_syntax.specs.declared.reading.Suffix.{Suffix}
use Rattle.cf_syntax.specs.declared.reading.Suffix.TheVariants as suffix
use Rattle.cf_syntax.specs.NamesData.{Names}
use Rattle.cf_syntax.specs.Reading.{Readers}
use Rattle.cf_syntax.specs.Parse.{Parse, pure, none, then, choose, loop, word}
use Rattle.cf_syntax.specs.Grammar.{sees, applied}
use Rattle.cf_syntax.specs.Words.{left_paren, right_paren, left_bracket, right_bracket, dot, arrow, tilde}
use Rattle.cf_parse_expr.specs.Leaves.{a_name, a_type_path, a_constant, a_basic_word, step_operator}
use Rattle.cf_parse_expr.specs.Arguments.{arguments}

unfoldable pub named : Names → Parse Expr
named names = choose (sees tilde) none (then (a_name names) (λ n. pure (tree.Named n.0)))

unfoldable pub dot_member : Names → Parse Suffix
dot_member names = then (word dot) (λ at. then (a_name names) (λ n. pure (suffix.Dot at n.0)))

unfoldable pub arrow_member : Names → Parse Suffix
arrow_member names = then (word arrow) (λ at. then (a_name names) (λ n. pure (suffix.Arrow at n.0)))

unfoldable pub step_behind : Parse Suffix
step_behind = then step_operator (λ op. pure (suffix.Step op.0 op.1))

module _ (r : Readers) where
  unfoldable pub bracketed : Names → Parse Expr
  bracketed names = then (word left_paren) (λ at. then (r.commas names) (λ x. then (word right_paren) (λ _. pure (tree.Paren at x))))

  unfoldable pub basic_call : Names → Parse Expr
  basic_call names = then a_basic_word (λ b. then (arguments r names) (λ all. pure (tree.BasicCall b.0 b.1 all.1)))

  unfoldable pub path_call : Names → Path → Parse Expr
  path_call names path = then (arguments r names) (λ all. pure (tree.TypeCall path.at path all.1))

  unfoldable pub path_head : Names → Parse Expr
  path_head names = choose (λ ts. is_some (a_type_path names ts)) (then (a_type_path names) (path_call names)) (named names)

  unfoldable pub basic_head : Names → Parse Expr
  basic_head names = choose (λ ts. is_some (a_basic_word ts)) (basic_call names) (path_head names)

  unfoldable pub paren_head : Names → Parse Expr
  paren_head names = choose (sees left_paren) (bracketed names) (basic_head names)

  unfoldable pub head : Names → Parse Expr
  head names = choose (λ ts. is_some (a_constant ts)) a_constant (paren_head names)

  unfoldable pub index : Names → Parse Suffix
  index names = then (word left_bracket) (λ at. then (r.commas names) (λ i. then (word right_bracket) (λ _. pure (suffix.Index at i))))

  unfoldable pub call : Names → Parse Suffix
  call names = then (arguments r names) (λ all. pure (suffix.Call all.0 all.1))

  unfoldable pub behind : Names → Parse Suffix
  behind names = choose (sees left_bracket) (index names)
      (choose (sees left_paren) (call names)
      (choose (sees dot) (dot_member names)
      (choose (sees arrow) (arrow_member names) step_behind)))

  unfoldable pub behind_turn : Names → Expr → Parse Expr
  behind_turn names a = then (behind names) (λ s. pure (applied a s))

  unfoldable pub more_behind : Names → Expr → Parse Expr
  more_behind names a ts = loop (behind_turn names) (length ts) a ts

  unfoldable pub post : Names → Parse Expr
  post names = then (head names) (more_behind names)
