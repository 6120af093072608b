-- Binary, conditional and assigning expressions (5.5 to 5.18), read step by step.
use Rattle.std.specs.Prelude.{ℕ, zero, suc, [], ◌∷◌, length, is_some}
use Rattle.cf_syntax.specs.declared.expression.Expr.{Expr}
use Rattle.cf_syntax.specs.declared.expression.Expr.TheVariants as tree
use Rattle.cf_syntax.specs.declared.operator.AssignOp.{AssignOp}
use Rattle.cf_syntax.specs.declared.operator.BinaryOp.{BinaryOp}
use Rattle.cf_syntax.specs.NamesData.{Names}
use Rattle.cf_syntax.specs.Reading.{Readers}
use Rattle.cf_syntax.specs.Operators.{assigning, heads}
use Rattle.cf_syntax.specs.Parse.{Parse, pure, then, choose, option, loop, word}
use Rattle.cf_syntax.specs.Words.{colon, question}
use Rattle.cf_parse_expr.specs.Leaves.{assign_operator, binary_operator}
use Rattle.cf_parse_expr.specs.Arguments.{next_assign, more_assigns, type_in_brackets}
use Rattle.cf_parse_expr.specs.Unaries.{unary, cast_operand, cast}

module _ (r : Readers) where
  -- an operator of a level with its right operand
  unfoldable pub right_side : Names → ℕ → (Expr → Parse Expr) → Parse ((ℕ × BinaryOp) × Expr)
  right_side names n tighter = then (binary_operator n) (λ op. then (then (cast r names) tighter) (λ y. pure (op, y)))

  unfoldable pub binary_turn : Names → ℕ → (Expr → Parse Expr) → Expr → Parse Expr
  binary_turn names n tighter b = then (right_side names n tighter) (λ s. pure (tree.Binary s.0.0 s.0.1 b s.1))

  unfoldable pub more_binary : Names → ℕ → (Expr → Parse Expr) → Expr → Parse Expr
  more_binary names n tighter b ts = loop (binary_turn names n tighter) (length ts) b ts

  -- the binary expression that goes on from a left operand
  unfoldable pub joined_from : Names → ℕ → Expr → Parse Expr
  joined_from names zero a = pure a
  joined_from names (suc n) a = then (joined_from names n a) (more_binary names n (joined_from names n))

  -- the same with one more level
  unfoldable pub joined_next : Names → ℕ → Expr → Parse Expr
  joined_next names n a = then (joined_from names n a) (more_binary names n (joined_from names n))

  unfoldable pub choice : Names → Parse (ℕ × Expr × Expr)
  choice names = then (word question) (λ at. then (r.commas names) (λ a. then (word colon) (λ _. then (r.condition names) (λ b. pure (at, a, b)))))

  unfoldable pub chosen : Names → Expr → Parse Expr
  chosen names = option (λ c. then (choice names) (λ s. pure (tree.Conditional s.0 c s.1 s.2)))

  unfoldable pub condition_from : Names → Expr → Parse Expr
  condition_from names a = then (joined_from names 11 a) (chosen names)

  unfoldable pub condition : Names → Parse Expr
  condition names = then (cast r names) (condition_from names)

  unfoldable pub assigned : Names → Parse ((ℕ × AssignOp) × Expr)
  assigned names = then assign_operator (λ op. then (r.assign names) (λ y. pure (op, y)))

  unfoldable pub assigns : Names → Expr → Parse Expr
  assigns names = option (λ b. then (assigned names) (λ s. pure (tree.Assign s.0.0 s.0.1 b s.1)))

  unfoldable pub assign_from : Names → Expr → Parse Expr
  assign_from names a = choose (heads assigning) (assigns names a) (condition_from names a)

  unfoldable pub assign : Names → Parse Expr
  assign names = choose (λ ts. is_some (type_in_brackets r names ts))
      (then (then (type_in_brackets r names) (cast_operand r names)) (condition_from names)) (then (unary r names) (assign_from names))

  unfoldable pub rest_of_list : Names → Expr → ℕ × Expr → Parse Expr
  rest_of_list names x next = then (more_assigns r names (x ∷ next.1 ∷ [])) (λ all. pure (tree.Comma next.0 all))

  unfoldable pub listed : Names → Expr → Parse Expr
  listed names x = then (next_assign r names) (rest_of_list names x)

  unfoldable pub commas : Names → Parse Expr
  commas names = then (assign names) (option (listed names))
