-- Unary expressions and casts (5.3, 5.4), read step by step.
use Rattle.std.specs.Prelude.{ℕ, Bool, true, false, List, [], ◌∷◌, ◌++◌, length, is_some}
use Rattle.cf_syntax.specs.declared.declarator.TypeId.{TypeId}
use Rattle.cf_syntax.specs.declared.expression.Expr.{Expr}
use Rattle.cf_syntax.specs.declared.expression.Expr.TheVariants as tree
use Rattle.cf_syntax.specs.NamesData.{Names}
use Rattle.cf_syntax.specs.Reading.{Readers}
use Rattle.cf_syntax.specs.Operators.{prefixing, stepping, heads}
use Rattle.cf_syntax.specs.Parse.{Parse, pure, then, choose, option, loop, word}
use Rattle.cf_syntax.specs.Grammar.{sees, allocates}
use Rattle.cf_syntax.specs.Words.{left_paren, left_bracket, right_bracket, delete_word, new_word, sizeof_word}
use Rattle.cf_parse_expr.specs.Leaves.{some_specifiers, all_pointers, a_scope, brackets, step_operator, prefix_operator}
use Rattle.cf_parse_expr.specs.Arguments.{arguments, type_in_brackets}
use Rattle.cf_parse_expr.specs.Operands.{post}

module _ (r : Readers) where
  unfoldable pub size_of : Names → ℕ → Parse Expr
  size_of names at = choose (λ ts. is_some (type_in_brackets r names ts)) (then (type_in_brackets r names) (λ t. pure (tree.SizeofType at t.1)))
      (then (r.unary names) (λ x. pure (tree.SizeofExpr at x)))

  unfoldable pub bound : Names → Parse Expr
  bound names = then (word left_bracket) (λ _. then (r.commas names) (λ x. then (word right_bracket) (λ _. pure x)))

  unfoldable pub bound_turn : Names → List Expr → Parse (List Expr)
  bound_turn names all = then (bound names) (λ x. pure (all ++ x ∷ []))

  unfoldable pub bounds : Names → Parse (List Expr)
  bounds names ts = loop (bound_turn names) (length ts) [] ts

  unfoldable pub initialised : Names → Parse (Bool × List Expr)
  initialised names = option (λ _. then (arguments r names) (λ all. pure (true, all.1))) (false, [])

  unfoldable pub new_bracketed : Names → ℕ → Bool → Parse Expr
  new_bracketed names at file = then (type_in_brackets r names) (λ t. then (initialised names) (λ i. pure (tree.NewBracketed at file t.1 i.0 i.1)))

  unfoldable pub new_plain : Names → ℕ → Bool → Parse Expr
  new_plain names at file = then (some_specifiers names) (λ list. then (all_pointers names) (λ ps. then (bounds names)
      (λ all. then (initialised names) (λ i. pure (tree.New at file list ps all i.0 i.1)))))

  unfoldable pub new_type : Names → Bool → ℕ → Parse Expr
  new_type names file at = choose (sees left_paren) (new_bracketed names at file) (new_plain names at file)

  unfoldable pub deleted : Names → Bool → Parse Expr
  deleted names file = then (word delete_word) (λ at. then brackets (λ array. then (r.cast names) (λ x. pure (tree.Delete at file array x))))

  unfoldable pub allocation : Names → Bool → Parse Expr
  allocation names file = choose (sees new_word) (then (word new_word) (new_type names file)) (deleted names file)

  unfoldable pub stepped : Names → Parse Expr
  stepped names = then step_operator (λ op. then (r.unary names) (λ x. pure (tree.StepBefore op.0 op.1 x)))

  unfoldable pub prefixed : Names → Parse Expr
  prefixed names = then prefix_operator (λ op. then (r.cast names) (λ x. pure (tree.Prefix op.0 op.1 x)))

  unfoldable pub sized : Names → Parse Expr
  sized names = then (word sizeof_word) (size_of names)

  unfoldable pub allocated : Names → Parse Expr
  allocated names = then a_scope (allocation names)

  unfoldable pub unary : Names → Parse Expr
  unary names = choose (heads stepping) (stepped names)
      (choose (heads prefixing) (prefixed names)
      (choose (sees sizeof_word) (sized names)
      (choose allocates (allocated names) (post r names))))

  unfoldable pub cast_operand : Names → ℕ × TypeId → Parse Expr
  cast_operand names t = then (r.cast names) (λ x. pure (tree.Cast t.0 t.1 x))

  unfoldable pub cast : Names → Parse Expr
  cast names = choose (λ ts. is_some (type_in_brackets r names ts)) (then (type_in_brackets r names) (cast_operand names)) (unary names)
