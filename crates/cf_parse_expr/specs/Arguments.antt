-- Arguments, and types and parameters in brackets, read step by step: the readings by words that stay shut.
use Rattle.std.specs.Prelude.{ℕ, List, [], ◌∷◌, ◌++◌, length}
use Rattle.cf_syntax.specs.declared.declarator.Param.{Param}
use Rattle.cf_syntax.specs.declared.declarator.TypeId.{TypeId}
use Rattle.cf_syntax.specs.declared.expression.Expr.{Expr}
use Rattle.cf_syntax.specs.NamesData.{Names}
use Rattle.cf_syntax.specs.Reading.{Readers}
use Rattle.cf_syntax.specs.Parse.{Parse, pure, then, choose, loop, word}
use Rattle.cf_syntax.specs.Grammar.{sees}
use Rattle.cf_syntax.specs.Words.{left_paren, right_paren, comma}

module _ (r : Readers) where
  unfoldable pub next_assign : Names → Parse (ℕ × Expr)
  next_assign names = then (word comma) (λ at. then (r.assign names) (λ x. pure (at, x)))

  unfoldable pub assign_turn : Names → List Expr → Parse (List Expr)
  assign_turn names all = then (next_assign names) (λ next. pure (all ++ next.1 ∷ []))

  unfoldable pub more_assigns : Names → List Expr → Parse (List Expr)
  more_assigns names all ts = loop (assign_turn names) (length ts) all ts

  unfoldable pub first_assigns : Names → Parse (List Expr)
  first_assigns names = then (then (r.assign names) (λ x. pure (x ∷ []))) (more_assigns names)

  unfoldable pub arguments_behind : Names → ℕ → Parse (ℕ × List Expr)
  arguments_behind names at = choose (sees right_paren) (then (word right_paren) (λ _. pure (at, [])))
      (then (first_assigns names) (λ all. then (word right_paren) (λ _. pure (at, all))))

  unfoldable pub arguments : Names → Parse (ℕ × List Expr)
  arguments names = then (word left_paren) (arguments_behind names)

  unfoldable pub type_in_brackets : Names → Parse (ℕ × TypeId)
  type_in_brackets names = then (word left_paren) (λ at. then (r.type_id names) (λ t. then (word right_paren) (λ _. pure (at, t))))

  unfoldable pub params_in_brackets : Names → Parse (ℕ × List Param)
  params_in_brackets names = then (word left_paren) (λ at. then (r.params names) (λ all. then (word right_paren) (λ _. pure (at, all))))
