-- Parameters and types in brackets (8.1, 8.2.5), read step by step.
use Rattle.std.specs.Prelude.{ℕ, List, [], ◌∷◌, ◌++◌, length}
use Rattle.cf_syntax.specs.declared.declarator.Param.{Param}
use Rattle.cf_syntax.specs.declared.declarator.TypeId.{TypeId}
use Rattle.cf_syntax.specs.declared.expression.Expr.{Expr}
use Rattle.cf_syntax.specs.declared.reading.DeclaratorKind.TheVariants as kind
use Rattle.cf_syntax.specs.NamesData.{Names}
use Rattle.cf_syntax.specs.Reading.{Readers}
use Rattle.cf_syntax.specs.Parse.{Parse, pure, none, then, choose, option, loop, word}
use Rattle.cf_syntax.specs.Grammar.{begins, specifier_words, here, param_of, with_default}
use Rattle.cf_syntax.specs.Words.{comma, equals}
use Rattle.cf_parse_expr.specs.Leaves.{some_specifiers}

module _ (r : Readers) where
  unfoldable pub plain_param : Names → Parse Param
  plain_param names = then here (λ at. then (some_specifiers names) (λ list. then (r.declarator kind.Either names) (λ d. pure (param_of at list d.0))))

  unfoldable pub default_behind : Names → Parse (ℕ × Expr)
  default_behind names = then (word equals) (λ at. then (r.assign names) (λ x. pure (at, x)))

  unfoldable pub defaulted : Names → Param → Parse Param
  defaulted names = option (λ p. then (default_behind names) (λ s. pure (with_default p s.0 s.1)))

  unfoldable pub one_param : Names → Parse Param
  one_param names = then (plain_param names) (defaulted names)

  unfoldable pub next_param : Names → Parse Param
  next_param names = then (word comma) (λ _. one_param names)

  unfoldable pub param_turn : Names → List Param → Parse (List Param)
  param_turn names all = then (next_param names) (λ p. pure (all ++ p ∷ []))

  unfoldable pub more_params : Names → List Param → Parse (List Param)
  more_params names all ts = loop (param_turn names) (length ts) all ts

  unfoldable pub some_params : Names → Parse (List Param)
  some_params names = then (then (one_param names) (λ p. pure (p ∷ []))) (more_params names)

  unfoldable pub params : Names → Parse (List Param)
  params names = option (λ _. choose (begins specifier_words) (some_params names) none) []

  unfoldable pub type_inside : Names → Parse TypeId
  type_inside names = then here (λ at. then (some_specifiers names) (λ list. then (r.declarator kind.Abstract names)
      (λ d. pure (record { at = at; specifiers = list; declarator = d.0 }))))
