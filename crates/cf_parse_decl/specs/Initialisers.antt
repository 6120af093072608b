-- Arguments and initialisers (8.4), read step by step.
use Rattle.std.specs.Prelude.{ℕ, List, [], ◌∷◌, ◌++◌, length, Option, Some, None}
use Rattle.cf_syntax.specs.declared.expression.Expr.{Expr}
use Rattle.cf_syntax.specs.NamesData.{Names}
use Rattle.cf_syntax.specs.Grammar.{sees, here}
use Rattle.cf_syntax.specs.Parse.{Parse, pure, then, word}
use Rattle.cf_syntax.specs.Words.{left_paren, right_paren, comma, equals}
use Rattle.cf_parse_expr.specs.Whole.{assign_at}
use Rattle.cf_unit.specs.declared.initialiser.Init.{Init}
use Rattle.cf_unit.specs.declared.initialiser.Init.TheVariants as init
use Rattle.cf_unit.specs.declared.initialiser.Initialiser.{Initialiser}
use Rattle.cf_unit.specs.declared.initialiser.Initialiser.TheVariants as initial
use Rattle.cf_unit.specs.Read.{reading, taking, row}
use Rattle.cf_unit.specs.Files.{inner, by_tree}
use Rattle.cf_unit.specs.Pieces.{left_brace, right_brace}
use Rattle.cf_parse_decl.specs.Statements.{by}

-- ---- args

-- "," assign
unfoldable pub next_argument : Names → Parse Expr
next_argument names = then (word comma) (λ _. assign_at names)

unfoldable pub argument_turn : Names → List Expr → Parse (List Expr)
argument_turn names all = then (next_argument names) (λ y. pure (all ++ y ∷ []))

unfoldable pub more_arguments : Names → List Expr → Parse (List Expr)
more_arguments names all ts = row (λ b us. taking (argument_turn names b us) us) (length ts) all ts

-- assign {"," assign}
unfoldable pub arguments : Names → Parse (List Expr)
arguments names = then (assign_at names) (λ x. more_arguments names (x ∷ []))

-- "(" args ")", at the bracket
unfoldable pub some_arguments : Names → Parse (ℕ × List Expr)
some_arguments names = then (word left_paren) (λ at. then (arguments names) (λ all. then (word right_paren) (λ _. pure (at, all))))

-- ---- values in initialisers

-- what stands inside, to a depth
unfoldable pub init_at : ℕ → Names → Parse Init
init_at n names ts = reading ((inner by_tree n).init names) ts

-- assign
unfoldable pub init_value : Names → Parse Init
init_value names = then here (λ at. then (assign_at names) (λ x. pure (init.Value at x)))

module _ (depth : ℕ) where
  -- init ["," | where "}" follows]
  unfoldable pub listed_init : Names → Parse Init
  listed_init names = then (init_at depth names) (λ x. by (sees right_brace) (pure x) (then (word comma) (λ _. pure x)))

  unfoldable pub init_turn : Names → List Init → Parse (List Init)
  init_turn names all = then (listed_init names) (λ x. pure (all ++ x ∷ []))

  unfoldable pub more_inits : Names → List Init → Parse (List Init)
  more_inits names all ts = row (λ b us. taking (init_turn names b us) us) (length ts) all ts

  -- "{" init {"," init} [","] "}"
  unfoldable pub init_list : Names → Parse Init
  init_list names = then (word left_brace) (λ at. then (listed_init names) (λ first. then (more_inits names (first ∷ [])) (λ all.
      then (word right_brace) (λ _. pure (init.List at all)))))

  unfoldable pub initialising : Names → Parse Init
  initialising names = by (sees left_brace) (init_list names) (init_value names)

  -- ["=" init | "(" args ")"]
  unfoldable pub equals_init : Names → Parse (Option Initialiser)
  equals_init names = then (word equals) (λ at. then (init_at depth names) (λ x. pure (Some (initial.Equals at x))))

  unfoldable pub initialiser : Names → Parse (Option Initialiser)
  initialiser names = by (sees equals) (equals_init names)
      (by (sees left_paren) (then (some_arguments names) (λ all. pure (Some (initial.Arguments all.0 all.1)))) (pure None))
