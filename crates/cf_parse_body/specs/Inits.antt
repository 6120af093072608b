-- Initialisers of bases and members (12.6.2), read step by step: the readings by words that stay shut.
use Rattle.std.specs.Prelude.{ℕ, Bool, List, [], ◌∷◌, ◌++◌, length, drop, Option, Some, None}
use Rattle.cf_tokens.specs.declared.token.Token.{Token}
use Rattle.cf_syntax.specs.declared.expression.Expr.{Expr}
use Rattle.cf_syntax.specs.declared.name.Path.{Path}
use Rattle.cf_syntax.specs.NamesData.{Names}
use Rattle.cf_syntax.specs.Grammar.{sees}
use Rattle.cf_syntax.specs.Parse.{Parse, pure, none, then, word}
use Rattle.cf_syntax.specs.Words.{left_paren, right_paren, comma, colon}
use Rattle.cf_parse_decl.specs.Statements.{by}
use Rattle.cf_parse_expr.specs.Named.{ident_path_at}
use Rattle.cf_unit.specs.declared.class.MemberInit.{MemberInit}
use Rattle.cf_unit.specs.declared.initialiser.Initialiser.{Initialiser}
use Rattle.cf_unit.specs.declared.initialiser.Initialiser.TheVariants as initial
use Rattle.cf_unit.specs.Declarations.{initialiser}
use Rattle.cf_unit.specs.Files.{inner, by_tree}
use Rattle.cf_unit.specs.Read.{reading, taking, row}

-- ---- args

-- what may stand behind a declarator, with no list in braces
unfoldable pub flat_initialiser : Names → Parse (Option Initialiser)
flat_initialiser names ts = reading (initialiser (inner by_tree 0) names) ts

-- the arguments, where it is arguments
abbrev pub arguments_of : Option Initialiser → Parse (ℕ × List Expr)
arguments_of None ts = None
arguments_of (Some (initial.Equals at x)) ts = None
arguments_of (Some (initial.Arguments at all)) ts = Some ((at, all), ts)

-- "(" args ")", at the bracket: read as behind a declarator
unfoldable pub some_arguments : Names → Parse (ℕ × List Expr)
some_arguments names = by (sees left_paren) (then (flat_initialiser names) arguments_of) none

abbrev pub sees_next : ℕ → List Token → Bool
sees_next n ts = sees n (drop 1 ts)

-- "(" [args] ")", at the bracket
unfoldable pub maybe_arguments : Names → Parse (ℕ × List Expr)
maybe_arguments names = by (sees_next right_paren) (then (word left_paren) (λ at. then (word right_paren) (λ _. pure (at, [])))) (some_arguments names)

-- ---- minit

abbrev pub init_of : Path → ℕ × List Expr → MemberInit
init_of p a = record { path = p; at = a.0; arguments = a.1 }

-- qid "(" [args] ")"
unfoldable pub member_init : Names → Parse MemberInit
member_init names = then (ident_path_at names) (λ p. then (maybe_arguments names) (λ a. pure (init_of p a)))

-- "," minit
unfoldable pub next_init : Names → Parse MemberInit
next_init names = then (word comma) (λ _. member_init names)

unfoldable pub init_turn : Names → List MemberInit → Parse (List MemberInit)
init_turn names all = then (next_init names) (λ i. pure (all ++ i ∷ []))

unfoldable pub more_inits : Names → List MemberInit → Parse (List MemberInit)
more_inits names all ts = row (λ b us. taking (init_turn names b us) us) (length ts) all ts

-- minit {"," minit}
unfoldable pub some_inits : Names → Parse (List MemberInit)
some_inits names = then (member_init names) (λ i. more_inits names (i ∷ []))

-- [":" minit {"," minit}]
unfoldable pub member_inits : Names → Parse (List MemberInit)
member_inits names = by (sees colon) (then (word colon) (λ _. some_inits names)) (pure [])
