-- Statements (6), read step by step: the readings by words that stay shut.
use Rattle.std.specs.Prelude.{ℕ, Bool, List, [], ◌∷◌, ◌++◌, length, Option, Some, None}
use Rattle.cf_tokens.specs.declared.token.Token.{Token}
use Rattle.cf_syntax.specs.declared.expression.Expr.{Expr}
use Rattle.cf_syntax.specs.NamesData.{Names}
use Rattle.cf_syntax.specs.Grammar.{sees, here}
use Rattle.cf_syntax.specs.Parse.{Parse, pure, with_rest, then, word}
use Rattle.cf_syntax.specs.Words.{left_paren, right_paren, colon}
use Rattle.cf_parse_expr.specs.Whole.{commas_at, condition_at}
use Rattle.cf_unit.specs.declared.statement.Stmt.{Stmt}
use Rattle.cf_unit.specs.declared.statement.Stmt.TheVariants as stmt
use Rattle.cf_unit.specs.Read.{chosen, first_of, element, row, up_to}
use Rattle.cf_unit.specs.Known.{Known, with_names, with_block}
use Rattle.cf_unit.specs.Statements.{closed_again}
use Rattle.cf_unit.specs.Pieces.{left_brace, right_brace, semicolon, break_word, case_word, continue_word, default_word, do_word, else_word, for_word, if_word, return_word, switch_word, while_word}
use Rattle.cf_parse_decl.specs.Insides.{Insides}

-- by a test of the tokens
abbrev pub by : {A : Type 0} → (List Token → Bool) → Parse A → Parse A → Parse A
by test p q ts = chosen (test ts) p q ts

-- ---- expressions with words round them

-- "(" comma ")"
unfoldable pub in_brackets : Names → Parse Expr
in_brackets names = then (word left_paren) (λ _. then (commas_at names) (λ x. then (word right_paren) (λ _. pure x)))

-- [comma] up to this word, which is taken
unfoldable pub maybe_comma : Names → ℕ → Parse (Option Expr)
maybe_comma names n = by (sees n) (then (word n) (λ _. pure None)) (then (commas_at names) (λ x. then (word n) (λ _. pure (Some x))))

-- [comma] ";"
unfoldable pub expression_at : Known → ℕ → Parse (Stmt × Known)
expression_at k at = by (sees semicolon) (then (word semicolon) (λ _. pure (stmt.Empty at, k)))
    (then (commas_at k.names) (λ x. then (word semicolon) (λ _. pure (stmt.Expression at x, k))))

unfoldable pub expression_statement : Known → Parse (Stmt × Known)
expression_statement k = then here (expression_at k)

-- break ";" and continue ";"
unfoldable pub break_statement : Known → Parse (Stmt × Known)
break_statement k = then (word break_word) (λ at. then (word semicolon) (λ _. pure (stmt.Break at, k)))

unfoldable pub continue_statement : Known → Parse (Stmt × Known)
continue_statement k = then (word continue_word) (λ at. then (word semicolon) (λ _. pure (stmt.Continue at, k)))

-- return [comma] ";"
unfoldable pub return_statement : Known → Parse (Stmt × Known)
return_statement k = then (word return_word) (λ at. then (maybe_comma k.names semicolon) (λ x. pure (stmt.Return at x, k)))

-- case cond ":"
unfoldable pub case_label : Known → Parse (Stmt × Known)
case_label k = then (word case_word) (λ at. then (condition_at k.names) (λ c. then (word colon) (λ _. pure (stmt.Case at c, k))))

-- default ":"
unfoldable pub default_label : Known → Parse (Stmt × Known)
default_label k = then (word default_word) (λ at. then (word colon) (λ _. pure (stmt.Default at, k)))

-- break, continue, return, or an expression
unfoldable pub leaf_statement : Known → Parse (Stmt × Known)
leaf_statement k = by (sees break_word) (break_statement k) (by (sees continue_word) (continue_statement k)
    (by (sees return_word) (return_statement k) (expression_statement k)))

module _ (r : Insides) where
  -- ---- blocks

  unfoldable pub next_statement : List Stmt × Known → Parse (List Stmt × Known)
  next_statement s = then (r.statement s.1) (λ x. pure (s.0 ++ x.0 ∷ [], x.1))

  unfoldable pub statements : Known → Parse (List Stmt × Known)
  statements k ts = with_rest (row (λ s. element (sees right_brace) (next_statement s)) (length ts) ([], k) ts) (up_to (sees right_brace))

  -- "{" {stmt} "}" in a scope of its own
  unfoldable pub block : Known → Parse ((ℕ × List Stmt) × Known)
  block k = then (word left_brace) (λ at. then (statements (with_names k (with_block k.names))) (λ all.
      then (word right_brace) (λ _. pure ((at, all.0), closed_again k all.1))))

  unfoldable pub block_statement : Known → Parse (Stmt × Known)
  block_statement k = then (block k) (λ b. pure (stmt.Block b.0.0 b.0.1, b.1))

  -- ---- conditions and loops

  -- [else stmt]
  unfoldable pub otherwise : Known → Parse (Option Stmt × Known)
  otherwise k = by (sees else_word) (then (word else_word) (λ _. then (r.statement k) (λ s. pure (Some s.0, s.1)))) (pure (None, k))

  unfoldable pub if_behind : ℕ → Expr → Known → Parse (Stmt × Known)
  if_behind at c k = then (r.statement k) (λ s. then (otherwise s.1) (λ o. pure (stmt.If at c s.0 o.0, o.1)))

  unfoldable pub if_statement : Known → Parse (Stmt × Known)
  if_statement k = then (word if_word) (λ at. then (in_brackets k.names) (λ c. if_behind at c k))

  unfoldable pub while_statement : Known → Parse (Stmt × Known)
  while_statement k = then (word while_word) (λ at. then (in_brackets k.names) (λ c. then (r.statement k) (λ s. pure (stmt.While at c s.0, s.1))))

  unfoldable pub do_behind : ℕ → Stmt → Known → Parse (Stmt × Known)
  do_behind at s k = then (word while_word) (λ _. then (in_brackets k.names) (λ c. then (word semicolon) (λ _. pure (stmt.Do at s c, k))))

  unfoldable pub do_statement : Known → Parse (Stmt × Known)
  do_statement k = then (word do_word) (λ at. then (r.statement k) (λ s. do_behind at s.0 s.1))

  -- ---- switch

  unfoldable pub switched : Known → Parse (Stmt × Known)
  switched k = by (sees case_word) (case_label k) (by (sees default_word) (default_label k) (r.statement k))

  unfoldable pub next_switched : List Stmt × Known → Parse (List Stmt × Known)
  next_switched s = then (switched s.1) (λ x. pure (s.0 ++ x.0 ∷ [], x.1))

  unfoldable pub all_switched : Known → Parse (List Stmt × Known)
  all_switched k ts = with_rest (row (λ s. element (sees right_brace) (next_switched s)) (length ts) ([], k) ts) (up_to (sees right_brace))

  unfoldable pub switch_block : Known → Parse ((ℕ × List Stmt) × Known)
  switch_block k = then (word left_brace) (λ at. then (all_switched (with_names k (with_block k.names))) (λ all.
      then (word right_brace) (λ _. pure ((at, all.0), closed_again k all.1))))

  unfoldable pub switch_statement : Known → Parse (Stmt × Known)
  switch_statement k = then (word switch_word) (λ at. then (in_brackets k.names) (λ c. then (switch_block k) (λ b. pure (stmt.Switch at c b.0.1, b.1))))

  -- ---- declarations among statements, and `for`

  unfoldable pub declaration_statement : Known → Parse (Stmt × Known)
  declaration_statement k = then (r.declaration k) (λ d. pure (stmt.Declaration d.0, d.1))

  -- (simple | [comma] ";")
  unfoldable pub for_first : Known → Parse (Stmt × Known)
  for_first k ts = first_of (declaration_statement k ts) (expression_statement k) ts

  unfoldable pub for_behind : ℕ → Stmt → Known → Parse (Stmt × Known)
  for_behind at first k = then (maybe_comma k.names semicolon) (λ c. then (maybe_comma k.names right_paren) (λ last.
      then (r.statement k) (λ s. pure (stmt.For at first c last s.0, s.1))))

  -- for "(" (simple | [comma] ";") [comma] ";" [comma] ")" stmt
  unfoldable pub for_statement : Known → Parse (Stmt × Known)
  for_statement k = then (word for_word) (λ at. then (word left_paren) (λ _. then (for_first k) (λ first. for_behind at first.0 first.1)))

  -- ---- statements

  -- a loop or a switch, or what holds no statement
  unfoldable pub loop_statement : Known → Parse (Stmt × Known)
  loop_statement k = by (sees do_word) (do_statement k) (by (sees for_word) (for_statement k) (by (sees switch_word) (switch_statement k) (leaf_statement k)))

  -- a statement that is no declaration, by its first word
  unfoldable pub other_statement : Known → Parse (Stmt × Known)
  other_statement k = by (sees left_brace) (block_statement k) (by (sees if_word) (if_statement k) (by (sees while_word) (while_statement k) (loop_statement k)))

  -- what can be read as a declaration is one (6.8)
  unfoldable pub statement : Known → Parse (Stmt × Known)
  statement k ts = first_of (declaration_statement k ts) (other_statement k) ts
