-- Where statements (6) are stuck, step by step.
use Rattle.std.specs.Prelude.{ℕ, Option, Some, None}
use Rattle.cf_syntax.specs.declared.expression.Expr.{Expr}
use Rattle.cf_syntax.specs.NamesData.{Names}
use Rattle.cf_syntax.specs.Grammar.{sees}
use Rattle.cf_syntax.specs.Parse.{Parse, pure, then, word}
use Rattle.cf_syntax.specs.Words.{left_paren, right_paren, colon}
use Rattle.cf_parse_expr.specs.Whole.{commas_at, condition_at}
use Rattle.cf_unit.specs.Files.{inner, by_tree}
use Rattle.cf_unit.specs.Known.{Known, with_names, with_block}
use Rattle.cf_unit.specs.Read.{reading, first_of}
use Rattle.cf_unit.specs.Pieces.{left_brace, right_brace, semicolon, case_word, default_word, do_word, else_word, for_word, if_word, switch_word, while_word}
use Rattle.cf_unit.specs.Statements as rule
use Rattle.cf_parse_decl.specs.Insides.{Insides}
use Rattle.cf_parse_decl.specs.Statements.{by}
use Rattle.cf_stuck_statement.specs.declared.rows.Element.{Element}
use Rattle.cf_stuck_statement.specs.declared.rows.Element.TheVariants as element
use Rattle.cf_stuck_statement.specs.Inside.{Places as Insiders}
use Rattle.cf_stuck_statement.specs.Parts.{Places, behind, unread, behind_or, either, where_seen, nowhere, known_at, last_by, unended}

-- ---- what is read past

-- "(" comma ")"
unfoldable pub in_brackets : Names → Parse Expr
in_brackets names = then (word left_paren) (λ _. then (commas_at names) (λ x. then (word right_paren) (λ _. pure x)))

-- [comma] up to this word, which is taken
unfoldable pub maybe_comma : Names → ℕ → Parse (Option Expr)
maybe_comma names n = by (sees n) (then (word n) (λ _. pure None)) (then (commas_at names) (λ x. then (word n) (λ _. pure (Some x))))

-- [comma] ";"
unfoldable pub past_expression : Known → Parse Known
past_expression k = by (sees semicolon) (then (word semicolon) (λ _. pure k)) (then (commas_at k.names) (λ _. then (word semicolon) (λ _. pure k)))

-- case cond ":" and default ":"
unfoldable pub past_case : Known → Parse Known
past_case k = then (word case_word) (λ _. then (condition_at k.names) (λ _. then (word colon) (λ _. pure k)))

unfoldable pub past_default : Known → Parse Known
past_default k = then (word default_word) (λ _. then (word colon) (λ _. pure k))

-- a whole statement, at one depth further out than this
unfoldable pub past_statement : ℕ → Known → Parse Known
past_statement n k = known_at (reading (rule.statement (inner by_tree n) k))

module _ (r : Insides) where
  -- (simple | [comma] ";")
  unfoldable pub past_first : Known → Parse Known
  past_first k ts = first_of (known_at (r.declaration k) ts) (past_expression k) ts

  -- case cond ":" | default ":" | stmt
  unfoldable pub past_switched : Known → Parse Known
  past_switched k = by (sees case_word) (past_case k) (by (sees default_word) (past_default k) (known_at (r.statement k)))

  abbrev pub past : Element → Known → Parse Known
  past element.Statement k = known_at (r.statement k)
  past element.Switched k = past_switched k

  -- elements as far as they can be read, up to a "}"
  unfoldable pub last_of : Element → Known → Parse Known
  last_of e = last_by (sees right_brace) (past e)

-- ---- what is stuck

module _ (r : Insides) (p : Insiders) where
  unfoldable pub switched : Known → Places
  switched k = where_seen (sees case_word) nowhere (where_seen (sees default_word) nowhere (p.statement k))

  abbrev pub in_element : Element → Known → Places
  in_element element.Statement k = p.statement k
  in_element element.Switched k = switched k

  unfoldable pub unended_at : Element → Known → Places
  unended_at e = unended (sees right_brace) (in_element e)

  unfoldable pub row_of : Element → Known → Places
  row_of e k = behind (last_of r e k) (unended_at e)

  -- "{" {x} "}"
  unfoldable pub braced : Element → Known → Places
  braced e k = behind (word left_brace) (λ _. row_of e (with_names k (with_block k.names)))

  -- [else stmt]
  unfoldable pub otherwise : Known → Places
  otherwise k = where_seen (sees else_word) (behind (word else_word) (λ _. p.statement k)) nowhere

  unfoldable pub if_behind : Known → Places
  if_behind k = either (p.statement k) (behind (known_at (r.statement k)) otherwise)

  unfoldable pub if_statement : Known → Places
  if_statement k = behind (word if_word) (λ _. behind (in_brackets k.names) (λ _. if_behind k))

  unfoldable pub while_statement : Known → Places
  while_statement k = behind (word while_word) (λ _. behind (in_brackets k.names) (λ _. p.statement k))

  unfoldable pub do_statement : Known → Places
  do_statement k = behind (word do_word) (λ _. p.statement k)

  unfoldable pub for_behind : Known → Places
  for_behind k = behind (maybe_comma k.names semicolon) (λ _. behind (maybe_comma k.names right_paren) (λ _. p.statement k))

  unfoldable pub for_first : Known → Places
  for_first k = behind_or (past_first r k) for_behind (p.declaration k)

  unfoldable pub for_statement : Known → Places
  for_statement k = behind (word for_word) (λ _. behind (word left_paren) (λ _. for_first k))

  unfoldable pub switch_statement : Known → Places
  switch_statement k = behind (word switch_word) (λ _. behind (in_brackets k.names) (λ _. braced element.Switched k))

  -- a loop or a switch; what holds no statement is stuck nowhere
  unfoldable pub loop_statement : Known → Places
  loop_statement k = where_seen (sees do_word) (do_statement k) (where_seen (sees for_word) (for_statement k)
      (where_seen (sees switch_word) (switch_statement k) nowhere))

  unfoldable pub other_statement : Known → Places
  other_statement k = where_seen (sees left_brace) (braced element.Statement k) (where_seen (sees if_word) (if_statement k)
      (where_seen (sees while_word) (while_statement k) (loop_statement k)))

  -- what cannot be read as a declaration and as no other statement
  unfoldable pub unread_statement : Known → Places
  unread_statement k = either (p.declaration k) (other_statement k)

  unfoldable pub statement : ℕ → Known → Places
  statement n k = unread (past_statement n k) (unread_statement k)
