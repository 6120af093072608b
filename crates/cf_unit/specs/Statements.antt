-- Statements (6).
use Rattle.std.specs.Prelude.{ℕ, List, [], ◌∷◌, ◌++◌, Option, Some, None}
use Rattle.cf_syntax.specs.NamesData.{Names}
use Rattle.cf_syntax.specs.Grammar.{sees, here}
use Rattle.cf_syntax.specs.Words.{left_paren, right_paren, colon}
use Rattle.cf_unit.specs.declared.statement.Stmt.{Stmt}
use Rattle.cf_unit.specs.declared.statement.Stmt.TheVariants as stmt
use Rattle.cf_unit.specs.Rule.{Rule, commas, condition, empty, exactly, expression, then, by, rather, until, made}
use Rattle.cf_unit.specs.Known.{Known, with_names, open_scopes, closed_to, with_block}
use Rattle.cf_unit.specs.Pieces.{left_brace, right_brace, semicolon, break_word, case_word, continue_word, default_word, do_word, else_word, for_word, if_word, return_word, switch_word, while_word, word, before, in_brackets, maybe_comma}
use Rattle.cf_unit.specs.Declarations.{Inner, specified}

abbrev pub names_behind : {A : Type 0} → A × Known → Names
names_behind s = s.1.names

abbrev pub closed_again : Known → Known → Known
closed_again outer k = with_names k (closed_to (open_scopes outer.names) k.names)

module _ («in» : Inner) where
  -- "{" {x} "}" in a scope of its own
  abbrev pub braced : Known → (List Stmt × Known → Rule (List Stmt × Known)) → Rule ((ℕ × List Stmt) × Known)
  braced k next = then (word left_brace) (λ at. before right_brace (λ all. ((at, all.0), closed_again k all.1))
      (until (sees right_brace) names_behind next ([], with_names k (with_block k.names))))

  abbrev pub next_statement : List Stmt × Known → Rule (List Stmt × Known)
  next_statement s = made (λ x. (s.0 ++ x.0 ∷ [], x.1)) («in».statement s.1)

  -- "{" {stmt} "}"
  abbrev pub block : Known → Rule ((ℕ × List Stmt) × Known)
  block k = braced k next_statement

  -- [comma] ";"
  abbrev pub expression_statement : Known → Rule (Stmt × Known)
  expression_statement k = then (exactly here) (λ at. by (sees semicolon) (made (λ _. (stmt.Empty at, k)) (word semicolon))
      (before semicolon (λ x. (stmt.Expression at x, k)) (expression commas k.names)))

  -- [else stmt]: an `else` belongs to the nearest `if`
  abbrev pub otherwise : (Option Stmt → Stmt) → Known → Rule (Stmt × Known)
  otherwise make k = by (sees else_word) (then (word else_word) (λ _. made (λ s. (make (Some s.0), s.1)) («in».statement k))) (empty (make None, k))

  -- if "(" comma ")" stmt [else stmt]
  abbrev pub if_statement : Known → Rule (Stmt × Known)
  if_statement k = then (word if_word) (λ at. then (in_brackets k.names) (λ c. then («in».statement k) (λ s. otherwise (λ o. stmt.If at c s.0 o) s.1)))

  -- while "(" comma ")" stmt
  abbrev pub while_statement : Known → Rule (Stmt × Known)
  while_statement k = then (word while_word) (λ at. then (in_brackets k.names) (λ c. made (λ s. (stmt.While at c s.0, s.1)) («in».statement k)))

  -- do stmt while "(" comma ")" ";"
  abbrev pub do_statement : Known → Rule (Stmt × Known)
  do_statement k = then (word do_word) (λ at. then («in».statement k) (λ s. then (word while_word) (λ _.
      before semicolon (λ c. (stmt.Do at s.0 c, s.1)) (in_brackets s.1.names))))

  -- (simple | [comma] ";"), where what can be read as `simple` is
  abbrev pub for_first : Known → Rule (Stmt × Known)
  for_first k = rather (made (λ d. (stmt.Declaration d.0, d.1)) (specified «in» k)) (expression_statement k)

  -- for "(" (simple | [comma] ";") [comma] ";" [comma] ")" stmt
  abbrev pub for_statement : Known → Rule (Stmt × Known)
  for_statement k = then (word for_word) (λ at. then (word left_paren) (λ _. then (for_first k) (λ first.
      then (maybe_comma first.1.names semicolon) (λ c. then (maybe_comma first.1.names right_paren) (λ last.
      made (λ s. (stmt.For at first.0 c last s.0, s.1)) («in».statement first.1))))))

  -- case cond ":" | default ":" | stmt
  abbrev pub switched : Known → Rule (Stmt × Known)
  switched k = by (sees case_word) (then (word case_word) (λ at. before colon (λ c. (stmt.Case at c, k)) (expression condition k.names)))
      (by (sees default_word) (then (word default_word) (λ at. made (λ _. (stmt.Default at, k)) (word colon))) («in».statement k))

  abbrev pub next_switched : List Stmt × Known → Rule (List Stmt × Known)
  next_switched s = made (λ x. (s.0 ++ x.0 ∷ [], x.1)) (switched s.1)

  -- switch "(" comma ")" "{" { case cond ":" | default ":" | stmt } "}"
  abbrev pub switch_statement : Known → Rule (Stmt × Known)
  switch_statement k = then (word switch_word) (λ at. then (in_brackets k.names) (λ c.
      made (λ b. (stmt.Switch at c b.0.1, b.1)) (braced k next_switched)))

  -- break ";" and continue ";"
  abbrev pub leaving : ℕ → (ℕ → Stmt) → Known → Rule (Stmt × Known)
  leaving n make k = then (word n) (λ at. made (λ _. (make at, k)) (word semicolon))

  -- return [comma] ";"
  abbrev pub return_statement : Known → Rule (Stmt × Known)
  return_statement k = then (word return_word) (λ at. made (λ x. (stmt.Return at x, k)) (maybe_comma k.names semicolon))

  -- a statement that is no declaration, by its first word
  abbrev pub other_statement : Known → Rule (Stmt × Known)
  other_statement k = by (sees left_brace) (made (λ b. (stmt.Block b.0.0 b.0.1, b.1)) (block k))
      (by (sees if_word) (if_statement k) (by (sees while_word) (while_statement k) (by (sees do_word) (do_statement k)
      (by (sees for_word) (for_statement k) (by (sees switch_word) (switch_statement k)
      (by (sees break_word) (leaving break_word (λ at. stmt.Break at) k) (by (sees continue_word) (leaving continue_word (λ at. stmt.Continue at) k)
      (by (sees return_word) (return_statement k) (expression_statement k)))))))))

  -- what can be read as a declaration is one (6.8)
  abbrev pub statement : Known → Rule (Stmt × Known)
  statement k = rather (made (λ d. (stmt.Declaration d.0, d.1)) (specified «in» k)) (other_statement k)
