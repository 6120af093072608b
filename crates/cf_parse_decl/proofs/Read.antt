-- Statements read step by step are those that the grammar's rules read.
use Rattle.std.proofs.Common.{◌≡◌, ℕ, Bool, true, false, List, Option, Some, None, refl, ap}
use Rattle.std.proofs.Math.Path.{fun_ext}
use Rattle.cf_tokens.specs.declared.token.Token.{Token}
use Rattle.cf_syntax.specs.Grammar.{sees}
use Rattle.cf_syntax.specs.Parse.{Parse, pure, with_rest, then, word}
use Rattle.cf_parse_expr.proofs.Steps.{with-rest-same}
use Rattle.cf_parse_expr.specs.Whole.{commas_at, condition_at}
use Rattle.cf_unit.specs.declared.statement.Stmt.{Stmt}
use Rattle.cf_unit.specs.declared.statement.Stmt.TheVariants as stmt
use Rattle.cf_unit.specs.Read.{reading, chosen, first_of}
use Rattle.cf_unit.specs.Known.{Known}
use Rattle.cf_unit.specs.Files.{inner, by_tree}
use Rattle.cf_unit.specs.Rule.{Rule, by, made}
use Rattle.cf_unit.specs.Pieces.{left_brace, break_word, continue_word, do_word, else_word, for_word, if_word, return_word, switch_word, while_word}
use Rattle.cf_unit.specs.Pieces as pieces
use Rattle.cf_unit.specs.Statements as whole
use Rattle.cf_parse_decl.specs.Insides.{insides}
use Rattle.cf_parse_decl.specs.Statements as steps

abbrev some-of : Stmt × Known → Option Stmt × Known
some-of s = (Some s.0, s.1)

abbrev none-of : Known → Option Stmt × Known
none-of k = (None, k)

abbrev made-of : (Option Stmt → Stmt) → Option Stmt × Known → Stmt × Known
made-of make p = (make p.0, p.1)

-- what may follow `else`, with what is made of it
by-else : (make : Option Stmt → Stmt) (b : Bool) (w : Parse ℕ) (f : Parse (Stmt × Known)) (k : Known) (ts : List Token)
    → with_rest (chosen b (then w (λ _. then f (λ s. pure (some-of s)))) (pure (none-of k)) ts) (λ p. pure (made-of make p))
    ≡ chosen b (then w (λ _. then f (λ s. pure (made-of make (some-of s))))) (pure (made-of make (none-of k))) ts
by-else make false w f k ts = refl
by-else make true w f k ts = by-word (w ts)
  where
    by-statement : (r : Option ((Stmt × Known) × List Token))
        → with_rest (with_rest r (λ s. pure (some-of s))) (λ p. pure (made-of make p)) ≡ with_rest r (λ s. pure (made-of make (some-of s)))
    by-statement None = refl
    by-statement (Some s) = refl

    by-word : (o : Option (ℕ × List Token))
        → with_rest (with_rest o (λ _. then f (λ s. pure (some-of s)))) (λ p. pure (made-of make p)) ≡ with_rest o (λ _. then f (λ s. pure (made-of make (some-of s))))
    by-word None = refl
    by-word (Some q) = by-statement (f q.1)

chosen-same : {A : Type 0} (b : Bool) (p q p' q' : Parse A) (ts : List Token) → p ts ≡ p' ts → q ts ≡ q' ts → chosen b p q ts ≡ chosen b p' q' ts
chosen-same true p q p' q' ts e f = e
chosen-same false p q p' q' ts e f = f

-- the rest of the rule of statements behind the first of its words
abbrev leaf-rule : ℕ → Known → Rule (Stmt × Known)
leaf-rule n k = by (sees break_word) (whole.leaving (inner by_tree n) break_word (λ at. stmt.Break at) k) (by (sees continue_word) (whole.leaving (inner by_tree n) continue_word (λ at. stmt.Continue at) k)
    (by (sees return_word) (whole.return_statement (inner by_tree n) k) (whole.expression_statement (inner by_tree n) k)))

abbrev loop-rule : ℕ → Known → Rule (Stmt × Known)
loop-rule n k = by (sees do_word) (whole.do_statement (inner by_tree n) k) (by (sees for_word) (whole.for_statement (inner by_tree n) k)
    (by (sees switch_word) (whole.switch_statement (inner by_tree n) k) (leaf-rule n k)))

leaves-are : (n : ℕ) (k : Known) (ts : List Token) → steps.leaf_statement k ts ≡ reading (leaf-rule n k) ts
unfolding steps.leaf_statement steps.break_statement steps.continue_statement steps.return_statement steps.expression_statement steps.expression_at steps.maybe_comma commas_at
leaves-are n k ts = refl

module _ (n : ℕ) where
  if-is : (k : Known) (ts : List Token) → steps.if_statement (insides n) k ts ≡ reading (whole.if_statement (inner by_tree n) k) ts
  unfolding steps.if_statement steps.if_behind steps.otherwise steps.in_brackets commas_at
  if-is k ts = with-rest-same (word if_word ts) (word if_word ts) _ _ refl
      (λ at us. with-rest-same (reading (pieces.in_brackets k.names) us) (reading (pieces.in_brackets k.names) us) _ _ refl
      (λ c vs. with-rest-same ((insides n).statement k vs) ((insides n).statement k vs) _ _ refl
      (λ s ws. by-else (λ o. stmt.If at c s.0 o) (sees else_word ws) (word else_word) ((insides n).statement s.1) s.1 ws)))

  block-is : (k : Known) (ts : List Token) → steps.block_statement (insides n) k ts ≡ reading (made (λ b. (stmt.Block b.0.0 b.0.1, b.1)) (whole.block (inner by_tree n) k)) ts
  unfolding steps.block_statement steps.block steps.statements steps.next_statement
  block-is k ts = refl

  while-is : (k : Known) (ts : List Token) → steps.while_statement (insides n) k ts ≡ reading (whole.while_statement (inner by_tree n) k) ts
  unfolding steps.while_statement steps.in_brackets commas_at
  while-is k ts = refl

  do-is : (k : Known) (ts : List Token) → steps.do_statement (insides n) k ts ≡ reading (whole.do_statement (inner by_tree n) k) ts
  unfolding steps.do_statement steps.do_behind steps.in_brackets commas_at
  do-is k ts = refl

  for-is : (k : Known) (ts : List Token) → steps.for_statement (insides n) k ts ≡ reading (whole.for_statement (inner by_tree n) k) ts
  unfolding steps.for_statement steps.for_first steps.for_behind steps.declaration_statement steps.expression_statement steps.expression_at steps.maybe_comma commas_at
  for-is k ts = refl

  switch-is : (k : Known) (ts : List Token) → steps.switch_statement (insides n) k ts ≡ reading (whole.switch_statement (inner by_tree n) k) ts
  unfolding steps.switch_statement steps.switch_block steps.all_switched steps.next_switched steps.switched steps.case_label steps.default_label
      steps.in_brackets commas_at condition_at
  switch-is k ts = refl

  loops-are : (k : Known) (ts : List Token) → steps.loop_statement (insides n) k ts ≡ reading (loop-rule n k) ts
  unfolding steps.loop_statement
  loops-are k ts = chosen-same (sees do_word ts) (steps.do_statement (insides n) k) _ (reading (whole.do_statement (inner by_tree n) k)) _ ts (do-is k ts)
      (chosen-same (sees for_word ts) (steps.for_statement (insides n) k) _ (reading (whole.for_statement (inner by_tree n) k)) _ ts (for-is k ts)
      (chosen-same (sees switch_word ts) (steps.switch_statement (insides n) k) (steps.leaf_statement k) (reading (whole.switch_statement (inner by_tree n) k))
      (reading (leaf-rule n k)) ts (switch-is k ts) (leaves-are n k ts)))

  other-is : (k : Known) (ts : List Token) → steps.other_statement (insides n) k ts ≡ reading (whole.other_statement (inner by_tree n) k) ts
  unfolding steps.other_statement
  other-is k ts = chosen-same (sees left_brace ts) (steps.block_statement (insides n) k) _
      (reading (made (λ b. (stmt.Block b.0.0 b.0.1, b.1)) (whole.block (inner by_tree n) k))) _ ts (block-is k ts)
      (chosen-same (sees if_word ts) (steps.if_statement (insides n) k) _ (reading (whole.if_statement (inner by_tree n) k)) _ ts (if-is k ts)
      (chosen-same (sees while_word ts) (steps.while_statement (insides n) k) (steps.loop_statement (insides n) k) (reading (whole.while_statement (inner by_tree n) k))
      (reading (loop-rule n k)) ts (while-is k ts) (loops-are k ts)))

  -- a statement read step by step is what the rule of statements reads
  pub statement-is : (k : Known) (ts : List Token) → steps.statement (insides n) k ts ≡ reading (whole.statement (inner by_tree n) k) ts
  unfolding steps.statement steps.declaration_statement
  statement-is k ts = ap (λ p. first_of (steps.declaration_statement (insides n) k ts) p ts) (fun_ext (other-is k))
