-- What is read past, step by step, is what the rules read, for what is known behind it.
use Rattle.std.proofs.Common.{◌≡◌, ℕ, Bool, true, false, List, Option, Some, None, refl, sym, ◌∙◌}
use Rattle.cf_tokens.specs.declared.token.Token.{Token}
use Rattle.cf_syntax.specs.Grammar.{sees}
use Rattle.cf_syntax.specs.Parse.{Parse, pure, with_rest, then, word}
use Rattle.cf_syntax.specs.Words.{colon}
use Rattle.cf_parse_expr.proofs.Steps.{with-rest-same}
use Rattle.cf_parse_expr.specs.Whole.{commas_at, condition_at}
use Rattle.cf_unit.specs.declared.declaration.Declaration.{Declaration}
use Rattle.cf_unit.specs.declared.statement.Stmt.{Stmt}
use Rattle.cf_unit.specs.declared.statement.Stmt.TheVariants as stmt
use Rattle.cf_unit.specs.Files.{inner, by_tree}
use Rattle.cf_unit.specs.Known.{Known}
use Rattle.cf_unit.specs.Pieces.{semicolon, case_word, default_word}
use Rattle.cf_unit.specs.Pieces as pieces
use Rattle.cf_unit.specs.Rule.{Rule, condition, expression, made}
use Rattle.cf_unit.specs.Rule.{then as thens}
use Rattle.cf_unit.specs.Read.{reading, chosen, first_of}
use Rattle.cf_unit.specs.Statements as whole
use Rattle.cf_parse_decl.specs.Insides.{insides}
use Rattle.cf_stuck_statement.specs.Parts.{known_at}
use Rattle.cf_stuck_statement.specs.Statements as steps

-- what follows a reading of two steps
pub joined : {A B C : Type 0} (o : Option (A × List Token)) (f : A → Parse B) (g : B → Parse C) → with_rest (with_rest o f) g ≡ with_rest o (λ a us. with_rest (f a us) g)
joined None f g = refl
joined (Some q) f g = refl

-- either of two, for what is known behind it
pub by-chosen : {A : Type 0} (b : Bool) (p q : Parse (A × Known)) (p' q' : Parse Known) (ts : List Token) → p' ts ≡ known_at p ts → q' ts ≡ known_at q ts
    → chosen b p' q' ts ≡ with_rest (chosen b p q ts) (λ a. pure a.1)
by-chosen true p q p' q' ts e f = e
by-chosen false p q p' q' ts e f = f

-- case cond ":" and default ":", as the rule of a switch has them
abbrev pub case-rule : Known → Rule (Stmt × Known)
case-rule k = thens (pieces.word case_word) (λ at. pieces.before colon (λ c. (stmt.Case at c, k)) (expression condition k.names))

abbrev pub default-rule : Known → Rule (Stmt × Known)
default-rule k = thens (pieces.word default_word) (λ at. made (λ _. (stmt.Default at, k)) (pieces.word colon))

module _ (n : ℕ) where
  pub expression-past : (k : Known) (ts : List Token) → steps.past_expression k ts ≡ known_at (reading (whole.expression_statement (inner by_tree n) k)) ts
  unfolding steps.past_expression commas_at
  expression-past k ts = by-chosen (sees semicolon ts) _ _ (then (word semicolon) (λ _. pure k)) _ ts (sym (joined (word semicolon ts) _ _))
      (sym (joined (commas_at k.names ts) _ _ ∙ with-rest-same (commas_at k.names ts) (commas_at k.names ts) _ _ refl (λ x us. joined (word semicolon us) _ _)))

  pub first-past : (k : Known) (ts : List Token) → steps.past_first (insides n) k ts ≡ known_at (reading (whole.for_first (inner by_tree n) k)) ts
  unfolding steps.past_first
  first-past k ts = by-declaration ((insides n).declaration k ts)
    where
      by-declaration : (o : Option ((Declaration × Known) × List Token))
          → first_of (with_rest o (λ a. pure a.1)) (steps.past_expression k) ts
          ≡ with_rest (first_of (with_rest o (λ d us. Some ((stmt.Declaration d.0, d.1), us))) (reading (whole.expression_statement (inner by_tree n) k)) ts) (λ a. pure a.1)
      by-declaration None = expression-past k ts
      by-declaration (Some q) = refl

  case-past : (k : Known) (ts : List Token) → steps.past_case k ts ≡ known_at (reading (case-rule k)) ts
  unfolding steps.past_case condition_at
  case-past k ts = sym (joined (word case_word ts) _ _ ∙ with-rest-same (word case_word ts) (word case_word ts) _ _ refl
      (λ at us. joined (condition_at k.names us) _ _ ∙ with-rest-same (condition_at k.names us) (condition_at k.names us) _ _ refl (λ c vs. joined (word colon vs) _ _)))

  default-past : (k : Known) (ts : List Token) → steps.past_default k ts ≡ known_at (reading (default-rule k)) ts
  unfolding steps.past_default
  default-past k ts = sym (joined (word default_word ts) _ _ ∙ with-rest-same (word default_word ts) (word default_word ts) _ _ refl (λ at us. joined (word colon us) _ _))

  pub switched-past : (k : Known) (ts : List Token) → steps.past_switched (insides n) k ts ≡ known_at (reading (whole.switched (inner by_tree n) k)) ts
  unfolding steps.past_switched
  switched-past k ts = by-chosen (sees case_word ts) (reading (case-rule k)) _ (steps.past_case k) _ ts (case-past k ts)
      (by-chosen (sees default_word ts) (reading (default-rule k)) ((insides n).statement k) (steps.past_default k) (known_at ((insides n).statement k)) ts (default-past k ts) refl)
