-- Expressions read step by step are those that the grammar's readings read.
use Rattle.std.proofs.Common.{◌≡◌, ℕ, zero, suc, cond, List, length, Option, refl, ◌∙◌, ap}
use Rattle.cf_tokens.specs.declared.token.Token.{Token}
use Rattle.cf_syntax.specs.declared.expression.Expr.{Expr}
use Rattle.cf_syntax.specs.declared.expression.Expr.TheVariants as tree
use Rattle.cf_syntax.specs.NamesData.{Names}
use Rattle.cf_syntax.specs.Operators.{assigning, prefixing, stepping, heads, level, operator}
use Rattle.cf_syntax.specs.Grammar.{sees, allocates, from_file, applied}
use Rattle.cf_syntax.specs.Words.{sizeof_word}
use Rattle.cf_syntax.specs.Parse.{Parse, pure, with_rest, then, option, loop, word}
use Rattle.cf_syntax.specs.Reading.{Readers}
use Rattle.cf_syntax.specs.Reading as whole
use Rattle.cf_parse_expr.specs.Leaves as leaf
use Rattle.cf_parse_expr.specs.Arguments as arguments
use Rattle.cf_parse_expr.specs.Operands as operands
use Rattle.cf_parse_expr.specs.Unaries as unaries
use Rattle.cf_parse_expr.specs.Binaries as binaries
use Rattle.cf_parse_expr.proofs.Steps.{with-rest-same, loop-same}

module _ (r : Readers) (names : Names) where
  more_assigns-is : arguments.more_assigns r names ≡ whole.more_assigns r names
  unfolding arguments.more_assigns arguments.assign_turn arguments.next_assign
  more_assigns-is = refl

  arguments-is : arguments.arguments r names ≡ whole.arguments r names
  unfolding arguments.arguments arguments.arguments_behind arguments.first_assigns arguments.more_assigns arguments.assign_turn arguments.next_assign
  arguments-is = refl

  pub type_in_brackets-is : arguments.type_in_brackets r names ≡ whole.type_in_brackets r names
  unfolding arguments.type_in_brackets
  type_in_brackets-is = refl

  pub params_in_brackets-is : arguments.params_in_brackets r names ≡ whole.params_in_brackets r names
  unfolding arguments.params_in_brackets
  params_in_brackets-is = refl

  head-is : operands.head r names ≡ whole.head r names
  unfolding operands.head operands.paren_head operands.basic_head operands.path_head operands.bracketed operands.basic_call operands.path_call operands.named
      leaf.a_constant leaf.a_basic_word leaf.a_type_path leaf.a_name
      arguments.arguments arguments.arguments_behind arguments.first_assigns arguments.more_assigns arguments.assign_turn arguments.next_assign
  head-is = refl

  behind-is : operands.behind r names ≡ whole.behind r names
  unfolding operands.behind operands.index operands.call operands.dot_member operands.arrow_member operands.step_behind
      leaf.step_operator leaf.a_name
      arguments.arguments arguments.arguments_behind arguments.first_assigns arguments.more_assigns arguments.assign_turn arguments.next_assign
  behind-is = refl

  post-is : (ts : List Token) → operands.post r names ts ≡ whole.post r names ts
  unfolding operands.post operands.more_behind operands.behind_turn
  post-is ts = with-rest-same _ _ _ _ (ap (λ p. p ts) head-is)
      (λ a us. ap (λ p. loop (λ b. then p (λ s. pure (applied b s))) (length us) a us) behind-is)

  pub unary-is : (ts : List Token) → unaries.unary r names ts ≡ whole.unary r names ts
  unfolding unaries.unary unaries.stepped unaries.prefixed unaries.sized unaries.size_of unaries.allocated unaries.allocation unaries.deleted
      unaries.new_type unaries.new_plain unaries.new_bracketed unaries.initialised unaries.bounds unaries.bound_turn unaries.bound
      leaf.step_operator leaf.prefix_operator leaf.a_scope leaf.brackets leaf.some_specifiers leaf.all_pointers
      arguments.type_in_brackets arguments.arguments arguments.arguments_behind arguments.first_assigns arguments.more_assigns arguments.assign_turn arguments.next_assign
  unary-is ts = ap (λ p. cond (heads stepping ts) (whole.stepped r names ts)
      (cond (heads prefixing ts) (whole.prefixed r names ts)
      (cond (sees sizeof_word ts) (then (word sizeof_word) (whole.size_of r names) ts)
      (cond (allocates ts) (then from_file (whole.allocation r names) ts) p)))) (post-is ts)

  pub cast-is : (ts : List Token) → unaries.cast r names ts ≡ whole.cast r names ts
  unfolding unaries.cast unaries.cast_operand arguments.type_in_brackets
  cast-is ts = ap (λ p. cond (whole.holds_type r names ts) (whole.cast_only r names ts) p) (unary-is ts)

  right-same : (n : ℕ) (f g : Expr → Parse Expr) → ((a : Expr) (us : List Token) → f a us ≡ g a us)
      → (ts : List Token) → binaries.right_side r names n f ts ≡ whole.right_side r names n g ts
  unfolding binaries.right_side leaf.binary_operator
  right-same n f g same ts = with-rest-same (operator (level n) ts) (operator (level n) ts) _ _ refl
      (λ op us. ap (λ o. with_rest o (λ y. pure (op, y))) (with-rest-same _ _ f g (cast-is us) same))

  joined-is : (n : ℕ) (a : Expr) (ts : List Token) → binaries.joined_from r names n a ts ≡ whole.joined_from r names n a ts
  unfolding binaries.joined_from binaries.more_binary binaries.binary_turn
  joined-is zero a ts = refl
  joined-is (suc n) a ts = with-rest-same _ _ _ _ (joined-is n a ts)
      (λ b us. loop-same _ _ (λ d vs. ap (λ o. with_rest o (λ s. pure (tree.Binary s.0.0 s.0.1 d s.1)))
      (right-same n (binaries.joined_from r names n) (whole.joined_from r names n) (joined-is n) vs)) (length us) b us)

  choice-from : (o p : Option (Expr × List Token)) → o ≡ p
      → with_rest o (binaries.chosen r names) ≡ with_rest p (option (λ c. then (whole.choice r names) (λ s. pure (tree.Conditional s.0 c s.1 s.2))))
  unfolding binaries.chosen binaries.choice
  choice-from o p e = ap (λ q. with_rest q (binaries.chosen r names)) e

  condition_from-is : (a : Expr) (ts : List Token) → binaries.condition_from r names a ts ≡ whole.condition_from r names a ts
  unfolding binaries.condition_from
  condition_from-is a ts = choice-from (binaries.joined_from r names 11 a ts) (whole.joined_from r names 11 a ts) (joined-is 11 a ts)

  pub condition-is : (ts : List Token) → binaries.condition r names ts ≡ whole.condition r names ts
  unfolding binaries.condition
  condition-is ts = with-rest-same _ _ _ _ (cast-is ts) condition_from-is

  assign_from-is : (a : Expr) (ts : List Token) → binaries.assign_from r names a ts ≡ whole.assign_from r names a ts
  unfolding binaries.assign_from binaries.assigns binaries.assigned leaf.assign_operator
  assign_from-is a ts = ap (λ p. cond (heads assigning ts) (option (λ b. then (whole.assigned r names) (λ s. pure (tree.Assign s.0.0 s.0.1 b s.1))) a ts) p) (condition_from-is a ts)

  pub assign-is : (ts : List Token) → binaries.assign r names ts ≡ whole.assign r names ts
  unfolding binaries.assign unaries.cast_operand arguments.type_in_brackets
  assign-is ts =
      ap (λ p. cond (whole.holds_type r names ts) p (with_rest (unaries.unary r names ts) (binaries.assign_from r names)))
      (with-rest-same (whole.cast_only r names ts) (whole.cast_only r names ts) _ _ refl condition_from-is)
      ∙ ap (λ p. cond (whole.holds_type r names ts) (with_rest (whole.cast_only r names ts) (whole.condition_from r names)) p)
      (with-rest-same _ _ _ _ (unary-is ts) assign_from-is)

  pub commas-is : (ts : List Token) → binaries.commas r names ts ≡ whole.commas r names ts
  unfolding binaries.commas binaries.listed binaries.rest_of_list arguments.more_assigns arguments.assign_turn arguments.next_assign
  commas-is ts = with-rest-same _ _ _ _ (assign-is ts) (λ x us. refl)
