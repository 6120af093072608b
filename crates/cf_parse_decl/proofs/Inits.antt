-- Initialisers read step by step are those that the grammar's rules read.
use Rattle.std.proofs.Common.{◌≡◌, ℕ, suc, Bool, true, false, List, [], ◌∷◌, ◌++◌, length, Option, Some, None, refl, ap, ◌∙◌}
use Rattle.std.proofs.Math.Path.{fun_ext}
use Rattle.cf_tokens.specs.declared.token.Token.{Token}
use Rattle.cf_syntax.specs.NamesData.{Names}
use Rattle.cf_syntax.specs.Grammar.{sees}
use Rattle.cf_syntax.specs.Words.{comma, left_paren, right_paren, equals}
use Rattle.cf_syntax.specs.Parse.{Parse, pure, with_rest, then, word}
use Rattle.cf_parse_expr.proofs.Steps.{with-rest-same}
use Rattle.cf_parse_expr.specs.Whole.{assign_at}
use Rattle.cf_syntax.specs.declared.expression.Expr.{Expr}
use Rattle.cf_unit.specs.declared.initialiser.Initialiser.TheVariants as initial
use Rattle.cf_unit.specs.declared.initialiser.Init.{Init}
use Rattle.cf_unit.specs.declared.initialiser.Init.TheVariants as init
use Rattle.cf_unit.specs.Read.{reading, chosen, taking, row}
use Rattle.cf_unit.specs.Files.{inner, by_tree}
use Rattle.cf_unit.specs.Pieces.{left_brace, right_brace}
use Rattle.cf_unit.specs.Pieces as pieces
use Rattle.cf_unit.specs.Declarations as whole
use Rattle.cf_parse_decl.specs.Statements.{by}
use Rattle.cf_parse_decl.specs.Initialisers as steps

joined : {A B C : Type 0} (o : Option (A × List Token)) (f : A → Parse B) (g : B → Parse C) → with_rest (with_rest o f) g ≡ with_rest o (λ x us. with_rest (f x us) g)
joined None f g = refl
joined (Some q) f g = refl

as-list : {B : Type 0} (o : Option (Init × List Token)) (g : List Init → Parse B) → with_rest o (λ x vs. g (x ∷ []) vs) ≡ with_rest (with_rest o (λ x. pure ([] ++ x ∷ []))) g
as-list None g = refl
as-list (Some q) g = refl

by-comma : (b : Bool) (w : Parse ℕ) (x : Init) (all : List Init) (ts : List Token)
    → with_rest (chosen b (pure x) (then w (λ _. pure x)) ts) (λ y. pure (all ++ y ∷ [])) ≡ chosen b (pure (all ++ x ∷ [])) (then w (λ _. pure (all ++ x ∷ []))) ts
by-comma true w x all ts = refl
by-comma false w x all ts = joined (w ts) (λ _. pure x) (λ y. pure (all ++ y ∷ []))

module _ (n : ℕ) (names : Names) where
  listed-is : (all : List Init) (ts : List Token) → steps.init_turn n names all ts ≡ reading (whole.listed_init (inner by_tree n).init names all) ts
  unfolding steps.init_turn steps.listed_init steps.init_at
  listed-is all ts = joined (reading ((inner by_tree n).init names) ts) _ _
      ∙ with-rest-same (reading ((inner by_tree n).init names) ts) (reading ((inner by_tree n).init names) ts) _ _ refl (λ x us. by-comma (sees right_brace us) (word comma) x all us)

  more-is : (all : List Init) (ts : List Token)
      → steps.more_inits n names all ts ≡ row (λ b us. taking (reading (whole.listed_init (inner by_tree n).init names b) us) us) (length ts) all ts
  unfolding steps.more_inits
  more-is all ts = ap (λ f. row (λ b us. taking (f b us) us) (length ts) all ts) (fun_ext (λ b. fun_ext (λ us. listed-is b us)))

  list-is : (ts : List Token) → steps.init_list n names ts ≡ reading (whole.init_list (inner by_tree n).init names) ts
  unfolding steps.init_list steps.init_turn
  list-is ts = with-rest-same (word left_brace ts) (word left_brace ts) _ _ refl (λ at us. firsts at us)
    where
      rest : ℕ → List Init → Parse Init
      rest at first vs = with_rest (row (λ b ws. taking (reading (whole.listed_init (inner by_tree n).init names b) ws) ws) (length vs) first vs)
          (λ all. then (word right_brace) (λ _. pure (init.List at all)))

      firsts : (at : ℕ) (us : List Token)
          → with_rest (steps.listed_init n names us) (λ first vs. with_rest (steps.more_inits n names (first ∷ []) vs) (λ all. then (word right_brace) (λ _. pure (init.List at all))))
          ≡ with_rest (reading (whole.listed_init (inner by_tree n).init names []) us) (rest at)
      firsts at us = with-rest-same (steps.listed_init n names us) (steps.listed_init n names us) _ (λ x vs. rest at (x ∷ []) vs) refl
          (λ x vs. ap (λ o. with_rest o (λ all. then (word right_brace) (λ _. pure (init.List at all)))) (more-is (x ∷ []) vs))
          ∙ as-list (steps.listed_init n names us) (rest at)
          ∙ ap (λ o. with_rest o (rest at)) (listed-is [] us)

  -- a value in an initialiser, one depth further out
  pub init-is : (ts : List Token) → steps.initialising n names ts ≡ reading ((inner by_tree (suc n)).init names) ts
  unfolding steps.initialising steps.init_value assign_at
  init-is ts = ap (λ p. chosen (sees left_brace ts) p (steps.init_value names) ts) (fun_ext list-is)

  argument-turn-is : (all : List Expr) (ts : List Token)
      → steps.argument_turn names all ts ≡ with_rest (word comma ts) (λ _. then (assign_at names) (λ y. pure (all ++ y ∷ [])))
  unfolding steps.argument_turn steps.next_argument
  argument-turn-is all ts = joined (word comma ts) (λ _. assign_at names) (λ y. pure (all ++ y ∷ []))

  arguments-is : (ts : List Token) → steps.arguments names ts ≡ reading (pieces.arguments names) ts
  unfolding steps.arguments steps.more_arguments assign_at
  arguments-is ts = with-rest-same (assign_at names ts) (assign_at names ts) _ _ refl
      (λ x us. ap (λ f. row (λ b vs. taking (f b vs) vs) (length us) (x ∷ []) us) (fun_ext (λ b. fun_ext (λ vs. argument-turn-is b vs))))

  some-arguments-is : (ts : List Token) → steps.some_arguments names ts ≡ reading (pieces.some_arguments names) ts
  unfolding steps.some_arguments
  some-arguments-is ts = with-rest-same (word left_paren ts) (word left_paren ts) _ _ refl
      (λ at us. ap (λ o. with_rest o (λ all. then (word right_paren) (λ _. pure (at, all)))) (arguments-is us))

  pub initialiser-is : (ts : List Token) → steps.initialiser n names ts ≡ reading (whole.initialiser (inner by_tree n) names) ts
  unfolding steps.initialiser steps.equals_init steps.init_at
  initialiser-is ts = ap (λ p. chosen (sees equals ts) (steps.equals_init n names)
      (by (sees left_paren) (then p (λ all. pure (Some (initial.Arguments all.0 all.1)))) (pure None)) ts) (fun_ext some-arguments-is)
