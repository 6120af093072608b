-- Initialisers of bases and members read step by step are those that the grammar's rules read.
use Rattle.std.proofs.Common.{◌≡◌, ℕ, Bool, true, false, cond, List, [], ◌∷◌, ◌++◌, length, Option, Some, None, nat_eq, refl, sym, ap, ◌∙◌, arith}
use Rattle.std.proofs.Math.Path.{fun_ext}
use Rattle.std.proofs.lemmas.Bool.Decides.{nat_tests}
use Rattle.cf_tokens.specs.declared.token.Token.{Token}
use Rattle.cf_syntax.specs.declared.expression.Expr.{Expr}
use Rattle.cf_syntax.specs.NamesData.{Names}
use Rattle.cf_syntax.specs.Grammar.{sees}
use Rattle.cf_syntax.specs.Named.{ident_path}
use Rattle.cf_syntax.specs.Parse.{Parse, pure, none, with_rest, then, word}
use Rattle.cf_syntax.specs.Words.{front, code, left_paren, right_paren, comma, colon, equals}
use Rattle.cf_parse_expr.proofs.Leaves.{ident-path-is}
use Rattle.cf_parse_expr.proofs.Steps.{with-rest-same}
use Rattle.cf_parse_expr.specs.Named.{ident_path_at}
use Rattle.cf_unit.specs.declared.class.MemberInit.{MemberInit}
use Rattle.cf_unit.specs.declared.initialiser.Initialiser.{Initialiser}
use Rattle.cf_unit.specs.declared.initialiser.Initialiser.TheVariants as initial
use Rattle.cf_unit.specs.Bodies as rule
use Rattle.cf_unit.specs.Declarations as rules
use Rattle.cf_unit.specs.Files.{inner, by_tree}
use Rattle.cf_unit.specs.Pieces as pieces
use Rattle.cf_unit.specs.Read.{reading, chosen, taking, row}
use Rattle.cf_parse_body.specs.Inits as steps

joined : {A B C : Type 0} (o : Option (A × List Token)) (f : A → Parse B) (g : B → Parse C) → with_rest (with_rest o f) g ≡ with_rest o (λ x us. with_rest (f x us) g)
joined None f g = refl
joined (Some q) f g = refl

-- ---- args

as-list : {A B : Type 0} (o : Option (A × List Token)) (g : List A → Parse B) → with_rest o (λ x us. g (x ∷ []) us) ≡ with_rest (with_rest o (λ x. pure ([] ++ x ∷ []))) g
as-list None g = refl
as-list (Some q) g = refl

by-first : {A : Type 0} (b : Bool) (p q : Parse A) (ts : List Token) → b ≡ true → chosen b p q ts ≡ p ts
by-first b p q ts e = ap (λ c. chosen c p q ts) e

by-second : {A : Type 0} (b : Bool) (p q : Parse A) (ts : List Token) → b ≡ false → chosen b p q ts ≡ q ts
by-second b p q ts e = ap (λ c. chosen c p q ts) e

-- a test behind a word, before it
split : {A : Type 0} (b : Bool) (w : Parse ℕ) (f g : ℕ → Parse A) (ts : List Token)
    → chosen b (then w f) (then w g) ts ≡ with_rest (w ts) (λ at us. chosen b (f at) (g at) us)
split true w f g ts = refl
split false w f g ts = refl

-- ---- args

other : (m n k : ℕ) → nat_eq k m ≡ true → nat_eq m n ≡ false → nat_eq k n ≡ false
other m n k e apart = grind (arith, nat_tests)

no-word : (n : ℕ) (ts : List Token) → sees n ts ≡ false → word n ts ≡ None
no-word n [] e = refl
no-word n (t ∷ ts) e = ap (λ b. cond b (Some (t.at, ts)) None) e

abbrev given : ℕ × List Expr → Option Initialiser
given all = Some (initial.Arguments all.0 all.1)

back : (o : Option ((ℕ × List Expr) × List Token)) → with_rest (with_rest o (λ all. pure (given all))) steps.arguments_of ≡ o
back None = refl
back (Some q) = refl

module _ (names : Names) where
  -- where a bracket comes first, a declarator is initialised by arguments
  flat-is : (ts : List Token) → sees left_paren ts ≡ true
      → reading (rules.initialiser (inner by_tree 0) names) ts ≡ with_rest (reading (pieces.some_arguments names) ts) (λ all. pure (given all))
  flat-is ts e = by-second (sees equals ts) _ _ ts (other left_paren equals (front ts) e refl) ∙ by-first (sees left_paren ts) _ _ ts e

  some-arguments-is : (ts : List Token) → steps.some_arguments names ts ≡ reading (pieces.some_arguments names) ts
  unfolding steps.some_arguments steps.flat_initialiser
  some-arguments-is ts = by-front (sees left_paren ts) refl
    where
      by-front : (b : Bool) → sees left_paren ts ≡ b
          → chosen b (then (reading (rules.initialiser (inner by_tree 0) names)) steps.arguments_of) none ts ≡ reading (pieces.some_arguments names) ts
      by-front true e = ap (λ o. with_rest o steps.arguments_of) (flat-is ts e) ∙ back (reading (pieces.some_arguments names) ts)
      by-front false e = sym (ap (λ o. with_rest o (λ at. reading (pieces.before right_paren (λ all. (at, all)) (pieces.arguments names)))) (no-word left_paren ts e))

  abbrev none-in : ℕ → Parse (ℕ × List Expr)
  none-in at = then (word right_paren) (λ _. pure (at, []))

  abbrev some-in : ℕ → Parse (ℕ × List Expr)
  some-in at = reading (pieces.before right_paren (λ all. (at, all)) (pieces.arguments names))

  maybe-arguments-is : (ts : List Token) → steps.maybe_arguments names ts ≡ reading (pieces.maybe_arguments names) ts
  unfolding steps.maybe_arguments
  maybe-arguments-is [] = some-arguments-is []
  maybe-arguments-is (t ∷ us) = ap (λ p. chosen (sees right_paren us) (then (word left_paren) none-in) p (t ∷ us)) (fun_ext some-arguments-is)
      ∙ split (sees right_paren us) (word left_paren) none-in some-in (t ∷ us) ∙ by-bracket (nat_eq (code t.word) left_paren)
    where
      by-bracket : (b : Bool) → with_rest (cond b (Some (t.at, us)) None) (λ at vs. chosen (sees right_paren us) (none-in at) (some-in at) vs)
          ≡ with_rest (cond b (Some (t.at, us)) None) (λ at vs. chosen (sees right_paren vs) (none-in at) (some-in at) vs)
      by-bracket true = refl
      by-bracket false = refl

  -- ---- minit

  init-is : (all : List MemberInit) (ts : List Token) → with_rest (steps.member_init names ts) (λ i. pure (all ++ i ∷ [])) ≡ reading (rule.member_init names all) ts
  unfolding steps.member_init
  init-is all ts = joined (ident_path_at names ts) _ _
      ∙ with-rest-same (ident_path_at names ts) (ident_path names ts) _ _ (ident-path-is names ts) (λ p us. joined (steps.maybe_arguments names us) _ _
      ∙ ap (λ o. with_rest o (λ a. pure (all ++ steps.init_of p a ∷ []))) (maybe-arguments-is us))

  turn-is : (all : List MemberInit) (ts : List Token) → steps.init_turn names all ts ≡ with_rest (word comma ts) (λ _. reading (rule.member_init names all))
  unfolding steps.init_turn steps.next_init
  turn-is all ts = joined (word comma ts) _ _ ∙ with-rest-same (word comma ts) (word comma ts) _ _ refl (λ _ us. init-is all us)

  abbrev more : List MemberInit → Parse (List MemberInit)
  more all ts = row (λ b us. taking (with_rest (word comma us) (λ _. reading (rule.member_init names b))) us) (length ts) all ts

  more-is : (all : List MemberInit) (ts : List Token) → steps.more_inits names all ts ≡ more all ts
  unfolding steps.more_inits
  more-is all ts = ap (λ f. row (λ b us. taking (f b us) us) (length ts) all ts) (fun_ext (λ b. fun_ext (λ us. turn-is b us)))

  some-is : (ts : List Token) → steps.some_inits names ts ≡ with_rest (reading (rule.member_init names []) ts) more
  unfolding steps.some_inits
  some-is ts = with-rest-same (steps.member_init names ts) (steps.member_init names ts) _ (λ i us. more (i ∷ []) us) refl (λ i us. more-is (i ∷ []) us)
      ∙ as-list (steps.member_init names ts) more
      ∙ ap (λ o. with_rest o more) (init-is [] ts)

  pub member-inits-is : (ts : List Token) → steps.member_inits names ts ≡ reading (rule.member_inits names) ts
  unfolding steps.member_inits
  member-inits-is ts = ap (λ p. chosen (sees colon ts) (then (word colon) (λ _. p)) (pure []) ts) (fun_ext some-is)
