-- Declarators and declarations read step by step are those that the grammar's rules read.
use Rattle.std.proofs.Common.{◌≡◌, ℕ, zero, suc, true, List, [], ◌∷◌, ◌++◌, length, Option, None, Result, refl, ap, ◌∙◌}
use Rattle.std.proofs.Math.Path.{fun_ext}
use Rattle.cf_tokens.specs.declared.token.Token.{Token}
use Rattle.cf_syntax.specs.declared.declarator.DeclTree.{DeclTree}
use Rattle.cf_syntax.specs.declared.reading.DeclaratorKind.TheVariants as kind
use Rattle.cf_syntax.specs.NamesData.{Names}
use Rattle.cf_syntax.specs.Grammar.{sees}
use Rattle.cf_syntax.specs.Named.{opened}
use Rattle.cf_syntax.specs.Parse.{Parse, pure, with_rest, then, word}
use Rattle.cf_syntax.specs.Reading.{readers}
use Rattle.cf_syntax.specs.Words.{place, comma}
use Rattle.cf_parse_expr.specs.Whole.{declarator_at}
use Rattle.cf_parse_expr.specs.Reads.{Reads}
use Rattle.cf_parse_expr.specs.declared.stop.Stop.{Stop}
use Rattle.cf_parse_simple.specs.Declarators as steps
use Rattle.cf_parse_simple.specs.Simple as whole
use Rattle.cf_parse_simple.proofs.Commas.{other-word}
use Rattle.cf_parse_simple.proofs.Joined.{joined, rest-same}
use Rattle.cf_parse_simple.proofs.Specifying.{specifiers-is}
use Rattle.cf_unit.specs.declared.declaration.InitDeclarator.{InitDeclarator}
use Rattle.cf_unit.specs.declared.initialiser.Initialiser.{Initialiser}
use Rattle.cf_unit.specs.declared.reading.Given.{Given}
use Rattle.cf_unit.specs.Declarations as rule
use Rattle.cf_unit.specs.Declares.{Shape, Declared}
use Rattle.cf_unit.specs.Enters.{entered}
use Rattle.cf_unit.specs.Files.{inner, by_tree}
use Rattle.cf_unit.specs.Known.{Known, with_names, open_scopes, closed_to}
use Rattle.cf_unit.specs.Pieces.{semicolon}
use Rattle.cf_unit.specs.Read.{reading, chosen, taking, row}

shape-is : (n : ℕ) → by_tree ≡ (inner by_tree n).shape
shape-is zero = refl
shape-is (suc n) = refl

abbrev read-by : ℕ → Given → Known → List Token → (List Token → DeclTree → Shape) → DeclTree × List ℕ → Declared × Known
read-by home g k ts tells d = (record { at = place ts; tree = d.0; shape = tells ts d.0 }, with_names k (opened (entered home g k (tells ts d.0)).names d.1))

pub initialised-is : (n : ℕ) (d : Declared × Known) (ts : List Token) → steps.initialised n d ts ≡ reading (rule.initialised (inner by_tree n) d) ts
unfolding steps.initialised steps.value_at
initialised-is n d ts = refl

pub value-reads : (n : ℕ) (names : Names) (ts : List Token) (r : Result (Option Initialiser) Stop) (new : List Token)
    → Reads (reading (rule.initialiser (inner by_tree n) names) ts) r new → Reads (steps.value_at n names ts) r new
unfolding steps.value_at
value-reads n names ts r new h = h

module _ (n home : ℕ) (g : Given) where
  pub one-is : (k : Known) (ts : List Token) → steps.one_declarator home g k ts ≡ reading (rule.one_declarator (inner by_tree n) home g k) ts
  unfolding steps.one_declarator declarator_at
  one-is k ts = ap (λ tells. with_rest ((readers (suc (length ts))).declarator kind.Named k.names ts) (λ d. pure (read-by home g k ts tells d))) (shape-is n)

  turn-is : (s : List InitDeclarator × Known) (ts : List Token) → steps.declarator_turn n home g s ts ≡ reading (rule.next_declarator (inner by_tree n) home g s) ts
  unfolding steps.declarator_turn steps.next_declarator steps.initialised steps.value_at
  turn-is s ts = joined (word comma ts) _ _ ∙ rest-same (word comma ts) _ _ (λ _ us.
      joined (steps.one_declarator home g s.1 us) _ _
      ∙ ap (λ o. with_rest o (λ d vs. with_rest (steps.initialised n d vs) (λ i. pure (s.0 ++ i.0 ∷ [], i.1)))) (one-is s.1 us))

  abbrev row-of : (List InitDeclarator × Known → Parse (List InitDeclarator × Known)) → List InitDeclarator × Known → Parse (List InitDeclarator × Known)
  row-of step s ts = row (λ b us. taking (step b us) us) (length ts) s ts

  row-is : (s : List InitDeclarator × Known) (ts : List Token) → row-of (steps.declarator_turn n home g) s ts ≡ row-of (λ b us. reading (rule.next_declarator (inner by_tree n) home g b) us) s ts
  row-is s ts = ap (λ f. row-of f s ts) (fun_ext (λ b. fun_ext (λ us. turn-is b us)))

  pub more-is : (first : InitDeclarator × Known) (ts : List Token) → steps.more_declarators n home g first ts ≡ reading (rule.more_declarators (inner by_tree n) home g first) ts
  unfolding steps.more_declarators steps.behind_commas steps.closed
  more-is first ts = ap (λ o. with_rest o (λ all. then (word semicolon) (λ _. pure (all.0, with_names all.1 (closed_to home all.1.names))))) (row-is (first.0 ∷ [], first.1) ts)

  behind-is : (k : Known) (ts : List Token) → with_rest (steps.one_declarator home g k ts) (λ d. then (steps.initialised n d) (steps.more_declarators n home g))
      ≡ with_rest (reading (rule.one_declarator (inner by_tree n) home g k) ts) (λ d. then (reading (rule.initialised (inner by_tree n) d)) (λ i. reading (rule.more_declarators (inner by_tree n) home g i)))
  unfolding steps.initialised steps.value_at
  behind-is k ts = rest-same (steps.one_declarator home g k ts) _ _ (λ d us. rest-same (reading (rule.initialised (inner by_tree n) d) us) _ _ more-is)
      ∙ ap (λ o. with_rest o (λ d. then (reading (rule.initialised (inner by_tree n) d)) (λ i. reading (rule.more_declarators (inner by_tree n) home g i)))) (one-is k ts)

  pub declarators-is : (k : Known) (ts : List Token) → steps.declarators n home g k ts ≡ reading (rule.declarators (inner by_tree n) home g k) ts
  unfolding steps.declarators
  declarators-is k ts = ap (λ p. chosen (sees semicolon ts) (then (word semicolon) (λ _. pure ([], k))) p ts) (fun_ext (behind-is k))

-- the declarators aren't ended at a comma
pub open-at-comma : (home : ℕ) (s : List InitDeclarator × Known) (ts : List Token) → sees comma ts ≡ true → steps.closed home s ts ≡ None
unfolding steps.closed
open-at-comma home s ts here = ap (λ o. with_rest o (λ _. pure (s.0, with_names s.1 (closed_to home s.1.names)))) (other-word comma semicolon ts here refl)

-- ---- declarations

declared-is : (n at home : ℕ) (g : Given) (k : Known) (ts : List Token)
    → whole.behind n at home g k ts ≡ reading (rule.declared_by at g (rule.declarators (inner by_tree n) home g k)) ts
unfolding whole.behind
declared-is n at home g k ts = ap (λ o. with_rest o (λ all. pure (whole.declaration at g all))) (declarators-is n home g k ts)

pub simple-is : (n : ℕ) (k : Known) (ts : List Token) → whole.simple n k ts ≡ reading (rule.simple (inner by_tree n) k) ts
unfolding whole.simple
simple-is n k ts = ap (λ o. with_rest o (λ s. whole.behind n (place ts) (open_scopes k.names) s.0 s.1)) (specifiers-is n k ts)
    ∙ rest-same (reading (rule.specifiers (inner by_tree n) k) ts) _ _ (λ s us. declared-is n (place ts) (open_scopes k.names) s.0 s.1 us)

pub specified-is : (n : ℕ) (k : Known) (ts : List Token) → whole.specified n k ts ≡ reading (rule.specified (inner by_tree n) k) ts
unfolding whole.specified
specified-is n k ts = ap (λ o. with_rest o (λ s us. chosen (rule.is_given s.0) (whole.behind n (place ts) (open_scopes k.names) s.0 s.1) (λ _. None) us)) (specifiers-is n k ts)
    ∙ rest-same (reading (rule.specifiers (inner by_tree n) k) ts) _ _ (λ s us.
    ap (λ p. chosen (rule.is_given s.0) p (λ _. None) us) (fun_ext (declared-is n (place ts) (open_scopes k.names) s.0 s.1)))
