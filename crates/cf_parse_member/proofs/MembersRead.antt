-- Functions and members read step by step are those that the grammar's rules read.
use Rattle.std.proofs.Common.{◌≡◌, ℕ, Bool, true, false, List, [], ◌∷◌, length, Some, None, refl, ap, ◌∙◌}
use Rattle.std.proofs.Math.Path.{fun_ext}
use Rattle.cf_tokens.specs.declared.token.Token.{Token}
use Rattle.cf_syntax.specs.Grammar.{sees, begins}
use Rattle.cf_syntax.specs.Parse.{Parse, with_rest, then, word}
use Rattle.cf_syntax.specs.Parse.{pure as just}
use Rattle.cf_syntax.specs.Words.{place, comma}
use Rattle.cf_parse_member.proofs.Joined.{joined, rest-same, chosen-same}
use Rattle.cf_parse_member.specs.Members as steps
use Rattle.cf_parse_simple.proofs.Commas.{other-word}
use Rattle.cf_unit.specs.declared.class.Member.{Member}
use Rattle.cf_unit.specs.declared.class.Member.TheVariants as member
use Rattle.cf_unit.specs.declared.class.MemberDeclarator.{MemberDeclarator}
use Rattle.cf_unit.specs.declared.reading.Given.{Given}
use Rattle.cf_unit.specs.Bodies as bodies
use Rattle.cf_unit.specs.Declares.{Declared}
use Rattle.cf_unit.specs.Files.{inner, by_tree}
use Rattle.cf_unit.specs.Known.{Known, with_names, open_scopes, closed_to}
use Rattle.cf_unit.specs.Members as rule
use Rattle.cf_unit.specs.Pieces.{semicolon}
use Rattle.cf_unit.specs.Read.{reading, chosen, taking, row}

-- the declarators aren't ended at a comma
pub open-at-comma : (home : ℕ) (s : List MemberDeclarator × Known) (ts : List Token) → sees comma ts ≡ true → steps.closed home s ts ≡ None
unfolding steps.closed
open-at-comma home s ts here = ap (λ o. with_rest o (λ _. just (s.0, with_names s.1 (closed_to home s.1.names)))) (other-word comma semicolon ts here refl)

-- nothing is read
abbrev passed : Parse (Unit {0})
passed ts = Some (tt, ts)

-- [";"], where nothing depends on it
maybe-semicolon-is : {A : Type 0} (x : A) (ts : List Token)
    → with_rest (steps.maybe_semicolon ts) (λ _. just x) ≡ chosen (sees semicolon ts) (then (word semicolon) (λ _. just x)) (just x) ts
unfolding steps.maybe_semicolon
maybe-semicolon-is {A = A} x ts = by-front (sees semicolon ts)
  where
    by-front : (b : Bool) → with_rest (chosen b (then (word semicolon) (λ _. passed)) passed ts) (λ _. just x) ≡ chosen b (then (word semicolon) (λ _. just x)) (just x) ts
    by-front true = joined (word semicolon ts) (λ _. passed) (λ _. just x)
    by-front false = refl

module _ (n : ℕ) where
  pub defined-is : (home at : ℕ) (g : Given) (d : Declared) (k : Known) (ts : List Token)
      → steps.defined n home at g d k ts ≡ reading (bodies.defined (inner by_tree n) home at g (d, k)) ts
  unfolding steps.defined steps.a_body
  defined-is home at g d k ts = refl

  -- ---- declarators

  turn-is : (home : ℕ) (g : Given) (s : List MemberDeclarator × Known) (ts : List Token)
      → steps.declarator_turn n home g s ts ≡ reading (rule.next_member_declarator (inner by_tree n) home g s) ts
  unfolding steps.declarator_turn steps.next_declarator steps.a_declarator steps.with_pure steps.pure_at
  turn-is home g s ts = joined (word comma ts) _ _ ∙ rest-same (word comma ts) _ _ (λ _ us.
      joined (steps.a_declarator n home g s.1 us) _ _ ∙ rest-same (steps.a_declarator n home g s.1 us) _ _ (λ d vs.
      joined (steps.with_pure d.0 vs) _ _ ∙ joined (steps.pure_at vs) _ _))

  abbrev row-of : (List MemberDeclarator × Known → Parse (List MemberDeclarator × Known)) → List MemberDeclarator × Known → Parse (List MemberDeclarator × Known)
  row-of step s ts = row (λ b us. taking (step b us) us) (length ts) s ts

  abbrev ended : ℕ → ℕ → Given → List MemberDeclarator × Known → Parse (Member × Known)
  ended home at g all = then (word semicolon) (λ _. just (steps.declaration_of at g all.0, with_names all.1 (closed_to home all.1.names)))

  ended-is : (home at : ℕ) (g : Given) (all : List MemberDeclarator × Known) (ts : List Token)
      → with_rest (steps.closed home all ts) (λ s. just (steps.declaration_of at g s.0, s.1)) ≡ ended home at g all ts
  unfolding steps.closed
  ended-is home at g all ts = joined (word semicolon ts) _ _

  declared-is : (home at : ℕ) (g : Given) (d : Declared) (k : Known) (ts : List Token)
      → steps.member_declared n home at g d k ts ≡ reading (rule.member_declared (inner by_tree n) home at g (d, k)) ts
  unfolding steps.member_declared steps.declarators steps.with_pure steps.pure_at steps.behind_commas
  declared-is home at g d k ts = joined (steps.with_pure d ts) _ _ ∙ joined (steps.pure_at ts) _ _ ∙ rest-same (steps.pure_at ts) _ _ (λ p us.
      joined (row-of (steps.declarator_turn n home g) (steps.declarator_of d p ∷ [], k) us) _ _
      ∙ rest-same (row-of (steps.declarator_turn n home g) (steps.declarator_of d p ∷ [], k) us) _ _ (λ all vs. ended-is home at g all vs)
      ∙ ap (λ f. with_rest (row-of f (steps.declarator_of d p ∷ [], k) us) (ended home at g)) (fun_ext (λ b. fun_ext (λ vs. turn-is home g b vs))))

  -- ---- members

  abbrev then-semicolon : {F : Type 0} → (F → Member) → F × Known → Parse (Member × Known)
  then-semicolon make f ts = chosen (sees semicolon ts) (then (word semicolon) (λ _. just (make f.0, f.1))) (just (make f.0, f.1)) ts

  function-is : (home at : ℕ) (g : Given) (d : Declared) (k : Known) (ts : List Token)
      → steps.member_function n home at g d k ts ≡ reading (rule.member_function (inner by_tree n) home at g (d, k)) ts
  unfolding steps.member_function
  function-is home at g d k ts = rest-same (steps.defined n home at g d k ts) _ _ (λ f us. maybe-semicolon-is (member.Function f.0, f.1) us)
      ∙ ap (λ o. with_rest o (then-semicolon (λ f. member.Function f))) (defined-is home at g d k ts)

  behind-is : (home at : ℕ) (g : Given) (d : Declared) (k : Known) (ts : List Token)
      → steps.member_behind n home at g d k ts ≡ reading (rule.member_behind (inner by_tree n) home at g (d, k)) ts
  unfolding steps.member_behind
  behind-is home at g d k ts = chosen-same (rule.begins_body ts) (steps.member_function n home at g d k) (steps.member_declared n home at g d k)
      (reading (rule.member_function (inner by_tree n) home at g (d, k))) (reading (rule.member_declared (inner by_tree n) home at g (d, k))) ts
      (function-is home at g d k ts) (declared-is home at g d k ts)

  specified-is : (home at : ℕ) (g : Given) (k : Known) (ts : List Token)
      → steps.member_specified n home at g k ts ≡ reading (rule.member_specified (inner by_tree n) home at (g, k)) ts
  unfolding steps.member_specified steps.a_declarator
  specified-is home at g k ts = ap (λ p. chosen (sees semicolon ts) (then (word semicolon) (λ _. just (steps.declaration_of at g [], k))) p ts)
      (fun_ext (λ us. rest-same (steps.a_declarator n home g k us) _ _ (λ d vs. behind-is home at g d.0 d.1 vs)))

  -- a member read step by step is what its rule reads
  pub member-is : (k : Known) (ts : List Token) → steps.one_member n k ts ≡ reading (rule.one_member (inner by_tree n) k) ts
  unfolding steps.one_member steps.access_label steps.some_specifiers
  member-is k ts = ap (λ p. chosen (begins steps.access_words ts) (steps.access_label k) p ts)
      (fun_ext (λ us. rest-same (steps.some_specifiers n k us) _ _ (λ s vs. specified-is (open_scopes k.names) (place us) s.0 s.1 vs)))
