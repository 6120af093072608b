-- Operands of expressions are read as their longest phrases.
use Rattle.std.proofs.Common.{◌≡◌, ℕ, true, false, ◌⊎◌, inl, inr, List, [], ◌∷◌, ◌++◌, length, Option, Some, None, refl, ap, arith}
use Rattle.std.specs.Prelude.{is_some}
use Rattle.cf_tokens.specs.declared.token.Token.{Token}
use Rattle.cf_syntax.specs.declared.expression.Expr.{Expr}
use Rattle.cf_syntax.specs.declared.expression.Expr.TheVariants as tree
use Rattle.cf_syntax.specs.declared.name.Name.{Name}
use Rattle.cf_syntax.specs.declared.reading.Suffix.{Suffix}
use Rattle.cf_syntax.specs.declared.reading.Suffix.TheVariants as suffix
use Rattle.cf_syntax.specs.NamesData.{Names}
use Rattle.cf_syntax.specs.Words.{front, left_paren, right_paren, left_bracket, right_bracket, comma, dot, arrow, tilde}
use Rattle.cf_syntax.specs.Named.{type_path}
use Rattle.cf_syntax.specs.Specified.{name}
use Rattle.cf_syntax.specs.Operators.{stepping, operator}
use Rattle.cf_syntax.specs.Parse.{Parse, none, then, word}
use Rattle.cf_syntax.specs.Language.{Language, Never, Exactly, Word, Then, Made, By}
use Rattle.cf_syntax.specs.Grammar.{Inside, sees, constant, basic_word, applied, NextAssign, MoreAssigns, Arguments, TypeInBrackets, HoldsType, Bracketed, Head, Member, Behind, Post}
use Rattle.cf_syntax.specs.Reading.{Readers, next_assign, more_assigns, first_assigns, arguments_behind, arguments, type_in_brackets, holds_type, bracketed, named, head, member, behind, post}
use Rattle.cf_syntax.proofs.Good.{within, Exceeds, Good, Starts, Eats, good-wider, good-then, good-made, good-exactly, within-at, starts-word}
use Rattle.cf_syntax.proofs.Tails.{Tail, good-by, good-never, good-close}
use Rattle.cf_syntax.proofs.Repeats.{tail-repeat, good-tail}
use Rattle.cf_syntax.proofs.Keeps.{Keeps, codes_of, keeps-never, keeps-exactly, keeps-then, keeps-made, keeps-by, keeps-many, keeps-eats, eats-word, eats-then, starts-then, eats-made, starts-made, starts-by, eats-by, starts-operator, eats-operator}
use Rattle.cf_syntax.proofs.Under.{under-constant, under-basic_word, under-type_path, under-name}
use Rattle.cf_syntax.proofs.Inner.{Inner, suffixes, behind_assign, behind_commas, behind_declarator}

module _ («in» : Inside) (r : Readers) (ok : Inner «in» r) where
  -- a word before something else
  pub good-after : {A : Type 0} (g : List ℕ) (n : ℕ) (q : ℕ → Parse A) (M : ℕ → Language A) → ((at : ℕ) → Good g (q at) (M at)) → Good g (then (word n) q) (Then (Word n) M)
  good-after g n q M good = good-then [] g (word n) q (Word n) M (good-exactly (word n)) good (λ at ts b rest m. refl)

  pub good-behind : {A B : Type 0} (g : List ℕ) (p : Parse A) (q : A → Parse B) (M : A → Language B) → ((a : A) → Good g (q a) (M a)) → Good g (then p q) (Then (Exactly p) M)
  good-behind g p q M good = good-then [] g p q (Exactly p) M (good-exactly p) good (λ at ts b rest m. refl)

  pub good-next_assign : (names : Names) → Good behind_assign (next_assign r names) (NextAssign «in» names)
  good-next_assign names = good-after behind_assign comma _ _ (λ at. good-made behind_assign (λ x. (at, x)) (r.assign names) («in».assign names) (ok.assign names))

  pub eats-next_assign : (names : Names) → Eats (NextAssign «in» names)
  eats-next_assign names = eats-then (Word comma) _ (eats-word comma) (λ at. keeps-made _ («in».assign names) (ok.keeps_assign names))

  pub tail-more_assigns : (names : Names) → Tail (λ a. a) (comma ∷ []) behind_assign (more_assigns r names) (MoreAssigns «in» names)
  tail-more_assigns names = tail-repeat (comma ∷ []) behind_assign _ _
      (λ all. good-made behind_assign (λ next. all ++ next.1 ∷ []) (next_assign r names) (NextAssign «in» names) (good-next_assign names))
      (λ all. starts-made (comma ∷ []) (λ next. all ++ next.1 ∷ []) (NextAssign «in» names) (starts-then (comma ∷ []) (Word comma) _ (starts-word comma)))
      (λ all. eats-made (λ next. all ++ next.1 ∷ []) (NextAssign «in» names) (eats-next_assign names))
      refl

  pub keeps-more_assigns : (names : Names) (all : List Expr) → Keeps (MoreAssigns «in» names all)
  keeps-more_assigns names all = keeps-many _ (λ before. keeps-made _ (NextAssign «in» names) (keeps-eats _ (eats-next_assign names))) all

  good-arguments_behind : (names : Names) (at : ℕ) → Good [] (arguments_behind r names at) (By (sees right_paren)
      (Made (λ _. (at, [])) (Word right_paren))
      (Then (Then (Made (λ x. x ∷ []) («in».assign names)) (MoreAssigns «in» names)) (λ all. Made (λ _. (at, all)) (Word right_paren))))
  good-arguments_behind names at = good-by [] (sees right_paren) _ _ _ _ (good-made [] (λ _. (at, [])) (word right_paren) (Word right_paren) (good-exactly (word right_paren)))
      (good-close (behind_assign ++ (comma ∷ [] ++ behind_assign)) right_paren (λ all. (at, all)) (first_assigns r names) _
      (good-tail (λ a. a) behind_assign (comma ∷ []) behind_assign _ _ (more_assigns r names) (MoreAssigns «in» names)
      (good-made behind_assign (λ x. x ∷ []) (r.assign names) («in».assign names) (ok.assign names)) (tail-more_assigns names) refl)
      refl)

  pub good-arguments : (names : Names) → Good [] (arguments r names) (Arguments «in» names)
  good-arguments names = good-after [] left_paren _ _ (good-arguments_behind names)

  pub eats-arguments : (names : Names) → Eats (Arguments «in» names)
  eats-arguments names = eats-then (Word left_paren) _ (eats-word left_paren) (λ at. keeps-by _ _ _ (keeps-made _ (Word right_paren) (keeps-eats _ (eats-word right_paren)))
      (keeps-then _ _ (keeps-then _ _ (keeps-made _ («in».assign names) (ok.keeps_assign names)) (keeps-more_assigns names))
      (λ all. keeps-made _ (Word right_paren) (keeps-eats _ (eats-word right_paren)))))

  pub starts-arguments : (names : Names) → Starts (left_paren ∷ []) (Arguments «in» names)
  starts-arguments names = starts-then (left_paren ∷ []) (Word left_paren) _ (starts-word left_paren)

  keeps-closing : {B : Type 0} (n : ℕ) (b : B) → Keeps (Made (λ _. b) (Word n))
  keeps-closing n b = keeps-made _ (Word n) (keeps-eats _ (eats-word n))

  pub good-type_in_brackets : (names : Names) → Good [] (type_in_brackets r names) (TypeInBrackets «in» names)
  good-type_in_brackets names = good-after [] left_paren _ _ (λ at. good-close behind_declarator right_paren (λ t. (at, t)) (r.type_id names) («in».type_id names) (ok.type_id names) refl)

  pub eats-type_in_brackets : (names : Names) → Eats (TypeInBrackets «in» names)
  eats-type_in_brackets names = eats-then (Word left_paren) _ (eats-word left_paren) (λ at. keeps-then _ _ (ok.keeps_type_id names) (λ t. keeps-closing right_paren (at, t)))

  -- the test says whether brackets can hold a type
  pub is-some-has : {A : Type 0} (o : Option A) → is_some o ≡ true → (x : A) × (o ≡ Some x)
  is-some-has None e = absurd (clash e)
    where
      clash : false ≡ true → ⊥
      clash q = cc
  is-some-has (Some x) e = (x, refl)

  pub type-held : (names : Names) (ts : List Token) → holds_type r names ts ≡ true → HoldsType «in» names ts
  type-held names ts e = let s = is-some-has (type_in_brackets r names ts) e in (s.0.0, s.0.1, (good-type_in_brackets names).sound ts s.0.0 s.0.1 s.1)

  pub type-decides : (names : Names) (ts : List Token) → HoldsType «in» names ts → holds_type r names ts ≡ true
  type-decides names ts (x, rest, l) = by_meets ((good-type_in_brackets names).meets ts x rest l)
    where
      by_meets : (type_in_brackets r names ts ≡ Some (x, rest)) ⊎ Exceeds [] (type_in_brackets r names ts) rest → holds_type r names ts ≡ true
      by_meets (inl e) = ap (λ o. is_some o) e
      by_meets (inr y) = ap (λ o. is_some o) y.is

  -- ---- post

  good-bracketed : (names : Names) → Good [] (bracketed r names) (Bracketed «in» names)
  good-bracketed names = good-after [] left_paren _ _ (λ at. good-close behind_commas right_paren (λ x. tree.Paren at x) (r.commas names) («in».commas names) (ok.commas names) refl)

  good-named : (names : Names) → Good [] (named r names) (By (sees tilde) Never (Made (λ n. tree.Named n.0) (Exactly (name names))))
  good-named names = good-by [] (sees tilde) none _ Never _ good-never (good-made [] (λ n. tree.Named n.0) (name names) (Exactly (name names)) (good-exactly (name names)))

  pub good-head : (names : Names) → Good [] (head r names) (Head «in» names)
  good-head names = good-by [] _ _ _ _ _ (good-exactly constant) (good-by [] _ _ _ _ _ (good-bracketed names)
      (good-by [] _ _ _ _ _ (good-behind [] basic_word _ _ (λ b. good-made [] (λ all. tree.BasicCall b.0 b.1 all.1) (arguments r names) (Arguments «in» names) (good-arguments names)))
      (good-by [] _ _ _ _ _ (good-behind [] (type_path names) _ _ (λ path. good-made [] (λ all. tree.TypeCall path.at path all.1) (arguments r names) (Arguments «in» names) (good-arguments names)))
      (good-named names))))

  pub keeps-head : (names : Names) → Keeps (Head «in» names)
  keeps-head names = keeps-by _ _ _ (keeps-exactly constant (λ ts. under-constant (length ts) ts (omega arith)))
      (keeps-by _ _ _ (keeps-then _ _ (keeps-eats _ (eats-word left_paren)) (λ at. keeps-then _ _ (ok.keeps_commas names) (λ x. keeps-closing right_paren (tree.Paren at x))))
      (keeps-by _ _ _ (keeps-then _ _ (keeps-exactly basic_word (λ ts. under-basic_word (length ts) ts (omega arith))) (λ b. keeps-made _ _ (keeps-eats _ (eats-arguments names))))
      (keeps-by _ _ _ (keeps-then _ _ (keeps-exactly (type_path names) (λ ts. under-type_path names (length ts) ts (omega arith))) (λ b. keeps-made _ _ (keeps-eats _ (eats-arguments names))))
      (keeps-by _ _ _ keeps-never (keeps-made _ _ (keeps-exactly (name names) (λ ts. under-name names (length ts) ts (omega arith))))))))

  good-member : (names : Names) (n : ℕ) (make : ℕ → Name → Suffix) → Good [] (member r names n make) (Member «in» names n make)
  good-member names n make = good-after [] n _ _ (λ at. good-made [] (λ m. make at m.0) (name names) (Exactly (name names)) (good-exactly (name names)))

  good-suffix : (names : Names) → Good [] (behind r names) (Behind «in» names)
  good-suffix names = good-by [] _ _ _ _ _ (good-after [] left_bracket _ _ (λ at. good-close behind_commas right_bracket (λ i. suffix.Index at i) (r.commas names) («in».commas names) (ok.commas names) refl))
      (good-by [] _ _ _ _ _ (good-made [] (λ all. suffix.Call all.0 all.1) (arguments r names) (Arguments «in» names) (good-arguments names))
      (good-by [] _ _ _ _ _ (good-member names dot suffix.Dot)
      (good-by [] _ _ _ _ _ (good-member names arrow suffix.Arrow)
      (good-made [] (λ op. suffix.Step op.0 op.1) (operator stepping) (Exactly (operator stepping)) (good-exactly (operator stepping))))))

  eats-suffix : (names : Names) → Eats (Behind «in» names)
  eats-suffix names = eats-by _ _ _ (eats-then (Word left_bracket) _ (eats-word left_bracket) (λ at. keeps-then _ _ (ok.keeps_commas names) (λ i. keeps-closing right_bracket (suffix.Index at i))))
      (eats-by _ _ _ (eats-made _ (Arguments «in» names) (eats-arguments names))
      (eats-by _ _ _ (eats-then (Word dot) _ (eats-word dot) (λ at. keeps-made _ _ (keeps-exactly (name names) (λ ts. under-name names (length ts) ts (omega arith)))))
      (eats-by _ _ _ (eats-then (Word arrow) _ (eats-word arrow) (λ at. keeps-made _ _ (keeps-exactly (name names) (λ ts. under-name names (length ts) ts (omega arith)))))
      (eats-made _ _ (eats-operator stepping refl)))))

  starts-in : {A : Type 0} (ks js : List ℕ) (L : Language A) → within ks js ≡ true → Starts ks L → Starts js L
  starts-in ks js L w h ts x rest l = within-at ks js (front ts) w (h ts x rest l)

  starts-suffix : (names : Names) → Starts suffixes (Behind «in» names)
  starts-suffix names = starts-by suffixes _ _ _ (starts-in (left_bracket ∷ []) suffixes _ refl (starts-then (left_bracket ∷ []) (Word left_bracket) _ (starts-word left_bracket)))
      (starts-by suffixes _ _ _ (starts-in (left_paren ∷ []) suffixes _ refl (starts-made (left_paren ∷ []) _ _ (starts-arguments names)))
      (starts-by suffixes _ _ _ (starts-in (dot ∷ []) suffixes _ refl (starts-then (dot ∷ []) (Word dot) _ (starts-word dot)))
      (starts-by suffixes _ _ _ (starts-in (arrow ∷ []) suffixes _ refl (starts-then (arrow ∷ []) (Word arrow) _ (starts-word arrow)))
      (starts-in (codes_of stepping) suffixes _ refl (starts-made (codes_of stepping) _ _ (starts-operator stepping))))))

  pub good-post : (names : Names) → Good suffixes (post r names) (Post «in» names)
  good-post names = good-wider ([] ++ (suffixes ++ [])) suffixes (post r names) (Post «in» names) refl
      (good-tail (λ a. a) [] suffixes [] (head r names) (Head «in» names) _ _ (good-head names)
      (tail-repeat suffixes [] _ _ (λ a. good-made [] (λ s. applied a s) (behind r names) (Behind «in» names) (good-suffix names))
      (λ a. starts-made suffixes (applied a) (Behind «in» names) (starts-suffix names)) (λ a. eats-made (applied a) (Behind «in» names) (eats-suffix names)) refl)
      refl)

  pub keeps-post : (names : Names) → Keeps (Post «in» names)
  keeps-post names = keeps-then _ _ (keeps-head names) (keeps-many _ (λ a. keeps-made _ _ (keeps-eats _ (eats-suffix names))))
