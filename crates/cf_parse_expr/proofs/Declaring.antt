-- Declarators, parameters and types in brackets read step by step are those that the grammar's readings read.
use Rattle.std.proofs.Common.{◌≡◌, ℕ, zero, suc, ◌-◌, Bool, true, false, cond, List, [], ◌∷◌, length, drop, Option, Some, None, nat_eq, is_some, refl, sym, ◌∙◌, ap, arith}
use Rattle.std.proofs.lemmas.Bool.{eqb-true}
use Rattle.cf_tokens.specs.declared.token.Token.{Token}
use Rattle.cf_syntax.specs.declared.declarator.DeclTree.{DeclTree}
use Rattle.cf_syntax.specs.declared.declarator.DeclTree.TheVariants as decl
use Rattle.cf_syntax.specs.declared.declarator.Param.{Param}
use Rattle.cf_syntax.specs.declared.expression.Expr.{Expr}
use Rattle.cf_syntax.specs.declared.reading.DeclaratorKind.{DeclaratorKind}
use Rattle.cf_syntax.specs.declared.reading.DeclaratorKind.TheVariants as kind
use Rattle.cf_syntax.specs.NamesData.{Names}
use Rattle.cf_syntax.specs.Named.{opened, one_pointer, const_behind}
use Rattle.cf_syntax.specs.Grammar.{sees, begins, name_words}
use Rattle.cf_syntax.specs.Parse.{pure, with_rest, or_stop, turn, loop, repeat}
use Rattle.cf_syntax.specs.Reading.{Readers}
use Rattle.cf_syntax.specs.Reading as whole
use Rattle.cf_syntax.specs.Words.{front, left_paren, left_bracket, const_word}
use Rattle.cf_syntax.proofs.Good.{both-ways}
use Rattle.cf_parse_expr.specs.declared.declarators.DeclaratorSuffix.TheVariants as suffix
use Rattle.cf_parse_expr.specs.Leaves as leaf
use Rattle.cf_parse_expr.specs.Named.{within}
use Rattle.cf_parse_expr.specs.Reads.{tried}
use Rattle.cf_parse_expr.specs.Arguments as arguments
use Rattle.cf_parse_expr.specs.Declarators as declarators
use Rattle.cf_parse_expr.specs.Params as params
use Rattle.cf_parse_expr.proofs.Opened.{opened_none}
use Rattle.cf_parse_expr.proofs.Steps.{with-rest-same}

abbrev Found : Type 0
Found = Option ((DeclTree × List ℕ) × List Token)

abbrev with-classes : List ℕ → DeclTree → DeclTree × List ℕ
with-classes cs t = (t, cs)

abbrev array-of : DeclTree → List ℕ → ℕ × Option Expr → DeclTree × List ℕ
array-of d cs s = (decl.Array s.0 d s.1, cs)

abbrev function-behind : DeclTree → List ℕ → ℕ × List Param × Bool → DeclTree × List ℕ
function-behind d cs s = (decl.Function s.0 d s.1 s.2, cs)

by-suffix : (d : DeclTree) (cs : List ℕ) (b : Bool) (x : Option ((ℕ × Option Expr) × List Token)) (y : Option ((ℕ × List Param × Bool) × List Token))
    → with_rest (with_rest (cond b (with_rest x (λ s. pure (suffix.Array s.0 s.1))) (with_rest y (λ s. pure (suffix.Function s.0 s.1 s.2)))) (λ s. pure (declarators.suffixed d s)))
    (λ t. pure (with-classes cs t))
    ≡ cond b (with_rest x (λ s. pure (array-of d cs s))) (with_rest y (λ s. pure (function-behind d cs s)))
by-suffix d cs true None y = refl
by-suffix d cs true (Some q) y = refl
by-suffix d cs false x None = refl
by-suffix d cs false x (Some q) = refl

module _ (r : Readers) (names : Names) where
  turn-is : (d : DeclTree) (cs : List ℕ) (ts : List Token)
      → with_rest (declarators.tree_turn r (within names cs) d ts) (λ t. pure (with-classes cs t)) ≡ whole.declarator_behind r names (d, cs) ts
  unfolding declarators.tree_turn declarators.suffix_at declarators.array_behind declarators.array_bound declarators.parameters_behind
      arguments.params_in_brackets within
  turn-is d cs ts = by-suffix d cs (sees left_bracket ts) (declarators.array_behind r (opened names cs) ts) (declarators.parameters_behind r (opened names cs) ts)

  turns-is : (n : ℕ) (d : DeclTree) (cs : List ℕ) (ts : List Token)
      → declarators.declarator_turns r names n (d, cs) ts ≡ loop (whole.declarator_behind r names) n (d, cs) ts
  unfolding declarators.declarator_turns declarators.tree_turns
  turns-is zero d cs ts = refl
  turns-is (suc n) d cs ts =
      by-turn (declarators.tree_turn r (within names cs) d ts) (turns-is n)
      ∙ ap (λ o. turn o (d, cs) ts (loop (whole.declarator_behind r names) n)) (turn-is d cs ts)
    where
      by-turn : (o : Option (DeclTree × List Token))
          → ((d : DeclTree) (cs : List ℕ) (ts : List Token) → with_rest (loop (declarators.tree_turn r (within names cs)) n d ts) (λ t. pure (with-classes cs t)) ≡ loop (whole.declarator_behind r names) n (d, cs) ts)
          → with_rest (turn o d ts (loop (declarators.tree_turn r (within names cs)) n)) (λ t. pure (with-classes cs t))
          ≡ turn (with_rest o (λ t. pure (with-classes cs t))) (d, cs) ts (loop (whole.declarator_behind r names) n)
      by-turn None ih = refl
      by-turn (Some q) ih = ih q.0 cs q.1

  all-turns : (d : DeclTree × List ℕ) (ts : List Token) → declarators.all_turns r names d ts ≡ repeat (whole.declarator_behind r names) d ts
  unfolding declarators.all_turns
  all-turns d ts = turns-is (length ts) d.0 d.1 ts

  -- ---- brackets before which no name stands

  abbrev unnamed : DeclTree × List ℕ
  unnamed = (decl.Unnamed, [])

  abbrev function_of : ℕ × List Param × Bool → DeclTree × List ℕ
  function_of s = (decl.Function s.0 decl.Unnamed s.1 s.2, [])

  by-parts : (o : Option ((ℕ × List Param) × List Token)) (p : Option ((ℕ × List Param × Bool) × List Token)) (b : Found) (m : ℕ) (ts : List Token)
      → is_some o ≡ is_some p
      → loop (whole.declarator_behind r names) (length ts) unnamed ts ≡ turn (with_rest p (λ s. pure (function_of s))) unnamed ts (loop (whole.declarator_behind r names) m)
      → tried p (λ s us. declarators.declarator_turns r names m (function_of s) us) (tried b (declarators.all_turns r names) (Some (unnamed, ts)))
      ≡ with_rest (or_stop unnamed ts (cond (is_some o) None b)) (repeat (whole.declarator_behind r names))
  by-parts (Some q) (Some s) b m ts e first = turns-is m (function_of s.0).0 [] s.1 ∙ sym first
  by-parts None None (Some d) m ts e first = all-turns d.0 d.1
  by-parts None None None m ts e first = sym first
  by-parts (Some q) None b m ts e first = both-ways false (sym e) refl
  by-parts None (Some s) b m ts e first = both-ways true refl (sym e)

  abbrev with-const : ℕ × List Param → Bool → ℕ × List Param × Bool
  with-const all is_const = (all.0, all.1, is_const)

  abbrev by-const : ℕ × List Param → Bool → List Token → List Token → Option ((ℕ × List Param × Bool) × List Token)
  by-const all b us vs = cond b (Some (with-const all true, us)) (Some (with-const all false, vs))

  some-const : (all : ℕ × List Param) (b : Bool) (us vs : List Token) → true ≡ is_some (by-const all b us vs)
  some-const all true us vs = refl
  some-const all false us vs = refl

  both-some : (o : Option ((ℕ × List Param) × List Token)) → is_some o ≡ is_some (with_rest o (λ all. const_behind (with-const all)))
  both-some None = refl
  both-some (Some q) = some-const q.0 (nat_eq (front q.1) const_word) (drop 1 q.1) q.1

  no-bracket : (ts : List Token) → sees left_paren ts ≡ true → sees left_bracket ts ≡ false
  no-bracket ts e = ap (λ n. nat_eq n left_bracket) (eqb-true (front ts) left_paren e)

  first-turn : (ts : List Token) → sees left_paren ts ≡ true
      → whole.declarator_behind r names unnamed ts ≡ with_rest (whole.parameters_behind r names ts) (λ s. pure (function_of s))
  first-turn ts e =
      ap (λ b. cond b (whole.array_behind r names unnamed ts) (whole.function_behind r names unnamed ts)) (no-bracket ts e)
      ∙ ap (λ ns. with_rest (whole.parameters_behind r ns ts) (λ s. pure (function_of s))) (opened_none names)

  first-of-all : (ts : List Token) → sees left_paren ts ≡ true
      → loop (whole.declarator_behind r names) (length ts) unnamed ts
      ≡ turn (with_rest (whole.parameters_behind r names ts) (λ s. pure (function_of s))) unnamed ts (loop (whole.declarator_behind r names) (length ts - 1))
  first-of-all [] e = both-ways false e refl
  first-of-all (t ∷ ts) e =
      let one : suc (length ts) - 1 ≡ length ts = omega arith in
      ap (λ o. turn o unnamed (t ∷ ts) (loop (whole.declarator_behind r names) (length ts))) (first-turn (t ∷ ts) e)
      ∙ ap (λ n. turn (with_rest (whole.parameters_behind r names (t ∷ ts)) (λ s. pure (function_of s))) unnamed (t ∷ ts) (loop (whole.declarator_behind r names) n)) (sym one)

  paren-is : (k : DeclaratorKind) (ts : List Token) → sees left_paren ts ≡ true
      → declarators.paren_direct r k names ts ≡ with_rest (or_stop unnamed ts (whole.bracketed_unless r k names ts)) (repeat (whole.declarator_behind r names))
  unfolding declarators.paren_direct declarators.bracketed_direct declarators.bracketed_head declarators.parameters_behind arguments.params_in_brackets
  paren-is k ts e = by-parts (whole.params_in_brackets r names ts) (whole.parameters_behind r names ts) (whole.bracketed_head r k names ts) (length ts - 1) ts
      (both-some (whole.params_in_brackets r names ts)) (first-of-all ts e)

  -- a declarator by whether it begins with a bracket
  by-first : (b : Bool) (x y p q : Found) (ts : List Token)
      → (b ≡ true → x ≡ with_rest (or_stop unnamed ts p) (repeat (whole.declarator_behind r names)))
      → y ≡ with_rest (or_stop unnamed ts q) (repeat (whole.declarator_behind r names))
      → cond b x y ≡ with_rest (or_stop unnamed ts (cond b p q)) (repeat (whole.declarator_behind r names))
  by-first true x y p q ts h e = h refl
  by-first false x y p q ts h e = e

  direct-is : (k : DeclaratorKind) (ts : List Token) → declarators.direct r k names ts ≡ whole.direct r k names ts
  unfolding declarators.direct declarators.named_direct declarators.abstract_direct declarators.either_direct declarators.maybe_named
      declarators.bracketed_head declarators.named_head leaf.a_name
  direct-is kind.Named ts = with-rest-same _ _ _ _ refl all-turns
  direct-is kind.Abstract ts = by-first (sees left_paren ts) (declarators.paren_direct r kind.Abstract names ts) (declarators.all_turns r names unnamed ts)
      (whole.bracketed_unless r kind.Abstract names ts) None ts (paren-is kind.Abstract ts) (all-turns unnamed ts)
  direct-is kind.Either ts = by-first (sees left_paren ts) (declarators.paren_direct r kind.Either names ts)
      (with_rest (declarators.maybe_named names ts) (declarators.all_turns r names))
      (whole.bracketed_unless r kind.Either names ts) (cond (begins name_words ts) (whole.named_head r names ts) None) ts (paren-is kind.Either ts)
      (with-rest-same _ _ _ _ refl all-turns)

  pub declarator-is : (k : DeclaratorKind) (ts : List Token) → declarators.declarator r k names ts ≡ whole.declarator r k names ts
  unfolding declarators.declarator declarators.pointed leaf.a_pointer
  declarator-is k ts = ap (λ p. cond (is_some (one_pointer names ts)) (whole.pointed r k names ts) p) (direct-is k ts)

  pub params-is : (ts : List Token) → params.params r names ts ≡ whole.params r names ts
  unfolding params.params params.some_params params.more_params params.param_turn params.next_param params.one_param params.defaulted
      params.default_behind params.plain_param leaf.some_specifiers
  params-is ts = refl

  pub type_inside-is : (ts : List Token) → params.type_inside r names ts ≡ whole.type_inside r names ts
  unfolding params.type_inside leaf.some_specifiers
  type_inside-is ts = refl
