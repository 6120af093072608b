-- The test for constructors is the rule's.
use Rattle.std.proofs.Common.{◌≡◌, ℕ, suc, Bool, true, false, cond, ◌&&◌, List, length, drop, Option, Some, None, is_some, refl, sym, ◌∙◌, ap}
use Rattle.std.specs.Prelude.{Result, Ok, Err, IfOk}
use Rattle.cf_base.specs.declared.memory.Memory.{Memory}
use Rattle.cf_tokens.specs.declared.token.Token.{Token}
use Rattle.cf_syntax.specs.declared.declarator.Param.{Param}
use Rattle.cf_syntax.specs.declared.name.Last.{Last}
use Rattle.cf_syntax.specs.declared.name.Last.TheVariants as last
use Rattle.cf_syntax.specs.declared.name.Name.{Name}
use Rattle.cf_syntax.specs.NamesData.{Names}
use Rattle.cf_syntax.specs.Grammar.{sees}
use Rattle.cf_syntax.specs.Named.{opened}
use Rattle.cf_syntax.specs.Parse.{with_rest}
use Rattle.cf_syntax.specs.Reading.{readers, params_in_brackets}
use Rattle.cf_syntax.specs.Specified.{name}
use Rattle.cf_syntax.specs.Words.{ident_at, left_paren}
use Rattle.cf_parse_expr.specs.Leaves.{a_name}
use Rattle.cf_parse_expr.specs.Named.{within}
use Rattle.cf_parse_simple.specs.Constructors as steps
use Rattle.cf_parse_simple.specs.Constructors.{from_last, twice_behind, params_behind}
use Rattle.cf_parse_simple.proofs.Followed.{held, params-held}
use Rattle.cf_parse_simple.proofs.Suffixes.{LastBehind, NameBehind, name-behind}
use Rattle.cf_unit.specs.Declarations.{own_at, is_twice, ends_in}
use Rattle.cf_unit.specs.Known.{Known}
use Rattle.cf_unit.specs.Read.{reading}
use Rattle.cf_unit.specs.Rule.{made, parameters}

-- whether parameters stand behind what was read of a constructor
abbrev with-params : Option (Names × List Token) → Bool
with-params o = is_some (with_rest o (λ names. reading (made (λ _. names) (parameters names))))

made-held : (names : Names) (us : List Token) → with-params (Some (names, us)) ≡ held names us
made-held names us = by-params (params_in_brackets (readers (suc (length us))) names us)
  where
    by-params : (o : Option ((ℕ × List Param) × List Token)) → is_some (with_rest o (λ _ vs. Some (names, vs))) ≡ is_some o
    by-params None = refl
    by-params (Some q) = refl

-- ---- a qualified name

abbrev twice-of : Names → Option ((Name × List ℕ) × List Token) → Option (Names × List Token)
twice-of names o = with_rest o (λ n us. cond (is_twice n.0.scopes n.0.last) (Some (opened names n.1, us)) None)

module _ (names : Names) (ts : List Token) where
  -- with parameters behind its last part
  by-last : (scopes : List (List ℕ)) (part : Last) (classes : List ℕ) (us : List Token) → LastBehind ts part us
      → cond (is_twice scopes part) (params_behind (within names classes) (from_last ts us)) false ≡ with-params (cond (is_twice scopes part) (Some (opened names classes, us)) None)
  unfolding within
  by-last scopes (last.Ident n) classes us l = by-end (ends_in scopes n)
    where
      there : params_behind (opened names classes) (from_last ts us) ≡ with-params (Some (opened names classes, us))
      there = params-held (opened names classes) (from_last ts us) n l.ident ∙ ap (held (opened names classes)) l.after ∙ sym (made-held (opened names classes) us)

      by-end : (b : Bool) → cond b (params_behind (opened names classes) (from_last ts us)) false ≡ with-params (cond b (Some (opened names classes, us)) None)
      by-end true = there
      by-end false = refl
  by-last scopes (last.Destructor n) classes us l = refl
  by-last scopes (last.Operator n) classes us l = refl
  by-last scopes (last.Conversion list ps) classes us l = refl

  by-name : (o : Option ((Name × List ℕ) × List Token)) → NameBehind ts o → twice_behind names ts o ≡ with-params (twice-of names o)
  by-name None l = refl
  by-name (Some q) l = by-last q.0.0.scopes q.0.0.last q.0.1 q.1 l

  twice-is : steps.twice_named names ts ≡ with-params (twice-of names (name names ts))
  unfolding steps.twice_named a_name
  twice-is = by-name (name names ts) (name-behind names ts)

-- ---- either name

is-there : (own o : Option (List ℕ)) → own_at own o ≡ true → (n : List ℕ) × (o ≡ Some n)
is-there own None e = absurd (cc)
is-there own (Some n) e = (n, refl)

both : (a b : Bool) → (a && b) ≡ true → a ≡ true
both true b e = refl
both false b e = absurd (cc)

pub constructs-is : (k : Known) (ts : List Token) → steps.constructs k ts ≡ steps.is_constructor k ts
unfolding steps.constructs steps.is_constructor
constructs-is k ts = by-own (own_at k.own (ident_at ts) && sees left_paren (drop 1 ts)) refl
  where
    by-own : (b : Bool) → (own_at k.own (ident_at ts) && sees left_paren (drop 1 ts)) ≡ b
        → cond b (params_behind k.names ts) (steps.twice_named k.names ts) ≡ with-params (cond b (Some (k.names, drop 1 ts)) (twice-of k.names (name k.names ts)))
    by-own true e =
        let there = is-there k.own (ident_at ts) (both (own_at k.own (ident_at ts)) (sees left_paren (drop 1 ts)) e) in
        params-held k.names ts there.0 there.1 ∙ sym (made-held k.names (drop 1 ts))
    by-own false e = twice-is k.names ts

pub if-constructs : (k : Known) (ts : List Token) (r : Result Bool Memory) → IfOk r (λ is. is ≡ steps.constructs k ts) → IfOk r (λ is. is ≡ steps.is_constructor k ts)
if-constructs k ts (Ok b) e = e ∙ constructs-is k ts
if-constructs k ts (Err m) e = e
