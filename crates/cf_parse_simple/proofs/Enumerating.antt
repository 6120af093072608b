-- Enumerations read step by step are those that the grammar's rules read.
use Rattle.std.proofs.Common.{◌≡◌, ℕ, true, List, [], ◌∷◌, ◌++◌, length, Option, Some, None, Result, Ok, Err, refl, ap, ◌∙◌}
use Rattle.std.proofs.Math.Path.{fun_ext}
use Rattle.cf_tokens.specs.declared.token.Token.{Token}
use Rattle.cf_syntax.specs.Grammar.{sees}
use Rattle.cf_syntax.specs.Parse.{Parse, pure, with_rest, then, word}
use Rattle.cf_syntax.specs.Words.{comma, enum_word}
use Rattle.cf_parse_expr.specs.Whole.{condition_at}
use Rattle.cf_parse_simple.specs.Enumerations as steps
use Rattle.cf_parse_simple.proofs.Commas.{other-word}
use Rattle.cf_parse_simple.proofs.Joined.{joined, rest-same}
use Rattle.cf_unit.specs.declared.enumeration.EnumDef.{EnumDef}
use Rattle.cf_unit.specs.declared.enumeration.Enumerator.{Enumerator}
use Rattle.cf_unit.specs.Declarations as rule
use Rattle.cf_unit.specs.Known.{Known}
use Rattle.cf_unit.specs.Pieces.{left_brace, right_brace, identifier}
use Rattle.cf_unit.specs.Read.{reading, taking, row}
use Rattle.cf_unit.specs.Rule.{condition, expression}
use Rattle.cf_parse_decl.specs.Reads.{Gives}
use Rattle.cf_parse_expr.specs.Reads.{Reads}
use Rattle.cf_parse_expr.specs.declared.stop.Stop.{Stop}
use Rattle.cf_parse_expr.specs.declared.stop.Stop.TheVariants as stop

abbrev added : List Enumerator × Known → Enumerator × Known → List Enumerator × Known
added s e = (s.0 ++ e.0 ∷ [], e.1)

value-is : (k : Known) (ts : List Token) → steps.maybe_value k.names ts ≡ reading (rule.maybe_value (expression condition k.names)) ts
unfolding steps.maybe_value condition_at
value-is k ts = refl

one-is : (s : List Enumerator × Known) (ts : List Token) → with_rest (steps.enumerator s.1 ts) (λ e. pure (added s e)) ≡ reading (rule.enumerator s) ts
unfolding steps.enumerator
one-is s ts = joined (identifier ts) _ _ ∙ rest-same (identifier ts) _ _ (λ n us.
    joined (steps.maybe_value (steps.value_entered s.1 n.1).names us) _ _
    ∙ ap (λ o. with_rest o (λ v. pure (added s (record { at = n.0; name = n.1; value = v }, steps.value_entered s.1 n.1)))) (value-is (steps.value_entered s.1 n.1) us))

turn-is : (s : List Enumerator × Known) (ts : List Token) → steps.enumerator_turn s ts ≡ with_rest (word comma ts) (λ _. reading (rule.enumerator s))
unfolding steps.enumerator_turn steps.next_enumerator
turn-is s ts = joined (word comma ts) _ _ ∙ rest-same (word comma ts) _ _ (λ _ us. one-is s us)

abbrev row-of : (List Enumerator × Known → Parse (List Enumerator × Known)) → List Enumerator × Known → Parse (List Enumerator × Known)
row-of step s ts = row (λ b us. taking (step b us) us) (length ts) s ts

row-is : (s : List Enumerator × Known) (ts : List Token) → row-of steps.enumerator_turn s ts ≡ row-of (λ b us. with_rest (word comma us) (λ _. reading (rule.enumerator b))) s ts
row-is s ts = ap (λ f. row-of f s ts) (fun_ext (λ b. fun_ext (λ us. turn-is b us)))

abbrev made-of : ℕ → Option (ℕ × List ℕ) → List Enumerator × Known → EnumDef × Known
made-of at n all = (record { at = at; name = n; enumerators = all.0 }, all.1)

more-is : (at : ℕ) (n : Option (ℕ × List ℕ)) (s : List Enumerator × Known) (ts : List Token)
    → with_rest (steps.more_enumerators s ts) (λ all. pure (made-of at n all))
    ≡ with_rest (row-of (λ b us. with_rest (word comma us) (λ _. reading (rule.enumerator b))) s ts) (λ all. then (word right_brace) (λ _. pure (made-of at n all)))
unfolding steps.more_enumerators steps.closed
more-is at n s ts = joined (row-of steps.enumerator_turn s ts) _ _
    ∙ rest-same (row-of steps.enumerator_turn s ts) _ _ (λ all us. joined (word right_brace us) (λ _. pure all) (λ a. pure (made-of at n a)))
    ∙ ap (λ o. with_rest o (λ all. then (word right_brace) (λ _. pure (made-of at n all)))) (row-is s ts)

all-is : (at : ℕ) (n : Option (ℕ × List ℕ)) (k : Known) (ts : List Token)
    → with_rest (steps.enumerators k ts) (λ all. pure (made-of at n all))
    ≡ with_rest (reading (rule.enumerator ([], k)) ts) (λ first us. with_rest (row-of (λ b vs. with_rest (word comma vs) (λ _. reading (rule.enumerator b))) first us)
    (λ all. then (word right_brace) (λ _. pure (made-of at n all))))
unfolding steps.enumerators
all-is at n k ts = joined (steps.enumerator k ts) _ _
    ∙ rest-same (steps.enumerator k ts) _ (λ e us. behind (added ([], k) e) us) (λ e us. more-is at n (e.0 ∷ [], e.1) us)
    ∙ sym-joined
    ∙ ap (λ o. with_rest o behind) (one-is ([], k) ts)
  where
    behind : List Enumerator × Known → Parse (EnumDef × Known)
    behind first us = with_rest (row-of (λ b vs. with_rest (word comma vs) (λ _. reading (rule.enumerator b))) first us) (λ all. then (word right_brace) (λ _. pure (made-of at n all)))

    sym-joined : with_rest (steps.enumerator k ts) (λ e us. behind (added ([], k) e) us) ≡ with_rest (with_rest (steps.enumerator k ts) (λ e. pure (added ([], k) e))) behind
    sym-joined = by-first (steps.enumerator k ts)
      where
        by-first : (o : Option ((Enumerator × Known) × List Token))
            → with_rest o (λ e us. behind (added ([], k) e) us) ≡ with_rest (with_rest o (λ e. pure (added ([], k) e))) behind
        by-first None = refl
        by-first (Some q) = refl

pub enumeration-is : (k : Known) (ts : List Token) → steps.enumeration k ts ≡ reading (rule.enumeration k) ts
unfolding steps.enumeration
enumeration-is k ts = rest-same (word enum_word ts) _ _ (λ at us. rest-same (reading rule.maybe_identifier us) _ _ (λ n vs.
    rest-same (word left_brace vs) _ _ (λ _ ws. all-is at n (rule.enumeration_entered k n) ws)))

-- ---- the end of a list

abbrev beside : Known → Option (List Enumerator × List Token) → Option ((List Enumerator × Known) × List Token)
beside k None = None
beside k (Some z) = Some ((z.0, k), z.1)

closed-is : (all : List Enumerator) (k : Known) (ts : List Token) → steps.closed (all, k) ts ≡ beside k (steps.closed all ts)
unfolding steps.closed
closed-is all k ts = by-word (word right_brace ts)
  where
    by-word : (o : Option (ℕ × List Token)) → with_rest o (λ _. pure (all, k)) ≡ beside k (with_rest o (λ _. pure all))
    by-word None = refl
    by-word (Some q) = refl

pub gives-closed : (all : List Enumerator) (k : Known) (ts : List Token) (r : Result (List Enumerator) Stop) (new : List Token)
    → Reads (steps.closed all ts) r new → Gives (steps.closed (all, k) ts) r k new
gives-closed all k ts (Ok x) new e = closed-is all k ts ∙ ap (beside k) e
gives-closed all k ts (Err stop.Nothing) new e = closed-is all k ts ∙ ap (beside k) e
gives-closed all k ts (Err stop.Memory) new e = tt

-- a list isn't ended at a comma
pub open-at-comma : (s : List Enumerator × Known) (ts : List Token) → sees comma ts ≡ true → steps.closed s ts ≡ None
unfolding steps.closed
open-at-comma s ts here = ap (λ o. with_rest o (λ _. pure s)) (other-word comma right_brace ts here refl)
