-- Specifiers read step by step are those that the grammar's rules read.
use Rattle.std.proofs.Common.{◌≡◌, ℕ, List, [], length, Option, None, is_some, sym, ap, ◌∙◌}
use Rattle.std.proofs.Math.Path.{fun_ext}
use Rattle.cf_tokens.specs.declared.token.Token.{Token}
use Rattle.cf_syntax.specs.declared.reading.Specifiers.{Specifiers}
use Rattle.cf_syntax.specs.declared.type_names.NameKind.TheVariants as kind
use Rattle.cf_syntax.specs.Parse.{Parse, pure, with_rest}
use Rattle.cf_parse_decl.specs.Insides.{insides}
use Rattle.cf_parse_expr.specs.Specified.{specifier_at, specifier_turn, put}
use Rattle.cf_parse_expr.proofs.Leaves.{turn-is}
use Rattle.cf_parse_simple.specs.Constructors.{is_constructor}
use Rattle.cf_parse_simple.specs.Enumerations.{enumeration}
use Rattle.cf_parse_simple.specs.Specifiers as steps
use Rattle.cf_parse_simple.proofs.Enumerating.{enumeration-is}
use Rattle.cf_parse_simple.proofs.Joined.{joined}
use Rattle.cf_unit.specs.declared.enumeration.EnumDef.{EnumDef}
use Rattle.cf_unit.specs.declared.reading.Given.{Given}
use Rattle.cf_unit.specs.declared.specifier.Specifier.TheVariants as specifier
use Rattle.cf_unit.specs.Declarations as rule
use Rattle.cf_unit.specs.Enters.{nothing_given, given_all, with_type}
use Rattle.cf_unit.specs.Files.{inner, by_tree}
use Rattle.cf_unit.specs.Known.{Known}
use Rattle.cf_unit.specs.Read.{reading, chosen, taking, row}

abbrev start : Given × Known → Specifiers
start s = record { list = []; has_type = is_some s.0.kind }

module _ (n : ℕ) where
  plain-is : (s : Given × Known) (ts : List Token) → steps.plain_given s ts ≡ reading (rule.plain_specifier (inner by_tree n) s) ts
  unfolding steps.plain_given steps.plain_specifier specifier_turn
  plain-is s ts = joined (specifier_at s.1.names (is_some s.0.kind) ts) _ _
      ∙ sym (joined (specifier_at s.1.names (is_some s.0.kind) ts) (λ w. pure (put (start s) w)) (λ one. pure (given_all s one.list)))
      ∙ ap (λ o. with_rest o (λ one. pure (given_all s one.list))) (turn-is s.1.names (start s) ts)

  abbrev untyped : (Given × Known → Parse (Given × Known)) → Given × Known → Parse (Given × Known)
  untyped plain s ts = chosen (is_some (reading (rule.constructor s.1) ts)) (λ us. None) (plain s) ts

  abbrev with-enumeration : Given × Known → EnumDef × Known → Given × Known
  with-enumeration s e = (with_type s.0 (specifier.Enumeration e.0) kind.Plain, e.1)

  abbrev given-by : (Known → Parse (EnumDef × Known)) → (Given × Known → Parse (Given × Known)) → Given × Known → Parse (Given × Known)
  given-by enums plain s ts = chosen (rule.begins_class ts) (steps.class_given (insides n) s)
      (λ us. chosen (rule.begins_enumeration us) (λ vs. with_rest (enums s.1 vs) (λ e. pure (with-enumeration s e)))
      (λ vs. chosen (is_some s.0.kind) (plain s) (untyped plain s) vs) us) ts

  pub one-is : (s : Given × Known) (ts : List Token) → steps.one_given (insides n) s ts ≡ reading (rule.one_given (inner by_tree n) s) ts
  unfolding steps.one_given steps.class_given steps.enumeration_given steps.untyped_given is_constructor
  one-is s ts = ap (λ plain. given-by enumeration plain s ts) (fun_ext (λ t. fun_ext (λ us. plain-is t us)))
      ∙ ap (λ enums. given-by enums (λ t us. reading (rule.plain_specifier (inner by_tree n) t) us) s ts) (fun_ext (λ k. fun_ext (λ us. enumeration-is k us)))

  pub specifiers-is : (k : Known) (ts : List Token) → steps.specifiers (insides n) k ts ≡ reading (rule.specifiers (inner by_tree n) k) ts
  unfolding steps.specifiers
  specifiers-is k ts = ap (λ f. row (λ s us. taking (f s us) us) (length ts) (nothing_given, k) ts) (fun_ext (λ s. fun_ext (λ us. one-is s us)))

pub specifiers_read : (n : ℕ) (k : Known) (ts : List Token) (z : Option ((Given × Known) × List Token))
    → steps.specifiers (insides n) k ts ≡ z → reading (rule.specifiers (inner by_tree n) k) ts ≡ z
specifiers_read n k ts z e = sym (specifiers-is n k ts) ∙ e
