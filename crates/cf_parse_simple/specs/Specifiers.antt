-- Specifiers (7.1), read step by step: the readings by words that stay shut.
use Rattle.std.specs.Prelude.{◌≡◌, Bool, true, false, List, length, Option, Some, None, is_some, Result, Ok, Err}
use Rattle.cf_base.specs.declared.memory.Memory.{Memory}
use Rattle.cf_tokens.specs.declared.token.Token.{Token}
use Rattle.cf_syntax.specs.declared.specifier.TypeSpecifier.{TypeSpecifier}
use Rattle.cf_syntax.specs.declared.type_names.NameKind.TheVariants as kind
use Rattle.cf_syntax.specs.NamesData.{Names}
use Rattle.cf_syntax.specs.Parse.{Parse, pure, then}
use Rattle.cf_parse_decl.specs.Insides.{Insides}
use Rattle.cf_parse_decl.specs.Statements.{by}
use Rattle.cf_parse_expr.specs.Specified.{specifier_at}
use Rattle.cf_parse_simple.specs.Constructors.{is_constructor}
use Rattle.cf_parse_simple.specs.Enumerations.{enumeration}
use Rattle.cf_unit.specs.declared.reading.Given.{Given}
use Rattle.cf_unit.specs.declared.specifier.Specifier.TheVariants as specifier
use Rattle.cf_unit.specs.Declarations as rule
use Rattle.cf_unit.specs.Enters.{nothing_given, given_one, with_type}
use Rattle.cf_unit.specs.Known.{Known}
use Rattle.cf_unit.specs.Read.{taking, row}

-- a specifier that defines nothing
unfoldable pub plain_specifier : Names → Bool → Parse TypeSpecifier
plain_specifier names has_type = then (specifier_at names has_type) (λ w. pure w.0)

unfoldable pub plain_given : Given × Known → Parse (Given × Known)
plain_given s = then (plain_specifier s.1.names (is_some s.0.kind)) (λ w. pure (given_one s.0 s.1 w))

unfoldable pub enumeration_given : Given × Known → Parse (Given × Known)
enumeration_given s = then (enumeration s.1) (λ e. pure (with_type s.0 (specifier.Enumeration e.0) kind.Plain, e.1))

-- the name of a constructor is no specifier where no type was named yet
unfoldable pub untyped_given : Given × Known → Parse (Given × Known)
untyped_given s = by (is_constructor s.1) (λ _. None) (plain_given s)

module _ (r : Insides) where
  unfoldable pub class_given : Given × Known → Parse (Given × Known)
  class_given s = then (r.class s.1) (λ c. pure (with_type s.0 (specifier.Class c.0.0) c.0.1, c.1))

  unfoldable pub one_given : Given × Known → Parse (Given × Known)
  one_given s = by rule.begins_class (class_given s) (by rule.begins_enumeration (enumeration_given s)
      (by (λ _. is_some s.0.kind) (plain_given s) (untyped_given s)))

  -- {spec}, as many as can be taken
  unfoldable pub specifiers : Known → Parse (Given × Known)
  specifiers k ts = row (λ s us. taking (one_given s us) us) (length ts) (nothing_given, k) ts

-- what was taken, or else nothing has changed
abbrev pub Takes : Option ((Given × Known) × List Token) → Result Bool Memory → Given × Known → List Token → Given × Known → List Token → Type 0
Takes read (Ok true) before ts after us = read ≡ Some (after, us)
Takes read (Ok false) before ts after us = (read ≡ None) × (after ≡ before) × (us ≡ ts)
Takes read (Err e) before ts after us = Unit {0}
