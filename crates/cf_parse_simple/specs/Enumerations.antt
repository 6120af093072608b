-- Enumerations (7.2), read step by step: the readings by words that stay shut.
use Rattle.std.specs.Prelude.{ℕ, List, [], ◌∷◌, ◌++◌, length, Option, Some, None}
use Rattle.cf_syntax.specs.declared.expression.Expr.{Expr}
use Rattle.cf_syntax.specs.declared.type_names.NameKind.TheVariants as kind
use Rattle.cf_syntax.specs.NamesData.{Names}
use Rattle.cf_syntax.specs.Grammar.{sees}
use Rattle.cf_syntax.specs.Parse.{Parse, pure, with_rest, then, word}
use Rattle.cf_syntax.specs.Words.{comma, equals, enum_word}
use Rattle.cf_parse_decl.specs.Statements.{by}
use Rattle.cf_parse_expr.specs.Whole.{condition_at}
use Rattle.cf_unit.specs.declared.enumeration.EnumDef.{EnumDef}
use Rattle.cf_unit.specs.declared.enumeration.Enumerator.{Enumerator}
use Rattle.cf_unit.specs.Declarations.{maybe_identifier, enumeration_entered}
use Rattle.cf_unit.specs.Enters.{entered_here}
use Rattle.cf_unit.specs.Known.{Known, with_names}
use Rattle.cf_unit.specs.Pieces.{left_brace, right_brace, identifier}
use Rattle.cf_unit.specs.Read.{reading, taking, row}

-- ["=" cond], at the `=`
unfoldable pub maybe_value : Names → Parse (Option (ℕ × Expr))
maybe_value names = by (sees equals) (then (word equals) (λ at. then (condition_at names) (λ x. pure (Some (at, x))))) (pure None)

abbrev pub value_entered : Known → List ℕ → Known
value_entered k name = with_names k (entered_here k.names name kind.Value)

-- ID ["=" cond]: the name is entered before its value is read
unfoldable pub enumerator : Known → Parse (Enumerator × Known)
enumerator k = then identifier (λ n. then (maybe_value (value_entered k n.1).names) (λ v.
    pure (record { at = n.0; name = n.1; value = v }, value_entered k n.1)))

-- "," enumerator
unfoldable pub next_enumerator : Known → Parse (Enumerator × Known)
next_enumerator k = then (word comma) (λ _. enumerator k)

unfoldable pub enumerator_turn : List Enumerator × Known → Parse (List Enumerator × Known)
enumerator_turn s = then (next_enumerator s.1) (λ e. pure (s.0 ++ e.0 ∷ [], e.1))

-- "}"
unfoldable pub closed : {A : Type 0} → A → Parse A
closed x = then (word right_brace) (λ _. pure x)

-- {"," enumerator} "}"
unfoldable pub more_enumerators : List Enumerator × Known → Parse (List Enumerator × Known)
more_enumerators s ts = with_rest (row (λ b us. taking (enumerator_turn b us) us) (length ts) s ts) closed

-- enumerator {"," enumerator} "}"
unfoldable pub enumerators : Known → Parse (List Enumerator × Known)
enumerators k = then (enumerator k) (λ first. more_enumerators (first.0 ∷ [], first.1))

-- enum [ID] "{" enumerator {"," enumerator} "}"
unfoldable pub enumeration : Known → Parse (EnumDef × Known)
enumeration k = then (word enum_word) (λ at. then (reading maybe_identifier) (λ n. then (word left_brace) (λ _.
    then (enumerators (enumeration_entered k n)) (λ all. pure (record { at = at; name = n; enumerators = all.0 }, all.1)))))
