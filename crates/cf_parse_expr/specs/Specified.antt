-- Specifiers and whole names, read step by step.
use Rattle.std.specs.Prelude.{ℕ, Bool, true, false, cond, List, [], ◌∷◌, ◌++◌, length, drop, Option, Some, None, nat_eq}
use Rattle.cf_syntax.specs.declared.name.Last.{Last}
use Rattle.cf_syntax.specs.declared.name.Last.TheVariants as last
use Rattle.cf_syntax.specs.declared.name.Name.{Name}
use Rattle.cf_syntax.specs.declared.reading.Specifiers.{Specifiers}
use Rattle.cf_syntax.specs.declared.specifier.BasicType.{BasicType}
use Rattle.cf_syntax.specs.declared.specifier.ClassKey.{ClassKey}
use Rattle.cf_syntax.specs.declared.specifier.Storage.{Storage}
use Rattle.cf_syntax.specs.declared.specifier.TypeSpecifier.{TypeSpecifier}
use Rattle.cf_syntax.specs.declared.specifier.TypeSpecifier.TheVariants as specifier
use Rattle.cf_syntax.specs.NamesData.{Names}
use Rattle.cf_syntax.specs.Parse.{Parse, pure, with_rest, then, loop, word}
use Rattle.cf_syntax.specs.Specified.{storage_of, basic_of, key_of, no_specifiers, operator_number, some_ident, name_of}
use Rattle.cf_syntax.specs.Words.{front, place, ident_at, scope, tilde, const_word, operator_word, left_paren, left_bracket, right_paren, right_bracket}
use Rattle.cf_parse_expr.specs.Named.{qualifiers_at, path_at, ident_path_at, pointers_at}

-- ---- one specifier, and whether it names a type

unfoldable pub named_type : Names → Bool → Parse (TypeSpecifier × Bool)
named_type names has_type ts = cond has_type None (with_rest (path_at names ts) (λ path. pure (specifier.Named path, true)))

unfoldable pub keyed_type : Names → ClassKey → Parse (TypeSpecifier × Bool)
keyed_type names k ts = with_rest (ident_path_at names (drop 1 ts)) (λ path. pure (specifier.Elaborated (place ts) k path, true))

abbrev pub by_key : Names → Bool → Option ClassKey → Parse (TypeSpecifier × Bool)
by_key names has_type None ts = named_type names has_type ts
by_key names has_type (Some k) ts = keyed_type names k ts

unfoldable pub type_at_front : Names → Bool → Parse (TypeSpecifier × Bool)
type_at_front names has_type ts = by_key names has_type (key_of (front ts)) ts

abbrev pub by_basic : Names → Bool → Option BasicType → Parse (TypeSpecifier × Bool)
by_basic names has_type None ts = type_at_front names has_type ts
by_basic names has_type (Some b) ts = Some ((specifier.Basic (place ts) b, true), drop 1 ts)

unfoldable pub basic_at_front : Names → Bool → Parse (TypeSpecifier × Bool)
basic_at_front names has_type ts = by_basic names has_type (basic_of (front ts)) ts

abbrev pub by_storage : Names → Bool → Option Storage → Parse (TypeSpecifier × Bool)
by_storage names has_type None ts =
    cond (nat_eq (front ts) const_word) (Some ((specifier.Const (place ts), false), drop 1 ts)) (basic_at_front names has_type ts)
by_storage names has_type (Some w) ts = Some ((specifier.Storage (place ts) w, false), drop 1 ts)

unfoldable pub specifier_at : Names → Bool → Parse (TypeSpecifier × Bool)
specifier_at names has_type ts = by_storage names has_type (storage_of (front ts)) ts

-- ---- specifiers

abbrev pub put : Specifiers → TypeSpecifier × Bool → Specifiers
put s w = record { list = s.list ++ w.0 ∷ []; has_type = cond w.1 true s.has_type }

unfoldable pub specifier_turn : Names → Specifiers → Parse Specifiers
specifier_turn names s = then (specifier_at names s.has_type) (λ w. pure (put s w))

unfoldable pub more_specifiers : Names → Specifiers → Parse Specifiers
more_specifiers names s ts = loop (specifier_turn names) (length ts) s ts

unfoldable pub specifiers_at : Names → Parse (List TypeSpecifier)
specifiers_at names ts = with_rest (specifier_at names false ts) (λ w us.
    with_rest (more_specifiers names (put no_specifiers w) us) (λ all. pure all.list))

-- ---- names

unfoldable pub pair_at : ℕ → ℕ → Parse Last
pair_at close number ts = with_rest (word close (drop 1 ts)) (λ _. pure (last.Operator number))

unfoldable pub conversion_at : Names → Parse Last
conversion_at names ts = with_rest (specifiers_at names ts) (λ list us. with_rest (pointers_at names us) (λ ps. pure (last.Conversion list ps)))

unfoldable pub operator_at : Names → Parse Last
operator_at names ts =
    cond (nat_eq (front ts) left_paren) (pair_at right_paren 25 ts)
    (cond (nat_eq (front ts) left_bracket) (pair_at right_bracket 26 ts)
    (cond (nat_eq (operator_number (front ts)) 255) (conversion_at names ts) (Some (last.Operator (operator_number (front ts)), drop 1 ts))))

unfoldable pub destructor_at : Parse Last
destructor_at ts = some_ident last.Destructor (ident_at (drop 1 ts)) (drop 2 ts)

unfoldable pub ident_last_at : Parse Last
ident_last_at ts = some_ident last.Ident (ident_at ts) (drop 1 ts)

unfoldable pub last_at : Names → Parse Last
last_at names ts =
    cond (nat_eq (front ts) tilde) (destructor_at ts)
    (cond (nat_eq (front ts) operator_word) (operator_at names (drop 1 ts))
    (cond (nat_eq (front (drop 1 ts)) scope) None (ident_last_at ts)))

unfoldable pub name_at : Names → Parse (Name × List ℕ)
name_at names ts = with_rest (qualifiers_at names ts) (λ q us. with_rest (last_at names us) (λ part. pure (name_of (place ts) q (place us) part, q.classes)))
