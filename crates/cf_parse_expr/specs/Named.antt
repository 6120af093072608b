-- Names and types' names, read step by step.
use Rattle.std.specs.Prelude.{ℕ, Bool, true, false, cond, List, [], ◌∷◌, ◌++◌, length, drop, Option, Some, None, nat_eq, is_some}
use Rattle.cf_tokens.specs.declared.token.Token.{Token}
use Rattle.cf_syntax.specs.declared.asked.Asked.{Asked}
use Rattle.cf_syntax.specs.declared.name.Path.{Path}
use Rattle.cf_syntax.specs.declared.reading.Qualifiers.{Qualifiers}
use Rattle.cf_syntax.specs.declared.specifier.Pointer.{Pointer}
use Rattle.cf_syntax.specs.declared.specifier.Pointer.TheVariants as pointer
use Rattle.cf_syntax.specs.NamesData.{Names}
use Rattle.cf_syntax.specs.Named.{opened, inside, kind_at, qualifier, unqualified, before_ident, last_ident, no_names, path_of, const_behind}
use Rattle.cf_syntax.specs.Parse.{Parse, pure, with_rest, then, loop, word}
use Rattle.cf_syntax.specs.Words.{front, place, ident_at, scope, star, ampersand}

-- the names with the scopes of these classes open too
unfoldable pub within : Names → List ℕ → Names
within names classes = opened names classes

-- ---- qualifiers

abbrev pub with_name : List ℕ → Option Asked → Option (List ℕ × Asked)
with_name name None = None
with_name name (Some next) = Some (name, next)

abbrev pub typed_name : Names → Asked → Option (List ℕ) → Option (List ℕ × Asked)
typed_name names asked None = None
typed_name names asked (Some name) = with_name name (inside (kind_at names asked name))

-- the identifier at the front, if it is a type's name, and what is asked behind it
unfoldable pub typed : Names → Asked → List Token → Option (List ℕ × Asked)
typed names asked ts = typed_name names asked (ident_at ts)

-- the same where `::` stands behind it
unfoldable pub ahead : Names → Asked → List Token → Option (List ℕ × Asked)
ahead names asked ts = cond (nat_eq (front (drop 1 ts)) scope) (typed names asked ts) None

-- the same where an identifier stands behind both
unfoldable pub ahead_of_ident : Names → Asked → List Token → Option (List ℕ × Asked)
ahead_of_ident names asked ts = cond (is_some (ident_at (drop 2 ts))) (ahead names asked ts) None

unfoldable pub more_qualifiers : Names → Qualifiers → Parse Qualifiers
more_qualifiers names q ts = loop (qualifier names) (length ts) q ts

unfoldable pub qualifiers_at : Names → Parse Qualifiers
qualifiers_at names ts = cond (nat_eq (front ts) scope) (more_qualifiers names (unqualified true) (drop 1 ts)) (more_qualifiers names (unqualified false) ts)

unfoldable pub more_before_ident : Names → Qualifiers → Parse Qualifiers
more_before_ident names q ts = loop (before_ident names) (length ts) q ts

-- ---- types' names

abbrev pub ended : ℕ → Qualifiers → List Token → Option (List ℕ × Asked) → Option (Path × List Token)
ended at q ts None = None
ended at q ts (Some p) = Some (path_of at q p.0, ts)

unfoldable pub path_at : Names → Parse Path
path_at names ts = with_rest (qualifiers_at names ts) (λ q us. ended (place ts) q (drop 1 us) (typed names q.asked us))

unfoldable pub ident_path_from : Names → ℕ → Bool → Parse Path
ident_path_from names at from_file ts = with_rest (more_before_ident names (unqualified from_file) ts) (λ q us. last_ident at q (ident_at us) (drop 1 us))

unfoldable pub ident_path_at : Names → Parse Path
ident_path_at names ts = cond (nat_eq (front ts) scope) (ident_path_from names (place ts) true (drop 1 ts)) (ident_path_from names (place ts) false ts)

-- ---- operators before a declarator

-- whether `const` comes next
unfoldable pub const_at : Parse Bool
const_at ts = const_behind (λ is_const. is_const) ts

unfoldable pub to_member_at : Names → Parse Pointer
to_member_at names ts = with_rest (qualifiers_at names ts) (λ q us. cond (no_names q.names) None
    (with_rest (word star us) (λ at vs. with_rest (const_at vs)
    (λ is_const. pure (pointer.ToMember (place ts) (record { at = place ts; from_file = q.from_file; names = q.names }) is_const)))))

unfoldable pub pointer_at : Names → Parse Pointer
pointer_at names ts =
    cond (nat_eq (front ts) star) (with_rest (const_at (drop 1 ts)) (λ is_const. pure (pointer.To (place ts) is_const)))
    (cond (nat_eq (front ts) ampersand) (Some (pointer.Reference (place ts), drop 1 ts)) (to_member_at names ts))

unfoldable pub pointer_turn : Names → List Pointer → Parse (List Pointer)
pointer_turn names before = then (pointer_at names) (λ p. pure (before ++ p ∷ []))

unfoldable pub pointers_at : Names → Parse (List Pointer)
pointers_at names ts = loop (pointer_turn names) (length ts) [] ts
