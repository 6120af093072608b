-- Specifiers and whole names as tokens spell them (5.1, 7.1). Each is as long as it can be.
use Rattle.std.specs.Prelude.{ℕ, true, false, cond, List, [], ◌∷◌, ◌++◌, drop, Option, Some, None, nat_eq, get_or}
use Rattle.cf_syntax.specs.declared.name.Last.{Last}
use Rattle.cf_syntax.specs.declared.name.Last.TheVariants as last
use Rattle.cf_syntax.specs.declared.name.Name.{Name}
use Rattle.cf_syntax.specs.declared.reading.Qualifiers.{Qualifiers}
use Rattle.cf_syntax.specs.declared.reading.Specifiers.{Specifiers}
use Rattle.cf_syntax.specs.declared.specifier.BasicType.{BasicType}
use Rattle.cf_syntax.specs.declared.specifier.BasicType.TheVariants as basic
use Rattle.cf_syntax.specs.declared.specifier.ClassKey.{ClassKey}
use Rattle.cf_syntax.specs.declared.specifier.ClassKey.TheVariants as key
use Rattle.cf_syntax.specs.declared.specifier.Storage.{Storage}
use Rattle.cf_syntax.specs.declared.specifier.Storage.TheVariants as storage
use Rattle.cf_syntax.specs.declared.specifier.TypeSpecifier.{TypeSpecifier}
use Rattle.cf_syntax.specs.declared.specifier.TypeSpecifier.TheVariants as specifier
use Rattle.cf_syntax.specs.NamesData.{Names}
use Rattle.cf_syntax.specs.Parse.{Parse, pure, then, repeat, word}
use Rattle.cf_syntax.specs.Words.{front, place, ident_at, scope, tilde, const_word, class_word, struct_word, enum_word, operator_word, left_paren, left_bracket, right_paren, right_bracket}
use Rattle.cf_syntax.specs.Named.{qualifiers, type_path, ident_path, pointers}

-- ---- specifiers that define nothing

abbrev pub storage_of : ℕ → Option Storage
storage_of n =
    cond (nat_eq n 65) (Some storage.Auto) (cond (nat_eq n 93) (Some storage.Register) (cond (nat_eq n 98) (Some storage.Static)
    (cond (nat_eq n 79) (Some storage.Extern) (cond (nat_eq n 85) (Some storage.Inline) (cond (nat_eq n 108) (Some storage.Virtual)
    (cond (nat_eq n 82) (Some storage.Friend) (cond (nat_eq n 105) (Some storage.Typedef) None)))))))

abbrev pub basic_of : ℕ → Option BasicType
basic_of n =
    cond (nat_eq n 69) (Some basic.Char) (cond (nat_eq n 95) (Some basic.Short) (cond (nat_eq n 86) (Some basic.Int)
    (cond (nat_eq n 87) (Some basic.Long) (cond (nat_eq n 96) (Some basic.Signed) (cond (nat_eq n 107) (Some basic.Unsigned)
    (cond (nat_eq n 109) (Some basic.Void) None))))))

abbrev pub key_of : ℕ → Option ClassKey
key_of n =
    cond (nat_eq n class_word) (Some key.Class) (cond (nat_eq n struct_word) (Some key.Struct) (cond (nat_eq n enum_word) (Some key.Enum) None))

abbrev pub with_word : Specifiers → TypeSpecifier → Specifiers
with_word s w = record { list = s.list ++ w ∷ []; has_type = s.has_type }

abbrev pub with_type : Specifiers → TypeSpecifier → Specifiers
with_type s w = record { list = s.list ++ w ∷ []; has_type = true }

-- a type's name, where no type was named yet
abbrev pub named_type : Names → Specifiers → Parse Specifiers
named_type names s ts =
    cond s.has_type None (then (type_path names) (λ path. pure (with_type s (specifier.Named path))) ts)

abbrev pub keyed_type : Names → Specifiers → Option ClassKey → Parse Specifiers
keyed_type names s None ts = named_type names s ts
keyed_type names s (Some k) ts = then (ident_path names) (λ path. pure (with_type s (specifier.Elaborated (place ts) k path))) (drop 1 ts)

abbrev pub basic_type : Names → Specifiers → Option BasicType → Parse Specifiers
basic_type names s None ts = keyed_type names s (key_of (front ts)) ts
basic_type names s (Some b) ts = Some (with_type s (specifier.Basic (place ts) b), drop 1 ts)

abbrev pub storage_word : Names → Specifiers → Option Storage → Parse Specifiers
storage_word names s None ts =
    cond (nat_eq (front ts) const_word) (Some (with_word s (specifier.Const (place ts)), drop 1 ts)) (basic_type names s (basic_of (front ts)) ts)
storage_word names s (Some w) ts = Some (with_word s (specifier.Storage (place ts) w), drop 1 ts)

abbrev pub one_specifier : Names → Specifiers → Parse Specifiers
one_specifier names s ts = storage_word names s (storage_of (front ts)) ts

abbrev pub no_specifiers : Specifiers
no_specifiers = record { list = []; has_type = false }

-- tspec {tspec}, as long as it can be
abbrev pub specifiers : Names → Parse (List TypeSpecifier)
specifiers names = then (one_specifier names no_specifiers) (λ s. then (repeat (one_specifier names) s) (λ all. pure all.list))

-- ---- name = ["::"] {TYPE "::"} ( ID | "~" ID | operator sign | operator tspec {tspec} {ptr} )

-- the number of each operator in the table of link names, by the number of its sign; 255 for the others
abbrev pub operator_numbers : List ℕ
operator_numbers =
    255 ∷ 255 ∷ 255 ∷ 255 ∷ 255 ∷ 255 ∷ 255 ∷ 27 ∷ 255 ∷ 255 ∷ 255 ∷ 255 ∷ 255 ∷ 23 ∷ 24 ∷ 255 ∷ 19 ∷ 18 ∷ 3 ∷ 4
    ∷ 0 ∷ 1 ∷ 2 ∷ 13 ∷ 14 ∷ 15 ∷ 9 ∷ 10 ∷ 22 ∷ 7 ∷ 8 ∷ 11 ∷ 12 ∷ 16 ∷ 17 ∷ 5 ∷ 6 ∷ 20 ∷ 21 ∷ 28
    ∷ 29 ∷ 30 ∷ 31 ∷ 32 ∷ 35 ∷ 36 ∷ 37 ∷ 33 ∷ 34 ∷ []

abbrev pub operator_number : ℕ → ℕ
operator_number sign = get_or operator_numbers sign 255

-- two signs that stand for the operator of this number
abbrev pub pair_of : ℕ → ℕ → Parse Last
pair_of close number ts = then (word close) (λ _. pure (last.Operator number)) (drop 1 ts)

abbrev pub conversion : Names → Parse Last
conversion names = then (specifiers names) (λ list. then (pointers names) (λ ps. pure (last.Conversion list ps)))

-- what stands behind `operator`
abbrev pub operator_name : Names → Parse Last
operator_name names ts =
    cond (nat_eq (front ts) left_paren) (pair_of right_paren 25 ts)
    (cond (nat_eq (front ts) left_bracket) (pair_of right_bracket 26 ts)
    (cond (nat_eq (operator_number (front ts)) 255) (conversion names ts) (Some (last.Operator (operator_number (front ts)), drop 1 ts))))

abbrev pub some_ident : (List ℕ → Last) → Option (List ℕ) → Parse Last
some_ident make None ts = None
some_ident make (Some name) ts = Some (make name, ts)

-- the identifier of a name has no `::` behind it
abbrev pub last_part : Names → Parse Last
last_part names ts =
    cond (nat_eq (front ts) tilde) (some_ident last.Destructor (ident_at (drop 1 ts)) (drop 2 ts))
    (cond (nat_eq (front ts) operator_word) (operator_name names (drop 1 ts))
    (cond (nat_eq (front (drop 1 ts)) scope) None (some_ident last.Ident (ident_at ts) (drop 1 ts))))

abbrev pub name_of : ℕ → Qualifiers → ℕ → Last → Name
name_of at q last_at part = record { at = at; from_file = q.from_file; scopes = q.names; last_at = last_at; last = part }

-- a name, and the numbers of the classes that qualify it
abbrev pub name : Names → Parse (Name × List ℕ)
name names ts = then (qualifiers names) (λ q us. then (last_part names) (λ part. pure (name_of (place ts) q (place us) part, q.classes)) us) ts
