-- Names, specifiers and operators read step by step are those of the grammar.
use Rattle.std.proofs.Common.{◌≡◌, ℕ, Bool, true, false, cond, List, [], ◌∷◌, ◌++◌, length, drop, Option, Some, None, nat_eq, refl, ◌∙◌, ap}
use Rattle.cf_tokens.specs.declared.token.Token.{Token}
use Rattle.cf_syntax.specs.declared.asked.Asked.{Asked}
use Rattle.cf_syntax.specs.declared.name.Last.TheVariants as last
use Rattle.cf_syntax.specs.declared.name.Path.{Path}
use Rattle.cf_syntax.specs.declared.reading.Qualifiers.{Qualifiers}
use Rattle.cf_syntax.specs.declared.reading.Specifiers.{Specifiers}
use Rattle.cf_syntax.specs.declared.specifier.BasicType.{BasicType}
use Rattle.cf_syntax.specs.declared.specifier.ClassKey.{ClassKey}
use Rattle.cf_syntax.specs.declared.specifier.Pointer.TheVariants as pointer
use Rattle.cf_syntax.specs.declared.specifier.Storage.{Storage}
use Rattle.cf_syntax.specs.declared.specifier.TypeSpecifier.{TypeSpecifier}
use Rattle.cf_syntax.specs.declared.specifier.TypeSpecifier.TheVariants as specifier
use Rattle.cf_syntax.specs.NamesData.{Names}
use Rattle.cf_syntax.specs.Words.{front, place, ident_at, scope, star, ampersand, const_word, tilde, operator_word, left_paren, left_bracket, right_paren, right_bracket}
use Rattle.cf_syntax.specs.Parse.{Parse, pure, with_rest, loop, word}
use Rattle.cf_syntax.specs.Named.{inside, inside_of, kind_at, last_type, type_path, ident_path, const_behind, to_member, one_pointer, pointers, qualifiers, no_names}
use Rattle.cf_syntax.specs.Specified as whole
use Rattle.cf_parse_expr.specs.Named as steps
use Rattle.cf_parse_expr.specs.Specified as parts
use Rattle.cf_parse_expr.proofs.Steps.{with-rest-same, loop-same}

qualifiers-is : (names : Names) (ts : List Token) → steps.qualifiers_at names ts ≡ qualifiers names ts
unfolding steps.qualifiers_at steps.more_qualifiers
qualifiers-is names ts = refl

-- ---- types' names

by-kind : (at : ℕ) (q : Qualifiers) (us : List Token) (name : List ℕ) (k : Option Asked)
    → steps.ended at q us (steps.with_name name k) ≡ last_type at q k (Some name) us
by-kind at q us name None = refl
by-kind at q us name (Some next) = refl

by-ident : (names : Names) (at : ℕ) (q : Qualifiers) (us : List Token) (o : Option (List ℕ))
    → steps.ended at q us (steps.typed_name names q.asked o) ≡ last_type at q (inside_of names q.asked o) o us
by-ident names at q us None = refl
by-ident names at q us (Some name) = by-kind at q us name (inside (kind_at names q.asked name))

pub path-is : (names : Names) (ts : List Token) → steps.path_at names ts ≡ type_path names ts
unfolding steps.path_at steps.typed
path-is names ts = with-rest-same _ _ _ _ (qualifiers-is names ts) (λ q us. by-ident names (place ts) q (drop 1 us) (ident_at us))

pub ident-path-is : (names : Names) (ts : List Token) → steps.ident_path_at names ts ≡ ident_path names ts
unfolding steps.ident_path_at steps.ident_path_from steps.more_before_ident
ident-path-is names ts = refl

-- ---- operators of declarators

by-const : {A : Type 0} (make : Bool → A) (b : Bool) (ts us : List Token)
    → with_rest (cond b (Some (true, us)) (Some (false, ts))) (λ is_const. pure (make is_const)) ≡ cond b (Some (make true, us)) (Some (make false, ts))
by-const make true ts us = refl
by-const make false ts us = refl

const-is : {A : Type 0} (make : Bool → A) (ts : List Token) → with_rest (steps.const_at ts) (λ is_const. pure (make is_const)) ≡ const_behind make ts
unfolding steps.const_at
const-is make ts = by-const make (nat_eq (front ts) const_word) ts (drop 1 ts)

member-is : (names : Names) (ts : List Token) → steps.to_member_at names ts ≡ to_member names ts
unfolding steps.to_member_at
member-is names ts = with-rest-same _ _ _ _ (qualifiers-is names ts)
    (λ q us. ap (cond (no_names q.names) None) (with-rest-same (word star us) (word star us) _ _ refl (λ at vs.
    const-is (λ is_const. pointer.ToMember (place ts) (record { at = place ts; from_file = q.from_file; names = q.names }) is_const) vs)))

pub pointer-is : (names : Names) (ts : List Token) → steps.pointer_at names ts ≡ one_pointer names ts
unfolding steps.pointer_at
pointer-is names ts =
    ap (λ r. cond (nat_eq (front ts) star) r (cond (nat_eq (front ts) ampersand) (Some (pointer.Reference (place ts), drop 1 ts)) (steps.to_member_at names ts)))
    (const-is (λ is_const. pointer.To (place ts) is_const) (drop 1 ts))
    ∙ ap (λ r. cond (nat_eq (front ts) star) (const_behind (λ is_const. pointer.To (place ts) is_const) (drop 1 ts))
    (cond (nat_eq (front ts) ampersand) (Some (pointer.Reference (place ts), drop 1 ts)) r)) (member-is names ts)

pub pointers-is : (names : Names) (ts : List Token) → steps.pointers_at names ts ≡ pointers names ts
unfolding steps.pointers_at steps.pointer_turn
pointers-is names ts = loop-same _ _ (λ before us. ap (λ r. with_rest r (λ p. pure (before ++ p ∷ []))) (pointer-is names us)) (length ts) [] ts

-- ---- specifiers

at-named : (names : Names) (s : Specifiers) (b : Bool) (ts : List Token)
    → with_rest (cond b None (with_rest (steps.path_at names ts) (λ path. pure (specifier.Named path, true)))) (λ w. pure (parts.put s w))
    ≡ cond b None (with_rest (steps.path_at names ts) (λ path. pure (whole.with_type s (specifier.Named path))))
at-named names s true ts = refl
at-named names s false ts = by-path (steps.path_at names ts)
  where
    by-path : (r : Option (Path × List Token))
        → with_rest (with_rest r (λ path. pure (specifier.Named path, true))) (λ w. pure (parts.put s w)) ≡ with_rest r (λ path. pure (whole.with_type s (specifier.Named path)))
    by-path None = refl
    by-path (Some q) = refl

named-is : (names : Names) (s : Specifiers) (ts : List Token)
    → with_rest (parts.named_type names s.has_type ts) (λ w. pure (parts.put s w)) ≡ whole.named_type names s ts
unfolding parts.named_type
named-is names s ts = at-named names s s.has_type ts
    ∙ ap (λ r. cond s.has_type None (with_rest r (λ path. pure (whole.with_type s (specifier.Named path))))) (path-is names ts)

keyed-at : (at : ℕ) (k : ClassKey) (s : Specifiers) (r : Option (Path × List Token))
    → with_rest (with_rest r (λ path. pure (specifier.Elaborated at k path, true))) (λ w. pure (parts.put s w))
    ≡ with_rest r (λ path. pure (whole.with_type s (specifier.Elaborated at k path)))
keyed-at at k s None = refl
keyed-at at k s (Some q) = refl

keyed-is : (names : Names) (s : Specifiers) (o : Option ClassKey) (ts : List Token)
    → with_rest (parts.by_key names s.has_type o ts) (λ w. pure (parts.put s w)) ≡ whole.keyed_type names s o ts
unfolding parts.keyed_type
keyed-is names s None ts = named-is names s ts
keyed-is names s (Some k) ts = keyed-at (place ts) k s (steps.ident_path_at names (drop 1 ts))
    ∙ ap (λ r. with_rest r (λ path. pure (whole.with_type s (specifier.Elaborated (place ts) k path)))) (ident-path-is names (drop 1 ts))

basic-is : (names : Names) (s : Specifiers) (o : Option BasicType) (ts : List Token)
    → with_rest (parts.by_basic names s.has_type o ts) (λ w. pure (parts.put s w)) ≡ whole.basic_type names s o ts
unfolding parts.type_at_front
basic-is names s None ts = keyed-is names s (whole.key_of (front ts)) ts
basic-is names s (Some b) ts = refl

const-or : (names : Names) (s : Specifiers) (b : Bool) (ts : List Token)
    → with_rest (cond b (Some ((specifier.Const (place ts), false), drop 1 ts)) (parts.basic_at_front names s.has_type ts)) (λ w. pure (parts.put s w))
    ≡ cond b (Some (whole.with_word s (specifier.Const (place ts)), drop 1 ts)) (whole.basic_type names s (whole.basic_of (front ts)) ts)
unfolding parts.basic_at_front
const-or names s true ts = refl
const-or names s false ts = basic-is names s (whole.basic_of (front ts)) ts

storage-is : (names : Names) (s : Specifiers) (o : Option Storage) (ts : List Token)
    → with_rest (parts.by_storage names s.has_type o ts) (λ w. pure (parts.put s w)) ≡ whole.storage_word names s o ts
storage-is names s None ts = const-or names s (nat_eq (front ts) const_word) ts
storage-is names s (Some w) ts = refl

pub turn-is : (names : Names) (s : Specifiers) (ts : List Token) → parts.specifier_turn names s ts ≡ whole.one_specifier names s ts
unfolding parts.specifier_turn parts.specifier_at
turn-is names s ts = storage-is names s (whole.storage_of (front ts)) ts

first-put : {A : Type 0} (r : Option ((TypeSpecifier × Bool) × List Token)) (f : Specifiers → Parse A)
    → with_rest r (λ w us. f (parts.put whole.no_specifiers w) us) ≡ with_rest (with_rest r (λ w. pure (parts.put whole.no_specifiers w))) f
first-put None f = refl
first-put (Some q) f = refl

pub specifiers-is : (names : Names) (ts : List Token) → parts.specifiers_at names ts ≡ whole.specifiers names ts
unfolding parts.specifiers_at parts.more_specifiers parts.specifier_turn
specifiers-is names ts =
    first-put (parts.specifier_at names false ts) (λ s us. with_rest (loop (parts.specifier_turn names) (length us) s us) (λ all. pure all.list))
    ∙ with-rest-same _ _ _ _ (turn-is names whole.no_specifiers ts)
    (λ s us. ap (λ r. with_rest r (λ all. pure all.list)) (loop-same (parts.specifier_turn names) (whole.one_specifier names) (turn-is names) (length us) s us))

-- ---- names

conversion-is : (names : Names) (ts : List Token) → parts.conversion_at names ts ≡ whole.conversion names ts
unfolding parts.conversion_at
conversion-is names ts = with-rest-same _ _ _ _ (specifiers-is names ts)
    (λ list us. ap (λ r. with_rest r (λ ps. pure (last.Conversion list ps))) (pointers-is names us))

operator-is : (names : Names) (ts : List Token) → parts.operator_at names ts ≡ whole.operator_name names ts
unfolding parts.operator_at parts.pair_at
operator-is names ts =
    ap (λ r. cond (nat_eq (front ts) left_paren) (whole.pair_of right_paren 25 ts)
    (cond (nat_eq (front ts) left_bracket) (whole.pair_of right_bracket 26 ts)
    (cond (nat_eq (whole.operator_number (front ts)) 255) r (Some (last.Operator (whole.operator_number (front ts)), drop 1 ts)))))
    (conversion-is names ts)

last-is : (names : Names) (ts : List Token) → parts.last_at names ts ≡ whole.last_part names ts
unfolding parts.last_at parts.destructor_at parts.ident_last_at
last-is names ts =
    ap (λ r. cond (nat_eq (front ts) tilde) (whole.some_ident last.Destructor (ident_at (drop 1 ts)) (drop 2 ts))
    (cond (nat_eq (front ts) operator_word) r (cond (nat_eq (front (drop 1 ts)) scope) None (whole.some_ident last.Ident (ident_at ts) (drop 1 ts)))))
    (operator-is names (drop 1 ts))

pub name-is : (names : Names) (ts : List Token) → parts.name_at names ts ≡ whole.name names ts
unfolding parts.name_at
name-is names ts = with-rest-same _ _ _ _ (qualifiers-is names ts)
    (λ q us. ap (λ r. with_rest r (λ part. pure (whole.name_of (place ts) q (place us) part, q.classes))) (last-is names us))
