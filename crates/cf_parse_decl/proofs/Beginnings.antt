-- Where no specifier and no definition can stand, no declaration begins.
use Rattle.std.proofs.Common.{◌≡◌, ℕ, zero, suc, Bool, true, false, cond, List, [], ◌∷◌, length, Option, Some, None, is_some, nat_eq, refl, sym, ◌∙◌, ap}
use Rattle.cf_tokens.specs.declared.token.Token.{Token}
use Rattle.cf_syntax.specs.NamesData.{Names}
use Rattle.cf_syntax.specs.Grammar.{begins}
use Rattle.cf_syntax.specs.Parse.{Parse, pure, with_rest}
use Rattle.cf_syntax.specs.Specified.{one_specifier, no_specifiers}
use Rattle.cf_syntax.specs.Words.{front, place, class_word, struct_word, enum_word}
use Rattle.cf_parse_expr.specs.Specified.{specifier_at, specifier_turn, put}
use Rattle.cf_parse_expr.proofs.Leaves.{turn-is}
use Rattle.cf_syntax.specs.declared.specifier.TypeSpecifier.{TypeSpecifier}
use Rattle.cf_unit.specs.declared.declaration.Declaration.{Declaration}
use Rattle.cf_unit.specs.declared.reading.Given.{Given}
use Rattle.cf_unit.specs.Rule.{by, exactly}
use Rattle.cf_unit.specs.Read.{reading, chosen, taking, row, turn}
use Rattle.cf_unit.specs.Known.{Known, open_scopes}
use Rattle.cf_unit.specs.Enters.{nothing_given, given_all}
use Rattle.cf_unit.specs.Files.{inner, by_tree}
use Rattle.cf_unit.specs.Declarations as whole
use Rattle.cf_parse_decl.specs.Insides.{insides}
use Rattle.cf_parse_decl.specs.Trial.{keys, may_declare}

neither : (a b : Bool) → cond a true b ≡ false → (a ≡ false) × (b ≡ false)
neither true b e = absurd (cc)
neither false b e = (refl, e)

none-of : {A : Type 0} (o : Option A) → is_some o ≡ false → o ≡ None
none-of None e = refl
none-of (Some x) e = absurd (cc)

no-class : (ts : List Token) → nat_eq (front ts) class_word ≡ false → nat_eq (front ts) struct_word ≡ false → whole.begins_class ts ≡ false
no-class ts e f = rw (e, f) refl

no-enumeration : (ts : List Token) → nat_eq (front ts) enum_word ≡ false → whole.begins_enumeration ts ≡ false
no-enumeration ts e = rw e refl

-- a row whose first turn is not there
row-none : {A : Type 0} (step : A → Parse A) (n : ℕ) (a : A) (ts : List Token) → step a ts ≡ None → row step n a ts ≡ Some (a, ts)
row-none step zero a ts e = refl
row-none step (suc n) a ts e = ap (λ o. turn o a ts (row step n)) e

no-specifier : (names : Names) (ts : List Token) → specifier_at names false ts ≡ None → one_specifier names no_specifiers ts ≡ None
unfolding specifier_turn
no-specifier names ts e = sym (turn-is names no_specifiers ts) ∙ ap (λ o. with_rest o (λ w. pure (put no_specifiers w))) e

by-none : {A : Type 0} (b : Bool) (p q : Parse A) (ts : List Token) → b ≡ false → q ts ≡ None → chosen b p q ts ≡ None
by-none b p q ts e f = ap (λ c. chosen c p q ts) e ∙ f

unless-none : {A : Type 0} (b : Bool) (q : Parse A) (ts : List Token) → q ts ≡ None → chosen b (λ us. None) q ts ≡ None
unless-none true q ts e = refl
unless-none false q ts e = e

pub none-rest : {A B : Type 0} (o : Option (A × List Token)) (f : A → Parse B) → o ≡ None → with_rest o f ≡ None
none-rest o f e = ap (λ r. with_rest r f) e

some-rest : {A B : Type 0} (o : Option (A × List Token)) (f : A → Parse B) (a : A) (ts : List Token) → o ≡ Some (a, ts) → f a ts ≡ None → with_rest o f ≡ None
some-rest o f a ts e none = ap (λ r. with_rest r f) e ∙ none

abbrev plain-rest : Given × Known → List TypeSpecifier → Parse (Given × Known)
plain-rest s list ts = Some (given_all s list, ts)

no-given : (n : ℕ) (k : Known) (ts : List Token) → whole.begins_class ts ≡ false → whole.begins_enumeration ts ≡ false
    → one_specifier k.names no_specifiers ts ≡ None → reading (whole.one_given (inner by_tree n) (nothing_given, k)) ts ≡ None
no-given n k ts c e o = by-none (whole.begins_class ts) _ _ ts c (by-none (whole.begins_enumeration ts) _ _ ts e
    (unless-none (is_some (reading (whole.constructor k) ts)) (reading (whole.plain_specifier (inner by_tree n) (nothing_given, k))) ts
    (none-rest (one_specifier k.names no_specifiers ts) (λ one. plain-rest (nothing_given, k) one.list) o)))

-- what stands behind the specifiers of a declaration
abbrev behind-given : ℕ → Known → ℕ → Given × Known → Parse (Declaration × Known)
behind-given n k at s = reading (by (λ _. whole.is_given s.0)
    (whole.declared_by at s.0 (whole.declarators (inner by_tree n) (open_scopes k.names) s.0 s.1)) (exactly (λ _. None)))

no-declaration : (n : ℕ) (k : Known) (ts : List Token) → reading (whole.one_given (inner by_tree n) (nothing_given, k)) ts ≡ None → (insides n).declaration k ts ≡ None
no-declaration n k ts e = some-rest (row (λ b us. taking (reading (whole.one_given (inner by_tree n) b) us) us) (length ts) (nothing_given, k) ts)
    (behind-given n k (place ts)) (nothing_given, k) ts
    (row-none (λ b us. taking (reading (whole.one_given (inner by_tree n) b) us) us) (length ts) (nothing_given, k) ts (ap (λ o. taking o ts) e)) refl

pub cannot-declare : (n : ℕ) (k : Known) (ts : List Token) → may_declare k.names ts ≡ false → (insides n).declaration k ts ≡ None
unfolding may_declare
cannot-declare n k ts e =
    let (no_keys, no_spec) = neither (begins keys ts) (is_some (specifier_at k.names false ts)) e in
    let (c, more) = neither (nat_eq (front ts) class_word) (begins (struct_word ∷ enum_word ∷ []) ts) no_keys in
    let (s, last) = neither (nat_eq (front ts) struct_word) (begins (enum_word ∷ []) ts) more in
    let (m, _) = neither (nat_eq (front ts) enum_word) false last in
    no-declaration n k ts (no-given n k ts (no-class ts c s) (no-enumeration ts m)
    (no-specifier k.names ts (none-of (specifier_at k.names false ts) no_spec)))
