-- A name that ends in an identifier: what stands behind it stands behind that identifier among the tokens.
use Rattle.std.proofs.Common.{◌≡◌, ℕ, zero, suc, ◌+◌, ◌-◌, ◌<◌, Bool, true, false, cond, List, [], ◌∷◌, length, drop, Option, Some, None, nat_eq, refl, sym, ◌∙◌, ap, arith, drop-drop, length-drop}
use Rattle.cf_tokens.specs.declared.token.Token.{Token}
use Rattle.cf_syntax.specs.declared.asked.Asked.{Asked}
use Rattle.cf_syntax.specs.declared.name.Last.{Last}
use Rattle.cf_syntax.specs.declared.name.Last.TheVariants as last
use Rattle.cf_syntax.specs.declared.name.Name.{Name}
use Rattle.cf_syntax.specs.declared.reading.Qualifiers.{Qualifiers}
use Rattle.cf_syntax.specs.declared.specifier.Pointer.{Pointer}
use Rattle.cf_syntax.specs.declared.specifier.TypeSpecifier.{TypeSpecifier}
use Rattle.cf_syntax.specs.NamesData.{Names}
use Rattle.cf_syntax.specs.Named.{qualified, qualifier, qualifiers, unqualified, type_at, pointers}
use Rattle.cf_syntax.specs.Parse.{pure, with_rest, turn, loop, word}
use Rattle.cf_syntax.specs.Specified.{specifiers, name, name_of, last_part, operator_name, operator_number, pair_of, conversion, some_ident}
use Rattle.cf_syntax.specs.Words.{front, place, ident_at, scope, tilde, operator_word, left_paren, left_bracket, right_paren, right_bracket}
use Rattle.cf_syntax.proofs.Under.{name-strict}
use Rattle.cf_parse_expr.specs.Leaves.{a_name}
use Rattle.cf_parse_simple.specs.Constructors.{from_last}

-- ---- qualifiers

abbrev Later : {A : Type 0} → List Token → Option (A × List Token) → Type 0
Later ts None = Unit {0}
Later ts (Some q) = (k : ℕ) × (q.1 ≡ drop k ts)

later-qualified : (names : Names) (o : Option Asked) (i : Option (List ℕ)) (b : Bool) (q : Qualifiers) (ts : List Token) → Later ts (qualified o i b q (drop 2 ts))
later-qualified names None i b q ts = tt
later-qualified names (Some a) None b q ts = tt
later-qualified names (Some a) (Some n) false q ts = tt
later-qualified names (Some a) (Some n) true q ts = (2, refl)

later-loop : (names : Names) (n : ℕ) (q : Qualifiers) (ts : List Token) → Later ts (loop (qualifier names) n q ts)
later-loop names zero q ts = (0, refl)
later-loop names (suc n) q ts = by-turn (qualifier names q ts) (later-qualified names (type_at names q.asked ts) (ident_at ts) (nat_eq (front (drop 1 ts)) scope) q ts)
    (λ r us. later-loop names n r us)
  where
    further : (us : List Token) (k : ℕ) → us ≡ drop k ts → (o : Option (Qualifiers × List Token)) → Later us o → Later ts o
    further us k e None l = tt
    further us k e (Some q) l = (k + l.0, l.1 ∙ ap (drop l.0) e ∙ drop-drop l.0 k ts)

    by-turn : (o : Option (Qualifiers × List Token)) → Later ts o → ((r : Qualifiers) (us : List Token) → Later us (loop (qualifier names) n r us))
        → Later ts (turn o q ts (loop (qualifier names) n))
    by-turn None l more = (0, refl)
    by-turn (Some z) l more = further z.1 l.0 l.1 (loop (qualifier names) n z.0 z.1) (more z.0 z.1)

later-cond : (b : Bool) (x y : Option (Qualifiers × List Token)) (ts : List Token) → Later ts x → Later ts y → Later ts (cond b x y)
later-cond true x y ts l m = l
later-cond false x y ts l m = m

later-drop : (ts : List Token) (o : Option (Qualifiers × List Token)) → Later (drop 1 ts) o → Later ts o
later-drop ts None l = tt
later-drop ts (Some q) l = (1 + l.0, l.1 ∙ drop-drop l.0 1 ts)

later-qualifiers : (names : Names) (ts : List Token) → Later ts (qualifiers names ts)
later-qualifiers names ts = later-cond (nat_eq (front ts) scope) _ _ ts
    (later-drop ts _ (later-loop names (length (drop 1 ts)) (unqualified true) (drop 1 ts))) (later-loop names (length ts) (unqualified false) ts)

-- ---- the last part of a name

abbrev Ended : List Token → Last → List Token → Type 0
Ended ts (last.Ident n) rest = (ident_at ts ≡ Some n) × (rest ≡ drop 1 ts)
Ended ts (last.Destructor n) rest = Unit {0}
Ended ts (last.Operator n) rest = Unit {0}
Ended ts (last.Conversion list ps) rest = Unit {0}

abbrev Ends : List Token → Option (Last × List Token) → Type 0
Ends ts None = Unit {0}
Ends ts (Some q) = Ended ts q.0 q.1

ends-cond : (b : Bool) (x y : Option (Last × List Token)) (ts : List Token) → Ends ts x → Ends ts y → Ends ts (cond b x y)
ends-cond true x y ts l m = l
ends-cond false x y ts l m = m

ends-destructor : (o : Option (List ℕ)) (ts us : List Token) → Ends ts (some_ident last.Destructor o us)
ends-destructor None ts us = tt
ends-destructor (Some n) ts us = tt

ends-pair : (close number : ℕ) (ts us : List Token) → Ends ts (pair_of close number us)
ends-pair close number ts us = by-word (word close (drop 1 us))
  where
    by-word : (o : Option (ℕ × List Token)) → Ends ts (with_rest o (λ _. pure (last.Operator number)))
    by-word None = tt
    by-word (Some q) = tt

ends-conversion : (names : Names) (ts us : List Token) → Ends ts (conversion names us)
ends-conversion names ts us = by-list (specifiers names us)
  where
    by-pointers : (list : List TypeSpecifier) (o : Option (List Pointer × List Token)) → Ends ts (with_rest o (λ ps. pure (last.Conversion list ps)))
    by-pointers list None = tt
    by-pointers list (Some q) = tt

    by-list : (o : Option (List TypeSpecifier × List Token)) → Ends ts (with_rest o (λ list vs. with_rest (pointers names vs) (λ ps. pure (last.Conversion list ps))))
    by-list None = tt
    by-list (Some q) = by-pointers q.0 (pointers names q.1)

ends-operator : (names : Names) (ts us : List Token) → Ends ts (operator_name names us)
ends-operator names ts us = ends-cond (nat_eq (front us) left_paren) _ _ ts (ends-pair right_paren 25 ts us)
    (ends-cond (nat_eq (front us) left_bracket) _ _ ts (ends-pair right_bracket 26 ts us)
    (ends-cond (nat_eq (operator_number (front us)) 255) _ _ ts (ends-conversion names ts us) tt))

ends-ident : (ts : List Token) (o : Option (List ℕ)) → ident_at ts ≡ o → Ends ts (some_ident last.Ident o (drop 1 ts))
ends-ident ts None e = tt
ends-ident ts (Some n) e = (e, refl)

ends-last : (names : Names) (ts : List Token) → Ends ts (last_part names ts)
ends-last names ts = ends-cond (nat_eq (front ts) tilde) _ _ ts (ends-destructor (ident_at (drop 1 ts)) ts (drop 2 ts))
    (ends-cond (nat_eq (front ts) operator_word) _ _ ts (ends-operator names ts (drop 1 ts))
    (ends-cond (nat_eq (front (drop 1 ts)) scope) _ _ ts tt (ends-ident ts (ident_at ts) refl)))

-- ---- names

-- what stands behind an identifier among the tokens
pub record Behind (ts : List Token) (n : List ℕ) (rest : List Token) : Type 0 where
  pub ident : ident_at (from_last ts rest) ≡ Some n
  pub after : drop 1 (from_last ts rest) ≡ rest

not-empty : (ts : List Token) (n : List ℕ) → ident_at ts ≡ Some n → length ts ≡ suc (length (drop 1 ts))
not-empty [] n e = absurd (cc)
not-empty (t ∷ ts) n e = refl

behind-at : (ts : List Token) (k : ℕ) (n : List ℕ) (rest : List Token) → ident_at (drop k ts) ≡ Some n → rest ≡ drop 1 (drop k ts) → Behind ts n rest
behind-at ts k n rest e r =
    let some = not-empty (drop k ts) n e in
    let left = length-drop k ts in
    let here : length ts - (length (drop 1 (drop k ts)) + 1) ≡ k = omega (arith, some, left) in
    let from : from_last ts rest ≡ drop k ts = ap (λ us. drop (length ts - (length us + 1)) ts) r ∙ ap (λ m. drop m ts) here in
    record { ident = ap ident_at from ∙ e; after = ap (drop 1) from ∙ sym r }

abbrev pub LastBehind : List Token → Last → List Token → Type 0
LastBehind ts (last.Ident n) rest = Behind ts n rest
LastBehind ts (last.Destructor n) rest = Unit {0}
LastBehind ts (last.Operator n) rest = Unit {0}
LastBehind ts (last.Conversion list ps) rest = Unit {0}

abbrev pub NameBehind : List Token → Option ((Name × List ℕ) × List Token) → Type 0
NameBehind ts None = Unit {0}
NameBehind ts (Some q) = LastBehind ts q.0.0.last q.1

last-behind : (ts us : List Token) (k : ℕ) → us ≡ drop k ts → (part : Last) (rest : List Token) → Ended us part rest → LastBehind ts part rest
last-behind ts us k e (last.Ident n) rest l = behind-at ts k n rest (ap ident_at (sym e) ∙ l.0) (l.1 ∙ ap (drop 1) e)
last-behind ts us k e (last.Destructor n) rest l = tt
last-behind ts us k e (last.Operator n) rest l = tt
last-behind ts us k e (last.Conversion list ps) rest l = tt

pub name-behind : (names : Names) (ts : List Token) → NameBehind ts (name names ts)
name-behind names ts = by-qualifiers (qualifiers names ts) (later-qualifiers names ts)
  where
    by-last : (q : Qualifiers) (us : List Token) (k : ℕ) → us ≡ drop k ts → (o : Option (Last × List Token)) → Ends us o
        → NameBehind ts (with_rest o (λ part. pure (name_of (place ts) q (place us) part, q.classes)))
    by-last q us k e None l = tt
    by-last q us k e (Some z) l = last-behind ts us k e z.0 z.1 l

    by-qualifiers : (o : Option (Qualifiers × List Token)) → Later ts o
        → NameBehind ts (with_rest o (λ q us. with_rest (last_part names us) (λ part. pure (name_of (place ts) q (place us) part, q.classes))))
    by-qualifiers None l = tt
    by-qualifiers (Some z) l = by-last z.0 z.1 l.0 l.1 (last_part names z.1) (ends-last names z.1)

-- a name has a token at least
pub name_shorter : (names : Names) (ts : List Token) (x : Name × List ℕ) (rest : List Token) → a_name names ts ≡ Some (x, rest) → length rest < length ts
unfolding a_name
name_shorter names ts x rest e = name-strict names ts x rest e
