-- The qualifier that is seen ahead is the one that is read.
use Rattle.std.proofs.Common.{◌≡◌, ℕ, Bool, true, false, cond, List, drop, Option, Some, None, nat_eq, is_some, refl, sym, ◌∙◌, ap}
use Rattle.cf_tokens.specs.declared.token.Token.{Token}
use Rattle.cf_syntax.specs.declared.asked.Asked.{Asked}
use Rattle.cf_syntax.specs.declared.reading.Qualifiers.{Qualifiers}
use Rattle.cf_syntax.specs.NamesData.{Names}
use Rattle.cf_syntax.specs.Named.{inside, inside_of, kind_at, grown, qualified, qualifier, before_ident}
use Rattle.cf_syntax.specs.Parse.{with_rest}
use Rattle.cf_syntax.specs.Words.{front, ident_at, scope}
use Rattle.cf_parse_expr.specs.Named.{with_name, typed_name, typed, ahead, ahead_of_ident}

abbrev pub grown_by : Qualifiers → List Token → Option (List ℕ × Asked) → Option (Qualifiers × List Token)
grown_by q us None = None
grown_by q us (Some p) = Some (grown q p.0 p.1, us)

by-kind : (q : Qualifiers) (us : List Token) (name : List ℕ) (k : Option Asked) (b : Bool)
    → qualified k (Some name) b q us ≡ grown_by q us (cond b (with_name name k) None)
by-kind q us name None true = refl
by-kind q us name None false = refl
by-kind q us name (Some next) true = refl
by-kind q us name (Some next) false = refl

by-ident : (names : Names) (q : Qualifiers) (us : List Token) (o : Option (List ℕ)) (b : Bool)
    → qualified (inside_of names q.asked o) o b q us ≡ grown_by q us (cond b (typed_name names q.asked o) None)
by-ident names q us None true = refl
by-ident names q us None false = refl
by-ident names q us (Some name) b = by-kind q us name (inside (kind_at names q.asked name)) b

pub qualifier-is : (names : Names) (q : Qualifiers) (ts : List Token) → qualifier names q ts ≡ grown_by q (drop 2 ts) (ahead names q.asked ts)
unfolding ahead typed
qualifier-is names q ts = by-ident names q (drop 2 ts) (ident_at ts) (nat_eq (front (drop 1 ts)) scope)

pub qualifier-on : (names : Names) (q r : Qualifiers) (name : List ℕ) (next : Asked) (ts us : List Token)
    → Some (name, next) ≡ ahead names q.asked ts → r ≡ grown q name next → us ≡ drop 2 ts → qualifier names q ts ≡ Some (r, us)
qualifier-on names q r name next ts us e grows past =
    qualifier-is names q ts ∙ ap (grown_by q (drop 2 ts)) (sym e) ∙ ap (λ s. Some (s, drop 2 ts)) (sym grows) ∙ ap (λ vs. Some (r, vs)) (sym past)

pub qualifier-none : (names : Names) (q : Qualifiers) (ts : List Token) → None ≡ ahead names q.asked ts → qualifier names q ts ≡ None
qualifier-none names q ts e = qualifier-is names q ts ∙ ap (grown_by q (drop 2 ts)) (sym e)

by-next : (q : Qualifiers) (us : List Token) (o : Option (List ℕ × Asked)) (b : Bool) → is_some (ident_at us) ≡ b
    → with_rest (grown_by q us o) (λ more vs. cond (is_some (ident_at vs)) (Some (more, vs)) None) ≡ grown_by q us (cond b o None)
by-next q us None true e = refl
by-next q us None false e = refl
by-next q us (Some p) true e = ap (λ v. cond v (Some (grown q p.0 p.1, us)) None) e
by-next q us (Some p) false e = ap (λ v. cond v (Some (grown q p.0 p.1, us)) None) e

pub before_ident-is : (names : Names) (q : Qualifiers) (ts : List Token) → before_ident names q ts ≡ grown_by q (drop 2 ts) (ahead_of_ident names q.asked ts)
unfolding ahead_of_ident
before_ident-is names q ts =
    ap (λ r. with_rest r (λ more vs. cond (is_some (ident_at vs)) (Some (more, vs)) None)) (qualifier-is names q ts)
    ∙ by-next q (drop 2 ts) (ahead names q.asked ts) (is_some (ident_at (drop 2 ts))) refl

pub before_ident-on : (names : Names) (q r : Qualifiers) (name : List ℕ) (next : Asked) (ts us : List Token)
    → Some (name, next) ≡ ahead_of_ident names q.asked ts → r ≡ grown q name next → us ≡ drop 2 ts → before_ident names q ts ≡ Some (r, us)
before_ident-on names q r name next ts us e grows past =
    before_ident-is names q ts ∙ ap (grown_by q (drop 2 ts)) (sym e) ∙ ap (λ s. Some (s, drop 2 ts)) (sym grows) ∙ ap (λ vs. Some (r, vs)) (sym past)

pub before_ident-none : (names : Names) (q : Qualifiers) (ts : List Token) → None ≡ ahead_of_ident names q.asked ts → before_ident names q ts ≡ None
before_ident-none names q ts e = before_ident-is names q ts ∙ ap (grown_by q (drop 2 ts)) (sym e)
