-- Lists that grow by one item after another.
use Rattle.std.proofs.Common.{◌≡◌, ℕ, suc, ◌+◌, ◌<◌, List, [], ◌∷◌, ◌++◌, length, map, drop, get_or, sym, ap, ◌∙◌, arith, append_assoc}
use Rattle.std.proofs.lemmas.List.{map-append}
use Rattle.std.specs.Prelude.{pos}
use Rattle.cc_whole.specs.declared.expression.CExpression.{CExpression}
use Rattle.cc_whole.specs.Plain.{Expression, Statement, expression_of, load, named}
use Rattle.cf_base.specs.Integers.{convert}
use Rattle.cf_base.specs.declared.kind.Kind.{Kind}
use Rattle.cf_lower.specs.Expressions.{constant_of}
use Rattle.cf_lower.specs.Statements.{behind, passed, put, put_bytes}
use Rattle.cf_lower.specs.Written.{local_name}
use Rattle.cf_lower_held.proofs.Forgotten.{drop_item}
use Rattle.cf_lower_layout.specs.Sorts.{number}

-- the bytes of a literal, one more
pub bytes_more : (k : Kind) (p there held : Expression) (all : List ℕ) (i b n m : ℕ) (w v whole : List Statement) → i < length all → b ≡ get_or all i b
    → w ++ put_bytes k p n (drop i all) ≡ whole → there ≡ behind p n → held ≡ constant_of (convert k (pos b)) → v ≡ w ++ put (number k) there held ∷ []
    → m ≡ n + 1 → v ++ put_bytes k p m (drop (i + 1) all) ≡ whole
bytes_more k p there held all i b n m w v whole within is so_far place value pushed next =
    let step : m ≡ suc n = omega (arith, next) in
    ap (λ n. v ++ put_bytes k p n (drop (i + 1) all)) step ∙ ap (λ l. l ++ put_bytes k p (suc n) (drop (i + 1) all)) pushed
    ∙ append_assoc w (put (number k) there held ∷ []) (put_bytes k p (suc n) (drop (i + 1) all))
    ∙ ap (λ e. w ++ put (number k) e held ∷ put_bytes k p (suc n) (drop (i + 1) all)) place
    ∙ ap (λ e. w ++ put (number k) (behind p n) e ∷ put_bytes k p (suc n) (drop (i + 1) all)) value
    ∙ sym (ap (λ l. w ++ put_bytes k p n l) (drop_item all i b within is)) ∙ so_far

-- the arguments of a call, one more
pub passed_more : (all : List ℕ) (i l : ℕ) (e : CExpression) (made more : List CExpression) (whole : List Expression) → i < length all → l ≡ get_or all i l
    → map expression_of made ++ passed (drop i all) ≡ whole → expression_of e ≡ load (named (local_name l)) → more ≡ made ++ e ∷ []
    → map expression_of more ++ passed (drop (i + 1) all) ≡ whole
passed_more all i l e made more whole within is so_far value pushed =
    let rest = passed (drop (i + 1) all) in
    ap (λ x. map expression_of x ++ rest) pushed ∙ ap (λ x. x ++ rest) (map-append expression_of made (e ∷ [])) ∙ append_assoc (map expression_of made) (expression_of e ∷ []) rest
    ∙ ap (λ x. map expression_of made ++ x ∷ rest) value ∙ sym (ap (λ x. map expression_of made ++ passed x) (drop_item all i l within is)) ∙ so_far
