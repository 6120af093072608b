-- Where so many tokens of a text end, and the next one begins, is one place.
use Rattle.std.proofs.Common.{◌≡◌, ℕ, zero, suc, ◌+◌, Bool, true, false, cond, List, [], ◌∷◌, ◌++◌, length, drop, refl, ap, sym, ◌∙◌, subst, arith, Option, Some, None}
use Rattle.std.proofs.lemmas.Bool.{true≢false}
use Rattle.std.proofs.lemmas.List.{drop_at}
use Rattle.std.specs.List.{prefix_len}
use Rattle.cc_whole_tokens.specs.declared.token.Token.{Token}
use Rattle.cc_whole_tokens.specs.declared.token.Token.TheVariants.{Text}
use Rattle.cc_whole_tokens.specs.Token.{begins, spelling}
use Rattle.cc_whole_tokens.specs.Cut.{is_blank}
use Rattle.cc_whole_cut.specs.First.{first}
use Rattle.cc_whole_cut.proofs.Firsts.{first_token, first_string}
use Rattle.cc_whole_refused.specs.Fronts.{Fronts, here, blank}
use Rattle.cc_whole_refused.specs.Fronts as fronts
use Rattle.cc_whole_front.proofs.Only.{blank_none, left_string}

abbrev bare : List ℕ → List ℕ
bare bs = drop (prefix_len is_blank bs) bs

bare_itself : (bs : List ℕ) → begins is_blank bs ≡ false → bare bs ≡ bs
bare_itself [] h = refl
bare_itself (b ∷ bs) h = ap (λ t. drop (cond t (1 + prefix_len is_blank bs) 0) (b ∷ bs)) h

bare_behind : (b : ℕ) (bs : List ℕ) → is_blank b ≡ true → bare (b ∷ bs) ≡ bare bs
bare_behind b bs h =
    let s : 1 + prefix_len is_blank bs ≡ suc (prefix_len is_blank bs) = omega arith in
    ap (λ t. drop (cond t (1 + prefix_len is_blank bs) 0) (b ∷ bs)) h ∙ ap (λ n. drop n (b ∷ bs)) s

-- behind so many tokens, and behind the blanks there
abbrev by_first : Option (Token × ℕ) → List ℕ → (List ℕ → List ℕ) → List ℕ
by_first None bs next = bs
by_first (Some q) bs next = next (drop q.1 bs)

abbrev behind : ℕ → List ℕ → List ℕ
behind zero bs = bare bs
behind (suc n) bs = by_first (first (bare bs)) (bare bs) (behind n)

behind_blank : (n b : ℕ) (bs : List ℕ) → is_blank b ≡ true → behind n (b ∷ bs) ≡ behind n bs
behind_blank zero b bs h = bare_behind b bs h
behind_blank (suc n) b bs h = ap (λ z. by_first (first z) z (behind n)) (bare_behind b bs h)

-- a token begins with no blank
pub no_blank : (bs : List ℕ) (q : Token × ℕ) → first bs ≡ Some q → begins is_blank bs ≡ false
no_blank [] q e = refl
no_blank (b ∷ bs) q e = go (is_blank b) refl
  where
    go : (t : Bool) → is_blank b ≡ t → is_blank b ≡ false
    go false h = h
    go true h = let k : None ≡ Some q = sym (blank_none b bs h) ∙ e in absurd (cc)

behind_token : (n : ℕ) (bs : List ℕ) (q : Token × ℕ) → first bs ≡ Some q → behind (suc n) bs ≡ behind n (drop q.1 bs)
behind_token n bs q e =
    ap (λ z. by_first (first z) z (behind n)) (bare_itself bs (no_blank bs q e)) ∙ ap (λ o. by_first o bs (behind n)) e

place_is : {bs : List ℕ} {ts : List Token} {rest : List ℕ} → Fronts bs ts rest → begins is_blank rest ≡ false → rest ≡ behind (length ts) bs
place_is (here rest) stop = sym (bare_itself rest stop)
place_is (blank b bs ts rest is h) stop = place_is h stop ∙ sym (behind_blank (length ts) b bs is)
place_is (fronts.Fronts.token t bs ts rest is ends h) stop =
    place_is h stop
    ∙ (ap (behind (length ts)) (sym (drop_at (spelling t) bs (length (spelling t)) refl))
    ∙ sym (behind_token (length ts) (spelling t ++ bs) (t, length (spelling t)) (first_token t bs is ends)))
place_is (fronts.Fronts.string xs bytes bs ts rest is h) stop =
    place_is h stop
    ∙ (ap (behind (length ts)) (sym (left_string xs bs))
    ∙ sym (behind_token (length ts) (34 ∷ (xs ++ (34 ∷ bs))) (Text bytes, length xs + 2) (first_string xs bytes bs is)))

pub one_place : (bs : List ℕ) (ts us : List Token) (these those : List ℕ) → Fronts bs ts these → Fronts bs us those → ts ≡ us → begins is_blank these ≡ false
    → begins is_blank those ≡ false → these ≡ those
one_place bs ts us these those f g same a b = place_is f a ∙ (ap (λ l. behind (length l) bs) same ∙ sym (place_is g b))
