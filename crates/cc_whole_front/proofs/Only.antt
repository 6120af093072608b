-- What stands at the front of a text up to a place where no token begins is one list of tokens.
use Rattle.std.proofs.Common.{◌≡◌, ℕ, ◌+◌, Bool, true, false, List, [], ◌∷◌, ◌++◌, length, drop, refl, ap, sym, ◌∙◌, subst, arith, Some, None, ⊎_elim, append_assoc}
use Rattle.std.specs.Prelude.{◌==◌}
use Rattle.std.proofs.lemmas.Bool.{true≢false, or_cases, eqb-true}
use Rattle.std.proofs.lemmas.List.{drop_at, length-append}
use Rattle.cc_whole_tokens.specs.declared.token.Token.{Token}
use Rattle.cc_whole_tokens.specs.declared.token.Token.TheVariants.{Text}
use Rattle.cc_whole_tokens.specs.Token.{spelling}
use Rattle.cc_whole_tokens.specs.Cut.{Cut, is_blank}
use Rattle.cc_whole_tokens.specs.Cut as cut
use Rattle.cc_whole_cut.specs.Front.{front}
use Rattle.cc_whole_cut.specs.First.{first}
use Rattle.cc_whole_cut.proofs.Firsts.{first_token, first_string}
use Rattle.cc_whole_refused.specs.Fronts.{Begins, Fronts, here, blank}
use Rattle.cc_whole_refused.specs.Fronts as fronts
use Rattle.cc_whole_front.specs.Front.{NoToken, ended, stray}
use Rattle.cc_whole_front.proofs.Turns.{leads}

pub blank_none : (b : ℕ) (bs : List ℕ) → is_blank b ≡ true → first (b ∷ bs) ≡ None
unfolding first front
blank_none b bs h = ⊎_elim (λ e. rw (eqb-true b 32 e) refl) (λ e. rw (eqb-true b 10 e) refl) (or_cases (b == 32) (b == 10) h)

empty_none : first [] ≡ None
unfolding first front
empty_none = refl

pub cut_fronts : {bs : List ℕ} {ts : List Token} → Cut bs ts → Fronts bs ts []
cut_fronts cut.Cut.ended = here []
cut_fronts (cut.Cut.blank b bs ts is h) = blank b bs ts [] is (cut_fronts h)
cut_fronts (cut.Cut.token t bs ts is stop h) = fronts.Fronts.token t bs ts [] is stop (cut_fronts h)
cut_fronts (cut.Cut.string xs bytes bs ts is h) = fronts.Fronts.string xs bytes bs ts [] is (cut_fronts h)

-- a token that begins is found
pub record Found (bs : List ℕ) (t : Token) : Type 0 where
  pub len : ℕ
  pub is : first bs ≡ Some (t, len)

pub begun : {bs : List ℕ} {t : Token} → Begins bs t → Found bs t
begun (fronts.Begins.token t bs is stop) = record { len = length (spelling t); is = first_token t bs is stop }
begun (fronts.Begins.string xs bytes bs is) = record { len = length xs + 2; is = first_string xs bytes bs is }

-- these tokens begin with the one that is found
pub record Leading (bs : List ℕ) (q : Token × ℕ) (ts : List Token) (rest : List ℕ) : Type 0 where
  pub more : List Token
  pub parts : ts ≡ q.0 ∷ more
  pub fronts : Fronts (drop q.1 bs) more rest

some_at : {X : Type 0} (P : X → Type 0) (x y : X) → P x → Some x ≡ Some y → P y
some_at P x y p e = let k : x ≡ y = cc in subst P k p

pub left_string : (xs rest : List ℕ) → drop (length xs + 2) (34 ∷ (xs ++ (34 ∷ rest))) ≡ rest
left_string xs rest =
    let len : length (34 ∷ (xs ++ (34 ∷ []))) ≡ length xs + 2 = let l = length-append xs (34 ∷ []) in omega (arith, l) in
    ap (λ z. drop (length xs + 2) (34 ∷ z)) (sym (append_assoc xs (34 ∷ []) rest)) ∙ drop_at (34 ∷ (xs ++ (34 ∷ []))) rest (length xs + 2) len

leading_token : (t : Token) (bs : List ℕ) (ts : List Token) (rest : List ℕ) → Fronts bs ts rest → Leading (spelling t ++ bs) (t, length (spelling t)) (t ∷ ts) rest
leading_token t bs ts rest h =
    record { more = ts; parts = refl; fronts = subst (λ z. Fronts z ts rest) (sym (drop_at (spelling t) bs (length (spelling t)) refl)) h }

leading_string : (xs bytes bs : List ℕ) (ts : List Token) (rest : List ℕ) → Fronts bs ts rest
    → Leading (34 ∷ (xs ++ (34 ∷ bs))) (Text bytes, length xs + 2) (Text bytes ∷ ts) rest
leading_string xs bytes bs ts rest h = record { more = ts; parts = refl; fronts = subst (λ z. Fronts z ts rest) (sym (left_string xs bs)) h }

nothing_found : {rest : List ℕ} → NoToken rest → (q : Token × ℕ) → first rest ≡ Some q → ⊥
nothing_found ended q e = let k : None ≡ Some q = sym empty_none ∙ e in absurd (cc)
nothing_found (stray b bs bare never) q e = never q.0 (leads (b ∷ bs) q e).begins

pub only : {bs : List ℕ} {ts : List Token} {rest : List ℕ} → Fronts bs ts rest → NoToken rest → (q : Token × ℕ) → first bs ≡ Some q → Leading bs q ts rest
only (here rest) none q e = absurd (nothing_found none q e)
only (blank b bs ts rest is h) none q e = let k : None ≡ Some q = sym (blank_none b bs is) ∙ e in absurd (cc)
only (fronts.Fronts.token t bs ts rest is stop h) none q e =
    some_at (λ q. Leading (spelling t ++ bs) q (t ∷ ts) rest) (t, length (spelling t)) q (leading_token t bs ts rest h) (sym (first_token t bs is stop) ∙ e)
only (fronts.Fronts.string xs bytes bs ts rest is h) none q e =
    some_at (λ q. Leading (34 ∷ (xs ++ (34 ∷ bs))) q (Text bytes ∷ ts) rest) (Text bytes, length xs + 2) q (leading_string xs bytes bs ts rest h)
    (sym (first_string xs bytes bs is) ∙ e)

off_blank : {cs : List ℕ} {ts : List Token} {rest : List ℕ} → Fronts cs ts rest → NoToken rest → (b : ℕ) (bs : List ℕ) → cs ≡ b ∷ bs → is_blank b ≡ true → Fronts bs ts rest
off_blank (here rest) none b bs e is = absurd (bare_rest none b bs e is)
  where
    bare_rest : {rest : List ℕ} → NoToken rest → (b : ℕ) (bs : List ℕ) → rest ≡ b ∷ bs → is_blank b ≡ true → ⊥
    bare_rest ended b bs e is = absurd (cc)
    bare_rest (stray c cs bare never) b bs e is = let k : c ≡ b = cc in true≢false (sym is ∙ (ap is_blank (sym k) ∙ bare))
off_blank (blank c cs ts rest isc h) none b bs e is = let k : cs ≡ bs = cc in subst (λ z. Fronts z ts rest) k h
off_blank (fronts.Fronts.token t cs ts rest ist stop h) none b bs e is =
    let k = sym (first_token t cs ist stop) ∙ (ap first e ∙ blank_none b bs is) in absurd (cc)
off_blank (fronts.Fronts.string xs bytes cs ts rest ist h) none b bs e is =
    let k = sym (first_string xs bytes cs ist) ∙ (ap first e ∙ blank_none b bs is) in absurd (cc)

-- what stands behind some of the tokens
pub record Following (ts us : List Token) (here_on rest : List ℕ) : Type 0 where
  pub more : List Token
  pub parts : ts ≡ us ++ more
  pub fronts : Fronts here_on more rest

one_more : (u : Token) (ts us more : List Token) (here_on rest : List ℕ) → ts ≡ u ∷ more → Following more us here_on rest → Following ts (u ∷ us) here_on rest
one_more u ts us more here_on rest e f = record { more = f.more; parts = e ∙ ap (λ l. u ∷ l) f.parts; fronts = f.fronts }

pub follow : {bs : List ℕ} {us : List Token} {here_on : List ℕ} → Fronts bs us here_on → (ts : List Token) (rest : List ℕ) → Fronts bs ts rest → NoToken rest
    → Following ts us here_on rest
follow (here here_on) ts rest h none = record { more = ts; parts = refl; fronts = h }
follow (blank b bs us here_on is f) ts rest h none = follow f ts rest (off_blank h none b bs refl is) none
follow (fronts.Fronts.token t bs us here_on is stop f) ts rest h none =
    let l = only h none (t, length (spelling t)) (first_token t bs is stop) in
    let left = drop_at (spelling t) bs (length (spelling t)) refl in
    one_more t ts us l.more here_on rest l.parts (follow f l.more rest (subst (λ z. Fronts z l.more rest) left l.fronts) none)
follow (fronts.Fronts.string xs bytes bs us here_on is f) ts rest h none =
    let l = only h none (Text bytes, length xs + 2) (first_string xs bytes bs is) in
    one_more (Text bytes) ts us l.more here_on rest l.parts (follow f l.more rest (subst (λ z. Fronts z l.more rest) (left_string xs bs) l.fronts) none)

-- nothing stands behind the end, and nothing but the rest where no token begins
pub none_behind : {bs : List ℕ} {ts : List Token} {rest : List ℕ} → Fronts bs ts rest → NoToken bs → (ts ≡ []) × (bs ≡ rest)
none_behind (here rest) none = (refl, refl)
none_behind (blank b bs ts rest is h) (stray _ _ bare never) = absurd (true≢false (sym is ∙ bare))
none_behind (fronts.Fronts.token t bs ts rest is stop h) none =
    absurd (nothing_found none (t, length (spelling t)) (first_token t bs is stop))
none_behind (fronts.Fronts.string xs bytes bs ts rest is h) none =
    absurd (nothing_found none (Text bytes, length xs + 2) (first_string xs bytes bs is))
