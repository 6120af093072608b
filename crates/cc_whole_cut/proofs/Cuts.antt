-- A text is cut in one way.
use Rattle.std.proofs.Common.{◌≡◌, ℕ, suc, ◌+◌, ◌<◌, ◌≤◌, Bool, true, false, cond, ◌==◌, List, [], ◌∷◌, ◌++◌, length, drop, refl, ap, sym, ◌∙◌, subst, arith, Some, None, ⊎_elim, append_assoc}
use Rattle.std.proofs.lemmas.Bool.{true≢false, or_cases, eqb-true}
use Rattle.std.proofs.lemmas.List.{drop_at, append-nil, length-append}
use Rattle.std.specs.List.{prefix_len}
use Rattle.cc_whole_tokens.specs.declared.token.Token.{Token}
use Rattle.cc_whole_tokens.specs.declared.token.Token.TheVariants.{Text}
use Rattle.cc_whole_tokens.specs.Token.{begins, spelling}
use Rattle.cc_whole_tokens.specs.Cut.{Cut, ended, blank, token, string, is_blank}
use Rattle.cc_whole_cut.specs.Front.{front}
use Rattle.cc_whole_cut.specs.First.{first}
use Rattle.cc_whole_cut.proofs.Runs.{run_stops}
use Rattle.cc_whole_cut.proofs.Firsts.{first_token, first_string, first_is}

blank_none : (b : ℕ) (bs : List ℕ) → is_blank b ≡ true → first (b ∷ bs) ≡ None
unfolding first front
blank_none b bs h = ⊎_elim (λ e. rw (eqb-true b 32 e) refl) (λ e. rw (eqb-true b 10 e) refl) (or_cases (b == 32) (b == 10) h)

empty_none : first [] ≡ None
unfolding first front
empty_none = refl

-- what a cut of these bytes is, where this stands at the front
pub record Leads (bs : List ℕ) (q : Token × ℕ) (us : List Token) : Type 0 where
  pub more : List Token
  pub parts : us ≡ q.0 ∷ more
  pub cut : Cut (drop q.1 bs) more

some_at : {X : Type 0} (P : X → Type 0) (x y : X) → P x → Some x ≡ Some y → P y
some_at P x y p e = let k : x ≡ y = cc in subst P k p

left_string : (xs rest : List ℕ) → drop (length xs + 2) (34 ∷ (xs ++ (34 ∷ rest))) ≡ rest
left_string xs rest =
    let len : length (34 ∷ (xs ++ (34 ∷ []))) ≡ length xs + 2 = let l = length-append xs (34 ∷ []) in omega (arith, l) in
    ap (λ z. drop (length xs + 2) (34 ∷ z)) (sym (append_assoc xs (34 ∷ []) rest)) ∙ drop_at (34 ∷ (xs ++ (34 ∷ []))) rest (length xs + 2) len

leads_token : (t : Token) (rest : List ℕ) (ts : List Token) → Cut rest ts → Leads (spelling t ++ rest) (t, length (spelling t)) (t ∷ ts)
leads_token t rest ts h =
    let left = drop_at (spelling t) rest (length (spelling t)) refl in
    record { more = ts; parts = refl; cut = subst (λ bs. Cut bs ts) (sym left) h }

leads_string : (xs bytes rest : List ℕ) (ts : List Token) → Cut rest ts → Leads (34 ∷ (xs ++ (34 ∷ rest))) (Text bytes, length xs + 2) (Text bytes ∷ ts)
leads_string xs bytes rest ts h = record { more = ts; parts = refl; cut = subst (λ bs. Cut bs ts) (sym (left_string xs rest)) h }

pub only_token : {bs : List ℕ} {us : List Token} → Cut bs us → (q : Token × ℕ) → first bs ≡ Some q → Leads bs q us
only_token ended q e = let k : None ≡ Some q = sym empty_none ∙ e in absurd (cc)
only_token (blank b bs ts is h) q e = let k : None ≡ Some q = sym (blank_none b bs is) ∙ e in absurd (cc)
only_token (token t rest ts is stop h) q e =
    some_at (λ q. Leads (spelling t ++ rest) q (t ∷ ts)) (t, length (spelling t)) q (leads_token t rest ts h) (sym (first_token t rest is stop) ∙ e)
only_token (string xs bytes rest ts is h) q e =
    some_at (λ q. Leads (34 ∷ (xs ++ (34 ∷ rest))) q (Text bytes ∷ ts)) (Text bytes, length xs + 2) q (leads_string xs bytes rest ts h)
    (sym (first_string xs bytes rest is) ∙ e)

pub only_blank : {cs : List ℕ} {us : List Token} → Cut cs us → (b : ℕ) (bs : List ℕ) → cs ≡ b ∷ bs → is_blank b ≡ true → Cut bs us
only_blank ended b bs e is = absurd (cc)
only_blank (blank c cs ts isc h) b bs e is = let k : cs ≡ bs = cc in subst (λ z. Cut z ts) k h
only_blank (token t rest ts ist stop h) b bs e is =
    let k = sym (first_token t rest ist stop) ∙ (ap first e ∙ blank_none b bs is) in absurd (cc)
only_blank (string xs bytes rest ts iss h) b bs e is =
    let k = sym (first_string xs bytes rest iss) ∙ (ap first e ∙ blank_none b bs is) in absurd (cc)

only_empty : {cs : List ℕ} {us : List Token} → Cut cs us → cs ≡ [] → us ≡ []
only_empty ended e = refl
only_empty (blank c cs ts isc h) e = absurd (cc)
only_empty (token t rest ts ist stop h) e = let k = sym (first_token t rest ist stop) ∙ (ap first e ∙ empty_none) in absurd (cc)
only_empty (string xs bytes rest ts is h) e = absurd (cc)

pub no_cut : {bs : List ℕ} {us : List Token} → Cut bs us → first bs ≡ None → begins is_blank bs ≡ false → 0 < length bs → ⊥
no_cut ended e f some = omega arith
no_cut (blank b bs ts is h) e f some = true≢false (sym is ∙ f)
no_cut (token t rest ts ist stop h) e f some = let k = sym (first_token t rest ist stop) ∙ e in absurd (cc)
no_cut (string xs bytes rest ts is h) e f some = let k = sym (first_string xs bytes rest is) ∙ e in absurd (cc)

-- blanks at the front change nothing
abbrev pub without_blanks : List ℕ → List ℕ
without_blanks bs = drop (prefix_len is_blank bs) bs

blanks_by : (b : ℕ) (bs : List ℕ) (ts : List Token) (x : Bool) → is_blank b ≡ x → (Cut (without_blanks bs) ts → Cut bs ts)
    → Cut (drop (cond x (1 + prefix_len is_blank bs) 0) (b ∷ bs)) ts → Cut (b ∷ bs) ts
blanks_by b bs ts true is f h =
    let s : 1 + prefix_len is_blank bs ≡ suc (prefix_len is_blank bs) = omega arith in
    blank b bs ts is (f (subst (λ n. Cut (drop n (b ∷ bs)) ts) s h))
blanks_by b bs ts false is f h = h

pub blanks_before : (bs : List ℕ) (ts : List Token) → Cut (without_blanks bs) ts → Cut bs ts
blanks_before [] ts h = h
blanks_before (b ∷ bs) ts h = blanks_by b bs ts (is_blank b) refl (blanks_before bs ts) h

blanks_off_by : (b : ℕ) (bs : List ℕ) (ts : List Token) (x : Bool) → is_blank b ≡ x → (Cut bs ts → Cut (without_blanks bs) ts)
    → Cut (b ∷ bs) ts → Cut (drop (cond x (1 + prefix_len is_blank bs) 0) (b ∷ bs)) ts
blanks_off_by b bs ts true is f h =
    let s : 1 + prefix_len is_blank bs ≡ suc (prefix_len is_blank bs) = omega arith in
    subst (λ n. Cut (drop n (b ∷ bs)) ts) (sym s) (f (only_blank h b bs refl is))
blanks_off_by b bs ts false is f h = h

pub blanks_off : (bs : List ℕ) (ts : List Token) → Cut bs ts → Cut (without_blanks bs) ts
blanks_off [] ts h = h
blanks_off (b ∷ bs) ts h = blanks_off_by b bs ts (is_blank b) refl (blanks_off bs ts) h

-- two cuts are one
pub one_cut : {bs : List ℕ} {us : List Token} → Cut bs us → (ts : List Token) → Cut bs ts → us ≡ ts
one_cut ended ts h = sym (only_empty h refl)
one_cut (blank b bs us is g) ts h = one_cut g ts (only_blank h b bs refl is)
one_cut (token t rest us is stop g) ts h =
    let l = only_token h (t, length (spelling t)) (first_token t rest is stop) in
    let left = drop_at (spelling t) rest (length (spelling t)) refl in
    let tail : us ≡ l.more = one_cut g l.more (subst (λ z. Cut z l.more) left l.cut) in
    ap (λ x. t ∷ x) tail ∙ sym l.parts
one_cut (string xs bytes rest us is g) ts h =
    let l = only_token h (Text bytes, length xs + 2) (first_string xs bytes rest is) in
    let tail : us ≡ l.more = one_cut g l.more (subst (λ z. Cut z l.more) (left_string xs rest) l.cut) in
    ap (λ x. Text bytes ∷ x) tail ∙ sym l.parts

-- what of a cut is left behind the tokens so far
pub record Left (rest : List ℕ) (out us : List Token) : Type 0 where
  pub more : List Token
  pub parts : us ≡ out ++ more
  pub cut : Cut rest more

-- a part of a text is cut, and no blank stands before the rest
pub record Halfway (text rest : List ℕ) (out : List Token) : Type 0 where
  pub goes_on : (ts : List Token) → Cut rest ts → Cut text (out ++ ts)
  pub only : (us : List Token) → Cut text us → Left rest out us
  pub bare : begins is_blank rest ≡ false

pub at_start : (text : List ℕ) → Halfway text (without_blanks text) []
at_start text = record {
  goes_on = λ ts h. blanks_before text ts h;
  only = λ us h. record { more = us; parts = refl; cut = blanks_off text us h };
  bare = run_stops is_blank text;
}

pub one_more : (text rest : List ℕ) (out : List Token) (q : Token × ℕ) → Halfway text rest out → first rest ≡ Some q
    → Halfway text (without_blanks (drop q.1 rest)) (out ++ q.0 ∷ [])
one_more text rest out q h e = record {
  goes_on = λ ts c. subst (λ z. Cut text z) (sym (append_assoc out (q.0 ∷ []) ts))
      (h.goes_on (q.0 ∷ ts) ((first_is rest q e).cuts ts (blanks_before (drop q.1 rest) ts c)));
  only = λ us c.
      let l = h.only us c in
      let k = only_token l.cut q e in
      record {
        more = k.more;
        parts = l.parts ∙ (ap (λ z. out ++ z) k.parts ∙ sym (append_assoc out (q.0 ∷ []) k.more));
        cut = blanks_off (drop q.1 rest) k.more k.cut;
      };
  bare = run_stops is_blank (drop q.1 rest);
}

pub strays : (text rest : List ℕ) (out : List Token) → Halfway text rest out → 0 < length rest → first rest ≡ None → (us : List Token) → Cut text us → ⊥
strays text rest out h some e us c = let l = h.only us c in no_cut l.cut e h.bare some

pub at_end : (text rest : List ℕ) (out : List Token) → Halfway text rest out → length rest ≤ 0 → Cut text out
at_end text [] out h none = subst (λ z. Cut text z) (append-nil out) (h.goes_on [] ended)
at_end text (b ∷ bs) out h none = absurd (omega arith)
