-- A text stops being C at one place.
use Rattle.std.proofs.Common.{◌≡◌, ℕ, false, List, [], ◌∷◌, ◌++◌, length, Result, Err, refl, ap, sym, ◌∙◌, subst, arith, append_assoc}
use Rattle.cc_whole_tokens.specs.declared.token.Token.{Token}
use Rattle.cc_whole_tokens.specs.Token.{begins}
use Rattle.cc_whole_tokens.specs.Cut.{is_blank}
use Rattle.cc_whole.specs.SpellsItems.{SpellsItems}
use Rattle.cc_whole_refused.specs.Fronts.{Fronts}
use Rattle.cc_whole_refused.specs.NotC.{GoesOn, Stops, NotC}
use Rattle.cc_whole_refused.specs.NotC as refused
use Rattle.cc_whole_front.specs.Front.{NoToken, ended, stray}
use Rattle.cc_whole_front.proofs.Only.{begun, only, Following, follow, none_behind}
use Rattle.cc_whole_front.proofs.Places.{no_blank, one_place}
use Rattle.cc_whole_read.specs.Read.{HasTokens, IsNotC, no_line, behind_line}
use Rattle.cc_whole_read.proofs.ReadBack.{line_read, same_line, no_such_line}

-- of two beginnings of one list one goes on where the other ends, or they are one
pub data Compared (ts us ms ns : List Token) : Type 0 where
  same : ts ≡ us → Compared ts us ms ns
  first_ends : (u : Token) (more rest : List Token) → us ≡ ts ++ (u ∷ more) → ms ≡ u ∷ rest → Compared ts us ms ns
  second_ends : (u : Token) (more rest : List Token) → ts ≡ us ++ (u ∷ more) → ns ≡ u ∷ rest → Compared ts us ms ns

pub same_head : {x y : Token} {xs ys : List Token} → x ∷ xs ≡ y ∷ ys → x ≡ y
same_head e = cc

same_tail : {x y : Token} {xs ys : List Token} → x ∷ xs ≡ y ∷ ys → xs ≡ ys
same_tail e = cc

longer : (x : Token) (ts us ms ns : List Token) → Compared ts us ms ns → Compared (x ∷ ts) (x ∷ us) ms ns
longer x ts us ms ns (same e) = same (ap (λ l. x ∷ l) e)
longer x ts us ms ns (first_ends u more rest e f) = first_ends u more rest (ap (λ l. x ∷ l) e) f
longer x ts us ms ns (second_ends u more rest e f) = second_ends u more rest (ap (λ l. x ∷ l) e) f

pub compared : (ts us ms ns : List Token) → ts ++ ms ≡ us ++ ns → Compared ts us ms ns
compared [] [] ms ns e = same refl
compared [] (u ∷ us) ms ns e = first_ends u us (us ++ ns) refl e
compared (t ∷ ts) [] ms ns e = second_ends t ts (ts ++ ms) refl (sym e)
compared (t ∷ ts) (u ∷ us) ms ns e =
    subst (λ x. Compared (t ∷ ts) (x ∷ us) ms ns) (same_head e) (longer t ts us ms ns (compared ts us ms ns (same_tail e)))

-- no text goes on where one stops, with the next token of the text
stopped : (tokens : List Token) {here_on : List ℕ} → Stops tokens here_on → (u : Token) (rest all : List ℕ) (more next : List Token) → Fronts here_on more all → NoToken all
    → more ≡ u ∷ next → GoesOn (tokens ++ u ∷ []) → ⊥
stopped tokens (refused.Stops.token bs t begins never) u rest all more next f none e goes =
    let b = begun begins in
    let l = only f none (t, b.len) b.is in
    never (subst (λ x. GoesOn (tokens ++ x ∷ [])) (same_head (sym e ∙ l.parts)) goes)
stopped tokens (refused.Stops.stray b bs bare never) u rest all more next f none e goes =
    let k = none_behind f (stray b bs bare never) in
    let lost : [] ≡ u ∷ next = sym k.0 ∙ e in
    absurd (cc)
stopped tokens (refused.Stops.ended never) u rest all more next f none e goes =
    let k = none_behind f ended in
    let lost : [] ≡ u ∷ next = sym k.0 ∙ e in
    absurd (cc)

goes_less : (tokens others more : List Token) (u : Token) → others ≡ tokens ++ (u ∷ more) → GoesOn others → GoesOn (tokens ++ u ∷ [])
goes_less tokens others more u e g = record {
  items = g.items;
  more = more ++ g.more;
  spelled = subst (SpellsItems g.items)
      (ap (λ l. l ++ g.more) e ∙ (append_assoc tokens (u ∷ more) g.more ∙ sym (append_assoc tokens (u ∷ []) (more ++ g.more)))) g.spelled;
}

bare_stop : (tokens : List Token) {here_on : List ℕ} → Stops tokens here_on → begins is_blank here_on ≡ false
bare_stop tokens (refused.Stops.token bs t begins never) = let b = begun begins in no_blank bs (t, b.len) b.is
bare_stop tokens (refused.Stops.stray b bs bare never) = bare
bare_stop tokens (refused.Stops.ended never) = refl

module _ (text : List ℕ) (m n : ℕ) where
  -- both behind the same first line, among the same tokens
  module _ (a : NotC text m) (b : NotC text n) (all : List Token) (h : HasTokens text all) where
    same_body : {at : ℕ} (c : NotC text at) → c.body ≡ h.body
    same_body c =
        (same_line c.version h.version c.body h.body
        (sym (line_read text c.version c.line c.body c.first c.parts) ∙ line_read text h.version h.line h.body h.first h.parts)).1

    following : {at : ℕ} (c : NotC text at) → Following all c.tokens c.rest h.rest
    following c = follow c.fronts all h.rest (subst (λ z. Fronts z all h.rest) (sym (same_body c)) h.fronts) h.stops

    one_stop : m ≡ n
    one_stop =
        let f = following a in
        let g = following b in
        by f g (compared a.tokens b.tokens f.more g.more (sym f.parts ∙ g.parts))
      where
        by : (f : Following all a.tokens a.rest h.rest) (g : Following all b.tokens b.rest h.rest) → Compared a.tokens b.tokens f.more g.more → m ≡ n
        by f g (same e) =
            let bodies : a.body ≡ b.body = same_body a ∙ sym (same_body b) in
            let rests : a.rest ≡ b.rest =
            one_place b.body a.tokens b.tokens a.rest b.rest (subst (λ z. Fronts z a.tokens a.rest) bodies a.fronts) b.fronts e (bare_stop a.tokens a.stops) (bare_stop b.tokens b.stops) in
            let l = ap length rests in
            let p = a.place in
            let q = b.place in
            omega (arith, l, p, q)
        by f g (first_ends u more rest e k) =
            absurd (stopped a.tokens a.stops u a.rest h.rest f.more rest f.fronts h.stops k (goes_less a.tokens b.tokens more u e b.goes))
        by f g (second_ends u more rest e k) =
            absurd (stopped b.tokens b.stops u b.rest h.rest g.more rest g.fronts h.stops k (goes_less b.tokens a.tokens more u e a.goes))

  pub one_refusal : IsNotC text m → IsNotC text n → m ≡ n
  one_refusal (no_line a) (no_line b) =
      let same : ◌≡◌ {A = Result (ℕ × List ℕ) (List ℕ)} (Err a.rest) (Err b.rest) = sym a.stops ∙ b.stops in
      let rests : a.rest ≡ b.rest = cc in
      let l = ap length rests in
      let p = a.place in
      let q = b.place in
      omega (arith, l, p, q)
  one_refusal (no_line a) (behind_line w b) =
      absurd (no_such_line b.version b.body a.rest (sym (line_read text b.version b.line b.body b.first b.parts) ∙ a.stops))
  one_refusal (behind_line w a) (no_line b) =
      absurd (no_such_line a.version a.body b.rest (sym (line_read text a.version a.line a.body a.first a.parts) ∙ b.stops))
  one_refusal (behind_line w a) (behind_line v b) = let flat = w.flat in one_stop a b flat.tokens flat.has
