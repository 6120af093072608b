-- A text is within the limits, or passes one of them; and its tokens are one list.
use Rattle.std.proofs.Common.{◌≡◌, ℕ, ◌+◌, ◌<◌, ◌≤◌, Bool, true, false, List, [], ◌∷◌, ◌++◌, length, Ok, refl, ap, sym, ◌∙◌, subst, arith, append-nil}
use Rattle.std.proofs.lemmas.Bool.{true≢false}
use Rattle.cf_base.specs.declared.limit.Limit.{Limit}
use Rattle.cc_whole_tokens.specs.declared.token.Token.{Token}
use Rattle.cc_whole_refused.specs.Fronts.{Fronts}
use Rattle.cc_whole_front.proofs.Only.{follow, none_behind}
use Rattle.cc_whole_first_line.specs.FirstLine.{first_line}
use Rattle.cc_whole_nesting.specs.Nesting.{passes}
use Rattle.cc_whole_read.specs.Read.{HasTokens, Within, IsNotC, no_line, behind_line, Passes, bytes, nesting}
use Rattle.cc_whole_read.proofs.ReadBack.{line_read, same_line, no_such_line}

module _ (text : List ℕ) where
  line_of : {ts : List Token} (h : HasTokens text ts) → first_line text ≡ Ok (h.version, h.body)
  line_of h = line_read text h.version h.line h.body h.first h.parts

  one_body : {ts us : List Token} (a : HasTokens text ts) (b : HasTokens text us) → a.body ≡ b.body
  one_body a b = (same_line a.version b.version a.body b.body (sym (line_of a) ∙ line_of b)).1

  one_tokens : (ts us : List Token) → HasTokens text ts → HasTokens text us → us ≡ ts
  one_tokens ts us a b =
      let f = follow a.fronts us b.rest (subst (λ z. Fronts z us b.rest) (sym (one_body a b)) b.fronts) b.stops in
      f.parts ∙ (ap (λ m. ts ++ m) (none_behind f.fronts a.stops).0 ∙ append-nil ts)

  pub not_both : (l : Limit) → Passes text l → Within text → ⊥
  not_both _ (bytes long) w = let s = w.small in absurd (omega (arith, long, s))
  not_both _ (nesting s n) w =
      let flat = w.flat in
      let same : n.tokens ≡ flat.tokens = one_tokens flat.tokens n.tokens flat.has n.has in
      true≢false (sym n.nesting ∙ (ap passes same ∙ flat.nesting))

  pub one_limit : (l m : Limit) → Passes text l → Passes text m → l ≡ m
  one_limit _ _ (bytes a) (bytes b) = refl
  one_limit _ _ (bytes a) (nesting s n) = absurd (omega (arith, a, s))
  one_limit _ _ (nesting s n) (bytes a) = absurd (omega (arith, a, s))
  one_limit _ _ (nesting s n) (nesting t m) = refl

  pub no_place : (at : ℕ) (l : Limit) → IsNotC text at → Passes text l → ⊥
  no_place at l (behind_line w n) p = not_both l p w
  no_place at _ (no_line n) (bytes long) = let s = n.small in absurd (omega (arith, long, s))
  no_place at _ (no_line n) (nesting s d) = let h = d.has in no_such_line h.version h.body n.rest (sym (line_of h) ∙ n.stops)
