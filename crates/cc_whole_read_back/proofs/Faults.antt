-- The first fault of a text's unit has one rule and one place.
use Rattle.std.proofs.Common.{◌≡◌, ℕ, ◌+◌, Bool, true, false, List, [], ◌∷◌, ◌++◌, length, Ok, Err, refl, ap, sym, ◌∙◌, subst, arith}
use Rattle.cc_whole_tokens.specs.declared.token.Token.{Token}
use Rattle.cc_whole_tokens.specs.Token.{begins}
use Rattle.cc_whole_tokens.specs.Cut.{is_blank}
use Rattle.cc_whole.specs.declared.unit.CUnit.{CUnit}
use Rattle.cc_whole.specs.Plain.{items_of}
use Rattle.cc_whole.specs.Fault.{Checks, broken}
use Rattle.cc_whole.specs.Valid.{first_fault}
use Rattle.cc_whole_laws.specs.Landmark.{landmark, landmarks_in}
use Rattle.cc_whole_laws.proofs.Counts.{count-append}
use Rattle.cc_whole_refused.specs.Fronts.{Begins, Fronts}
use Rattle.cc_whole_refused.specs.Invalid.{Invalid}
use Rattle.cc_whole_front.proofs.Only.{begun, only, Following, follow}
use Rattle.cc_whole_front.proofs.Places.{no_blank, one_place}
use Rattle.cc_whole_read.specs.Read.{HasTokens}
use Rattle.cc_whole_read.proofs.ReadBack.{line_read, same_line, one_unit}
use Rattle.cc_whole_read.proofs.OneAnswer.{Compared, same, first_ends, second_ends, compared, same_head}

abbrev rule_of : Checks → ℕ
rule_of (Ok u) = 0
rule_of (Err f) = f.rule

abbrev number_of : Checks → ℕ
number_of (Ok u) = 0
number_of (Err f) = f.place

bare_rest : {bs : List ℕ} {t : Token} → Begins bs t → begins is_blank bs ≡ false
bare_rest {bs} {t} b = let f = begun b in no_blank bs (t, f.len) f.is

module _ (text : List ℕ) where
  -- the faults of one unit
  same_fault : (r q m n : ℕ) (x : Invalid text r m) (y : Invalid text q n) → broken {A = Unit {0}} r x.number ≡ broken {A = Unit {0}} q y.number
  same_fault r q m n x y =
      sym x.fault ∙ (ap (λ (u : CUnit). first_fault (items_of u.items)) (one_unit text x.unit y.unit x.is y.is) ∙ y.fault)

  pub one_rule : (r q m n : ℕ) → Invalid text r m → Invalid text q n → r ≡ q
  one_rule r q m n x y = ap rule_of (same_fault r q m n x y)

  one_number : (r q m n : ℕ) (x : Invalid text r m) (y : Invalid text q n) → x.number ≡ y.number
  one_number r q m n x y = ap number_of (same_fault r q m n x y)

  -- among the tokens of the text
  module _ (all : List Token) (h : HasTokens text all) where
    same_body : {r m : ℕ} (x : Invalid text r m) → x.body ≡ h.body
    same_body x =
        (same_line x.unit.version h.version x.body h.body
        (sym (line_read text x.unit.version x.line x.body x.first x.parts) ∙ line_read text h.version h.line h.body h.first h.parts)).1

    following : {r m : ℕ} (x : Invalid text r m) → Following all x.tokens x.rest h.rest
    following x = follow x.fronts all h.rest (subst (λ z. Fronts z all h.rest) (sym (same_body x)) h.fronts) h.stops

    -- the landmark of the one is among the tokens before that of the other, where the one stands before the other
    counts_more : {r m : ℕ} (x : Invalid text r m) (f : Following all x.tokens x.rest h.rest) (others : List Token) (u : Token) (more rest : List Token)
        → others ≡ x.tokens ++ (u ∷ more) → f.more ≡ u ∷ rest → landmarks_in others ≡ x.number → ⊥
    counts_more x f others u more rest e k count =
        let b = begun x.begins in
        let l = only f.fronts h.stops (x.next, b.len) b.is in
        let next : landmark u ≡ 1 = ap landmark (same_head (sym k ∙ l.parts)) ∙ x.is_landmark in
        let total : landmarks_in others ≡ landmarks_in x.tokens + (landmark u + landmarks_in more) = ap landmarks_in e ∙ count-append x.tokens (u ∷ more) in
        let own = x.before in
        absurd (omega (arith, next, total, own, count))

    rests : (r q m n : ℕ) (x : Invalid text r m) (y : Invalid text q n) (f : Following all x.tokens x.rest h.rest) (g : Following all y.tokens y.rest h.rest)
        → Compared x.tokens y.tokens f.more g.more → x.rest ≡ y.rest
    rests r q m n x y f g (same e) =
        one_place y.body x.tokens y.tokens x.rest y.rest (subst (λ z. Fronts z x.tokens x.rest) (same_body x ∙ sym (same_body y)) x.fronts) y.fronts e
        (bare_rest x.begins) (bare_rest y.begins)
    rests r q m n x y f g (first_ends u more rest e k) =
        absurd (counts_more x f y.tokens u more rest e k (y.before ∙ sym (one_number r q m n x y)))
    rests r q m n x y f g (second_ends u more rest e k) =
        absurd (counts_more y g x.tokens u more rest e k (x.before ∙ one_number r q m n x y))

    pub one_at : (r q m n : ℕ) → Invalid text r m → Invalid text q n → m ≡ n
    one_at r q m n x y =
        let f = following x in
        let g = following y in
        let lengths = ap length (rests r q m n x y f g (compared x.tokens y.tokens f.more g.more (sym f.parts ∙ g.parts))) in
        let here = x.place in
        let there = y.place in
        omega (arith, lengths, here, there)
