-- Each text has tokens at its front, up to its end or to a byte at which none begins.
use Rattle.std.proofs.Common.{◌≡◌, ℕ, zero, suc, ◌+◌, ◌-◌, ◌<◌, ◌≤◌, Bool, true, false, List, [], ◌∷◌, length, drop, Option, Some, None, refl, sym, ◌∙◌, arith}
use Rattle.std.proofs.lemmas.List.{length-drop}
use Rattle.cc_whole_tokens.specs.declared.token.Token.{Token}
use Rattle.cc_whole_tokens.specs.Cut.{is_blank}
use Rattle.cc_whole_cut.specs.First.{first}
use Rattle.cc_whole_cut.proofs.Firsts.{first_is}
use Rattle.cc_whole_refused.specs.Fronts.{Begins}
use Rattle.cc_whole_front.specs.Front.{Placed, here, blank, NoToken, ended, stray}
use Rattle.cc_whole_front.proofs.Only.{begun}
use Rattle.cc_whole_front.proofs.Turns.{leads}

pub record Tokens (n : ℕ) (bs : List ℕ) : Type 0 where
  pub tokens : List Token
  pub places : List ℕ
  pub rest : List ℕ
  pub placed : Placed n bs tokens places rest
  pub stops : NoToken rest
  pub short : length rest ≤ length bs

-- none begins where none is found
none_begins : (bs : List ℕ) (t : Token) → first bs ≡ None → Begins bs t → ⊥
none_begins bs t e h = let f = begun h in let k = sym e ∙ f.is in absurd (cc)

all_by : (fuel n b : ℕ) (bs : List ℕ) → length (b ∷ bs) ≤ suc fuel → length (b ∷ bs) ≤ n → ((cs : List ℕ) → length cs ≤ fuel → length cs ≤ n → Tokens n cs)
    → (x : Bool) → is_blank b ≡ x → (o : Option (Token × ℕ)) → first (b ∷ bs) ≡ o → Tokens n (b ∷ bs)
all_by fuel n b bs h k again true is o e =
    let r = again bs (omega (arith, h)) (omega (arith, k)) in
    let s = r.short in
    record { tokens = r.tokens; places = r.places; rest = r.rest; placed = blank b bs r.tokens r.places r.rest is r.placed; stops = r.stops; short = omega (arith, s) }
all_by fuel n b bs h k again false is None e = record {
  tokens = [];
  places = [];
  rest = b ∷ bs;
  placed = here (b ∷ bs);
  stops = stray b bs is (λ t begins. none_begins (b ∷ bs) t e begins);
  short = omega arith;
}
all_by fuel n b bs h k again false is (Some q) e =
    let f = first_is (b ∷ bs) q e in
    let some = f.some in
    let l : length (drop q.1 (b ∷ bs)) ≡ length (b ∷ bs) - q.1 = length-drop q.1 (b ∷ bs) in
    let r = again (drop q.1 (b ∷ bs)) (omega (arith, h, l, some)) (omega (arith, k, l)) in
    let s = r.short in
    let at = n - length (b ∷ bs) in
    record {
      tokens = q.0 ∷ r.tokens;
      places = at ∷ r.places;
      rest = r.rest;
      placed = (leads (b ∷ bs) q e).placed n at r.tokens r.places r.rest (omega (arith, k)) r.placed;
      stops = r.stops;
      short = omega (arith, s, l);
    }

pub all_tokens : (fuel n : ℕ) (bs : List ℕ) → length bs ≤ fuel → length bs ≤ n → Tokens n bs
all_tokens fuel n [] h k = record { tokens = []; places = []; rest = []; placed = here []; stops = ended; short = omega arith }
all_tokens zero n (b ∷ bs) h k = absurd (omega (arith, h))
all_tokens (suc fuel) n (b ∷ bs) h k = all_by fuel n b bs h k (λ cs x y. all_tokens fuel n cs x y) (is_blank b) refl (first (b ∷ bs)) refl
