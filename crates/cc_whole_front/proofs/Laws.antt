-- What the tokens at the front of a text tell.
use Rattle.std.proofs.Common.{◌≡◌, ℕ, suc, ◌+◌, List, [], ◌∷◌, ◌++◌, length, refl, ap, sym, subst}
use Rattle.std.specs.Prelude.{get_or}
use Rattle.cc_whole_tokens.specs.declared.token.Token.{Token}
use Rattle.cc_whole_tokens.specs.Token.{spelling}
use Rattle.cc_whole_tokens.specs.Cut.{Cut}
use Rattle.cc_whole_tokens.specs.Cut as cut
use Rattle.cc_whole_refused.specs.Fronts.{Begins, Fronts}
use Rattle.cc_whole_refused.specs.Fronts as fronts
use Rattle.cc_whole_front.specs.Front.{Placed, here, blank}
use Rattle.cc_whole_front.specs.Front as places

pub placed_fronts : (n : ℕ) {bs : List ℕ} {ts : List Token} {ps rest : List ℕ} → Placed n bs ts ps rest → Fronts bs ts rest
placed_fronts n (here rest) = fronts.Fronts.here rest
placed_fronts n (blank b bs ts ps rest is h) = fronts.Fronts.blank b bs ts rest is (placed_fronts n h)
placed_fronts n (places.Placed.token t at bs ts ps rest is stop e h) = fronts.Fronts.token t bs ts rest is stop (placed_fronts n h)
placed_fronts n (places.Placed.string xs bytes at bs ts ps rest is e h) = fronts.Fronts.string xs bytes bs ts rest is (placed_fronts n h)

-- where nothing is left the text is cut into these tokens
pub fronts_cut : {bs : List ℕ} {ts : List Token} {rest : List ℕ} → Fronts bs ts rest → rest ≡ [] → Cut bs ts
fronts_cut (fronts.Fronts.here rest) e = subst (λ z. Cut z []) (sym e) cut.Cut.ended
fronts_cut (fronts.Fronts.blank b bs ts rest is h) e = cut.Cut.blank b bs ts is (fronts_cut h e)
fronts_cut (fronts.Fronts.token t bs ts rest is stop h) e = cut.Cut.token t bs ts is stop (fronts_cut h e)
fronts_cut (fronts.Fronts.string xs bytes bs ts rest is h) e = cut.Cut.string xs bytes bs ts is (fronts_cut h e)

-- a token of these, behind those before it
pub record Placed_at (n : ℕ) (bs : List ℕ) (before : List Token) (t : Token) (at : ℕ) : Type 0 where
  pub rest : List ℕ
  pub fronts : Fronts bs before rest
  pub begins : Begins rest t
  pub place : at + length rest ≡ n

-- a token with its place, behind a token
behind_token : (n : ℕ) (u : Token) (bs : List ℕ) (before : List Token) (t : Token) (at : ℕ) (all : List ℕ)
    → ((rest : List ℕ) → Fronts bs before rest → Fronts all (u ∷ before) rest) → Placed_at n bs before t at → Placed_at n all (u ∷ before) t at
behind_token n u bs before t at all f h = record { rest = h.rest; fronts = f h.rest h.fronts; begins = h.begins; place = h.place }

same_head : {A : Type 0} {x y : A} {xs ys : List A} → x ∷ xs ≡ y ∷ ys → x ≡ y
same_head e = cc

same_tail : {A : Type 0} {x y : A} {xs ys : List A} → x ∷ xs ≡ y ∷ ys → xs ≡ ys
same_tail e = cc

pub place_of : (n : ℕ) {bs : List ℕ} {ts : List Token} {ps rest : List ℕ} → Placed n bs ts ps rest → (before : List Token) (t : Token) (after : List Token)
    → ts ≡ before ++ (t ∷ after) → Placed_at n bs before t (get_or ps (length before) 0)
place_of n (here rest) [] t after e = absurd (cc)
place_of n (here rest) (u ∷ before) t after e = absurd (cc)
place_of n (blank b bs ts ps rest is h) before t after e =
    let p = place_of n h before t after e in
    record { rest = p.rest; fronts = fronts.Fronts.blank b bs before p.rest is p.fronts; begins = p.begins; place = p.place }
place_of n (places.Placed.token u at bs ts ps rest is stop place h) [] t after e =
    record {
      rest = spelling u ++ bs;
      fronts = fronts.Fronts.here (spelling u ++ bs);
      begins = subst (Begins (spelling u ++ bs)) (same_head e) (fronts.Begins.token u bs is stop);
      place = place;
    }
place_of n (places.Placed.token u at bs ts ps rest is stop place h) (v ∷ before) t after e =
    subst (λ w. Placed_at n (spelling u ++ bs) (w ∷ before) t (get_or (at ∷ ps) (length (v ∷ before)) 0)) (same_head e)
    (behind_token n u bs before t (get_or ps (length before) 0) (spelling u ++ bs) (λ rest f. fronts.Fronts.token u bs before rest is stop f)
    (place_of n h before t after (same_tail e)))
place_of n (places.Placed.string xs bytes at bs ts ps rest is place h) [] t after e =
    record {
      rest = 34 ∷ (xs ++ (34 ∷ bs));
      fronts = fronts.Fronts.here (34 ∷ (xs ++ (34 ∷ bs)));
      begins = subst (Begins (34 ∷ (xs ++ (34 ∷ bs)))) (same_head e) (fronts.Begins.string xs bytes bs is);
      place = place;
    }
place_of n (places.Placed.string xs bytes at bs ts ps rest is place h) (v ∷ before) t after e =
    subst (λ w. Placed_at n (34 ∷ (xs ++ (34 ∷ bs))) (w ∷ before) t (get_or (at ∷ ps) (length (v ∷ before)) 0)) (same_head e)
    (behind_token n _ bs before t (get_or ps (length before) 0) (34 ∷ (xs ++ (34 ∷ bs))) (λ rest f. fronts.Fronts.string xs bytes bs before rest is f)
    (place_of n h before t after (same_tail e)))

-- there are as many places as tokens
pub as_many : (n : ℕ) {bs : List ℕ} {ts : List Token} {ps rest : List ℕ} → Placed n bs ts ps rest → length ps ≡ length ts
as_many n (here rest) = refl
as_many n (blank b bs ts ps rest is h) = as_many n h
as_many n (places.Placed.token t at bs ts ps rest is stop e h) = ap suc (as_many n h)
as_many n (places.Placed.string xs bytes at bs ts ps rest is e h) = ap suc (as_many n h)
