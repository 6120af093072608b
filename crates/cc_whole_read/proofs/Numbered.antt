-- The landmark that is found by its number.
use Rattle.std.proofs.Common.{◌≡◌, ℕ, ◌+◌, ◌-◌, ◌<◌, ◌≤◌, Bool, true, false, List, [], ◌∷◌, ◌++◌, length, Some, None, refl, ap, sym, arith}
use Rattle.std.specs.Prelude.{◌==◌, if◌then◌else◌}
use Rattle.std.proofs.lemmas.Bool.{eqb-true}
use Rattle.std.proofs.lemmas.Bool.Decides.{nat_tests}
use Rattle.cc_whole_tokens.specs.declared.mark.Mark.{Mark}
use Rattle.cc_whole_tokens.specs.declared.mark.Mark.TheVariants as mark
use Rattle.cc_whole_tokens.specs.declared.token.Token.{Token}
use Rattle.cc_whole_tokens.specs.declared.token.Token.TheVariants as token
use Rattle.cc_whole_laws.specs.Landmark.{word_mark, landmark, landmarks_in}
use Rattle.cc_whole_read.specs.Landmarks.{is_one, Nth, landmark_from}

word_small : (m : Mark) → word_mark m ≤ 1
word_small mark.Break = omega arith
word_small m = omega arith

landmark_small : (t : Token) → landmark t ≤ 1
landmark_small (token.Mark m) = word_small m
landmark_small token.Dash = omega arith
landmark_small (token.Name name) = omega arith
landmark_small (token.Signed digits) = omega arith
landmark_small (token.Unsigned digits) = omega arith
landmark_small (token.Text bytes) = omega arith
landmark_small token.Shared = omega arith

no_landmark : (t : Token) → is_one (landmark t) ≡ false → landmark t ≡ 0
no_landmark t e = let small = landmark_small t in grind (arith, nat_tests)

-- the one that is found from the token of an index on
record From (ts : List Token) (index left found : ℕ) : Type 0 where
  before : List Token
  token : Token
  after : List Token
  parts : ts ≡ before ++ (token ∷ after)
  place : found ≡ index + length before
  is_landmark : landmark token ≡ 1
  count : landmarks_in before ≡ left

here : (t : Token) (ts : List Token) (index left found : ℕ) → landmark t ≡ 1 → left ≡ 0 → Some index ≡ Some found → From (t ∷ ts) index left found
here t ts index left found is none e =
    let same : index ≡ found = cc in
    record { before = []; token = t; after = ts; parts = refl; place = omega (arith, same); is_landmark = is; count = sym none }

behind : (t : Token) (ts : List Token) (index left found less : ℕ) → landmark t + less ≡ left → From ts (index + 1) less found → From (t ∷ ts) index left found
behind t ts index left found less e f =
    let p = f.place in
    let c = f.count in
    record {
      before = t ∷ f.before;
      token = f.token;
      after = f.after;
      parts = ap (λ l. t ∷ l) f.parts;
      place = omega (arith, p);
      is_landmark = f.is_landmark;
      count = omega (arith, c, e);
    }

found_from : (ts : List Token) (index left found : ℕ) → landmark_from ts index left ≡ Some found → From ts index left found
found_from [] index left found e = absurd (cc)
found_from (t ∷ ts) index left found e = go (is_one (landmark t)) refl (left == 0) refl (found_from ts (index + 1) (left - 1) found) (found_from ts (index + 1) left found) e
  where
    go : (b : Bool) → is_one (landmark t) ≡ b → (z : Bool) → (left == 0) ≡ z → (landmark_from ts (index + 1) (left - 1) ≡ Some found → From ts (index + 1) (left - 1) found)
        → (landmark_from ts (index + 1) left ≡ Some found → From ts (index + 1) left found)
        → (if b then (if z then Some index else landmark_from ts (index + 1) (left - 1)) else landmark_from ts (index + 1) left) ≡ Some found → From (t ∷ ts) index left found
    go true is true none one other f = here t ts index left found (eqb-true (landmark t) 1 is) (eqb-true left 0 none) f
    go true is false some one other f =
        let more : 0 < left = grind (arith, nat_tests) in
        let at = eqb-true (landmark t) 1 is in
        behind t ts index left found (left - 1) (omega (arith, more, at)) (one f)
    go false is z none one other f = let at = no_landmark t is in behind t ts index left found left (omega (arith, at)) (other f)

pub found : (ts : List Token) (number index : ℕ) → landmark_from ts 0 number ≡ Some index → Nth ts number index
found ts number index e =
    let f = found_from ts 0 number index e in
    let p = f.place in
    record { before = f.before; token = f.token; after = f.after; parts = f.parts; place = omega (arith, p); is_landmark = f.is_landmark; count = f.count }

pub too_few : (ts : List Token) (index left : ℕ) → landmark_from ts index left ≡ None → landmarks_in ts ≤ left
too_few [] index left e = omega arith
too_few (t ∷ ts) index left e = go (is_one (landmark t)) refl (left == 0) refl (too_few ts (index + 1) (left - 1)) (too_few ts (index + 1) left) e
  where
    go : (b : Bool) → is_one (landmark t) ≡ b → (z : Bool) → (left == 0) ≡ z → (landmark_from ts (index + 1) (left - 1) ≡ None → landmarks_in ts ≤ left - 1)
        → (landmark_from ts (index + 1) left ≡ None → landmarks_in ts ≤ left)
        → (if b then (if z then Some index else landmark_from ts (index + 1) (left - 1)) else landmark_from ts (index + 1) left) ≡ None → landmark t + landmarks_in ts ≤ left
    go true is true none one other f = absurd (cc)
    go true is false some one other f =
        let more : 0 < left = grind (arith, nat_tests) in
        let at = eqb-true (landmark t) 1 is in
        let h = one f in
        omega (arith, more, at, h)
    go false is z none one other f = let at = no_landmark t is in let h = other f in omega (arith, at, h)
