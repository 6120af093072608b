-- One way or another: by a test of the next token, by the next sign, or by trying both.
use Rattle.std.proofs.Common.{◌≡◌, ℕ, suc, ◌≤◌, Bool, true, false, nat_le, List, [], ◌∷◌, ◌++◌, length, Result, Ok, Err, refl, ap, sym, ◌∙◌, subst, arith, append_assoc, length-append}
use Rattle.std.specs.Prelude.{if◌then◌else◌}
use Rattle.std.proofs.lemmas.Bool.Decides.{nat_tests}
use Rattle.cc_whole_tokens.specs.declared.mark.Mark.{Mark}
use Rattle.cc_whole_tokens.specs.declared.token.Token.{Token}
use Rattle.cc_whole_tokens.specs.Mark.{same_mark}
use Rattle.cc_whole_reading.specs.declared.stop.Stop.{Stop}
use Rattle.cc_whole_reading.specs.declared.stop.Stop.TheVariants as stop
use Rattle.cc_whole_reading.specs.Parse.{Parse, sees, past, if_test, if_next, or_after, or_else, either}
use Rattle.cc_whole_reading.proofs.Decides.{SameFront, same_behind, Spelling, Follow, any, SameReading, Took, Stuck, Answer, Decides, DecidesIf, answer_as, Done, done}
use Rattle.cc_whole_reading.proofs.Shapes.{After, after, Seq, seq, Named, named, Made, made, Either, one, other}
use Rattle.cc_whole_reading.proofs.Choices.{answer_one, decides_past, sees_same, sees_there}

pub swapped : {B : Type 0} (U V : Spelling B) (b : B) (xs : List Token) → Either U V b xs → Either V U b xs
swapped U V _ _ (one b xs s) = other b xs s
swapped U V _ _ (other b xs s) = one b xs s

pub answer_other : {B : Type 0} (U V : Spelling B) (F : Follow) (ts : List Token) → ((b : B) (xs rest us : List Token) → U b xs → F rest → xs ++ rest ≡ us → SameFront ts us → ⊥)
    → (r : Result (B × List Token) Stop) → Answer V F ts r → Answer (Either U V) F ts r
answer_other U V F ts none_else r a = answer_as (Either V U) (Either U V) F (swapped U V) (swapped V U) ts r (answer_one V U F ts none_else r a)

-- the test holds where the spelling stands, or does not
abbrev pub Tells : {B : Type 0} → (List Token → Bool) → Bool → Spelling B → Follow → Type 0
Tells {B} test c U F = (b : B) (xs rest : List Token) → U b xs → F rest → test (xs ++ rest) ≡ c

module _ {B : Type 0} (test : List Token → Bool) (looks : (xs ys : List Token) → SameFront xs ys → test xs ≡ test ys) (U V : Spelling B) (F : Follow)
    (first : Tells test true U F) (second : Tells test false V F) where
  pub decides_if : (n : ℕ) (p q : Parse B) → DecidesIf test U F n p → Decides V F n q → Decides (Either U V) F n (if_test test p q)
  decides_if n p q d e ts small = go (test ts) refl
    where
      go : (c : Bool) → test ts ≡ c → Answer (Either U V) F ts (if c then p ts else q ts)
      go true is = answer_one U V F ts (λ b xs rest us s f eq same.
          let there : test us ≡ false = ap test (sym eq) ∙ second b xs rest s f in
          let here : test us ≡ true = sym (looks ts us same) ∙ is in
          absurd (cc)) (p ts) (d ts small is)
      go false is = answer_other U V F ts (λ b xs rest us s f eq same.
          let there : test us ≡ true = ap test (sym eq) ∙ first b xs rest s f in
          let here : test us ≡ false = sym (looks ts us same) ∙ is in
          absurd (cc)) (q ts) (e ts small)

after_tells : {B : Type 0} (m : Mark) (U : Spelling B) (F : Follow) → Tells (sees m) true (After m U) F
after_tells m U F _ _ rest (after b ys u) f = sees_there m (ys ++ rest)

-- what does not begin with a sign
abbrev pub Apart : {B : Type 0} → Mark → Spelling B → Follow → Type 0
Apart m V F = Tells (sees m) false V F

pub decides_next : {B : Type 0} (m : Mark) (U V : Spelling B) (F : Follow) (n : ℕ) (p q : Parse B) → Apart m V F → Decides U F n p → Decides V F (suc n) q
    → Decides (Either (After m U) V) F (suc n) (if_next m p q)
decides_next m U V F n p q apart d e =
    decides_if (sees m) (sees_same m) (After m U) V F (after_tells m U F) apart (suc n) (past p) q (decides_past m U F n p d) e

pub decides_sight : {B : Type 0} (m : Mark) (U V : Spelling B) (F : Follow) (n : ℕ) (p q : Parse B) → Apart m V F → Decides U F n p → Decides V F n q
    → Decides (Either (After m U) V) F n (if_next m p q)
decides_sight m U V F n p q apart d e =
    decides_if (sees m) (sees_same m) (After m U) V F (after_tells m U F) apart n (past p) q
    (λ ts small is. decides_past m U F n p d ts (omega (arith, small)) is) e

-- two signs are not one
pub apart_after : {B : Type 0} (m k : Mark) (U : Spelling B) (F : Follow) → same_mark k m ≡ false → Apart m (After k U) F
apart_after m k U F differ _ _ rest (after b ys u) f = differ

pub apart_either : {B : Type 0} (m : Mark) (U V : Spelling B) (F : Follow) → Apart m U F → Apart m V F → Apart m (Either U V) F
apart_either m U V F first second _ _ rest (one b xs s) f = first b xs rest s f
apart_either m U V F first second _ _ rest (other b xs s) f = second b xs rest s f

-- ---- both are tried

-- no text is spelled both ways
abbrev pub Differ : {B : Type 0} → Spelling B → Spelling B → Type 0
Differ {B} U V = (a b : B) (xs ys rest others : List Token) → U a xs → V b ys → xs ++ rest ≡ ys ++ others → ⊥

-- of two fronts of a list one is longer
longer : (f l g k : List Token) → f ++ l ≡ g ++ k → length l ≤ length k → (mid : List Token) × (f ≡ g ++ mid) × (k ≡ mid ++ l)
longer f l [] k e less = (f, refl, sym e)
longer [] l (x ∷ g) k e less =
    let lengths : length l ≡ suc (length (g ++ k)) = ap length e in
    let more = length-append g k in
    absurd (omega (arith, lengths, more, less))
longer (y ∷ f) l (x ∷ g) k e less =
    let head : y ≡ x = cc in
    let tail : f ++ l ≡ g ++ k = cc in
    let (mid, e1, e2) = longer f l g k tail less in
    (mid, ap (λ t. t ∷ f) head ∙ ap (λ r. x ∷ r) e1, e2)

module _ {B : Type 0} (U V : Spelling B) (differ : Differ U V) where
  first_only : (ts : List Token) (a : B) (mid : List Token) (w : Took U any ts a mid) (b : B) (xs rest us : List Token) → Either U V b xs → any rest → xs ++ rest ≡ w.front ++ us
      → SameFront mid us → SameReading a us b rest
  first_only ts a mid w _ _ rest us (one b xs s) f e same = w.only b xs rest us s f e same
  first_only ts a mid w _ _ rest us (other b xs s) f e same = absurd (differ a b w.front xs us rest w.spells s (sym e))

  second_only : (ts : List Token) (a : B) (mid : List Token) (w : Took V any ts a mid) (b : B) (xs rest us : List Token) → Either U V b xs → any rest → xs ++ rest ≡ w.front ++ us
      → SameFront mid us → SameReading a us b rest
  second_only ts a mid w _ _ rest us (one b xs s) f e same = absurd (differ b a xs w.front rest us s w.spells e)
  second_only ts a mid w _ _ rest us (other b xs s) f e same = w.only b xs rest us s f e same

-- two refusals: the one that leaves less tells
module _ {B : Type 0} (U V : Spelling B) where
  both_never : (ts : List Token) (m n : ℕ) (w : Stuck U any ts m) (v : Stuck V any ts n) → m ≤ n → (b : B) (xs rest us : List Token) → Either U V b xs → any rest
      → xs ++ rest ≡ w.front ++ us → SameFront w.left us → ⊥
  both_never ts m n w v less _ _ rest us (one b xs s) f e same = w.never b xs rest us s f e same
  both_never ts m n w v less _ _ rest us (other b xs s) f e same =
      let shorter : length w.left ≤ length v.left = omega (arith, less, w.count, v.count) in
      let (mid, e1, e2) = longer w.front w.left v.front v.left (sym w.parts ∙ v.parts) shorter in
      v.never b xs rest (mid ++ us) s f (e ∙ ap (λ l. l ++ us) e1 ∙ append_assoc v.front mid us) (subst (λ l. SameFront l (mid ++ us)) (sym e2) (same_behind mid w.left us same))

  pub stuck_both : (ts : List Token) (m n : ℕ) → Stuck U any ts m → Stuck V any ts n → m ≤ n → Stuck (Either U V) any ts m
  stuck_both ts m n w v less = record {
    front = w.front;
    left = w.left;
    more = w.more;
    tree = w.tree;
    spells = one w.tree (w.front ++ w.more) w.spells;
    parts = w.parts;
    count = w.count;
    never = both_never ts m n w v less;
  }

module _ {B : Type 0} (U V : Spelling B) (differ : Differ U V) (ts : List Token) where
  stuck_later : (m n : ℕ) → Stuck U any ts m → Stuck V any ts n → Answer (Either U V) any ts (Err (if nat_le m n then stop.NotC m else stop.NotC n))
  stuck_later m n w v = go (nat_le m n) refl
    where
      go : (c : Bool) → nat_le m n ≡ c → Answer (Either U V) any ts (Err (if c then stop.NotC m else stop.NotC n))
      go true is = stuck_both U V ts m n w v (grind (arith, nat_tests, is))
      go false is =
          let less : n ≤ m = grind (arith, nat_tests, is) in
          answer_as (Either V U) (Either U V) any (swapped U V) (swapped V U) ts (Err (stop.NotC n)) (stuck_both V U ts n m v w less)

  second_at : (m : ℕ) → Stuck U any ts m → (s : Result (B × List Token) Stop) → Answer V any ts s → Answer (Either U V) any ts (or_after m s)
  second_at m w (Ok q) v = record { front = v.front; spells = other q.0 v.front v.spells; parts = v.parts; only = second_only U V differ ts q.0 q.1 v }
  second_at m w (Err (stop.NotC n)) v = stuck_later m n w v
  second_at m w (Err (stop.Unfit n)) v = v
  second_at m w (Err stop.Memory) v = v

  either_at : (r s : Result (B × List Token) Stop) → Answer U any ts r → Answer V any ts s → Answer (Either U V) any ts (or_else r s)
  either_at (Ok q) s w v = record { front = w.front; spells = one q.0 w.front w.spells; parts = w.parts; only = first_only U V differ ts q.0 q.1 w }
  either_at (Err (stop.NotC m)) s w v = second_at m w s v
  either_at (Err (stop.Unfit m)) s w v = w
  either_at (Err stop.Memory) s w v = w

pub decides_either : {B : Type 0} (U V : Spelling B) (n : ℕ) (p q : Parse B) → Differ U V → Decides U any n p → Decides V any n q → Decides (Either U V) any n (either p q)
decides_either U V n p q differ d e ts small = either_at U V differ ts (p ts) (q ts) (d ts small) (e ts small)

-- nothing, where the sign does not follow
pub apart_done : {B : Type 0} (m : Mark) (a : B) (F : Follow) → ((rest : List Token) → F rest → sees m rest ≡ false) → Apart m (Done a) F
apart_done m a F follows _ _ rest done f = follows rest f

pub apart_seq : {A B : Type 0} (m : Mark) (S : Spelling A) (U : A → Spelling B) (F : Follow) → ((a : A) (xs rest : List Token) → S a xs → sees m (xs ++ rest) ≡ false)
    → Apart m (Seq S U) F
apart_seq m S U F first _ _ rest (seq a xs b ys s u) f = ap (sees m) (append_assoc xs ys rest) ∙ first a xs (ys ++ rest) s

pub apart_named : {B : Type 0} (m : Mark) (U : List ℕ → Spelling B) (F : Follow) → Apart m (Named U) F
apart_named m U F _ _ rest (named word b ys u) f = refl

pub apart_made : {A B : Type 0} (m : Mark) (h : A → B) (S : Spelling A) (F : Follow) → Apart m S F → Apart m (Made h S) F
apart_made m h S F first _ _ rest (made a xs s) f = first a xs rest s f
