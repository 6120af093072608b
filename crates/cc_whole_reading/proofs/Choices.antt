-- Reading that looks at the next token, or tries one way and then another, decides what the ways decide.
use Rattle.std.proofs.Common.{◌≡◌, ℕ, suc, ◌≤◌, Bool, true, false, List, [], ◌∷◌, ◌++◌, length, Result, Ok, Err, refl, ap, sym, ◌∙◌, subst, arith}
use Rattle.std.specs.Prelude.{if◌then◌else◌}
use Rattle.cc_whole_tokens.specs.declared.mark.Mark.{Mark}
use Rattle.cc_whole_tokens.specs.declared.token.Token.{Token}
use Rattle.cc_whole_tokens.specs.declared.token.Token.TheVariants as token
use Rattle.cc_whole_reading.specs.declared.stop.Stop.{Stop}
use Rattle.cc_whole_reading.specs.declared.stop.Stop.TheVariants as stop
use Rattle.cc_whole_reading.specs.Parse.{Parse, and_then, ◌>>=◌, behind, sees, sees_a, is_name, past, expect, name}
use Rattle.cc_whole_reading.proofs.Decides.{SameFront, same_behind, Spelling, Follow, SameReading, Stuck, Answer, Decides, DecidesIf, decides_less, decides_some}
use Rattle.cc_whole_reading.proofs.Shapes.{After, after, Named, named, Either, one, other, sees_is, same_mark-self}

-- ---- a token in front

module _ {B : Type 0} (t : Token) (U W : Spelling B) (F : Follow) (put : (b : B) (ys : List Token) → U b ys → W b (t ∷ ys))
    (take : (b : B) (xs rest us : List Token) → W b xs → F rest → xs ++ rest ≡ t ∷ us → (ys : List Token) × U b ys × (ys ++ rest ≡ us)) where
  pub answer_front : (ts : List Token) (r : Result (B × List Token) Stop) → Answer U F ts r → Answer W F (t ∷ ts) r
  answer_front ts (Ok q) w = record {
    front = t ∷ w.front;
    spells = put q.0 w.front w.spells;
    parts = ap (λ l. t ∷ l) w.parts;
    only = λ b xs rest us s f e same.
        let (ys, u, e1) = take b xs rest (w.front ++ us) s f e in
        w.only b ys rest us u f e1 same;
  }
  answer_front ts (Err (stop.NotC n)) w = record {
    front = t ∷ w.front;
    left = w.left;
    more = w.more;
    tree = w.tree;
    spells = put w.tree (w.front ++ w.more) w.spells;
    parts = ap (λ l. t ∷ l) w.parts;
    count = w.count;
    never = λ b xs rest us s f e same.
        let (ys, u, e1) = take b xs rest (w.front ++ us) s f e in
        w.never b ys rest us u f e1 same;
  }
  answer_front ts (Err (stop.Unfit n)) w = w
  answer_front ts (Err stop.Memory) w = w

take_after : {B : Type 0} (m : Mark) (U : Spelling B) (b : B) (xs rest us : List Token) → After m U b xs → xs ++ rest ≡ token.Mark m ∷ us
    → (ys : List Token) × U b ys × (ys ++ rest ≡ us)
take_after m U _ _ rest us (after b ys u) e = let same : ys ++ rest ≡ us = cc in (ys, u, same)

answer_mark : {B : Type 0} (m : Mark) (U : Spelling B) (F : Follow) (ts : List Token) (r : Result (B × List Token) Stop) → Answer U F ts r → Answer (After m U) F (token.Mark m ∷ ts) r
answer_mark m U F ts r a = answer_front (token.Mark m) U (After m U) F (λ b ys u. after b ys u) (λ b xs rest us s f e. take_after m U b xs rest us s e) ts r a

answer_past : {B : Type 0} (m : Mark) (U : Spelling B) (F : Follow) (ts : List Token) (r : Result (B × List Token) Stop) → sees m ts ≡ true → Answer U F (behind ts) r
    → Answer (After m U) F ts r
answer_past m U F ts r is a = subst (λ l. Answer (After m U) F l r) (sym (sees_is m ts is)) (answer_mark m U F (behind ts) r a)

behind_less : (n : ℕ) (m : Mark) (ts : List Token) → sees m ts ≡ true → length ts ≤ suc n → length (behind ts) ≤ n
behind_less n m ts is small =
    let lengths : length ts ≡ suc (length (behind ts)) = ap length (sees_is m ts is) in
    omega (arith, lengths, small)

pub decides_past : {B : Type 0} (m : Mark) (U : Spelling B) (F : Follow) (n : ℕ) (p : Parse B) → Decides U F n p → DecidesIf (sees m) (After m U) F (suc n) (past p)
decides_past m U F n p d ts small is = answer_past m U F ts (p (behind ts)) is (d (behind ts) (behind_less n m ts is small))

pub sees_same : (m : Mark) (xs ys : List Token) → SameFront xs ys → sees m xs ≡ sees m ys
sees_same m [] [] same = refl
sees_same m [] (y ∷ ys) same = absurd same
sees_same m (x ∷ xs) [] same = absurd same
sees_same m (x ∷ xs) (y ∷ ys) same = one_token x xs ys ∙ ap (λ t. sees m (t ∷ ys)) same
  where
    one_token : (t : Token) (us vs : List Token) → sees m (t ∷ us) ≡ sees m (t ∷ vs)
    one_token (token.Mark n) us vs = refl
    one_token token.Dash us vs = refl
    one_token (token.Name word) us vs = refl
    one_token (token.Signed ds) us vs = refl
    one_token (token.Unsigned ds) us vs = refl
    one_token (token.Text bytes) us vs = refl
    one_token token.Shared us vs = refl

pub sees_a_same : (test : Token → Bool) (xs ys : List Token) → SameFront xs ys → sees_a test xs ≡ sees_a test ys
sees_a_same test [] [] same = refl
sees_a_same test [] (y ∷ ys) same = absurd same
sees_a_same test (x ∷ xs) [] same = absurd same
sees_a_same test (x ∷ xs) (y ∷ ys) same = ap test same

pub sees_there : (m : Mark) (ts : List Token) → sees m (token.Mark m ∷ ts) ≡ true
sees_there m ts = same_mark-self m

-- ---- a sign or word, and a name, that must come next

no_mark : {B : Type 0} (m : Mark) (U : Spelling B) (ts : List Token) → sees m ts ≡ false → (b : B) (xs rest us : List Token) → After m U b xs → xs ++ rest ≡ us → SameFront ts us → ⊥
no_mark m U ts is _ _ rest us (after b ys u) e same =
    let there : sees m us ≡ true = ap (sees m) (sym e) ∙ sees_there m (ys ++ rest) in
    let here : sees m us ≡ false = sym (sees_same m ts us same) ∙ is in
    absurd (cc)

pub decides_mark : {B : Type 0} (m : Mark) (U : Spelling B) (F : Follow) (n : ℕ) (f : Unit {0} → Parse B) → Decides U F n (f tt) → Decides (After m U) F (suc n) (expect m >>= f)
unfolding expect
decides_mark m U F n f d ts small = go (sees m ts) refl
  where
    go : (c : Bool) → sees m ts ≡ c → Answer (After m U) F ts (and_then (if c then Ok (tt, behind ts) else Err (stop.NotC (length ts))) f)
    go true is = answer_past m U F ts (f tt (behind ts)) is (d (behind ts) (behind_less n m ts is small))
    go false is =
        let x = decides_some U F n (f tt) d in
        record {
          front = [];
          left = ts;
          more = token.Mark m ∷ x.tokens;
          tree = x.tree;
          spells = after x.tree x.tokens x.spells;
          parts = refl;
          count = refl;
          never = λ b xs rest us s f e same. no_mark m U ts is b xs rest us s e same;
        }

pub decides_sign : {B : Type 0} (m : Mark) (U : Spelling B) (F : Follow) (n : ℕ) (f : Unit {0} → Parse B) → Decides U F n (f tt) → Decides (After m U) F n (expect m >>= f)
decides_sign m U F n f d = decides_less (After m U) F (suc n) n (expect m >>= f) (omega arith) (decides_mark m U F n f d)

pub sees_name-is : (ts : List Token) → sees_a is_name ts ≡ true → (word : List ℕ) × (ts ≡ token.Name word ∷ behind ts)
sees_name-is [] e = absurd (cc)
sees_name-is (token.Mark n ∷ ts) e = absurd (cc)
sees_name-is (token.Dash ∷ ts) e = absurd (cc)
sees_name-is (token.Name word ∷ ts) e = (word, refl)
sees_name-is (token.Signed ds ∷ ts) e = absurd (cc)
sees_name-is (token.Unsigned ds ∷ ts) e = absurd (cc)
sees_name-is (token.Text bytes ∷ ts) e = absurd (cc)
sees_name-is (token.Shared ∷ ts) e = absurd (cc)

take_named : {B : Type 0} (U : List ℕ → Spelling B) (word : List ℕ) (b : B) (xs rest us : List Token) → Named U b xs → xs ++ rest ≡ token.Name word ∷ us
    → (ys : List Token) × U word b ys × (ys ++ rest ≡ us)
take_named U word _ _ rest us (named w b ys u) e =
    let same : w ≡ word = cc in
    let left : ys ++ rest ≡ us = cc in
    (ys, subst (λ x. U x b ys) same u, left)

no_name : {B : Type 0} (U : List ℕ → Spelling B) (ts : List Token) → sees_a is_name ts ≡ false → (b : B) (xs rest us : List Token) → Named U b xs → xs ++ rest ≡ us → SameFront ts us → ⊥
no_name U ts is _ _ rest us (named w b ys u) e same =
    let there : sees_a is_name us ≡ true = ap (sees_a is_name) (sym e) in
    let here : sees_a is_name us ≡ false = sym (sees_a_same is_name ts us same) ∙ is in
    absurd (cc)

module _ {B : Type 0} (U : List ℕ → Spelling B) (F : Follow) (n : ℕ) (f : List ℕ → Parse B) (d : (word : List ℕ) → Decides (U word) F n (f word)) where
  without_name : (ts : List Token) → sees_a is_name ts ≡ false → Stuck (Named U) F ts (length ts)
  without_name ts is =
      let x = decides_some (U (120 ∷ [])) F n (f (120 ∷ [])) (d (120 ∷ [])) in
      record {
        front = [];
        left = ts;
        more = token.Name (120 ∷ []) ∷ x.tokens;
        tree = x.tree;
        spells = named (120 ∷ []) x.tree x.tokens x.spells;
        parts = refl;
        count = refl;
        never = λ b xs rest us s f e same. no_name U ts is b xs rest us s e same;
      }

  pub decides_name : Decides (Named U) F (suc n) (name >>= f)
  unfolding name
  decides_name [] small = without_name [] refl
  decides_name (token.Mark m ∷ ts) small = without_name (token.Mark m ∷ ts) refl
  decides_name (token.Dash ∷ ts) small = without_name (token.Dash ∷ ts) refl
  decides_name (token.Name word ∷ ts) small =
      answer_front (token.Name word) (U word) (Named U) F (λ b ys u. named word b ys u) (λ b xs rest us s f e. take_named U word b xs rest us s e) ts (f word ts)
      (d word ts (omega (arith, small)))
  decides_name (token.Signed ds ∷ ts) small = without_name (token.Signed ds ∷ ts) refl
  decides_name (token.Unsigned ds ∷ ts) small = without_name (token.Unsigned ds ∷ ts) refl
  decides_name (token.Text bytes ∷ ts) small = without_name (token.Text bytes ∷ ts) refl
  decides_name (token.Shared ∷ ts) small = without_name (token.Shared ∷ ts) refl

  pub decides_word : Decides (Named U) F n (name >>= f)
  decides_word = decides_less (Named U) F (suc n) n (name >>= f) (omega arith) decides_name

-- ---- a test of the next token

module _ {B : Type 0} (U V : Spelling B) (F : Follow) where
  pub answer_one : (ts : List Token) → ((b : B) (xs rest us : List Token) → V b xs → F rest → xs ++ rest ≡ us → SameFront ts us → ⊥)
      → (r : Result (B × List Token) Stop) → Answer U F ts r → Answer (Either U V) F ts r
  answer_one ts none_else (Ok q) w = record { front = w.front; spells = one q.0 w.front w.spells; parts = w.parts; only = only }
    where
      only : (b : B) (xs rest us : List Token) → Either U V b xs → F rest → xs ++ rest ≡ w.front ++ us → SameFront q.1 us → SameReading q.0 us b rest
      only _ _ rest us (one b xs s) f e same = w.only b xs rest us s f e same
      only _ _ rest us (other b xs s) f e same =
          absurd (none_else b xs rest (w.front ++ us) s f e (subst (λ l. SameFront l (w.front ++ us)) (sym w.parts) (same_behind w.front q.1 us same)))
  answer_one ts none_else (Err (stop.NotC n)) w = record {
    front = w.front;
    left = w.left;
    more = w.more;
    tree = w.tree;
    spells = one w.tree (w.front ++ w.more) w.spells;
    parts = w.parts;
    count = w.count;
    never = never;
  }
    where
      never : (b : B) (xs rest us : List Token) → Either U V b xs → F rest → xs ++ rest ≡ w.front ++ us → SameFront w.left us → ⊥
      never _ _ rest us (one b xs s) f e same = w.never b xs rest us s f e same
      never _ _ rest us (other b xs s) f e same =
          none_else b xs rest (w.front ++ us) s f e (subst (λ l. SameFront l (w.front ++ us)) (sym w.parts) (same_behind w.front w.left us same))
  answer_one ts none_else (Err (stop.Unfit n)) w = w
  answer_one ts none_else (Err stop.Memory) w = w
