-- Spellings made of spellings, and that what reads the parts in turn decides the whole.
use Rattle.std.proofs.Common.{◌≡◌, ℕ, ◌≤◌, ◌+◌, Bool, true, false, List, [], ◌∷◌, ◌++◌, length, Result, Ok, Err, refl, ap, sym, ◌∙◌, subst, arith, rules, append-nil, append_assoc, length-append}
use denote.Enum.Bare.{same_true, same_false}
use Rattle.cc_whole_tokens.specs.contracts.mark.Mark.{the_type}
use Rattle.cc_whole_tokens.specs.declared.mark.Mark.{Mark}
use Rattle.cc_whole_tokens.specs.declared.token.Token.{Token}
use Rattle.cc_whole_tokens.specs.declared.token.Token.TheVariants as token
use Rattle.cc_whole_tokens.specs.Mark.{same_mark}
use Rattle.cc_whole_reading.specs.declared.stop.Stop.{Stop}
use Rattle.cc_whole_reading.specs.declared.stop.Stop.TheVariants as stop
use Rattle.cc_whole_reading.specs.Parse.{Parse, and_then, ◌>>=◌, pure, behind, sees}
use Rattle.cc_whole_reading.proofs.Decides.{SameFront, same_behind, Spelling, Follow, Took, Stuck, Answer, Decides, DecidesIf, decides_as, Example, decides_some, Done, done, decides_pure}

-- ---- one after another

pub data Seq {A B : Type 0} (S : Spelling A) (U : A → Spelling B) : B → List Token → Type 0 where
  seq : (a : A) (xs : List Token) (b : B) (ys : List Token) → S a xs → U a b ys → Seq S U b (xs ++ ys)

-- the mark, and then
pub data After {B : Type 0} (m : Mark) (U : Spelling B) : B → List Token → Type 0 where
  after : (b : B) (ys : List Token) → U b ys → After m U b (token.Mark m ∷ ys)

-- a name, and then
pub data Named {B : Type 0} (U : List ℕ → Spelling B) : B → List Token → Type 0 where
  named : (word : List ℕ) (b : B) (ys : List Token) → U word b ys → Named U b (token.Name word ∷ ys)

-- made of what is spelled
pub data Made {A B : Type 0} (h : A → B) (S : Spelling A) : B → List Token → Type 0 where
  made : (a : A) (xs : List Token) → S a xs → Made h S (h a) xs

-- one way or another
pub data Either {B : Type 0} (U V : Spelling B) : B → List Token → Type 0 where
  one : (b : B) (xs : List Token) → U b xs → Either U V b xs
  other : (b : B) (xs : List Token) → V b xs → Either U V b xs

module _ {A B : Type 0} (S : Spelling A) (G : Follow) (U : A → Spelling B) (F : Follow) (follows : (a : A) (b : B) (ys rest : List Token) → U a b ys → F rest → G (ys ++ rest)) where
  apart_then : (ts : List Token) (a : A) (mid : List Token) (w : Took S G ts a mid) (front left : List Token) → mid ≡ front ++ left
      → (b : B) (xs rest us : List Token) → Seq S U b xs → F rest → xs ++ rest ≡ (w.front ++ front) ++ us → SameFront left us
      → (ys : List Token) × U a b ys × (ys ++ rest ≡ front ++ us)
  apart_then ts a mid w front left parts b _ rest us (seq a0 xs b0 ys s u) f e same =
      let whole : xs ++ (ys ++ rest) ≡ w.front ++ (front ++ us) = sym (append_assoc xs ys rest) ∙ e ∙ append_assoc w.front front us in
      let alike = subst (λ l. SameFront l (front ++ us)) (sym parts) (same_behind front left us same) in
      let r = w.only a0 xs (ys ++ rest) (front ++ us) s (follows a0 b0 ys rest u f) whole alike in
      (ys, subst (λ x. U x b0 ys) r.tree u, r.left)

  -- what the second answers behind what the first took
  pub answer_then : (ts : List Token) (a : A) (mid : List Token) → Took S G ts a mid → (r : Result (B × List Token) Stop) → Answer (U a) F mid r → Answer (Seq S U) F ts r
  answer_then ts a mid w (Ok q) v = record {
    front = w.front ++ v.front;
    spells = seq a w.front q.0 v.front w.spells v.spells;
    parts = w.parts ∙ ap (λ l. w.front ++ l) v.parts ∙ sym (append_assoc w.front v.front q.1);
    only = λ b xs rest us s f e same.
        let (ys, u, e1) = apart_then ts a mid w v.front q.1 v.parts b xs rest us s f e same in
        v.only b ys rest us u f e1 same;
  }
  answer_then ts a mid w (Err (stop.NotC n)) v = record {
    front = w.front ++ v.front;
    left = v.left;
    more = v.more;
    tree = v.tree;
    spells = subst (Seq S U v.tree) (sym (append_assoc w.front v.front v.more)) (seq a w.front v.tree (v.front ++ v.more) w.spells v.spells);
    parts = w.parts ∙ ap (λ l. w.front ++ l) v.parts ∙ sym (append_assoc w.front v.front v.left);
    count = v.count;
    never = λ b xs rest us s f e same.
        let (ys, u, e1) = apart_then ts a mid w v.front v.left v.parts b xs rest us s f e same in
        v.never b ys rest us u f e1 same;
  }
  answer_then ts a mid w (Err (stop.Unfit n)) v = v
  answer_then ts a mid w (Err stop.Memory) v = v

  never_then : (ts : List Token) (n : ℕ) (w : Stuck S G ts n) (b : B) (xs rest us : List Token) → Seq S U b xs → F rest → xs ++ rest ≡ w.front ++ us → SameFront w.left us → ⊥
  never_then ts n w b _ rest us (seq a xs b0 ys s u) f e same = w.never a xs (ys ++ rest) us s (follows a b0 ys rest u f) (sym (append_assoc xs ys rest) ∙ e) same

  -- the first stops, and something may stand behind each of its trees
  pub stuck_then : ((a : A) (xs : List Token) → S a xs → Example (U a)) → (ts : List Token) (n : ℕ) → Stuck S G ts n → Stuck (Seq S U) F ts n
  stuck_then default ts n w =
      let x = default w.tree (w.front ++ w.more) w.spells in
      record {
        front = w.front;
        left = w.left;
        more = w.more ++ x.tokens;
        tree = x.tree;
        spells = subst (Seq S U x.tree) (append_assoc w.front w.more x.tokens) (seq w.tree (w.front ++ w.more) x.tree x.tokens w.spells x.spells);
        parts = w.parts;
        count = w.count;
        never = never_then ts n w;
      }

  shorter : (n k : ℕ) (ts mid front : List Token) → ts ≡ front ++ mid → length ts ≤ n → n ≤ length front + k → length mid ≤ k
  shorter n k ts mid front e small enough =
      let lengths : length ts ≡ length front + length mid = ap length e ∙ length-append front mid in
      omega (arith, lengths, small, enough)

  then_at : (n k : ℕ) (f : A → Parse B) → ((a : A) (xs : List Token) → S a xs → Decides (U a) F k (f a)) → ((a : A) (xs : List Token) → S a xs → n ≤ length xs + k)
      → (ts : List Token) → length ts ≤ n → (r : Result (A × List Token) Stop) → Answer S G ts r → Answer (Seq S U) F ts (and_then r f)
  then_at n k f d enough ts small (Ok q) w =
      answer_then ts q.0 q.1 w (f q.0 q.1) (d q.0 w.front w.spells q.1 (shorter n k ts q.1 w.front w.parts small (enough q.0 w.front w.spells)))
  then_at n k f d enough ts small (Err (stop.NotC m)) w = stuck_then (λ a xs s. decides_some (U a) F k (f a) (d a xs s)) ts m w
  then_at n k f d enough ts small (Err (stop.Unfit m)) w = w
  then_at n k f d enough ts small (Err stop.Memory) w = w

  pub decides_then_less : (n k : ℕ) (p : Parse A) (f : A → Parse B) → Decides S G n p → ((a : A) (xs : List Token) → S a xs → Decides (U a) F k (f a))
      → ((a : A) (xs : List Token) → S a xs → n ≤ length xs + k) → Decides (Seq S U) F n (p >>= f)
  decides_then_less n k p f d0 d enough ts small = then_at n k f d enough ts small (p ts) (d0 ts small)

  pub decides_then : (n : ℕ) (p : Parse A) (f : A → Parse B) → Decides S G n p → ((a : A) (xs : List Token) → S a xs → Decides (U a) F n (f a)) → Decides (Seq S U) F n (p >>= f)
  decides_then n p f d0 d = decides_then_less n n p f d0 d (λ a xs s. omega arith)

  pub decides_then_if : (test : List Token → Bool) (n k : ℕ) (p : Parse A) (f : A → Parse B) → DecidesIf test S G n p → ((a : A) (xs : List Token) → S a xs → Decides (U a) F k (f a))
      → ((a : A) (xs : List Token) → S a xs → n ≤ length xs + k) → DecidesIf test (Seq S U) F n (p >>= f)
  decides_then_if test n k p f d0 d enough ts small is = then_at n k f d enough ts small (p ts) (d0 ts small is)

-- ---- a tree made of one

made_seq : {A B : Type 0} (h : A → B) (S : Spelling A) (b : B) (xs : List Token) → Made h S b xs → Seq S (λ a. Done (h a)) b xs
made_seq h S _ _ (made a xs s) = subst (Seq S (λ x. Done (h x)) (h a)) (append-nil xs) (seq a xs (h a) [] s done)

seq_made : {A B : Type 0} (h : A → B) (S : Spelling A) (b : B) (xs : List Token) → Seq S (λ a. Done (h a)) b xs → Made h S b xs
seq_made h S _ _ (seq a xs _ _ s done) = subst (Made h S (h a)) (sym (append-nil xs)) (made a xs s)

pub decides_made : {A B : Type 0} (h : A → B) (S : Spelling A) (F : Follow) (n : ℕ) (p : Parse A) → Decides S F n p → Decides (Made h S) F n (p >>= (λ a. pure (h a)))
decides_made h S F n p d =
    decides_as (Seq S (λ a. Done (h a))) (Made h S) F n (p >>= (λ a. pure (h a))) (made_seq h S) (seq_made h S)
    (decides_then S F (λ a. Done (h a)) F (λ a b ys rest u f. follow_done a b ys rest u f) n p (λ a. pure (h a)) d (λ a xs s. decides_pure F n (h a)))
  where
    follow_done : (a : _) (b : _) (ys rest : List Token) → Done (h a) b ys → F rest → F (ys ++ rest)
    follow_done a _ _ rest done f = f

-- ---- a sign or word

pub same_mark-true : (a b : Mark) → same_mark a b ≡ true → a ≡ b
unfolding same_mark
same_mark-true a b e = same_true the_type (search rules) a b e

pub same_mark-self : (m : Mark) → same_mark m m ≡ true
unfolding same_mark
same_mark-self m = go (same_mark m m) refl
  where
    go : (c : Bool) → same_mark m m ≡ c → c ≡ true
    go true e = refl
    go false e = absurd (same_false the_type m m e refl)

pub sees_is : (m : Mark) (ts : List Token) → sees m ts ≡ true → ts ≡ token.Mark m ∷ behind ts
sees_is m [] e = absurd (cc)
sees_is m (token.Mark n ∷ ts) e = ap (λ x. token.Mark x ∷ ts) (same_mark-true n m e)
sees_is m (token.Dash ∷ ts) e = absurd (cc)
sees_is m (token.Name word ∷ ts) e = absurd (cc)
sees_is m (token.Signed ds ∷ ts) e = absurd (cc)
sees_is m (token.Unsigned ds ∷ ts) e = absurd (cc)
sees_is m (token.Text bytes ∷ ts) e = absurd (cc)
sees_is m (token.Shared ∷ ts) e = absurd (cc)
