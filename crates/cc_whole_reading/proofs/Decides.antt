-- What it means that reading decides a way of spelling. Where it gives a tree, the tokens up to there spell it, and no text with the same
-- tokens up to there and the same next token is read otherwise. Where it stops, the tokens before begin a text, and none that goes on with
-- the token at which it stops.
use Rattle.std.proofs.Common.{◌≡◌, ℕ, ◌≤◌, ◌<◌, Bool, true, List, [], ◌∷◌, ◌++◌, length, Result, Ok, Err, refl, sym, ◌∙◌, subst, arith}
use Rattle.cc_whole_tokens.specs.declared.token.Token.{Token}
use Rattle.cc_whole_reading.specs.declared.stop.Stop.{Stop}
use Rattle.cc_whole_reading.specs.declared.stop.Stop.TheVariants as stop
use Rattle.cc_whole_reading.specs.Parse.{Parse, pure, refuse}

-- they begin with one token, or both are at the end
abbrev pub SameFront : List Token → List Token → Type 0
SameFront [] [] = Unit {0}
SameFront [] (t ∷ ts) = ⊥
SameFront (s ∷ ss) [] = ⊥
SameFront (s ∷ ss) (t ∷ ts) = s ≡ t

pub same_itself : (ts : List Token) → SameFront ts ts
same_itself [] = tt
same_itself (t ∷ ts) = refl

pub same_behind : (front ts us : List Token) → SameFront ts us → SameFront (front ++ ts) (front ++ us)
same_behind [] ts us s = s
same_behind (t ∷ front) ts us s = refl

-- how tokens spell trees, and what may follow them
abbrev pub Spelling : Type 0 → Type 1
Spelling A = A → List Token → Type 0

abbrev pub Follow : Type 1
Follow = List Token → Type 0

abbrev pub any : Follow
any ts = Unit {0}

pub record SameReading {A : Type 0} (a : A) (rest : List Token) (b : A) (others : List Token) : Type 0 where
  pub tree : b ≡ a
  pub left : others ≡ rest

pub record Took {A : Type 0} (S : Spelling A) (F : Follow) (ts : List Token) (a : A) (rest : List Token) : Type 0 where
  pub front : List Token
  pub spells : S a front
  pub parts : ts ≡ front ++ rest
  pub only : (b : A) (xs after us : List Token) → S b xs → F after → xs ++ after ≡ front ++ us → SameFront rest us → SameReading a us b after

pub record Stuck {A : Type 0} (S : Spelling A) (F : Follow) (ts : List Token) (n : ℕ) : Type 0 where
  pub front : List Token
  pub left : List Token
  pub more : List Token
  pub tree : A
  pub spells : S tree (front ++ more)
  pub parts : ts ≡ front ++ left
  pub count : n ≡ length left
  pub never : (b : A) (xs after us : List Token) → S b xs → F after → xs ++ after ≡ front ++ us → SameFront left us → ⊥

abbrev pub Answer : {A : Type 0} → Spelling A → Follow → List Token → Result (A × List Token) Stop → Type 0
Answer S F ts (Ok q) = Took S F ts q.0 q.1
Answer S F ts (Err (stop.NotC n)) = Stuck S F ts n
Answer S F ts (Err (stop.Unfit n)) = ⊥
Answer S F ts (Err stop.Memory) = ⊥

-- of at most so many tokens
abbrev pub Decides : {A : Type 0} → Spelling A → Follow → ℕ → Parse A → Type 0
Decides S F n p = (ts : List Token) → length ts ≤ n → Answer S F ts (p ts)

-- where a test of the tokens holds
abbrev pub DecidesIf : {A : Type 0} → (List Token → Bool) → Spelling A → Follow → ℕ → Parse A → Type 0
DecidesIf test S F n p = (ts : List Token) → length ts ≤ n → test ts ≡ true → Answer S F ts (p ts)

-- ---- answers by another name

pub answer_at : {A : Type 0} (S : Spelling A) (F : Follow) (ts : List Token) (r s : Result (A × List Token) Stop) → r ≡ s → Answer S F ts s → Answer S F ts r
answer_at S F ts r s e a = subst (Answer S F ts) (sym e) a

pub answer_as : {A : Type 0} (S T : Spelling A) (F : Follow) → ((b : A) (xs : List Token) → T b xs → S b xs) → ((b : A) (xs : List Token) → S b xs → T b xs)
    → (ts : List Token) (r : Result (A × List Token) Stop) → Answer S F ts r → Answer T F ts r
answer_as S T F to from ts (Ok q) a = record {
  front = a.front;
  spells = from q.0 a.front a.spells;
  parts = a.parts;
  only = λ b xs after us t f e s. a.only b xs after us (to b xs t) f e s;
}
answer_as S T F to from ts (Err (stop.NotC n)) a = record {
  front = a.front;
  left = a.left;
  more = a.more;
  tree = a.tree;
  spells = from a.tree (a.front ++ a.more) a.spells;
  parts = a.parts;
  count = a.count;
  never = λ b xs after us t f e s. a.never b xs after us (to b xs t) f e s;
}
answer_as S T F to from ts (Err (stop.Unfit n)) a = a
answer_as S T F to from ts (Err stop.Memory) a = a

pub decides_as : {A : Type 0} (S T : Spelling A) (F : Follow) (n : ℕ) (p : Parse A) → ((b : A) (xs : List Token) → T b xs → S b xs)
    → ((b : A) (xs : List Token) → S b xs → T b xs) → Decides S F n p → Decides T F n p
decides_as S T F n p to from d ts small = answer_as S T F to from ts (p ts) (d ts small)

-- a narrower follow
pub answer_follow : {A : Type 0} (S : Spelling A) (F G : Follow) → ((ts : List Token) → G ts → F ts) → (ts : List Token) (r : Result (A × List Token) Stop)
    → Answer S F ts r → Answer S G ts r
answer_follow S F G less ts (Ok q) a = record {
  front = a.front;
  spells = a.spells;
  parts = a.parts;
  only = λ b xs after us t f e s. a.only b xs after us t (less after f) e s;
}
answer_follow S F G less ts (Err (stop.NotC n)) a = record {
  front = a.front;
  left = a.left;
  more = a.more;
  tree = a.tree;
  spells = a.spells;
  parts = a.parts;
  count = a.count;
  never = λ b xs after us t f e s. a.never b xs after us t (less after f) e s;
}
answer_follow S F G less ts (Err (stop.Unfit n)) a = a
answer_follow S F G less ts (Err stop.Memory) a = a

pub decides_follow : {A : Type 0} (S : Spelling A) (F G : Follow) (n : ℕ) (p : Parse A) → ((ts : List Token) → G ts → F ts) → Decides S F n p → Decides S G n p
decides_follow S F G n p less d ts small = answer_follow S F G less ts (p ts) (d ts small)

pub decides_less : {A : Type 0} (S : Spelling A) (F : Follow) (n k : ℕ) (p : Parse A) → k ≤ n → Decides S F n p → Decides S F k p
decides_less S F n k p less d ts small = d ts (omega (arith, small, less))

-- ---- one reading

pub record Example {A : Type 0} (S : Spelling A) : Type 0 where
  pub tree : A
  pub tokens : List Token
  pub spells : S tree tokens

example_of : {A : Type 0} (S : Spelling A) (F : Follow) (r : Result (A × List Token) Stop) → Answer S F [] r → Example S
example_of S F (Ok q) a = record { tree = q.0; tokens = a.front; spells = a.spells }
example_of S F (Err (stop.NotC n)) a = record { tree = a.tree; tokens = a.front ++ a.more; spells = a.spells }
example_of S F (Err (stop.Unfit n)) a = absurd a
example_of S F (Err stop.Memory) a = absurd a

-- something is spelled
pub decides_some : {A : Type 0} (S : Spelling A) (F : Follow) (n : ℕ) (p : Parse A) → Decides S F n p → Example S
decides_some S F n p d = example_of S F (p []) (d [] (omega arith))

one_of : {A : Type 0} (S : Spelling A) (F : Follow) (a b : A) (xs ys after other : List Token) → S a xs → S b ys → F after → F other → xs ++ after ≡ ys ++ other
    → (r : Result (A × List Token) Stop) → Answer S F (xs ++ after) r → SameReading a after b other
one_of S F a b xs ys after other s t f g e (Ok q) w =
    let mine = w.only a xs after q.1 s f w.parts (same_itself q.1) in
    let other_one = w.only b ys other q.1 t g (sym e ∙ w.parts) (same_itself q.1) in
    record { tree = other_one.tree ∙ sym mine.tree; left = other_one.left ∙ sym mine.left }
one_of S F a b xs ys after other s t f g e (Err (stop.NotC n)) w = absurd (w.never a xs after w.left s f w.parts (same_itself w.left))
one_of S F a b xs ys after other s t f g e (Err (stop.Unfit n)) w = absurd w
one_of S F a b xs ys after other s t f g e (Err stop.Memory) w = absurd w

-- two readings of one text are one
pub decides_one : {A : Type 0} (S : Spelling A) (F : Follow) (n : ℕ) (p : Parse A) → Decides S F n p → (a b : A) (xs ys after other : List Token) → length (xs ++ after) ≤ n
    → S a xs → S b ys → F after → F other → xs ++ after ≡ ys ++ other → SameReading a after b other
decides_one S F n p d a b xs ys after other small s t f g e = one_of S F a b xs ys after other s t f g e (p (xs ++ after)) (d (xs ++ after) small)

-- ---- nothing, and refusals

pub data Done {A : Type 0} (a : A) : A → List Token → Type 0 where
  done : Done a a []

done_only : {A : Type 0} (a b : A) (xs after us : List Token) → Done a b xs → xs ++ after ≡ us → SameReading a us b after
done_only a _ _ after us done e = record { tree = refl; left = e }

pub decides_pure : {A : Type 0} (F : Follow) (n : ℕ) (a : A) → Decides (Done a) F n (pure a)
decides_pure F n a ts small = record { front = []; spells = done; parts = refl; only = λ b xs after us s f e same. done_only a b xs after us s e }

pub none_left : (xs after us : List Token) → 0 < length xs → xs ++ after ≡ us → SameFront [] us → ⊥
none_left [] after us some e same = omega (arith, some)
none_left (x ∷ xs) after [] some e same = absurd (cc)
none_left (x ∷ xs) after (u ∷ us) some e same = same

at_none : {A : Type 0} (S : Spelling A) (F : Follow) (x : Example S) → ((b : A) (xs : List Token) → S b xs → 0 < length xs) → (ts : List Token) → length ts ≤ 0
    → Stuck S F ts (length ts)
at_none S F x some [] small = record {
  front = [];
  left = [];
  more = x.tokens;
  tree = x.tree;
  spells = x.spells;
  parts = refl;
  count = refl;
  never = λ b xs after us s f e same. none_left xs after us (some b xs s) e same;
}
at_none S F x some (t ∷ ts) small = absurd (omega (arith, small))

-- no token is left for what takes one
pub decides_none : {A : Type 0} (S : Spelling A) (F : Follow) → Example S → ((b : A) (xs : List Token) → S b xs → 0 < length xs) → Decides S F 0 refuse
decides_none S F x some ts small = at_none S F x some ts small

-- nothing is taken, and the next token begins nothing
pub stuck_here : {A : Type 0} (S : Spelling A) (F : Follow) → Example S → (ts : List Token)
    → ((b : A) (xs rest us : List Token) → S b xs → F rest → xs ++ rest ≡ us → SameFront ts us → ⊥) → Stuck S F ts (length ts)
stuck_here S F x ts none_else = record {
  front = [];
  left = ts;
  more = x.tokens;
  tree = x.tree;
  spells = x.spells;
  parts = refl;
  count = refl;
  never = λ b xs rest us s f e same. none_else b xs rest us s f e same;
}
