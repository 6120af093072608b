-- The laws of following: by parts, and over steps that don't look at the lists of a frame.
use Rattle.std.proofs.Common.{◌≡◌, ℕ, Bool, true, false, refl, sym, ◌∙◌, ap, subst}
use Rattle.std.specs.Prelude.{Result, Ok, Err, Option, Some, None}
use Rattle.cf_base.specs.World.{World, Ran, Went, Stops, and_then}
use Rattle.cf_core.specs.Run.{State, Frame, Did, Gives, Exits, Malformed, Act, onward, ◌>>=◌, gives, malformed, undefined, need, valid, some_or, ok_or_act, when, with_frame}
use Rattle.cf_sequence.specs.Follows.{Follows}

abbrev pub Relation : Type 0 → Type 0 → Type 1
Relation A B = A → State → B → State → Type 0

-- what comes behind a step
abbrev pub on : {A B : Type 0} → (A → Act B) → Did A → World → Ran (Did B)
on go = λ did w. onward did go w

pub follows-then : {A B C D : Type 0} {R : A → State → B → State → Type 0} {S : C → State → D → State → Type 0}
    (x : Ran (Did A)) (y : Ran (Did B)) (f : A → Act C) (g : B → Act D)
    → Follows R x y
    → ((a : A) (s : State) (b : B) (t : State) (w : World) → R a s b t → Follows S (f a s w) (g b t w))
    → Follows S (and_then x (on f)) (and_then y (on g))
follows-then {S = S} (Went (Gives a s) w) y f g h next =
    subst (λ r. Follows S (f a s w) (and_then r (on g))) (sym h.by.run) (next a s h.by.value h.by.after w h.by.related)
follows-then {S = S} (Went (Exits z s) w) y f g h next =
    record { by = record { after = h.by.after; run = ap (λ r. and_then r (on g)) h.by.run; same = h.by.same } }
follows-then (Went Malformed w) y f g h next = record { by = tt }
follows-then (Stops end trace) y f g h next = record { by = ap (λ r. and_then r (on g)) h.by }

-- ---- steps behind steps: what comes behind two can come behind the second

pub pull : {A B C D : Type 0} {S : C → State → D → State → Type 0} (x : Ran (Did A)) (F : A → Act B) (G : B → Act C) (y : Ran (Did D))
    → Follows S (and_then x (on (λ a. F a >>= G))) y → Follows S (and_then (and_then x (on F)) (on G)) y
pull (Went (Gives a s) w) F G y h = h
pull (Went (Exits z s) w) F G y h = h
pull (Went Malformed w) F G y h = h
pull (Stops end trace) F G y h = h

pub push : {A B C D : Type 0} {S : D → State → C → State → Type 0} (x : Ran (Did A)) (F : A → Act B) (G : B → Act C) (y : Ran (Did D))
    → Follows S y (and_then x (on (λ a. F a >>= G))) → Follows S y (and_then (and_then x (on F)) (on G))
push (Went (Gives a s) w) F G y h = h
push (Went (Exits z s) w) F G y h = h
push (Went Malformed w) F G y h = h
push (Stops end trace) F G y h = h

pub pull-two : {A B C D E : Type 0} {S : D → State → E → State → Type 0} (x : Ran (Did A)) (F : A → Act B) (G : B → Act C) (c : C → Act D) (y : Ran (Did E))
    → Follows S (and_then x (on (λ a. (F a >>= G) >>= c))) y → Follows S (and_then (and_then (and_then x (on F)) (on G)) (on c)) y
pull-two (Went (Gives a s) w) F G c y h = h
pull-two (Went (Exits z s) w) F G c y h = h
pull-two (Went Malformed w) F G c y h = h
pull-two (Stops end trace) F G c y h = h

pub pull-three : {A B C D E X : Type 0} {S : E → State → X → State → Type 0} (x : Ran (Did A)) (F : A → Act B) (G : B → Act C) (R : C → Act D) (c : D → Act E) (y : Ran (Did X))
    → Follows S (and_then x (on (λ a. ((F a >>= G) >>= R) >>= c))) y → Follows S (and_then (and_then (and_then (and_then x (on F)) (on G)) (on R)) (on c)) y
pull-three (Went (Gives a s) w) F G R c y h = h
pull-three (Went (Exits z s) w) F G R c y h = h
pull-three (Went Malformed w) F G R c y h = h
pull-three (Stops end trace) F G R c y h = h

-- ---- steps that look at no state

pub data Answer (A : Type 0) : Type 0 where
  answers : A → Answer A
  fails : ℕ → Answer A
  wrong : Answer A

abbrev pub of_answer : {A : Type 0} → Answer A → Act A
of_answer (answers a) = gives a
of_answer (fails act) = undefined act
of_answer wrong = malformed

pub record Pure {A : Type 0} (act : Act A) : Type 0 where
  pub answer : Answer A
  pub runs : act ≡ of_answer answer

pub pure-gives : {A : Type 0} (a : A) → Pure (gives a)
pure-gives a = record { answer = answers a; runs = refl }

pub pure-undefined : {A : Type 0} (n : ℕ) → Pure {A = A} (undefined n)
pure-undefined n = record { answer = fails n; runs = refl }

pub pure-malformed : {A : Type 0} → Pure {A = A} malformed
pure-malformed = record { answer = wrong; runs = refl }

-- an answer, and then what its value leads to
abbrev pub chained : {A B : Type 0} → Answer A → (A → Answer B) → Answer B
chained (answers a) go = go a
chained (fails n) go = fails n
chained wrong go = wrong

pure-chained : {A B : Type 0} (x : Answer A) (go : A → Act B) (q : (a : A) → Pure (go a))
    → (of_answer x >>= go) ≡ of_answer (chained x (λ a. (q a).answer))
pure-chained (answers a) go q = (q a).runs
pure-chained (fails n) go q = refl
pure-chained wrong go q = refl

pub pure-then : {A B : Type 0} (act : Act A) (go : A → Act B) → Pure act → ((a : A) → Pure (go a)) → Pure (act >>= go)
pure-then act go p q = record {
  answer = chained p.answer (λ a. (q a).answer);
  runs = ap (λ (a : Act _). a >>= go) p.runs ∙ pure-chained p.answer go q;
}

pub pure-need : (b : Bool) (n : ℕ) → Pure (need b n)
pure-need true n = record { answer = answers tt; runs = refl }
pure-need false n = record { answer = fails n; runs = refl }

pub pure-valid : (b : Bool) → Pure (valid b)
pure-valid true = record { answer = answers tt; runs = refl }
pure-valid false = record { answer = wrong; runs = refl }

pub pure-some_or : {A : Type 0} (x : Option A) (act : Act A) → Pure act → Pure (some_or x act)
pure-some_or None act p = p
pure-some_or (Some a) act p = record { answer = answers a; runs = refl }

pub pure-ok_or_act : {A : Type 0} (x : Result A ℕ) → Pure (ok_or_act x)
pure-ok_or_act (Ok a) = record { answer = answers a; runs = refl }
pure-ok_or_act (Err n) = record { answer = fails n; runs = refl }

pub pure-when : {A : Type 0} (b : Bool) (act other : Act A) → Pure act → Pure other → Pure (when b act other)
pure-when true act other p q = p
pure-when false act other p q = q

answer-steps : {A C D : Type 0} {S : C → State → D → State → Type 0} (x : Answer A) (c : A → Act C) (g : A → Act D) (s t : State) (w : World)
    → ((a : A) → Follows S (c a s w) (g a t w))
    → Follows S (and_then (of_answer x s w) (on c)) (and_then (of_answer x t w) (on g))
answer-steps (answers a) c g s t w next = next a
answer-steps (fails n) c g s t w next = record { by = refl }
answer-steps wrong c g s t w next = record { by = tt }

-- the same, where what follows may use what is given
pub pure-known : {A C D : Type 0} {S : C → State → D → State → Type 0} (act : Act A) → Pure act → (c : A → Act C) (g : A → Act D) (s t : State) (w : World)
    → ((a : A) → act ≡ gives a → Follows S (c a s w) (g a t w))
    → Follows S (and_then (act s w) (on c)) (and_then (act t w) (on g))
pure-known {A} {C} {D} {S} act p c g s t w next = by p.answer p.runs
  where
    by : (x : Answer A) → act ≡ of_answer x → Follows S (and_then (act s w) (on c)) (and_then (act t w) (on g))
    by (answers a) e = subst (λ (b : Act A). Follows S (and_then (b s w) (on c)) (and_then (b t w) (on g))) (sym e) (next a e)
    by (fails n) e = subst (λ (b : Act A). Follows S (and_then (b s w) (on c)) (and_then (b t w) (on g))) (sym e) (record { by = refl })
    by wrong e = subst (λ (b : Act A). Follows S (and_then (b s w) (on c)) (and_then (b t w) (on g))) (sym e) (record { by = tt })

-- The same step in any two states.
pub pure-steps : {A C D : Type 0} {S : C → State → D → State → Type 0} (act : Act A) → Pure act → (c : A → Act C) (g : A → Act D) (s t : State) (w : World)
    → ((a : A) → Follows S (c a s w) (g a t w))
    → Follows S (and_then (act s w) (on c)) (and_then (act t w) (on g))
pure-steps {S = S} act p c g s t w next =
    subst (λ (a : Act _). Follows S (and_then (a s w) (on c)) (and_then (a t w) (on g))) (sym p.runs) (answer-steps p.answer c g s t w next)

-- ---- steps that look at the objects alone and change nothing

pub record Looks {A : Type 0} (act : Act A) : Type 0 where
  pub answer : State → Answer A
  pub runs : (s : State) (w : World) → act s w ≡ of_answer (answer s) s w
  pub blind : (s : State) (f : Frame) → answer (with_frame f s) ≡ answer s

pub looks-steps : {A C D : Type 0} {S : C → State → D → State → Type 0} (act : Act A) → Looks act
    → (c : A → Act C) (g : A → Act D) (s : State) (f : Frame) (w : World)
    → ((a : A) → Follows S (c a s w) (g a (with_frame f s) w))
    → Follows S (and_then (act s w) (on c)) (and_then (act (with_frame f s) w) (on g))
looks-steps {S = S} act p c g s f w next =
    subst (λ r. Follows S (and_then r (on c)) (and_then (act (with_frame f s) w) (on g))) (sym (p.runs s w))
    (subst (λ r. Follows S (and_then (of_answer (p.answer s) s w) (on c)) (and_then r (on g)))
    (sym (p.runs (with_frame f s) w ∙ ap (λ x. of_answer x (with_frame f s) w) (p.blind s f)))
    (answer-steps (p.answer s) c g s (with_frame f s) w next))

looks-chained : {A B : Type 0} (x : Answer A) (go : A → Act B) (q : (a : A) → Looks (go a)) (s : State) (w : World)
    → and_then (of_answer x s w) (on go) ≡ of_answer (chained x (λ a. (q a).answer s)) s w
looks-chained (answers a) go q s w = (q a).runs s w
looks-chained (fails n) go q s w = refl
looks-chained wrong go q s w = refl

blind-chained : {A B : Type 0} (x : Answer A) (go : A → Act B) (q : (a : A) → Looks (go a)) (s : State) (f : Frame)
    → chained x (λ a. (q a).answer (with_frame f s)) ≡ chained x (λ a. (q a).answer s)
blind-chained (answers a) go q s f = (q a).blind s f
blind-chained (fails n) go q s f = refl
blind-chained wrong go q s f = refl

pub looks-then : {A B : Type 0} (act : Act A) (go : A → Act B) → Looks act → ((a : A) → Looks (go a)) → Looks (act >>= go)
looks-then act go p q = record {
  answer = λ s. chained (p.answer s) (λ a. (q a).answer s);
  runs = λ s w. ap (λ r. and_then r (on go)) (p.runs s w) ∙ looks-chained (p.answer s) go q s w;
  blind = λ s f. ap (λ x. chained x (λ a. (q a).answer (with_frame f s))) (p.blind s f) ∙ blind-chained (p.answer s) go q s f;
}

pub looks-pure : {A : Type 0} (act : Act A) → Pure act → Looks act
looks-pure act p = record { answer = λ s. p.answer; runs = λ s w. ap (λ (a : Act _). a s w) p.runs; blind = λ s f. refl }

-- ---- a step, and what comes behind it, on both sides

pub looks-step : {A B C D : Type 0} {S : C → State → D → State → Type 0} (act : Act A) → Looks act → (F : A → Act B)
    (c : B → Act C) (g : B → Act D) (s : State) (f : Frame) (w : World)
    → ((a : A) → Follows S (and_then (F a s w) (on c)) (and_then (F a (with_frame f s) w) (on g)))
    → Follows S (and_then ((act >>= F) s w) (on c)) (and_then ((act >>= F) (with_frame f s) w) (on g))
looks-step act p F c g s f w next =
    pull (act s w) F c _ (push (act (with_frame f s) w) F g _ (looks-steps act p (λ a. F a >>= c) (λ a. F a >>= g) s f w next))

pub pure-step : {A B C D : Type 0} {S : C → State → D → State → Type 0} (act : Act A) → Pure act → (F : A → Act B)
    (c : B → Act C) (g : B → Act D) (s t : State) (w : World)
    → ((a : A) → Follows S (and_then (F a s w) (on c)) (and_then (F a t w) (on g)))
    → Follows S (and_then ((act >>= F) s w) (on c)) (and_then ((act >>= F) t w) (on g))
pure-step act p F c g s t w next =
    pull (act s w) F c _ (push (act t w) F g _ (pure-steps act p (λ a. F a >>= c) (λ a. F a >>= g) s t w next))

-- ---- what holds of a value that is given, and of the state then

abbrev pub Gave : {A : Type 0} → (A → State → Type 0) → Ran (Did A) → Type 0
Gave Q (Went (Gives a t) w) = Q a t
Gave Q (Went (Exits z t) w) = Unit {0}
Gave Q (Went Malformed w) = Unit {0}
Gave Q (Stops end trace) = Unit {0}

pub gave-then : {A B : Type 0} (P : A → State → Type 0) (Q : B → State → Type 0) (x : Ran (Did A)) (go : A → Act B)
    → Gave P x → ((a : A) (t : State) (w : World) → P a t → Gave Q (go a t w)) → Gave Q (and_then x (on go))
gave-then P Q (Went (Gives a t) w) go h next = next a t w h
gave-then P Q (Went (Exits z t) w) go h next = tt
gave-then P Q (Went Malformed w) go h next = tt
gave-then P Q (Stops end trace) go h next = tt

pub gave-as : {A : Type 0} (P Q : A → State → Type 0) (x : Ran (Did A)) → Gave P x → ((a : A) (t : State) → P a t → Q a t) → Gave Q x
gave-as P Q (Went (Gives a t) w) h next = next a t h
gave-as P Q (Went (Exits z t) w) h next = tt
gave-as P Q (Went Malformed w) h next = tt
gave-as P Q (Stops end trace) h next = tt
