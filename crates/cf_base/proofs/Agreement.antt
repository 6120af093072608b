-- The laws of agreement: how a simulation of the parts of two runs is one of the whole.
use Rattle.std.proofs.Common.{◌≡◌, ℕ, zero, suc, List, [], ◌∷◌, ◌++◌, refl, sym, ◌∙◌, ap, subst, append_assoc, append-nil}
use Rattle.std.specs.Prelude.{ℤ}
use Rattle.cf_base.specs.Event.{Event, End, Ended, Ticks, Depth, Undefined}
use Rattle.cf_base.specs.World.{World, Ran, Went, Stops, and_then, shown, spend_of, deeper, Outcome, outcome}
use Rattle.cf_base.specs.Agree.{Begins, AgreesFrom, Agree, StopsAs, GoesOnAs, Sim, Adds}

-- ---- fronts of traces

pub begins-refl : (t : List Event) → Begins t t
begins-refl t = record { rest = []; parts = sym (append-nil t) }

pub begins-trans : (a b c : List Event) → Begins a b → Begins b c → Begins a c
begins-trans a b c p q = record {
  rest = p.rest ++ q.rest;
  parts = q.parts ∙ ap (λ t. t ++ q.rest) p.parts ∙ append_assoc a p.rest q.rest;
}

pub begins-more : (t : List Event) (e : Event) (c : List Event) → Begins (t ++ e ∷ []) c → Begins t c
begins-more t e c p = begins-trans t (t ++ e ∷ []) c (record { rest = e ∷ []; parts = refl }) p

-- ---- a run's trace only grows

pub adds-went : {A : Type 0} (t : List Event) (a : A) (w : World) → Begins t w.trace → Adds t (Went a w)
adds-went t a w p = record { by = p }

pub adds-stops : {A : Type 0} (t : List Event) (end : End) (u : List Event) → Begins t u → Adds {A = A} t (Stops end u)
adds-stops t end u p = record { by = p }

pub adds-from : {A : Type 0} (t u : List Event) (y : Ran A) → Begins t u → Adds u y → Adds t y
adds-from t u y p q = record { by = begins-trans t u (shown y) p q.by }

pub adds-then : {A B : Type 0} (t : List Event) (y : Ran A) (go : A → World → Ran B)
    → Adds t y → ((a : A) (w : World) → Adds w.trace (go a w)) → Adds t (and_then y go)
adds-then t (Went a w) go p more = adds-from t w.trace (go a w) p.by (more a w)
adds-then t (Stops end u) go p more = record { by = p.by }

pub adds-spend_of : {A : Type 0} (n : ℕ) (w : World) (go : World → Ran A)
    → ((v : World) → v.trace ≡ w.trace → Adds w.trace (go v)) → Adds w.trace (spend_of n w go)
adds-spend_of zero w go more = record { by = begins-refl w.trace }
adds-spend_of (suc n) w go more = more _ refl

pub adds-deeper : {A : Type 0} (d : ℕ) (w : World) (go : ℕ → Ran A)
    → ((n : ℕ) → Adds w.trace (go n)) → Adds w.trace (deeper d w go)
adds-deeper zero w go more = record { by = begins-refl w.trace }
adds-deeper (suc d) w go more = more d

-- ---- simulation

pub sim-went : {A B : Type 0} (R : A → B → Type 0) (a : A) (b : B) (w : World) → R a b → Sim R (Went a w) (Went b w)
sim-went R a b w r = record { by = (r, refl) }

pub sim-stops : {A B : Type 0} (R : A → B → Type 0) (end : End) (t : List Event) → Sim {A = A} {B = B} R (Stops end t) (Stops end t)
sim-stops R (Ended v) t = record { by = refl }
sim-stops R Ticks t = record { by = refl }
sim-stops R Depth t = record { by = refl }
sim-stops R (Undefined u) t = record { by = begins-refl t }

-- where the source's run is undefined, the other has only to add to the trace
pub sim-undefined : {A B : Type 0} (R : A → B → Type 0) (u : ℕ) (t : List Event) (y : Ran B) → Adds t y → Sim {A = A} R (Stops (Undefined u) t) y
sim-undefined R u t y p = record { by = p.by }

stops-then : {C D : Type 0} {B : Type 0} (S : C → D → Type 0) (end : End) (t : List Event) (y : Ran B) (g : B → World → Ran D)
    → StopsAs end t y → ((b : B) (w : World) → Adds w.trace (g b w)) → StopsAs end t (and_then y g)
stops-then S (Ended v) t y g e more = ap (λ r. and_then r g) e
stops-then S Ticks t y g e more = ap (λ r. and_then r g) e
stops-then S Depth t y g e more = ap (λ r. and_then r g) e
stops-then S (Undefined u) t y g p more =
    let begun : Adds t y = record { by = p } in (adds-then t y g begun more).by

pub sim-then : {A B C D : Type 0} {R : A → B → Type 0} {S : C → D → Type 0} (x : Ran A) (y : Ran B) (f : A → World → Ran C) (g : B → World → Ran D)
    → Sim R x y
    → ((a : A) (b : B) (w : World) → R a b → Sim S (f a w) (g b w))
    → ((b : B) (w : World) → Adds w.trace (g b w))
    → Sim S (and_then x f) (and_then y g)
sim-then {S = S} (Went a w) (Went b v) f g s next more =
    subst (λ u. Sim S (f a w) (g b u)) s.by.1 (next a b w s.by.0)
sim-then (Went a w) (Stops end t) f g s next more = absurd s.by
sim-then {S = S} (Stops end t) y f g s next more = record { by = stops-then S end t y g s.by more }

pub sim-spend_of : {A B : Type 0} {R : A → B → Type 0} (n : ℕ) (w : World) (f : World → Ran A) (g : World → Ran B)
    → ((v : World) → v.trace ≡ w.trace → Sim R (f v) (g v)) → Sim R (spend_of n w f) (spend_of n w g)
sim-spend_of {R = R} zero w f g next = sim-stops R Ticks w.trace
sim-spend_of (suc n) w f g next = next _ refl

pub sim-deeper : {A B : Type 0} {R : A → B → Type 0} (d : ℕ) (w : World) (f : ℕ → Ran A) (g : ℕ → Ran B)
    → ((n : ℕ) → Sim R (f n) (g n)) → Sim R (deeper d w f) (deeper d w g)
sim-deeper {R = R} zero w f g next = sim-stops R Depth w.trace
sim-deeper (suc d) w f g next = next d

-- a wider relation of results
stops-wider : {A B : Type 0} (R S : A → B → Type 0) (a : A) (w : World) (y : Ran B)
    → ((b : B) → R a b → S a b) → GoesOnAs R a w y → GoesOnAs S a w y
stops-wider R S a w (Went b v) wider s = (wider b s.0, s.1)
stops-wider R S a w (Stops end t) wider s = s

pub sim-wider : {A B : Type 0} (R S : A → B → Type 0) (x : Ran A) (y : Ran B)
    → ((a : A) (b : B) → R a b → S a b) → Sim R x y → Sim S x y
sim-wider R S (Went a w) y wider s = record { by = stops-wider R S a w y (wider a) s.by }
sim-wider R S (Stops end t) y wider s = record { by = s.by }

-- ---- whole runs

ends-agree : (end : End) (t : List Event) (y : Ran ℤ) → StopsAs end t y → AgreesFrom end t (outcome y)
ends-agree (Ended v) t y e = ap outcome e
ends-agree Ticks t y e = ap outcome e
ends-agree Depth t y e = ap outcome e
ends-agree (Undefined u) t (Went a w) p = p
ends-agree (Undefined u) t (Stops end v) p = p

pub agree-sim : (x y : Ran ℤ) → Sim (λ (a b : ℤ). a ≡ b) x y → Agree (outcome x) (outcome y)
agree-sim (Went a w) (Went b v) s =
    record { by = ap (λ z. record { end = Ended z; trace = v.trace }) (sym s.by.0) ∙ ap (λ (u : World). record { end = Ended a; trace = u.trace }) (sym s.by.1) }
agree-sim (Went a w) (Stops end t) s = absurd s.by
agree-sim (Stops end t) y s = record { by = ends-agree end t y s.by }

agrees-through : (end : End) (t : List Event) (y z : Outcome) → AgreesFrom end t y → Agree y z → AgreesFrom end t z
agrees-through (Ended v) t y z e q = let P : Outcome → Type 0 = λ o. AgreesFrom o.end o.trace z in subst P e q.by
agrees-through Ticks t y z e q = let P : Outcome → Type 0 = λ o. AgreesFrom o.end o.trace z in subst P e q.by
agrees-through Depth t y z e q = let P : Outcome → Type 0 = λ o. AgreesFrom o.end o.trace z in subst P e q.by
agrees-through (Undefined u) t y z p q = begins-trans t y.trace z.trace p (agree-begins y.end y.trace z q.by)
  where
    agree-begins : (end : End) (t : List Event) (z : Outcome) → AgreesFrom end t z → Begins t z.trace
    agree-begins (Ended v) t z e = record { rest = []; parts = ap (λ (o : Outcome). o.trace) e ∙ sym (append-nil t) }
    agree-begins Ticks t z e = record { rest = []; parts = ap (λ (o : Outcome). o.trace) e ∙ sym (append-nil t) }
    agree-begins Depth t z e = record { rest = []; parts = ap (λ (o : Outcome). o.trace) e ∙ sym (append-nil t) }
    agree-begins (Undefined v) t z p = p

-- agreement over two passes is agreement over both
pub agree-through : (x y z : Outcome) → Agree x y → Agree y z → Agree x z
agree-through x y z p q = record { by = agrees-through x.end x.trace y z p.by q }
