-- Acts that never are malformed, one after another.
use Rattle.std.proofs.Common.{◌≡◌, ℕ, zero, suc, Bool, true, false, List, refl}
use Rattle.std.specs.Prelude.{Option, Some, None}
use Rattle.cf_base.specs.World.{World, Ran, Went, Stops, and_then, spend_of}
use Rattle.cf_core.specs.Types.{SourceType}
use Rattle.cf_core.specs.Run.{State, Did, Gives, Exits, Malformed, Act, onward, ◌>>=◌, ◌>>◌, gives, undefined, state, changed, need, valid, some_or, when}
use Rattle.cf_core.specs.Calls.{Program}
use Rattle.cf_core.specs.Objects.{one_tick}
use Rattle.cf_core_sound.specs.States.{Sound, Later, Behind}
use Rattle.cf_core_sound.specs.Well.{OfBytes, Ends, Well}
use Rattle.cf_core_sound.proofs.Moments.{behind-self, behind-then}

module _ (P : Program) (locals : List SourceType) where
  pub ends-behind : {A : Type 0} {Q : A → State → Type 0} (s t : State) (x : Ran (Did A)) → Later s t → Ends P locals t Q x → Ends P locals s Q x
  ends-behind s t (Went (Gives a u) w) h k = record { by = (behind-then P locals s t u h k.by.0, k.by.1, k.by.2) }
  ends-behind s t (Went (Exits z u) w) h k = record { by = tt }
  ends-behind s t (Went Malformed w) h k = absurd k.by
  ends-behind s t (Stops end trace) h k = record { by = tt }

  ends-then : {A B : Type 0} {Q : A → State → Type 0} {R : B → State → Type 0} (s : State) (x : Ran (Did A)) (go : A → Act B)
      → Ends P locals s Q x → ((a : A) (t : State) → Behind P locals s t → Q a t → Well P locals t R (go a))
      → Ends P locals s R (and_then x (λ did w. onward did go w))
  ends-then s (Went (Gives a t) w) go h k = ends-behind s t (go a t w) h.by.0.later ((k a t h.by.0 h.by.1).by w h.by.2)
  ends-then s (Went (Exits z t) w) go h k = record { by = tt }
  ends-then s (Went Malformed w) go h k = absurd h.by
  ends-then s (Stops end trace) go h k = record { by = tt }

  pub well-then : {A B : Type 0} {Q : A → State → Type 0} {R : B → State → Type 0} (s : State) (act : Act A) (go : A → Act B)
      → Well P locals s Q act → ((a : A) (t : State) → Behind P locals s t → Q a t → Well P locals t R (go a)) → Well P locals s R (act >>= go)
  well-then s act go h k = record { by = λ w bytes. ends-then s (act s w) go (h.by w bytes) k }

  pub well-next : {A B : Type 0} {Q : A → State → Type 0} {R : B → State → Type 0} (s : State) (act : Act A) (next : Act B)
      → Well P locals s Q act → ((a : A) (t : State) → Behind P locals s t → Q a t → Well P locals t R next) → Well P locals s R (act >> next)
  well-next s act next h k = record { by = λ w bytes. ends-then s (act s w) (λ _. next) (h.by w bytes) k }

  ends-as : {A : Type 0} {Q R : A → State → Type 0} (s : State) (x : Ran (Did A)) → Ends P locals s Q x
      → ((a : A) (t : State) → Behind P locals s t → Q a t → R a t) → Ends P locals s R x
  ends-as s (Went (Gives a t) w) h k = record { by = (h.by.0, k a t h.by.0 h.by.1, h.by.2) }
  ends-as s (Went (Exits z t) w) h k = record { by = tt }
  ends-as s (Went Malformed w) h k = absurd h.by
  ends-as s (Stops end trace) h k = record { by = tt }

  pub well-as : {A : Type 0} {Q R : A → State → Type 0} (s : State) (act : Act A) → Well P locals s Q act
      → ((a : A) (t : State) → Behind P locals s t → Q a t → R a t) → Well P locals s R act
  well-as s act h k = record { by = λ w bytes. ends-as s (act s w) (h.by w bytes) k }

  pub well-gives : {A : Type 0} {Q : A → State → Type 0} (s : State) (a : A) → Sound P locals s → Q a s → Well P locals s Q (gives a)
  well-gives s a h q = record { by = λ w bytes. record { by = (behind-self P locals s h, q, bytes) } }

  pub well-undefined : {A : Type 0} {Q : A → State → Type 0} (s : State) (n : ℕ) → Well P locals s Q (undefined n)
  well-undefined s n = record { by = λ w bytes. record { by = tt } }

  -- what follows the state, whatever it is
  pub well-at : {B : Type 0} {R : B → State → Type 0} (s : State) (go : State → Act B) → Sound P locals s → Well P locals s R (go s) → Well P locals s R (state >>= go)
  well-at s go h k = record { by = λ w bytes. k.by w bytes }

  pub well-changed : (s : State) (f : State → State) → Behind P locals s (f s) → Well P locals s (λ _ t. t ≡ f s) (changed f)
  well-changed s f h = record { by = λ w bytes. record { by = (h, refl, bytes) } }

  -- behind a need that is met the moment is the same
  pub well-need : {B : Type 0} {R : B → State → Type 0} (s : State) (b : Bool) (n : ℕ) (next : Act B) → (b ≡ true → Well P locals s R next) → Well P locals s R (need b n >> next)
  well-need s true n next k = record { by = λ w bytes. (k refl).by w bytes }
  well-need s false n next k = record { by = λ w bytes. record { by = tt } }

  pub well-valid : {B : Type 0} {R : B → State → Type 0} (s : State) (b : Bool) (next : Act B) → b ≡ true → Well P locals s R next → Well P locals s R (valid b >> next)
  well-valid s true next e k = record { by = λ w bytes. k.by w bytes }
  well-valid s false next e k = absurd (cc)

  pub well-some : {A B : Type 0} {R : B → State → Type 0} (s : State) (x : Option A) (n : ℕ) (go : A → Act B)
      → ((a : A) → x ≡ Some a → Well P locals s R (go a)) → Well P locals s R (some_or x (undefined n) >>= go)
  well-some s None n go k = record { by = λ w bytes. record { by = tt } }
  well-some s (Some a) n go k = record { by = λ w bytes. (k a refl).by w bytes }

  pub well-when : {A : Type 0} {R : A → State → Type 0} (s : State) (b : Bool) (x y : Act A) → (b ≡ true → Well P locals s R x) → (b ≡ false → Well P locals s R y) → Well P locals s R (when b x y)
  well-when s true x y h k = h refl
  well-when s false x y h k = k refl

  abbrev Spent : Unit {0} → State → Type 0
  Spent = λ _ t. Unit {0}

  -- behind a tick that is spent, or none
  pub well-tick : {A : Type 0} {R : A → State → Type 0} (s : State) (b : Bool) (next : Act A) → Sound P locals s → ((t : State) → Behind P locals s t → Well P locals t R next) → Well P locals s R (one_tick b >> next)
  well-tick s b next h k = well-next {Q = Spent} s (one_tick b) next (spent b) (λ _ t d q. k t d)
    where
      by_ticks : (w : World) → OfBytes w.input → (n : ℕ) → Ends P locals s Spent (spend_of n w (λ w. Went (Gives tt s) w))
      by_ticks w bytes zero = record { by = tt }
      by_ticks w bytes (suc n) = record { by = (behind-self P locals s h, tt, bytes) }

      spent : (b : Bool) → Well P locals s Spent (one_tick b)
      spent true = record { by = λ w bytes. by_ticks w bytes w.ticks }
      spent false = well-gives s tt h tt
