-- Acts that keep what is so of a state, one after another, where they call `exit` too.
use Rattle.std.proofs.Common.{ℕ, Bool, true, false}
use Rattle.std.specs.Prelude.{Option, Some, None, Result, Ok, Err}
use Rattle.cf_base.specs.World.{Ran, Went, Stops, and_then}
use Rattle.cf_core.specs.Run.{State, Did, Gives, Exits, Malformed, Act, onward, ◌>>=◌, ◌>>◌, gives, malformed, undefined, state, need, valid, some_or, ok_or_act, when}
use Rattle.cf_plain_finished.specs.Finished.{Always, Keeps}

module _ (Q : State → Type 0) where
  pub always-then : {A B : Type 0} (x : Ran (Did A)) (go : A → Act B) → Always Q x → ((a : A) → Keeps Q (go a)) → Always Q (and_then x (λ did w. onward did go w))
  always-then (Went (Gives a s) w) go h k = (k a).by s w h.by
  always-then (Went (Exits z s) w) go h k = record { by = h.by }
  always-then (Went Malformed w) go h k = record { by = tt }
  always-then (Stops end trace) go h k = record { by = tt }

  pub keeps-then : {A B : Type 0} (act : Act A) (go : A → Act B) → Keeps Q act → ((a : A) → Keeps Q (go a)) → Keeps Q (act >>= go)
  keeps-then act go h k = record { by = λ s w q. always-then (act s w) go (h.by s w q) k }

  pub keeps-next : {A B : Type 0} (act : Act A) (next : Act B) → Keeps Q act → Keeps Q next → Keeps Q (act >> next)
  keeps-next act next h k = record { by = λ s w q. always-then (act s w) (λ _. next) (h.by s w q) (λ _. k) }

  pub keeps-gives : {A : Type 0} (a : A) → Keeps Q (gives a)
  keeps-gives a = record { by = λ s w q. record { by = q } }

  pub keeps-malformed : {A : Type 0} → Keeps {A = A} Q malformed
  keeps-malformed = record { by = λ s w q. record { by = tt } }

  pub keeps-undefined : {A : Type 0} (n : ℕ) → Keeps {A = A} Q (undefined n)
  keeps-undefined n = record { by = λ s w q. record { by = tt } }

  pub keeps-state : Keeps Q state
  keeps-state = record { by = λ s w q. record { by = q } }

  pub keeps-need : (b : Bool) (n : ℕ) → Keeps Q (need b n)
  keeps-need true n = keeps-gives tt
  keeps-need false n = keeps-undefined n

  pub keeps-valid : (b : Bool) → Keeps Q (valid b)
  keeps-valid true = keeps-gives tt
  keeps-valid false = keeps-malformed

  pub keeps-some : {A : Type 0} (x : Option A) (act : Act A) → Keeps Q act → Keeps Q (some_or x act)
  keeps-some None act h = h
  keeps-some (Some a) act h = keeps-gives a

  pub keeps-ok : {A : Type 0} (x : Result A ℕ) → Keeps Q (ok_or_act x)
  keeps-ok (Ok a) = keeps-gives a
  keeps-ok (Err n) = keeps-undefined n

  pub keeps-when : {A : Type 0} (b : Bool) (x y : Act A) → Keeps Q x → Keeps Q y → Keeps Q (when b x y)
  keeps-when true x y h k = h
  keeps-when false x y h k = k

  -- what follows the state, whatever it is
  pub keeps-at : {B : Type 0} (go : State → Act B) → ((s : State) → Keeps Q (go s)) → Keeps Q (state >>= go)
  keeps-at go k = keeps-then state go keeps-state k
