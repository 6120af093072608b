-- What stays of a frame since its function was entered, and of the objects of before that are not those of its parameters.
use Rattle.std.specs.Prelude.{◌≡◌, ℕ, ◌≤◌, ◌<◌, ◌==◌, Bool, true, false, List, [], Some, ◌⊎◌}
use Rattle.std.specs.List.{list_any}
use Rattle.cf_base.specs.World.{World, Ran, Went, Stops}
use Rattle.cf_core.specs.Store.{Value, Object}
use Rattle.cf_core.specs.Run.{State, Did, Gives, Exits, Malformed, Act}

abbrev pub is_among : ℕ → List ℕ → Bool
is_among o os = list_any (λ (p : ℕ). p == o) os

-- an object that the function has made, or that of one of its parameters
abbrev pub IsOwn : State → List ℕ → ℕ → Type 0
IsOwn e os o = (is_among o os ≡ true) ⊎ (e.next ≤ o)

-- what the object holds at its root
pub record HasValue (x : Object) : Type 0 where
  pub value : Value
  pub held : x.held [] ≡ Some value

-- The function was entered in the first state, with these objects of its parameters.
pub record Since (e : State) (os : List ℕ) (s : State) : Type 0 where
  pub function : s.frame.function ≡ e.frame.function
  pub count : s.frame.count ≡ e.frame.count
  pub depth : s.frame.depth ≡ e.frame.depth
  pub next : e.next ≤ s.next
  pub locals : (i o : ℕ) → s.frame.locals i ≡ Some o → IsOwn e os o
  pub kept : (o : ℕ) → o < e.next → is_among o os ≡ false → (s.object o).is_gone ≡ (e.object o).is_gone
  pub valued : (o : ℕ) → o < e.next → HasValue (e.object o) → HasValue (s.object o)

-- where a run goes on, its state is so
abbrev pub AlwaysIn : {A : Type 0} → (State → Type 0) → Ran (Did A) → Type 0
AlwaysIn Q (Went (Gives a s) w) = Q s
AlwaysIn Q (Went (Exits status s) w) = Unit {0}
AlwaysIn Q (Went Malformed w) = Unit {0}
AlwaysIn Q (Stops end trace) = Unit {0}

pub record Always {A : Type 0} (Q : State → Type 0) (x : Ran (Did A)) : Type 0 where
  pub by : AlwaysIn Q x

-- what is so before an act is so behind it
pub record Keeps {A : Type 0} (Q : State → Type 0) (act : Act A) : Type 0 where
  pub by : (s : State) (w : World) → Q s → Always Q (act s w)
