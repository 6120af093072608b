-- What a run of an act gives.
use Rattle.cf_base.specs.World.{World, Ran, Went, Stops, and_then}
use Rattle.cf_core.specs.Run.{State, Did, Gives, Exits, Malformed, Act, onward}
use Rattle.cf_plain_frames.specs.Since.{Always}

abbrev pub InGiven : {A : Type 0} → (A → State → Type 0) → Ran (Did A) → Type 0
InGiven Q (Went (Gives a s) w) = Q a s
InGiven Q (Went (Exits status s) w) = Unit {0}
InGiven Q (Went Malformed w) = Unit {0}
InGiven Q (Stops end trace) = Unit {0}

pub record Given {A : Type 0} (Q : A → State → Type 0) (x : Ran (Did A)) : Type 0 where
  pub by : InGiven Q x

pub given-then : {A B : Type 0} (P : A → State → Type 0) (Q : B → State → Type 0) (x : Ran (Did A)) (go : A → Act B) → Given P x
    → ((a : A) (s : State) (w : World) → P a s → Given Q (go a s w)) → Given Q (and_then x (λ did w. onward did go w))
given-then P Q (Went (Gives a s) w) go h k = k a s w h.by
given-then P Q (Went (Exits z s) w) go h k = record { by = tt }
given-then P Q (Went Malformed w) go h k = record { by = tt }
given-then P Q (Stops end trace) go h k = record { by = tt }

pub given-always : {A : Type 0} (Q : State → Type 0) (x : Ran (Did A)) → Always Q x → Given (λ (a : A) s. Q s) x
given-always Q (Went (Gives a s) w) h = record { by = h.by }
given-always Q (Went (Exits z s) w) h = record { by = tt }
given-always Q (Went Malformed w) h = record { by = tt }
given-always Q (Stops end trace) h = record { by = tt }

pub given-both : {A : Type 0} (P Q : A → State → Type 0) (x : Ran (Did A)) → Given P x → Given Q x → Given (λ a s. P a s × Q a s) x
given-both P Q (Went (Gives a s) w) h k = record { by = (h.by, k.by) }
given-both P Q (Went (Exits z s) w) h k = record { by = tt }
given-both P Q (Went Malformed w) h k = record { by = tt }
given-both P Q (Stops end trace) h k = record { by = tt }

pub given-any : {A : Type 0} (Q : A → State → Type 0) (x : Ran (Did A)) → ((a : A) (s : State) → Q a s) → Given Q x
given-any Q (Went (Gives a s) w) h = record { by = h a s }
given-any Q (Went (Exits z s) w) h = record { by = tt }
given-any Q (Went Malformed w) h = record { by = tt }
given-any Q (Stops end trace) h = record { by = tt }
