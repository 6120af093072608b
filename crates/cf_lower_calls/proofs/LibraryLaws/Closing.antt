-- Where the storage of a local's object ends that was open, the others are open: so it is behind the statement that ends it, which does nothing in the C.
use Rattle.std.proofs.Common.{◌≡◌, ℕ, ◌<◌, ◌≤◌, nat_lt, Bool, true, false, ◌&&◌, ◌==◌, not, if◌then◌else◌, List, [], ◌∷◌, length, refl, sym, ◌∙◌, ap, subst, arith}
use Rattle.std.specs.Prelude.{Option, Some, None}
use Rattle.std.proofs.lemmas.Bool.Decides.{nat_tests}
use Rattle.cf_base.specs.declared.kind.Kind.TheVariants.{Int}
use Rattle.cf_base.specs.World.{World, Ran, Went}
use Rattle.cf_core.specs.Types.{integer}
use Rattle.cf_core.specs.Run.{State, Did, Gives, ◌>>◌, gives, with_object, gone}
use Rattle.cf_plain.specs.Plain as plain
use Rattle.cf_plain.specs.Plain.{Register, act}
use Rattle.cf_plain.specs.Acts.{Registers, end_local}
use Rattle.cf_plain.specs.Running.{Flow, Falls, calls, does}
use Rattle.cf_plain_kept.specs.Kept.{nothing_set}
use Rattle.cc_whole_mean.specs.Flow as c
use Rattle.cf_lower.specs.Kept.{Keeping}
use Rattle.cf_lower_kept.specs.Opened.{Opened, is_open, closed, set_in, overwritten}
use Rattle.cf_lower_steps.specs.Flows.{Simulates}
use Rattle.cf_lower_turns.specs.Around.{Around, depth_of}
use Rattle.cf_lower_turns.specs.Scene.{Scene, again_at}
use Rattle.cf_lower_turns.proofs.Following.{sim-of}
use Rattle.cf_lower_calls.specs.Invoked.LowerActions.{Fits}
use Rattle.cf_lower_bounds.specs.Points.{Point, point_at, local_count, At}
use Rattle.cf_lower_bounds.specs.Bounds.{EndsAt}
use Rattle.cf_lower_calls.proofs.InvokedLaws.LowerPoints.{leads-always}

-- what a run that falls in both comes to
falls-same : {x y : c.State} → c.Falls x ≡ c.Falls y → x ≡ y
falls-same e = cc

went-same : {x y : c.Flow} {w : World} → Went x w ≡ Went y w → x ≡ y
went-same e = cc

module _ (z : Scene) (fits : Fits z) (around : Around Point) (h : Keeping) (xs : List Opened) (i o : ℕ) (lt : i < local_count z) (open_there : is_open i xs ≡ true)
    (g : Registers) (s : State) (u : c.State) (w : World) (at : At z (point_at h xs) (depth_of around) g s u) (there : s.frame.locals i ≡ Some o) where
  abbrev S : Flow → State → c.Flow → Type 0
  S = EndsAt z around (point_at h (closed i xs))

  leads : Simulates S (does (again_at z 0) z.program (act (plain.finish (integer Int) i)) g s w) (Went (c.Falls u) w)
  leads =
      leads-always z fits around nothing_set h xs (λ r. tt) (act (plain.finish (integer Int) i))
      (ap (λ b. b && true) (let k : nat_lt i (length z.body.own.locals.types) ≡ true = grind (arith, nat_tests, lt) in k))
      open_there 0 g s u w at

  abbrev finishing : Option ℕ → Ran (Did Flow)
  finishing x = (end_local (calls (again_at z 0)) z.program (integer Int) x >> gives (Falls g)) s w

  done : Simulates S (Went (Gives (Falls g) (with_object o gone s)) w) (Went (c.Falls u) w)
  done = sim-of S _ (Went (Gives (Falls g) (with_object o gone s)) w) (Went (c.Falls u) w) (sym (ap finishing there)) leads

  pub closed-at : At z (point_at h (closed i xs)) (depth_of around) g (with_object o gone s) u
  closed-at =
      let x = done.by in
      let e : x.related.after ≡ u = falls-same (sym x.related.is ∙ went-same (sym x.run)) in
      subst (λ t. At z (point_at h (closed i xs)) (depth_of around) g (with_object o gone s) t) e x.related.related

-- it is the same whether a register is set before or behind it
pub closed-set : (i : ℕ) (r : Register) (xs : List Opened) → closed i (set_in r xs) ≡ set_in r (closed i xs)
closed-set i r [] = refl
closed-set i r (x ∷ xs) = by_test (closed-set i r xs) (x.local == i)
  where
    by_test : closed i (set_in r xs) ≡ set_in r (closed i xs) → (b : Bool)
        → (if not b then overwritten r [] x ∷ closed i (set_in r xs) else closed i (set_in r xs)) ≡ set_in r (if not b then x ∷ closed i xs else closed i xs)
    by_test rest true = rest
    by_test rest false = ap (λ (l : List Opened). overwritten r [] x ∷ l) rest
