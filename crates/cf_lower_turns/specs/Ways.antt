-- How statements end in both, by what stands around them.
use Rattle.std.specs.Prelude.{◌≡◌, ℕ, suc, Option, Some, None}
use Rattle.cf_core.specs.Store.{Value}
use Rattle.cf_core.specs.Run.{State}
use Rattle.cf_plain.specs.Acts.{Registers}
use Rattle.cf_plain.specs.Running.{Falls, Breaks, Continues, Returns}
use Rattle.cc_whole_mean.specs.Scope.{Scope}
use Rattle.cc_whole_mean.specs.Flow as c
use Rattle.cf_lower_control.specs.StepsFlows.{Ways}
use Rattle.cf_lower_turns.specs.Around.{Around, function, turns, stepped, step, cases, depth_of, gone_on_to}
use Rattle.cf_lower_turns.specs.Flags.{Shows}

-- the C ends in this way, and its state is so
pub record EndsBy (way : c.State → c.Flow) (Q : c.State → Type 0) (flow : c.Flow) : Type 0 where
  pub after : c.State
  pub is : flow ≡ way after
  pub related : Q after

-- what relates both at a point where so many flags are 0
abbrev pub Relation : Type 0 → Type 1
Relation Point = Point → ℕ → Registers → State → c.State → Type 0

-- how both end that return
abbrev pub Giving : Type 1
Giving = Value → State → c.Flow → Type 0

module _ (Point : Type 0) (scope : Scope) (R : Relation Point) (gives : Giving) where
  -- by a `break` of the C, with the flag of this number set
  abbrev pub flagged : Option Point → ℕ → Registers → State → c.Flow → Type 0
  flagged None d g s flow = ⊥
  flagged (Some p) d g s flow = EndsBy c.Breaks (λ t. R p d g s t × Shows scope d 1 t.memory) flow

  abbrev pub ways_of : Around Point → Ways
  ways_of around (Falls g) s flow = ⊥
  ways_of around (Returns v) s flow = gives v s flow
  ways_of function (Breaks g) s flow = ⊥
  ways_of function (Continues g) s flow = ⊥
  ways_of (turns p around) (Breaks g) s flow = EndsBy c.Breaks (λ t. R p (depth_of around) g s t) flow
  ways_of (turns p around) (Continues g) s flow = EndsBy c.Continues (λ t. R p (depth_of around) g s t) flow
  ways_of (stepped p around) (Breaks g) s flow = flagged (Some p) (depth_of around) g s flow
  ways_of (stepped p around) (Continues g) s flow = EndsBy c.Breaks (λ t. R p (suc (depth_of around)) g s t) flow
  ways_of (step p around) (Breaks g) s flow = EndsBy c.Breaks (λ t. R p (depth_of around) g s t) flow
  ways_of (step p around) (Continues g) s flow = ⊥
  ways_of (cases p around) (Breaks g) s flow = EndsBy c.Breaks (λ t. R p (suc (depth_of around)) g s t) flow
  ways_of (cases p around) (Continues g) s flow = flagged (gone_on_to around) (depth_of around) g s flow

  -- those that fall do so in both, at this point
  abbrev pub ends : Around Point → Point → Ways
  ends around p (Falls g) s flow = EndsBy c.Falls (λ t. R p (depth_of around) g s t) flow
  ends around p (Breaks g) s flow = ways_of around (Breaks g) s flow
  ends around p (Continues g) s flow = ways_of around (Continues g) s flow
  ends around p (Returns v) s flow = ways_of around (Returns v) s flow
