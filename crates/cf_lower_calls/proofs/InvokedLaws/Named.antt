-- A call by name in both: what its name and type are tested for, and then the function that is entered.
use Rattle.std.proofs.Common.{◌≡◌, ℕ, Bool, true, false, ◌==◌, List, [], ◌∷◌, length, refl, ap}
use Rattle.std.specs.Prelude.{Option, Some, None, Ok}
use Rattle.cf_base.specs.World.{World, Ran, and_then}
use Rattle.cf_base.specs.Agree.{Adds}
use Rattle.cf_core.specs.Types.{SourceType, same_but_const, parameters}
use Rattle.cf_core.specs.Core.{Function}
use Rattle.cf_core.specs.Store as source
use Rattle.cf_core.specs.Run.{State, Did, Act, onward, ◌>>=◌, ◌>>◌, need}
use Rattle.cf_core.specs.Calls as core
use Rattle.cf_core.specs.Calls.{enter}
use Rattle.cf_plain.specs.Plain as plain
use Rattle.cf_plain.specs.Acts.{Registers, objects_of, acts}
use Rattle.cf_plain.specs.Running.{Flow, calls}
use Rattle.cc_whole.specs.Plain as c_tree
use Rattle.cc_whole.specs.Plain.{Statement, by_name, in_order}
use Rattle.cc_whole_mean.specs.Flow as c
use Rattle.cc_whole_mean.proofs.Growth.{grows-runs, grows-helps, grows-does_all}
use Rattle.cf_lower.specs.Statements.{passed}
use Rattle.cf_lower_steps.specs.Flows.{Simulates}
use Rattle.cf_lower_turns.specs.Scene.{Scene, again_at, c_again_at, helps_at, list_at}
use Rattle.cf_lower_turns.proofs.Following.{sim-of}
use Rattle.cf_lower_calls.specs.Arguments.Passing.{ArgumentsThere}
use Rattle.cf_lower_calls.specs.Returns.Called.{Pair}
use Rattle.cf_lower_calls.specs.Invoked.Invoking.{programs_of}
use Rattle.cf_lower_calls.proofs.InvokedLaws.Source.{entering, call-tested, call-entered}

module _ (z : Scene) (n : ℕ) (f : Function) (e : c_tree.Function) (pair : Pair (programs_of z) f e) (t : SourceType) (g : Registers) (s : State) (u : c.State) (w : World)
    (is os : List ℕ) (there : ArgumentsThere s is os) (S : Flow → State → c.Flow → Type 0) (k : source.Value → Act Flow) (statements : List Statement) where
  abbrev core_again : core.Again
  core_again = calls (again_at z n)

  abbrev source-all : Ran (Did source.Value) → Ran (Did Flow)
  source-all x = and_then x (λ did w. onward did k w)

  abbrev c-list : Ran c.Flow
  c-list = list_at z n statements u w

  c-grows : Adds w.trace c-list
  c-grows =
      grows-does_all (c_again_at z n) (helps_at z n) (grows-runs z.c_program n) (grows-helps z.c_program (c_again_at z n) (grows-runs z.c_program n) z.helper) z.c_program
      z.helper (in_order statements) z.body.scope z.depth u w

  abbrev tested : Bool → Ran (Did source.Value)
  tested b = (need b 9 >> (objects_of is >>= entering core_again z.program f pair.found pair.no_library t g s w is os there)) s w

  -- where the type is the function's, otherwise the C may do anything
  by-type : (b : Bool) → (b ≡ true → length os ≡ length (parameters f.type)) → (b ≡ true → Simulates S (source-all (enter core_again f os None None s w)) c-list)
      → Simulates S (source-all (tested b)) c-list
  by-type false many same = record { by = c-grows.by }
  by-type true many same =
      sim-of S _ (source-all (tested true)) c-list
      (ap source-all (call-entered core_again z.program f pair.found pair.no_library t g s w is os there (many refl))) (same refl)

  pub call-by-name : (same_but_const f.type t ≡ true → length os ≡ length (parameters f.type))
      → (same_but_const f.type t ≡ true → Simulates S (source-all (enter core_again f os None None s w)) c-list)
      → Simulates S (source-all (acts core_again z.program g (plain.call f.name t None is None) s w)) c-list
  call-by-name many same =
      sim-of S _ (source-all (acts core_again z.program g (plain.call f.name t None is None) s w)) c-list
      (ap source-all (call-tested core_again z.program f pair.found pair.no_library t g s w is os there)) (by-type (same_but_const f.type t) many same)
