-- From what an action gives to the statement that keeps it, or drops it.
use Rattle.std.proofs.Common.{◌≡◌, ℕ, ◌<◌, Bool, true, false, ◌==◌, if◌then◌else◌, [], append-nil, refl, sym, ◌∙◌, ap, subst}
use Rattle.std.specs.Prelude.{Option, Some, None, Result}
use Rattle.cf_base.specs.Event.{Ended, Ticks, Depth, Undefined}
use Rattle.cf_base.specs.World.{World, Ran, Went, Stops, and_then, shown}
use Rattle.cf_base.specs.Agree.{Begins}
use Rattle.cf_core.specs.Store as source
use Rattle.cf_core.specs.Run.{State, Did, Gives, Exits, Malformed, onward, gives}
use Rattle.cf_lower_layout.specs.Sorts.{Sort}
use Rattle.cf_plain.specs.Plain.{Register, Action, act, set}
use Rattle.cf_plain.specs.Acts.{Registers, acts}
use Rattle.cf_plain.specs.Running.{Falls, calls, does, keep as keep_value}
use Rattle.cc_whole.specs.Plain.{Expression, Statement}
use Rattle.cc_whole_memory.specs.declared.value.Value.{Value}
use Rattle.cc_whole_mean.specs.Flow as c
use Rattle.cc_whole_mean.specs.Values.{value_of, source_of}
use Rattle.cf_lower_relate.proofs.Values.{grows-same}
use Rattle.cf_lower.specs.Kept.{Kept, unknown, integer_of, holds, argument, Keeping, keep, local_kept}
use Rattle.cf_lower.specs.Expressions.{local_value}
use Rattle.cf_lower.specs.Statements.{lowered, put_in, done}
use Rattle.cf_lower_steps.specs.Steps.{KeptAs, InRegisters, Step}
use Rattle.cf_lower_steps.specs.Flows.{Between, Simulates, Ends}
use Rattle.cf_lower_steps.specs.Lowering.{runs, falls_only}
use Rattle.cf_lower_steps.specs.Moment.{Moment, fixed, Stands, Lowers}
use Rattle.cf_lower_steps.proofs.Registers.{kept-other, same-register}
use Rattle.cf_lower_steps.proofs.Statements.{sets-register}
use Rattle.cf_lower_pointers.specs.Sets.{Sets, Drops}

module _ (at : Moment) (h : Stands at) where
  abbrev Acts : Action → Kept → Result Value ℕ → Type 0
  Acts a y found = Step (fixed at) at.map (acts (calls at.again) at.program at.registers a at.state at.world) at.state at.world y found

  -- the C assigns the action's expression to the C local of the register
  pub sets : (a : Action) (y : Kept) (u : Sort) (e : Expression) → local_kept y ≡ Some u → source_of e at.scope at.memory.memory ≡ None
      → ((r : Register) → lowered (set r a) at.inside at.kept ≡ put_in at.inside (Some u) r e) → Acts a y (value_of e at.scope at.memory.memory) → Sets a y at
  sets a y u e local no_load written step r lt =
      subst (λ ss. Simulates (Ends (fixed at) at.own at.scope at.map (keep at.kept r y) falls_only) (does at.again at.program (set r a) at.registers at.state at.world)
      (runs at.c_again at.helps at.c_program at.helper at.scope at.depth ss at.memory at.world))
      (sym (written r))
      (sets-register at.c_again at.helps at.c_program at.helper at.scope at.depth (fixed at) at.own at.map at.kept at.registers at.state at.memory at.world h.between h.below
      y u r lt local e no_load falls_only _ step)

  -- ---- nothing to do in C

  nothing-kept : (y : Kept) → local_kept y ≡ None → (v : source.Value) (found : Result Value ℕ) → KeptAs (fixed at) at.map y v found
  nothing-kept unknown e v found = tt
  nothing-kept (argument i t) e v found = tt
  nothing-kept (integer_of f) e v found = absurd (cc)
  nothing-kept (holds u) e v found = absurd (cc)

  registers-with : (y : Kept) → local_kept y ≡ None → (r : Register) (v : source.Value)
      → InRegisters (fixed at) at.map (keep at.kept r y) (keep_value at.registers r v) at.scope at.memory.memory
  registers-with y e r v q z is = by_test (q == r) refl
    where
      by_test : (b : Bool) → q == r ≡ b
          → KeptAs (fixed at) at.map (if b then y else at.kept q) z (value_of (local_value (local_kept (if b then y else at.kept q)) q) at.scope at.memory.memory)
      by_test true t = nothing-kept y e z _
      by_test false t = h.between.registers q z (sym (kept-other at.registers r q v t) ∙ is)

  module _ (y : Kept) (none : local_kept y ≡ None) (r : Register) where
    silent-gives : (ran : Ran (Did source.Value)) (found : Result Value ℕ) → Step (fixed at) at.map ran at.state at.world unknown found
        → Simulates (Ends (fixed at) at.own at.scope at.map (keep at.kept r y) falls_only)
        (and_then ran (λ did w. onward did (λ v. gives (Falls (keep_value at.registers r v))) w)) (Went (c.Falls at.memory) at.world)
    silent-gives (Went (Gives v s) w) found step =
        subst (λ z. Simulates (Ends (fixed at) at.own at.scope at.map (keep at.kept r y) falls_only) (Went (Gives (Falls (keep_value at.registers r v)) z) w)
        (Went (c.Falls at.memory) at.world)) (sym step.by.0)
        (subst (λ z. Simulates (Ends (fixed at) at.own at.scope at.map (keep at.kept r y) falls_only) (Went (Gives (Falls (keep_value at.registers r v)) at.state) z)
        (Went (c.Falls at.memory) at.world)) (sym step.by.1)
        (record {
          by = record {
            value = c.Falls at.memory;
            run = refl;
            related = record {
              after = at.memory;
              is = refl;
              stays = record {
                map = at.map;
                grows = grows-same at.map;
                between = record { rel = h.between.rel; registers = registers-with y none r v; blocks = h.between.blocks; locals = h.between.locals };
              };
            };
          };
        }))
    silent-gives (Went (Exits z s) w) found step = absurd step.by
    silent-gives (Went Malformed w) found step = record { by = tt }
    silent-gives (Stops (Undefined n) trace) found step =
        record { by = subst (λ t. Begins t at.world.trace) (sym step.by) (record { rest = []; parts = sym (append-nil at.world.trace) }) }
    silent-gives (Stops (Ended status) trace) found step = absurd step.by
    silent-gives (Stops Ticks trace) found step = absurd step.by
    silent-gives (Stops Depth trace) found step = absurd step.by

  -- what is kept of an action needs no C local
  pub sets-none : (a : Action) (y : Kept) (found : Result Value ℕ) → local_kept y ≡ None → ((r : Register) → lowered (set r a) at.inside at.kept ≡ [])
      → Acts a unknown found → Sets a y at
  sets-none a y found none written step r lt =
      subst (λ ss. Simulates (Ends (fixed at) at.own at.scope at.map (keep at.kept r y) falls_only) (does at.again at.program (set r a) at.registers at.state at.world)
      (runs at.c_again at.helps at.c_program at.helper at.scope at.depth ss at.memory at.world))
      (sym (written r)) (silent-gives y none r _ found step)

  dropped : (ran : Ran (Did source.Value)) (x : Kept) (found : Result Value ℕ) → Step (fixed at) at.map ran at.state at.world x found
      → Simulates (Ends (fixed at) at.own at.scope at.map at.kept falls_only)
      (and_then ran (λ did w. onward did (λ v. gives (Falls at.registers)) w)) (Went (c.Falls at.memory) at.world)
  dropped (Went (Gives v s) w) x found step =
      subst (λ z. Simulates (Ends (fixed at) at.own at.scope at.map at.kept falls_only) (Went (Gives (Falls at.registers) z) w) (Went (c.Falls at.memory) at.world))
      (sym step.by.0)
      (subst (λ z. Simulates (Ends (fixed at) at.own at.scope at.map at.kept falls_only) (Went (Gives (Falls at.registers) at.state) z) (Went (c.Falls at.memory) at.world))
      (sym step.by.1)
      (record {
        by = record {
          value = c.Falls at.memory;
          run = refl;
          related = record { after = at.memory; is = refl; stays = record { map = at.map; grows = grows-same at.map; between = h.between } };
        };
      }))
  dropped (Went (Exits z s) w) x found step = absurd step.by
  dropped (Went Malformed w) x found step = record { by = tt }
  dropped (Stops (Undefined n) trace) x found step =
      record { by = subst (λ t. Begins t at.world.trace) (sym step.by) (record { rest = []; parts = sym (append-nil at.world.trace) }) }
  dropped (Stops (Ended status) trace) x found step = absurd step.by
  dropped (Stops Ticks trace) x found step = absurd step.by
  dropped (Stops Depth trace) x found step = absurd step.by

  -- an action whose value isn't kept, and that does nothing else
  pub drops : (a : Action) (x : Kept) (found : Result Value ℕ) → done at.inside at.kept a ≡ [] → Acts a x found → Drops a at
  drops a x found written step =
      subst (λ ss. Simulates (Ends (fixed at) at.own at.scope at.map at.kept falls_only) (does at.again at.program (act a) at.registers at.state at.world)
      (runs at.c_again at.helps at.c_program at.helper at.scope at.depth ss at.memory at.world))
      (sym written) (dropped _ x found step)
