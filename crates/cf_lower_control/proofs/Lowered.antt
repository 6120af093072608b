-- A loop without a step beside its C.
use Rattle.std.proofs.Common.{◌≡◌, Bool, true, false, if◌then◌else◌, refl, sym, subst}
use Rattle.std.specs.Prelude.{Option, Some}
use Rattle.cf_core.specs.Store as source
use Rattle.cf_plain.specs.Plain.{Plains, loop, nothing}
use Rattle.cf_plain.specs.Acts.{Registers}
use Rattle.cc_whole_memory.specs.declared.value.Value.{Value}
use Rattle.cc_whole_memory.specs.Blocks.{Memory}
use Rattle.cc_whole_mean.specs.Scope.{Scope}
use Rattle.cc_whole_mean.specs.Flow as c
use Rattle.cc_whole_mean.specs.Values.{value_of}
use Rattle.cf_lower_relate.specs.Map.{Fixed, Map}
use Rattle.cf_lower.specs.Kept.{Locals, Keeping, unknown, local_kept, all_set, untouched}
use Rattle.cf_lower.specs.Expressions.{local_value}
use Rattle.cf_lower_steps.specs.Steps.{KeptAs}
use Rattle.cf_lower_steps.specs.Own.{Own}
use Rattle.cf_lower_steps.specs.Flows.{Ways}
use Rattle.cf_lower_steps.specs.Moment.{Moment, fixed, Stands, Lowers}
use Rattle.cf_lower_control.specs.Loops.{Around, function, turns, ways_of, IsReturn, Weaker, ReturnsToo, Adding, at_turns, body_of, EachTurn, NextTurns}
use Rattle.cf_lower_control.proofs.Loops.{loop-runs}

-- what stays through statements is held before them
untouched-weaker : (K : Fixed) (scope : Scope) (locals : Locals) (kept : Keeping) (ss : Plains) → Weaker K scope kept (untouched locals kept ss)
untouched-weaker K scope locals kept ss F g m h r v e = by_test (all_set locals r ss)
  where
    by_test : (b : Bool) → KeptAs K F (if b then unknown else kept r) v (value_of (local_value (local_kept (if b then unknown else kept r)) r) scope m)
    by_test true = tt
    by_test false = h r v e

loop-lowered : (at : Moment) → Stands at → Adding at.c_again → Adding at.helps → (ss : Plains) (ways : Ways) → ReturnsToo ways → NextTurns at ss ways
    → EachTurn at ss ways → Lowers at (loop ss nothing) (at_turns at ss) ways
loop-lowered at h grown helped ss ways returns next each =
    loop-runs (fixed at) at.own at.scope (at_turns at ss) ways returns at.map at.again at.program at.c_again at.helps at.c_program grown helped at.helper at.depth ss (body_of at ss)
    next each at.registers at.state at.memory
    (record {
      rel = h.between.rel;
      registers = untouched-weaker (fixed at) at.scope at.inside.locals at.kept ss at.map at.registers at.memory.memory h.between.registers;
      blocks = h.between.blocks;
      locals = h.between.locals;
    }) at.world

is-return : (v : Option Value) (t : c.State) (flow : c.Flow) → flow ≡ c.Returns v t → IsReturn flow
is-return v t flow e = subst IsReturn (sym e) tt

-- where a function or a loop in it is left by a return the C returns
returns-too : (K : Fixed) (own : Own) (scope : Scope) (around : Around) → ReturnsToo (ways_of K own scope around)
returns-too K own scope (function E u) v s flow h = is-return (Some h.value) h.after flow h.is
returns-too K own scope (turns F kept around) v s flow h = returns-too K own scope around v s flow h

pub loop-around : (at : Moment) → Stands at → Adding at.c_again → Adding at.helps → (ss : Plains) (around : Around)
    → NextTurns at ss (ways_of (fixed at) at.own at.scope around) → EachTurn at ss (ways_of (fixed at) at.own at.scope around)
    → Lowers at (loop ss nothing) (at_turns at ss) (ways_of (fixed at) at.own at.scope around)
loop-around at h grown helped ss around next each =
    loop-lowered at h grown helped ss (ways_of (fixed at) at.own at.scope around) (returns-too (fixed at) at.own at.scope around) next each
