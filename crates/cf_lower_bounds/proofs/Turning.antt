-- Loops: each turn is a turn of the C's, and spends a tick in both.
use Rattle.std.proofs.Common.{◌≡◌, ℕ, zero, suc, ◌<◌, List, [], ◌∷◌, refl, ◌∙◌, ap}
use Rattle.cf_base.specs.World.{World, Ran, Went, and_then, spend_of}
use Rattle.cf_base.specs.Agree.{Adds}
use Rattle.cf_base.proofs.Agreement.{adds-then}
use Rattle.cf_core.specs.Run.{State, Did, Gives, Act, ◌>>=◌, onward}
use Rattle.cf_plain.specs.Plain.{Plains, loop, nothing}
use Rattle.cf_plain.specs.Acts.{Registers}
use Rattle.cf_plain.specs.Running as plain
use Rattle.cf_plain.specs.Running.{Flow, Falls, Breaks, Continues, Returns, does, all, turn}
use Rattle.cc_whole.specs.Plain as c_tree
use Rattle.cc_whole.specs.Plain.{Statement, in_order}
use Rattle.cc_whole_mean.specs.Flow as c
use Rattle.cc_whole_mean.specs.Flow.{in_memory, falling, turning, switching}
use Rattle.cc_whole_mean.specs.Mean as mean
use Rattle.cc_whole_mean.proofs.Growth.{grows-falling, grows-turning, grows-does_all}
use Rattle.cf_lower.specs.Expressions.{zero as nought}
use Rattle.cf_lower.specs.Statements.{block, if_flag, stated_all}
use Rattle.cf_lower_steps.specs.Flows.{Simulates}
use Rattle.cf_lower_steps.proofs.Branches.{block-runs}
use Rattle.cf_lower_turns.specs.Around.{Around, turns, stepped, step, depth_of}
use Rattle.cf_lower_turns.specs.Flags.{Shows, FlagSet}
use Rattle.cf_lower_turns.proofs.Following.{sim-here, sim-as, return-falls, return-turns, return-switches}
use Rattle.cf_lower_place.specs.Input.{IsInput}
use Rattle.cf_lower_bounds.proofs.Inputs.{takes-does_all, sim-on}
use Rattle.cf_lower_bounds.proofs.Setup.{Setup, Runners, ends, list, all_at, stepped_turn, SameFrom}
use Rattle.cf_lower_bounds.proofs.Written.{then-then, all-in-switch, flag-then, flag-passed, flag-taken}

module _ (z : Setup) (m : Runners) (around : Around z.Point) (h : z.Point) (ss ts : Plains) (body : List Statement)
    (turns_again : SameFrom z m h around h (λ g. m.again (turn ss ts g)) (λ t w. m.c_again m.helper (c_tree.loop (block body)) z.scope m.depth t w)) where
  abbrev d : ℕ
  d = depth_of around

  -- the next turn
  abbrev go : c.State → World → Ran c.Flow
  go t w = m.c_again m.helper (c_tree.loop (block body)) z.scope m.depth t w

  abbrev further : Registers → Act Flow
  further g = m.again (turn ss ts g)

  grows : (t : c.State) (w : World) → Adds w.trace (go t w)
  grows t w = m.grown m.helper (c_tree.loop (block body)) z.scope m.depth t w

  again-falls : (g : Registers) (s : State) (t : c.State) (w : World) → IsInput w.input → (flow : c.Flow) → flow ≡ c.Falls t → z.R h d g s t
      → Simulates (ends z around h) (further g s w) (turning go flow w)
  again-falls g s t w i flow e r = sim-as (ends z around h) (further g s w) (go t w) (turning go flow w) (ap (λ x. turning go x w) e) (turns_again g s t w r i)

  again-goes : (g : Registers) (s : State) (t : c.State) (w : World) → IsInput w.input → (flow : c.Flow) → flow ≡ c.Continues t → z.R h d g s t
      → Simulates (ends z around h) (further g s w) (turning go flow w)
  again-goes g s t w i flow e r = sim-as (ends z around h) (further g s w) (go t w) (turning go flow w) (ap (λ x. turning go x w) e) (turns_again g s t w r i)

  -- `break`: the loop is left
  left : (g : Registers) (s : State) (t : c.State) (w : World) (flow : c.Flow) → flow ≡ c.Breaks t → z.R h d g s t
      → Simulates (ends z around h) (Went (Gives (Falls g) s) w) (turning go flow w)
  left g s t w flow e r =
      sim-here (ends z around h) (Falls g) s w (turning go flow w) (c.Falls t) (ap (λ x. turning go x w) e) (record { after = t; is = refl; related = r })

  -- ---- from the run of a turn to that of the loop

  abbrev source_turn : Registers → State → World → Ran (Did Flow)
  source_turn g s w = and_then (all m.again m.program ss g s w) (λ did w. onward did (plain.turning (λ k. all m.again m.program ts k >>= plain.turning further)) w)

  module _ (g : Registers) (s : State) (t : c.State)
      (each : (w : World) → IsInput w.input → Simulates (ends z around h) (source_turn g s w) (and_then (list z m body t w) (turning go))) where
    after-tick : (w : World) → IsInput w.input → Simulates (ends z around h) (source_turn g s w)
        (and_then (mean.does_body m.c_again m.helps m.c_program m.helper (block body) z.scope m.depth t w) (turning go))
    after-tick w i =
        sim-as (ends z around h) (source_turn g s w) (and_then (list z m body t w) (turning go))
        (and_then (mean.does_body m.c_again m.helps m.c_program m.helper (block body) z.scope m.depth t w) (turning go))
        (ap (λ y. and_then y (turning go)) (block-runs m.c_again m.helps m.c_program m.grown m.helped m.helper z.scope m.depth body t w)) (each w i)

    by-ticks : (n : ℕ) (w : World) → IsInput w.input → Simulates (ends z around h)
        (and_then (spend_of n w (λ w. let told : Did (Unit {0}) = Gives tt s in Went told w)) (λ did w. onward did (λ u s w. source_turn g s w) w))
        (spend_of n w (λ w. and_then (mean.does_body m.c_again m.helps m.c_program m.helper (block body) z.scope m.depth t w) (turning go)))
    by-ticks zero w i = record { by = refl }
    by-ticks (suc n) w i = after-tick (record w { ticks = n }) i

    ticked : (w : World) → IsInput w.input → Simulates (ends z around h) (does m.again m.program (loop ss ts) g s w)
        (mean.does m.c_again m.helps m.c_program m.helper (c_tree.loop (block body)) z.scope m.depth t w)
    ticked w i = by-ticks w.ticks w i

-- ---- a loop without a step

module _ (z : Setup) (m : Runners) (around : Around z.Point) (h : z.Point) (ss : Plains)
    (again : SameFrom z m h around h (λ g. m.again (turn ss nothing g)) (λ t w. m.c_again m.helper (c_tree.loop (block (all_at z ss (turns h around) h))) z.scope m.depth t w))
    (runs_body : SameFrom z m h (turns h around) h (all m.again m.program ss) (λ t w. list z m (all_at z ss (turns h around) h) t w)) where
  abbrev the_body : List Statement
  the_body = all_at z ss (turns h around) h

  abbrev next_turn : c.State → World → Ran c.Flow
  next_turn t w = go z m around h ss nothing the_body again t w

  abbrev turned_source : Flow → Act Flow
  turned_source flow = plain.turning (λ k. all m.again m.program nothing k >>= plain.turning (further z m around h ss nothing the_body again)) flow

  turned : (flow : Flow) (s : State) (x : c.Flow) (w : World) → IsInput w.input → ends z (turns h around) h flow s x
      → Simulates (ends z around h) (turned_source flow s w) (turning next_turn x w)
  turned (Falls g) s x w i e =
      again-falls z m around h ss nothing the_body again g s e.after w i x e.is e.related
  turned (Continues g) s x w i e = again-goes z m around h ss nothing the_body again g s e.after w i x e.is e.related
  turned (Breaks g) s x w i e = left z m around h ss nothing the_body again g s e.after w x e.is e.related
  turned (Returns v) s x w i e =
      sim-here (ends z around h) (Returns v) s w (turning next_turn x w) x (return-turns next_turn x w (z.returns v s x e)) e

  pub plain-loop : (g : Registers) (s : State) (t : c.State) (w : World) → z.R h (depth_of around) g s t → IsInput w.input
      → Simulates (ends z around h) (does m.again m.program (loop ss nothing) g s w)
      (mean.does m.c_again m.helps m.c_program m.helper (c_tree.loop (block the_body)) z.scope m.depth t w)
  plain-loop g s t w r i =
      ticked z m around h ss nothing the_body again g s t
      (λ w i. sim-on (ends z (turns h around) h) (ends z around h) w.input (all m.again m.program ss g s w) (list z m the_body t w)
      turned_source (turning next_turn) (takes-does_all m.c_again m.helps m.left m.left_helps m.c_program m.helper (in_order the_body) z.scope m.depth t w) i
      (runs_body g s t w r i) (λ flow s x w i e. turned flow s x w i e) (λ y t w. refl)
      (λ x w. grows-turning next_turn (grows z m around h ss nothing the_body again) x w)) w i

-- ---- a loop with a step

module _ (z : Setup) (m : Runners) (around : Around z.Point) (h : z.Point) (ss ts : Plains)
    (again : SameFrom z m h around h (λ g. m.again (turn ss ts g)) (λ t w. m.c_again m.helper (c_tree.loop (block (stepped_turn z ss ts around h))) z.scope m.depth t w))
    (room : depth_of around < z.flags)
    (runs_body : SameFrom z m h (stepped h around) h (all m.again m.program ss) (λ t w. list z m (all_at z ss (stepped h around) h) t w))
    (runs_step : SameFrom z m h (step h around) h (all m.again m.program ts) (λ t w. list z m (all_at z ts (step h around) h) t w)) where
  abbrev e : ℕ
  e = depth_of around

  abbrev a_turn : List Statement
  a_turn = stepped_turn z ss ts around h

  abbrev inner : List Statement
  inner = all_at z ss (stepped h around) h

  abbrev the_step : List Statement
  the_step = all_at z ts (step h around) h

  abbrev turn_after : c.State → World → Ran c.Flow
  turn_after t w = go z m around h ss ts a_turn again t w

  -- what stands behind the switch around the body
  abbrev rest : c.State → World → Ran c.Flow
  rest t w = list z m (if_flag e (c_tree.leave ∷ []) ∷ the_step) t w

  abbrev source_next : Registers → Act Flow
  source_next = further z m around h ss ts a_turn again

  abbrev source_step : Registers → Act Flow
  source_step k = all m.again m.program ts k >>= plain.turning source_next

  -- after the step
  step-turned : (flow : Flow) (s : State) (x : c.Flow) (w : World) → IsInput w.input → ends z (step h around) h flow s x
      → Simulates (ends z around h) ((plain.turning source_next flow) s w) (turning turn_after x w)
  step-turned (Falls g) s x w i y =
      again-falls z m around h ss ts a_turn again g s y.after w i x y.is y.related
  step-turned (Continues g) s x w i y = absurd y
  step-turned (Breaks g) s x w i y = left z m around h ss ts a_turn again g s y.after w x y.is y.related
  step-turned (Returns v) s x w i y = sim-here (ends z around h) (Returns v) s w (turning turn_after x w) x (return-turns turn_after x w (z.returns v s x y)) y

  -- the step, and then the next turn
  steps : (g : Registers) (s : State) (t : c.State) (w : World) → z.R h (suc e) g s t → IsInput w.input
      → Simulates (ends z around h) (source_step g s w) (and_then (rest t w) (turning turn_after))
  steps g s t w r i =
      sim-as (ends z around h) (source_step g s w) (and_then (list z m the_step t w) (turning turn_after)) (and_then (rest t w) (turning turn_after))
      (ap (λ y. and_then y (turning turn_after))
      (flag-passed m.c_again m.helps m.c_program m.grown m.helped m.helper z.scope m.depth e (c_tree.leave ∷ []) the_step t w (z.laws.unset h e g s t r)))
      (sim-on (ends z (step h around) h) (ends z around h) w.input (all m.again m.program ts g s w) (list z m the_step t w)
      (plain.turning source_next) (turning turn_after) (takes-does_all m.c_again m.helps m.left m.left_helps m.c_program m.helper (in_order the_step) z.scope m.depth t w) i
      (runs_step g s t w (z.laws.fewer h e g s t r) i)
      (λ flow s x w i y. step-turned flow s x w i y) (λ y t w. refl) (λ x w. grows-turning turn_after (grows z m around h ss ts a_turn again) x w))

  -- `break` in the body: the flag is set, and the C leaves the loop
  breaks : (g : Registers) (s : State) (t : c.State) (w : World) → z.R h e g s t → Shows z.scope e 1 t.memory
      → Simulates (ends z around h) (Went (Gives (Falls g) s) w) (and_then (rest t w) (turning turn_after))
  breaks g s t w r shown =
      sim-here (ends z around h) (Falls g) s w (and_then (rest t w) (turning turn_after)) (c.Falls t)
      (ap (λ y. and_then y (turning turn_after))
      (flag-taken m.c_again m.helps m.c_program m.grown m.helped m.helper z.scope m.depth e (c_tree.leave ∷ []) the_step t w shown))
      (record { after = t; is = refl; related = r })

  -- behind the body, in the C a switch
  abbrev onwards : c.Flow → World → Ran c.Flow
  onwards x w = and_then (falling rest (switching x) w) (turning turn_after)

  turned-step : (flow : Flow) (s : State) (x : c.Flow) (w : World) → IsInput w.input → ends z (stepped h around) h flow s x
      → Simulates (ends z around h) ((plain.turning source_step flow) s w) (onwards x w)
  turned-step (Falls g) s x w i y =
      sim-as (ends z around h) (source_step g s w) (and_then (rest y.after w) (turning turn_after)) (onwards x w) (ap (λ q. onwards q w) y.is)
      (steps g s y.after w y.related i)
  turned-step (Continues g) s x w i y =
      sim-as (ends z around h) (source_step g s w) (and_then (rest y.after w) (turning turn_after)) (onwards x w) (ap (λ q. onwards q w) y.is)
      (steps g s y.after w y.related i)
  turned-step (Breaks g) s x w i y =
      sim-as (ends z around h) (Went (Gives (Falls g) s) w) (and_then (rest y.after w) (turning turn_after)) (onwards x w) (ap (λ i. onwards i w) y.is)
      (breaks g s y.after w y.related.0 y.related.1)
  turned-step (Returns v) s x w i y =
      let is = z.returns v s x y in
      sim-here (ends z around h) (Returns v) s w (onwards x w) x
      (ap (λ i. and_then (falling rest i w) (turning turn_after)) (return-switches x is) ∙ ap (λ i. and_then i (turning turn_after)) (return-falls rest x w is)
      ∙ return-turns turn_after x w is) y

  grows-rest : (t : c.State) (w : World) → Adds w.trace (rest t w)
  grows-rest t w = grows-does_all m.c_again m.helps m.grown m.helped m.c_program m.helper (in_order (if_flag e (c_tree.leave ∷ []) ∷ the_step)) z.scope m.depth t w

  -- the C of a turn: the flag is 0, and the body runs in its switch
  turn-runs : (g : Registers) (s : State) (t : c.State) (w : World) (done : FlagSet z.scope e 0 (λ k. z.R h e g s (in_memory t k)) t.memory)
      → and_then (list z m a_turn t w) (turning turn_after) ≡ and_then (list z m inner (in_memory t done.after) w) onwards
  turn-runs g s t w done =
      let after : c.State = in_memory t done.after in
      ap (λ y. and_then y (turning turn_after))
      (flag-then m.c_again m.helps m.c_program m.grown m.helped m.helper z.scope m.depth e 0 (λ k. z.R h e g s (in_memory t k)) t w
      (c_tree.select nought (c_tree.otherwise (stated_all inner c_tree.closed)) ∷ if_flag e (c_tree.leave ∷ []) ∷ the_step) done
      ∙ ap (λ y. and_then y (falling rest)) (all-in-switch m.c_again m.helps m.c_program m.grown m.helped m.helper z.scope m.depth inner after w)
      ∙ then-then (list z m inner after w) (λ x w. Went (switching x) w) (falling rest))
      ∙ then-then (list z m inner after w) (λ x w. falling rest (switching x) w) (turning turn_after)

  pub step-loop : (g : Registers) (s : State) (t : c.State) (w : World) → z.R h e g s t → IsInput w.input
      → Simulates (ends z around h) (does m.again m.program (loop ss ts) g s w)
      (mean.does m.c_again m.helps m.c_program m.helper (c_tree.loop (block a_turn)) z.scope m.depth t w)
  step-loop g s t w r i =
      let done = z.laws.set h e 0 g s t room refl r in
      ticked z m around h ss ts a_turn again g s t
      (λ w i. sim-as (ends z around h) (source_turn z m around h ss ts a_turn again g s w) (and_then (list z m inner (in_memory t done.after) w) onwards)
      (and_then (list z m a_turn t w) (turning turn_after)) (turn-runs g s t w done)
      (sim-on (ends z (stepped h around) h) (ends z around h) w.input (all m.again m.program ss g s w)
      (list z m inner (in_memory t done.after) w) (plain.turning source_step) onwards
      (takes-does_all m.c_again m.helps m.left m.left_helps m.c_program m.helper (in_order inner) z.scope m.depth (in_memory t done.after) w) i
      (runs_body g s (in_memory t done.after) w (z.laws.more h e g s (in_memory t done.after) room done.shows done.related) i)
      (λ flow s x w i y. turned-step flow s x w i y) (λ y t w. refl)
      (λ x w. adds-then w.trace (falling rest (switching x) w) (turning turn_after) (grows-falling rest grows-rest (switching x) w)
      (λ x w. grows-turning turn_after (grows z m around h ss ts a_turn again) x w)))) w i
