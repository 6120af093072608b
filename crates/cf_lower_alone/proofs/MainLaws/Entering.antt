-- The source's `main` is called in both, and its status comes back.
use Rattle.std.proofs.Common.{◌≡◌, ℕ, true, false, ◌==◌, List, [], ◌∷◌, length, ℤ, Some, None, refl, ap, sym, subst, ◌∙◌, arith}
use Rattle.std.specs.Prelude.{nat_eq}
use Rattle.std.proofs.lemmas.Bool.Decides.{nat_tests}
use Rattle.cf_base.specs.declared.kind.Kind.{Kind}
use Rattle.cf_base.specs.declared.kind.Kind.TheVariants.{Int}
use Rattle.cf_base.specs.Event.{Enter}
use Rattle.cf_base.specs.World.{World, Ran, Went, Stops, and_then, spend, deeper, show}
use Rattle.cf_base.specs.Agree.{Adds}
use Rattle.cf_base.proofs.Agreement.{adds-then}
use Rattle.cf_core.specs.Types.{parameters, result as result_type}
use Rattle.cf_core.specs.Core.{Function}
use Rattle.cf_core.specs.Store as source
use Rattle.cf_core.specs.Run.{State, Did, Gives, Exits, Malformed, Act, onward, ◌>>=◌, ◌>>◌, changed, valid, with_frame}
use Rattle.cf_core.specs.Calls as core
use Rattle.cf_core.specs.Calls.{function_named, frame_of, local_count, returned, enter, enter_found, run_named, given_value}
use Rattle.cf_core.specs.Program.{status_of}
use Rattle.cf_lower_layout.specs.Sorts.{number, sort_of}
use Rattle.cf_plain.specs.Running.{Flow, entered, calls}
use Rattle.cf_plain.specs.Running as plain
use Rattle.cf_plain_frames.specs.Since.{Always}
use Rattle.cc_whole.specs.Plain as c_tree
use Rattle.cc_whole.specs.Plain.{block, named, load, give, by_name, in_order}
use Rattle.cc_whole_memory.specs.declared.value.Value.{Value}
use Rattle.cc_whole_memory.specs.declared.value.Value.TheVariants as value
use Rattle.cc_whole_mean.specs.Flow as c
use Rattle.cc_whole_mean.specs.Flow.{in_memory, born_arguments, falling, ending_state, ending, Called, Back, called_back}
use Rattle.cc_whole_mean.specs.Mean as mean
use Rattle.cc_whole_mean.specs.Mean.{run_function, go_back, helps_in}
use Rattle.cc_whole_mean.specs.Scope.{bind_parameters}
use Rattle.cc_whole_mean.proofs.Growth.{grows-runs, grows-helps, grows-does_all, grows-back, grows-falling}
use Rattle.cf_lower_relate.specs.Map.{Map}
use Rattle.cf_lower_steps.specs.Flows.{Simulates, ExitsAs}
use Rattle.cf_lower_place.specs.Input.{IsInput}
use Rattle.cf_lower_turns.specs.Scene.{HasBack, GivenBack}
use Rattle.cf_lower_turns.proofs.Following.{sim-as, sim-of}
use Rattle.cf_lower_calls.specs.Returns.Called.{Programs, fixed, Pair, Entry, HaveTypes, CameBack, FunctionsAlike}
use Rattle.cf_lower_calls.proofs.InvokedLaws.Following.{then-follows, sim-entered, sim-back}
use Rattle.cf_lower_calls.proofs.InvokedLaws.Written.{call-runs}
use Rattle.cf_lower_alone.specs.Added.{main_name, status, last_statements, main_scope, MainEnds, Ready, StatusThere}
use Rattle.cf_lower_alone.proofs.MainLaws.Status.{IsInt, StatusAs, malformed, status_is, status-as, target, with_status, rest-run, go-on, status-returned}

abbrev Anything : State → Type 0
Anything s = Unit {0}

always-anything : (x : Ran (Did Flow)) → Always Anything x
always-anything (Went (Gives a s) w) = record { by = tt }
always-anything (Went (Exits z s) w) = record { by = tt }
always-anything (Went Malformed w) = record { by = tt }
always-anything (Stops end trace) = record { by = tt }

module _ (B : Programs) (n : ℕ) (alike : FunctionsAlike B n) where
  abbrev pub core_again : core.Again
  core_again = calls (plain.runs B.program B.functions n)

  abbrev pub c_again : mean.Again
  c_again = mean.runs B.c_program n

  abbrev pub helps : mean.Again
  helps = helps_in c_again B.c_program false

  -- what the C does from there
  abbrev pub c-last : ℕ → ℕ → c.State → World → Ran c.Flow
  c-last b depth u w = mean.does_all c_again helps B.c_program false (in_order last_statements) (main_scope B.c_program.names b) depth u w

  -- and what the source does
  abbrev pub source-last : Act ℤ
  source-last = run_named core_again B.program main_name [] None None >>= (λ v. status_of v)

  -- the function called so, in both
  module _ (f : Function) (g : c_tree.Function) (pair : Pair B f g) (is_main : f.name ≡ main_name) (none : parameters f.type ≡ []) (k : Kind)
      (typed : sort_of (result_type f.type) ≡ Some (number k)) (int : IsInt k) (F : Map) (s : State) (u : c.State) (ready : Ready B F s u.memory) (b depth : ℕ)
      (place : StatusThere B F u.memory b) (levels : s.frame.depth ≡ depth) where
    entry : Entry B f F s u.memory [] []
    entry = record {
      rel = ready.rel;
      stand = tt;
      known = λ o e. absurd (cc);
      count = refl;
      typed = subst (HaveTypes F []) (sym none) tt;
      before = λ o lt e. absurd (let both = sym e ∙ ready.shown o lt in cc);
      texts_laid = ready.texts_laid;
      texts = ready.texts;
      statics = ready.statics;
      apart = λ name o e. refl;
      valued = λ o e. absurd (cc);
    }

    abbrev go : Called → World → Ran c.Flow
    go r w = go-on B.c_program.names b c_again helps B.c_program depth r w

    abbrev rest : c.State → World → Ran c.Flow
    rest t w = rest-run B.c_program.names b c_again helps B.c_program depth t w

    abbrev c-next : c.Flow → World → Ran c.Flow
    c-next flow w = go (called_back (ending 0 u.memory.next flow)) w

    exits : (z : ℤ) (t : c.State) (w : World) → ExitsAs z w (c-next (c.Exits z t) w)
    exits z t w = record { after = ending_state 0 u.memory.next t; run = refl }

    rest-adds : (t : c.State) (w : World) → Adds w.trace (rest t w)
    rest-adds t w =
        grows-does_all c_again helps (grows-runs B.c_program n) (grows-helps B.c_program c_again (grows-runs B.c_program n) false) B.c_program false
        (in_order (give (Some (load (named status))) ∷ [])) (main_scope B.c_program.names b) depth t w

    adds : (flow : c.Flow) (w : World) → Adds w.trace (c-next flow w)
    adds flow w =
        adds-then w.trace (go_back (Some (target B.c_program.names b)) (called_back (ending 0 u.memory.next flow)) w) (falling rest)
        (grows-back (Some (target B.c_program.names b)) (called_back (ending 0 u.memory.next flow)) w) (λ x w. grows-falling rest rest-adds x w)

    -- ---- it has come back

    back-there : (x : State) (v : source.Value) (flow : c.Flow) (w : World)
        → (came : CameBack (fixed B) B.texts F u.memory s [] (sort_of (result_type f.type)) v x flow) → (back : Value) → came.value ≡ Some back
        → StatusAs w (status_of (given_value (result_type f.type) v) (with_frame s.frame x) w) (with_frame s.frame x) back
        → Simulates MainEnds (status_of (given_value (result_type f.type) v) (with_frame s.frame x) w) (c-next flow w)
    back-there x v flow w came back is (malformed e) = subst (λ r. Simulates MainEnds r (c-next flow w)) (sym e) (record { by = tt })
    back-there x v flow w came back is (status_is z e fit same) =
        let there = came.outer.same b place.below place.no_text place.free ∙ place.block in
        let t : c.State = in_memory came.after came.after.memory in
        let done : c.State = in_memory t (with_status B.c_program.names b z t.memory) in
        subst (λ r. Simulates MainEnds r (c-next flow w)) (sym e)
        (record {
          by = record {
            value = c.Returns (Some (value.Number Int z)) done;
            run = ap (λ d. c-next d w) came.is ∙ ap (λ o. go (Back o t) w) is ∙ status-returned B.c_program.names b c_again helps B.c_program depth t there back z fit same w;
            related = record { after = done; is = refl };
          };
        })

    next : (v : source.Value) (x : State) (flow : c.Flow) (w : World) → CameBack (fixed B) B.texts F u.memory s [] (sort_of (result_type f.type)) v x flow → Anything x
        → Simulates MainEnds (status_of (given_value (result_type f.type) v) (with_frame s.frame x) w) (c-next flow w)
    next v x flow w came any =
        let has : HasBack (fixed B) came.map (number k) v came.value = subst (λ o. GivenBack (fixed B) came.map o v came.value) typed came.given in
        back-there x v flow w came has.back has.is
        (status-as (fixed B) came.map (result_type f.type) k int (with_frame s.frame x) w v has.back has.same)

    -- ---- it is entered

    abbrev entered_state : ℕ → State
    entered_state d = with_frame (frame_of f.name (local_count f) [] None None d) s

    abbrev source-inner : ℕ → World → Ran (Did source.Value)
    source-inner d w =
        (core_again (core.body f []) >>= (λ flow. changed (with_frame s.frame) >> returned (result_type f.type) flow)) (entered_state d) (show (Enter f.name) w)

    abbrev c-inner : ℕ → World → Ran Called
    c-inner d w = run_function (c_again false) B.c_program.names g [] d u (show (Enter f.name) w)

    inner : (d : ℕ) (w : World) → IsInput w.input
        → Simulates MainEnds (and_then (source-inner d w) (λ did w. onward did (λ v. status_of v) w)) (and_then (c-inner d w) go)
    inner d w input =
        sim-as MainEnds _ _ (and_then (c-inner d w) go)
        (then-follows (mean.runs B.c_program n false (block g.body) (bind_parameters g.prototype.parameters u.memory.next B.c_program.names) d
        (in_memory u (born_arguments [] u.memory)) (show (Enter f.name) w)) (λ flow w. Went (called_back (ending 0 u.memory.next flow)) w) go)
        (sim-back (fixed B) B.texts F u.memory s [] (sort_of (result_type f.type)) (result_type f.type) MainEnds (λ v. status_of v) c-next exits adds Anything next
        (plain.runs B.program B.functions n (entered f []) (entered_state d) (show (Enter f.name) w))
        (mean.runs B.c_program n false (block g.body) (bind_parameters g.prototype.parameters u.memory.next B.c_program.names) d
        (in_memory u (born_arguments [] u.memory)) (show (Enter f.name) w))
        (always-anything (plain.runs B.program B.functions n (entered f []) (entered_state d) (show (Enter f.name) w)))
        (alike f g pair F s u (show (Enter f.name) w) [] [] d entry input))

    main-entered : (w : World) → IsInput w.input
        → Simulates MainEnds ((enter core_again f [] None None >>= (λ v. status_of v)) s w)
        (and_then (spend w (λ w. deeper depth w (λ d. c-inner d w))) go)
    main-entered w input =
        sim-of MainEnds _ ((enter core_again f [] None None >>= (λ v. status_of v)) s w) _
        (ap (λ i. and_then (spend w (λ w. deeper i w (λ d. source-inner d w))) (λ did w. onward did (λ v. status_of v) w)) levels)
        (sim-entered MainEnds source-inner c-inner (λ did w. onward did (λ v. status_of v) w) go inner w.ticks depth w input)

    -- ---- the call

    found : function_named B.program main_name ≡ Some f
    found = ap (function_named B.program) (sym is_main) ∙ pair.found

    count-none : length g.prototype.parameters == length {A = Value} [] ≡ true
    count-none =
        let one = pair.count in
        let two : length (parameters f.type) ≡ 0 = ap length none in
        let same : length g.prototype.parameters ≡ 0 = omega (arith, one, two) in
        grind (arith, nat_tests, same)

    source-found : (w : World) → source-last s w ≡ (enter core_again f [] None None >>= (λ v. status_of v)) s w
    source-found w =
        ap (λ o. (enter_found core_again o [] None None >>= (λ v. status_of v)) s w) found
        ∙ ap (λ ts. ((valid (nat_eq 0 (length ts)) >> enter core_again f [] None None) >>= (λ v. status_of v)) s w) none

    abbrev c-named : List ℕ → World → Ran c.Flow
    c-named name w =
        mean.does_all c_again helps B.c_program false (in_order (c_tree.call (Some (named status)) (by_name name) [] ∷ give (Some (load (named status))) ∷ []))
        (main_scope B.c_program.names b) depth u w

    c-called : (w : World) → c-named f.name w ≡ and_then (spend w (λ w. deeper depth w (λ d. c-inner d w))) go
    c-called w =
        ap (λ r. and_then r (falling rest))
        (call-runs c_again helps B.c_program false (main_scope B.c_program.names b) depth u w g f.name [] [] refl pair.c_found pair.name pair.no_main pair.no_helper count-none
        (Some (named status)) (Some (target B.c_program.names b)) refl)
        ∙ then-follows (spend w (λ w. deeper depth w (λ d. c-inner d w))) (λ r w. go_back (Some (target B.c_program.names b)) r w) (falling rest)

    pub main-called : (w : World) → IsInput w.input → Simulates MainEnds (source-last s w) (c-last b depth u w)
    main-called w input =
        sim-of MainEnds _ (source-last s w) _ (source-found w)
        (sim-as MainEnds ((enter core_again f [] None None >>= (λ v. status_of v)) s w) _ (c-last b depth u w)
        (ap (λ name. c-named name w) (sym is_main) ∙ c-called w) (main-entered w input))
