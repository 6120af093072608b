-- Functions that have what they need do the same, by the bound of ticks.
use Rattle.std.proofs.Common.{◌≡◌, ℕ, zero, suc, ◌+◌, ◌<◌, ◌≤◌, Bool, true, false, ◌==◌, List, [], ◌∷◌, ◌++◌, length, refl, sym, ◌∙◌, ap, subst, arith}
use Rattle.std.specs.Prelude.{Some, None}
use Rattle.cf_base.specs.World.{World, Ran, Went, Stops, and_then}
use Rattle.cf_core.specs.Types.{is_class, parameters, result as result_type}
use Rattle.cf_core.specs.Core.{Function, plain_function}
use Rattle.cf_core.specs.Run.{State, Did, Gives, Exits, Malformed, onward, gives, with_frame}
use Rattle.cf_core.specs.Calls.{frame_of, local_count as core_count}
use Rattle.cf_lower_layout.specs.Sorts.{sort_of}
use Rattle.cf_plain.specs.Plain.{PlainFunction, give}
use Rattle.cf_plain.specs.Acts.{Registers, no_registers}
use Rattle.cf_plain.specs.Running as plain
use Rattle.cf_plain.specs.Running.{Flow, entered, does, all, plain_named, header}
use Rattle.cf_plain_frames.specs.Simple.{functions_simple}
use Rattle.cf_plain_frames.specs.Since.{Since, Always}
use Rattle.cf_plain_frames.proofs.Statements.{function-stays}
use Rattle.cf_plain_kept.specs.Kept.{nothing_set}
use Rattle.cc_whole.specs.declared.statement.CLocal.{CLocal}
use Rattle.cc_whole.specs.Plain as c_tree
use Rattle.cc_whole.specs.Plain.{Statement, block, body, in_order}
use Rattle.cc_whole_locals.proofs.Blocks.{arguments-next}
use Rattle.cc_whole_memory.specs.declared.value.Value.{Value}
use Rattle.cc_whole_memory.specs.Blocks.{Memory}
use Rattle.cc_whole_mean.specs.Flow as c
use Rattle.cc_whole_mean.specs.Flow.{in_memory, falling, ending, born_arguments, born_locals}
use Rattle.cc_whole_mean.specs.Mean as mean
use Rattle.cc_whole_mean.specs.Scope.{bind_parameters}
use Rattle.cf_lower.specs.Kept.{nothing_kept}
use Rattle.cf_lower.specs.Functions.{inside}
use Rattle.cf_lower.specs.Statements.{all_lowered, lowered, no_value}
use Rattle.cf_lower_kept.specs.Opened.{parameters_open}
use Rattle.cf_lower_relate.specs.Map.{Map, Stage, hidden, shown, ended, is_ended, is_shown}
use Rattle.cf_lower_relate.specs.Relation.{Rel}
use Rattle.cf_lower_steps.specs.Flows.{Simulates}
use Rattle.cf_lower_steps.proofs.Statements.{runs-join}
use Rattle.cf_lower_place.specs.Input.{IsInput}
use Rattle.cf_lower_turns.specs.Around.{function, inside_at}
use Rattle.cf_lower_turns.specs.Here.{Here}
use Rattle.cf_lower_turns.specs.Scene.{Scene, again_at, c_again_at, helps_at, list_at}
use Rattle.cf_lower_turns.proofs.Following.{sim-as, sim-of}
use Rattle.cf_lower_calls.specs.Returns.Called.{Programs, fixed, Entry, ComesBack, FunctionsAlike}
use Rattle.cf_lower_calls.proofs.FramesLaws.Begin.{here-first, among-number, there-at}
use Rattle.cf_lower_calls.proofs.InvokedLaws.Entry.{typed-count, entered-at}
use Rattle.cf_lower_bounds.specs.Points.{Point, point_at, Stands, IsOpen, InFrame, local_count, At}
use Rattle.cf_lower_bounds.specs.Bounds.{EndsAt}
use Rattle.cf_lower_bounds.proofs.Turns.{statements-to}
use Rattle.cf_lower_bounds.proofs.Written.{then-then}
use Rattle.cf_lower_calls.specs.Invoked.LowerPoints.{point_behind}
use Rattle.cf_lower_calls.proofs.InvokedLaws.LowerPoints.{leads-always}
use Rattle.cf_lower_calls.specs.Entered.Bodies.{scene_of, scope_in, BodyFits, AllFit}
use Rattle.cf_lower_calls.proofs.EnteredLaws.Ended.{function-ended}
use Rattle.cf_lower_calls.proofs.EnteredLaws.Parameters.{entered_one, all-parameters, open-parameter, below-length}
use Rattle.cf_lower_calls.proofs.EnteredLaws.Source.{body-runs}

shown-stands : (st : Stage) → is_shown st ≡ true → is_ended st ≡ false
shown-stands hidden h = refl
shown-stands shown h = refl
shown-stands ended h = absurd (let k = h in cc)

true-false : {b : Bool} → b ≡ true → b ≡ false → ⊥
true-false h k = absurd (cc)

-- a run behind which its flow is given is always so where that is
always-before : (Q : State → Type 0) (x : Ran (Did Flow)) → Always Q (and_then x (λ did w. onward did (λ flow. gives flow) w)) → Always Q x
always-before Q (Went (Gives a s) w) h = record { by = h.by }
always-before Q (Went (Exits z s) w) h = record { by = tt }
always-before Q (Went Malformed w) h = record { by = tt }
always-before Q (Stops end trace) h = record { by = tt }

module _ (B : Programs) (none : B.program.classes ≡ []) (simple : functions_simple B.functions ≡ true) (n : ℕ) (f : PlainFunction) (g : c_tree.Function)
    (found : plain_named B.functions f.name ≡ Some f) (role : f.role ≡ plain_function) (scalar : is_class (result_type f.type) ≡ false) (locals : List CLocal)
    (made : g.body ≡ body locals (in_order (all_lowered f.body (inside B.program.classes f) nothing_kept ++ no_value (result_type f.type))))
    (E : Map) (s : State) (t : c.State) (os : List ℕ) (cs : List Value) (depth : ℕ) (entry : Entry B (header f) E s t.memory os cs)
    (x : BodyFits B n f g locals E t.memory cs depth) where
  abbrev first : Memory
  first = t.memory

  abbrev z : Scene
  z = scene_of B f x.own x.flags (scope_in B g locals cs first) E first depth

  -- the states as the body begins: in the source with the function's frame, in the C with the parameters' blocks and then with those of its locals
  abbrev s1 : State
  s1 = with_frame (frame_of f.name (core_count (header f)) os None None depth) s

  abbrev t1 : c.State
  t1 = in_memory t (born_arguments cs first)

  abbrev t2 : c.State
  t2 = in_memory t1 (born_locals locals t1.memory)

  rel-first : Rel (fixed B) E s1 (born_arguments cs first)
  rel-first = record {
    count = entry.rel.count;
    type = entry.rel.type;
    laid = entry.rel.laid;
    gone = entry.rel.gone;
    stands = entry.rel.stands;
    below = entry.rel.below;
    apart = entry.rel.apart;
  }

  entry-first : Entry B (header f) E s1 first os cs
  entry-first = record {
    rel = rel-first;
    stand = entry.stand;
    known = entry.known;
    count = entry.count;
    typed = entry.typed;
    before = entry.before;
    texts_laid = entry.texts_laid;
    texts = entry.texts;
    statics = entry.statics;
    apart = entry.apart;
    valued = entry.valued;
  }

  here : Here (fixed B) z.body nothing_kept 0 no_registers s1 t2
  here =
      here-first B (header f) E s1 first os cs entry-first x.own x.flags (scope_in B g locals cs first) t2 x.frame x.typed (λ i. refl)

  -- ---- what stands then

  as-many : length os ≡ length (parameters f.type)
  as-many = typed-count E os (parameters f.type) entry.typed

  parameter-there : (j : ℕ) → j < length (parameters f.type) → IsOpen (local_count z) (entered_one j) no_registers s1
  parameter-there j lt =
      let lo : j < length os = (let k = as-many in omega (arith, k, lt)) in
      let at = there-at os j lo in
      let among = among-number os j at.object at.is in
      let live = shown-stands (E.stage at.object) (entered-at E os first.next entry.stand at.object among).0 in
      let one : Stands (local_count z) j s1 = record {
        below = let a = entry.count in let b = x.frame.locals.few in omega (arith, a, b, lo);
        object = at.object;
        there = at.is;
        stands = entry.rel.gone at.object (entry.known at.object among) ∙ live;
      } in
      record {
        way = true;
        told = refl;
        there = λ e. one;
        over = λ e. absurd (let k = e in cc);
        begun = λ r e. absurd (let k = e in cc);
        value = λ e. record { one = one; value = entry.valued at.object among };
        flag = λ e. absurd (let k = e in cc);
        parts = λ r. tt;
        last = λ r n e. absurd (let k = e in cc);
      }

  frame-first : InFrame z s1
  frame-first = record {
    function = refl;
    depth = refl;
    statics = λ name o e.
        let there = entry.statics name o e in
        record {
          stands = entry.rel.gone o there.known ∙ shown-stands (E.stage o) there.shown;
          apart = λ i k. true-false (among-number os i o k) (entry.apart name o e);
        };
  }

  at-first : At z (point_at nothing_kept (parameters_open 0 (parameters f.type))) 0 no_registers s1 t2
  at-first = record {
    here = here;
    frame = frame-first;
    standing = record {
      each = all-parameters (local_count z) no_registers s1 0 (parameters f.type) (λ j low high. parameter-there j (omega (arith, high)));
      over = λ i o lt no e.
          let lo = below-length os i o e in
          let k = as-many in
          absurd (true-false (open-parameter 0 i (parameters f.type) (omega arith) (omega (arith, lo, k))) no);
    };
  }

  -- ---- both runs

  abbrev q : Point
  q = point_at x.last []

  -- where it flows off its end it gives what nothing can use
  given : (g : Registers) (s : State) (t : c.State) (w : World) → At z q 0 g s t
      → Simulates (EndsAt z function (point_behind z.inside.locals nothing_set x.last (give None) [])) (does (again_at z n) z.program (give None) g s w)
      (list_at z n (lowered (give None) (inside_at {Point = Point} z.inside function) x.last) t w)
  given g s t w at = leads-always z x.fits function nothing_set x.last [] (λ r. tt) (give None) refl refl n g s t w at

  abbrev source-run : World → Ran (Did Flow)
  source-run w = all (again_at z n) z.program f.body no_registers s1 w

  abbrev xs : List Statement
  xs = all_lowered f.body (inside B.program.classes f) nothing_kept

  abbrev ys : List Statement
  ys = no_value (result_type f.type)

  abbrev c-run : World → Ran c.Flow
  c-run w =
      mean.runs B.c_program (suc n) false (block g.body) (bind_parameters g.prototype.parameters first.next B.c_program.names) depth t1 w

  c-runs : (w : World) → c-run w
      ≡ and_then (list_at z n xs t2 w) (λ d w. and_then (falling (λ u v. list_at z n ys u v) d w) (λ d w. Went (ending (length locals) t1.memory.next d) w))
  c-runs w =
      ap (λ b. mean.runs B.c_program (suc n) false (block b) (bind_parameters g.prototype.parameters first.next B.c_program.names) depth t1 w) made
      ∙ ap (λ y. and_then y (λ d w. Went (ending (length locals) t1.memory.next d) w))
      (runs-join (c_again_at z n) (helps_at z n) z.c_program z.helper z.body.scope z.depth xs ys t2 w)
      ∙ then-then (list_at z n xs t2 w) (falling (λ u v. list_at z n ys u v)) (λ d w. Went (ending (length locals) t1.memory.next d) w)

  always : (w : World) → Always (Since s1 os) (source-run w)
  always w =
      always-before (Since s1 os) (source-run w)
      (subst (λ r. Always (Since s1 os) r) (body-runs B.program B.functions n f found role scalar os s1 w)
      (function-stays B.program none B.functions simple (suc n) (header f) os s1 w (λ i. refl)))

  pub function-same : (w : World) → IsInput w.input
      → Simulates (ComesBack (fixed B) B.texts E first s os (sort_of (result_type f.type))) (plain.runs B.program B.functions (suc n) (entered (header f) os) s1 w) (c-run w)
  function-same w input =
      sim-of _ _ _ _ (body-runs B.program B.functions n f found role scalar os s1 w)
      (sim-as _ _ _ _ (c-runs w)
      (function-ended z n q (point_behind z.inside.locals nothing_set x.last (give None) []) given s os (Since s1 os) (λ u since o lt no. since.kept o lt no) (length locals) t1.memory.next
      (let k = arguments-next cs first in omega (arith, k)) entry.texts_laid (source-run w) (list_at z n xs t2 w)
      (statements-to z n f.body function (point_at nothing_kept (parameters_open 0 (parameters f.type))) q x.needs no_registers s1 t2 w at-first input) (always w)))

module _ (B : Programs) (none : B.program.classes ≡ []) (simple : functions_simple B.functions ≡ true) where
  pub alike-next : (n : ℕ) → AllFit B n → FunctionsAlike B (suc n)
  alike-next n fit f g pair E s t w os cs depth entry input =
      let x = fit f g pair in
      subst (λ (k : Function). Entry B k E s t.memory os cs
      → Simulates (ComesBack (fixed B) B.texts E t.memory s os (sort_of (result_type k.type)))
      (plain.runs B.program B.functions (suc n) (entered k os) (with_frame (frame_of k.name (core_count k) os None None depth) s) w)
      (mean.runs B.c_program (suc n) false (block g.body) (bind_parameters g.prototype.parameters t.memory.next B.c_program.names) depth
      (in_memory t (born_arguments cs t.memory)) w)) (sym x.is)
      (λ again. function-same B none simple n x.plain g (sym (ap (λ (k : Function). plain_named B.functions k.name) x.is) ∙ x.found) x.role x.scalar x.locals x.made E s t os cs depth
      again (x.entered E s t.memory os cs depth entry) w input) entry

  -- no tick is left
  alike-first : FunctionsAlike B 0
  alike-first f g pair E s t w os cs depth entry input = record { by = refl }

  module _ (fits : (n : ℕ) → ((k : ℕ) → k ≤ n → FunctionsAlike B k) → AllFit B n) where
    up-to : (n k : ℕ) → k ≤ n → FunctionsAlike B k
    up-to n zero le = alike-first
    up-to zero (suc k) le = absurd (omega (arith, le))
    up-to (suc n) (suc k) le = alike-next k (fits k (λ j lj. up-to n j (omega (arith, lj, le))))

    pub alike-always : (n : ℕ) → FunctionsAlike B n
    alike-always n = up-to n n (omega arith)
