-- Leaves lead in both from a point to the next: they run alike, and the locals stand as plain statements tell.
use Rattle.std.proofs.Common.{◌≡◌, ℕ, suc, ◌<◌, ◌≤◌, true, false, ◌&&◌, List, [], ◌∷◌, refl, sym, ◌∙◌, ap, subst, arith}
use Rattle.std.specs.Prelude.{Option, Some, Result}
use Rattle.cf_base.proofs.Tests.{both}
use Rattle.cf_base.specs.Event.{Ended, Ticks, Depth, Undefined}
use Rattle.cf_base.specs.World.{World, Ran, Went, Stops}
use Rattle.cf_core.specs.Types.{Name}
use Rattle.cf_core.specs.Store as source
use Rattle.cf_core.specs.Run.{State, Did, Gives, Exits, Malformed}
use Rattle.cf_core.specs.Objects.{static_number}
use Rattle.cf_lower_layout.specs.Sorts.{Sort, number, address, code, sort_of}
use Rattle.cf_plain.specs.Plain.{Register, Plain}
use Rattle.cf_plain.specs.Acts.{Registers}
use Rattle.cf_plain.specs.Running.{Flow, Falls, Breaks, Continues, Returns, does}
use Rattle.cf_plain_kept.specs.Kept as told
use Rattle.cc_whole_memory.specs.declared.value.Value.{Value}
use Rattle.cc_whole_mean.specs.Flow as c
use Rattle.cc_whole_mean.specs.Values.{value_of}
use Rattle.cf_lower.specs.Kept.{Kept, integer_of, holds, argument, Keeping, Locals, after}
use Rattle.cf_lower.specs.Expressions.{value_in}
use Rattle.cc_whole.specs.Plain as c_tree
use Rattle.cc_whole.specs.Plain.{Statement}
use Rattle.cf_lower.specs.Statements.{Inside, flag_set, lowered}
use Rattle.cf_lower_relate.specs.Map.{Fixed, Map, is_ended}
use Rattle.cf_lower_kept.specs.Opened.{Opened}
use Rattle.cf_lower_kept.specs.Told.{AllTold}
use Rattle.cf_lower_steps.specs.Flows.{Simulates}
use Rattle.cf_lower_steps.specs.Steps.{KeptAs}
use Rattle.cf_lower_turns.specs.Around.{Around, function, turns, stepped, step, cases, depth_of, leaving_of, going_on_of, inside_at}
use Rattle.cf_lower_turns.specs.Here.{Here}
use Rattle.cf_lower_turns.specs.Ways.{ends}
use Rattle.cf_lower_turns.specs.Scene.{Scene, GivesBack, fixed_in, again_at, list_at}
use Rattle.cf_lower_turns.proofs.Following.{sim-as}
use Rattle.cf_lower_actions.specs.Fits.{Fits}
use Rattle.cf_lower_actions.specs.Leaf.{may_hold, is_leaf}
use Rattle.cf_lower_actions.specs.Leaf as leaf
use Rattle.cf_lower_actions.proofs.Leaves.{leaf-alike}
use Rattle.cf_lower_bounds.specs.Points.{Point, point_at, local_count, At}
use Rattle.cf_lower_bounds.specs.Bounds.{EndsAt, LeafRunsTo}
use Rattle.cf_lower_points.specs.Leading.{leads_on, standing_behind, point_behind}
use Rattle.cf_lower_points.proofs.Before.{before}
use Rattle.cf_lower_points.proofs.Led.{Behind, led}
use Rattle.cf_lower_points.proofs.Results.{Given}

-- ---- what stands around, with what registers hold at its points

abbrev kepts : Around Point → Around Keeping
kepts function = function
kepts (turns p around) = turns p.kept (kepts around)
kepts (stepped p around) = stepped p.kept (kepts around)
kepts (step p around) = step p.kept (kepts around)
kepts (cases p around) = cases p.kept (kepts around)

depth-same : (around : Around Point) → depth_of (kepts around) ≡ depth_of around
depth-same function = refl
depth-same (turns p around) = depth-same around
depth-same (stepped p around) = ap (λ d. suc d) (depth-same around)
depth-same (step p around) = depth-same around
depth-same (cases p around) = ap (λ d. suc d) (depth-same around)

leaving-same : (around : Around Point) → leaving_of (kepts around) ≡ leaving_of around
leaving-same function = refl
leaving-same (turns p around) = refl
leaving-same (stepped p around) = ap (λ d. flag_set d 1 ∷ c_tree.leave ∷ []) (depth-same around)
leaving-same (step p around) = refl
leaving-same (cases p around) = refl

going-same : (around : Around Point) → going_on_of (kepts around) ≡ going_on_of around
going-same function = refl
going-same (turns p around) = refl
going-same (stepped p around) = refl
going-same (step p around) = refl
going-same (cases p around) = ap (λ d. flag_set d 1 ∷ c_tree.leave ∷ []) (depth-same around)

inside-same : (x : Inside) (around : Around Point) → inside_at x (kepts around) ≡ inside_at x around
inside-same x around =
    ap (λ (d : ℕ). record x { depth = d; leaving = leaving_of (kepts around); going_on = going_on_of (kepts around) }) (depth-same around)
    ∙ ap (λ (l : List Statement). record x { depth = depth_of around; leaving = l; going_on = going_on_of (kepts around) }) (leaving-same around)
    ∙ ap (λ (l : List Statement). record x { depth = depth_of around; leaving = leaving_of around; going_on = l }) (going-same around)

-- ---- both facts on a run

sim-given : {A : Type 0} (Q S : A → State → c.Flow → Type 0) (P : A → State → Type 0) (x : Ran (Did A)) (y : Ran c.Flow) → Simulates Q x y → Given P x
    → ((a : A) (s : State) (flow : c.Flow) → Q a s flow → P a s → S a s flow) → Simulates S x y
sim-given Q S P (Went (Gives a s) w) y h k more =
    record { by = record { value = h.by.value; run = h.by.run; related = more a s h.by.value h.by.related k.by } }
sim-given Q S P (Went (Exits z s) w) y h k more = record { by = h.by }
sim-given Q S P (Went Malformed w) y h k more = record { by = tt }
sim-given Q S P (Stops (Undefined act) trace) y h k more = record { by = h.by }
sim-given Q S P (Stops (Ended status) trace) y h k more = record { by = h.by }
sim-given Q S P (Stops Ticks trace) y h k more = record { by = h.by }
sim-given Q S P (Stops Depth trace) y h k more = record { by = h.by }

-- ---- what is so at a point

-- no register that holds a scalar has what building gives
not-held : (K : Fixed) (F : Map) (o : Option Sort) (x : Kept) (found : Result Value ℕ) → may_hold o x ≡ true → KeptAs K F x source.Built found → ⊥
not-held K F (Some (number k)) (integer_of f) found e h = h.same
not-held K F (Some (address t)) (holds (address u)) found e h = h.same
not-held K F (Some (code t)) (holds (code u)) found e h = h.same
not-held K F o x found e h = absurd (let k = e in cc)

record HoldsScalar (x : Kept) : Type 0 where
  pub sort : Option Sort
  pub test : may_hold sort x ≡ true

first-holds : (locals : Locals) (y x : Kept) → leaf.may_first locals y x ≡ true → HoldsScalar x
first-holds locals (argument i t) x e = record { sort = sort_of t; test = (both (leaf.is_local locals i t) (may_hold (sort_of t) x) e).1 }
first-holds locals (holds (address t)) x e = record { sort = sort_of t; test = e }
first-holds locals y x e = absurd (let k = e in cc)

module _ (z : Scene) (fits : Fits z) (h : Keeping) (d : ℕ) (g : Registers) (s : State) (t : c.State) (here : Here (fixed_in z) z.body h d g s t) where
  bounded : (i o : ℕ) → i < local_count z → s.frame.locals i ≡ Some o → o < s.next
  bounded i o lt e = let known = (here.between.locals.objects i o lt e).known in let count = here.between.rel.count in omega (arith, known, count)

  statics-below : (name : Name) (o : ℕ) → static_number z.program name ≡ Some o → o < s.next
  statics-below name o e =
      let known = (fits.statics name o e).known in
      let grown = here.grows.count in
      let count = here.between.rel.count in
      omega (arith, known, grown, count)

  -- no object is that of two locals
  alone : (i j o : ℕ) → i < local_count z → j < local_count z → s.frame.locals i ≡ Some o → s.frame.locals j ≡ Some o → (s.object o).is_gone ≡ false → j ≡ i
  alone i j o li lj ei ej live =
      let one = here.between.locals.objects i o li ei in
      let two = here.between.locals.objects j o lj ej in
      let there : is_ended (here.map.stage o) ≡ false = sym (here.between.rel.gone o one.known) ∙ live in
      (here.between.locals.blocks j lj).alone i li (sym (two.block there) ∙ one.block there)

  built-none : (q r : Register) → leaf.may_first z.body.own.locals (h r) (h q) ≡ true → g q ≡ Some source.Built → ⊥
  built-none q r e is =
      let x = first-holds z.body.own.locals (h r) (h q) e in
      not-held (fixed_in z) here.map x.sort (h q) (value_of (value_in h q) z.body.scope t.memory) x.test (here.between.registers q source.Built is)

-- ---- leaves

module _ (z : Scene) (fits : Fits z) (around : Around Point) (gk : told.Keeping) (h : Keeping) (xs : List Opened) (tells : AllTold z.inside.locals gk h) (st : Plain)
    (is : is_leaf z h st ≡ true) (may : leads_on gk st xs ≡ true) where
  -- both facts are what is so at the next point
  next : (flow : Flow) (s : State) (x : c.Flow)
      → ends Keeping z.body.scope (Here (fixed_in z) z.body) (GivesBack (fixed_in z) z.body z.result) (kepts around) (after z.inside.locals st h) flow s x
      → Behind z (standing_behind gk st xs) flow s → EndsAt z around (point_behind z.inside.locals gk h st xs) flow s x
  next (Falls g) s x e b = record {
    after = e.after;
    is = e.is;
    related = record {
      here = subst (λ d. Here (fixed_in z) z.body (after z.inside.locals st h) d g s e.after) (depth-same around) e.related;
      frame = b.0;
      standing = b.1;
    };
  }
  next (Breaks g) s x e b = absurd b
  next (Continues g) s x e b = absurd b
  next (Returns v) s x e b = record { back = e; frame = b.0; over = b.1 }

  -- with whatever input
  pub leads-always : (k : ℕ) (g : Registers) (s : State) (t : c.State) (w : World) → At z (point_at h xs) (depth_of around) g s t
      → Simulates (EndsAt z around (point_behind z.inside.locals gk h st xs)) (does (again_at z k) z.program st g s w)
      (list_at z k (lowered st (inside_at z.inside around) h) t w)
  leads-always k g s t w at =
      let here : Here (fixed_in z) z.body h (depth_of (kepts around)) g s t =
      subst (λ d. Here (fixed_in z) z.body h d g s t) (sym (depth-same around)) at.here in
      sim-as (EndsAt z around (point_behind z.inside.locals gk h st xs)) (does (again_at z k) z.program st g s w)
      (list_at z k (lowered st (inside_at z.inside (kepts around)) h) t w) (list_at z k (lowered st (inside_at z.inside around) h) t w)
      (ap (λ x. list_at z k (lowered st x h) t w) (sym (inside-same z.inside around)))
      (sim-given (ends Keeping z.body.scope (Here (fixed_in z) z.body) (GivesBack (fixed_in z) z.body z.result) (kepts around) (after z.inside.locals st h))
      (EndsAt z around (point_behind z.inside.locals gk h st xs)) (Behind z (standing_behind gk st xs)) (does (again_at z k) z.program st g s w)
      (list_at z k (lowered st (inside_at z.inside (kepts around)) h) t w)
      (leaf-alike z fits (kepts around) h st is k g s t w here (before z gk h tells xs g s at.standing at.frame st is may))
      (led z (again_at z k) gk h g s w at.frame (bounded z fits h (depth_of around) g s t at.here) (statics-below z fits h (depth_of around) g s t at.here)
      (alone z fits h (depth_of around) g s t at.here) (built-none z fits h (depth_of around) g s t at.here) st xs at.standing is may)
      next)

  pub leads-on : (n : ℕ) → LeafRunsTo z n around (point_at h xs) st (point_behind z.inside.locals gk h st xs)
  leads-on n k le g s t w at input = leads-always k g s t w at
