-- What a function returns.
use Rattle.std.proofs.Common.{◌≡◌, ℕ, Bool, true, [], ◌∷◌, refl, sym, ◌∙◌, ap, subst}
use Rattle.std.specs.Prelude.{List, Option, Some, None, Result, Ok}
use Rattle.cf_base.specs.Event.{Undefined}
use Rattle.cf_base.specs.World.{World, Ran, Went, Stops, and_then}
use Rattle.cf_core.specs.Types.{SourceType}
use Rattle.cf_core.specs.Store as source
use Rattle.cf_core.specs.Run.{State, Gives, ◌>>=◌, gives, malformed, some_or}
use Rattle.cf_core.specs.Access.{used}
use Rattle.cf_lower_layout.specs.Sorts.{Sort, number, address, code, sort_of}
use Rattle.cf_plain.specs.Plain.{Register, give}
use Rattle.cf_plain.specs.Acts.{Registers}
use Rattle.cf_plain.specs.Running.{Flow, Returns, does}
use Rattle.cc_whole.specs.Plain as c_tree
use Rattle.cc_whole.specs.Plain.{Expression, Statement, in_order}
use Rattle.cc_whole_memory.specs.declared.value.Value.{Value}
use Rattle.cc_whole_memory.specs.Values.{zero_of}
use Rattle.cc_whole_memory.specs.Blocks.{on_ok}
use Rattle.cc_whole_mean.specs.Flow as c
use Rattle.cc_whole_mean.specs.Flow.{tried, falling}
use Rattle.cc_whole_mean.specs.Mean as mean
use Rattle.cc_whole_mean.specs.Types.{scalar_of}
use Rattle.cc_whole_mean.specs.Values.{value_of, fitted}
use Rattle.cc_whole_mean.proofs.Growth.{grows-does_all, grows-helps, grows-runs}
use Rattle.cf_lower.specs.Kept.{Kept, Keeping, local_kept}
use Rattle.cf_lower.specs.Written.{if_scalar, c_type}
use Rattle.cf_lower.specs.Expressions.{zero as nought, local_value, as_stored}
use Rattle.cf_lower.specs.Statements.{lowered, no_value, given}
use Rattle.cf_lower_relate.specs.Map.{Fixed, Map, Is}
use Rattle.cf_lower_relate.specs.Scalars.{c_scalar}
use Rattle.cf_lower_steps.specs.Steps.{HasValue, KeptAs}
use Rattle.cf_lower_steps.specs.Flows.{Simulates}
use Rattle.cf_lower_steps.specs.Lowering.{Takes}
use Rattle.cf_lower_steps.proofs.Holding.{usable, usable-has}
use Rattle.cf_lower_steps.proofs.Stores.{as-stored-value}
use Rattle.cf_lower_turns.specs.Around.{Around, depth_of, inside_at}
use Rattle.cf_lower_turns.specs.Here.{Here}
use Rattle.cf_lower_turns.specs.Ways.{ends}
use Rattle.cf_lower_turns.specs.Scene.{SameBack, GivenBack, GivesBack, Scene, fixed_in, again_at, c_again_at, helps_at, list_at}
use Rattle.cf_lower_turns.proofs.Following.{sim-here}
use Rattle.cf_lower_actions.specs.Fits.{Fits}
use Rattle.cf_lower_actions.proofs.Noughts.{nought-fits}

-- what can't be used is no scalar's value
nothing-is : (K : Fixed) (F : Map) (u : Sort) (y : Value) → Is K F u source.Nothing y → ⊥
nothing-is K F (number k) y h = h
nothing-is K F (address t) y h = h
nothing-is K F (code t) y h = h

missing-is : (K : Fixed) (F : Map) (u : Sort) (y : Value) → Is K F u source.Missing y → ⊥
missing-is K F (number k) y h = h
missing-is K F (address t) y h = h
missing-is K F (code t) y h = h

module _ (z : Scene) (fits : Fits z) (around : Around Keeping) (p : Keeping) (n : ℕ) (g : Registers) (s : State) (t : c.State) (w : World)
    (h : Here (fixed_in z) z.body p (depth_of around) g s t) where
  abbrev S : Flow → State → c.Flow → Type 0
  S = ends Keeping z.body.scope (Here (fixed_in z) z.body) (GivesBack (fixed_in z) z.body z.result) around p

  -- both return
  back : (v : source.Value) (ss : List Statement) (result : Option Value) → list_at z n ss t w ≡ Went (c.Returns result t) w → GivenBack (fixed_in z) h.map z.result v result
      → Simulates S (Went (Gives (Returns v) s) w) (list_at z n ss t w)
  back v ss result run given =
      sim-here S (Returns v) s w (list_at z n ss t w) (c.Returns result t) run
      (record {
        value = result;
        after = t;
        is = refl;
        map = h.map;
        grows = h.grows;
        rel = h.between.rel;
        outer = h.outer;
        homes = h.homes;
        locals = h.between.locals;
        texts = h.texts;
        given = given;
      })

  run-give : (e : Expression) (x : Value) → value_of e z.body.scope t.memory ≡ Ok x → list_at z n (c_tree.give (Some e) ∷ []) t w ≡ Went (c.Returns (Some x) t) w
  run-give e x is =
      ap (λ a. and_then (tried (on_ok a (λ v. Ok (Some v))) w (λ v. Went (c.Returns v t) w)) (falling (λ s w. Went (c.Falls s) w))) is

  -- ---- nothing is returned

  none-back : (r : Option Sort) → z.result ≡ r
      → Simulates S (Went (Gives (Returns source.Nothing) s) w) (list_at z n (if_scalar r (c_tree.give None ∷ []) (λ s. c_tree.give (Some (as_stored s nought)) ∷ [])) t w)
  none-back None e = back source.Nothing (c_tree.give None ∷ []) None refl (subst (λ a. GivenBack (fixed_in z) h.map a source.Nothing None) (sym e) refl)
  none-back (Some u) e =
      back source.Nothing (c_tree.give (Some (as_stored u nought)) ∷ []) (Some (zero_of (c_scalar u))) (run-give (as_stored u nought) (zero_of (c_scalar u)) (nought-fits u))
      (subst (λ a. GivenBack (fixed_in z) h.map a source.Nothing (Some (zero_of (c_scalar u)))) (sym e) (record { back = zero_of (c_scalar u); is = refl; same = refl }))

  pub give-none : Simulates S (does (again_at z n) z.program (give None) g s w) (list_at z n (lowered (give None) (inside_at z.inside around) p) t w)
  give-none =
      subst (λ r. Simulates S (Went (Gives (Returns source.Nothing) s) w)
      (list_at z n (if_scalar r (c_tree.give None ∷ []) (λ s. c_tree.give (Some (as_stored s nought)) ∷ [])) t w)) (sym fits.result) (none-back z.result refl)

  -- ---- what is in a register is returned

  module _ (r : Register) (ss : List Statement)
      (usable-back : (v : source.Value) → g r ≡ Some v → usable v ≡ true → Simulates S (Went (Gives (Returns v) s) w) (list_at z n ss t w)) where
    undefined-there : Simulates S (Stops (Undefined 16) w.trace) (list_at z n ss t w)
    undefined-there = record {
      by = (grows-does_all (c_again_at z n) (helps_at z n) (grows-runs z.c_program n) (grows-helps z.c_program (c_again_at z n) (grows-runs z.c_program n) z.helper)
          z.c_program z.helper (in_order ss) z.body.scope z.depth t w).by;
    }

    register-back : Simulates S (does (again_at z n) z.program (give (Some r)) g s w) (list_at z n ss t w)
    register-back = by_value (g r) refl
      where
        by_value : (y : Option source.Value) → g r ≡ y → Simulates S ((some_or y malformed >>= used >>= (λ v. gives (Returns v))) s w) (list_at z n ss t w)
        by_value None e = record { by = tt }
        by_value (Some source.Nothing) e = record { by = tt }
        by_value (Some source.Missing) e = undefined-there
        by_value (Some source.Built) e = record { by = tt }
        by_value (Some (source.Number k)) e = usable-back (source.Number k) e refl
        by_value (Some source.Null) e = usable-back source.Null e refl
        by_value (Some (source.At o)) e = usable-back (source.At o) e refl
        by_value (Some (source.Code f)) e = usable-back (source.Code f) e refl
        by_value (Some (source.DataMember path i)) e = usable-back (source.DataMember path i) e refl
        by_value (Some (source.FunctionMember path d)) e = usable-back (source.FunctionMember path d) e refl

  -- where the function gives nothing
  pub give-void : (r : Register) → z.result ≡ None
      → Simulates S (does (again_at z n) z.program (give (Some r)) g s w) (list_at z n (lowered (give (Some r)) (inside_at z.inside around) p) t w)
  give-void r e =
      subst (λ a. Simulates S (does (again_at z n) z.program (give (Some r)) g s w)
      (list_at z n (if_scalar a (c_tree.give None ∷ []) (λ s. c_tree.give (Some (as_stored s (local_value (local_kept (p r)) r))) ∷ [])) t w)) (sym (fits.result ∙ e))
      (register-back r (c_tree.give None ∷ []) (λ v is us. back v (c_tree.give None ∷ []) None refl (subst (λ a. GivenBack (fixed_in z) h.map a v None) (sym e) refl)))

  -- where it gives a scalar
  module _ (r : Register) (u : Sort) (x : Kept) (b : Sort) (e : z.result ≡ Some u) (kr : p r ≡ x) (lx : local_kept x ≡ Some b) (takes : Takes u x) where
    in-value : (v : source.Value) → g r ≡ Some v → usable v ≡ true → HasValue (fixed_in z) h.map x v (value_of (local_value (Some b) r) z.body.scope t.memory)
    in-value v is us =
        usable-has (fixed_in z) h.map x b v (value_of (local_value (Some b) r) z.body.scope t.memory) lx us
        (subst (λ a. KeptAs (fixed_in z) h.map x v (value_of (local_value a r) z.body.scope t.memory)) lx
        (subst (λ y. KeptAs (fixed_in z) h.map y v (value_of (local_value (local_kept y) r) z.body.scope t.memory)) kr (h.between.registers r v is)))

    same-back : (v : source.Value) (y : Value) → Is (fixed_in z) h.map u v y → SameBack (fixed_in z) h.map u v y
    same-back source.Nothing y k = absurd (nothing-is (fixed_in z) h.map u y k)
    same-back source.Missing y k = absurd (missing-is (fixed_in z) h.map u y k)
    same-back v y h = h

    value-back : (v : source.Value) → g r ≡ Some v → usable v ≡ true
        → Simulates S (Went (Gives (Returns v) s) w) (list_at z n (c_tree.give (Some (as_stored u (local_value (Some b) r))) ∷ []) t w)
    value-back v is us =
        let x_in = in-value v is us in
        let y = as-stored-value (fixed_in z) h.map u x v x_in.value takes x_in.same in
        back v (c_tree.give (Some (as_stored u (local_value (Some b) r))) ∷ []) (Some y.value)
        (run-give (as_stored u (local_value (Some b) r)) y.value (ap (λ a. on_ok a (λ k. fitted (scalar_of (c_type u)) k)) x_in.is ∙ y.is))
        (subst (λ a. GivenBack (fixed_in z) h.map a v (Some y.value)) (sym e) (record { back = y.value; is = refl; same = same-back v y.value y.same }))

    pub give-value : Simulates S (does (again_at z n) z.program (give (Some r)) g s w) (list_at z n (lowered (give (Some r)) (inside_at z.inside around) p) t w)
    give-value =
        subst (λ ss. Simulates S (does (again_at z n) z.program (give (Some r)) g s w) (list_at z n ss t w))
        (sym (ap (λ a. if_scalar a (c_tree.give None ∷ []) (λ s. c_tree.give (Some (as_stored s (local_value (local_kept (p r)) r))) ∷ [])) (fits.result ∙ e)
        ∙ ap (λ k. c_tree.give (Some (as_stored u (local_value (local_kept k) r))) ∷ []) kr
        ∙ ap (λ l. c_tree.give (Some (as_stored u (local_value l r))) ∷ []) lx))
        (register-back r (c_tree.give (Some (as_stored u (local_value (Some b) r))) ∷ []) value-back)
