-- A switch: both go to the same label, and statements fall through labels.
use Rattle.std.proofs.Common.{◌≡◌, ℕ, suc, ◌<◌, Bool, true, false, if◌then◌else◌, List, [], ◌∷◌, refl, sym, ◌∙◌, ap, subst}
use Rattle.std.specs.Prelude.{ℤ, Option, Some, None, Ok}
use Rattle.cf_base.specs.declared.kind.Kind.TheVariants.{Int}
use Rattle.cf_base.specs.Integers.{fits, convert, bits_of}
use Rattle.cf_base.specs.World.{World, Ran, Went, and_then}
use Rattle.cf_base.specs.Agree.{Adds}
use Rattle.cf_core.specs.Store as source
use Rattle.cf_core.specs.Run.{State, Gives, ◌>>=◌, malformed, some_or, when}
use Rattle.cf_core.specs.Access.{used, number_of}
use Rattle.cf_plain.specs.Plain.{Register, Plains, switch}
use Rattle.cf_plain.specs.Acts.{Registers}
use Rattle.cf_plain.specs.Running as plain
use Rattle.cf_plain.specs.Running.{Flow, Falls, Breaks, Continues, Returns, does, all, has_case, from_case, from_default}
use Rattle.cc_whole.specs.Plain as c_tree
use Rattle.cc_whole.specs.Plain.{Statement, SwitchItems, in_order}
use Rattle.cc_whole_memory.specs.Blocks.{on_ok}
use Rattle.cc_whole_mean.specs.Values.{numbered, value_of}
use Rattle.cc_whole_mean.specs.Flow as c
use Rattle.cc_whole_mean.specs.Flow.{in_memory, tried, falling, switching}
use Rattle.cc_whole_mean.specs.Mean as mean
use Rattle.cc_whole_mean.specs.Mean.{has_label, wanted}
use Rattle.cc_whole_mean.proofs.Growth.{grows-falling, grows-does_all}
use Rattle.cf_lower.specs.Kept.{Keeping}
use Rattle.cf_lower.specs.Expressions.{integer_in}
use Rattle.cf_lower.specs.Statements.{items, flag_set, if_flag}
use Rattle.cf_lower_steps.specs.Flows.{Simulates}
use Rattle.cf_lower_steps.proofs.Branches.{falls-on}
use Rattle.cf_lower_turns.specs.Around.{Around, cases, depth_of, gone_on_to, going_on_of, inside_at}
use Rattle.cf_lower_turns.specs.Flags.{Shows}
use Rattle.cf_lower_turns.specs.Ways.{flagged}
use Rattle.cf_lower_bounds.specs.Needs.{Switches, label_of}
use Rattle.cf_lower_turns.proofs.Following.{sim-here, sim-as, return-falls, return-switches}
use Rattle.cf_lower_place.specs.Input.{IsInput}
use Rattle.cf_lower_bounds.proofs.Inputs.{takes-does_from, sim-on}
use Rattle.cf_lower_bounds.proofs.Labels.{has-label}
use Rattle.cf_lower_bounds.proofs.Laws.{HasNumber}
use Rattle.cf_lower_bounds.proofs.Leaving.{continue-does}
use Rattle.cf_lower_bounds.proofs.Setup.{Setup, Runners, ends, WithinIf, list, SameFrom}
use Rattle.cf_lower_bounds.proofs.Written.{then-then, flag-then, flag-passed, flag-taken}

-- From a point into a switch, whose labels have points of their own, and behind it to another.
module _ (z : Setup) (m : Runners) (around : Around z.Point) (r : Register) (ss : Plains) (p h : z.Point) (on : Switches (z.kept p r) ss)
    (room : depth_of around < z.flags) (labels : Option ℤ → z.Point)
    (enters : (d : ℕ) (g : Registers) (s : State) (t : c.State) (n : ℤ) → g r ≡ Some (source.Number n) → z.R p d g s t → z.R (labels (label_of n ss)) d g s t)
    (front : Keeping) where
  abbrev d : ℕ
  d = depth_of around

  abbrev its : SwitchItems
  its = items ss (inside_at z.inside (cases h around)) (z.kept h) front

  abbrev jump : Option ℕ → c.State → World → Ran c.Flow
  jump label t w = mean.does_from m.c_again m.helps m.c_program m.helper label its z.scope m.depth t w

  abbrev going : List Statement
  going = going_on_of around

  -- what stands behind the switch
  abbrev rest : c.State → World → Ran c.Flow
  rest t w = list z m (if_flag d going ∷ []) t w

  abbrev onwards : c.Flow → World → Ran c.Flow
  onwards x w = falling rest (switching x) w

  module _ (at_case : (n : ℤ) → fits on.kind n ≡ true → has_case n ss ≡ true
      → SameFrom z m (labels (Some n)) (cases h around) h (from_case m.again m.program n ss) (jump (Some (bits_of 32 (convert Int n)))))
      (at_default : SameFrom z m (labels None) (cases h around) h (from_default m.again m.program ss) (jump None)) where
    -- ---- behind the switch

    falls : (g : Registers) (s : State) (t : c.State) (w : World) → z.R h (suc d) g s t → Simulates (ends z around h) (Went (Gives (Falls g) s) w) (rest t w)
    falls g s t w k =
        sim-here (ends z around h) (Falls g) s w (rest t w) (c.Falls t)
        (flag-passed m.c_again m.helps m.c_program m.grown m.helped m.helper z.scope m.depth d going [] t w (z.laws.unset h d g s t k))
        (record { after = t; is = refl; related = z.laws.fewer h d g s t k })

    goes-on : (q : z.Point) → gone_on_to around ≡ Some q → (g : Registers) (s : State) (t : c.State) (w : World) → z.R q d g s t → Shows z.scope d 1 t.memory
        → Simulates (ends z around h) (Went (Gives (Continues g) s) w) (rest t w)
    goes-on q e g s t w k shown =
        sim-as (ends z around h) (Went (Gives (Continues g) s) w) (list z m going t w) (rest t w)
        (flag-taken m.c_again m.helps m.c_program m.grown m.helped m.helper z.scope m.depth d going [] t w shown ∙ falls-on (list z m going t w))
        (continue-does z m around q h (subst (λ o. WithinIf z q o) (sym e) (λ d g s t r. r)) g s t w k)

    behind : (flow : Flow) (s : State) (x : c.Flow) (w : World) → ends z (cases h around) h flow s x → Simulates (ends z around h) ((plain.leaving flow) s w) (onwards x w)
    behind (Falls g) s x w e =
        sim-as (ends z around h) (Went (Gives (Falls g) s) w) (rest e.after w) (onwards x w) (ap (λ y. onwards y w) e.is) (falls g s e.after w e.related)
    behind (Breaks g) s x w e =
        sim-as (ends z around h) (Went (Gives (Falls g) s) w) (rest e.after w) (onwards x w) (ap (λ y. onwards y w) e.is) (falls g s e.after w e.related)
    behind (Continues g) s x w e = by_target (gone_on_to around) refl e
      where
        by_target : (o : Option z.Point) → gone_on_to around ≡ o → flagged z.Point z.scope z.R z.gives o d g s x
            → Simulates (ends z around h) (Went (Gives (Continues g) s) w) (onwards x w)
        by_target None i e = absurd e
        by_target (Some q) i e =
            sim-as (ends z around h) (Went (Gives (Continues g) s) w) (rest e.after w) (onwards x w) (ap (λ y. onwards y w) e.is)
            (goes-on q i g s e.after w e.related.0 e.related.1)
    behind (Returns v) s x w e =
        let is = z.returns v s x e in
        sim-here (ends z around h) (Returns v) s w (onwards x w) x (ap (λ y. falling rest y w) (return-switches x is) ∙ return-falls rest x w is) e

    grows-rest : (t : c.State) (w : World) → Adds w.trace (rest t w)
    grows-rest t w = grows-does_all m.c_again m.helps m.grown m.helped m.c_program m.helper (in_order (if_flag d going ∷ [])) z.scope m.depth t w

    -- ---- the switch

    abbrev whole : List Statement
    whole = flag_set d 0 ∷ c_tree.select (integer_in r) its ∷ if_flag d going ∷ []

    module _ (g : Registers) (s : State) (t : c.State) (w : World) (input : IsInput w.input) (n : ℤ) (at : z.R (labels (label_of n ss)) (suc d) g s t)
        (number : HasNumber on.kinds n (value_of (integer_in r) z.scope t.memory)) where
      abbrev bits : ℕ
      bits = bits_of 32 (convert Int n)

      fitting : fits on.kind n ≡ true
      fitting = number.fits on.kind on.has

      -- both go to the same label
      chosen : Simulates (ends z (cases h around) h) (when (has_case n ss) (from_case m.again m.program n ss g) (from_default m.again m.program ss g) s w) (jump (wanted bits its) t w)
      chosen =
          sim-as (ends z (cases h around) h) _ (jump (if has_case n ss then Some bits else None) t w) (jump (wanted bits its) t w)
          (ap (λ b. jump (if b then Some bits else None) t w) (has-label on.kind n fitting ss (inside_at z.inside (cases h around)) (z.kept h) front on.labels))
          (by_test (has_case n ss) refl at)
        where
          by_test : (b : Bool) → has_case n ss ≡ b → z.R (labels (if b then Some n else None)) (suc d) g s t → Simulates (ends z (cases h around) h) (when b (from_case m.again m.program n ss g) (from_default m.again m.program ss g) s w)
              (jump (if b then Some bits else None) t w)
          by_test true e i = at_case n fitting e g s t w i input
          by_test false e i = at_default g s t w i input

      switched : Simulates (ends z around h) ((when (has_case n ss) (from_case m.again m.program n ss g) (from_default m.again m.program ss g) >>= plain.leaving) s w)
          (list z m (c_tree.select (integer_in r) its ∷ if_flag d going ∷ []) t w)
      switched =
          sim-as (ends z around h) _ (and_then (jump (wanted bits its) t w) onwards) (list z m (c_tree.select (integer_in r) its ∷ if_flag d going ∷ []) t w)
          (ap (λ a. and_then (tried (on_ok a (λ v. numbered v (λ k y. Ok y))) w (λ y. and_then (jump (wanted (bits_of 32 y) its) t w) (λ x w. Went (switching x) w))) (falling rest))
          number.is
          ∙ then-then (jump (wanted bits its) t w) (λ x w. Went (switching x) w) (falling rest))
          (sim-on (ends z (cases h around) h) (ends z around h) w.input
          (when (has_case n ss) (from_case m.again m.program n ss g) (from_default m.again m.program ss g) s w) (jump (wanted bits its) t w) plain.leaving onwards
          (takes-does_from m.c_again m.helps m.left m.left_helps m.c_program m.helper (wanted bits its) its z.scope m.depth t w) input chosen
          (λ flow s x w i e. behind flow s x w e) (λ y t w. refl)
          (λ x w. grows-falling rest grows-rest (switching x) w))

    pub switches : SameFrom z m p around h (does m.again m.program (switch r ss))
        (λ t w. list z m whole t w)
    switches g s t w k input = by_value (g r) refl
      where
        of_number : (n : ℤ) → g r ≡ Some (source.Number n)
            → Simulates (ends z around h) ((when (has_case n ss) (from_case m.again m.program n ss g) (from_default m.again m.program ss g) >>= plain.leaving) s w) (list z m whole t w)
        of_number n e =
            let done = z.laws.set p d 0 g s t room refl k in
            let after : c.State = in_memory t done.after in
            let at = z.laws.more p d g s after room done.shows done.related in
            sim-as (ends z around h) _ (list z m (c_tree.select (integer_in r) its ∷ if_flag d going ∷ []) after w) (list z m whole t w)
            (flag-then m.c_again m.helps m.c_program m.grown m.helped m.helper z.scope m.depth d 0 (λ y. z.R p d g s (in_memory t y)) t w
            (c_tree.select (integer_in r) its ∷ if_flag d going ∷ []) done)
            (switched g s after w input n (enters (suc d) g s after n e at) (z.laws.number p (suc d) g s after at r on.kinds n on.is e))

        by_value : (y : Option source.Value) → g r ≡ y
            → Simulates (ends z around h)
            ((some_or y malformed >>= used >>= number_of >>= (λ n. when (has_case n ss) (from_case m.again m.program n ss g) (from_default m.again m.program ss g) >>= plain.leaving)) s w)
            (list z m whole t w)
        by_value None e = record { by = tt }
        by_value (Some source.Nothing) e = record { by = tt }
        by_value (Some source.Missing) e =
            record { by = (grows-does_all m.c_again m.helps m.grown m.helped m.c_program m.helper (in_order whole) z.scope m.depth t w).by }
        by_value (Some source.Built) e = record { by = tt }
        by_value (Some (source.Number n)) e = of_number n e
        by_value (Some source.Null) e = record { by = tt }
        by_value (Some (source.At o)) e = record { by = tt }
        by_value (Some (source.Code f)) e = record { by = tt }
        by_value (Some (source.DataMember path j)) e = record { by = tt }
        by_value (Some (source.FunctionMember path f)) e = record { by = tt }
