-- The first value of a scalar is stored in both.
use Rattle.std.proofs.Common.{◌≡◌, ℕ, Bool, true, false, [], ◌∷◌, refl, sym, ◌∙◌, ap, subst}
use Rattle.std.specs.Prelude.{Option, Some, None, Result}
use Rattle.cf_base.specs.Event.{Undefined}
use Rattle.cf_base.specs.World.{World, Ran, Went, Stops}
use Rattle.cf_core.specs.Types.{Name, SourceType}
use Rattle.cf_core.specs.Places.{Place, is_scalar}
use Rattle.cf_core.specs.Objects.{settle}
use Rattle.cf_core.specs.Store as source
use Rattle.cf_core.specs.Store.{hold}
use Rattle.cf_core.specs.Run.{State, Did, Gives, Malformed, ◌>>=◌, gives, malformed, some_or, when, with_object}
use Rattle.cf_core.specs.Access.{place_type, used, first_value}
use Rattle.cf_core.specs.Calls.{Program}
use Rattle.cf_core.specs.Calls as core
use Rattle.cf_lower_layout.specs.Layout.{leads}
use Rattle.cf_lower_layout.specs.Sorts.{Sort, number, address, code, sort_of}
use Rattle.cf_plain.specs.Plain as plain
use Rattle.cf_plain.specs.Plain.{Register, act}
use Rattle.cf_plain.specs.Acts.{Registers, held, doing, acts}
use Rattle.cf_plain.specs.Running.{calls, does}
use Rattle.cc_whole.specs.Plain.{pointed}
use Rattle.cc_whole_memory.specs.declared.value.Value.{Value}
use Rattle.cc_whole_memory.specs.Blocks.{Memory}
use Rattle.cc_whole_mean.specs.Scope.{Scope}
use Rattle.cc_whole_mean.specs.Values.{value_of, assigned}
use Rattle.cf_lower_relate.specs.Map.{Fixed, Map, is_ended}
use Rattle.cf_lower_relate.specs.Relation.{Rel}
use Rattle.cf_lower.specs.Kept.{Kept, unknown, integer_of, holds, argument, Keeping, local_kept}
use Rattle.cf_lower.specs.Written.{c_type}
use Rattle.cf_lower.specs.Expressions.{address_in, in_register, local_value, as_stored}
use Rattle.cf_lower.specs.Statements.{first_in, stored_in, stored as stored_at, put}
use Rattle.cf_lower_steps.specs.Steps.{HasValue, KeptAs, InRegisters}
use Rattle.cf_lower_steps.specs.Flows.{Simulates, Ends}
use Rattle.cf_lower_steps.specs.Lowering.{Takes, runs, falls_only}
use Rattle.cf_lower_steps.specs.Moment.{Moment, fixed, Stands, Lowers}
use Rattle.cf_lower_steps.proofs.Between.{stores-there}
use Rattle.cf_lower_steps.proofs.Holding.{usable, usable-has}
use Rattle.cf_lower_steps.proofs.Stores.{Stored, Stores, done-live}
use Rattle.cf_lower_steps.proofs.Tests.{test-place}
use Rattle.cf_lower_steps.proofs.Values.{K}

-- no register that has a C local holds what an initialiser has built in place
never-built : (Kx : Fixed) (F : Map) (x : Kept) (b : Sort) (found : Result Value ℕ) → local_kept x ≡ Some b → KeptAs Kx F x source.Built found → ⊥
never-built Kx F unknown b found e h = absurd (cc)
never-built Kx F (argument i t) b found e h = absurd (cc)
never-built Kx F (integer_of f) b found e h = h.same
never-built Kx F (holds (number k)) b found e h = h.same
never-built Kx F (holds (address t)) b found e h = h.same
never-built Kx F (holds (code t)) b found e h = h.same

-- what holds where a first value is stored, where one was built in place, and of runs that are malformed or undefined, holds of the action
module _ (P : Program) (again : core.Again) (g : Registers) (r q : Register) (s : State) (w : World) (Q : Ran (Did source.Value) → Type 0)
    (wrong : Q (Went Malformed w)) (ends : (n : ℕ) → Q (Stops (Undefined n) w.trace))
    (built : g q ≡ Some source.Built → Q (Went (Gives source.Nothing s) w))
    (put : (p : Place) → g r ≡ Some (source.At p) → (v : source.Value) → g q ≡ Some v → usable v ≡ true → Q ((doing (first_value p v)) s w)) where
  pub first-cases : Q (acts again P g (plain.first r q) s w)
  first-cases =
      test-place Q s w wrong ends g r (λ p. held g q >>= (λ v. doing (settle P.classes p v))) (λ p isp. of-place p isp (g q) refl)
    where
      of-place : (p : Place) → g r ≡ Some (source.At p) → (y : Option source.Value) → g q ≡ y
          → Q ((some_or y malformed >>= (λ v. doing (settle P.classes p v))) s w)
      of-place p isp None isq = wrong
      of-place p isp (Some v) isq = by_value v isq
        where
          when-scalar : (b : Bool) (v : source.Value) → Q ((doing (used v >>= first_value p)) s w) → Q ((doing (when b (used v >>= first_value p) malformed)) s w)
          when-scalar true v h = h
          when-scalar false v h = wrong

          by_value : (v : source.Value) → g q ≡ Some v → Q ((doing (settle P.classes p v)) s w)
          by_value source.Built is = built is
          by_value source.Nothing is = when-scalar (is_scalar (place_type P.classes s p)) source.Nothing wrong
          by_value source.Missing is = when-scalar (is_scalar (place_type P.classes s p)) source.Missing (ends 16)
          by_value (source.Number z) is = when-scalar (is_scalar (place_type P.classes s p)) (source.Number z) (put p isp (source.Number z) is refl)
          by_value source.Null is = when-scalar (is_scalar (place_type P.classes s p)) source.Null (put p isp source.Null is refl)
          by_value (source.At o) is = when-scalar (is_scalar (place_type P.classes s p)) (source.At o) (put p isp (source.At o) is refl)
          by_value (source.Code f) is = when-scalar (is_scalar (place_type P.classes s p)) (source.Code f) (put p isp (source.Code f) is refl)
          by_value (source.DataMember path i) is =
              when-scalar (is_scalar (place_type P.classes s p)) (source.DataMember path i) (put p isp (source.DataMember path i) is refl)
          by_value (source.FunctionMember path d) is =
              when-scalar (is_scalar (place_type P.classes s p)) (source.FunctionMember path d) (put p isp (source.FunctionMember path d) is refl)

module _ (P : Program) (function : Name → ℕ) (signature : Name → SourceType) (F : Map) (again : core.Again) (s : State) (m : Memory)
    (rel : Rel (K P function signature F) F s m) (w : World) (scope : Scope) (kept : Keeping) (g : Registers) (regs : InRegisters (K P function signature F) F kept g scope m)
    (r q : Register) (x : Kept) (b : Sort) (kq : kept q ≡ x) (lx : local_kept x ≡ Some b) where
  kept-value : (v : source.Value) → g q ≡ Some v → KeptAs (K P function signature F) F x v (value_of (local_value (Some b) q) scope m)
  kept-value v is =
      subst (λ a. KeptAs (K P function signature F) F x v (value_of (local_value a q) scope m)) lx
      (subst (λ y. KeptAs (K P function signature F) F y v (value_of (local_value (local_kept y) q) scope m)) kq (regs q v is))

  in-value : (v : source.Value) → g q ≡ Some v → usable v ≡ true → HasValue (K P function signature F) F x v (value_of (local_value (Some b) q) scope m)
  in-value v is us = usable-has (K P function signature F) F x b v (value_of (local_value (Some b) q) scope m) lx us (kept-value v is)

  -- a first value is stored in both where a value that can be used is
  module _ (written : Result Memory ℕ)
      (stored : (p : Place) → g r ≡ Some (source.At p) → (v : source.Value) → HasValue (K P function signature F) F x v (value_of (local_value (Some b) q) scope m)
      → Stored (K P function signature F) F s (with_object p.object (hold p.route (Some v)) s) m written) where
    pub first-by : Stores (K P function signature F) F (acts again P g (plain.first r q) s w) s w m written
    first-by =
        first-cases P again g r q s w (λ ran. Stores (K P function signature F) F ran s w m written) (record { by = tt }) (λ n. record { by = refl })
        (λ is. absurd (never-built (K P function signature F) F x b _ lx (kept-value source.Built is)))
        (λ p isp v is us. record { by = (refl, stored p isp v (in-value v is us)) })

  -- in a part of an object that stands
  module _ (t : SourceType) (u : Sort) (kr : kept r ≡ holds (address t)) (e : sort_of t ≡ Some u) (takes : Takes u x)
      (standing : (p : Place) → g r ≡ Some (source.At p) → (is_ended (F.stage p.object) ≡ false) × (leads P.classes (F.type p.object) p.route ≡ true)) where
    in-place : (p : Place) → g r ≡ Some (source.At p) → HasValue (K P function signature F) F (holds (address t)) (source.At p) (value_of (in_register (address t) r) scope m)
    in-place p is = subst (λ y. KeptAs (K P function signature F) F y (source.At p) (value_of (local_value (local_kept y) r) scope m)) kr (regs r (source.At p) is)

    pub first-step : Stores (K P function signature F) F (acts again P g (plain.first r q) s w) s w m
        (assigned (pointed (c_type u) (address_in r)) (as_stored u (local_value (Some b) q)) scope m)
    first-step = first-by (assigned (pointed (c_type u) (address_in r)) (as_stored u (local_value (Some b) q)) scope m) (λ p isp v hv.
        let there = standing p isp in
        done-live P function signature F again s m rel w scope kept g regs r q t u x b kr e kq lx takes p v (in-place p isp) hv there.0 there.1)

module _ (at : Moment) (h : Stands at) where
  pub first-lowered : (r q : Register) (t : SourceType) (u : Sort) (x : Kept) (b : Sort) → at.kept r ≡ holds (address t) → sort_of t ≡ Some u → at.kept q ≡ x
      → local_kept x ≡ Some b → Takes u x
      → ((p : Place) → at.registers r ≡ Some (source.At p) → (is_ended (at.map.stage p.object) ≡ false) × (leads at.program.classes (at.map.type p.object) p.route ≡ true))
      → Lowers at (act (plain.first r q)) at.kept falls_only
  first-lowered r q t u x b kr e kq lx takes standing =
      subst (λ ss. Simulates (Ends (fixed at) at.own at.scope at.map at.kept falls_only) (does at.again at.program (act (plain.first r q)) at.registers at.state at.world)
      (runs at.c_again at.helps at.c_program at.helper at.scope at.depth ss at.memory at.world))
      (sym (ap (λ k. first_in k r (local_value (local_kept (at.kept q)) q)) kr
      ∙ ap (λ i. stored_at i r (local_value (local_kept (at.kept q)) q)) e
      ∙ ap (λ k. put u (address_in r) (local_value (local_kept k) q) ∷ []) kq
      ∙ ap (λ l. put u (address_in r) (local_value l q) ∷ []) lx))
      (stores-there (fixed at) at.own at.scope at.map at.c_again at.helps at.c_program at.helper at.depth at.kept at.registers at.state at.memory at.world h.between h.below falls_only
      (pointed (c_type u) (address_in r)) (as_stored u (local_value (Some b) q)) _
      (first-step at.program at.function at.signature at.map (calls at.again) at.state at.memory.memory h.between.rel at.world at.scope at.kept at.registers h.between.registers
      r q x b kq lx t u kr e takes standing))
