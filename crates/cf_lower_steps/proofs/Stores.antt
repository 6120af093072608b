-- A scalar is stored in both.
use Rattle.std.proofs.Common.{◌≡◌, ℕ, ◌<◌, true, false, not, ◌==◌, refl, sym, ◌∙◌, ap, subst}
use Rattle.std.specs.Prelude.{ℤ, Some, Result, Ok}
use Rattle.cf_base.specs.declared.kind.Kind.{Kind}
use Rattle.cf_base.specs.declared.kind.Kind.TheVariants.{Int}
use Rattle.cf_base.specs.Integers.{fits, convert}
use Rattle.cf_base.specs.Event.{Undefined}
use Rattle.cf_base.specs.World.{World, Ran, Went, Stops}
use Rattle.cf_core.specs.Types.{Name, SourceType}
use Rattle.cf_core.specs.Places.{Place, is_inside, is_scalar}
use Rattle.cf_core.specs.Store as source
use Rattle.cf_core.specs.Store.{hold, is_usable, is_constant_place}
use Rattle.cf_core.specs.Run.{State, Did, Gives, Malformed, ◌>>=◌, gives, with_object, object_changed}
use Rattle.cf_core.specs.Access.{place_type, write_place}
use Rattle.cf_core.specs.Calls.{Program}
use Rattle.cf_core.specs.Calls as core
use Rattle.cf_lower_layout.specs.Layout.{leads}
use Rattle.cf_lower_layout.specs.Sorts.{Sort, number, address, code, sort_of, c_kind}
use Rattle.cf_lower_layout.proofs.Elements.{inside-leads}
use Rattle.cf_plain.specs.Plain as plain
use Rattle.cf_plain.specs.Plain.{Register}
use Rattle.cf_plain.specs.Acts.{Registers, used_in, doing, acts}
use Rattle.cc_whole.specs.Plain.{pointed}
use Rattle.cc_whole_memory.specs.declared.value.Value.{Value}
use Rattle.cc_whole_memory.specs.declared.value.Value.TheVariants as value
use Rattle.cc_whole_memory.specs.declared.value.Scalar.TheVariants as scalar
use Rattle.cc_whole_memory.specs.Values.{type_of, as_scalar}
use Rattle.cc_whole_memory.specs.Blocks.{Memory, on_ok, write}
use Rattle.cc_whole_mean.specs.Scope.{Scope}
use Rattle.cc_whole_mean.specs.Types.{scalar_of}
use Rattle.cc_whole_mean.specs.Values.{value_of, fitted, addressed, assigned, assigned_to, stored}
use Rattle.cf_lower_relate.specs.Scalars.{c_scalar}
use Rattle.cf_lower_relate.specs.Map.{Fixed, Map, is_ended, pointer_to, type_of_place, Is}
use Rattle.cf_lower_relate.specs.Relation.{Rel}
use Rattle.cf_lower_relate.proofs.Bits.{convert-int}
use Rattle.cf_lower_relate.proofs.Memory.{write-place}
use Rattle.cf_lower_relate.proofs.Sorts.{is-scalar}
use Rattle.cf_lower_relate.proofs.Words.{convert-same, convert-c}
use Rattle.cf_lower.specs.Kept.{Kept, integer_of, holds, Keeping, local_kept}
use Rattle.cf_lower.specs.Written.{c_type}
use Rattle.cf_lower.specs.Expressions.{address_in, in_register, local_value, as_stored}
use Rattle.cf_lower_steps.specs.Steps.{InLocal, HasValue, KeptAs, InRegisters}
use Rattle.cf_lower_steps.specs.Lowering.{Takes, fixed_of}
use Rattle.cf_lower_steps.proofs.Holding.{usable, usable-has}
use Rattle.cf_lower_steps.proofs.Registers.{fitted-stays}
use Rattle.cf_lower_steps.proofs.Tests.{test-used, test-place, test-valid-on, test-need-on, test-needs-on}
use Rattle.cf_lower_steps.proofs.Values.{stage-shown, usable-stands, stored-scalar, place-sort}

-- a value as the C's scalar in memory
pub record StoredAs (Kx : Fixed) (F : Map) (u : Sort) (v : source.Value) (found : Result Value ℕ) : Type 0 where
  pub value : Value
  pub is : found ≡ Ok value
  pub same : Is Kx F u v value

-- a number by its bits as an int, as a scalar of its kind
pub number-stored : (k : Kind) (z : ℤ) → fits k z ≡ true → fitted (scalar_of (c_type (number k))) (value.Number Int (convert Int z)) ≡ Ok (value.Number (c_kind k) z)
number-stored k z f =
    ap (λ a. fitted a (value.Number Int (convert Int z))) (stored-scalar (number k))
    ∙ ap (λ y. Ok (value.Number (c_kind k) y)) (convert-c k (convert Int z) ∙ convert-int k z ∙ convert-same k z f)

module _ (Kx : Fixed) (F : Map) where
  pub as-stored-value : (u : Sort) (x : Kept) (v : source.Value) (c : Value) → Takes u x → InLocal Kx F x v c → StoredAs Kx F u v (fitted (scalar_of (c_type u)) c)
  as-stored-value (number k) (integer_of f) (source.Number z) c h i = record {
    value = value.Number (c_kind k) z;
    is = ap (fitted (scalar_of (c_type (number k)))) i.is ∙ number-stored k z (i.fits k h);
    same = record { is = refl; fits = i.fits k h };
  }
  as-stored-value (address t) (holds (address u)) source.Null c h i = record { value = c; is = ap (fitted scalar.Pointer) i ∙ ap (λ (y : Value). Ok y) (sym i); same = i }
  as-stored-value (address t) (holds (address u)) (source.At p) c h i =
      record { value = c; is = ap (fitted scalar.Pointer) i.is ∙ ap (λ (y : Value). Ok y) (sym i.is); same = subst (λ a. Is Kx F (address a) (source.At p) c) (sym h) i }
  as-stored-value (code t) (holds (code u)) source.Null c h i = record { value = c; is = ap (fitted scalar.Function) i ∙ ap (λ (y : Value). Ok y) (sym i); same = i }
  as-stored-value (code t) (holds (code u)) (source.Code f) c h i =
      record { value = c; is = ap (fitted scalar.Function) i.is ∙ ap (λ (y : Value). Ok y) (sym i.is); same = subst (λ a. Is Kx F (code a) (source.Code f) c) (sym h) i }
  as-stored-value (number k) (integer_of f) v c h i = absurd i
  as-stored-value (address t) (holds (address u)) v c h i = absurd i
  as-stored-value (code t) (holds (code u)) v c h i = absurd i
  as-stored-value u x v c h i = absurd h

  is-type : (u : Sort) (v : source.Value) (c : Value) → Is Kx F u v c → type_of c ≡ c_scalar u
  is-type (number k) (source.Number z) c h = ap type_of h.is
  is-type (address t) source.Null c h = ap type_of h
  is-type (address t) (source.At p) c h = ap type_of h.is
  is-type (code t) source.Null c h = ap type_of h
  is-type (code t) (source.Code f) c h = ap type_of h.is
  is-type u v c h = absurd h

  pub stored-stays : (u : Sort) (v : source.Value) (c : Value) → Is Kx F u v c → fitted (scalar_of (c_type u)) c ≡ Ok c
  stored-stays u v c h =
      fitted-stays Kx F (scalar_of (c_type u)) c (is-type u v c h ∙ sym (stored-scalar u)) (ap (λ a. as_scalar a c) (stored-scalar u) ∙ is-scalar Kx F u v c h)

-- What a store has done: the objects of the new state stand in the new memory, and no block but an object's has changed.
pub record Stored (Kx : Fixed) (F : Map) (s t : State) (m : Memory) (found : Result Memory ℕ) : Type 0 where
  pub after : Memory
  pub is : found ≡ Ok after
  pub rel : Rel Kx F t after
  pub frame : t.frame ≡ s.frame
  pub next : after.next ≡ m.next
  pub object : ℕ
  pub known : object < F.count
  pub live : is_ended (F.stage object) ≡ false
  pub elsewhere : (c : ℕ) → c == F.block object ≡ false → after.block c ≡ m.block c

abbrev pub StoresFrom : Fixed → Map → Ran (Did source.Value) → State → World → Memory → Result Memory ℕ → Type 0
StoresFrom Kx F (Went (Gives v t) u) s w m found = (u ≡ w) × Stored Kx F s t m found
StoresFrom Kx F (Went Malformed u) s w m found = Unit {0}
StoresFrom Kx F (Stops (Undefined act) trace) s w m found = trace ≡ w.trace
StoresFrom Kx F ran s w m found = ⊥

pub record Stores (Kx : Fixed) (F : Map) (ran : Ran (Did source.Value)) (s : State) (w : World) (m : Memory) (found : Result Memory ℕ) : Type 0 where
  pub by : StoresFrom Kx F ran s w m found

module _ (P : Program) (function : Name → ℕ) (signature : Name → SourceType) (F : Map) where
  abbrev KP : Fixed
  KP = fixed_of P function signature

  module _ (again : core.Again) (s : State) (m : Memory) (rel : Rel KP F s m) (w : World) (scope : Scope) (kept : Keeping) (g : Registers)
      (regs : InRegisters KP F kept g scope m) (r q : Register) (t : SourceType) (u : Sort) (x : Kept) (b : Sort)
      (kr : kept r ≡ holds (address t)) (e : sort_of t ≡ Some u) (kq : kept q ≡ x) (lx : local_kept x ≡ Some b) (takes : Takes u x) where
    abbrev written : Result Memory ℕ
    written = assigned (pointed (c_type u) (address_in r)) (as_stored u (local_value (Some b) q)) scope m

    abbrev Q : Ran (Did source.Value) → Type 0
    Q ran = Stores KP F ran s w m written

    wrong : Q (Went Malformed w)
    wrong = record { by = tt }

    ends : (n : ℕ) → Q (Stops (Undefined n) w.trace)
    ends n = record { by = refl }

    in-place : (p : Place) → g r ≡ Some (source.At p) → HasValue KP F (holds (address t)) (source.At p) (value_of (in_register (address t) r) scope m)
    in-place p is = subst (λ y. KeptAs KP F y (source.At p) (value_of (local_value (local_kept y) r) scope m)) kr (regs r (source.At p) is)

    in-value : (v : source.Value) → g q ≡ Some v → usable v ≡ true → HasValue KP F x v (value_of (local_value (Some b) q) scope m)
    in-value v is us =
        usable-has KP F x b v (value_of (local_value (Some b) q) scope m) lx us
        (subst (λ a. KeptAs KP F x v (value_of (local_value a q) scope m)) lx
        (subst (λ y. KeptAs KP F y v (value_of (local_value (local_kept y) q) scope m)) kq (regs q v is)))

    -- what a store to a scalar of an object that stands does
    pub done-live : (p : Place) (v : source.Value) → HasValue KP F (holds (address t)) (source.At p) (value_of (in_register (address t) r) scope m)
        → HasValue KP F x v (value_of (local_value (Some b) q) scope m)
        → is_ended (F.stage p.object) ≡ false → leads P.classes (F.type p.object) p.route ≡ true
        → Stored KP F s (with_object p.object (hold p.route (Some v)) s) m written
    done-live p v hp hv live there =
        let y = as-stored-value KP F u x v hv.value takes hv.same in
        let done = write-place KP F s m rel p u hp.same.known live there (place-sort (type_of_place KP F p) t u hp.same.type e) v y.value y.same in
        record {
          after = done.after;
          is = ap (λ a. on_ok (on_ok a (λ z. addressed z (λ o. Ok (record { pointer = o; scalar = scalar_of (c_type u) }))))
              (λ at. assigned_to at (as_stored u (local_value (Some b) q)) scope m))
              (hp.is ∙ ap (λ (z : Value). Ok z) (hp.same.is ∙ ap value.Address (hp.same.there (stage-shown (F.stage p.object) hp.same.visible live))))
              ∙ ap (λ a. on_ok (on_ok a (λ z. fitted (scalar_of (c_type u)) z)) (λ z. stored (record { pointer = pointer_to KP F p; scalar = scalar_of (c_type u) }) z m)) hv.is
              ∙ ap (λ a. on_ok a (λ z. stored (record { pointer = pointer_to KP F p; scalar = scalar_of (c_type u) }) z m)) y.is
              ∙ ap (λ a. on_ok a (λ z. write (pointer_to KP F p) z m)) (stored-stays KP F u v y.value y.same)
              ∙ done.is;
          rel = done.rel;
          frame = refl;
          next = done.next;
          object = p.object;
          known = hp.same.known;
          live = live;
          elsewhere = done.elsewhere;
        }

    done-there : (p : Place) (v : source.Value) → HasValue KP F (holds (address t)) (source.At p) (value_of (in_register (address t) r) scope m)
        → HasValue KP F x v (value_of (local_value (Some b) q) scope m)
        → is_inside P.classes (s.object p.object).type p.route ≡ true → is_usable P.classes (s.object p.object) p.route ≡ true
        → Stored KP F s (with_object p.object (hold p.route (Some v)) s) m written
    done-there p v hp hv inside usable =
        done-live p v hp hv (sym (rel.gone p.object hp.same.known) ∙ usable-stands P.classes (s.object p.object) p.route usable)
        (inside-leads P.classes (F.type p.object) p.route hp.same.inside (subst (λ z. is_inside P.classes z p.route ≡ true) (rel.type p.object hp.same.known) inside))

    pub store-step : Stores KP F (acts again P g (plain.store r q) s w) s w m written
    store-step =
        test-place Q s w wrong ends g r (λ p. used_in g q >>= (λ v. doing (write_place P.classes p v))) (λ p isp.
        test-used Q s w wrong ends g q (λ v. doing (write_place P.classes p v)) (λ v isv us.
        at-place p v (in-place p isp) (in-value v isv us)))
      where
        at-place : (p : Place) (v : source.Value) → HasValue KP F (holds (address t)) (source.At p) (value_of (in_register (address t) r) scope m)
            → HasValue KP F x v (value_of (local_value (Some b) q) scope m) → Q (doing (write_place P.classes p v) s w)
        at-place p v hp hv =
            test-valid-on Q s w wrong ends (is_scalar (place_type P.classes s p)) _ (λ n. gives source.Nothing) (λ sc.
            test-needs-on Q s w wrong ends (is_inside P.classes (s.object p.object).type p.route) (is_usable P.classes (s.object p.object) p.route) 6 5 _
            (λ n. gives source.Nothing) (λ inside usable.
            test-need-on Q s w wrong ends (not (is_constant_place P.classes (s.object p.object) p.route)) 15 (object_changed p.object (hold p.route (Some v)))
            (λ n. gives source.Nothing) (λ free. record { by = (refl, done-there p v hp hv inside usable) })))
