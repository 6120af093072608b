-- Actions that read and compute: each gives what its C expression gives.
use Rattle.std.proofs.Common.{◌≡◌, ℕ, Bool, true, false, not, if◌then◌else◌, List, [], ◌∷◌, refl, sym, ◌∙◌, ap, subst, ◌⊎◌, inl, inr}
use Rattle.std.specs.Prelude.{ℤ, Option, Some, None, Result, Ok}
use Rattle.cf_base.specs.declared.kind.Kind.TheVariants.{Char, SChar, UChar, Short, UShort, Int, UInt, Long, ULong}
use Rattle.cf_base.specs.Integers.{fits, convert}
use Rattle.cf_base.specs.Event.{Undefined}
use Rattle.cf_base.specs.World.{World, Ran, Went, Stops}
use Rattle.cf_base.proofs.Tests.{both}
use Rattle.cf_core.specs.Types.{Name, SourceType, void, without_const}
use Rattle.cf_core.specs.Classes.{Class}
use Rattle.cf_core.specs.Places.{Route, Place, is_inside, is_scalar}
use Rattle.cf_core.specs.Store as source
use Rattle.cf_core.specs.Store.{Object, is_usable}
use Rattle.cf_core.specs.Run.{State, Did, Malformed, Act, ◌>>=◌, ◌>>◌, gives, undefined, need, valid, some_or}
use Rattle.cf_core.specs.Access.{place_type, read_place}
use Rattle.cf_core.specs.Calls.{Program}
use Rattle.cf_core.specs.Calls as core
use Rattle.cf_lower_layout.specs.Layout.{leads}
use Rattle.cf_lower_layout.specs.Sorts.{Sort, number, address, code, scalar_sort, sort_of}
use Rattle.cf_lower_layout.proofs.Elements.{inside-leads}
use Rattle.cf_lower_layout.proofs.Types.{without-twice}
use Rattle.cf_plain.specs.Plain as plain
use Rattle.cf_plain.specs.Plain.{Register, Action}
use Rattle.cf_plain.specs.Acts.{Registers, held, used_in, place_in, acts}
use Rattle.cc_whole.specs.declared.types.CType.TheVariants as ty
use Rattle.cc_whole_memory.specs.declared.value.Value.{Value}
use Rattle.cc_whole_memory.specs.declared.value.Value.TheVariants as value
use Rattle.cc_whole_memory.specs.Blocks.{Memory, on_ok, read}
use Rattle.cc_whole_mean.specs.Scope.{Scope}
use Rattle.cc_whole_mean.specs.Types.{scalar_of}
use Rattle.cc_whole_mean.specs.Values.{value_of, fitted, addressed}
use Rattle.cf_lower_relate.specs.Scalars.{c_scalar}
use Rattle.cf_lower_relate.specs.Map.{Fixed, Map, Stage, hidden, shown, ended, is_ended, is_shown, is_hidden, pointer_to, type_of_place, Is, is_word}
use Rattle.cf_lower_relate.specs.Relation.{Rel}
use Rattle.cf_lower_relate.proofs.Bits.{fits-word}
use Rattle.cf_lower_relate.proofs.Memory.{read-place}
use Rattle.cf_lower.specs.Kept.{Kept, unknown, integer_of, holds, Keeping, of_sort, local_kept, constant_kept}
use Rattle.cf_lower.specs.Written.{c_type, register_type}
use Rattle.cf_lower.specs.Expressions as c
use Rattle.cf_lower.specs.Expressions.{in_register, address_in, as_value, loaded, local_value}
use Rattle.cf_lower_steps.proofs.Holding.{usable}
use Rattle.cf_lower_steps.proofs.Tests.{test-valid, test-need, test-needs, test-used, test-place}
use Rattle.cf_lower_steps.proofs.Narrower.{within-fits}
use Rattle.cf_lower_steps.specs.Steps.{HasValue, KeptAs, GivenAs, InRegisters, Step}
use Rattle.cf_lower_steps.specs.Lowering.{fixed_of}

-- ---- facts apart from any run

pub stage-shown : (st : Stage) → is_hidden st ≡ false → is_ended st ≡ false → is_shown st ≡ true
stage-shown hidden h e = absurd (cc)
stage-shown shown h e = refl
stage-shown ended h e = absurd (cc)

not-false : (b : Bool) → not b ≡ true → b ≡ false
not-false true h = absurd (cc)
not-false false h = refl

-- a place that may be used stands
pub usable-stands : (cs : List Class) (x : Object) (π : Route) → is_usable cs x π ≡ true → x.is_gone ≡ false
usable-stands cs x [] h = not-false x.is_gone (both (not x.is_gone) _ h).0
usable-stands cs x (s ∷ π) h = usable-stands cs x π (both _ (is_usable cs x π) h).1

-- the C's types are the scalars of memory
pub stored-scalar : (u : Sort) → scalar_of (c_type u) ≡ c_scalar u
stored-scalar (number Char) = refl
stored-scalar (number SChar) = refl
stored-scalar (number UChar) = refl
stored-scalar (number Short) = refl
stored-scalar (number UShort) = refl
stored-scalar (number Int) = refl
stored-scalar (number UInt) = refl
stored-scalar (number Long) = refl
stored-scalar (number ULong) = refl
stored-scalar (address t) = refl
stored-scalar (code t) = refl

-- the sort of a place's type is that of the type that a pointer to it has
pub place-sort : (u t : SourceType) (a : Sort) → (t ≡ void) ⊎ (without_const u ≡ t) → sort_of t ≡ Some a → sort_of u ≡ Some a
place-sort u t a (inl e) h = absurd (none-some (sym (ap sort_of e) ∙ h))
  where
    none-some : None ≡ Some a → ⊥
    none-some q = absurd (cc)
place-sort u t a (inr e) h = ap scalar_sort (sym (without-twice u) ∙ ap without_const e) ∙ h

-- ---- steps

module _ (P : Program) (function : Name → ℕ) (signature : Name → SourceType) (F : Map) where
  abbrev pub K : Fixed
  K = fixed_of P function signature

  module _ (s : State) (w : World) (x : Kept) (found : Result Value ℕ) where
    pub step-gives : (v : source.Value) → GivenAs K F x v found → Step K F (gives v s w) s w x found
    step-gives v h = record { by = (refl, refl, h) }

    abbrev Q : Ran (Did source.Value) → Type 0
    Q ran = Step K F ran s w x found

    wrong : Q (Went Malformed w)
    wrong = record { by = tt }

    ends : (n : ℕ) → Q (Stops (Undefined n) w.trace)
    ends n = record { by = refl }

    pub step-valid : (b : Bool) (next : Act source.Value) → (b ≡ true → Step K F (next s w) s w x found) → Step K F ((valid b >> next) s w) s w x found
    step-valid b next h = test-valid Q s w wrong ends b next h

    pub step-need : (b : Bool) (n : ℕ) (next : Act source.Value) → (b ≡ true → Step K F (next s w) s w x found) → Step K F ((need b n >> next) s w) s w x found
    step-need b n next h = test-need Q s w wrong ends b n next h

    pub step-needs : (b c : Bool) (n k : ℕ) (next : Act source.Value) → (b ≡ true → c ≡ true → Step K F (next s w) s w x found)
        → Step K F (((need b n >> need c k) >> next) s w) s w x found
    step-needs b c n k next h = test-needs Q s w wrong ends b c n k next h

    pub step-some : (o : Option source.Value) (n : ℕ) → ((v : source.Value) → o ≡ Some v → GivenAs K F x v found) → Step K F (some_or o (undefined n) s w) s w x found
    step-some None n h = record { by = refl }
    step-some (Some v) n h = record { by = (refl, refl, h v refl) }

    pub step-used : (g : Registers) (r : Register) (go : source.Value → Act source.Value)
        → ((v : source.Value) → g r ≡ Some v → usable v ≡ true → Step K F (go v s w) s w x found)
        → Step K F ((used_in g r >>= go) s w) s w x found
    step-used g r go next = test-used Q s w wrong ends g r go next

    pub step-place : (g : Registers) (r : Register) (go : Place → Act source.Value)
        → ((p : Place) → g r ≡ Some (source.At p) → Step K F (go p s w) s w x found)
        → Step K F ((place_in g r >>= go) s w) s w x found
    step-place g r go next = test-place Q s w wrong ends g r go next

  -- ---- values in registers

  -- a value from memory as a register holds it
  pub as-register : (u : Sort) (v : source.Value) (y : Value) → Is K F u v y → GivenAs K F (of_sort (Some u)) v (fitted (scalar_of (register_type u)) y)
  as-register (number k) (source.Number z) y h = record {
    value = value.Number Int (convert Int z);
    is = ap (fitted (scalar_of ty.Int)) h.is;
    same = record { is = refl; word = fits-word k z h.fits; fits = λ j e. within-fits k j z e h.fits };
  }
  as-register (address t) source.Null y h = record { value = y; is = ap (fitted (scalar_of ty.Pointer)) h ∙ ap (λ (z : Value). Ok z) (sym h); same = h }
  as-register (address t) (source.At p) y h = record { value = y; is = ap (fitted (scalar_of ty.Pointer)) h.is ∙ ap (λ (z : Value). Ok z) (sym h.is); same = h }
  as-register (code t) source.Null y h = record { value = y; is = ap (fitted (scalar_of ty.FunctionPointer)) h ∙ ap (λ (z : Value). Ok z) (sym h); same = h }
  as-register (code t) (source.Code f) y h = record { value = y; is = ap (fitted (scalar_of ty.FunctionPointer)) h.is ∙ ap (λ (z : Value). Ok z) (sym h.is); same = h }
  as-register u v y h = absurd h

  -- ---- actions

  module _ (again : core.Again) (s : State) (m : Memory) (rel : Rel K F s m) (w : World) (scope : Scope) (kept : Keeping) (g : Registers)
      (regs : InRegisters K F kept g scope m) where
    -- what is known of a register
    pub known-in : (r : Register) (x : Kept) (v : source.Value) → kept r ≡ x → g r ≡ Some v → KeptAs K F x v (value_of (local_value (local_kept x) r) scope m)
    known-in r x v k e = subst (λ y. KeptAs K F y v (value_of (local_value (local_kept y) r) scope m)) k (regs r v e)

    pub number-step : (z : ℤ) → Step K F (acts again P g (plain.number z) s w) s w (constant_kept z) (value_of (c.constant_of z) scope m)
    number-step z = record { by = (refl, refl, by_test (is_word z) refl) }
      where
        by_test : (b : Bool) → is_word z ≡ b → GivenAs K F (if b then integer_of (λ k. fits k z) else unknown) (source.Number z) (value_of (c.constant_of z) scope m)
        by_test true e = record { value = value.Number Int (convert Int z); is = refl; same = record { is = refl; word = e; fits = λ k f. f } }
        by_test false e = tt

    module _ (r : Register) (t : SourceType) (u : Sort) (k : kept r ≡ holds (address t)) (e : sort_of t ≡ Some u) where
      -- what a place that a register points to holds
      read-there : (p : Place) → HasValue K F (holds (address t)) (source.At p) (value_of (in_register (address t) r) scope m)
          → is_inside P.classes (s.object p.object).type p.route ≡ true → is_usable P.classes (s.object p.object) p.route ≡ true
          → (v : source.Value) → (s.object p.object).held p.route ≡ Some v
          → GivenAs K F (of_sort (Some u)) v (value_of (loaded u (address_in r)) scope m)
      read-there p h inside usable v held =
          let live : is_ended (F.stage p.object) ≡ false = sym (rel.gone p.object h.same.known) ∙ usable-stands P.classes (s.object p.object) p.route usable in
          let there : leads P.classes (F.type p.object) p.route ≡ true =
          inside-leads P.classes (F.type p.object) p.route h.same.inside (subst (λ z. is_inside P.classes z p.route ≡ true) (rel.type p.object h.same.known) inside) in
          let found = read-place K F s m rel p u h.same.known live there (place-sort (type_of_place K F p) t u h.same.type e) v held in
          subst (λ z. GivenAs K F (of_sort (Some u)) v z)
          (sym (ap (λ a. on_ok (on_ok a (λ y. addressed y (λ q. read (scalar_of (c_type u)) q m))) (λ y. fitted (scalar_of (register_type u)) y))
          (h.is ∙ ap (λ (y : Value). Ok y) (h.same.is ∙ ap value.Address (h.same.there (stage-shown (F.stage p.object) h.same.visible live))))
          ∙ ap (λ a. on_ok (read a (pointer_to K F p) m) (λ y. fitted (scalar_of (register_type u)) y)) (stored-scalar u)
          ∙ ap (λ a. on_ok a (λ y. fitted (scalar_of (register_type u)) y)) found.is))
          (as-register u v found.value found.same)

      pub read-step : Step K F (acts again P g (plain.read r) s w) s w (of_sort (Some u)) (value_of (loaded u (address_in r)) scope m)
      read-step =
          step-place s w (of_sort (Some u)) (value_of (loaded u (address_in r)) scope m) g r (read_place P.classes) (λ p is.
          step-valid s w _ _ (is_scalar (place_type P.classes s p)) _ (λ sc.
          step-needs s w _ _ (is_inside P.classes (s.object p.object).type p.route) (is_usable P.classes (s.object p.object) p.route) 6 5 _ (λ inside usable.
          step-some s w _ _ ((s.object p.object).held p.route) 7 (λ v held. read-there p (known-in r (holds (address t)) (source.At p) k is) inside usable v held))))
