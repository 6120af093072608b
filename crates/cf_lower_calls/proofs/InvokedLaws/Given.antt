-- What a function has given back, as the C local of its type holds it and as a register does.
use Rattle.std.proofs.Common.{◌≡◌, ℕ, zero, suc, Bool, true, false, ◌==◌, if◌then◌else◌, refl, sym, ◌∙◌, ap, subst}
use Rattle.std.specs.Prelude.{Some, pos, Result, Ok}
use Rattle.cf_base.specs.declared.kind.Kind.TheVariants.{Char, SChar, UChar, Short, UShort, Int, UInt, Long, ULong}
use Rattle.cf_core.specs.Types.{Name, SourceType, is_void}
use Rattle.cf_core.specs.Store as source
use Rattle.cf_core.specs.Run.{State}
use Rattle.cf_core.specs.Calls.{Program, given_value}
use Rattle.cf_lower_layout.specs.Sorts.{Sort, number, address, code}
use Rattle.cf_plain.specs.Plain.{Register}
use Rattle.cf_plain.specs.Acts.{Registers}
use Rattle.cf_plain.specs.Running.{keep as keep_value}
use Rattle.cc_whole_memory.specs.declared.value.Value.{Value}
use Rattle.cc_whole_memory.specs.Values.{bytes_of, type_of, as_scalar, zero_of}
use Rattle.cc_whole_mean.specs.Flow as c
use Rattle.cc_whole_mean.specs.Types.{scalar_of}
use Rattle.cc_whole_mean.specs.Values.{value_of, fitted}
use Rattle.cf_lower.specs.Kept.{Kept, Keeping, keep, of_sort, local_kept}
use Rattle.cf_lower.specs.Written.{c_type, register_type}
use Rattle.cf_lower.specs.Expressions.{local_value}
use Rattle.cf_lower_relate.specs.Map.{Fixed, Map, Is}
use Rattle.cf_lower_relate.specs.Scalars.{c_scalar}
use Rattle.cf_lower_relate.proofs.Sorts.{is-scalar, is-bytes}
use Rattle.cf_lower_relate.proofs.Values.{grows-same}
use Rattle.cf_lower_steps.specs.Lowering.{fixed_of}
use Rattle.cf_lower_steps.specs.Steps.{KeptAs, GivenAs, InRegisters}
use Rattle.cf_lower_steps.proofs.Registers.{same-register, kept-other, fitted-stays}
use Rattle.cf_lower_steps.proofs.Values.{stored-scalar, as-register}
use Rattle.cf_lower_turns.specs.Here.{Body, Here}
use Rattle.cf_lower_turns.specs.Scene.{SameBack}
use Rattle.cf_lower_points.proofs.LowerActions.{here-grown}
use Rattle.cf_lower_calls.proofs.InvokedLaws.Results.{Typed}

-- ---- 0 and null

abbrev zero-value : Sort → source.Value
zero-value (number k) = source.Number (pos 0)
zero-value (address t) = source.Null
zero-value (code t) = source.Null

module _ (P : Program) (function : Name → ℕ) (signature : Name → SourceType) (F : Map) where
  abbrev pub K : Fixed
  K = fixed_of P function signature

  zero-same : (u : Sort) → Is K F u (zero-value u) (zero_of (c_scalar u))
  zero-same (number Char) = record { is = refl; fits = refl }
  zero-same (number SChar) = record { is = refl; fits = refl }
  zero-same (number UChar) = record { is = refl; fits = refl }
  zero-same (number Short) = record { is = refl; fits = refl }
  zero-same (number UShort) = record { is = refl; fits = refl }
  zero-same (number Int) = record { is = refl; fits = refl }
  zero-same (number UInt) = record { is = refl; fits = refl }
  zero-same (number Long) = record { is = refl; fits = refl }
  zero-same (number ULong) = record { is = refl; fits = refl }
  zero-same (address t) = refl
  zero-same (code t) = refl

  -- ---- the value is of its C type

  is-type : (u : Sort) (v : source.Value) (y : Value) → Is K F u v y → type_of y ≡ c_scalar u
  is-type (number k) (source.Number z) y h = ap type_of h.is
  is-type (address t) source.Null y h = ap type_of h
  is-type (address t) (source.At p) y h = ap type_of h.is
  is-type (code t) source.Null y h = ap type_of h
  is-type (code t) (source.Code f) y h = ap type_of h.is
  is-type u v y h = absurd h

  typed-is : (u : Sort) (v : source.Value) (y : Value) → Is K F u v y → Typed (c_type u) y
  typed-is u v y h = record {
    fits = fitted-stays K F (scalar_of (c_type u)) y (is-type u v y h ∙ sym (stored-scalar u)) (ap (λ a. as_scalar a y) (stored-scalar u) ∙ is-scalar K F u v y h);
    bytes = is-bytes K F u v y h ∙ ap bytes_of (sym (stored-scalar u));
    stays = ap (λ a. as_scalar a y) (stored-scalar u) ∙ is-scalar K F u v y h;
  }

  typed-zero : (u : Sort) (y : Value) → y ≡ zero_of (c_scalar u) → Typed (c_type u) y
  typed-zero u y e = subst (Typed (c_type u)) (sym e) (typed-is u (zero-value u) (zero_of (c_scalar u)) (zero-same u))

  pub typed-back : (u : Sort) (v : source.Value) (y : Value) → SameBack K F u v y → Typed (c_type u) y
  typed-back u source.Nothing y h = typed-zero u y h
  typed-back u source.Missing y h = typed-zero u y h
  typed-back u source.Built y h = typed-is u source.Built y h
  typed-back u (source.Number z) y h = typed-is u (source.Number z) y h
  typed-back u source.Null y h = typed-is u source.Null y h
  typed-back u (source.At p) y h = typed-is u (source.At p) y h
  typed-back u (source.Code f) y h = typed-is u (source.Code f) y h
  typed-back u (source.DataMember path i) y h = typed-is u (source.DataMember path i) y h
  typed-back u (source.FunctionMember path d) y h = typed-is u (source.FunctionMember path d) y h

  -- ---- and as a register holds it: some value is that of the C, and it is what is given, or what is given can't be used
  pub data AsGiven (u : Sort) (v : source.Value) (found : Result Value ℕ) : Type 0 where
    used : GivenAs K F (of_sort (Some u)) v found → AsGiven u v found
    unused : (x : source.Value) → GivenAs K F (of_sort (Some u)) x found → ((G : Map) (g : Result Value ℕ) → KeptAs K G (of_sort (Some u)) v g) → AsGiven u v found

  nothing-kept : (u : Sort) (G : Map) (g : Result Value ℕ) → KeptAs K G (of_sort (Some u)) source.Nothing g
  nothing-kept (number k) G g = tt
  nothing-kept (address t) G g = tt
  nothing-kept (code t) G g = tt

  missing-kept : (u : Sort) (G : Map) (g : Result Value ℕ) → KeptAs K G (of_sort (Some u)) source.Missing g
  missing-kept (number k) G g = tt
  missing-kept (address t) G g = tt
  missing-kept (code t) G g = tt

  abbrev Found : Sort → Value → Result Value ℕ
  Found u y = fitted (scalar_of (register_type u)) y

  given-zero : (u : Sort) (y : Value) → y ≡ zero_of (c_scalar u) → GivenAs K F (of_sort (Some u)) (zero-value u) (Found u y)
  given-zero u y e =
      subst (λ x. GivenAs K F (of_sort (Some u)) (zero-value u) (Found u x)) (sym e) (as-register P function signature F u (zero-value u) (zero_of (c_scalar u)) (zero-same u))

  without : (u : Sort) (y : Value) → y ≡ zero_of (c_scalar u) → (b : Bool) → AsGiven u (if b then source.Nothing else source.Missing) (Found u y)
  without u y e true = unused (zero-value u) (given-zero u y e) (nothing-kept u)
  without u y e false = unused (zero-value u) (given-zero u y e) (missing-kept u)

  pub as-given : (t : SourceType) (u : Sort) (v : source.Value) (y : Value) → SameBack K F u v y → AsGiven u (given_value t v) (Found u y)
  as-given t u source.Nothing y h = without u y h (is_void t)
  as-given t u source.Missing y h = unused (zero-value u) (given-zero u y h) (missing-kept u)
  as-given t u source.Built y h = used (as-register P function signature F u source.Built y h)
  as-given t u (source.Number z) y h = used (as-register P function signature F u (source.Number z) y h)
  as-given t u source.Null y h = used (as-register P function signature F u source.Null y h)
  as-given t u (source.At p) y h = used (as-register P function signature F u (source.At p) y h)
  as-given t u (source.Code f) y h = used (as-register P function signature F u (source.Code f) y h)
  as-given t u (source.DataMember path i) y h = used (as-register P function signature F u (source.DataMember path i) y h)
  as-given t u (source.FunctionMember path d) y h = used (as-register P function signature F u (source.FunctionMember path d) y h)

-- ---- a register that holds what can't be used

some-value : {i j : source.Value} → Some i ≡ Some j → i ≡ j
some-value e = cc

set-same : (g : Registers) (r : Register) (v : source.Value) → keep_value g r v r ≡ Some v
set-same g zero v = refl
set-same g (suc r) v = set-same (λ q. g (suc q)) r v

module _ (K : Fixed) (at : Body) (p : Keeping) (d : ℕ) (g : Registers) (s : State) (t : c.State) (r : Register) (y : Kept) (x v : source.Value)
    (h : Here K at (keep p r y) d (keep_value g r x) s t) (unusable : (found : Result Value ℕ) → KeptAs K h.map y v found) where
  registers-otherwise : InRegisters K h.map (keep p r y) (keep_value g r v) at.scope t.memory
  registers-otherwise q a is = by_test (q == r) refl
    where
      by_test : (b : Bool) → q == r ≡ b → KeptAs K h.map (keep p r y q) a (value_of (local_value (local_kept (keep p r y q)) q) at.scope t.memory)
      by_test true e =
          let same : q ≡ r = same-register q r e in
          let held : v ≡ a = some-value (sym (set-same g r v) ∙ ap (keep_value g r v) (sym same) ∙ is) in
          let kept : keep p r y q ≡ y = ap (λ (c : Bool). if c then y else p q) e in
          subst (λ k. KeptAs K h.map k a (value_of (local_value (local_kept (keep p r y q)) q) at.scope t.memory)) (sym kept)
          (subst (λ z. KeptAs K h.map y z (value_of (local_value (local_kept (keep p r y q)) q) at.scope t.memory)) held
          (unusable (value_of (local_value (local_kept (keep p r y q)) q) at.scope t.memory)))
      by_test false e = h.between.registers q a (kept-other g r q x e ∙ sym (kept-other g r q v e) ∙ is)

  pub here-otherwise : Here K at (keep p r y) d (keep_value g r v) s t
  here-otherwise =
      here-grown K at (keep p r y) (keep p r y) d (keep_value g r x) (keep_value g r v) s s t h h.map (grows-same h.map)
      (record { rel = h.between.rel; registers = registers-otherwise; blocks = h.between.blocks; locals = h.between.locals })
      h.below (λ e o le lo live k. h.flags_there.free e o le lo live k) (λ b lb f. f) refl (λ o lo hid k. k) h.homes h.arguments
