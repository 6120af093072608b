-- Actions that give a pointer as it is, or as one of another type.
use Rattle.std.proofs.Common.{◌≡◌, ℕ, zero, suc, ◌+◌, ◌*◌, Bool, true, false, ◌||◌, ◌&&◌, [], ◌∷◌, refl, sym, ◌∙◌, ap, subst, arith, ◌⊎◌, inl, inr}
use Rattle.std.specs.Prelude.{ℤ, pos, negsuc, Option, Some, None, Result, Ok}
use Rattle.cf_base.specs.declared.kind.Kind.{Kind}
use Rattle.cf_base.specs.declared.kind.Kind.TheVariants.{Int}
use Rattle.cf_base.specs.World.{World}
use Rattle.cf_base.proofs.Tests.{all_of}
use Rattle.cf_core.specs.Types.{Name, SourceType, void, integer, enumeration, pointer, reference, const, element, plain, without_const, same_but_const, is_array}
use Rattle.cf_core.specs.Core.{item}
use Rattle.cf_core.specs.Places.{Place, inner, type_at, is_inside}
use Rattle.cf_core.specs.Pointers.{from_void_value}
use Rattle.cf_core.specs.Scalars.{converted_value, as_pointer, decayed, pointed_to}
use Rattle.cf_core.specs.Size.{size}
use Rattle.cf_core.specs.Store as source
use Rattle.cf_core.specs.Run.{State, Act, ◌>>=◌, gives, malformed, some_or}
use Rattle.cf_core.specs.Access.{used, place_type}
use Rattle.cf_core.specs.Calls.{Program}
use Rattle.cf_core.specs.Calls as core
use Rattle.cf_lower_layout.specs.Sorts.{Sort, number, address, code, sort_to, scalar_sort, sort_of}
use Rattle.cf_lower_layout.specs.Layout.{has_item, offset, leads, points, const_once}
use Rattle.cf_lower_layout.proofs.Elements.{inside-leads}
use Rattle.cf_lower_layout.proofs.Laid.{laid-at, has-first, element-without}
use Rattle.cf_lower_layout.proofs.Types.{same-without_const}
use Rattle.cf_plain.specs.Plain as plain_action
use Rattle.cf_plain.specs.Plain.{Register}
use Rattle.cf_plain.specs.Acts.{Registers, acts}
use Rattle.cc_whole.specs.Plain.{Expression, cast}
use Rattle.cc_whole_memory.specs.declared.value.Pointer.TheVariants as pointer_value
use Rattle.cc_whole_memory.specs.declared.value.Value.{Value}
use Rattle.cc_whole_memory.specs.declared.value.Value.TheVariants as value
use Rattle.cc_whole_memory.specs.Blocks.{Memory, on_ok}
use Rattle.cc_whole_mean.specs.Scope.{Scope}
use Rattle.cc_whole_mean.specs.Types.{scalar_of}
use Rattle.cc_whole_mean.specs.Values.{value_of, fitted}
use Rattle.cf_lower_relate.specs.Map.{Map, offset_of, pointer_to, type_of_place, PointsTo, Is}
use Rattle.cf_lower_relate.specs.Relation.{Rel}
use Rattle.cf_lower.specs.Kept.{Kept, integer_of, holds, Keeping}
use Rattle.cf_lower.specs.Written.{register_type}
use Rattle.cf_lower.specs.Expressions.{in_register, as_value}
use Rattle.cf_lower.specs.Expressions as c
use Rattle.cf_lower_steps.specs.Steps.{HasValue, KeptAs, GivenAs, InRegisters, Step}
use Rattle.cf_lower_steps.proofs.Holding.{usable}
use Rattle.cf_lower_steps.proofs.Registers.{local-type, local-stays, fitted-stays}
use Rattle.cf_lower_steps.proofs.Values.{K, step-need, step-valid, step-needs}
use Rattle.cf_lower_pointers.proofs.Operands.{one-step, value-held}

or-left : (a b : Bool) → a ≡ true → a || b ≡ true
or-left true b h = refl
or-left false b h = absurd (cc)

module _ (P : Program) (function : Name → ℕ) (signature : Name → SourceType) (F : Map) (again : core.Again) (s : State) (m : Memory)
    (rel : Rel (K P function signature F) F s m) (w : World) (scope : Scope) (kept : Keeping) (g : Registers)
    (regs : InRegisters (K P function signature F) F kept g scope m) where
  -- a register's value once more
  again-value : (u : Sort) (v : source.Value) (e : Expression) (h : HasValue (K P function signature F) F (holds u) v (value_of e scope m))
      → value_of (as_value u e) scope m ≡ Ok h.value
  again-value u v e h =
      ap (λ a. on_ok a (λ y. fitted (scalar_of (register_type u)) y)) h.is
      ∙ fitted-stays (K P function signature F) F (scalar_of (register_type u)) h.value
      (local-type (K P function signature F) F (holds u) u v h.value refl h.same)
      (local-stays (K P function signature F) F (holds u) u v h.value refl h.same)

  module _ (r : Register) (u : Sort) (kr : kept r ≡ holds u) where
    abbrev Held : source.Value → Type 0
    Held v = HasValue (K P function signature F) F (holds u) v (value_of (in_register u r) scope m)

    abbrev same_value : Result Value ℕ
    same_value = value_of (as_value u (in_register u r)) scope m

    as-it-is : (v : source.Value) → Held v → HasValue (K P function signature F) F (holds u) v same_value
    as-it-is v h = record { value = h.value; is = again-value u v (in_register u r) h; same = h.same }

    -- `*` of a pointer
    pub dereference-step : Step (K P function signature F) F (acts again P g (plain_action.dereference r) s w) s w (holds u) same_value
    dereference-step = one-step P function signature F s m w scope kept g regs (holds u) same_value r (holds u) u pointed_to kr refl of-value
      where
        of-value : (v : source.Value) → Held v → Step (K P function signature F) F (pointed_to v s w) s w (holds u) same_value
        of-value (source.At p) h = record { by = (refl, refl, as-it-is (source.At p) h) }
        of-value (source.Code f) h = record { by = (refl, refl, as-it-is (source.Code f) h) }
        of-value source.Null h = record { by = refl }
        of-value v h = record { by = tt }

  -- ---- the first element of an array

  module _ (r : Register) (t : SourceType) (kr : kept r ≡ holds (address t)) where
    abbrev first_element : Result Value ℕ
    first_element = value_of (as_value (address t) (in_register (address t) r)) scope m

    first-points : (p : Place) (c : Value) → PointsTo (K P function signature F) F t p c → is_array (place_type P.classes s p) ≡ true
        → is_inside P.classes (s.object p.object).type p.route ≡ true → PointsTo (K P function signature F) F (element t) (inner (item 0) p) c
    first-points p c h is inside =
        let typed = rel.type p.object h.known in
        let laid = laid-at P.classes (F.type p.object) (rel.laid p.object h.known) p.route h.inside in
        let array : is_array (type_of_place (K P function signature F) F p) ≡ true = subst (λ x. is_array (type_at P.classes x p.route) ≡ true) typed is in
        let there = inside-leads P.classes (F.type p.object) p.route h.inside (subst (λ x. is_inside P.classes x p.route ≡ true) typed inside) in
        record {
          known = h.known;
          visible = h.visible;
          inside = or-left (leads P.classes (F.type p.object) (item 0 ∷ p.route)) _
              (all_of (leads P.classes (F.type p.object) p.route) (has_item (plain (type_of_place (K P function signature F) F p)) 0) there
              (has-first (type_of_place (K P function signature F) F p) array laid.some laid.once));
          type = by_type laid.once h.type;
          pointer = h.pointer;
          some = h.some;
          is = h.is;
          there = λ k. h.there k ∙ ap (pointer_value.At (F.block p.object))
              (let z : F.base p.object + offset P.classes (F.type p.object) p.route
              ≡ F.base p.object + (offset P.classes (F.type p.object) p.route + 0 * size P.classes (element (plain (type_of_place (K P function signature F) F p)))) = omega arith in z);
        }
      where
        by_type : const_once (type_of_place (K P function signature F) F p) ≡ true
            → (t ≡ void) ⊎ (without_const (type_of_place (K P function signature F) F p) ≡ t)
            → (element t ≡ void) ⊎ (without_const (element (plain (type_of_place (K P function signature F) F p))) ≡ element t)
        by_type once (inl e) = inl (ap element e)
        by_type once (inr e) = inr (element-without (type_of_place (K P function signature F) F p) once ∙ ap element e)

    first-value : (p : Place) (h : HasValue (K P function signature F) F (holds (address t)) (source.At p) (value_of (in_register (address t) r) scope m))
        → is_array (place_type P.classes s p) ≡ true → is_inside P.classes (s.object p.object).type p.route ≡ true
        → HasValue (K P function signature F) F (holds (address (element t))) (source.At (inner (item 0) p)) first_element
    first-value p h is inside = record {
      value = h.value;
      is = again-value (address t) (source.At p) (in_register (address t) r) h;
      same = first-points p h.value h.same is inside;
    }

    pub decay-step : Step (K P function signature F) F (acts again P g (plain_action.decay r) s w) s w (holds (address (element t))) first_element
    decay-step =
        one-step P function signature F s m w scope kept g regs (holds (address (element t))) first_element r (holds (address t)) (address t) (decayed P.classes) kr refl of-value
      where
        of-value : (v : source.Value) → HasValue (K P function signature F) F (holds (address t)) v (value_of (in_register (address t) r) scope m)
            → Step (K P function signature F) F (decayed P.classes v s w) s w (holds (address (element t))) first_element
        of-value (source.At p) h =
            step-valid P function signature F s w _ first_element (is_array (place_type P.classes s p)) _ (λ is.
            step-need P function signature F s w _ first_element (is_inside P.classes (s.object p.object).type p.route) 6 _ (λ inside.
            record { by = (refl, refl, first-value p h is inside) }))
        of-value (source.Code f) h = absurd h.same
        of-value v h = record { by = tt }

  -- ---- a cast from `void*`

  module _ (r : Register) (a t : SourceType) (kr : kept r ≡ holds (address a)) where
    abbrev cast_back : Result Value ℕ
    cast_back = value_of (as_value (address t) (in_register (address a) r)) scope m

    abbrev HeldAt : source.Value → Type 0
    HeldAt v = HasValue (K P function signature F) F (holds (address a)) v (value_of (in_register (address a) r) scope m)

    typed-points : (p : Place) (c : Value) → PointsTo (K P function signature F) F a p c → same_but_const (place_type P.classes s p) t ≡ true
        → PointsTo (K P function signature F) F (without_const t) p c
    typed-points p c h e = record {
      known = h.known;
      visible = h.visible;
      inside = h.inside;
      type = inr (ap (λ x. without_const (type_at P.classes x p.route)) (sym (rel.type p.object h.known)) ∙ same-without_const (place_type P.classes s p) t e);
      pointer = h.pointer;
      some = h.some;
      is = h.is;
      there = h.there;
    }

    pub from_void-step : Step (K P function signature F) F (acts again P g (plain_action.from_void t r) s w) s w (holds (address (without_const t))) cast_back
    from_void-step =
        one-step P function signature F s m w scope kept g regs (holds (address (without_const t))) cast_back r (holds (address a)) (address a) (from_void_value P.classes t) kr refl of-value
      where
        of-value : (v : source.Value) → HeldAt v → Step (K P function signature F) F (from_void_value P.classes t v s w) s w (holds (address (without_const t))) cast_back
        of-value source.Null h =
            record { by = (refl, refl, record { value = h.value; is = again-value (address a) source.Null (in_register (address a) r) h; same = h.same }) }
        of-value (source.At p) h =
            step-need P function signature F s w _ cast_back (same_but_const (place_type P.classes s p) t) 9 _ (λ e. record {
              by = (
                refl,
                refl,
                record {
                  value = h.value;
                  is = again-value (address a) (source.At p) (in_register (address a) r) h;
                  same = typed-points p h.value h.same e;
                },
              );
            })
        of-value v h = record { by = tt }

  -- ---- conversions to a pointer's type

  -- what a conversion to a pointer's type does, but for one to a reference, which sequencing doesn't make
  pointer-conversion : (t : SourceType) (b : Sort) (v : source.Value) (z : Kept) (found : Result Value ℕ) → sort_of t ≡ Some b → ((k : Kind) → b ≡ number k → ⊥)
      → Step (K P function signature F) F ((used v >>= as_pointer) s w) s w z found → Step (K P function signature F) F (converted_value t v s w) s w z found
  pointer-conversion (pointer t) b v z found e unlike h = h
  pointer-conversion (const t) b v z found e unlike h = pointer-conversion t b v z found e unlike h
  pointer-conversion (reference t) b v z found e unlike h = record { by = tt }
  pointer-conversion (integer k) b v z found e unlike h = absurd (unlike k (some-same e))
    where
      some-same : Some (number k) ≡ Some b → b ≡ number k
      some-same q = cc
  pointer-conversion (enumeration n) b v z found e unlike h = absurd (unlike Int (some-same e))
    where
      some-same : Some (number Int) ≡ Some b → b ≡ number Int
      some-same q = cc
  pointer-conversion t b v z found e unlike h = absurd (cc)

  -- the constant 0, or a pointer, as a pointer of this sort
  module _ (t : SourceType) (b : Sort) (e : sort_of t ≡ Some b) (unlike : (k : Kind) → b ≡ number k → ⊥) (r : Register) where
    -- from the constant 0
    module _ (f : Kind → Bool) (kr : kept r ≡ integer_of f) where
      abbrev null_value : Result Value ℕ
      null_value = value_of (as_value b c.zero) scope m

      null-given : (x : Sort) → ((k : Kind) → x ≡ number k → ⊥) → HasValue (K P function signature F) F (holds x) source.Null (value_of (as_value x c.zero) scope m)
      null-given (number k) other = absurd (other k refl)
      null-given (address u) other = record { value = value.Address pointer_value.Null; is = refl; same = refl }
      null-given (code u) other = record { value = value.Function 0; is = refl; same = refl }

      pub null-step : Step (K P function signature F) F (acts again P g (plain_action.convert t r) s w) s w (holds b) null_value
      null-step = by_value (g r) refl
        where
          known : (v : source.Value) → g r ≡ Some v → usable v ≡ true → HasValue (K P function signature F) F (integer_of f) v (value_of (in_register (number Int) r) scope m)
          known v is us = value-held P function signature F s m w scope kept g regs r (integer_of f) (number Int) v kr refl is us

          by_value : (y : Option source.Value) → g r ≡ y → Step (K P function signature F) F ((some_or y malformed >>= converted_value t) s w) s w (holds b) null_value
          by_value None q = record { by = tt }
          by_value (Some (source.Number (pos zero))) q =
              pointer-conversion t b (source.Number (pos zero)) (holds b) null_value e unlike (record { by = (refl, refl, null-given b unlike) })
          by_value (Some (source.Number (pos (suc n)))) q = pointer-conversion t b (source.Number (pos (suc n))) (holds b) null_value e unlike (record { by = tt })
          by_value (Some (source.Number (negsuc n))) q = pointer-conversion t b (source.Number (negsuc n)) (holds b) null_value e unlike (record { by = tt })
          by_value (Some source.Nothing) q = pointer-conversion t b source.Nothing (holds b) null_value e unlike (record { by = tt })
          by_value (Some source.Missing) q = pointer-conversion t b source.Missing (holds b) null_value e unlike (record { by = refl })
          by_value (Some source.Built) q = pointer-conversion t b source.Built (holds b) null_value e unlike (record { by = tt })
          by_value (Some v) q = absurd (known v q refl).same

  -- from a pointer to the same type, or to `void*`
  module _ (t a u : SourceType) (e : sort_of t ≡ Some (address u)) (fit : (u ≡ void) ⊎ (a ≡ u)) (r : Register) (kr : kept r ≡ holds (address a)) where
    abbrev cast_value : Result Value ℕ
    cast_value = value_of (as_value (address u) (in_register (address u) r)) scope m

    abbrev FromAddress : source.Value → Type 0
    FromAddress v = HasValue (K P function signature F) F (holds (address a)) v (value_of (in_register (address a) r) scope m)

    no-number : (k : Kind) → address u ≡ number k → ⊥
    no-number k q = absurd (cc)

    points-too : (p : Place) (c : Value) → PointsTo (K P function signature F) F a p c → PointsTo (K P function signature F) F u p c
    points-too p c h = record {
      known = h.known;
      visible = h.visible;
      inside = h.inside;
      type = by_fit fit h.type;
      pointer = h.pointer;
      some = h.some;
      is = h.is;
      there = h.there;
    }
      where
        by_fit : (u ≡ void) ⊎ (a ≡ u) → (a ≡ void) ⊎ (without_const (type_of_place (K P function signature F) F p) ≡ a)
            → (u ≡ void) ⊎ (without_const (type_of_place (K P function signature F) F p) ≡ u)
        by_fit (inl void_too) old = inl void_too
        by_fit (inr same) (inl is_void) = inl (sym same ∙ is_void)
        by_fit (inr same) (inr is) = inr (is ∙ same)

    cast-null : FromAddress source.Null → HasValue (K P function signature F) F (holds (address u)) source.Null cast_value
    cast-null h = record { value = h.value; is = again-value (address a) source.Null (in_register (address a) r) h; same = h.same }

    cast-place : (p : Place) → FromAddress (source.At p) → HasValue (K P function signature F) F (holds (address u)) (source.At p) cast_value
    cast-place p h = record { value = h.value; is = again-value (address a) (source.At p) (in_register (address a) r) h; same = points-too p h.value h.same }

    pub cast-step : Step (K P function signature F) F (acts again P g (plain_action.convert t r) s w) s w (holds (address u)) cast_value
    cast-step = by_value (g r) refl
      where
        known : (v : source.Value) → g r ≡ Some v → usable v ≡ true → FromAddress v
        known v is us = value-held P function signature F s m w scope kept g regs r (holds (address a)) (address a) v kr refl is us

        by_value : (y : Option source.Value) → g r ≡ y → Step (K P function signature F) F ((some_or y malformed >>= converted_value t) s w) s w (holds (address u)) cast_value
        by_value None q = record { by = tt }
        by_value (Some source.Nothing) q = pointer-conversion t (address u) source.Nothing (holds (address u)) cast_value e no-number (record { by = tt })
        by_value (Some source.Missing) q = pointer-conversion t (address u) source.Missing (holds (address u)) cast_value e no-number (record { by = refl })
        by_value (Some source.Built) q = pointer-conversion t (address u) source.Built (holds (address u)) cast_value e no-number (record { by = tt })
        by_value (Some source.Null) q =
            pointer-conversion t (address u) source.Null (holds (address u)) cast_value e no-number (record { by = (refl, refl, cast-null (known source.Null q refl)) })
        by_value (Some (source.At p)) q =
            pointer-conversion t (address u) (source.At p) (holds (address u)) cast_value e no-number (record { by = (refl, refl, cast-place p (known (source.At p) q refl)) })
        by_value (Some (source.Number z)) q = absurd (known (source.Number z) q refl).same
        by_value (Some (source.Code f)) q = absurd (known (source.Code f) q refl).same
        by_value (Some (source.DataMember path i)) q = absurd (known (source.DataMember path i) q refl).same
        by_value (Some (source.FunctionMember path d)) q = absurd (known (source.FunctionMember path d) q refl).same

  -- a pointer to a function stays what it is
  module _ (t u : SourceType) (e : sort_of t ≡ Some (code u)) (r : Register) (kr : kept r ≡ holds (code u)) where
    abbrev code_value : Result Value ℕ
    code_value = value_of (as_value (code u) (in_register (code u) r)) scope m

    no-code : (k : Kind) → code u ≡ number k → ⊥
    no-code k q = absurd (cc)

    pub code-step : Step (K P function signature F) F (acts again P g (plain_action.convert t r) s w) s w (holds (code u)) code_value
    code-step = by_value (g r) refl
      where
        known : (v : source.Value) → g r ≡ Some v → usable v ≡ true
            → HasValue (K P function signature F) F (holds (code u)) v (value_of (in_register (code u) r) scope m)
        known v is us = value-held P function signature F s m w scope kept g regs r (holds (code u)) (code u) v kr refl is us

        by_value : (y : Option source.Value) → g r ≡ y → Step (K P function signature F) F ((some_or y malformed >>= converted_value t) s w) s w (holds (code u)) code_value
        by_value None q = record { by = tt }
        by_value (Some source.Nothing) q = pointer-conversion t (code u) source.Nothing (holds (code u)) code_value e no-code (record { by = tt })
        by_value (Some source.Missing) q = pointer-conversion t (code u) source.Missing (holds (code u)) code_value e no-code (record { by = refl })
        by_value (Some source.Built) q = pointer-conversion t (code u) source.Built (holds (code u)) code_value e no-code (record { by = tt })
        by_value (Some source.Null) q =
            pointer-conversion t (code u) source.Null (holds (code u)) code_value e no-code
            (record { by = (refl, refl, as-it-is r (code u) kr source.Null (known source.Null q refl)) })
        by_value (Some (source.Code f)) q =
            pointer-conversion t (code u) (source.Code f) (holds (code u)) code_value e no-code
            (record { by = (refl, refl, as-it-is r (code u) kr (source.Code f) (known (source.Code f) q refl)) })
        by_value (Some (source.Number z)) q = absurd (known (source.Number z) q refl).same
        by_value (Some (source.At p)) q = absurd (known (source.At p) q refl).same
        by_value (Some (source.DataMember path i)) q = absurd (known (source.DataMember path i) q refl).same
        by_value (Some (source.FunctionMember path d)) q = absurd (known (source.FunctionMember path d) q refl).same
