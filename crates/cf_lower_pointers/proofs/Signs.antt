-- Signs, changes of integers in place, and conversions to integers.
use Rattle.std.proofs.Common.{◌≡◌, ℕ, Bool, true, false, ◌&&◌, ◌||◌, refl, sym, ◌∙◌, ap, subst}
use Rattle.std.specs.Prelude.{ℤ, pos, negsuc, Option, Some, None, Result, Ok, Err}
use Rattle.cf_base.specs.declared.kind.Kind.{Kind}
use Rattle.cf_base.specs.declared.kind.Kind.TheVariants.{Char, SChar, UChar, Short, UShort, Int, UInt, Long, ULong}
use Rattle.cf_base.specs.declared.arith.Arith.{Arith}
use Rattle.cf_base.specs.declared.arith.Arith.TheVariants as op
use Rattle.cf_base.specs.Integers.{fits, convert, int_op}
use Rattle.cf_base.specs.Promotion.{promoted}
use Rattle.cf_base.specs.World.{World}
use Rattle.cf_base.proofs.Tests.{both}
use Rattle.cf_types.specs.Operators.{is_shift}
use Rattle.cf_core.specs.declared.operators.UnaryOperator.TheVariants as sign
use Rattle.cf_core.specs.Types.{Name, SourceType, integer, enumeration, pointer, reference, const, without_const}
use Rattle.cf_core.specs.Core.{arithmetic}
use Rattle.cf_core.specs.Scalars.{signed, changed_value, converted_value}
use Rattle.cf_core.specs.Store as source
use Rattle.cf_core.specs.Run.{State, ◌>>=◌, ◌>>◌, gives, malformed, some_or, valid, ok_or_act}
use Rattle.cf_core.specs.Access.{used, number_of}
use Rattle.cf_core.specs.Calls.{Program}
use Rattle.cf_core.specs.Calls as core
use Rattle.cf_lower_layout.specs.Sorts.{number, sort_of, c_kind}
use Rattle.cf_plain.specs.Plain as plain
use Rattle.cf_plain.specs.Plain.{Register}
use Rattle.cf_plain.specs.Acts.{Registers, acts}
use Rattle.cc_whole.specs.declared.expression.Prefix.TheVariants as prefix
use Rattle.cc_whole.specs.Plain.{Expression, unary}
use Rattle.cc_whole_memory.specs.declared.value.Value.{Value}
use Rattle.cc_whole_memory.specs.declared.value.Value.TheVariants as value
use Rattle.cc_whole_memory.specs.Blocks.{Memory, on_ok}
use Rattle.cc_whole_mean.specs.Scope.{Scope}
use Rattle.cc_whole_mean.specs.Types.{scalar_of}
use Rattle.cc_whole_mean.specs.Values.{value_of, fitted, numbered, prefixed, number as number_of_kind, result_kind}
use Rattle.cf_lower_relate.specs.Map.{Map}
use Rattle.cf_lower_relate.proofs.Words.{convert-same, convert-c}
use Rattle.cf_lower.specs.Kept.{integer_of, of_kind, Keeping}
use Rattle.cf_lower.specs.Written.{c_integer}
use Rattle.cf_lower.specs.Expressions.{integer_in, at_kind, as_bits, operated}
use Rattle.cf_lower_steps.specs.Steps.{HasValue, GivenAs, InRegisters, Step}
use Rattle.cf_lower_steps.proofs.Conversions.{pointer-sort, some-number, convert-step}
use Rattle.cf_lower_steps.proofs.Holding.{usable}
use Rattle.cf_lower_steps.proofs.Operators.{kind-value, operated-value, bits-value, number-in, integer-kept, of-kind, result-kept, step-result}
use Rattle.cf_lower_steps.proofs.Results.{convert-fits}
use Rattle.cf_lower_steps.proofs.Values.{K, stored-scalar, step-valid}
use Rattle.cf_lower_pointers.proofs.Operands.{one-step, two-step, value-held}

-- ---- `-` and `~` at a promoted kind

negate-c : (k : Kind) (x : ℤ) → promoted k ≡ k → prefixed prefix.Negate (c_kind k) x ≡ number_of_kind (c_kind k) (int_op op.Subtract k (pos 0) (convert k x))
negate-c Char x p = absurd (cc)
negate-c SChar x p = absurd (cc)
negate-c UChar x p = absurd (cc)
negate-c Short x p = absurd (cc)
negate-c UShort x p = absurd (cc)
negate-c Int x p = refl
negate-c UInt x p = refl
negate-c Long x p = refl
negate-c ULong x p = refl

complement-c : (k : Kind) (x : ℤ) → promoted k ≡ k
    → prefixed prefix.Complement (c_kind k) x ≡ number_of_kind (c_kind k) (int_op op.Xor k (convert k x) (convert k (negsuc 0)))
complement-c Char x p = absurd (cc)
complement-c SChar x p = absurd (cc)
complement-c UChar x p = absurd (cc)
complement-c Short x p = absurd (cc)
complement-c UShort x p = absurd (cc)
complement-c Int x p = refl
complement-c UInt x p = refl
complement-c Long x p = refl
complement-c ULong x p = refl

module _ (P : Program) (function : Name → ℕ) (signature : Name → SourceType) (F : Map) (again : core.Again) (s : State) (m : Memory)
    (w : World) (scope : Scope) (kept : Keeping) (g : Registers) (regs : InRegisters (K P function signature F) F kept g scope m)
    (r : Register) (f : Kind → Bool) (kr : kept r ≡ integer_of f) where
  abbrev Integer : source.Value → Type 0
  Integer v = HasValue (K P function signature F) F (integer_of f) v (value_of (integer_in r) scope m)

  -- an integer at a kind that it has
  at-kind : (k : Kind) (x : ℤ) → fits k x ≡ true → Integer (source.Number x) → value_of (at_kind k (integer_in r)) scope m ≡ Ok (value.Number (c_kind k) x)
  at-kind k x fit h =
      kind-value scope m (integer_in r) k x (number-in P function signature F f (value_of (integer_in r) scope m) x h)
      ∙ ap (λ z. Ok (value.Number (c_kind k) z)) (convert-same k x fit)

  module _ (k : Kind) (p : promoted k ≡ k) where
    abbrev negated : Result Value ℕ
    negated = value_of (as_bits (unary prefix.Negate (at_kind k (integer_in r)))) scope m

    abbrev turned : Result Value ℕ
    turned = value_of (as_bits (unary prefix.Complement (at_kind k (integer_in r)))) scope m

    pub negate-step : Step (K P function signature F) F (acts again P g (plain.unary sign.Negate k r) s w) s w (of_kind k) negated
    negate-step = one-step P function signature F s m w scope kept g regs (of_kind k) negated r (integer_of f) (number Int) (signed sign.Negate k) kr refl of-value
      where
        of-value : (v : source.Value) → Integer v → Step (K P function signature F) F (signed sign.Negate k v s w) s w (of_kind k) negated
        of-value (source.Number x) h =
            step-valid P function signature F s w _ negated (fits k (pos 0) && (false || fits k x)) _ (λ t.
            let parts = both (fits k (pos 0)) (false || fits k x) t in
            step-result P function signature F s w _ negated (int_op op.Subtract k (pos 0) x) (λ z e.
            integer-kept P function signature F (of_kind k) z negated (result-kept op.Subtract k (pos 0) x z parts.0 e)
            (bits-value scope m (unary prefix.Negate (at_kind k (integer_in r))) (c_kind k) z
            (ap (λ a. on_ok a (λ v. numbered v (λ k z. prefixed prefix.Negate k z))) (at-kind k x parts.1 h)
            ∙ negate-c k x p
            ∙ ap (λ y. number_of_kind (c_kind k) (int_op op.Subtract k (pos 0) y)) (convert-same k x parts.1)
            ∙ ap (number_of_kind (c_kind k)) e))))
        of-value v h = absurd h.same

    pub complement-step : Step (K P function signature F) F (acts again P g (plain.unary sign.Complement k r) s w) s w (of_kind k) turned
    complement-step = one-step P function signature F s m w scope kept g regs (of_kind k) turned r (integer_of f) (number Int) (signed sign.Complement k) kr refl of-value
      where
        of-value : (v : source.Value) → Integer v → Step (K P function signature F) F (signed sign.Complement k v s w) s w (of_kind k) turned
        of-value (source.Number x) h =
            step-valid P function signature F s w _ turned (fits k x && (false || fits k (convert k (negsuc 0)))) _ (λ t.
            let parts = both (fits k x) (false || fits k (convert k (negsuc 0))) t in
            step-result P function signature F s w _ turned (int_op op.Xor k x (convert k (negsuc 0))) (λ z e.
            integer-kept P function signature F (of_kind k) z turned (result-kept op.Xor k x (convert k (negsuc 0)) z parts.0 e)
            (bits-value scope m (unary prefix.Complement (at_kind k (integer_in r))) (c_kind k) z
            (ap (λ a. on_ok a (λ v. numbered v (λ k z. prefixed prefix.Complement k z))) (at-kind k x parts.0 h)
            ∙ complement-c k x p
            ∙ ap (λ y. number_of_kind (c_kind k) (int_op op.Xor k y (convert k (negsuc 0)))) (convert-same k x parts.0)
            ∙ ap (number_of_kind (c_kind k)) e))))
        of-value v h = absurd h.same

    -- ---- `+=` and the like

    module _ (o : Arith) (to : Kind) (q : Register) (h : Kind → Bool) (kq : kept q ≡ integer_of h) where
      abbrev changed : Result Value ℕ
      changed = value_of (as_bits (at_kind to (operated o k (integer_in r) (integer_in q)))) scope m

      abbrev Right : source.Value → Type 0
      Right u = HasValue (K P function signature F) F (integer_of h) u (value_of (integer_in q) scope m)

      made : (x y z : ℤ) → Integer (source.Number x) → Right (source.Number y) → fits k (convert k x) ≡ true → (is_shift o || fits k y) ≡ true
          → int_op o k (convert k x) y ≡ Ok z → GivenAs (K P function signature F) F (of_kind to) (source.Number (convert to z)) changed
      made x y z hx hy fx fy e =
          integer-kept P function signature F (of_kind to) (convert to z) changed (of-kind to (convert to z) (convert-fits to z))
          (bits-value scope m (at_kind to (operated o k (integer_in r) (integer_in q))) (c_kind to) (convert to z)
          (ap (λ a. on_ok a (λ v. fitted (scalar_of (c_integer to)) v))
          (operated-value scope m o k (integer_in r) (integer_in q) (convert k x) y z p
          (kind-value scope m (integer_in r) k x (number-in P function signature F f (value_of (integer_in r) scope m) x hx))
          (number-in P function signature F h (value_of (integer_in q) scope m) y hy) fx fy e)
          ∙ ap (λ t. fitted t (value.Number (result_kind o (c_kind k)) z)) (stored-scalar (number to))
          ∙ ap (λ y. Ok (value.Number (c_kind to) y)) (convert-c to z)))

      pub changed-step : Step (K P function signature F) F (acts again P g (plain.changed (arithmetic o k to) r q) s w) s w (of_kind to) changed
      changed-step =
          two-step P function signature F s m w scope kept g regs (of_kind to) changed r q (integer_of f) (integer_of h) (number Int) (number Int)
          (changed_value P.classes (arithmetic o k to)) kr refl kq refl of-values
        where
          of-values : (v u : source.Value) → Integer v → Right u
              → Step (K P function signature F) F (changed_value P.classes (arithmetic o k to) v u s w) s w (of_kind to) changed
          of-values (source.Number x) (source.Number y) hx hy =
              by_tests (fits k (convert k x) && (is_shift o || fits k y)) refl (int_op o k (convert k x) y) refl
            where
              by_tests : (b : Bool) → fits k (convert k x) && (is_shift o || fits k y) ≡ b → (a : Result ℤ ℕ) → int_op o k (convert k x) y ≡ a
                  → Step (K P function signature F) F
                  (((valid b >> (ok_or_act a >>= (λ z. gives (source.Number z)))) >>= number_of >>= (λ z. gives (source.Number (convert to z)))) s w)
                  s w (of_kind to) changed
              by_tests true t (Ok z) e =
                  let parts = both (fits k (convert k x)) (is_shift o || fits k y) t in
                  record { by = (refl, refl, made x y z hx hy parts.0 parts.1 e) }
              by_tests true t (Err n) e = record { by = refl }
              by_tests false t a e = record { by = tt }
          of-values (source.Number x) u hx hy = absurd hy.same
          of-values v u hx hy = absurd hx.same

  -- ---- conversions to integers

  number-conversion : (t : SourceType) (k : Kind) (v : source.Value) (found : Result Value ℕ) → sort_of t ≡ Some (number k)
      → Step (K P function signature F) F ((used v >>= number_of >>= (λ z. gives (source.Number (convert k z)))) s w) s w (of_kind k) found
      → Step (K P function signature F) F (converted_value t v s w) s w (of_kind k) found
  number-conversion (integer j) k v found e h =
      subst (λ i. Step (K P function signature F) F ((used v >>= number_of >>= (λ z. gives (source.Number (convert i z)))) s w) s w (of_kind k) found)
      (sym (some-number j k e)) h
  number-conversion (enumeration n) k v found e h =
      subst (λ i. Step (K P function signature F) F ((used v >>= number_of >>= (λ z. gives (source.Number (convert i z)))) s w) s w (of_kind k) found)
      (sym (some-number Int k e)) h
  number-conversion (const t) k v found e h = number-conversion t k v found e h
  number-conversion (pointer t) k v found e h = absurd (pointer-sort (without_const t) k e)
  number-conversion (reference t) k v found e h = absurd (pointer-sort (without_const t) k e)
  number-conversion t k v found e h = absurd (cc)

  module _ (t : SourceType) (k : Kind) (e : sort_of t ≡ Some (number k)) where
    abbrev converted : Result Value ℕ
    converted = value_of (as_bits (at_kind k (integer_in r))) scope m

    pub conversion-step : Step (K P function signature F) F (acts again P g (plain.convert t r) s w) s w (of_kind k) converted
    conversion-step = by_value (g r) refl
      where
        known : (v : source.Value) → g r ≡ Some v → usable v ≡ true → Integer v
        known v is us = value-held P function signature F s m w scope kept g regs r (integer_of f) (number Int) v kr refl is us

        by_value : (y : Option source.Value) → g r ≡ y → Step (K P function signature F) F ((some_or y malformed >>= converted_value t) s w) s w (of_kind k) converted
        by_value None q = record { by = tt }
        by_value (Some source.Nothing) q = number-conversion t k source.Nothing converted e (record { by = tt })
        by_value (Some source.Missing) q = number-conversion t k source.Missing converted e (record { by = refl })
        by_value (Some source.Built) q = number-conversion t k source.Built converted e (record { by = tt })
        by_value (Some (source.Number z)) q =
            convert-step P function signature F again s m w scope kept g regs t k e r f kr z (known (source.Number z) q refl)
        by_value (Some source.Null) q = absurd (known source.Null q refl).same
        by_value (Some (source.At p)) q = absurd (known (source.At p) q refl).same
        by_value (Some (source.Code n)) q = absurd (known (source.Code n) q refl).same
        by_value (Some (source.DataMember path i)) q = absurd (known (source.DataMember path i) q refl).same
        by_value (Some (source.FunctionMember path d)) q = absurd (known (source.FunctionMember path d) q refl).same
