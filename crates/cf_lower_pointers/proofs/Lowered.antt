-- The actions on pointers and integers beside their C statements.
use Rattle.std.proofs.Common.{◌≡◌, ℕ, Bool, true, false, not, refl, ◌∙◌, ap, ◌⊎◌}
use Rattle.std.specs.Prelude.{Some}
use Rattle.cf_base.specs.declared.kind.Kind.{Kind}
use Rattle.cf_base.specs.declared.kind.Kind.TheVariants.{Int}
use Rattle.cf_base.specs.declared.arith.Arith.{Arith}
use Rattle.cf_base.specs.declared.arith.Arith.TheVariants as op
use Rattle.cf_base.specs.Promotion.{promoted}
use Rattle.cf_core.specs.declared.operators.PointerOperator.TheVariants as pointer
use Rattle.cf_core.specs.declared.operators.UnaryOperator.TheVariants as sign
use Rattle.cf_core.specs.Types.{SourceType, void, element, without_const}
use Rattle.cf_core.specs.Classes.{Class}
use Rattle.cf_core.specs.Core.{arithmetic, moved}
use Rattle.cf_core.specs.Size.{size}
use Rattle.cf_lower_layout.specs.Sorts.{Sort, number, address, code, sort_of}
use Rattle.cf_plain.specs.Plain as plain
use Rattle.cf_plain.specs.Plain.{Register}
use Rattle.cf_plain.specs.Running.{calls}
use Rattle.cc_whole.specs.declared.expression.Prefix.TheVariants as prefix
use Rattle.cc_whole.specs.Plain.{Expression, binary, unary, constant}
use Rattle.cf_lower_relate.specs.Map.{Numbered}
use Rattle.cf_lower.specs.Kept.{Kept, integer_of, holds, Keeping, a_truth, of_kind, of_sort, pointer_of, operated_kept, changed_kept, decayed_kept, local_kept}
use Rattle.cf_lower.specs.Written.{int_constant}
use Rattle.cf_lower.specs.Expressions.{moved_by, sum_by, element_bytes, address_in, integer_in, in_register, local_value, as_value, as_bits, at_kind, operated, same_value, converted, equated}
use Rattle.cf_lower.specs.Expressions as c
use Rattle.cf_lower.specs.Statements.{put_in}
use Rattle.cf_lower_steps.specs.Moment.{Moment, fixed, Stands}
use Rattle.cf_lower_pointers.specs.Sets.{Sets, OneIsNull}
use Rattle.cf_lower_pointers.proofs.Answers.{Equality, equal, unequal, Sameness, both-equal, both-unequal}
use Rattle.cf_lower_pointers.proofs.Casting as casting
use Rattle.cf_lower_pointers.proofs.Comparing as comparing
use Rattle.cf_lower_pointers.proofs.Comparing.{Orders, less, greater, less-equal, greater-equal}
use Rattle.cf_lower_pointers.proofs.Moving as moving
use Rattle.cf_lower_pointers.proofs.Setting.{sets}
use Rattle.cf_lower_pointers.proofs.Signs as signs
use Rattle.cf_lower_pointers.proofs.Testing as testing
use Rattle.cf_lower_pointers.proofs.Testing.{is_true, is_not}

module _ (at : Moment) (h : Stands at) where
  -- ---- pointers that move

  module _ (q v : Register) (t : SourceType) (f : Kind → Bool) (no_void : t ≡ void → ⊥) (kq : at.kept q ≡ holds (address t)) (kv : at.kept v ≡ integer_of f) where
    pub sum-lowered : Sets (plain.pointer_operate pointer.Add q v) (holds (address t)) at
    sum-lowered = sets at h (plain.pointer_operate pointer.Add q v) (holds (address t)) (address t) (moved_by op.Add (address_in q) (size at.program.classes t) (integer_in v)) refl refl
        (λ r. ap (λ z. put_in at.inside (local_kept (pointer_of z (at.kept v))) r (sum_by at.inside.classes z (at.kept v) q v)) kq
        ∙ ap (λ cs. put_in at.inside (Some (address t)) r (moved_by op.Add (address_in q) (size cs t) (integer_in v))) h.classes)
        (moving.sum-step at.program at.function at.signature at.map (calls at.again) at.state at.memory.memory h.between.rel at.world at.scope at.kept at.registers h.between.registers
        t no_void f q v kq kv)

    pub index-lowered : Sets (plain.index q v) (holds (address t)) at
    index-lowered = sets at h (plain.index q v) (holds (address t)) (address t) (moved_by op.Add (address_in q) (size at.program.classes t) (integer_in v)) refl refl
        (λ r. ap (λ z. put_in at.inside (local_kept (pointer_of z (at.kept v))) r (sum_by at.inside.classes z (at.kept v) q v)) kq
        ∙ ap (λ cs. put_in at.inside (Some (address t)) r (moved_by op.Add (address_in q) (size cs t) (integer_in v))) h.classes)
        (moving.index-step at.program at.function at.signature at.map (calls at.again) at.state at.memory.memory h.between.rel at.world at.scope at.kept at.registers h.between.registers
        t no_void f q v kq kv)

    pub back-lowered : Sets (plain.pointer_operate pointer.Subtract q v) (holds (address t)) at
    back-lowered =
        sets at h (plain.pointer_operate pointer.Subtract q v) (holds (address t)) (address t) (moved_by op.Subtract (address_in q) (size at.program.classes t) (integer_in v)) refl refl
        (λ r. ap (λ z. put_in at.inside (local_kept z) r (moved_by op.Subtract (address_in q) (element_bytes at.inside.classes z) (integer_in v))) kq
        ∙ ap (λ cs. put_in at.inside (Some (address t)) r (moved_by op.Subtract (address_in q) (size cs t) (integer_in v))) h.classes)
        (moving.back-step at.program at.function at.signature at.map (calls at.again) at.state at.memory.memory h.between.rel at.world at.scope at.kept at.registers h.between.registers
        t no_void f q v kq kv)

    pub changed-forward-lowered : Sets (plain.changed (moved false) q v) (holds (address t)) at
    changed-forward-lowered =
        sets at h (plain.changed (moved false) q v) (holds (address t)) (address t) (moved_by op.Add (address_in q) (size at.program.classes t) (integer_in v)) refl refl
        (λ r. ap (λ z. put_in at.inside (local_kept z) r (moved_by op.Add (address_in q) (element_bytes at.inside.classes z) (integer_in v))) kq
        ∙ ap (λ cs. put_in at.inside (Some (address t)) r (moved_by op.Add (address_in q) (size cs t) (integer_in v))) h.classes)
        (moving.changed-forward at.program at.function at.signature at.map (calls at.again) at.state at.memory.memory h.between.rel at.world at.scope at.kept at.registers
        h.between.registers t no_void f q v kq kv)

    pub changed-back-lowered : Sets (plain.changed (moved true) q v) (holds (address t)) at
    changed-back-lowered =
        sets at h (plain.changed (moved true) q v) (holds (address t)) (address t) (moved_by op.Subtract (address_in q) (size at.program.classes t) (integer_in v)) refl refl
        (λ r. ap (λ z. put_in at.inside (local_kept z) r (moved_by op.Subtract (address_in q) (element_bytes at.inside.classes z) (integer_in v))) kq
        ∙ ap (λ cs. put_in at.inside (Some (address t)) r (moved_by op.Subtract (address_in q) (size cs t) (integer_in v))) h.classes)
        (moving.changed-back at.program at.function at.signature at.map (calls at.again) at.state at.memory.memory h.between.rel at.world at.scope at.kept at.registers
        h.between.registers t no_void f q v kq kv)

  -- the integer first
  module _ (q v : Register) (t : SourceType) (f : Kind → Bool) (no_void : t ≡ void → ⊥) (kq : at.kept q ≡ integer_of f) (kv : at.kept v ≡ holds (address t)) where
    turned : (r : Register) → put_in at.inside (local_kept (pointer_of (at.kept q) (at.kept v))) r (sum_by at.inside.classes (at.kept q) (at.kept v) q v)
        ≡ put_in at.inside (Some (address t)) r (moved_by op.Add (address_in v) (size at.program.classes t) (integer_in q))
    turned r =
        ap (λ z. put_in at.inside (local_kept (pointer_of z (at.kept v))) r (sum_by at.inside.classes z (at.kept v) q v)) kq
        ∙ ap (λ z. put_in at.inside (local_kept z) r (moved_by op.Add (address_in v) (element_bytes at.inside.classes z) (integer_in q))) kv
        ∙ ap (λ cs. put_in at.inside (Some (address t)) r (moved_by op.Add (address_in v) (size cs t) (integer_in q))) h.classes

    pub sum-turned-lowered : Sets (plain.pointer_operate pointer.Add q v) (holds (address t)) at
    sum-turned-lowered =
        sets at h (plain.pointer_operate pointer.Add q v) (holds (address t)) (address t) (moved_by op.Add (address_in v) (size at.program.classes t) (integer_in q)) refl refl turned
        (moving.sum-turned at.program at.function at.signature at.map (calls at.again) at.state at.memory.memory h.between.rel at.world at.scope at.kept at.registers
        h.between.registers t no_void f q v kq kv)

    pub index-turned-lowered : Sets (plain.index q v) (holds (address t)) at
    index-turned-lowered =
        sets at h (plain.index q v) (holds (address t)) (address t) (moved_by op.Add (address_in v) (size at.program.classes t) (integer_in q)) refl refl turned
        (moving.index-turned at.program at.function at.signature at.map (calls at.again) at.state at.memory.memory h.between.rel at.world at.scope at.kept at.registers
        h.between.registers t no_void f q v kq kv)

  -- ---- pointers that are compared

  module _ (q v : Register) (t u : SourceType) (kq : at.kept q ≡ holds (address t)) (kv : at.kept v ≡ holds (address u)) where
    compared : (o : Arith) (r : Register)
        → put_in at.inside (Some (number Int)) r (binary o (local_value (local_kept (at.kept q)) q) (local_value (local_kept (at.kept v)) v))
        ≡ put_in at.inside (Some (number Int)) r (binary o (in_register (address t) q) (in_register (address u) v))
    compared o r =
        ap (λ z. put_in at.inside (Some (number Int)) r (binary o (local_value (local_kept z) q) (local_value (local_kept (at.kept v)) v))) kq
        ∙ ap (λ z. put_in at.inside (Some (number Int)) r (binary o (in_register (address t) q) (local_value (local_kept z) v))) kv

    equals : (o : Arith) (r : Register)
        → put_in at.inside (Some (number Int)) r
        (equated o (at.kept q) (local_value (local_kept (at.kept q)) q) (local_value (local_kept (at.kept v)) v))
        ≡ put_in at.inside (Some (number Int)) r (binary o (in_register (address t) q) (in_register (address u) v))
    equals o r =
        ap (λ z. put_in at.inside (Some (number Int)) r (equated o z (local_value (local_kept z) q) (local_value (local_kept (at.kept v)) v))) kq
        ∙ ap (λ z. put_in at.inside (Some (number Int)) r (binary o (in_register (address t) q) (local_value (local_kept z) v))) kv

    pub less-lowered : Sets (plain.pointer_operate pointer.Less q v) a_truth at
    less-lowered = sets at h (plain.pointer_operate pointer.Less q v) a_truth (number Int) (binary op.Less (in_register (address t) q) (in_register (address u) v)) refl refl (compared op.Less)
        (comparing.ordered-step at.program at.function at.signature at.map at.state at.memory.memory h.between.rel at.world at.scope (calls at.again) at.kept at.registers
        h.between.registers q v t u kq kv op.Less _ less)

    pub greater-lowered : Sets (plain.pointer_operate pointer.Greater q v) a_truth at
    greater-lowered =
        sets at h (plain.pointer_operate pointer.Greater q v) a_truth (number Int) (binary op.Greater (in_register (address t) q) (in_register (address u) v)) refl refl (compared op.Greater)
        (comparing.ordered-step at.program at.function at.signature at.map at.state at.memory.memory h.between.rel at.world at.scope (calls at.again) at.kept at.registers
        h.between.registers q v t u kq kv op.Greater _ greater)

    pub less-equal-lowered : Sets (plain.pointer_operate pointer.LessEqual q v) a_truth at
    less-equal-lowered =
        sets at h (plain.pointer_operate pointer.LessEqual q v) a_truth (number Int) (binary op.LessEqual (in_register (address t) q) (in_register (address u) v)) refl refl
        (compared op.LessEqual)
        (comparing.ordered-step at.program at.function at.signature at.map at.state at.memory.memory h.between.rel at.world at.scope (calls at.again) at.kept at.registers
        h.between.registers q v t u kq kv op.LessEqual _ less-equal)

    pub greater-equal-lowered : Sets (plain.pointer_operate pointer.GreaterEqual q v) a_truth at
    greater-equal-lowered =
        sets at h (plain.pointer_operate pointer.GreaterEqual q v) a_truth (number Int) (binary op.GreaterEqual (in_register (address t) q) (in_register (address u) v)) refl refl
        (compared op.GreaterEqual)
        (comparing.ordered-step at.program at.function at.signature at.map at.state at.memory.memory h.between.rel at.world at.scope (calls at.again) at.kept at.registers
        h.between.registers q v t u kq kv op.GreaterEqual _ greater-equal)

    pub equal-lowered : Sets (plain.pointer_operate pointer.Equal q v) a_truth at
    equal-lowered =
        sets at h (plain.pointer_operate pointer.Equal q v) a_truth (number Int) (binary op.Equal (in_register (address t) q) (in_register (address u) v)) refl refl (equals op.Equal)
        (comparing.equal-step at.program at.function at.signature at.map at.state at.memory.memory h.between.rel at.world at.scope (calls at.again) at.kept at.registers
        h.between.registers q v t u kq kv op.Equal (λ b. b) equal)

    pub unequal-lowered : Sets (plain.pointer_operate pointer.NotEqual q v) a_truth at
    unequal-lowered =
        sets at h (plain.pointer_operate pointer.NotEqual q v) a_truth (number Int) (binary op.NotEqual (in_register (address t) q) (in_register (address u) v)) refl refl
        (equals op.NotEqual)
        (comparing.equal-step at.program at.function at.signature at.map at.state at.memory.memory h.between.rel at.world at.scope (calls at.again) at.kept at.registers
        h.between.registers q v t u kq kv op.NotEqual (λ b. not b) unequal)

    pub difference-lowered : (t ≡ void → ⊥) → Sets (plain.pointer_operate pointer.Difference q v) (of_kind Int) at
    difference-lowered no_void =
        sets at h (plain.pointer_operate pointer.Difference q v) (of_kind Int) (number Int)
        (binary op.Divide (binary op.Subtract (address_in q) (address_in v)) (constant (int_constant (size at.program.classes t)))) refl refl
        (λ r. ap (λ z. put_in at.inside (Some (number Int)) r
        (binary op.Divide (binary op.Subtract (address_in q) (address_in v)) (constant (int_constant (element_bytes at.inside.classes z))))) kq
        ∙ ap (λ cs. put_in at.inside (Some (number Int)) r
        (binary op.Divide (binary op.Subtract (address_in q) (address_in v)) (constant (int_constant (size cs t))))) h.classes)
        (comparing.difference-step at.program at.function at.signature at.map at.state at.memory.memory h.between.rel at.world at.scope (calls at.again) at.kept at.registers
        h.between.registers q v t u kq kv no_void)

  module _ (numbered : Numbered (fixed at)) (q v : Register) (t u : SourceType) (kq : at.kept q ≡ holds (code t)) (kv : at.kept v ≡ holds (code u))
      (one : OneIsNull at.registers q v) where
    abbrev each : Arith → Expression
    each o = binary o (binary op.Equal (in_register (code t) q) c.zero) (binary op.Equal (in_register (code u) v) c.zero)

    codes : (o : Arith) (r : Register)
        → put_in at.inside (Some (number Int)) r
        (equated o (at.kept q) (local_value (local_kept (at.kept q)) q) (local_value (local_kept (at.kept v)) v))
        ≡ put_in at.inside (Some (number Int)) r (each o)
    codes o r =
        ap (λ z. put_in at.inside (Some (number Int)) r (equated o z (local_value (local_kept z) q) (local_value (local_kept (at.kept v)) v))) kq
        ∙ ap (λ z. put_in at.inside (Some (number Int)) r
        (binary o (binary op.Equal (in_register (code t) q) c.zero) (binary op.Equal (local_value (local_kept z) v) c.zero))) kv

    pub equal-code-lowered : Sets (plain.pointer_operate pointer.Equal q v) a_truth at
    equal-code-lowered =
        sets at h (plain.pointer_operate pointer.Equal q v) a_truth (number Int) (each op.Equal) refl refl (codes op.Equal)
        (comparing.code-step at.program at.function at.signature at.map at.state at.memory.memory h.between.rel at.world at.scope numbered (calls at.again) at.kept at.registers
        h.between.registers q v t u kq kv one op.Equal (λ b. b) both-equal)

    pub unequal-code-lowered : Sets (plain.pointer_operate pointer.NotEqual q v) a_truth at
    unequal-code-lowered =
        sets at h (plain.pointer_operate pointer.NotEqual q v) a_truth (number Int) (each op.NotEqual) refl refl (codes op.NotEqual)
        (comparing.code-step at.program at.function at.signature at.map at.state at.memory.memory h.between.rel at.world at.scope numbered (calls at.again) at.kept at.registers
        h.between.registers q v t u kq kv one op.NotEqual (λ b. not b) both-unequal)

  -- ---- pointers that are tested

  module _ (q : Register) (t : SourceType) (kq : at.kept q ≡ holds (address t)) where
    pub truth-lowered : Sets (plain.truth q) a_truth at
    truth-lowered = sets at h (plain.truth q) a_truth (number Int) (binary op.NotEqual (in_register (address t) q) c.zero) refl refl
        (λ r. ap (λ z. put_in at.inside (Some (number Int)) r (binary op.NotEqual (local_value (local_kept z) q) c.zero)) kq)
        (testing.test-step at.program at.function at.signature at.map (calls at.again) at.state at.memory.memory at.world at.scope at.kept at.registers h.between.registers q
        t kq op.NotEqual (λ b. b) is_true)

    pub not-lowered : Sets (plain.logical_not q) a_truth at
    not-lowered = sets at h (plain.logical_not q) a_truth (number Int) (binary op.Equal (in_register (address t) q) c.zero) refl refl
        (λ r. ap (λ z. put_in at.inside (Some (number Int)) r (binary op.Equal (local_value (local_kept z) q) c.zero)) kq)
        (testing.test-step at.program at.function at.signature at.map (calls at.again) at.state at.memory.memory at.world at.scope at.kept at.registers h.between.registers q
        t kq op.Equal (λ b. not b) is_not)

  module _ (numbered : Numbered (fixed at)) (q : Register) (t : SourceType) (kq : at.kept q ≡ holds (code t)) where
    pub truth-code-lowered : Sets (plain.truth q) a_truth at
    truth-code-lowered = sets at h (plain.truth q) a_truth (number Int) (binary op.NotEqual (in_register (code t) q) c.zero) refl refl
        (λ r. ap (λ z. put_in at.inside (Some (number Int)) r (binary op.NotEqual (local_value (local_kept z) q) c.zero)) kq)
        (testing.code-test-step at.program at.function at.signature at.map (calls at.again) at.state at.memory.memory at.world at.scope at.kept at.registers h.between.registers q
        numbered t kq op.NotEqual (λ b. b) is_true)

    pub not-code-lowered : Sets (plain.logical_not q) a_truth at
    not-code-lowered = sets at h (plain.logical_not q) a_truth (number Int) (binary op.Equal (in_register (code t) q) c.zero) refl refl
        (λ r. ap (λ z. put_in at.inside (Some (number Int)) r (binary op.Equal (local_value (local_kept z) q) c.zero)) kq)
        (testing.code-test-step at.program at.function at.signature at.map (calls at.again) at.state at.memory.memory at.world at.scope at.kept at.registers h.between.registers q
        numbered t kq op.Equal (λ b. not b) is_not)

  -- ---- pointers as they are, or as others

  module _ (q : Register) (u : Sort) (kq : at.kept q ≡ holds u) where
    pub dereference-lowered : Sets (plain.dereference q) (holds u) at
    dereference-lowered = sets at h (plain.dereference q) (holds u) u (as_value u (in_register u q)) refl refl
        (λ r. ap (λ z. put_in at.inside (local_kept z) r (same_value z q)) kq)
        (casting.dereference-step at.program at.function at.signature at.map (calls at.again) at.state at.memory.memory h.between.rel at.world at.scope at.kept at.registers
        h.between.registers q u kq)

  module _ (q : Register) (t : SourceType) (kq : at.kept q ≡ holds (address t)) where
    pub decay-lowered : Sets (plain.decay q) (holds (address (element t))) at
    decay-lowered = sets at h (plain.decay q) (holds (address (element t))) (address (element t)) (as_value (address t) (in_register (address t) q)) refl refl
        (λ r. ap (λ z. put_in at.inside (local_kept (decayed_kept z)) r (same_value z q)) kq)
        (casting.decay-step at.program at.function at.signature at.map (calls at.again) at.state at.memory.memory h.between.rel at.world at.scope at.kept at.registers
        h.between.registers q t kq)

    pub from_void-lowered : (u : SourceType) → Sets (plain.from_void u q) (holds (address (without_const u))) at
    from_void-lowered u =
        sets at h (plain.from_void u q) (holds (address (without_const u))) (address (without_const u)) (as_value (address u) (address_in q)) refl refl (λ r. refl)
        (casting.from_void-step at.program at.function at.signature at.map (calls at.again) at.state at.memory.memory h.between.rel at.world at.scope at.kept at.registers
        h.between.registers q t u kq)

    pub cast-lowered : (a u : SourceType) → sort_of a ≡ Some (address u) → (u ≡ void) ⊎ (t ≡ u) → Sets (plain.convert a q) (holds (address u)) at
    cast-lowered a u e fit = sets at h (plain.convert a q) (holds (address u)) (address u) (as_value (address u) (in_register (address u) q)) refl refl
        (λ r. ap (λ z. put_in at.inside (local_kept (of_sort z)) r (converted z (at.kept q) q)) e
        ∙ ap (λ z. put_in at.inside (Some (address u)) r (converted (Some (address u)) z q)) kq)
        (casting.cast-step at.program at.function at.signature at.map (calls at.again) at.state at.memory.memory h.between.rel at.world at.scope at.kept at.registers
        h.between.registers a t u e fit q kq)

  module _ (q : Register) (u : SourceType) (kq : at.kept q ≡ holds (code u)) where
    pub code-lowered : (a : SourceType) → sort_of a ≡ Some (code u) → Sets (plain.convert a q) (holds (code u)) at
    code-lowered a e = sets at h (plain.convert a q) (holds (code u)) (code u) (as_value (code u) (in_register (code u) q)) refl refl
        (λ r. ap (λ z. put_in at.inside (local_kept (of_sort z)) r (converted z (at.kept q) q)) e
        ∙ ap (λ z. put_in at.inside (Some (code u)) r (converted (Some (code u)) z q)) kq)
        (casting.code-step at.program at.function at.signature at.map (calls at.again) at.state at.memory.memory h.between.rel at.world at.scope at.kept at.registers
        h.between.registers a u e q kq)

  -- ---- integers

  module _ (q : Register) (f : Kind → Bool) (kq : at.kept q ≡ integer_of f) where
    -- the constant 0 as a null pointer
    pub null-lowered : (a u : SourceType) → sort_of a ≡ Some (address u) → Sets (plain.convert a q) (holds (address u)) at
    null-lowered a u e = sets at h (plain.convert a q) (holds (address u)) (address u) (as_value (address u) c.zero) refl refl
        (λ r. ap (λ z. put_in at.inside (local_kept (of_sort z)) r (converted z (at.kept q) q)) e
        ∙ ap (λ z. put_in at.inside (Some (address u)) r (converted (Some (address u)) z q)) kq)
        (casting.null-step at.program at.function at.signature at.map (calls at.again) at.state at.memory.memory h.between.rel at.world at.scope at.kept at.registers
        h.between.registers a (address u) e (λ k i. absurd (cc)) q f kq)

    pub null-code-lowered : (a u : SourceType) → sort_of a ≡ Some (code u) → Sets (plain.convert a q) (holds (code u)) at
    null-code-lowered a u e = sets at h (plain.convert a q) (holds (code u)) (code u) (as_value (code u) c.zero) refl refl
        (λ r. ap (λ z. put_in at.inside (local_kept (of_sort z)) r (converted z (at.kept q) q)) e
        ∙ ap (λ z. put_in at.inside (Some (code u)) r (converted (Some (code u)) z q)) kq)
        (casting.null-step at.program at.function at.signature at.map (calls at.again) at.state at.memory.memory h.between.rel at.world at.scope at.kept at.registers
        h.between.registers a (code u) e (λ k i. absurd (cc)) q f kq)

    pub conversion-lowered : (a : SourceType) (k : Kind) → sort_of a ≡ Some (number k) → Sets (plain.convert a q) (of_kind k) at
    conversion-lowered a k e = sets at h (plain.convert a q) (of_kind k) (number Int) (as_bits (at_kind k (integer_in q))) refl refl
        (λ r. ap (λ z. put_in at.inside (local_kept (of_sort z)) r (converted z (at.kept q) q)) e)
        (signs.conversion-step at.program at.function at.signature at.map (calls at.again) at.state at.memory.memory at.world at.scope at.kept at.registers h.between.registers
        q f kq a k e)

    pub number-not-lowered : Sets (plain.logical_not q) a_truth at
    number-not-lowered = sets at h (plain.logical_not q) a_truth (number Int) (binary op.Equal (integer_in q) c.zero) refl refl
        (λ r. ap (λ z. put_in at.inside (Some (number Int)) r (binary op.Equal (local_value (local_kept z) q) c.zero)) kq)
        (testing.number-not-step at.program at.function at.signature at.map (calls at.again) at.state at.memory.memory at.world at.scope at.kept at.registers h.between.registers q f kq)

    pub negate-lowered : (k : Kind) → promoted k ≡ k → Sets (plain.unary sign.Negate k q) (of_kind k) at
    negate-lowered k p = sets at h (plain.unary sign.Negate k q) (of_kind k) (number Int) (as_bits (unary prefix.Negate (at_kind k (integer_in q)))) refl refl (λ r. refl)
        (signs.negate-step at.program at.function at.signature at.map (calls at.again) at.state at.memory.memory at.world at.scope at.kept at.registers h.between.registers q f kq k p)

    pub complement-lowered : (k : Kind) → promoted k ≡ k → Sets (plain.unary sign.Complement k q) (of_kind k) at
    complement-lowered k p = sets at h (plain.unary sign.Complement k q) (of_kind k) (number Int) (as_bits (unary prefix.Complement (at_kind k (integer_in q)))) refl refl (λ r. refl)
        (signs.complement-step at.program at.function at.signature at.map (calls at.again) at.state at.memory.memory at.world at.scope at.kept at.registers h.between.registers
        q f kq k p)

    pub changed-lowered : (o : Arith) (k to : Kind) → promoted k ≡ k → (v : Register) (g : Kind → Bool) → at.kept v ≡ integer_of g
        → Sets (plain.changed (arithmetic o k to) q v) (of_kind to) at
    changed-lowered o k to p v g kv =
        sets at h (plain.changed (arithmetic o k to) q v) (of_kind to) (number Int) (as_bits (at_kind to (operated o k (integer_in q) (integer_in v)))) refl refl (λ r. refl)
        (signs.changed-step at.program at.function at.signature at.map (calls at.again) at.state at.memory.memory at.world at.scope at.kept at.registers h.between.registers
        q f kq k p o to v g kv)
