-- Implicit conversion: a value that it makes is one of the type (4).
use Rattle.std.proofs.Common.{◌≡◌, ℕ, Bool, true, false, List, [], ◌∷◌, ◌++◌, ℤ, pos, Option, None, refl, sym, ap, subst, ◌∙◌, true≢false}
use Rattle.cf_convert.specs.declared.conv.ConvStep.{ConvStep}
use Rattle.cf_convert.specs.declared.conv.ConvStep.TheVariants.{AddConst, Promote, Integer, Null, ToVoid}
use Rattle.cf_core.specs.declared.node.Core.{Core as Node}
use Rattle.cf_core.specs.declared.node.Core.TheVariants as node
use Rattle.cf_core.specs.FromClasses.{signature_of}
use Rattle.cf_core.specs.Numbers.{are_known, has_type}
use Rattle.cf_core.specs.Typed.{typing}
use Rattle.cf_core.specs.Types.{SourceType, integer, enumeration, pointer, plain, without_const}
use Rattle.cf_core.specs.Typing.{is_integral, of_number, converts}
use Rattle.cf_core_typed.specs.Same.{Same, is_normal, is_operand}
use Rattle.cf_core_typed.specs.Meets.{IsValue}
use Rattle.cf_core_typed.proofs.Conversions.{converted-is, to-integer, null-pointer, to-void-pointer}
use Rattle.cf_core_typed.proofs.Same.{and-both, same-operand, same-void, same-plain, operand-plain, integral-bare, plain-bare, plain-normal, pointer-form}
use Rattle.cf_core_typed.proofs.Values.{value-same, value-integer, value-points}
use Rattle.cf_elab.specs.Answer.{onward}
use Rattle.cf_elab.specs.Env.{Env}
use Rattle.cf_elab.specs.Fit.{all_steps, stepped}
use Rattle.cf_elab.specs.Operand.{Value, sort_of}
use Rattle.cf_elab_valid.specs.Answers.{Fine}
use Rattle.cf_elab_valid.specs.Conversion.{Leads, IsPointer, IntoVoid, is_single, with_last}
use Rattle.cf_elab_valid.specs.Scene.{Scene, IsScene, tree, typed, core, scope_of, Within, Inside, Classless, Holds, HoldsKnown, Fits, IsPlain, Meets, is_allowed}
use Rattle.cf_elab_valid.proofs.Early.{early-known, early-sort-is}
use Rattle.cf_elab_valid.proofs.Nodes.{core-Convert, core-Number, known-Convert, known-Number}
use Rattle.cf_elab_valid.proofs.Numbers.{holds-same, convert-holds}
use Rattle.cf_elab_valid.proofs.Sorts.{promoted-holds}
use Rattle.cf_elab_valid.proofs.Trees.{tree-normal}
use Rattle.cf_elab_valid.proofs.Values.{has_type-is}
use Rattle.cf_elab_valid.proofs.Ways.{made-fine, When}

-- const that is added last does nothing
pub all_steps-last : (t : ℕ) (ss : List ConvStep) (x : Value) (e : Env) → all_steps t (ss ++ AddConst ∷ []) x e ≡ all_steps t ss x e
all_steps-last t [] x e = refl
all_steps-last t (y ∷ ss) x e = λ i. onward (stepped t y x e) (λ z f. all_steps-last t ss z f i)

pub all_steps-const : (t : ℕ) (b : Bool) (ss : List ConvStep) (x : Value) (e : Env) → all_steps t (with_last b ss) x e ≡ all_steps t ss x e
all_steps-const t true ss x e = all_steps-last t ss x e
all_steps-const t false ss x e = refl

module _ (s : Scene) (scene : IsScene s) where
  -- ---- one conversion node

  plain_integral : (u : SourceType) → is_normal u ≡ true → is_integral (without_const u) ≡ true → is_integral (plain u) ≡ true
  plain_integral u n h = sym (integral-bare (plain u) (plain-bare u n)) ∙ ap is_integral (same-plain u) ∙ h

  pub integral_operand : (u : SourceType) → is_integral (without_const u) ≡ true → is_operand u ≡ true
  integral_operand u h = sym (operand-plain u) ∙ by (without_const u) h
    where
      by : (v : SourceType) → is_integral v ≡ true → is_operand v ≡ true
      by (integer k) h = refl
      by (enumeration n) h = refl
      by v h = absurd (true≢false (sym h))

  module _ (e : Env) (w : Within e s) (t : ℕ) (inside : Inside e t) where
    normal : is_normal (tree s t) ≡ true
    normal = tree-normal s.tables scene.table t (early-known s.tables scene.table e.types w.types t inside)

    -- a value with this node, whatever is known of its number
    pub convert-plain : (at a : ℕ) (n : Node) (l : Bool) (z : Option ℤ) (fixed : Bool) → l ≡ false → are_known s.tables n ≡ true → is_operand (tree s t) ≡ true
        → converts (plain (tree s t)) (typed s n) ≡ true → HoldsKnown z (tree s t)
        → IsPlain s (tree s t) (record { at = a; node = node.Convert at t n; type = t; is_lvalue = l; number = z; is_fixed = fixed }) e
    convert-plain at a n l z fixed no_place known scalar fine number = record {
      fits = record {
        inside = inside;
        numbers = known-Convert s.tables at t n ∙ and-both (has_type s.tables t) (are_known s.tables n) (has_type-is s e t w inside) known;
        allowed = subst (λ b. is_allowed b (tree s t) ≡ true) (sym no_place) scalar;
        meets = subst (λ b. Meets b (typed s (node.Convert at t n)) (tree s t)) (sym no_place)
            (subst (λ c. IsValue (typing (scope_of s) c) (tree s t)) (sym (core-Convert s.tables (signature_of s.tables) at t n)) (converted-is (tree s t) (typed s n) normal fine));
        number = number;
      };
      no_place = no_place;
      same = refl;
    }

    value_of : (x : Value) → x.is_lvalue ≡ false → Fits s e x → IsValue (typed s x.node) (tree s x.type)
    value_of x l f = subst (λ b. Meets b (typed s x.node) (tree s x.type)) l f.meets

    to_integer_converts : (x : Value) (a : SourceType) → IsPlain s a x e → is_integral (without_const a) ≡ true → is_integral (without_const (tree s t)) ≡ true
        → converts (plain (tree s t)) (typed s x.node) ≡ true
    to_integer_converts x a p from to =
        to-integer (plain (tree s t)) (typed s x.node) (plain_integral (tree s t) normal to)
        (value-integer (typed s x.node) a from (value-same (typed s x.node) (tree s x.type) a p.same (value_of x p.no_place p.fits)))

    pointer_is : (p : SourceType) → Same (tree s t) (pointer p) → (v : SourceType) × (plain (tree s t) ≡ pointer v) × Same v p
    pointer_is p same = pointer-form (plain (tree s t)) p (plain-bare (tree s t) normal) (same-plain (tree s t) ∙ same)

    pub null_converts : (at : ℕ) → IsPointer (tree s t) → converts (plain (tree s t)) (typed s (node.Number at (pos 0))) ≡ true
    null_converts at p =
        let f = pointer_is p.pointee p.same in
        subst (λ c. converts (plain (tree s t)) (typing (scope_of s) c) ≡ true) (sym (core-Number s.tables (signature_of s.tables) at (pos 0)))
        (ap (λ u. converts u (of_number (pos 0))) f.1 ∙ null-pointer f.0 (of_number (pos 0)) refl)

    void_converts : (x : Value) (a : SourceType) → IsPlain s a x e → IntoVoid a (tree s t) → converts (plain (tree s t)) (typed s x.node) ≡ true
    void_converts x a p v =
        let f = pointer_is v.to v.is_to in
        let value = value-same (typed s x.node) (tree s x.type) (pointer v.from) (p.same ∙ v.is_from) (value_of x p.no_place p.fits) in
        ap (λ u. converts u (typed s x.node)) f.1
        ∙ to-void-pointer f.0 v.from (typed s x.node) (subst (λ u. is_normal u ≡ true) f.1 (plain-normal (tree s t) normal)) (same-void f.0 v.to f.2 ∙ v.to_void)
        (value-points (typed s x.node) v.from value)

    -- without a step
    pub retyped-plain : (x : Value) (a : SourceType) → IsPlain s a x e → Same a (tree s t) → IsPlain s (tree s t) (record x { type = t }) e
    retyped-plain x a p same = record {
      fits = record {
        inside = inside;
        numbers = p.fits.numbers;
        allowed = by x.is_lvalue p.no_place p.fits.allowed;
        meets = subst (λ b. Meets b (typed s x.node) (tree s t)) (sym p.no_place) (value-same (typed s x.node) (tree s x.type) (tree s t) (p.same ∙ same) (value_of x p.no_place p.fits));
        number = holds-same x.number (tree s x.type) (tree s t) (p.same ∙ same) p.fits.number;
      };
      no_place = p.no_place;
      same = refl;
    }
      where
        by : (b : Bool) → b ≡ false → is_allowed b (tree s x.type) ≡ true → is_allowed b (tree s t) ≡ true
        by true h a = absurd (true≢false h)
        by false h a = sym (same-operand (tree s x.type) (tree s t) (p.same ∙ same)) ∙ a

  -- ---- the steps that lead from one tree to the type's

  pub leads-fine : (t : ℕ) (core : List ConvStep) (x : Value) (a : SourceType) (e : Env) → Classless e → When s e (Holds s e) → When s e (Inside e t)
      → is_single core ≡ true → When s e (IsPlain s a x e) → When s e (Leads a (tree s t) core) → Fine s (IsPlain s (tree s t)) e (all_steps t core x e)
  leads-fine t [] x a e c h i o p l = made-fine s (IsPlain s (tree s t)) e (record x { type = t }) c h (λ w. retyped-plain e w t (i w) x a (p w) (l w))
  leads-fine t (Promote ∷ []) x a e c h i o p l =
      made-fine s (IsPlain s (tree s t)) e _ c h (λ w. convert-plain e w t (i w) x.at x.at x.node x.is_lvalue _ x.is_fixed (p w).no_place (p w).fits.numbers
      (integral_operand (tree s t) (l w).to) (to_integer_converts e w t (i w) x a (p w) (l w).from (l w).to)
      (promoted-holds s.tables (sort_of e.types t) (tree s t) (early-sort-is s.tables scene.table e.types w.types scene.no_class scene.none_to_reference t (i w)) (l w).to x.number))
  leads-fine t (Integer k ∷ []) x a e c h i o p l =
      made-fine s (IsPlain s (tree s t)) e _ c h (λ w. let to : is_integral (without_const (tree s t)) ≡ true = ap is_integral (l w).to in
      convert-plain e w t (i w) x.at x.at x.node x.is_lvalue _ x.is_fixed (p w).no_place (p w).fits.numbers (integral_operand (tree s t) to)
      (to_integer_converts e w t (i w) x a (p w) (l w).from to) (convert-holds k x.number (tree s t) (l w).to))
  leads-fine t (Null ∷ []) x a e c h i o p l =
      made-fine s (IsPlain s (tree s t)) e _ c h (λ w. convert-plain e w t (i w) x.at x.at (node.Number x.at (pos 0)) false None true refl (known-Number s.tables x.at (pos 0))
      (same-operand (tree s t) (pointer (l w).pointee) (l w).same) (null_converts e w t (i w) x.at (l w)) tt)
  leads-fine t (ToVoid ∷ []) x a e c h i o p l =
      made-fine s (IsPlain s (tree s t)) e _ c h (λ w. convert-plain e w t (i w) x.at x.at x.node x.is_lvalue None x.is_fixed (p w).no_place (p w).fits.numbers
      (same-operand (tree s t) (pointer (l w).to) (l w).is_to) (void_converts e w t (i w) x a (p w) (l w)) tt)
  leads-fine t core x a e c h i o p l = absurd (true≢false (sym o))
