-- Truth, and operators on integers and enumerations (5.3, 5.6 to 5.15, 6.4.1).
use Rattle.std.proofs.Common.{◌≡◌, ℕ, Bool, true, false, ◌&&◌, ◌||◌, if◌then◌else◌, ℤ, Option, Some, refl, sym, ap, subst, ◌∙◌, true≢false}
use Rattle.cf_base.specs.declared.kind.Kind.{Kind}
use Rattle.cf_base.specs.declared.kind.Kind.TheVariants as kind
use Rattle.cf_base.specs.declared.arith.Arith.{Arith}
use Rattle.cf_base.specs.Integers.{int_op}
use Rattle.cf_base.specs.Promotion.{usual}
use Rattle.cf_types.specs.Operators.{is_shift}
use Rattle.cf_types.specs.declared.ty.Ty.TheVariants as ty
use Rattle.cf_core.specs.declared.operators.UnaryOperator.{UnaryOperator}
use Rattle.cf_core.specs.declared.operators.UnaryOperator.TheVariants as unary
use Rattle.cf_core.specs.declared.node.Core.{Core as Node}
use Rattle.cf_core.specs.declared.node.Core.TheVariants as node
use Rattle.cf_core.specs.FromClasses.{signature_of}
use Rattle.cf_core.specs.Numbers.{are_known}
use Rattle.cf_core.specs.Places.{is_scalar}
use Rattle.cf_core.specs.Typed.{typing}
use Rattle.cf_core.specs.Types.{SourceType, integer, enumeration, pointer, without_const}
use Rattle.cf_core.specs.Typing.{allowed, is_comparison, operated_type, of_value, is_right_operand, is_condition}
use Rattle.cf_core_typed.specs.Same.{Same}
use Rattle.cf_core_typed.specs.Meets.{IsValue}
use Rattle.cf_core_typed.proofs.Operators.{operate-is, unary-is, right-operand, truth-is}
use Rattle.cf_core_typed.proofs.Same.{and-both, same-scalar}
use Rattle.cf_core_typed.proofs.Values.{value-condition}
use Rattle.cf_elab.specs.Answer.{Made, onward, need}
use Rattle.cf_elab.specs.Arithmetic as row
use Rattle.cf_elab.specs.Arithmetic.{result_kind}
use Rattle.cf_elab.specs.Env.{Env}
use Rattle.cf_elab.specs.Fit.{to_kind, truth}
use Rattle.cf_elab.specs.Made.{of_kind}
use Rattle.cf_elab.specs.Operand.{Value, Sort, integral, enumeral, object_pointer, void_pointer, function_pointer, data_pointer, method_pointer, class_sort, array_sort, function_sort, void_sort, reference_sort, sort_of, is_testable, known_number, computed, plain}
use Rattle.cf_elab_numbers.specs.Numbers.{negative, complement}
use Rattle.cf_elab_valid.specs.Answers.{Fine}
use Rattle.cf_elab_valid.specs.Scene.{Scene, IsScene, tree, typed, scope_of, Within, Steps, Classless, Holds, HoldsKnown, Fits, IsPlain}
use Rattle.cf_elab_valid.specs.Sorts.{SortIs}
use Rattle.cf_elab_valid.proofs.Early.{early-sort-is}
use Rattle.cf_elab_valid.proofs.FitRows.{to_kind-fine}
use Rattle.cf_elab_valid.proofs.Making.{IsType, of_kind-fine}
use Rattle.cf_elab_valid.proofs.Nodes.{core-Operate, core-Unary, core-Not, core-And, core-Or, known-Operate, known-Unary, known-Not, known-And, known-Or}
use Rattle.cf_elab_valid.proofs.Numbers.{operated-holds, negative-holds, complement-holds, inverted-holds, joined-holds}
use Rattle.cf_elab_valid.proofs.Plain.{decayed_tree, plain-fine}
use Rattle.cf_elab_valid.proofs.Values.{plain-when, plain-value, plain-number, value-plain, type-tree}
use Rattle.cf_elab_valid.proofs.Ways.{fits-when, fine-as, made-fine, onward-fine, steps-through, within-before, When}

-- a plain value of its own type
abbrev pub IsOperand : Scene → Value → Env → Type 0
IsOperand s v e = Fits s e v

pub plain-operand : (s : Scene) (t : SourceType) (v : Value) (e : Env) → IsPlain s t v e → IsOperand s v e
plain-operand s t v e p = p.fits

-- a plain value of an arithmetic or pointer type
pub record IsTested (s : Scene) (v : Value) (e : Env) : Type 0 where
  pub plain : IsPlain s (tree s v.type) v e
  pub scalar : is_scalar (tree s v.type) ≡ true

pub tested-when : (s : Scene) (a b : Env) (v : Value) → Steps a b → When s a (IsTested s v a) → When s b (IsTested s v b)
tested-when s a b v g p = λ w. let q = p (within-before a b s g w) in record { plain = plain-when s (tree s v.type) a b v g (λ _. q.plain) w; scalar = q.scalar }

pub tested-condition : (s : Scene) (v : Value) (e : Env) → IsTested s v e → is_condition (typed s v.node) ≡ true
tested-condition s v e p = value-condition (typed s v.node) (tree s v.type) p.scalar (plain-value s (tree s v.type) v e p.plain)

tested-scalar : (s : Scene) (k : Sort) (u : SourceType) → is_testable k ≡ true → SortIs s.tables k u → is_scalar u ≡ true
tested-scalar s (integral k) u h is = same-scalar u (integer k) is
tested-scalar s (enumeral k) u h is = same-scalar u (enumeration is.name) is.same
tested-scalar s (object_pointer t) u h is = same-scalar u (pointer (tree s t)) is.same
tested-scalar s void_pointer u h is = same-scalar u (pointer (tree s is.pointee)) is.same
tested-scalar s (function_pointer t) u h is = same-scalar u (pointer (tree s t)) is.same
tested-scalar s (data_pointer k t) u h is = absurd is
tested-scalar s (method_pointer k t) u h is = absurd is
tested-scalar s (class_sort k) u h is = absurd is
tested-scalar s (array_sort t n) u h is = absurd (true≢false (sym h))
tested-scalar s (function_sort g) u h is = absurd (true≢false (sym h))
tested-scalar s void_sort u h is = absurd (true≢false (sym h))
tested-scalar s (reference_sort t) u h is = absurd (true≢false (sym h))

kind_told : (op : Arith) (k : Kind) → integer (result_kind op k) ≡ operated_type op k
kind_told op k = by (is_comparison op)
  where
    by : (b : Bool) → integer (if b then kind.Int else k) ≡ (if b then integer kind.Int else integer k)
    by true = refl
    by false = refl

module _ (s : Scene) (scene : IsScene s) where
  pub truth-fine : (rule at : ℕ) (v : Value) (e : Env) → Classless e → When s e (Holds s e) → When s e (Fits s e v) → Fine s (IsTested s) e (truth rule at v e)
  truth-fine rule at v e c h f =
      onward-fine s (IsPlain s (decayed_tree s v.type (sort_of e.types v.type))) (IsTested s) e (plain v e) _ (plain-fine s scene e v c h f)
      (λ x e1 g d held p. by x e1 d held p (is_testable (sort_of e1.types x.type)) refl)
    where
      by : (x : Value) (e1 : Env) → Classless e1 → When s e1 (Holds s e1) → When s e1 (IsPlain s (decayed_tree s v.type (sort_of e.types v.type)) x e1) → (b : Bool) → is_testable (sort_of e1.types x.type) ≡ b
          → Fine s (IsTested s) e1 (onward (need b rule at e1) (λ _. λ e2. Made x e2))
      by x e1 d held p false is = tt
      by x e1 d held p true is =
          made-fine s (IsTested s) e1 x d held (λ w. record {
            plain = record { fits = (p w).fits; no_place = (p w).no_place; same = refl };
            scalar = tested-scalar s (sort_of e1.types x.type) (tree s x.type) is (early-sort-is s.tables scene.table e1.types w.types scene.no_class scene.none_to_reference x.type (p w).fits.inside);
          })

  -- a value of an integer type that is made last
  pub of_kind-then : (k : Kind) (make : ℕ → Value) (Q : Value → Env → Type 0) (e : Env) → Classless e → When s e (Holds s e)
      → ((t : ℕ) (e1 : Env) → Steps e e1 → Within e1 s → IsType (ty.Int k) t e1 → Q (make t) e1) → Fine s Q e (onward (of_kind k e) (λ t f. Made (make t) f))
  of_kind-then k make Q e c h made =
      onward-fine s (IsType (ty.Int k)) Q e (of_kind k e) (λ t f. Made (make t) f) (of_kind-fine s k e c h) (λ t e1 g d held is. made-fine s Q e1 (make t) d held (λ w. made t e1 g w (is w)))

  pub int-tree : (k : Kind) (t : ℕ) (e : Env) → Within e s → IsType (ty.Int k) t e → Same (tree s t) (integer k)
  int-tree k t e w is = ap without_const (type-tree s scene e (ty.Int k) t w is)

  -- ---- operators

  pub operated-fine : (at : ℕ) (op : Arith) (k l : Kind) (x y : Value) (e : Env) → (is_shift op ≡ false → l ≡ k) → Classless e → When s e (Holds s e) → When s e (Fits s e x) → When s e (Fits s e y)
      → Fine s (IsPlain s (integer (result_kind op k))) e (row.operated at op k l x y e)
  operated-fine at op k l x y e same c h fx fy =
      onward-fine s (IsPlain s (integer k)) Q e (to_kind k x e) _ (to_kind-fine s scene k x e c h fx)
      (λ a e1 g1 c1 h1 pa. onward-fine s (IsPlain s (integer l)) Q e1 (to_kind l y e1) _ (to_kind-fine s scene l y e1 c1 h1 (fits-when s e e1 y g1 fy))
      (λ b e2 g2 c2 h2 pb. of_kind-then (result_kind op k) (value_of a b) Q e2 c2 h2
      (λ t e3 g3 w is. joined a b t e3 w (plain-when s (integer k) e1 e3 a (steps-through e1 e2 e3 g2 g3) pa w) (plain-when s (integer l) e2 e3 b g3 pb w) is)))
    where
      Q : Value → Env → Type 0
      Q = IsPlain s (integer (result_kind op k))

      value_of : Value → Value → ℕ → Value
      value_of a b t = record (computed at (node.Operate at op k a.node b.node) t) { number = row.two_numbers (λ z w. known_number (Some z) (int_op op k z w)) a.number b.number }

      joined : (a b : Value) (t : ℕ) (e3 : Env) → Within e3 s → IsPlain s (integer k) a e3 → IsPlain s (integer l) b e3 → IsType (ty.Int (result_kind op k)) t e3
          → IsPlain s (integer (result_kind op k)) (value_of a b t) e3
      joined a b t e3 w pa pb is =
          let value = operate-is op k (typed s a.node) (typed s b.node) (plain-value s (integer k) a e3 pa) (right-operand op k l (typed s b.node) same (plain-value s (integer l) b e3 pb)) in
          value-plain s e3 (integer (result_kind op k)) at t (node.Operate at op k a.node b.node) (row.two_numbers (λ z w. known_number (Some z) (int_op op k z w)) a.number b.number) false is.inside
          (int-tree (result_kind op k) t e3 w is)
          (known-Operate s.tables at op k a.node b.node ∙ and-both (are_known s.tables a.node) (are_known s.tables b.node) pa.fits.numbers pb.fits.numbers) refl
          (subst (λ c. IsValue (typing (scope_of s) c) (integer (result_kind op k))) (sym (core-Operate s.tables (signature_of s.tables) at op k a.node b.node))
          (subst (λ u. IsValue (allowed ((typed s a.node).value (integer k) && is_right_operand op k (typed s b.node)) (of_value (operated_type op k))) u) (sym (kind_told op k)) value))
          (operated-holds op k a.number b.number (plain-number s (integer k) a e3 pa))

  pub on_kinds-fine : (at : ℕ) (op : Arith) (k l : Kind) (x y : Value) (e : Env) → Classless e → When s e (Holds s e) → When s e (Fits s e x) → When s e (Fits s e y)
      → Fine s (IsOperand s) e (row.on_kinds at op k l x y e)
  on_kinds-fine at op k l x y e c h fx fy = by (is_shift op) refl
    where
      by : (b : Bool) → is_shift op ≡ b → Fine s (IsOperand s) e ((if b then row.operated at op k l x y else row.operated at op (usual k l) (usual k l) x y) e)
      by true is = fine-as s (IsPlain s (integer (result_kind op k))) (IsOperand s) e _ (λ v f p. plain-operand s (integer (result_kind op k)) v f p) (operated-fine at op k l x y e (λ n. absurd (true≢false (sym is ∙ n))) c h fx fy)
      by false is = fine-as s (IsPlain s (integer (result_kind op (usual k l)))) (IsOperand s) e _ (λ v f p. plain-operand s (integer (result_kind op (usual k l))) v f p) (operated-fine at op (usual k l) (usual k l) x y e (λ _. refl) c h fx fy)

  -- - and ~
  pub signed-fine : (at : ℕ) (op : UnaryOperator) (k : Kind) (number : Option ℤ → Option ℤ) → ((z : Option ℤ) → HoldsKnown (number z) (integer k)) → (x : Value) (e : Env) → Classless e → When s e (Holds s e) → When s e (Fits s e x)
      → Fine s (IsPlain s (integer k)) e (onward (to_kind k x e) (λ a f. onward (of_kind k f) (λ t g. Made (record (computed at (node.Unary at op k a.node) t) { number = number a.number }) g)))
  signed-fine at op k number fits x e c h fx =
      onward-fine s (IsPlain s (integer k)) (IsPlain s (integer k)) e (to_kind k x e) _ (to_kind-fine s scene k x e c h fx)
      (λ a e1 g1 c1 h1 pa. of_kind-then k (value_of a) (IsPlain s (integer k)) e1 c1 h1 (λ t e2 g2 w is. signed a t e2 w (plain-when s (integer k) e1 e2 a g2 pa w) is))
    where
      value_of : Value → ℕ → Value
      value_of a t = record (computed at (node.Unary at op k a.node) t) { number = number a.number }

      signed : (a : Value) (t : ℕ) (e2 : Env) → Within e2 s → IsPlain s (integer k) a e2 → IsType (ty.Int k) t e2 → IsPlain s (integer k) (value_of a t) e2
      signed a t e2 w pa is =
          value-plain s e2 (integer k) at t (node.Unary at op k a.node) (number a.number) false is.inside (int-tree k t e2 w is) (known-Unary s.tables at op k a.node ∙ pa.fits.numbers) refl
          (subst (λ c. IsValue (typing (scope_of s) c) (integer k)) (sym (core-Unary s.tables (signature_of s.tables) at op k a.node)) (unary-is k (typed s a.node) (plain-value s (integer k) a e2 pa)))
          (fits a.number)

  pub negated-fine : (at : ℕ) (k : Kind) (x : Value) (e : Env) → Classless e → When s e (Holds s e) → When s e (Fits s e x) → Fine s (IsPlain s (integer k)) e (row.negated at k x e)
  negated-fine at k x e c h fx = signed-fine at unary.Negate k (negative k) (negative-holds k) x e c h fx

  pub complemented-fine : (at : ℕ) (k : Kind) (x : Value) (e : Env) → Classless e → When s e (Holds s e) → When s e (Fits s e x) → Fine s (IsPlain s (integer k)) e (row.complemented at k x e)
  complemented-fine at k x e c h fx = signed-fine at unary.Complement k (complement k) (complement-holds k) x e c h fx

  -- !
  pub negation-fine : (at : ℕ) (x : Value) (e : Env) → Classless e → When s e (Holds s e) → When s e (Fits s e x) → Fine s (IsPlain s (integer kind.Int)) e (row.negation at x e)
  negation-fine at x e c h fx =
      onward-fine s (IsTested s) (IsPlain s (integer kind.Int)) e (truth 18 at x e) _ (truth-fine 18 at x e c h fx)
      (λ a e1 g1 c1 h1 pa. of_kind-then kind.Int (value_of a) (IsPlain s (integer kind.Int)) e1 c1 h1 (λ t e2 g2 w is. turned a t e2 w (tested-when s e1 e2 a g2 pa w) is))
    where
      value_of : Value → ℕ → Value
      value_of a t = record (computed at (node.Not at a.node) t) { number = row.inverted a.number }

      turned : (a : Value) (t : ℕ) (e2 : Env) → Within e2 s → IsTested s a e2 → IsType (ty.Int kind.Int) t e2 → IsPlain s (integer kind.Int) (value_of a t) e2
      turned a t e2 w pa is =
          value-plain s e2 (integer kind.Int) at t (node.Not at a.node) (row.inverted a.number) false is.inside (int-tree kind.Int t e2 w is) (known-Not s.tables at a.node ∙ pa.plain.fits.numbers) refl
          (subst (λ c. IsValue (typing (scope_of s) c) (integer kind.Int)) (sym (core-Not s.tables (signature_of s.tables) at a.node)) (truth-is (is_condition (typed s a.node)) (tested-condition s a e2 pa)))
          (inverted-holds a.number)

  -- && and ||
  logical-fine : (at : ℕ) (make : ℕ → Node → Node → Node) (join : Bool → Bool → Bool) (x y : Value) (e : Env)
      → ((a b : Node) → are_known s.tables a ≡ true → are_known s.tables b ≡ true → are_known s.tables (make at a b) ≡ true)
      → ((a b : Node) → (is_condition (typed s a) && is_condition (typed s b)) ≡ true → IsValue (typed s (make at a b)) (integer kind.Int))
      → Classless e → When s e (Holds s e) → When s e (Fits s e x) → When s e (Fits s e y) → Fine s (IsPlain s (integer kind.Int)) e (row.logical at make join x y e)
  logical-fine at make join x y e known value c h fx fy =
      onward-fine s (IsTested s) (IsPlain s (integer kind.Int)) e (truth 13 at x e) _ (truth-fine 13 at x e c h fx)
      (λ a e1 g1 c1 h1 pa. onward-fine s (IsTested s) (IsPlain s (integer kind.Int)) e1 (truth 13 at y e1) _ (truth-fine 13 at y e1 c1 h1 (fits-when s e e1 y g1 fy))
      (λ b e2 g2 c2 h2 pb. of_kind-then kind.Int (value_of a b) (IsPlain s (integer kind.Int)) e2 c2 h2
      (λ t e3 g3 w is. joined a b t e3 w (tested-when s e1 e3 a (steps-through e1 e2 e3 g2 g3) pa w) (tested-when s e2 e3 b g3 pb w) is)))
    where
      value_of : Value → Value → ℕ → Value
      value_of a b t = record (computed at (make at a.node b.node) t) { number = row.two_numbers (λ z w. Some (row.truth_number (join (row.is_nonzero z) (row.is_nonzero w)))) a.number b.number }

      joined : (a b : Value) (t : ℕ) (e3 : Env) → Within e3 s → IsTested s a e3 → IsTested s b e3 → IsType (ty.Int kind.Int) t e3 → IsPlain s (integer kind.Int) (value_of a b t) e3
      joined a b t e3 w pa pb is =
          value-plain s e3 (integer kind.Int) at t (make at a.node b.node) (row.two_numbers (λ z w. Some (row.truth_number (join (row.is_nonzero z) (row.is_nonzero w)))) a.number b.number) false is.inside (int-tree kind.Int t e3 w is)
          (known a.node b.node pa.plain.fits.numbers pb.plain.fits.numbers) refl
          (value a.node b.node (and-both (is_condition (typed s a.node)) (is_condition (typed s b.node)) (tested-condition s a e3 pa) (tested-condition s b e3 pb)))
          (joined-holds join a.number b.number)

  pub conjunction-fine : (at : ℕ) (x y : Value) (e : Env) → Classless e → When s e (Holds s e) → When s e (Fits s e x) → When s e (Fits s e y)
      → Fine s (IsPlain s (integer kind.Int)) e (row.conjunction at x y e)
  conjunction-fine at x y e c h fx fy =
      logical-fine at (λ p a b. node.And p a b) (λ a b. a && b) x y e (λ a b p q. known-And s.tables at a b ∙ and-both (are_known s.tables a) (are_known s.tables b) p q)
      (λ a b p. subst (λ n. IsValue (typing (scope_of s) n) (integer kind.Int)) (sym (core-And s.tables (signature_of s.tables) at a b)) (truth-is (is_condition (typed s a) && is_condition (typed s b)) p)) c h fx fy

  pub disjunction-fine : (at : ℕ) (x y : Value) (e : Env) → Classless e → When s e (Holds s e) → When s e (Fits s e x) → When s e (Fits s e y)
      → Fine s (IsPlain s (integer kind.Int)) e (row.disjunction at x y e)
  disjunction-fine at x y e c h fx fy =
      logical-fine at (λ p a b. node.Or p a b) (λ a b. a || b) x y e (λ a b p q. known-Or s.tables at a b ∙ and-both (are_known s.tables a) (are_known s.tables b) p q)
      (λ a b p. subst (λ n. IsValue (typing (scope_of s) n) (integer kind.Int)) (sym (core-Or s.tables (signature_of s.tables) at a b)) (truth-is (is_condition (typed s a) && is_condition (typed s b)) p)) c h fx fy
