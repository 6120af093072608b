-- Pointers that are compared with the constant 0 (5.10).
use Rattle.std.proofs.Common.{◌≡◌, ◌⊎◌, inl, inr, ℕ, Bool, true, false, ◌&&◌, if◌then◌else◌, List, [], ◌∷◌, ◌++◌, pos, ℤ, Option, Some, None, refl, sym, ap, subst, ◌∙◌, true≢false}
use Rattle.std.specs.Option.{option_map}
use Rattle.cf_base.specs.declared.kind.Kind.{Kind}
use Rattle.cf_types.specs.Table.{Table}
use Rattle.cf_types.specs.declared.ty.Ty.{Ty}
use Rattle.cf_types.specs.declared.ty.Ty.TheVariants as ty
use Rattle.cf_convert.specs.Constness.{type_at, bare}
use Rattle.cf_convert.specs.Converts.{steps, first_step, takes_null, value_steps, decayed}
use Rattle.cf_convert.specs.declared.conv.ConvStep.{ConvStep}
use Rattle.cf_convert.specs.declared.conv.ConvStep.TheVariants.{Read, Promote, Integer, Null, ToVoid}
use Rattle.cf_syntax.specs.declared.operator.BinaryOp.{BinaryOp}
use Rattle.cf_core.specs.declared.operators.PointerOperator.{PointerOperator}
use Rattle.cf_core.specs.declared.node.Core.TheVariants as node
use Rattle.cf_core.specs.FromClasses.{signature_of}
use Rattle.cf_core.specs.Typed.{typing}
use Rattle.cf_core.specs.Types.{SourceType, void, pointer, without_const}
use Rattle.cf_core.specs.Typing.{is_integral, of_number, is_zero as told_zero}
use Rattle.cf_core_typed.specs.Same.{Same}
use Rattle.cf_core_typed.proofs.Conversions.{null-is}
use Rattle.cf_core_typed.proofs.Pointers.{is_equality, equality-is, null-equal, null-equal-left}
use Rattle.cf_core_typed.proofs.Same.{same-operand}
use Rattle.cf_core_typed.proofs.Values.{number-integral, value-points, value-same}
use Rattle.cf_elab.specs.Answer.{Answer, Made, Refused, Passed, Elab, onward, for_each}
use Rattle.cf_elab.specs.Binary as row
use Rattle.cf_elab.specs.Env.{Env}
use Rattle.cf_elab.specs.Fit.{fit, fitted, no_user, all_steps, step_checked}
use Rattle.cf_elab.specs.Operand.{Value, val, defs, Sort, object_pointer, void_pointer, function_pointer, sort_of, ty_sort, is_reference, is_zero, arithmetic, read_value}
use Rattle.cf_elab_env.proofs.Growth.{here}
use Rattle.cf_elab_valid.specs.Answers.{Fine}
use Rattle.cf_elab_valid.specs.Conversion.{IsPointer, is_single, with_last}
use Rattle.cf_elab_valid.specs.Scene.{Scene, IsScene, tree, typed, scope_of, Within, Steps, Inside, Classless, Holds, HoldsKnown, IsPlain}
use Rattle.cf_elab_valid.proofs.Arithmetic.{IsOperand}
use Rattle.cf_elab_valid.proofs.Compared.{Compared, no_reference_sort, of_pointers-fine, with_other-by, equality_op}
use Rattle.cf_elab_valid.proofs.Early.{early-bare, early-form, early-inside, early-sort}
use Rattle.cf_elab_valid.proofs.Fit.{all_steps-const, convert-plain, null_converts}
use Rattle.cf_elab_valid.proofs.FitRows.{Still, all_checked, classless-type, still-onward, steps_at, fit-fine}
use Rattle.cf_elab_valid.proofs.Making.{IsType}
use Rattle.cf_elab_valid.proofs.Nodes.{core-Convert, core-Number, known-Number}
use Rattle.cf_elab_valid.proofs.Options.{some_is}
use Rattle.cf_elab_valid.proofs.Steps.{null-way}
use Rattle.cf_elab_valid.proofs.Values.{plain-value, plain-number, type-tree}
use Rattle.cf_elab_valid.proofs.Ways.{fits-when, inside-later, made-fine, onward-fine, within-before, When}

-- a pointer made of 0
pub record IsNull (s : Scene) (t : SourceType) (v : Value) (e : Env) : Type 0 where
  pub plain : IsPlain s t v e
  pub null : (typed s v.node).is_null ≡ true

null_value : (l : Bool) (from : Ty) (z : Bool) (target : Ty) (other : Option (List ConvStep)) → z ≡ true → takes_null target ≡ true
    → option_map (λ s. first_step l from ++ s) (if z && takes_null target then Some (Null ∷ []) else other) ≡ Some (first_step l from ++ Null ∷ [])
null_value l from z target other hz ht =
    ap (λ b. option_map (λ s. first_step l from ++ s) (if b && takes_null target then Some (Null ∷ []) else other)) hz
    ∙ ap (λ b. option_map (λ s. first_step l from ++ s) (if b then Some (Null ∷ []) else other)) ht

abbrev maybe_read : Bool → List ConvStep
maybe_read l = if l then Read ∷ [] else []

abbrev decays : Ty → Bool
decays (ty.Array u n) = true
decays (ty.Fun g) = true
decays x = false

no_decay : (l : Bool) (x : Ty) → decays x ≡ false → first_step l x ≡ maybe_read l
no_decay l (ty.Array u n) h = absurd (true≢false h)
no_decay l (ty.Fun g) h = absurd (true≢false h)
no_decay l x h = refl

integer_stays : (types : Table) (x : Ty) (k : Kind) → arithmetic (ty_sort types x) ≡ Some k → decays x ≡ false
integer_stays types (ty.Array u n) k h = absurd cc
integer_stays types (ty.Fun g) k h = absurd cc
integer_stays types x k h = refl

-- from an integer 0 to a pointer there is one step, behind a read
null_steps : (e : Env) (y : Value) (to p : ℕ) (k : Kind) → type_at e.types to ≡ ty.Ptr p → is_zero y.number ≡ true → arithmetic (sort_of e.types y.type) ≡ Some k
    → steps e.types (defs e) (val y) to ≡ Some (maybe_read y.is_lvalue ++ Null ∷ [])
null_steps e y to p k at z a =
    let same : bare e.types to ≡ to = rw at refl in
    steps_at e.types (defs e) (val y) to (ty.Ptr p) at refl
    ∙ null_value y.is_lvalue (type_at e.types (bare e.types y.type)) (is_zero y.number) (type_at e.types (bare e.types to)) _ z (ap (λ u. takes_null (type_at e.types u)) same ∙ ap takes_null at)
    ∙ ap (λ l. Some (l ++ Null ∷ [])) (no_decay y.is_lvalue (type_at e.types (bare e.types y.type)) (integer_stays e.types (type_at e.types (bare e.types y.type)) k a))

-- ---- what a sort tells of a type

-- the type is a pointer
abbrev pub Points : Env → ℕ → Type 0
Points e t = (p : ℕ) × (type_at e.types (bare e.types t) ≡ ty.Ptr p)

abbrev pub is_pointing : Sort → Bool
is_pointing (object_pointer t) = true
is_pointing void_pointer = true
is_pointing (function_pointer t) = true
is_pointing other = false

pub pointing : (e : Env) (t : ℕ) → is_pointing (sort_of e.types t) ≡ true → Points e t
pointing e t h = by (type_at e.types (bare e.types t)) refl h
  where
    by : (x : Ty) → type_at e.types (bare e.types t) ≡ x → is_pointing (ty_sort e.types x) ≡ true → Points e t
    by (ty.Ptr p) at h = (p, at)
    by ty.Void at h = absurd (true≢false (sym h))
    by (ty.Int k) at h = absurd (true≢false (sym h))
    by (ty.Enum k) at h = absurd (true≢false (sym h))
    by (ty.Class k) at h = absurd (true≢false (sym h))
    by (ty.Ref k) at h = absurd (true≢false (sym h))
    by (ty.Array k n) at h = absurd (true≢false (sym h))
    by (ty.Fun k) at h = absurd (true≢false (sym h))
    by (ty.MemData k n) at h = absurd (true≢false (sym h))
    by (ty.MemFun k n) at h = absurd (true≢false (sym h))
    by (ty.Const k) at h = absurd (true≢false (sym h))

-- ---- a fit that reads no array leaves the environment

single_still : (t : ℕ) (ss : List ConvStep) (x : Value) (e : Env) → is_single ss ≡ true → Still e (all_steps t ss x e)
single_still t [] x e h = refl
single_still t (Promote ∷ []) x e h = refl
single_still t (Integer k ∷ []) x e h = refl
single_still t (Null ∷ []) x e h = refl
single_still t (ToVoid ∷ []) x e h = refl
single_still t ss x e h = absurd (true≢false (sym h))

read_still : (t : ℕ) (l c : Bool) (core : List ConvStep) (x : Value) (e : Env) → is_single core ≡ true → Still e (all_steps t (maybe_read l ++ with_last c core) x e)
read_still t true c core x e h = subst (Still e) (sym (all_steps-const t c core (read_value e.types x) e)) (single_still t core (read_value e.types x) e h)
read_still t false c core x e h = subst (Still e) (sym (all_steps-const t c core x e)) (single_still t core x e h)

undecayed : (u : ℕ) (y : Ty) → decays y ≡ false → decayed u y ≡ y
undecayed u (ty.Array v n) h = absurd (true≢false h)
undecayed u (ty.Fun g) h = absurd (true≢false h)
undecayed u y h = refl

module _ (s : Scene) (scene : IsScene s) where
  module _ (e : Env) (c : Classless e) (x : Value) (quiet : decays (type_at e.types (bare e.types x.type)) ≡ false) where
    abbrev source : Ty
    source = type_at e.types (bare e.types x.type)

    abbrev by_steps : Ty → Ty → Option (List ConvStep)
    by_steps from target = if is_zero x.number && takes_null target then Some (Null ∷ []) else value_steps e.types (defs e) from target

    steps_still : (t u : ℕ) (o : Option (List ConvStep)) (ss : List ConvStep) → by_steps (decayed (bare e.types x.type) source) (type_at e.types u) ≡ o
        → option_map (λ s. first_step x.is_lvalue source ++ s) o ≡ Some ss → Still e (all_steps t ss x e)
    steps_still t u None ss is h = absurd cc
    steps_still t u (Some core) ss is h =
        let way = null-way s.tables scene.table e.types (defs e) (⊥) (λ w. absurd w) (classless-type e.types c.no_type) void void (is_zero x.number) source (type_at e.types u) core
        (ap (λ y. by_steps y (type_at e.types u)) (sym (undecayed (bare e.types x.type) source quiet)) ∙ is)
        (classless-type e.types c.no_type (bare e.types x.type)) (classless-type e.types c.no_type u) (λ w. absurd w) (λ w. absurd w) (λ p is w. absurd w) (λ q is w. absurd w) in
        let all : first_step x.is_lvalue source ++ core ≡ ss = some_is (first_step x.is_lvalue source ++ core) ss h in
        subst (λ l. Still e (all_steps t l x e))
        (ap (λ l. l ++ with_last way.const way.core) (sym (no_decay x.is_lvalue source quiet)) ∙ ap (λ l. first_step x.is_lvalue source ++ l) (sym way.is) ∙ all)
        (read_still t x.is_lvalue way.const way.core x e way.single)

    -- to a type that is a pointer
    fit_still : (at t p : ℕ) → type_at e.types (bare e.types t) ≡ ty.Ptr p → Still e (fit at x t e)
    fit_still at t p to = by (steps e.types (defs e) (val x) (bare e.types t)) refl
      where
        by : (o : Option (List ConvStep)) → steps e.types (defs e) (val x) (bare e.types t) ≡ o → Still e (fitted no_user at x (bare e.types t) o e)
        by None is = tt
        by (Some ss) is =
            still-onward e (for_each (step_checked at (bare e.types t) x) ss e) (λ _. all_steps (bare e.types t) ss x) (all_checked e at (bare e.types t) x ss)
            (λ _. steps_still (bare e.types t) (bare e.types (bare e.types t)) (by_steps (decayed (bare e.types x.type) source) (type_at e.types (bare e.types (bare e.types t)))) ss refl
            (sym (steps_at e.types (defs e) (val x) (bare e.types t) (ty.Ptr p) to refl) ∙ is))

  -- ---- a pointer made of 0

  module _ (e : Env) (w : Within e s) (to : ℕ) (i : Inside e to) (p : IsPointer (tree s to)) (a : ℕ) where
    zero_typed : typed s (node.Number a (pos 0)) ≡ of_number (pos 0)
    zero_typed = ap (typing (scope_of s)) (core-Number s.tables (signature_of s.tables) a (pos 0))

    pub null_made : IsNull s (tree s to) (record { at = a; node = node.Convert a to (node.Number a (pos 0)); type = to; is_lvalue = false; number = None; is_fixed = true }) e
    null_made = record {
      plain = convert-plain s scene e w to i a a (node.Number a (pos 0)) false None true refl (known-Number s.tables a (pos 0)) (same-operand (tree s to) (pointer p.pointee) p.same) (null_converts s scene e w to i a p) tt;
      null = subst (λ n. (typing (scope_of s) n).is_null ≡ true) (sym (core-Convert s.tables (signature_of s.tables) a to (node.Number a (pos 0))))
          (null-is (tree s to) (typed s (node.Number a (pos 0))) (null_converts s scene e w to i a p) (ap (λ x. told_zero x.number) zero_typed));
    }

  null_fit-fine : (at t p : ℕ) (y : Value) (k : Kind) (e : Env) → Classless e → When s e (Holds s e) → When s e (Inside e t) → type_at e.types (bare e.types t) ≡ ty.Ptr p → is_zero y.number ≡ true
      → arithmetic (sort_of e.types y.type) ≡ Some k → Fine s (IsNull s (tree s t)) e (fit at y t e)
  null_fit-fine at t p y k e c h i to z a =
      subst (λ o. Fine s (IsNull s (tree s t)) e (fitted no_user at y (bare e.types t) o e)) (sym (null_steps e y (bare e.types t) p k to z a)) (by y.is_lvalue)
    where
      value : ℕ → Value
      value a = record { at = a; node = node.Convert a (bare e.types t) (node.Number a (pos 0)); type = bare e.types t; is_lvalue = false; number = None; is_fixed = true }

      there : (a : ℕ) → When s e (IsNull s (tree s t) (value a) e)
      there a w =
          let inside = early-inside s.tables scene.table e.types w.types t (i w) in
          let at_to : IsType (ty.Ptr p) (bare e.types t) e = record { inside = inside; here = here e.types (bare e.types t) inside ∙ ap Some to } in
          let same = early-bare s.tables scene.table e.types w.types t (i w) in
          let made = null_made e w (bare e.types t) inside (record { pointee = tree s p; same = ap without_const (type-tree s scene e (ty.Ptr p) (bare e.types t) w at_to) }) a in record {
            plain = record { fits = made.plain.fits; no_place = made.plain.no_place; same = made.plain.same ∙ sym same };
            null = made.null;
          }

      by : (l : Bool) → Fine s (IsNull s (tree s t)) e (fitted no_user at y (bare e.types t) (Some (maybe_read l ++ Null ∷ [])) e)
      by true = made-fine s (IsNull s (tree s t)) e (value (read_value e.types y).at) c h (there (read_value e.types y).at)
      by false = made-fine s (IsNull s (tree s t)) e (value y.at) c h (there y.at)

  -- ---- compared with 0

  -- a pointer, or nothing that an end leads to
  abbrev pub PointsOrNever : Env → ℕ → Type 0
  PointsOrNever e t = Points e t ⊎ (Within e s → ⊥)

  quiet_pointer : (e : Env) (t p : ℕ) → type_at e.types (bare e.types t) ≡ ty.Ptr p → decays (type_at e.types (bare e.types t)) ≡ false
  quiet_pointer e t p at = ap decays at

  pointer_tree : (e : Env) (w : Within e s) (t p : ℕ) → Inside e t → type_at e.types (bare e.types t) ≡ ty.Ptr p → Same (tree s t) (pointer (tree s p))
  pointer_tree e w t p i at = early-form s.tables scene.table e.types w.types t i (ty.Ptr p) at

  no_ref_sort : (e : Env) (t p : ℕ) → type_at e.types (bare e.types t) ≡ ty.Ptr p → is_reference (sort_of e.types t) ≡ false
  no_ref_sort e t p at = ap (λ v. is_reference (ty_sort e.types v)) at ∙ no_reference_sort p (type_at e.types (bare e.types p))

  no_ref_later : (e e1 : Env) (t : ℕ) → Steps e e1 → When s e (Inside e t) → is_reference (sort_of e.types t) ≡ false → When s e1 (is_reference (sort_of e1.types t) ≡ false)
  no_ref_later e e1 t g i no_ref w =
      let early = within-before e e1 s g w in
      ap is_reference (sym (early-sort s.tables scene.table e1.types w.types t (inside-later e e1 t g (i early))) ∙ early-sort s.tables scene.table e.types early.types t (i early)) ∙ no_ref

  -- what isn't an integer is no known 0
  zero_never : (v : Value) (e : Env) (w : Within e s) → IsPlain s (tree s v.type) v e → PointsOrNever e v.type → is_zero v.number ≡ true → ⊥
  zero_never v e w p (inr never) z = never w
  zero_never v e w p (inl pt) z = by v.number (plain-number s (tree s v.type) v e p) z
    where
      by : (z : Option ℤ) → HoldsKnown z (tree s v.type) → is_zero z ≡ true → ⊥
      by None h z = true≢false (sym z)
      by (Some n) h z = true≢false (sym (number-integral n (tree s v.type) h) ∙ ap is_integral (pointer_tree e w v.type pt.0 p.fits.inside pt.1))

  module _ (at : ℕ) (op : PointerOperator) (x y : Value) (e : Env) (eq : is_equality op ≡ true) (c : Classless e) (h : When s e (Holds s e)) (px : When s e (IsPlain s (tree s x.type) x e)) (py : When s e (IsPlain s (tree s y.type) y e)) where
    never-fine : (t : ℕ) → (Within e s → ⊥) → Fine s (IsOperand s) e (row.with_other at (Some op) x y t e)
    never-fine t never =
        with_other-by s scene at op x y t e (IsPlain s (tree s t)) (IsPlain s (tree s t)) (fit-fine s scene e x c h (λ w. (px w).fits) at t (λ w. absurd (never w)) (λ w. absurd (never w)))
        (λ a e1 g c1 h1. fit-fine s scene e1 y c1 h1 (λ w. absurd (never (within-before e e1 s g w))) at t (λ w. absurd (never (within-before e e1 s g w))) (λ w. absurd (never (within-before e e1 s g w))))
        (λ a b e1 e2 g1 g2 w pa pb. absurd (never (within-before e e1 s g1 (within-before e1 e2 s g2 w))))

    -- the second is 0
    right-fine : (k : Kind) (p : ℕ) → type_at e.types (bare e.types x.type) ≡ ty.Ptr p → is_zero y.number ≡ true → arithmetic (sort_of e.types y.type) ≡ Some k → Fine s (IsOperand s) e (row.with_other at (Some op) x y x.type e)
    right-fine k p to z a =
        by (fit at x x.type e) (fit_still e c x (quiet_pointer e x.type p to) at x.type p to) (fit-fine s scene e x c h (λ w. (px w).fits) at x.type (λ w. (px w).fits.inside) (λ w. no_ref_sort e x.type p to))
      where
        joined : (m n : Value) (e2 : Env) (g : Steps e e2) → Within e2 s → IsPlain s (tree s x.type) m e → IsNull s (tree s x.type) n e2 → Compared s op m n
        joined m n e2 g w pm pn =
            let early = within-before e e2 s g w in
            let same = pointer_tree e early x.type p (px early).fits.inside to in
            let first = value-same (typed s m.node) (tree s x.type) (pointer (tree s p)) same (plain-value s (tree s x.type) m e pm) in
            let second = value-same (typed s n.node) (tree s x.type) (pointer (tree s p)) same (plain-value s (tree s x.type) n e2 pn.plain) in record {
              first = pm.fits.numbers;
              second = pn.plain.fits.numbers;
              value = equality-is op (typed s m.node) (typed s n.node) eq (null-equal (typed s m.node) (typed s n.node) (tree s p) (value-points (typed s m.node) (tree s p) first) second pn.null);
            }

        by : (r : Answer Value) → Still e r → Fine s (IsPlain s (tree s x.type)) e r → Fine s (IsOperand s) e (onward r (λ m e1. onward (fit at y x.type e1) (λ n. row.of_pointers at op (m, n))))
        by (Made m b) still f =
            subst (λ b. Fine s (IsPlain s (tree s x.type)) e (Made m b) → Fine s (IsOperand s) e (onward (fit at y x.type b) (λ n. row.of_pointers at op (m, n)))) (sym still)
            (λ f. onward-fine s (IsNull s (tree s x.type)) (IsOperand s) e (fit at y x.type e) (λ n. row.of_pointers at op (m, n)) (null_fit-fine at x.type p y k e c h (λ w. (px w).fits.inside) to z a)
            (λ n e2 g c2 h2 pn. of_pointers-fine s scene at op (m, n) e2 c2 h2 (λ w. joined m n e2 g w (f.made (within-before e e2 s g w)) (pn w)))) f
        by (Refused rule place) still f = tt
        by (Passed bound most) still f = tt

    -- the first is 0
    left-fine : (k : Kind) (p : ℕ) → type_at e.types (bare e.types y.type) ≡ ty.Ptr p → is_zero x.number ≡ true → arithmetic (sort_of e.types x.type) ≡ Some k → Fine s (IsOperand s) e (row.with_other at (Some op) x y y.type e)
    left-fine k p to z a =
        with_other-by s scene at op x y y.type e (IsNull s (tree s y.type)) (IsPlain s (tree s y.type)) (null_fit-fine at y.type p x k e c h (λ w. (py w).fits.inside) to z a)
        (λ m e1 g c1 h1. fit-fine s scene e1 y c1 h1 (fits-when s e e1 y g (λ w. (py w).fits)) at y.type (λ w. inside-later e e1 y.type g (py (within-before e e1 s g w)).fits.inside)
        (no_ref_later e e1 y.type g (λ w. (py w).fits.inside) (no_ref_sort e y.type p to)))
        (λ m n e1 e2 g1 g2 w pm pn. let early = within-before e e1 s g1 (within-before e1 e2 s g2 w) in
        let same = pointer_tree e early y.type p (py early).fits.inside to in
        let first = value-same (typed s m.node) (tree s y.type) (pointer (tree s p)) same (plain-value s (tree s y.type) m e1 pm.plain) in
        let second = value-same (typed s n.node) (tree s y.type) (pointer (tree s p)) same (plain-value s (tree s y.type) n e2 pn) in record {
          first = pm.plain.fits.numbers;
          second = pn.fits.numbers;
          value = equality-is op (typed s m.node) (typed s n.node) eq (null-equal-left (typed s m.node) (typed s n.node) (tree s p) (value-points (typed s m.node) (tree s p) first) second pm.null);
        })

  module _ (at : ℕ) (op : BinaryOp) (x y : Value) (e : Env) (c : Classless e) (h : When s e (Holds s e)) (px : When s e (IsPlain s (tree s x.type) x e)) (py : When s e (IsPlain s (tree s y.type) y e)) where
    by_right : (o : Option PointerOperator) → ((q : PointerOperator) → o ≡ Some q → is_equality q ≡ true) → (k : Kind) → PointsOrNever e x.type → is_zero y.number ≡ true → arithmetic (sort_of e.types y.type) ≡ Some k
        → Fine s (IsOperand s) e (row.with_other at o x y x.type e)
    by_right None eq k pt z a = tt
    by_right (Some q) eq k (inl pt) z a = right-fine at q x y e (eq q refl) c h px py k pt.0 pt.1 z a
    by_right (Some q) eq k (inr never) z a = never-fine at q x y e (eq q refl) c h px py x.type never

    by_left : (o : Option PointerOperator) → ((q : PointerOperator) → o ≡ Some q → is_equality q ≡ true) → (k : Kind) → PointsOrNever e y.type → is_zero x.number ≡ true → arithmetic (sort_of e.types x.type) ≡ Some k
        → Fine s (IsOperand s) e (row.with_other at o x y y.type e)
    by_left None eq k pt z a = tt
    by_left (Some q) eq k (inl pt) z a = left-fine at q x y e (eq q refl) c h px py k pt.0 pt.1 z a
    by_left (Some q) eq k (inr never) z a = never-fine at q x y e (eq q refl) c h px py y.type never

    by_never : (o : Option PointerOperator) → ((q : PointerOperator) → o ≡ Some q → is_equality q ≡ true) → (t : ℕ) → (Within e s → ⊥) → Fine s (IsOperand s) e (row.with_other at o x y t e)
    by_never None eq t never = tt
    by_never (Some q) eq t never = never-fine at q x y e (eq q refl) c h px py t never

    abbrev with_null : Bool → Bool → Elab Value
    with_null b d = if b then row.with_other at (row.equality op) x y x.type else (if d then row.with_other at (row.equality op) x y y.type else (λ f. Refused 18 at))

    -- the second operand is an integer
    pub with_null-right : (k : Kind) → PointsOrNever e x.type → arithmetic (sort_of e.types y.type) ≡ Some k → Fine s (IsOperand s) e (row.with_null at op x y e)
    with_null-right k pt a = by (is_zero y.number) refl (is_zero x.number) refl
      where
        by : (b : Bool) → is_zero y.number ≡ b → (d : Bool) → is_zero x.number ≡ d → Fine s (IsOperand s) e (with_null b d e)
        by true z d q = by_right (row.equality op) (equality_op op) k pt z a
        by false z true q = by_never (row.equality op) (equality_op op) y.type (λ w. zero_never x e w (px w) pt q)
        by false z false q = tt

    -- the first is
    pub with_null-left : (k : Kind) → PointsOrNever e y.type → arithmetic (sort_of e.types x.type) ≡ Some k → Fine s (IsOperand s) e (row.with_null at op x y e)
    with_null-left k pt a = by (is_zero y.number) refl (is_zero x.number) refl
      where
        by : (b : Bool) → is_zero y.number ≡ b → (d : Bool) → is_zero x.number ≡ d → Fine s (IsOperand s) e (with_null b d e)
        by true z d q = by_never (row.equality op) (equality_op op) x.type (λ w. zero_never y e w (py w) pt z)
        by false z true q = by_left (row.equality op) (equality_op op) k pt q a
        by false z false q = tt
