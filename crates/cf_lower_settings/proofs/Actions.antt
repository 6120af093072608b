-- What actions of an initialiser give in the source is what is known of them beforehand.
use Rattle.std.proofs.Common.{◌≡◌, ℕ, zero, suc, ◌<◌, Bool, true, false, ◌&&◌, ◌||◌, not, [], ℤ, pos, negsuc, Option, Some, None, Result, Ok, Err, refl, ap, sym, subst, ◌∙◌, ◌⊎◌, inl, inr, arith}
use Rattle.std.specs.Prelude.{is_some}
use Rattle.std.proofs.lemmas.Bool.{true≢false, or_cases}
use Rattle.cf_base.proofs.Tests.{both}
use Rattle.cf_base.specs.declared.kind.Kind.{Kind}
use Rattle.cf_base.specs.declared.arith.Arith.{Arith}
use Rattle.cf_base.specs.declared.arith.Arith.TheVariants as op
use Rattle.cf_base.specs.Integers.{fits, int_op, convert as converted}
use Rattle.cf_base.specs.World.{World, Ran, Went, Stops}
use Rattle.cf_base.specs.Event.{Undefined}
use Rattle.cf_types.specs.Operators.{is_shift}
use Rattle.cf_core.specs.declared.operators.UnaryOperator.{UnaryOperator}
use Rattle.cf_core.specs.declared.operators.UnaryOperator.TheVariants as sign
use Rattle.cf_core.specs.Types.{Name, SourceType, integer, enumeration, pointer, const, type_eq, without_const, same_but_const}
use Rattle.cf_core.specs.Core.{Function}
use Rattle.cf_core.specs.Places.{is_reference}
use Rattle.cf_core.specs.Store as source
use Rattle.cf_core.specs.Run.{State, Did, Malformed, Act, ◌>>=◌, ◌>>◌, gives, done, malformed, need, some_or, ok_or_act, when}
use Rattle.cf_core.specs.Access.{read_place, bound_to, followed}
use Rattle.cf_core.specs.Pointers.{truth_value}
use Rattle.cf_core.specs.Scalars.{truth_of, converted_value, operated, signed}
use Rattle.cf_core.specs.Calls as core
use Rattle.cf_core.specs.Calls.{Program, root, is_library, function_named, has_type, name_function}
use Rattle.cf_core.specs.Objects.{static_number, static_type}
use Rattle.cf_lower_layout.specs.Layout.{LaidOut}
use Rattle.cf_lower_layout.specs.Sorts.{Sort, sort_to, sort_of}
use Rattle.cf_lower_layout.proofs.Types.{same-type, same-without_const}
use Rattle.cf_plain.specs.Plain as plain
use Rattle.cf_plain.specs.Plain.{Register, Action}
use Rattle.cf_plain.specs.Acts.{Registers, held, used_in, acts}
use Rattle.cf_plain.specs.Joined.{renamed_action}
use Rattle.cf_lower.specs.Constants as constants
use Rattle.cf_lower.specs.Constants.{Known, unknown, a_number, null, at, a_function, computed, holds_truth, truth_known, inverted, converted_known, known_by}
use Rattle.cf_lower_place.specs.Named.{library_type, may_be_named}
use Rattle.cf_lower_steps.specs.Lowering.{is_function}
use Rattle.cf_lower_steps.proofs.Conversions.{pointer-sort}
use Rattle.cf_lower_steps.proofs.Tests.{test-valid, test-used}
use Rattle.cc_whole_mean.specs.Scope.{Scope}
use Rattle.cf_lower_relate.specs.Map.{Map}
use Rattle.cf_lower_program.specs.Alike.{Fact, no_fact, left, of_type, fact_by, has_number, converts, action_alike}
use Rattle.cf_lower_program.specs.Starts.{is_known}
use Rattle.cf_lower_settings.specs.Named.{NameGoes}
use Rattle.cf_lower_settings.specs.Set.{NamesStand}
use Rattle.cf_lower_settings.proofs.Runs.{test-held}
use Rattle.cf_lower_settings.proofs.Places.{reference-without}
use Rattle.cf_lower_settings.proofs.Known.{KnownAs, Knows}
use Rattle.cf_lower_settings.proofs.Pointing.{Q, wrong, ends, here, indexed-known, pointer-known, decayed-known, pointed-known, as-pointer, from-void-known}

-- the test of a number of a register
pub is-number : (x : Known) → has_number x ≡ true → (R : Type 0) → ((z : ℤ) → x ≡ a_number z → R) → R
is-number (a_number z) e R h = h z refl
is-number unknown e R h = absurd (true≢false (sym e))
is-number null e R h = absurd (true≢false (sym e))
is-number (at n o t) e R h = absurd (true≢false (sym e))
is-number (a_function name) e R h = absurd (true≢false (sym e))

no-not : (b : Bool) → not b ≡ true → b ≡ false
no-not true e = absurd (cc)
no-not false e = refl

or-left : (a b : Bool) → a ≡ true → (a || b) ≡ true
or-left a b e = ap (λ c. c || b) e

or-right : (a b : Bool) → b ≡ true → (a || b) ≡ true
or-right true b e = refl
or-right false b e = e

-- a name of the library's has its type
library-typed : (n : Name) (t : SourceType) → is_library n ≡ true → may_be_named n t ≡ true → without_const (library_type n) ≡ without_const t
library-typed n t lib e = go (or_cases (not (is_library n)) (type_eq (without_const (library_type n)) (without_const t)) e)
  where
    go : (not (is_library n) ≡ true) ⊎ (type_eq (without_const (library_type n)) (without_const t) ≡ true) → without_const (library_type n) ≡ without_const t
    go (inl k) = absurd (true≢false (sym lib ∙ no-not (is_library n) k))
    go (inr k) = same-type (without_const (library_type n)) (without_const t) k

-- two things known
abbrev pair : Known → Known → Register → Known
pair x y zero = x
pair x y (suc i) = y

module _ (P : Program) (function : Name → ℕ) (signature : Name → SourceType) (F : Map) (names : Scope) (N : NamesStand P function signature F names) (q r : Name → Name)
    (again : core.Again) (regs : Registers) (g : Register → Known) (h : Register → Fact) (known : Knows P function signature F names q r g h regs) (s : State) (w : World)
    (typed : (o : ℕ) → o < F.count → (s.object o).type ≡ F.type o) (laid : (o : ℕ) → o < F.count → LaidOut P.classes (F.type o)) where
  abbrev Is : Known → Fact → source.Value → Type 0
  Is = KnownAs P function signature F names q r

  abbrev G : (source.Value → Type 0) → Ran (Did source.Value) → Type 0
  G = Q P N.none function signature F names q r s w typed laid

  abbrev bad : (R : source.Value → Type 0) → G R (Went Malformed w)
  bad = wrong P N.none function signature F names q r s w typed laid

  abbrev stop : (R : source.Value → Type 0) (n : ℕ) → G R (Stops (Undefined n) w.trace)
  stop = ends P N.none function signature F names q r s w typed laid

  abbrev given : (R : source.Value → Type 0) (v : source.Value) → R v → G R (gives v s w)
  given = here P N.none function signature F names q r s w typed laid

  -- ---- operands

  held-known : (R : source.Value → Type 0) (i : Register) (go : source.Value → Act source.Value) → ((v : source.Value) → Is (g i) (h i) v → G R (go v s w))
      → G R ((held regs i >>= go) s w)
  held-known R i go next = test-held (G R) s w (bad R) regs i go (λ v e. next v (known i v e))

  used-known : (R : source.Value → Type 0) (i : Register) (go : source.Value → Act source.Value) → ((v : source.Value) → Is (g i) (h i) v → G R (go v s w))
      → G R ((used_in regs i >>= go) s w)
  used-known R i go next = test-used (G R) s w (bad R) (stop R) regs i go (λ v e us. next v (known i v e))

  truth-known : (R : source.Value → Type 0) (i : Register) (next : Bool → Act source.Value) → ((v : source.Value) → Is (g i) (h i) v → G R ((truth_of v >>= next) s w))
      → G R ((held regs i >>= truth_of >>= next) s w)
  truth-known R i next go = by (regs i) refl
    where
      by : (o : Option source.Value) → regs i ≡ o → G R ((some_or o malformed >>= truth_of >>= next) s w)
      by None e = bad R
      by (Some v) e = go v (known i v e)

  -- ---- numbers

  conversion-known : (t : SourceType) (x : Known) (f : Fact) (v : source.Value) → converts t x ≡ true → Is x f v
      → G (Is (converted_known [] (sort_of t) x) f) (converted_value t v s w)
  conversion-known (integer k) x f v e is =
      is-number x e (G (Is (converted_known [] (sort_of (integer k)) x) f) (converted_value (integer k) v s w)) (λ z same.
      let at-number : Is (a_number z) f v = subst (λ x. Is x f v) same is in
      subst (λ x. G (Is (converted_known [] (sort_of (integer k)) x) f) (converted_value (integer k) v s w)) (sym same)
      (subst (λ v. G (Is (a_number (converted k z)) f) (converted_value (integer k) v s w)) (sym at-number)
      (given (Is (a_number (converted k z)) f) (source.Number (converted k z)) refl)))
  conversion-known (enumeration n) x f v e is =
      is-number x e (G (Is (converted_known [] (sort_of (enumeration n)) x) f) (converted_value (enumeration n) v s w)) (λ z same.
      let at-number : Is (a_number z) f v = subst (λ x. Is x f v) same is in
      subst (λ x. G (Is (converted_known [] (sort_of (enumeration n)) x) f) (converted_value (enumeration n) v s w)) (sym same)
      (subst (λ v. G (Is (converted_known [] (sort_of (enumeration n)) (a_number z)) f) (converted_value (enumeration n) v s w)) (sym at-number)
      (given (Is (converted_known [] (sort_of (enumeration n)) (a_number z)) f) _ refl)))
  conversion-known (pointer t) x f v e is =
      as-pointer P N.none function signature F names q r s w typed laid (sort_to (without_const t)) (λ k same. pointer-sort (without_const t) k (ap (λ (a : Sort). Some a) same)) x f v e is
  conversion-known (const t) x f v e is = conversion-known t x f v e is
  conversion-known t x f v e is = absurd (true≢false (sym e))

  computed-known : (x : Result ℤ ℕ) → G (Is (computed x) no_fact) ((ok_or_act x >>= (λ z. gives (source.Number z))) s w)
  computed-known (Ok z) = given (Is (a_number z) no_fact) (source.Number z) refl
  computed-known (Err n) = record { by = refl }

  operated-known : (f : Name) (o : Arith) (k : Kind) (x y : Known) (a b : ℤ) → x ≡ a_number a → y ≡ a_number b
      → G (Is (known_by [] f (pair x y) (plain.operate o k 0 1)) no_fact) (operated o k (source.Number a) (source.Number b) s w)
  operated-known f o k x y a b ex ey =
      subst (λ x. G (Is (known_by [] f (pair x y) (plain.operate o k 0 1)) no_fact) (operated o k (source.Number a) (source.Number b) s w)) (sym ex)
      (subst (λ y. G (Is (known_by [] f (pair (a_number a) y) (plain.operate o k 0 1)) no_fact) (operated o k (source.Number a) (source.Number b) s w)) (sym ey)
      (test-valid (G (Is (computed (int_op o k a b)) no_fact)) s w (bad _) (stop _) (fits k a && (is_shift o || fits k b))
      (ok_or_act (int_op o k a b) >>= (λ z. gives (source.Number z))) (λ e. computed-known (int_op o k a b))))

  signed-known : (f : Name) (o : UnaryOperator) (k : Kind) (x : Known) (a : ℤ) → x ≡ a_number a
      → G (Is (known_by [] f (pair x x) (plain.unary o k 0)) no_fact) (signed o k (source.Number a) s w)
  signed-known f sign.Negate k x a ex =
      subst (λ x. G (Is (known_by [] f (pair x x) (plain.unary sign.Negate k 0)) no_fact) (signed sign.Negate k (source.Number a) s w)) (sym ex)
      (test-valid (G (Is (computed (int_op op.Subtract k (pos 0) a)) no_fact)) s w (bad _) (stop _) (fits k (pos 0) && (is_shift op.Subtract || fits k a))
      (ok_or_act (int_op op.Subtract k (pos 0) a) >>= (λ z. gives (source.Number z))) (λ e. computed-known (int_op op.Subtract k (pos 0) a)))
  signed-known f sign.Complement k x a ex =
      subst (λ x. G (Is (known_by [] f (pair x x) (plain.unary sign.Complement k 0)) no_fact) (signed sign.Complement k (source.Number a) s w)) (sym ex)
      (test-valid (G (Is (computed (int_op op.Xor k a (converted k (negsuc 0)))) no_fact)) s w (bad _) (stop _)
      (fits k a && (is_shift op.Xor || fits k (converted k (negsuc 0))))
      (ok_or_act (int_op op.Xor k a (converted k (negsuc 0))) >>= (λ z. gives (source.Number z))) (λ e. computed-known (int_op op.Xor k a (converted k (negsuc 0)))))

  -- ---- truth

  truth-of : (x : Known) (f : Fact) (v : source.Value) → is_known x ≡ true → Is x f v
      → G (Is (truth_known (holds_truth x)) no_fact) ((truth_of v >>= (λ b. gives (truth_value b))) s w)
  truth-of (a_number (pos zero)) f v e is = subst (λ v. G (Is (a_number (pos 0)) no_fact) ((truth_of v >>= (λ b. gives (truth_value b))) s w)) (sym is) (given _ _ refl)
  truth-of (a_number (pos (suc n))) f v e is = subst (λ v. G (Is (a_number (pos 1)) no_fact) ((truth_of v >>= (λ b. gives (truth_value b))) s w)) (sym is) (given _ _ refl)
  truth-of (a_number (negsuc n)) f v e is = subst (λ v. G (Is (a_number (pos 1)) no_fact) ((truth_of v >>= (λ b. gives (truth_value b))) s w)) (sym is) (given _ _ refl)
  truth-of null f v e is = subst (λ v. G (Is (a_number (pos 0)) no_fact) ((truth_of v >>= (λ b. gives (truth_value b))) s w)) (sym is) (given _ _ refl)
  truth-of (at n o t) f v e is = subst (λ v. G (Is (a_number (pos 1)) no_fact) ((truth_of v >>= (λ b. gives (truth_value b))) s w)) (sym is.is) (given _ _ refl)
  truth-of (a_function n) f v e is = subst (λ v. G (Is (a_number (pos 1)) no_fact) ((truth_of v >>= (λ b. gives (truth_value b))) s w)) (sym is.is) (given _ _ refl)
  truth-of unknown f v e is = absurd (true≢false (sym e))

  not-of : (x : Known) (f : Fact) (v : source.Value) → is_known x ≡ true → Is x f v
      → G (Is (truth_known (inverted (holds_truth x))) no_fact) ((truth_of v >>= (λ b. gives (truth_value (not b)))) s w)
  not-of (a_number (pos zero)) f v e is = subst (λ v. G (Is (a_number (pos 1)) no_fact) ((truth_of v >>= (λ b. gives (truth_value (not b)))) s w)) (sym is) (given _ _ refl)
  not-of (a_number (pos (suc n))) f v e is = subst (λ v. G (Is (a_number (pos 0)) no_fact) ((truth_of v >>= (λ b. gives (truth_value (not b)))) s w)) (sym is) (given _ _ refl)
  not-of (a_number (negsuc n)) f v e is = subst (λ v. G (Is (a_number (pos 0)) no_fact) ((truth_of v >>= (λ b. gives (truth_value (not b)))) s w)) (sym is) (given _ _ refl)
  not-of null f v e is = subst (λ v. G (Is (a_number (pos 1)) no_fact) ((truth_of v >>= (λ b. gives (truth_value (not b)))) s w)) (sym is) (given _ _ refl)
  not-of (at n o t) f v e is = subst (λ v. G (Is (a_number (pos 0)) no_fact) ((truth_of v >>= (λ b. gives (truth_value (not b)))) s w)) (sym is.is) (given _ _ refl)
  not-of (a_function n) f v e is = subst (λ v. G (Is (a_number (pos 0)) no_fact) ((truth_of v >>= (λ b. gives (truth_value (not b)))) s w)) (sym is.is) (given _ _ refl)
  not-of unknown f v e is = absurd (true≢false (sym e))

  -- ---- a static object by its name

  static-known : (n : Name) (t : SourceType) → r n ≡ q n → not (is_reference t) ≡ true → G (Is (at n 0 t) (left 1)) (acts again P regs (plain.static_object (q n) t) s w)
  static-known n t goes e = by-number (static_number P (q n)) refl
    where
      R : source.Value → Type 0
      R = Is (at n 0 t) (left 1)

      no-follow : (o : ℕ) → static_number P (q n) ≡ Some o → same_but_const (static_type P (q n)) t ≡ true → is_reference (s.object o).type ≡ false
      no-follow o is same =
          let x = N.statics (q n) o is in
          ap is_reference (typed o x.known ∙ x.type)
          ∙ sym (reference-without (static_type P (q n))) ∙ ap is_reference (same-without_const (static_type P (q n)) t same) ∙ reference-without t
          ∙ no-not (is_reference t) e

      by-type : (o : ℕ) → static_number P (q n) ≡ Some o → (b : Bool) → same_but_const (static_type P (q n)) t ≡ b
          → G R ((need b 9 >> (some_or (Some o) malformed >>= (λ o. gives (root o))) >>= followed P.classes) s w)
      by-type o is false k = record { by = refl }
      by-type o is true k =
          let x = N.statics (q n) o is in
          subst (λ b. G R ((when b (read_place P.classes (root o) >>= bound_to) (gives (source.At (root o)))) s w)) (sym (no-follow o is k))
          (given R (source.At (root o)) (record {
            place = root o;
            is = refl;
            shape = x.shape;
            named = ap names goes ∙ x.named;
            known = x.known;
            shown = x.shown;
            base = x.base;
            points = refl;
            offset = refl;
            type = inr (ap without_const x.type ∙ same-without_const (static_type P (q n)) t k);
            left = omega arith;
          }))

      by-number : (x : Option ℕ) → static_number P (q n) ≡ x
          → G R
          ((((some_or x malformed >>= (λ o. gives (root o))) >> need (same_but_const (static_type P (q n)) t) 9)
          >> (some_or x malformed >>= (λ o. gives (root o))) >>= followed P.classes) s w)
      by-number None is = record { by = tt }
      by-number (Some o) is = by-type o is (same_but_const (static_type P (q n)) t) refl

  -- ---- a function by its name

  function-known : (n : Name) (t : SourceType) → NameGoes q r (λ j b. ⊥) (plain.function n t) → may_be_named n t ≡ true
      → G (Is (a_function n) (of_type t)) (acts again P regs (plain.function (q n) t) s w)
  function-known n t goes e = by-library (is_library (q n)) refl
    where
      R : source.Value → Type 0
      R = Is (a_function n) (of_type t)

      same-fact : {t u : SourceType} → of_type t ≡ of_type u → t ≡ u
      same-fact e = cc

      there : is_function P (q n) ≡ true → without_const (signature (q n)) ≡ without_const t → R (source.Code (q n))
      there known same = record {
        is = refl;
        named = ap names goes.0 ∙ N.functions (q n) known;
        known = known;
        type = λ u f. same ∙ ap without_const (same-fact f);
      }

      by-type : (f : Function) → function_named P (q n) ≡ Some f → (b : Bool) → same_but_const f.type t ≡ b → G R ((need b 9 >> gives (source.Code (q n))) s w)
      by-type f found false k = record { by = refl }
      by-type f found true k =
          given R (source.Code (q n))
          (there (or-right (is_library (q n)) (is_some (function_named P (q n))) (ap is_some found))
          (ap without_const (N.typed (q n) f found) ∙ same-without_const f.type t k))

      by-found : (x : Option Function) → function_named P (q n) ≡ x → G R ((has_type x t >> gives (source.Code (q n))) s w)
      by-found None is = record { by = tt }
      by-found (Some f) is = by-type f is (same_but_const f.type t) refl

      by-library : (b : Bool) → is_library (q n) ≡ b → G R ((when b done (has_type (function_named P (q n)) t) >> gives (source.Code (q n))) s w)
      by-library true lib =
          let same : q n ≡ n = goes.1 lib in
          given R (source.Code (q n))
          (there (or-left (is_library (q n)) (is_some (function_named P (q n))) lib)
          (ap without_const (N.library (q n) lib ∙ ap library_type same) ∙ library-typed n t (ap is_library (sym same) ∙ lib) e))
      by-library false lib = by-found (function_named P (q n)) refl

  -- ---- all

  pub action-known : (f : Name) (a : Action) → NameGoes q r (λ j b. ⊥) a → action_alike g a ≡ true → G (Is (known_by [] f g a) (fact_by g h a)) (acts again P regs (renamed_action q a) s w)
  action-known f (plain.number z) goes e = given (Is (a_number z) no_fact) (source.Number z) refl
  action-known f (plain.static_object n t) goes e = static-known n t goes e
  action-known f (plain.text j b) goes e = absurd goes
  action-known f (plain.function n t) goes e = function-known n t goes e
  action-known f (plain.dereference i) goes e =
      used-known (Is (g i) (h i)) i _ (λ v is. pointed-known P N.none function signature F names q r s w typed laid (Is (g i) (h i)) v is)
  action-known f (plain.decay i) goes e =
      used-known (Is (constants.decayed (g i)) _) i _ (λ v is. decayed-known P N.none function signature F names q r s w typed laid (g i) (h i) v e is)
  action-known f (plain.index i j) goes e =
      used-known (Is (constants.sum [] (g i) (g j)) _) i _ (λ v is.
      used-known (Is (constants.sum [] (g i) (g j)) _) j _ (λ u iu.
      indexed-known P N.none function signature F names q r s w typed laid (g i) (g j) (h i) (h j) v u e is iu))
  action-known f (plain.convert t i) goes e =
      held-known (Is (converted_known [] (sort_of t) (g i)) (h i)) i (converted_value t) (λ v is. conversion-known t (g i) (h i) v e is)
  action-known f (plain.from_void t i) goes e =
      used-known (Is _ (h i)) i _ (λ v is. from-void-known P N.none function signature F names q r s w typed laid t (g i) (h i) v e is)
  action-known f (plain.operate o k i j) goes e =
      let two = both (has_number (g i)) (has_number (g j)) e in
      is-number (g i) two.0 (G (Is (known_by [] f (pair (g i) (g j)) (plain.operate o k 0 1)) no_fact) (acts again P regs (plain.operate o k i j) s w))
      (λ a ra. is-number (g j) two.1 (G (Is (known_by [] f (pair (g i) (g j)) (plain.operate o k 0 1)) no_fact) (acts again P regs (plain.operate o k i j) s w))
      (λ b rb.
      let R : source.Value → Type 0 = Is (known_by [] f (pair (g i) (g j)) (plain.operate o k 0 1)) no_fact in
      used-known R i (λ x. used_in regs j >>= (λ y. operated o k x y)) (λ v is.
      let one : v ≡ source.Number a = subst (λ x. Is x (h i) v) ra is in
      subst (λ v. G R ((used_in regs j >>= (λ y. operated o k v y)) s w)) (sym one)
      (used-known R j (λ y. operated o k (source.Number a) y) (λ u iu.
      let other : u ≡ source.Number b = subst (λ x. Is x (h j) u) rb iu in
      subst (λ u. G R (operated o k (source.Number a) u s w)) (sym other) (operated-known f o k (g i) (g j) a b ra rb))))))
  action-known f (plain.unary sign.Negate k i) goes e =
      is-number (g i) e (G (Is (known_by [] f (pair (g i) (g i)) (plain.unary sign.Negate k 0)) no_fact) (acts again P regs (plain.unary sign.Negate k i) s w))
      (λ a ra.
      let R : source.Value → Type 0 = Is (known_by [] f (pair (g i) (g i)) (plain.unary sign.Negate k 0)) no_fact in
      used-known R i (λ x. signed sign.Negate k x) (λ v is.
      let one : v ≡ source.Number a = subst (λ x. Is x (h i) v) ra is in
      subst (λ v. G R (signed sign.Negate k v s w)) (sym one) (signed-known f sign.Negate k (g i) a ra)))
  action-known f (plain.unary sign.Complement k i) goes e =
      is-number (g i) e (G (Is (known_by [] f (pair (g i) (g i)) (plain.unary sign.Complement k 0)) no_fact) (acts again P regs (plain.unary sign.Complement k i) s w))
      (λ a ra.
      let R : source.Value → Type 0 = Is (known_by [] f (pair (g i) (g i)) (plain.unary sign.Complement k 0)) no_fact in
      used-known R i (λ x. signed sign.Complement k x) (λ v is.
      let one : v ≡ source.Number a = subst (λ x. Is x (h i) v) ra is in
      subst (λ v. G R (signed sign.Complement k v s w)) (sym one) (signed-known f sign.Complement k (g i) a ra)))
  action-known f (plain.truth i) goes e =
      truth-known (Is (truth_known (holds_truth (g i))) no_fact) i (λ b. gives (truth_value b)) (λ v is. truth-of (g i) (h i) v e is)
  action-known f (plain.logical_not i) goes e =
      truth-known (Is (truth_known (inverted (holds_truth (g i)))) no_fact) i (λ b. gives (truth_value (not b))) (λ v is. not-of (g i) (h i) v e is)
  action-known f (plain.pointer_operate o i j) goes e =
      used-known (Is (constants.pointer_known [] o (g i) (g j)) _) i _ (λ v is.
      used-known (Is (constants.pointer_known [] o (g i) (g j)) _) j _ (λ u iu.
      pointer-known P N.none function signature F names q r s w typed laid o (g i) (g j) (h i) (h j) v u e is iu))
  action-known f a goes e = absurd (true≢false (sym e))
