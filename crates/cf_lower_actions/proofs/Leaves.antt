-- The statements that are leaves run alike in both.
use Rattle.std.proofs.Common.{◌≡◌, ℕ, ◌<◌, ◌≤◌, nat_le, nat_lt, Bool, true, false, not, ◌&&◌, ◌||◌, refl, sym, ◌∙◌, ap, subst, arith, ◌⊎◌, inl, inr}
use Rattle.std.specs.Prelude.{◌^◌, List, Option, Some, None, is_some, length}
use Rattle.std.proofs.lemmas.Bool.Decides.{nat_tests}
use Rattle.cf_base.specs.declared.kind.Kind.{Kind}
use Rattle.cf_base.specs.declared.kind.Kind.TheVariants.{Char, SChar, UChar, Short, UShort, Int, UInt, Long, ULong}
use Rattle.cf_base.specs.Promotion.{promoted}
use Rattle.cf_base.specs.World.{World}
use Rattle.cf_base.proofs.Tests.{both, same_bytes}
use Rattle.cf_core.specs.declared.operators.PointerOperator.{PointerOperator}
use Rattle.cf_core.specs.declared.operators.PointerOperator.TheVariants as pointer
use Rattle.cf_core.specs.declared.operators.UnaryOperator.{UnaryOperator}
use Rattle.cf_core.specs.declared.operators.UnaryOperator.TheVariants as sign
use Rattle.cf_core.specs.Types.{Name, SourceType, void, integer, array, is_void, type_eq, without_const}
use Rattle.cf_core.specs.Classes.{Class}
use Rattle.cf_core.specs.Core.{Change, arithmetic, moved}
use Rattle.cf_core.specs.Places.{is_reference, is_scalar}
use Rattle.cf_core.specs.Size.{size}
use Rattle.cf_core.specs.Run.{State}
use Rattle.cf_core.specs.Calls.{is_library}
use Rattle.cf_lower_layout.specs.Layout.{LaidOut, has_bytes, const_once}
use Rattle.cf_lower_layout.specs.Sorts.{Sort, number, address, code, sort_of}
use Rattle.cf_lower_layout.proofs.Types.{same-type}
use Rattle.cf_plain.specs.Plain as plain
use Rattle.cf_plain.specs.Plain.{Register, Action, Plain, act, set, give}
use Rattle.cf_plain.specs.Acts.{Registers}
use Rattle.cc_whole_mean.specs.declared.named.Shape.TheVariants.{Array as array_shape}
use Rattle.cc_whole_mean.specs.Flow as c
use Rattle.cf_lower.specs.Kept.{Kept, integer_of, holds, argument, Keeping, Locals, local_kept, referred, type_of_local, is_argument}
use Rattle.cf_lower_kept.specs.Ready.{is_code}
use Rattle.cf_lower_kept.proofs.Operands.{address-sort}
use Rattle.cf_lower_steps.specs.Lowering.{Takes, is_function}
use Rattle.cf_lower_relate.specs.Map.{hidden, shown}
use Rattle.cf_lower_turns.specs.Around.{Around, depth_of}
use Rattle.cf_lower_turns.specs.Here.{Here}
use Rattle.cf_lower_turns.specs.Texts.{Text}
use Rattle.cf_lower_turns.specs.Scene.{Scene, fixed_in}
use Rattle.cf_lower_leaves.proofs.Leaves.{store-leaf}
use Rattle.cf_lower_actions.specs.Fits.{Fits}
use Rattle.cf_lower_actions.specs.Given.{Given, Silent}
use Rattle.cf_lower_actions.specs.Leaf.{is_integer, is_address, is_pointer, is_tested, is_scalars_place, may_move, may_add, may_subtract, have_order, may_operate, may_convert, may_hold, may_store, may_first, may_zero, are_chars, is_local, may_change, is_laid, const_on_none, is_own, is_object_local, is_reference_local, may_begin, names_function, is_promoted, is_promoted_change, gives_value, gives_nothing, is_text, may_set, may_do, may_give, is_leaf, IsThere, FirstThere, AlikeAt, RunsAlike}
use Rattle.cf_lower_actions.proofs.Begun.{declare-set, declare-done, argument-set, never, unseen, finish-done}
use Rattle.cf_lower_actions.proofs.Cast as cast
use Rattle.cf_lower_actions.proofs.Compared as compared
use Rattle.cf_lower_actions.proofs.Computed as computed
use Rattle.cf_lower_actions.proofs.First.{first-done, argument-done}
use Rattle.cf_lower_actions.proofs.Literals.{text-set, text-done}
use Rattle.cf_lower_actions.proofs.Giving.{give-none, give-void, give-value}
use Rattle.cf_lower_actions.proofs.Moved as moved_by
use Rattle.cf_lower_actions.proofs.Named as named
use Rattle.cf_lower_actions.proofs.References.{reference-given}
use Rattle.cf_lower_actions.proofs.Runs.{given-set, given-dropped, silent-set, silent-dropped}
use Rattle.cf_lower_actions.proofs.Statics.{static-given}
use Rattle.cf_lower_actions.proofs.Bytes.{bytes-done}
use Rattle.cf_lower_actions.proofs.Tested as tested
use Rattle.cf_lower_actions.proofs.Voids.{void-silent}
use Rattle.cf_lower_actions.proofs.Zeros.{zeros-done}

-- ---- tests

true-false : {b : Bool} → b ≡ true → b ≡ false → ⊥
true-false h k = absurd (cc)

no-not : (b : Bool) → not b ≡ true → b ≡ false
no-not true e = absurd (cc)
no-not false e = refl

below : (i n : ℕ) → nat_lt i n ≡ true → i < n
below i n e = grind (arith, nat_tests, e)

at-most : (i n : ℕ) → nat_le i n ≡ true → i ≤ n
at-most i n e = grind (arith, nat_tests, e)

one-of : (a b : Bool) → a || b ≡ true → (a ≡ true) ⊎ (b ≡ true)
one-of true b e = inl refl
one-of false b e = inr e

no-void : (y : SourceType) → not (is_void y) ≡ true → y ≡ void → ⊥
no-void y e k = true-false (ap is_void k) (no-not (is_void y) e)

fits-cast : (u y : SourceType) → type_eq u void || type_eq y u ≡ true → (u ≡ void) ⊎ (y ≡ u)
fits-cast u y e = by_test (one-of (type_eq u void) (type_eq y u) e)
  where
    by_test : (type_eq u void ≡ true) ⊎ (type_eq y u ≡ true) → (u ≡ void) ⊎ (y ≡ u)
    by_test (inl k) = inl (same-type u void k)
    by_test (inr k) = inr (same-type y u k)

promoted-same : (k : Kind) → is_promoted k ≡ true → promoted k ≡ k
promoted-same Int e = refl
promoted-same UInt e = refl
promoted-same Long e = refl
promoted-same ULong e = refl
promoted-same k e = absurd (cc)

-- ---- by what registers hold

integer-cases : {A : Type 0} (x : Kept) → is_integer x ≡ true → ((f : Kind → Bool) → x ≡ integer_of f → A) → A
integer-cases (integer_of f) e go = go f refl
integer-cases x e go = absurd (cc)

address-cases : {A : Type 0} (x : Kept) → is_address x ≡ true → ((y : SourceType) → x ≡ holds (address y) → A) → A
address-cases (holds (address y)) e go = go y refl
address-cases x e go = absurd (cc)

pointer-cases : {A : Type 0} (x : Kept) → is_pointer x ≡ true → ((u : Sort) → x ≡ holds u → A) → A
pointer-cases (holds (address y)) e go = go (address y) refl
pointer-cases (holds (code y)) e go = go (code y) refl
pointer-cases x e go = absurd (cc)

order-cases : {A : Type 0} (x y : Kept) → have_order x y ≡ true → ((t u : SourceType) → x ≡ holds (address t) → y ≡ holds (address u) → A) → A
order-cases (holds (address t)) (holds (address u)) e go = go t u refl refl
order-cases x y e go = absurd (cc)

move-cases : {A : Type 0} (x y : Kept) → may_move x y ≡ true → ((t : SourceType) (f : Kind → Bool) → (t ≡ void → ⊥) → x ≡ holds (address t) → y ≡ integer_of f → A) → A
move-cases (holds (address t)) (integer_of f) e go = go t f (no-void t e) refl refl
move-cases x y e go = absurd (cc)

add-cases : {A : Type 0} (x y : Kept) → may_add x y ≡ true → ((t : SourceType) (f : Kind → Bool) → (t ≡ void → ⊥) → x ≡ holds (address t) → y ≡ integer_of f → A)
    → ((t : SourceType) (f : Kind → Bool) → (t ≡ void → ⊥) → x ≡ integer_of f → y ≡ holds (address t) → A) → A
add-cases (holds (address t)) (integer_of f) e go turned = go t f (no-void t e) refl refl
add-cases (integer_of f) (holds (address t)) e go turned = turned t f (no-void t e) refl refl
add-cases x y e go turned = absurd (cc)

hold-cases : {A : Type 0} (o : Option Sort) (x : Kept) → may_hold o x ≡ true → ((u b : Sort) → o ≡ Some u → local_kept x ≡ Some b → Takes u x → A) → A
hold-cases (Some (number k)) (integer_of f) e go = go (number k) (number Int) refl refl e
hold-cases (Some (address t)) (holds (address u)) e go = go (address t) (address u) refl refl (same-type t u e)
hold-cases (Some (code t)) (holds (code u)) e go = go (code t) (code u) refl refl (same-type t u e)
hold-cases o x e go = absurd (cc)

store-cases : {A : Type 0} (y x : Kept) → may_store y x ≡ true → ((t : SourceType) (u b : Sort) → y ≡ holds (address t) → sort_of t ≡ Some u → local_kept x ≡ Some b → Takes u x → A) → A
store-cases (holds (address t)) x e go = hold-cases (sort_of t) x e (λ u b i l takes. go t u b refl i l takes)
store-cases y x e go = absurd (cc)

-- ---- actions

module _ (z : Scene) (fits : Fits z) (around : Around Keeping) (p : Keeping) where
  read-by : (q : Register) (x : Kept) → p q ≡ x → is_scalars_place x ≡ true → Given z around p (plain.read q)
  read-by q (holds (address y)) kq e = by_sort (sort_of y) refl e
    where
      by_sort : (o : Option Sort) → sort_of y ≡ o → is_some o ≡ true → Given z around p (plain.read q)
      by_sort None i e = absurd (cc)
      by_sort (Some u) i e = computed.read-given z around p q y u kq i
  read-by q x kq e = absurd (cc)

  convert-by : (a : SourceType) (q : Register) (o : Option Sort) → sort_of a ≡ o → (x : Kept) → p q ≡ x → may_convert o x ≡ true → Given z around p (plain.convert a q)
  convert-by a q (Some (number k)) i (integer_of f) kq e = computed.conversion-given z around p q f kq a k i
  convert-by a q (Some (address u)) i (integer_of f) kq e = cast.null-given z around p q f a u kq i
  convert-by a q (Some (code u)) i (integer_of f) kq e = cast.null-code-given z around p q f a u kq i
  convert-by a q (Some (address u)) i (holds (address y)) kq e = cast.cast-given z around p q y a u kq i (fits-cast u y e)
  convert-by a q (Some (code u)) i (holds (code y)) kq e = cast.code-given z around p q a u (kq ∙ ap (λ t. holds (code t)) (same-type y u e)) i
  convert-by a q o i x kq e = absurd (cc)

  decay-by : (q : Register) (x : Kept) → p q ≡ x → is_pointer x ≡ true → Given z around p (plain.decay q)
  decay-by q (holds (address y)) kq e = cast.decay-given z around p q y kq
  decay-by q (holds (code y)) kq e = cast.decay-code-given z around p q y kq
  decay-by q x kq e = absurd (cc)

  truth-by : (q : Register) (x : Kept) → p q ≡ x → is_tested x ≡ true → Given z around p (plain.truth q)
  truth-by q (integer_of f) kq e = tested.truth-number-given z fits around p q f kq
  truth-by q (holds (address y)) kq e = tested.truth-given z fits around p q y kq
  truth-by q (holds (code y)) kq e = tested.truth-code-given z fits around p q y kq
  truth-by q x kq e = absurd (cc)

  not-by : (q : Register) (x : Kept) → p q ≡ x → is_tested x ≡ true → Given z around p (plain.logical_not q)
  not-by q (integer_of f) kq e = tested.not-number-given z fits around p q f kq
  not-by q (holds (address y)) kq e = tested.not-given z fits around p q y kq
  not-by q (holds (code y)) kq e = tested.not-code-given z fits around p q y kq
  not-by q x kq e = absurd (cc)

  difference-by : (q v : Register) (x y : Kept) → p q ≡ x → p v ≡ y → may_subtract x y ≡ true → Given z around p (plain.pointer_operate pointer.Difference q v)
  difference-by q v (holds (address t)) (holds (address u)) kq kv e = compared.difference-given z fits around p q v t u kq kv (no-void t e)
  difference-by q v x y kq kv e = absurd (cc)

  pointers-by : (o : PointerOperator) (q v : Register) → may_operate o (p q) (p v) ≡ true → Given z around p (plain.pointer_operate o q v)
  pointers-by pointer.Add q v e =
      add-cases (p q) (p v) e (λ t f nv kq kv. moved_by.sum-given z fits around p q v t f nv kq kv) (λ t f nv kq kv. moved_by.sum-turned-given z fits around p q v t f nv kq kv)
  pointers-by pointer.Subtract q v e = move-cases (p q) (p v) e (λ t f nv kq kv. moved_by.back-given z fits around p q v t f nv kq kv)
  pointers-by pointer.Difference q v e = difference-by q v (p q) (p v) refl refl e
  pointers-by pointer.Equal q v e = order-cases (p q) (p v) e (λ t u kq kv. compared.equal-given z fits around p q v t u kq kv)
  pointers-by pointer.NotEqual q v e = order-cases (p q) (p v) e (λ t u kq kv. compared.unequal-given z fits around p q v t u kq kv)
  pointers-by pointer.Less q v e = order-cases (p q) (p v) e (λ t u kq kv. compared.less-given z fits around p q v t u kq kv)
  pointers-by pointer.Greater q v e = order-cases (p q) (p v) e (λ t u kq kv. compared.greater-given z fits around p q v t u kq kv)
  pointers-by pointer.LessEqual q v e = order-cases (p q) (p v) e (λ t u kq kv. compared.less-equal-given z fits around p q v t u kq kv)
  pointers-by pointer.GreaterEqual q v e = order-cases (p q) (p v) e (λ t u kq kv. compared.greater-equal-given z fits around p q v t u kq kv)

  unary-by : (o : UnaryOperator) (k : Kind) (q : Register) → promoted k ≡ k → is_integer (p q) ≡ true → Given z around p (plain.unary o k q)
  unary-by sign.Negate k q pk e = integer-cases (p q) e (λ f kq. computed.negate-given z around p q f kq k pk)
  unary-by sign.Complement k q pk e = integer-cases (p q) e (λ f kq. computed.complement-given z around p q f kq k pk)

  changed-by : (change : Change) (q v : Register) → is_promoted_change change ≡ true → may_change change (p q) (p v) ≡ true → Given z around p (plain.changed change q v)
  changed-by (arithmetic o k to) q v pk e =
      let two = both (is_integer (p q)) (is_integer (p v)) e in
      integer-cases (p q) two.0 (λ f kq. integer-cases (p v) two.1 (λ a kv. computed.changed-given z around p q f kq o k to (promoted-same k pk) v a kv))
  changed-by (moved false) q v pk e = move-cases (p q) (p v) e (λ t f nv kq kv. moved_by.forward-given z fits around p q v t f nv kq kv)
  changed-by (moved true) q v pk e = move-cases (p q) (p v) e (λ t f nv kq kv. moved_by.backward-given z fits around p q v t f nv kq kv)

  function-by : (name : Name) (y : SourceType) → names_function z name y ≡ true → Given z around p (plain.function name y)
  function-by name y e =
      let two = both (is_function z.program name) (not (is_library name) || type_eq (without_const (z.signature name)) (without_const y)) e in
      named.function-given z fits around p name y two.0 (λ l. by_test l (one-of (not (is_library name)) (type_eq (without_const (z.signature name)) (without_const y)) two.1))
    where
      by_test : is_library name ≡ true → (not (is_library name) ≡ true) ⊎ (type_eq (without_const (z.signature name)) (without_const y) ≡ true)
          → without_const (z.signature name) ≡ without_const y
      by_test l (inl k) = absurd (true-false l (no-not (is_library name) k))
      by_test l (inr k) = same-type (without_const (z.signature name)) (without_const y) k

  object-by : (i : ℕ) → is_object_local z.body.own.locals i ≡ true → Given z around p (plain.local i)
  object-by i e =
      let y = type_of_local z.body.own.locals i in
      let two = both (is_own z.body.own.locals i y) (not (is_reference y) && not (is_code y)) e in
      let own = both (nat_lt i (length z.body.own.locals.types)) (not (is_argument z.body.own.locals i && is_scalar y)) two.0 in
      let type = both (not (is_reference y)) (not (is_code y)) two.1 in
      named.local-given z fits around p i (below i (length z.body.own.locals.types) own.0) (no-not (is_reference y) type.0)
      (no-not (is_argument z.body.own.locals i && is_scalar y) own.1) (address-sort y (no-not (is_code y) type.1))

  reference-by : (i : ℕ) → is_reference_local z.body.own.locals i ≡ true → Given z around p (plain.local i)
  reference-by i e =
      let y = type_of_local z.body.own.locals i in
      let two = both (nat_lt i (length z.body.own.locals.types)) (is_reference y && const_on_none (referred y)) e in
      let type = both (is_reference y) (const_on_none (referred y)) two.1 in
      reference-given z fits around p i (below i (length z.body.own.locals.types) two.0) type.0 type.1

  local-by : (i : ℕ) → is_object_local z.body.own.locals i || is_reference_local z.body.own.locals i ≡ true → Given z around p (plain.local i)
  local-by i e = by_test (one-of (is_object_local z.body.own.locals i) (is_reference_local z.body.own.locals i) e)
    where
      by_test : (is_object_local z.body.own.locals i ≡ true) ⊎ (is_reference_local z.body.own.locals i ≡ true) → Given z around p (plain.local i)
      by_test (inl k) = object-by i k
      by_test (inr k) = reference-by i k

  pub gives : (a : Action) → gives_value z p a ≡ true → Given z around p a
  gives (plain.number k) e = computed.number-given z around p k e
  gives (plain.local i) e = local-by i e
  gives (plain.static_object name y) e = let two = both (not (is_reference y)) (not (is_code y)) e in static-given z fits around p name y (no-not (is_reference y) two.0) (no-not (is_code y) two.1)
  gives (plain.function name y) e = function-by name y e
  gives (plain.read q) e = read-by q (p q) refl e
  gives (plain.dereference q) e = pointer-cases (p q) e (λ u kq. cast.dereference-given z around p q u kq)
  gives (plain.decay q) e = decay-by q (p q) refl e
  gives (plain.index q v) e =
      add-cases (p q) (p v) e (λ t f nv kq kv. moved_by.index-given z fits around p q v t f nv kq kv) (λ t f nv kq kv. moved_by.index-turned-given z fits around p q v t f nv kq kv)
  gives (plain.convert a q) e = convert-by a q (sort_of a) refl (p q) refl e
  gives (plain.from_void u q) e = address-cases (p q) e (λ y kq. cast.from_void-given z around p q y u kq)
  gives (plain.operate o k q v) e =
      let two = both (is_promoted k) (is_integer (p q) && is_integer (p v)) e in
      let three = both (is_integer (p q)) (is_integer (p v)) two.1 in
      integer-cases (p q) three.0 (λ f kq. integer-cases (p v) three.1 (λ a kv. computed.operate-given z around p q v o k f a (promoted-same k two.0) kq kv))
  gives (plain.unary o k q) e = let two = both (is_promoted k) (is_integer (p q)) e in unary-by o k q (promoted-same k two.0) two.1
  gives (plain.truth q) e = truth-by q (p q) refl e
  gives (plain.logical_not q) e = not-by q (p q) refl e
  gives (plain.pointer_operate o q v) e = pointers-by o q v e
  gives (plain.changed change q v) e =
      let two = both (is_promoted_change change) (may_change change (p q) (p v)) e in
      changed-by change q v two.0 two.1
  gives a e = absurd (cc)

  nothing-given : (a : Action) → gives_nothing a ≡ true → Silent z around p a
  nothing-given (plain.convert y q) e = void-silent z around p y q e
  nothing-given a e = absurd (cc)

  -- ---- statements

  laid-out : (cs : List Class) (y : SourceType) → is_laid cs y ≡ true → LaidOut cs y
  laid-out cs y e =
      let two = both (nat_le (size cs y) (2 ^ 22)) (has_bytes y && const_once y) e in
      let three = both (has_bytes y) (const_once y) two.1 in
      record { small = at-most (size cs y) (2 ^ 22) two.0; some = three.0; once = three.1 }

  module _ (i : ℕ) (y : SourceType) (e : may_begin z i y ≡ true) where
    begins : (is_local z.body.own.locals i y ≡ true) × (is_laid z.program.classes y ≡ true)
    begins = both (is_local z.body.own.locals i y) (is_laid z.program.classes y) e

    its-own : (nat_lt i (length z.body.own.locals.types) ≡ true) × (type_eq (without_const y) (without_const (type_of_local z.body.own.locals i)) ≡ true)
    its-own = both (nat_lt i (length z.body.own.locals.types)) (type_eq (without_const y) (without_const (type_of_local z.body.own.locals i))) begins.0

    there : i < length z.body.own.locals.types
    there = below i (length z.body.own.locals.types) its-own.0

    typed : without_const y ≡ without_const (type_of_local z.body.own.locals i)
    typed = same-type (without_const y) (without_const (type_of_local z.body.own.locals i)) its-own.1

    laid : LaidOut z.program.classes y
    laid = laid-out z.program.classes y begins.1

    declare-alike : (r : Register) → r < z.body.own.bound → RunsAlike z around p (set r (plain.declare i y))
    declare-alike r lt n g s t w h over = by_test (is_argument z.body.own.locals i && is_scalar y) refl
      where
        by_test : (b : Bool) → is_argument z.body.own.locals i && is_scalar y ≡ b → AlikeAt z around p (set r (plain.declare i y)) n g s t w
        by_test false k = declare-set z fits around p n g s t w h i y there typed laid over k r lt
        by_test true k = argument-set z fits around p n g s t w h i y there typed laid over k r

    declared-alike : RunsAlike z around p (act (plain.declare i y))
    declared-alike n g s t w h over = by_test (is_argument z.body.own.locals i && is_scalar y) refl
      where
        by_test : (b : Bool) → is_argument z.body.own.locals i && is_scalar y ≡ b → AlikeAt z around p (act (plain.declare i y)) n g s t w
        by_test false k = declare-done z fits around p n g s t w h i y there typed laid over shown refl (λ v. refl) (never z fits around p n g s t w h i y there typed laid over k)
        by_test true k = declare-done z fits around p n g s t w h i y there typed laid over hidden refl (unseen z fits around p n g s t w h i y there typed laid over k) (λ v. refl)

  -- a first value, by the kind of object
  first-alike : (r q : Register) (x : Kept) → p r ≡ x → may_first z.body.own.locals x (p q) ≡ true → (n : ℕ) (g : Registers) (s : State) (t : c.State) (w : World)
      → Here (fixed_in z) z.body p (depth_of around) g s t → FirstThere z.program.classes x g s r → AlikeAt z around p (act (plain.first r q)) n g s t w
  first-alike r q (argument i y) kr e n g s t w h there =
      let two = both (is_local z.body.own.locals i y) (may_hold (sort_of y) (p q)) e in
      let own = both (nat_lt i (length z.body.own.locals.types)) (type_eq (without_const y) (without_const (type_of_local z.body.own.locals i))) two.0 in
      hold-cases (sort_of y) (p q) two.1 (λ u b k l takes. argument-done z fits around p n g s t w h r q i y u (p q) b kr
      (below i (length z.body.own.locals.types) own.0) (same-type (without_const y) (without_const (type_of_local z.body.own.locals i)) own.1) k refl l takes there)
  first-alike r q (holds (address y)) kr e n g s t w h there =
      hold-cases (sort_of y) (p q) e (λ u b k l takes. first-done z around p n g s t w h r q y u (p q) b kr k refl l takes there)
  first-alike r q x kr e n g s t w h there = absurd (cc)

  zeros-by : (r : Register) (x : Kept) → p r ≡ x → may_zero x ≡ true → (n : ℕ) (g : Registers) (s : State) (t : c.State) (w : World)
      → Here (fixed_in z) z.body p (depth_of around) g s t → IsThere z.program.classes g s r → AlikeAt z around p (act (plain.zeros r)) n g s t w
  zeros-by r (holds (address y)) kr e n g s t w h there = zeros-done z fits around p n g s t w h r y kr (no-void y e) there
  zeros-by r x kr e n g s t w h there = absurd (cc)

  bytes-by : (r : Register) (b : List ℕ) (x : Kept) → p r ≡ x → are_chars x ≡ true → (n : ℕ) (g : Registers) (s : State) (t : c.State) (w : World)
      → Here (fixed_in z) z.body p (depth_of around) g s t → IsThere z.program.classes g s r → AlikeAt z around p (act (plain.bytes r b)) n g s t w
  bytes-by r b (holds (address (array (integer Char) len))) kr e n g s t w h there = bytes-done z fits around p n g s t w h r Char refl len kr there b
  bytes-by r b (holds (address (array (integer SChar) len))) kr e n g s t w h there = bytes-done z fits around p n g s t w h r SChar refl len kr there b
  bytes-by r b (holds (address (array (integer UChar) len))) kr e n g s t w h there = bytes-done z fits around p n g s t w h r UChar refl len kr there b
  bytes-by r b x kr e n g s t w h there = absurd (cc)

  -- a literal, by its text
  module _ (j : ℕ) (bytes : List ℕ) where
    text-of : (o : Option Text) → z.body.texts z.inside.function j ≡ o → is_text o bytes ≡ true → (n : ℕ) (g : Registers) (s : State) (t : c.State) (w : World)
        → Here (fixed_in z) z.body p (depth_of around) g s t → s.frame.function ≡ z.inside.function
        → ((r : Register) → r < z.body.own.bound → AlikeAt z around p (set r (plain.text j bytes)) n g s t w) × AlikeAt z around p (act (plain.text j bytes)) n g s t w
    text-of None k e n g s t w h name = absurd (cc)
    text-of (Some x) k e n g s t w h name =
        let same = same_bytes x.bytes bytes e in (
          λ r lr. subst (λ b. AlikeAt z around p (set r (plain.text j b)) n g s t w) same (text-set z around p n g s t w h j x k name array_shape (fits.literals j x k) r lr),
          subst (λ b. AlikeAt z around p (act (plain.text j b)) n g s t w) same (text-done z around p n g s t w h j x k name array_shape (fits.literals j x k)),
        )

  set-alike : (r : Register) (a : Action) → r < z.body.own.bound → may_set z p a ≡ true → RunsAlike z around p (set r a)
  set-alike r (plain.text j bytes) lt e n g s t w h name = (text-of j bytes (z.body.texts z.inside.function j) refl e n g s t w h name).0 r lt
  set-alike r (plain.declare i y) lt e n g s t w h over = declare-alike i y e r lt n g s t w h over
  set-alike r a lt e n g s t w h over = by_test (one-of (gives_nothing a) (gives_value z p a) e)
    where
      by_test : (gives_nothing a ≡ true) ⊎ (gives_value z p a ≡ true) → AlikeAt z around p (set r a) n g s t w
      by_test (inl k) = silent-set z around p r a (nothing-given a k) n g s t w h
      by_test (inr k) = given-set z around p r a lt (gives a k) n g s t w h

  do-alike : (a : Action) → may_do z p a ≡ true → RunsAlike z around p (act a)
  do-alike (plain.text j bytes) e n g s t w h name = (text-of j bytes (z.body.texts z.inside.function j) refl e n g s t w h name).1
  do-alike (plain.declare i y) e n g s t w h over = declared-alike i y e n g s t w h over
  do-alike (plain.store r q) e n g s t w h over =
      store-cases (p r) (p q) e (λ y u b kr i l takes. store-leaf z around p r q y u (p q) b kr i refl l takes n g s t w h)
  do-alike (plain.first r q) e n g s t w h there = first-alike r q (p r) refl e n g s t w h there
  do-alike (plain.zeros r) e n g s t w h there = zeros-by r (p r) refl e n g s t w h there
  do-alike (plain.bytes r b) e n g s t w h there = bytes-by r b (p r) refl e n g s t w h there
  do-alike (plain.finish y i) e n g s t w h over =
      let two = both (nat_lt i (length z.body.own.locals.types)) (has_bytes y) e in
      finish-done z fits around p n g s t w h i y (below i (length z.body.own.locals.types) two.0) two.1
  do-alike a e n g s t w h over = by_test (one-of (gives_nothing a) (gives_value z p a) e)
    where
      by_test : (gives_nothing a ≡ true) ⊎ (gives_value z p a ≡ true) → AlikeAt z around p (act a) n g s t w
      by_test (inl k) = silent-dropped z around p a (nothing-given a k) n g s t w h
      by_test (inr k) = given-dropped z around p a (gives a k) n g s t w h

  give-alike : (r : Register) (u : Option Sort) → z.result ≡ u → may_give u p (Some r) ≡ true → RunsAlike z around p (give (Some r))
  give-alike r None i e n g s t w h before = give-void z fits around p n g s t w h r i
  give-alike r (Some u) i e n g s t w h before =
      hold-cases (Some u) (p r) e (λ a b k l takes. give-value z fits around p n g s t w h r a (p r) b (i ∙ k) refl l takes)

  pub leaf-alike : (st : Plain) → is_leaf z p st ≡ true → RunsAlike z around p st
  leaf-alike (set r a) e = let two = both (nat_lt r z.body.own.bound) (may_set z p a) e in set-alike r a (below r z.body.own.bound two.0) two.1
  leaf-alike (act a) e = do-alike a e
  leaf-alike (give None) e = λ n g s t w h before. give-none z fits around p n g s t w h
  leaf-alike (give (Some r)) e = give-alike r z.result refl e
  leaf-alike st e = absurd (cc)
