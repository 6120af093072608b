-- What conversions give.
use Rattle.std.proofs.Common.{◌≡◌, zero, Bool, true, false, ◌&&◌, ◌||◌, not, List, ℤ, pos, negsuc, suc, ◌⊎◌, inl, inr, refl, sym, ap, ◌∙◌, subst, true≢false}
use Rattle.std.specs.Prelude.{Option, Some, None, is_some}
use Rattle.cf_base.specs.declared.kind.Kind.TheVariants.{Int}
use Rattle.cf_core.specs.Types.{SourceType, void, integer, enumeration, class, pointer, reference, array, takes, gives as gives_type, data_member, function_member, const, plain, same_but_const, is_void}
use Rattle.cf_core.specs.Store.{Value, Nothing, Missing, Built, Number, Null, At, Code, DataMember, FunctionMember}
use Rattle.cf_core.specs.Run.{State, Act, ◌>>=◌}
use Rattle.cf_core.specs.Access.{used}
use Rattle.cf_core.specs.Scalars.{converted_value, as_pointer}
use Rattle.cf_core.specs.Calls.{Program}
use Rattle.cf_core.specs.Typing.{Typing, is_function, is_integer, is_expression, is_zero, of_value, pointed, converts, to_pointer}
use Rattle.cf_core_sound.specs.Proper.{shape}
use Rattle.cf_core_sound.specs.Values.{Leads, IsOf, Fits, Fit, Told, told_place, told_type, told_number, told_value}
use Rattle.cf_core_sound.specs.States.{Sound}
use Rattle.cf_core_sound.specs.Well.{Well}
use Rattle.cf_core_sound.specs.Simple.{leads_to_void, leads_to_function}
use Rattle.cf_core_sound.proofs.Shapes.{same-shape, function-shape, void-shape, pointed-whole, plain-shape}
use Rattle.cf_core_sound.proofs.Access.{not-built}
use Rattle.cf_core_sound.proofs.Good.{Good}
use Rattle.cf_core_sound.proofs.Typings.{integer-number, integer-told, or-cases, fits-value}
use Rattle.cf_core_sound.proofs.Pointing.{well-to-kind, well-missing-kind, well-zero, well-null, well-kept, well-missing-pointer, pointer-anywhere}
use Rattle.cf_core_sound.proofs.Wells.{well-gives, well-as}

no-test : false ≡ true → ⊥
no-test e = true≢false (sym e)

not-true : (b : Bool) → not b ≡ true → b ≡ false
not-true true h = absurd (true≢false (sym h))
not-true false h = refl

-- ---- what may be converted

zero-told : (x : Option ℤ) → is_zero x ≡ true → x ≡ Some (pos zero)
zero-told None e = absurd (no-test e)
zero-told (Some (pos zero)) e = refl
zero-told (Some (pos (suc n))) e = absurd (no-test e)
zero-told (Some (negsuc n)) e = absurd (no-test e)

abbrev cast_of : SourceType → Option SourceType → Bool
cast_of t None = false
cast_of t (Some u) = same_but_const t u || is_void (plain t)

-- a pointer that is cast to one to this type
record Casts (x : Typing) (t : SourceType) : Type 0 where
  from : SourceType
  is : x.type ≡ Some (pointer from)
  way : (same_but_const t from ≡ true) ⊎ (is_void (plain t) ≡ true)

casts-told : (x : Typing) (t : SourceType) → cast_of t (pointed x.type) ≡ true → Casts x t
casts-told x t e = by_type x.type refl e
  where
    by_type : (o : Option SourceType) → x.type ≡ o → cast_of t (pointed o) ≡ true → Casts x t
    by_type None is e = absurd (no-test e)
    by_type (Some (pointer u)) is e = record { from = u; is = is; way = or-cases (same_but_const t u) (is_void (plain t)) e }
    by_type (Some void) is e = absurd (no-test e)
    by_type (Some (integer k)) is e = absurd (no-test e)
    by_type (Some (enumeration n)) is e = absurd (no-test e)
    by_type (Some (class c)) is e = absurd (no-test e)
    by_type (Some (reference u)) is e = absurd (no-test e)
    by_type (Some (array u n)) is e = absurd (no-test e)
    by_type (Some (takes p u)) is e = absurd (no-test e)
    by_type (Some (gives_type u c)) is e = absurd (no-test e)
    by_type (Some (data_member c u)) is e = absurd (no-test e)
    by_type (Some (function_member c u)) is e = absurd (no-test e)
    by_type (Some (const u)) is e = absurd (no-test e)

some-told : {A : Type 0} (x : Option A) → is_some x ≡ true → (a : A) × (x ≡ Some a)
some-told None k = absurd (no-test k)
some-told (Some a) k = (a, refl)

three-cases : (a b c : Bool) → (a || b || c) ≡ true → (a ≡ true) ⊎ ((b ≡ true) ⊎ (c ≡ true))
three-cases true b c e = inl refl
three-cases false true c e = inr (inl refl)
three-cases false false c e = inr (inr e)

pub expression-told : (x : Typing) → is_expression x ≡ true → Told x
expression-told x e = by_case (three-cases (is_some x.place) (is_some x.type) (is_integer x) e)
  where
    by_case : (is_some x.place ≡ true) ⊎ ((is_some x.type ≡ true) ⊎ (is_integer x ≡ true)) → Told x
    by_case (inl e) = let a = some-told x.place e in told_place a.0 a.1
    by_case (inr (inl e)) = let a = some-told x.type e in told_type a.0 a.1
    by_case (inr (inr e)) = integer-told x e

zero-or-told : (x : Typing) (t : SourceType) (b : Bool) → (b ≡ true → Told x) → (is_zero x.number || b) ≡ true → Told x
zero-or-told x t b h e = by_case (or-cases (is_zero x.number) b e)
  where
    by_case : (is_zero x.number ≡ true) ⊎ (b ≡ true) → Told x
    by_case (inl e) = told_number (pos zero) (zero-told x.number e)
    by_case (inr e) = h e

pub converts-told : (t : SourceType) (x : Typing) → converts t x ≡ true → Told x
converts-told void x e = expression-told x e
converts-told (integer k) x e = integer-told x e
converts-told (enumeration n) x e = integer-told x e
converts-told (pointer t) x e = zero-or-told x t (cast_of t (pointed x.type)) (λ e. let c = casts-told x t e in told_type (pointer c.from) c.is) e
converts-told (data_member c t) x e = zero-or-told x t (x.value (data_member c t)) (λ e. told_value (data_member c t) e) e
converts-told (function_member c t) x e = zero-or-told x t (x.value (function_member c t)) (λ e. told_value (function_member c t) e) e
converts-told (class c) x e = absurd (no-test e)
converts-told (reference t) x e = absurd (no-test e)
converts-told (array t n) x e = absurd (no-test e)
converts-told (takes p t) x e = absurd (no-test e)
converts-told (gives_type t c) x e = absurd (no-test e)
converts-told (const t) x e = absurd (no-test e)

-- ---- what is converted

module _ (P : Program) (locals : List SourceType) where
  -- nothing is left of a value that becomes void
  void-well : (s : State) (v : Value) → Sound P locals s → (v ≡ Built → ⊥) → Well P locals s (λ v u. Fit P u (of_value void) v) (converted_value void v)
  void-well s Nothing h n = well-gives P locals s Nothing h (inr (fits-value P s void Nothing refl))
  void-well s Missing h n = well-gives P locals s Nothing h (inr (fits-value P s void Nothing refl))
  void-well s Built h n = absurd (n refl)
  void-well s (Number z) h n = well-gives P locals s Nothing h (inr (fits-value P s void Nothing refl))
  void-well s Null h n = well-gives P locals s Nothing h (inr (fits-value P s void Nothing refl))
  void-well s (At p) h n = well-gives P locals s Nothing h (inr (fits-value P s void Nothing refl))
  void-well s (Code f) h n = well-gives P locals s Nothing h (inr (fits-value P s void Nothing refl))
  void-well s (DataMember path i) h n = well-gives P locals s Nothing h (inr (fits-value P s void Nothing refl))
  void-well s (FunctionMember path f) h n = well-gives P locals s Nothing h (inr (fits-value P s void Nothing refl))

  leads-built : (s : State) (t : SourceType) (v : Value) → Leads P s t v → v ≡ Built → ⊥
  leads-built s t v l e = subst (λ x. Leads P s t x) e l

  expression-built : (s : State) (x : Typing) (v : Value) → is_expression x ≡ true → Fits P s x v → v ≡ Built → ⊥
  expression-built s x v e f b = by_case (three-cases (is_some x.place) (is_some x.type) (is_integer x) e)
    where
      by_case : (is_some x.place ≡ true) ⊎ ((is_some x.type ≡ true) ⊎ (is_integer x ≡ true)) → ⊥
      by_case (inl e) = let a = some-told x.place e in leads-built s (shape a.0) v (f.place a.0 a.1) b
      by_case (inr (inl e)) = let a = some-told x.type e in not-built P s (shape a.0) (subst (λ y. IsOf P s (shape a.0) y) b (f.type a.0 a.1))
      by_case (inr (inr e)) = let n = integer-number P s x v e f in let k = sym b ∙ n.1 in absurd (cc)

  missing-as : {Q : Value → State → Type 0} (s : State) (v : Value) (go : Value → Act Value) → v ≡ Missing → Well P locals s Q (go Missing) → Well P locals s Q (go v)
  missing-as {Q} s v go e k = subst (λ y. Well P locals s Q (go y)) (sym e) k

  null-fits : (t : SourceType) (u : State) (v : Value) → IsOf P u (shape t) Null → v ≡ Null → Fit P u (of_value t) v
  null-fits t u v i e = inr (fits-value P u t v (subst (λ y. IsOf P u (shape t) y) (sym e) i))

  -- 0, or null as it is
  null-well : (t : SourceType) (s : State) (v : Value) (x : Typing) (b : Bool) → Sound P locals s → ((u : State) → IsOf P u (shape t) Null) → (b ≡ true → v ≡ Null) → Fits P s x v → (is_zero x.number || b) ≡ true
      → Well P locals s (λ v u. Fit P u (of_value t) v) (used v >>= as_pointer)
  null-well t s v x b h null h' f e = by_case (or-cases (is_zero x.number) b e)
    where
      by_case : (is_zero x.number ≡ true) ⊎ (b ≡ true) → Well P locals s (λ v u. Fit P u (of_value t) v) (used v >>= as_pointer)
      by_case (inl e) = well-as P locals s (used v >>= as_pointer) (well-zero P locals s v h (f.number (pos zero) (zero-told x.number e))) (λ v u b e. null-fits t u v (null u) e)
      by_case (inr e) = well-as P locals s (used v >>= as_pointer) (well-null P locals s v h (h' e)) (λ v u b e. null-fits t u v (null u) e)

  is-void : (t : SourceType) → is_void t ≡ true → shape t ≡ void
  is-void void e = refl
  is-void (const t) e = is-void t e
  is-void (integer k) e = absurd (no-test e)
  is-void (enumeration n) e = absurd (no-test e)
  is-void (class c) e = absurd (no-test e)
  is-void (pointer t) e = absurd (no-test e)
  is-void (reference t) e = absurd (no-test e)
  is-void (array t n) e = absurd (no-test e)
  is-void (takes p t) e = absurd (no-test e)
  is-void (gives_type t c) e = absurd (no-test e)
  is-void (data_member c t) e = absurd (no-test e)
  is-void (function_member c t) e = absurd (no-test e)

  void-plain : (t : SourceType) → is_void (plain t) ≡ is_void t
  void-plain t = sym (void-shape (plain t)) ∙ ap is_void (plain-shape t) ∙ void-shape t

  keeps-object : (t from : SourceType) (x : Typing) → x.type ≡ Some (pointer from) → is_void t ≡ true → not (is_void t && leads_to_function (pointed x.type)) ≡ true → is_function from ≡ false
  keeps-object t from x is v k = by_void (is_void t) v (not-true (is_void t && leads_to_function (pointed x.type)) k)
    where
      by_void : (b : Bool) → b ≡ true → (b && leads_to_function (pointed x.type)) ≡ false → is_function from ≡ false
      by_void true e k = sym (ap (λ o. leads_to_function (pointed o)) is) ∙ k
      by_void false e k = absurd (no-test e)

  pointer-well : (t : SourceType) (s : State) (v : Value) (x : Typing) → Sound P locals s → Good x → not (is_void t && leads_to_function (pointed x.type)) ≡ true → Fits P s x v → to_pointer t x ≡ true
      → Well P locals s (λ v u. Fit P u (of_value (pointer t)) v) (used v >>= as_pointer)
  pointer-well t s v x h g k f e = by_case (or-cases (is_zero x.number) (cast_of t (pointed x.type)) e)
    where
      by_way : (c : Casts x t) → (same_but_const t c.from ≡ true) ⊎ (is_void (plain t) ≡ true) → IsOf P s (pointer (shape t)) v
      by_way c (inl same) = subst (λ a. IsOf P s (pointer a) v) (sym (same-shape t c.from same)) (f.type (pointer c.from) c.is)
      by_way c (inr none) =
          let is_v : is_void t ≡ true = sym (void-plain t) ∙ none in
          let no : is_function (shape c.from) ≡ false =
          function-shape c.from (pointed-whole c.from (g.type (pointer c.from) c.is).whole.proper).proper ∙ keeps-object t c.from x c.is is_v k in
          subst (λ a. IsOf P s (pointer a) v) (sym (is-void t is_v)) (pointer-anywhere P locals s (shape c.from) v no (f.type (pointer c.from) c.is))

      by_case : (is_zero x.number ≡ true) ⊎ (cast_of t (pointed x.type) ≡ true) → Well P locals s (λ v u. Fit P u (of_value (pointer t)) v) (used v >>= as_pointer)
      by_case (inl e) = well-as P locals s (used v >>= as_pointer) (well-zero P locals s v h (f.number (pos zero) (zero-told x.number e))) (λ v u b e. null-fits (pointer t) u v (inl refl) e)
      by_case (inr e) =
          let c = casts-told x t e in
          well-as P locals s (used v >>= as_pointer) (well-kept P locals s (shape t) v h (by_way c c.way)) (λ v u b i. inr (fits-value P u (pointer t) v i))

  number-well : (t : SourceType) (s : State) (v : Value) (x : Typing) (act : Act Value) → is_integer x ≡ true → Fits P s x v
      → ((z : ℤ) → v ≡ Number z → Well P locals s (λ v u. IsOf P u (shape t) v) act) → Well P locals s (λ v u. Fit P u (of_value t) v) act
  number-well t s v x act e f k =
      let n = integer-number P s x v e f in
      well-as P locals s act (k n.0 n.1) (λ v u b i. inr (fits-value P u t v i))

  pub well-converted : (t : SourceType) (s : State) (x : Typing) (v : Value) → Sound P locals s → Good x → converts t x ≡ true → not (leads_to_void t && leads_to_function (pointed x.type)) ≡ true → Fit P s x v
      → Well P locals s (λ v u. Fit P u (of_value t) v) (converted_value t v)
  well-converted void s x v h g e k (inl m) = missing-as s v (converted_value void) m (void-well s Missing h (λ e. absurd (cc)))
  well-converted void s x v h g e k (inr f) = void-well s v h (expression-built s x v e f)
  well-converted (integer i) s x v h g e k (inl m) = missing-as s v (converted_value (integer i)) m (well-missing-kind P locals s i)
  well-converted (integer i) s x v h g e k (inr f) = number-well (integer i) s v x (converted_value (integer i) v) e f (λ z n. well-to-kind P locals s i v z h n)
  well-converted (enumeration c) s x v h g e k (inl m) = missing-as s v (converted_value (enumeration c)) m (well-missing-kind P locals s Int)
  well-converted (enumeration c) s x v h g e k (inr f) = number-well (enumeration c) s v x (converted_value (enumeration c) v) e f (λ z n. well-to-kind P locals s Int v z h n)
  well-converted (pointer t) s x v h g e k (inl m) = missing-as s v (converted_value (pointer t)) m (well-missing-pointer P locals s)
  well-converted (pointer t) s x v h g e k (inr f) = pointer-well t s v x h g k f e
  well-converted (data_member c t) s x v h g e k (inl m) = missing-as s v (converted_value (data_member c t)) m (well-missing-pointer P locals s)
  well-converted (data_member c t) s x v h g e k (inr f) = null-well (data_member c t) s v x (x.value (data_member c t)) h (λ u. refl) (λ e. f.value (data_member c t) e) f e
  well-converted (function_member c t) s x v h g e k (inl m) = missing-as s v (converted_value (function_member c t)) m (well-missing-pointer P locals s)
  well-converted (function_member c t) s x v h g e k (inr f) = null-well (function_member c t) s v x (x.value (function_member c t)) h (λ u. refl) (λ e. f.value (function_member c t) e) f e
  well-converted (class c) s x v h g e k f = absurd (no-test e)
  well-converted (reference t) s x v h g e k f = absurd (no-test e)
  well-converted (array t n) s x v h g e k f = absurd (no-test e)
  well-converted (takes p t) s x v h g e k f = absurd (no-test e)
  well-converted (gives_type t c) s x v h g e k f = absurd (no-test e)
  well-converted (const t) s x v h g e k f = absurd (no-test e)
