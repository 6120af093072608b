-- A node by what its parts give.
use Rattle.std.proofs.Common.{◌≡◌, ℕ, Bool, true, false, ◌&&◌, not, if◌then◌else◌, List, [], ◌⊎◌, inl, inr, refl, sym, ap, ◌∙◌, subst, true≢false}
use Rattle.std.specs.Prelude.{Option, Some, None}
use Rattle.cf_base.proofs.Tests.{both}
use Rattle.cf_base.specs.declared.kind.Kind.{Kind}
use Rattle.cf_base.specs.declared.kind.Kind.TheVariants.{Int}
use Rattle.cf_base.specs.declared.arith.Arith.{Arith}
use Rattle.cf_core.specs.declared.operators.UnaryOperator.{UnaryOperator}
use Rattle.cf_core.specs.declared.operators.PointerOperator.{PointerOperator}
use Rattle.cf_core.specs.Types.{SourceType, void, integer, enumeration, class, pointer, reference, array, takes, gives as gives_type, data_member, function_member, const, plain, is_void}
use Rattle.cf_core.specs.Places.{Place, is_scalar}
use Rattle.cf_core.specs.Store.{Value, Number, At}
use Rattle.cf_core.specs.Run.{State, Act, ◌>>=◌, ◌>>◌, gives, when}
use Rattle.cf_core.specs.Access.{using, placed, read_place, write_place}
use Rattle.cf_core.specs.Pointers.{truth_value, pointer_op, from_void_value}
use Rattle.cf_core.specs.Scalars.{truth_of, operated, signed, indexed, decayed, pointed_to}
use Rattle.cf_core.specs.Calls.{Program}
use Rattle.cf_core.specs.Typing.{Scope, Typing, allowed, is_function, of_value, of_place, is_integer, is_condition, pointed, operated_type, is_right_operand, pointer_operated, either}
use Rattle.cf_core.specs.Typed.{read_type, decayed_type, pointed_place, address_type, stored, indexed_type, void_pointer}
use Rattle.cf_elab.specs.Arithmetic.{result_kind}
use Rattle.cf_core_sound.specs.Proper.{is_proper, Whole, shape}
use Rattle.cf_core_sound.specs.Values.{IsPlace, IsOf, Fits, Fit, Told, told_place, told_type, told_value}
use Rattle.cf_core_sound.specs.States.{Sound}
use Rattle.cf_core_sound.specs.Well.{Well}
use Rattle.cf_core_sound.proofs.Shapes.{function-shape, plain-shape, elements-told}
use Rattle.cf_core_sound.proofs.Moments.{place-later, fits-later}
use Rattle.cf_types.specs.Operators.{is_shift}
use Rattle.cf_core_sound.proofs.Access.{well-read, well-write, scalar-no-void}
use Rattle.cf_core_sound.proofs.Good.{Good}
use Rattle.cf_core_sound.proofs.Typings.{nothing-told, allowed-told, read-told, address-told, pointed-told, stored-told, condition-told, integer-told, fits-value, fits-place, fits-allowed}
use Rattle.cf_core_sound.proofs.Operators.{well-signed, well-decayed, well-decayed-function, well-pointed, result-type}
use Rattle.cf_core_sound.proofs.Pointing.{truth-number, well-from-void}
use Rattle.cf_core_sound.proofs.Steps.{solid-place, solid-type, solid-value, well-using, well-placed, well-condition, right-operand, right-solid, well-operation}
use Rattle.cf_core_sound.proofs.Combined.{fits-first, fits-second, either-told}
use Rattle.cf_core_sound.proofs.Nodes.{Uses, indexed-uses, well-indexed, operated-uses, well-pointer}
use Rattle.cf_core_sound.proofs.Wells.{well-then, well-next, well-gives, well-as, well-when}

no-test : false ≡ true → ⊥
no-test e = true≢false (sym e)

scalar-no-function : (t : SourceType) → is_scalar t ≡ true → is_function (shape t) ≡ false
scalar-no-function (integer k) e = refl
scalar-no-function (enumeration n) e = refl
scalar-no-function (pointer t) e = refl
scalar-no-function (reference t) e = refl
scalar-no-function (data_member c t) e = refl
scalar-no-function (function_member c t) e = refl
scalar-no-function (const t) e = scalar-no-function t e
scalar-no-function void e = absurd (no-test e)
scalar-no-function (class c) e = absurd (no-test e)
scalar-no-function (array t n) e = absurd (no-test e)
scalar-no-function (takes p t) e = absurd (no-test e)
scalar-no-function (gives_type t c) e = absurd (no-test e)

void-no-function : (t : SourceType) → is_void t ≡ true → is_function (shape t) ≡ false
void-no-function void e = refl
void-no-function (const t) e = void-no-function t e
void-no-function (integer k) e = absurd (no-test e)
void-no-function (enumeration n) e = absurd (no-test e)
void-no-function (class c) e = absurd (no-test e)
void-no-function (pointer t) e = absurd (no-test e)
void-no-function (reference t) e = absurd (no-test e)
void-no-function (array t n) e = absurd (no-test e)
void-no-function (takes p t) e = absurd (no-test e)
void-no-function (gives_type t c) e = absurd (no-test e)
void-no-function (data_member c t) e = absurd (no-test e)
void-no-function (function_member c t) e = absurd (no-test e)

-- an array, or a function
decays : (scope : Scope) (t : SourceType) → is_proper t ≡ true → Told (decayed_type scope (Some t)) → ((a : SourceType) × (n : ℕ) × (t ≡ array a n)) ⊎ (is_function t ≡ true)
decays scope (array a n) p k = inl (a, n, refl)
decays scope (takes q t) p k = inr refl
decays scope (gives_type t c) p k = inr refl
decays scope (const (array t n)) p k = absurd (no-test p)
decays scope (const void) p k = absurd (nothing-told k)
decays scope (const (integer i)) p k = absurd (nothing-told k)
decays scope (const (enumeration e)) p k = absurd (nothing-told k)
decays scope (const (class c)) p k = absurd (nothing-told k)
decays scope (const (pointer t)) p k = absurd (nothing-told k)
decays scope (const (reference t)) p k = absurd (nothing-told k)
decays scope (const (takes q t)) p k = absurd (nothing-told k)
decays scope (const (gives_type t c)) p k = absurd (nothing-told k)
decays scope (const (data_member c t)) p k = absurd (nothing-told k)
decays scope (const (function_member c t)) p k = absurd (nothing-told k)
decays scope (const (const t)) p k = absurd (nothing-told k)
decays scope void p k = absurd (nothing-told k)
decays scope (integer i) p k = absurd (nothing-told k)
decays scope (enumeration e) p k = absurd (nothing-told k)
decays scope (class c) p k = absurd (nothing-told k)
decays scope (pointer t) p k = absurd (nothing-told k)
decays scope (reference t) p k = absurd (nothing-told k)
decays scope (data_member c t) p k = absurd (nothing-told k)
decays scope (function_member c t) p k = absurd (nothing-told k)

decayed-there : (scope : Scope) (x : Option SourceType) → Told (decayed_type scope x) → (t : SourceType) × (x ≡ Some t)
decayed-there scope None k = absurd (nothing-told k)
decayed-there scope (Some t) k = (t, refl)

function-decayed : (scope : Scope) (t : SourceType) → is_function t ≡ true → decayed_type scope (Some t) ≡ of_value (pointer t)
function-decayed scope (takes p t) e = refl
function-decayed scope (gives_type t c) e = refl
function-decayed scope void e = absurd (no-test e)
function-decayed scope (integer k) e = absurd (no-test e)
function-decayed scope (enumeration n) e = absurd (no-test e)
function-decayed scope (class c) e = absurd (no-test e)
function-decayed scope (pointer t) e = absurd (no-test e)
function-decayed scope (reference t) e = absurd (no-test e)
function-decayed scope (array t n) e = absurd (no-test e)
function-decayed scope (data_member c t) e = absurd (no-test e)
function-decayed scope (function_member c t) e = absurd (no-test e)
function-decayed scope (const t) e = absurd (no-test e)

void-told : (scope : Scope) (x : Option SourceType) → void_pointer scope (pointed x) ≡ true → (u : SourceType) × (x ≡ Some (pointer u)) × (is_void u ≡ true)
void-told scope (Some (pointer u)) e = (u, refl, e)
void-told scope None e = absurd (no-test e)
void-told scope (Some void) e = absurd (no-test e)
void-told scope (Some (integer k)) e = absurd (no-test e)
void-told scope (Some (enumeration n)) e = absurd (no-test e)
void-told scope (Some (class c)) e = absurd (no-test e)
void-told scope (Some (reference t)) e = absurd (no-test e)
void-told scope (Some (array t n)) e = absurd (no-test e)
void-told scope (Some (takes p t)) e = absurd (no-test e)
void-told scope (Some (gives_type t c)) e = absurd (no-test e)
void-told scope (Some (data_member c t)) e = absurd (no-test e)
void-told scope (Some (function_member c t)) e = absurd (no-test e)
void-told scope (Some (const t)) e = absurd (no-test e)

module _ (P : Program) (scope : Scope) (locals : List SourceType) where
  -- a part: where it is something, it is well from each sound moment
  pub record Operand (x : Typing) (act : Act Value) : Type 0 where
    pub by : (s : State) → Sound P locals s → Told x → Well P locals s (λ v u. Fit P u x v) act

  pub place-operand : (x : Typing) (t : SourceType) (act : Act Value) (s : State) → Sound P locals s → Operand x act → x.place ≡ Some t → is_function (shape t) ≡ false
      → Well P locals s (λ p u. IsPlace u (shape t) p) (placed act)
  place-operand x t act s h op e n = well-placed P locals s x t act (op.by s h (told_place t e)) e n

  pub read-well : (x : Typing) (act : Act Value) (s : State) → Sound P locals s → Operand x act → Told (read_type scope x.place)
      → Well P locals s (λ v u. Fit P u (read_type scope x.place) v) (placed act >>= read_place [])
  read-well x act s h op told =
      let th = read-told scope x.place told in
      let t = th.it in
      subst (λ y. Well P locals s (λ v u. Fit P u (read_type scope y) v) (placed act >>= read_place [])) (sym th.is)
      (well-then P locals s (placed act) (read_place []) (place-operand x t act s h op th.is (scalar-no-function t th.so)) (λ p u b k.
      well-as P locals u (read_place [] p) (well-read P locals u t p b.sound th.so k) (λ v w c i.
      inr (fits-allowed P w (is_scalar t) (of_value (plain t)) v th.so (fits-value P w (plain t) v (subst (λ a. IsOf P w a v) (sym (plain-shape t)) i))))))

  pub address-well : (x : Typing) (act : Act Value) (s : State) → Sound P locals s → Operand x act → Told (address_type scope x.place)
      → Well P locals s (λ v u. Fit P u (address_type scope x.place) v) (using act)
  address-well x act s h op told =
      let th = address-told scope x.place told in
      let t = th.it in
      subst (λ y. Well P locals s (λ v u. Fit P u (address_type scope y) v) (using act)) (sym th.is)
      (well-as P locals s (using act) (well-using P locals s x act (op.by s h (told_place t th.is)) (solid-place P locals x t th.is)) (λ v u b f.
      inr (fits-value P u (pointer t) v (inr (f.place t th.is)))))

  pub dereference-well : (x : Typing) (act : Act Value) (s : State) → Sound P locals s → Operand x act → Told (pointed_place scope (pointed x.type))
      → Well P locals s (λ v u. Fit P u (pointed_place scope (pointed x.type)) v) (using act >>= pointed_to)
  dereference-well x act s h op told =
      let th = pointed-told scope x.type told in
      let u = th.so.0 in
      let is : x.type ≡ Some (pointer u) = th.is ∙ ap Some th.so.1 in
      subst (λ y. Well P locals s (λ v u. Fit P u (pointed_place scope (pointed y)) v) (using act >>= pointed_to)) (sym is)
      (well-then P locals s (using act) pointed_to (well-using P locals s x act (op.by s h (told_type (pointer u) is)) (solid-type P locals x (pointer u) is refl)) (λ v w b f.
      well-as P locals w (pointed_to v) (well-pointed P locals w (shape u) v b.sound (f.type (pointer u) is)) (λ v w b l. inr (fits-place P w u v l))))

  pub decay-well : (x : Typing) (act : Act Value) (s : State) → Sound P locals s → Good x → Operand x act → Told (decayed_type scope x.place)
      → Well P locals s (λ v u. Fit P u (decayed_type scope x.place) v) (using act >>= decayed [])
  decay-well x act s h g op told = by_form (decays scope t (g.place t is).proper (subst (λ y. Told (decayed_type scope y)) is told))
    where
      t : SourceType
      t = (decayed-there scope x.place told).0

      is : x.place ≡ Some (decayed-there scope x.place told).0
      is = (decayed-there scope x.place told).1

      used_part : (a : SourceType) → x.place ≡ Some a → Well P locals s (λ v u. Fits P u x v) (using act)
      used_part a e = well-using P locals s x act (op.by s h (told_place a e)) (solid-place P locals x a e)

      of_array : (a : SourceType) (n : ℕ) → x.place ≡ Some (array a n) → Well P locals s (λ v u. Fit P u (decayed_type scope x.place) v) (using act >>= decayed [])
      of_array a n e = subst (λ y. Well P locals s (λ v u. Fit P u (decayed_type scope y) v) (using act >>= decayed [])) (sym e)
          (well-then P locals s (using act) (decayed []) (used_part (array a n) e) (λ v u b f.
          let el = elements-told a n (g.place (array a n) e).proper in
          well-as P locals u (decayed [] v) (well-decayed P locals u (shape a) v b.sound (function-shape a el.whole.proper ∙ el.object) (f.place (array a n) e)) (λ v w c i. inr (fits-value P w (pointer a) v i))))

      of_function : (a : SourceType) → x.place ≡ Some a → is_function a ≡ true → Well P locals s (λ v u. Fit P u (decayed_type scope x.place) v) (using act >>= decayed [])
      of_function a e n = subst (λ y. Well P locals s (λ v u. Fit P u y v) (using act >>= decayed [])) (sym (ap (decayed_type scope) e ∙ function-decayed scope a n))
          (well-then P locals s (using act) (decayed []) (used_part a e) (λ v u b f.
          well-as P locals u (decayed [] v) (well-decayed-function P locals u (shape a) v b.sound (function-shape a (g.place a e).proper ∙ n) (f.place a e)) (λ v w c i. inr (fits-value P w (pointer a) v i))))

      by_form : ((a : SourceType) × (n : ℕ) × ((decayed-there scope x.place told).0 ≡ array a n)) ⊎ (is_function (decayed-there scope x.place told).0 ≡ true)
          → Well P locals s (λ v u. Fit P u (decayed_type scope x.place) v) (using act >>= decayed [])
      by_form (inl k) = of_array k.0 k.1 (is ∙ ap Some k.2)
      by_form (inr n) = of_function (decayed-there scope x.place told).0 is n

  pub from-void-well : (t : SourceType) (x : Typing) (act : Act Value) (s : State) → Sound P locals s → Whole t → is_function t ≡ false → Operand x act
      → Told (allowed (void_pointer scope (pointed x.type)) (of_value (pointer t)))
      → Well P locals s (λ v u. Fit P u (allowed (void_pointer scope (pointed x.type)) (of_value (pointer t))) v) (using act >>= from_void_value [] t)
  from-void-well t x act s h whole n op told =
      let e = (allowed-told (void_pointer scope (pointed x.type)) (of_value (pointer t)) told).0 in
      let th = void-told scope x.type e in
      well-then P locals s (using act) (from_void_value [] t) (well-using P locals s x act (op.by s h (told_type (pointer th.0) th.1)) (solid-type P locals x (pointer th.0) th.1 refl)) (λ v u b f.
      well-as P locals u (from_void_value [] t v) (well-from-void P locals u t (shape th.0) v b.sound (function-shape t whole.proper ∙ n) (void-no-function th.0 th.2) (f.type (pointer th.0) th.1)) (λ v w c i.
      inr (fits-allowed P w (void_pointer scope (pointed x.type)) (of_value (pointer t)) v e (fits-value P w (pointer t) v i))))

  -- ---- two parts

  two-well : {R : Value → State → Type 0} (x y : Typing) (a b : Act Value) (go : Value → Value → Act Value) (s : State) → Sound P locals s → Uses P locals x y → Operand x a → Operand y b
      → ((v w : Value) (u : State) → Sound P locals u → Fits P u x v → Fits P u y w → Well P locals u R (go v w)) → Well P locals s R (using a >>= (λ v. using b >>= (λ w. go v w)))
  two-well x y a b go s h uses op oq k =
      well-then P locals s (using a) (λ v. using b >>= (λ w. go v w)) (well-using P locals s x a (op.by s h uses.first) uses.first_solid) (λ v u c f.
      well-then P locals u (using b) (λ w. go v w) (well-using P locals u y b (oq.by u c.sound uses.second) uses.second_solid) (λ w z d g.
      k v w z d.sound (fits-later P u z d.later x v f) g))

  pub index-well : (x y : Typing) (a b : Act Value) (s : State) → Sound P locals s → Good x → Good y → Operand x a → Operand y b → Told (indexed_type scope x y)
      → Well P locals s (λ v u. Fit P u (indexed_type scope x y) v) (using a >>= (λ v. using b >>= (λ w. indexed [] v w)))
  index-well x y a b s h gx gy op oq told = two-well x y a b (indexed []) s h (indexed-uses P locals scope x y gx gy told) op oq (λ v w u k f g. well-indexed P locals scope u x y v w k gx gy told f g)

  pub pointer-node : (o : PointerOperator) (x y : Typing) (a b : Act Value) (s : State) → Sound P locals s → Good x → Good y → Operand x a → Operand y b → Told (pointer_operated o x y)
      → Well P locals s (λ v u. Fit P u (pointer_operated o x y) v) (using a >>= (λ v. using b >>= (λ w. pointer_op [] o v w)))
  pointer-node o x y a b s h gx gy op oq told = two-well x y a b (pointer_op [] o) s h (operated-uses P locals o x y gx gy told) op oq (λ v w u k f g. well-pointer P locals o u x y v w k gx gy told f g)

  pub right-told : (o : Arith) (k : Kind) (y : Typing) → is_right_operand o k y ≡ true → Told y
  right-told o k y e = by_test (is_shift o) e
    where
      by_test : (b : Bool) → (if b then is_integer y else y.value (integer k)) ≡ true → Told y
      by_test true e = integer-told y e
      by_test false e = told_value (integer k) e

  pub operate-well : (o : Arith) (k : Kind) (x y : Typing) (a b : Act Value) (s : State) → Sound P locals s → Operand x a → Operand y b
      → Told (allowed (x.value (integer k) && is_right_operand o k y) (of_value (operated_type o k)))
      → Well P locals s (λ v u. Fit P u (allowed (x.value (integer k) && is_right_operand o k y) (of_value (operated_type o k))) v) (using a >>= (λ v. using b >>= (λ w. operated o k v w)))
  operate-well o k x y a b s h op oq told =
      let e = (allowed-told (x.value (integer k) && is_right_operand o k y) (of_value (operated_type o k)) told).0 in
      let parts = both (x.value (integer k)) (is_right_operand o k y) e in
      let uses : Uses P locals x y = record {
        first = told_value (integer k) parts.0;
        second = right-told o k y parts.1;
        first_solid = solid-value P locals x (integer k) parts.0 refl;
        second_solid = right-solid P locals o k y parts.1;
      } in
      two-well x y a b (operated o k) s h uses op oq (λ v w u c f g.
      well-as P locals u (operated o k v w) (well-operation P locals u o k v w c (f.value (integer k) parts.0) (right-operand P locals u o k y w parts.1 g)) (λ v z d n.
      inr (fits-allowed P z (x.value (integer k) && is_right_operand o k y) (of_value (operated_type o k)) v e
      (subst (λ a. Fits P z (of_value a) v) (sym (result-type o k)) (fits-value P z (integer (result_kind o k)) v n)))))

  pub unary-well : (o : UnaryOperator) (k : Kind) (x : Typing) (a : Act Value) (s : State) → Sound P locals s → Operand x a → Told (allowed (x.value (integer k)) (of_value (integer k)))
      → Well P locals s (λ v u. Fit P u (allowed (x.value (integer k)) (of_value (integer k))) v) (using a >>= signed o k)
  unary-well o k x a s h op told =
      let e = (allowed-told (x.value (integer k)) (of_value (integer k)) told).0 in
      well-then P locals s (using a) (signed o k) (well-using P locals s x a (op.by s h (told_value (integer k) e)) (solid-value P locals x (integer k) e refl)) (λ v u b f.
      let n = f.value (integer k) e in
      subst (λ y. Well P locals u (λ v w. Fit P w (allowed (x.value (integer k)) (of_value (integer k))) v) (signed o k y)) (sym n.1)
      (well-as P locals u (signed o k (Number n.0)) (well-signed P locals u o k n.0 b.sound n.2) (λ v w c i.
      inr (fits-allowed P w (x.value (integer k)) (of_value (integer k)) v e (fits-value P w (integer k) v i)))))

  -- ---- conditions

  pub test-well : (x : Typing) (a : Act Value) (s : State) → Sound P locals s → Operand x a → is_condition x ≡ true → Well P locals s (λ b u. Unit {0}) (a >>= truth_of)
  test-well x a s h op e = well-then P locals s a truth_of (op.by s h (condition-told x e)) (λ v u b f. well-condition P locals u x v b.sound e f)

  int-fits : (c : Bool) (u : State) (b : Bool) → c ≡ true → Fit P u (allowed c (of_value (integer Int))) (truth_value b)
  int-fits c u b e = inr (fits-allowed P u c (of_value (integer Int)) (truth_value b) e (fits-value P u (integer Int) (truth_value b) (truth-number P locals b)))

  truth-well : (c : Bool) (u : State) (b : Bool) → c ≡ true → Sound P locals u → Well P locals u (λ v w. Fit P w (allowed c (of_value (integer Int))) v) (gives (truth_value b))
  truth-well c u b e h = well-gives P locals u (truth_value b) h (int-fits c u b e)

  pub not-well : (x : Typing) (a : Act Value) (s : State) → Sound P locals s → Operand x a → Told (allowed (is_condition x) (of_value (integer Int)))
      → Well P locals s (λ v u. Fit P u (allowed (is_condition x) (of_value (integer Int))) v) (a >>= truth_of >>= (λ b. gives (truth_value (not b))))
  not-well x a s h op told =
      let e = (allowed-told (is_condition x) (of_value (integer Int)) told).0 in
      well-then P locals s (a >>= truth_of) (λ b. gives (truth_value (not b))) (test-well x a s h op e) (λ b u c q. truth-well (is_condition x) u (not b) e c.sound)

  second-well : (c : Bool) (y : Typing) (b : Act Value) (u : State) → Sound P locals u → Operand y b → is_condition y ≡ true → c ≡ true
      → Well P locals u (λ v w. Fit P w (allowed c (of_value (integer Int))) v) (b >>= truth_of >>= (λ z. gives (truth_value z)))
  second-well c y b u h op e k = well-then P locals u (b >>= truth_of) (λ z. gives (truth_value z)) (test-well y b u h op e) (λ z w d q. truth-well c w z k d.sound)

  pub and-well : (x y : Typing) (a b : Act Value) (s : State) → Sound P locals s → Operand x a → Operand y b → Told (allowed (is_condition x && is_condition y) (of_value (integer Int)))
      → Well P locals s (λ v u. Fit P u (allowed (is_condition x && is_condition y) (of_value (integer Int))) v)
      (a >>= truth_of >>= (λ t. when t (b >>= truth_of >>= (λ z. gives (truth_value z))) (gives (truth_value false))))
  and-well x y a b s h op oq told =
      let e = (allowed-told (is_condition x && is_condition y) (of_value (integer Int)) told).0 in
      let parts = both (is_condition x) (is_condition y) e in
      well-then P locals s (a >>= truth_of) (λ t. when t (b >>= truth_of >>= (λ z. gives (truth_value z))) (gives (truth_value false))) (test-well x a s h op parts.0) (λ t u c q.
      well-when P locals u t (b >>= truth_of >>= (λ z. gives (truth_value z))) (gives (truth_value false))
      (λ _. second-well (is_condition x && is_condition y) y b u c.sound oq parts.1 e) (λ _. truth-well (is_condition x && is_condition y) u false e c.sound))

  pub or-well : (x y : Typing) (a b : Act Value) (s : State) → Sound P locals s → Operand x a → Operand y b → Told (allowed (is_condition x && is_condition y) (of_value (integer Int)))
      → Well P locals s (λ v u. Fit P u (allowed (is_condition x && is_condition y) (of_value (integer Int))) v)
      (a >>= truth_of >>= (λ t. when t (gives (truth_value true)) (b >>= truth_of >>= (λ z. gives (truth_value z)))))
  or-well x y a b s h op oq told =
      let e = (allowed-told (is_condition x && is_condition y) (of_value (integer Int)) told).0 in
      let parts = both (is_condition x) (is_condition y) e in
      well-then P locals s (a >>= truth_of) (λ t. when t (gives (truth_value true)) (b >>= truth_of >>= (λ z. gives (truth_value z)))) (test-well x a s h op parts.0) (λ t u c q.
      well-when P locals u t (gives (truth_value true)) (b >>= truth_of >>= (λ z. gives (truth_value z)))
      (λ _. truth-well (is_condition x && is_condition y) u true e c.sound) (λ _. second-well (is_condition x && is_condition y) y b u c.sound oq parts.1 e))

  fit-either : (c : Bool) (z : Typing) (u : State) (v : Value) → c ≡ true → Fit P u z v → Fit P u (allowed c z) v
  fit-either c z u v e (inl m) = inl m
  fit-either c z u v e (inr f) = inr (fits-allowed P u c z v e f)

  first-fit : (x y : Typing) (u : State) (v : Value) → Fit P u x v → Fit P u (either x y) v
  first-fit x y u v (inl m) = inl m
  first-fit x y u v (inr f) = inr (fits-first P u x y v f)

  second-fit : (x y : Typing) (u : State) (v : Value) → Fit P u y v → Fit P u (either x y) v
  second-fit x y u v (inl m) = inl m
  second-fit x y u v (inr f) = inr (fits-second P u x y v f)

  pub conditional-well : (c x y : Typing) (d a b : Act Value) (s : State) → Sound P locals s → Operand c d → Operand x a → Operand y b → Told (allowed (is_condition c) (either x y))
      → Well P locals s (λ v u. Fit P u (allowed (is_condition c) (either x y)) v) (d >>= truth_of >>= (λ t. when t a b))
  conditional-well c x y d a b s h oc op oq told =
      let k = allowed-told (is_condition c) (either x y) told in
      let parts = either-told x y k.1 in
      well-then P locals s (d >>= truth_of) (λ t. when t a b) (test-well c d s h oc k.0) (λ t u e q.
      well-when P locals u t a b
      (λ _. well-as P locals u a (op.by u e.sound parts.0) (λ v w b f. fit-either (is_condition c) (either x y) w v k.0 (first-fit x y w v f)))
      (λ _. well-as P locals u b (oq.by u e.sound parts.1) (λ v w b f. fit-either (is_condition c) (either x y) w v k.0 (second-fit x y w v f))))

  -- ---- stores

  pub at-place : (t : SourceType) (u : State) (p : Place) → is_function (shape t) ≡ false → IsPlace u (shape t) p → Fits P u (of_place t) (At p)
  at-place t u p n k = fits-place P u t (At p) (n, k)

  pub store-well : (x y : Typing) (a b : Act Value) (s : State) → Sound P locals s → Operand x a → Operand y b → Told (stored scope x.place y)
      → Well P locals s (λ v u. Fit P u (stored scope x.place y) v) (placed a >>= (λ p. using b >>= (λ v. write_place [] p v >> gives (At p))))
  store-well x y a b s h op oq told =
      let th = stored-told scope x.place y told in
      let t = th.it in
      let n = scalar-no-function t th.so.0 in
      let solid = solid-value P locals y t th.so.1 (scalar-void t th.so.0) in
      let ok : is_scalar t && y.value t ≡ true = all-true _ _ th.so.0 th.so.1 in
      subst (λ z. Well P locals s (λ v u. Fit P u (stored scope z y) v) (placed a >>= (λ p. using b >>= (λ v. write_place [] p v >> gives (At p))))) (sym th.is)
      (well-then P locals s (placed a) (λ p. using b >>= (λ v. write_place [] p v >> gives (At p))) (place-operand x t a s h op th.is n) (λ p u c k.
      well-then P locals u (using b) (λ v. write_place [] p v >> gives (At p)) (well-using P locals u y b (oq.by u c.sound (told_value t th.so.1)) solid) (λ v w d f.
      let q = place-later u w (shape t) p d.later k in
      well-next P locals {Q = λ _ z. Unit {0}} w (write_place [] p v) (gives (At p)) (well-write P locals w t p v d.sound th.so.0 q (f.value t th.so.1)) (λ _ z e i.
      well-gives P locals z (At p) e.sound (inr (fits-allowed P z (is_scalar t && y.value t) (of_place t) (At p) ok (at-place t z p n (place-later w z (shape t) p e.later q))))))))
    where
      all-true : (a b : Bool) → a ≡ true → b ≡ true → (a && b) ≡ true
      all-true true b e f = f
      all-true false b e f = e

      scalar-void : (t : SourceType) → is_scalar t ≡ true → is_void t ≡ false
      scalar-void = scalar-no-void
