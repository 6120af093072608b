-- Changes in place, temporaries, conversions and what references bind.
use Rattle.std.proofs.Common.{◌≡◌, ℕ, Bool, true, false, ◌&&◌, ◌||◌, not, if◌then◌else◌, List, [], ◌∷◌, pos, ◌⊎◌, inl, inr, refl, sym, ap, ◌∙◌, subst, true≢false}
use Rattle.std.specs.Prelude.{Option, Some, None, is_some}
use Rattle.cf_base.proofs.Tests.{both}
use Rattle.cf_core.specs.Types.{SourceType, void, integer, enumeration, class, pointer, reference, array, takes, gives as gives_type, data_member, function_member, const, plain, is_class, parameters, result}
use Rattle.cf_core.specs.Core.{no_temporary, Change}
use Rattle.cf_core.specs.Places.{Place, is_scalar}
use Rattle.cf_core.specs.Store.{Value, Missing, Number, At}
use Rattle.cf_core.specs.Run.{State, Act, ◌>>=◌, ◌>>◌, gives, declared_object, frame_changed, lists_temporary}
use Rattle.cf_core.specs.Access.{using, placed, read_place, write_place}
use Rattle.cf_core.specs.Scalars.{converted_value, changed_value}
use Rattle.cf_core.specs.Calls.{Program, root}
use Rattle.cf_core.specs.Objects.{result_place, settle, settled}
use Rattle.cf_core.specs.Typing.{Scope, Typing, allowed, is_function, of_start, of_value, of_number, of_place, null_if, is_zero, pointed, changes, converts, same_type as type_is}
use Rattle.cf_core.specs.Typed.{changed_in_place, stepped, binds}
use Rattle.cf_core_sound.specs.Proper.{is_proper, Whole, shape}
use Rattle.cf_core_sound.specs.Values.{IsPlace, Leads, IsOf, Fits, Fit, Told, told_place, told_type, told_number, told_value, told_start}
use Rattle.cf_core_sound.specs.States.{Stands, Sound, Later}
use Rattle.cf_core_sound.specs.Well.{Well}
use Rattle.cf_core_sound.specs.Simple.{is_chain, leads_to_void, leads_to_function}
use Rattle.cf_core_sound.proofs.Shapes.{same-shape, scalar-shape, plain-shape}
use Rattle.cf_core_sound.proofs.Moments.{place-later, fits-later, is-later, stands-later}
use Rattle.cf_core_sound.proofs.States.{frame-behind}
use Rattle.cf_core_sound.proofs.Access.{Target, target-later, well-declared, well-settle-scalar, well-read, well-write}
use Rattle.cf_core_sound.proofs.Good.{Good}
use Rattle.cf_core_sound.proofs.Typings.{nothing-told, allowed-told, changed-told, integer-told, or-cases, fits-value, fits-place, fits-allowed, fits-null}
use Rattle.cf_core_sound.proofs.Pointing.{converted-plain}
use Rattle.cf_core_sound.proofs.Steps.{Changes, of_number as by_number, of_pointer as by_pointer, changes-told, changes-solid, well-changed, well-using}
use Rattle.cf_core_sound.proofs.Combined.{fits-number}
use Rattle.cf_core_sound.proofs.Converting.{converts-told, well-converted}
use Rattle.cf_core_sound.proofs.Parts.{Operand, place-operand, right-told, at-place}
use Rattle.cf_core_sound.proofs.Wells.{well-then, well-next, well-gives, well-as, well-changed as well-set}

no-test : false ≡ true → ⊥
no-test e = true≢false (sym e)

of-some : {A : Type 0} (a b : A) → Some a ≡ Some b → a ≡ b
of-some a b e = cc

none-is : {A : Type 0} (a : A) → None ≡ Some a → ⊥
none-is a e = absurd (cc)

not-true : (b : Bool) → not b ≡ true → b ≡ false
not-true true h = absurd (true≢false (sym h))
not-true false h = refl

-- what a reference binds
record Binds (x : Typing) (t : SourceType) : Type 0 where
  to : SourceType
  place : SourceType
  is : x.place ≡ Some place
  reference : shape t ≡ reference (shape to)
  same : shape place ≡ shape to

binds-told : (scope : Scope) (x : Typing) (t : SourceType) → binds scope no_temporary x t ≡ true → Binds x t
binds-told scope x (reference t) e = by_place x.place refl e
  where
    by_place : (o : Option SourceType) → x.place ≡ o → type_is o t ≡ true → Binds x (reference t)
    by_place None is e = absurd (no-test e)
    by_place (Some u) is e = record { to = t; place = u; is = is; reference = refl; same = same-shape u t e }
binds-told scope x (const t) e = let b = binds-told scope x t e in record { to = b.to; place = b.place; is = b.is; reference = b.reference; same = b.same }
binds-told scope x void e = absurd (no-test e)
binds-told scope x (integer k) e = absurd (no-test e)
binds-told scope x (enumeration n) e = absurd (no-test e)
binds-told scope x (class c) e = absurd (no-test e)
binds-told scope x (pointer t) e = absurd (no-test e)
binds-told scope x (array t n) e = absurd (no-test e)
binds-told scope x (takes p t) e = absurd (no-test e)
binds-told scope x (gives_type t c) e = absurd (no-test e)
binds-told scope x (data_member c t) e = absurd (no-test e)
binds-told scope x (function_member c t) e = absurd (no-test e)

-- the function that is called through a pointer
pub record Called (x : Typing) (t : SourceType) : Type 0 where
  pub value : (x.value (pointer t) ≡ true) ⊎ ((u : SourceType) × (x.place ≡ Some u) × (shape u ≡ shape t))

pub called-told : (x : Typing) (t : SourceType) → (x.value (pointer t) || type_is x.place t) ≡ true → Called x t
called-told x t e = by_case (or-cases (x.value (pointer t)) (type_is x.place t) e)
  where
    by_place : (o : Option SourceType) → x.place ≡ o → type_is o t ≡ true → Called x t
    by_place None is e = absurd (no-test e)
    by_place (Some u) is e = record { value = inr (u, is, same-shape u t e) }

    by_case : (x.value (pointer t) ≡ true) ⊎ (type_is x.place t ≡ true) → Called x t
    by_case (inl e) = record { value = inl e }
    by_case (inr e) = by_place x.place refl e

pub chain-function : (t : SourceType) → is_chain t ≡ true → is_function (shape t) ≡ true
chain-function (takes p t) e = refl
chain-function (gives_type t c) e = refl
chain-function void e = absurd (no-test e)
chain-function (integer k) e = absurd (no-test e)
chain-function (enumeration n) e = absurd (no-test e)
chain-function (class c) e = absurd (no-test e)
chain-function (pointer t) e = absurd (no-test e)
chain-function (reference t) e = absurd (no-test e)
chain-function (array t n) e = absurd (no-test e)
chain-function (data_member c t) e = absurd (no-test e)
chain-function (function_member c t) e = absurd (no-test e)
chain-function (const t) e = absurd (no-test e)

abbrev pub AllProper : List SourceType → Type 0
AllProper [] = Unit {0}
AllProper (t ∷ ts) = (is_proper t ≡ true) × AllProper ts

pub parameters-proper : (t : SourceType) → is_proper t ≡ true → AllProper (parameters t)
parameters-proper (takes p t) h = let parts = both (is_proper p) (is_proper t) h in (parts.0, parameters-proper t parts.1)
parameters-proper (gives_type t c) h = tt
parameters-proper void h = tt
parameters-proper (integer k) h = tt
parameters-proper (enumeration n) h = tt
parameters-proper (class c) h = tt
parameters-proper (pointer t) h = tt
parameters-proper (reference t) h = tt
parameters-proper (array t n) h = tt
parameters-proper (data_member c t) h = tt
parameters-proper (function_member c t) h = tt
parameters-proper (const t) h = tt

pub result-none : (t : SourceType) (into : Option Place) → is_class (result t) ≡ false → result_place t into ≡ None
result-none t into e = ap (λ b. if b then into else None) e

-- ---- changes, temporaries, conversions and bindings

module _ (P : Program) (scope : Scope) (locals : List SourceType) where
  changes-scalar : (c : Change) (t : SourceType) (y : Typing) → Changes P locals c t y → is_scalar t ≡ true
  changes-scalar c t y (by_number o k to e s r) = sym (scalar-shape t) ∙ ap is_scalar s
  changes-scalar c t y (by_pointer back e m i) = sym (scalar-shape t) ∙ ap is_scalar m.is

  changes-second : (c : Change) (t : SourceType) (y : Typing) → Changes P locals c t y → Told y
  changes-second c t y (by_number o k to e s r) = right-told P scope locals o k y r
  changes-second c t y (by_pointer back e m i) = integer-told y i

  scalar-no-function : (t : SourceType) → is_scalar t ≡ true → is_function (shape t) ≡ false
  scalar-no-function t e = by_shape (shape t) (scalar-shape t ∙ e)
    where
      by_shape : (a : SourceType) → is_scalar a ≡ true → is_function a ≡ false
      by_shape (takes p t) e = absurd (no-test e)
      by_shape (gives_type t c) e = absurd (no-test e)
      by_shape void e = refl
      by_shape (integer k) e = refl
      by_shape (enumeration n) e = refl
      by_shape (class c) e = refl
      by_shape (pointer t) e = refl
      by_shape (reference t) e = refl
      by_shape (array t n) e = refl
      by_shape (data_member c t) e = refl
      by_shape (function_member c t) e = refl
      by_shape (const t) e = refl

  -- the place is read, its value changed and written
  change-well : {R : Value → State → Type 0} (u : State) (t : SourceType) (c : Change) (y : Typing) (p : Place) (w : Value) (give : Value → Value) → Sound P locals u → is_proper t ≡ true → Changes P locals c t y
      → IsPlace u (shape t) p → Fits P u y w
      → ((x : Value) (z : State) → Sound P locals z → IsPlace z (shape t) p → IsOf P z (shape t) x → R (give x) z)
      → Well P locals u R (read_place [] p >>= (λ x. changed_value [] c x w >>= (λ z. write_place [] p z >> gives (give x))))
  change-well {R} u t c y p w give h proper ch k f end =
      well-then P locals u (read_place [] p) (λ x. changed_value [] c x w >>= (λ z. write_place [] p z >> gives (give x))) (well-read P locals u t p h (changes-scalar c t y ch) k) (λ x v d i.
      well-then P locals v (changed_value [] c x w) (λ z. write_place [] p z >> gives (give x)) (well-changed P locals v c t y x w d.sound proper ch i (fits-later P u v d.later y w f)) (λ z n e j.
      well-next P locals {Q = λ _ q. Unit {0}} n (write_place [] p z) (gives (give x)) (well-write P locals n t p z e.sound (changes-scalar c t y ch) (place-later v n (shape t) p e.later (place-later u v (shape t) p d.later k)) j) (λ _ m g q.
      well-gives P locals m (give x) g.sound (end x m g.sound (place-later n m (shape t) p g.later (place-later v n (shape t) p e.later (place-later u v (shape t) p d.later k)))
      (is-later P n m g.later (shape t) x (is-later P v n e.later (shape t) x i))))))

  pub update-well : (c : Change) (x y : Typing) (a b : Act Value) (s : State) → Sound P locals s → Good x → Operand P scope locals x a → Operand P scope locals y b → Told (changed_in_place scope x.place (changes c x.place y))
      → Well P locals s (λ v u. Fit P u (changed_in_place scope x.place (changes c x.place y)) v)
      (placed a >>= (λ p. using b >>= (λ w. read_place [] p >>= (λ x. changed_value [] c x w >>= (λ z. write_place [] p z >> gives (At p))))))
  update-well c x y a b s h g op oq told =
      let th = changed-told scope x.place (changes c x.place y) told in
      let t = th.it in
      let ok : changes c (Some t) y ≡ true = ap (λ o. changes c o y) (sym th.is) ∙ th.so in
      let ch = changes-told P locals c t y ok in
      let n = scalar-no-function t (changes-scalar c t y ch) in
      subst (λ o. Well P locals s (λ v u. Fit P u (changed_in_place scope o (changes c o y)) v)
      (placed a >>= (λ p. using b >>= (λ w. read_place [] p >>= (λ x. changed_value [] c x w >>= (λ z. write_place [] p z >> gives (At p))))))) (sym th.is)
      (well-then P locals s (placed a) (λ p. using b >>= (λ w. read_place [] p >>= (λ x. changed_value [] c x w >>= (λ z. write_place [] p z >> gives (At p)))))
      (place-operand P scope locals x t a s h op th.is n) (λ p u d k.
      well-then P locals u (using b) (λ w. read_place [] p >>= (λ x. changed_value [] c x w >>= (λ z. write_place [] p z >> gives (At p))))
      (well-using P locals u y b (oq.by u d.sound (changes-second c t y ch)) (changes-solid P locals c t y ch)) (λ w v e f.
      change-well v t c y p w (λ x. At p) e.sound (g.place t th.is).proper ch (place-later u v (shape t) p e.later k) f (λ x z q i j.
      inr (fits-allowed P z (changes c (Some t) y) (of_place t) (At p) ok (at-place P scope locals t z p n i))))))

  pub step-well : (after : Bool) (c : Change) (x : Typing) (a : Act Value) (s : State) → Sound P locals s → Good x → Operand P scope locals x a → Told (stepped scope after c x.place)
      → Well P locals s (λ v u. Fit P u (stepped scope after c x.place) v)
      (placed a >>= (λ p. read_place [] p >>= (λ x. changed_value [] c x (Number (pos 1)) >>= (λ z. write_place [] p z >> gives (if after then x else At p)))))
  step-well after c x a s h g op told = by_place x.place refl told
    where
      act : Act Value
      act = placed a >>= (λ p. read_place [] p >>= (λ x. changed_value [] c x (Number (pos 1)) >>= (λ z. write_place [] p z >> gives (if after then x else At p))))

      choice : (b : Bool) (t : SourceType) (p : Place) (x : Value) (z : State) → is_function (shape t) ≡ false → IsPlace z (shape t) p → IsOf P z (shape t) x
          → Fits P z (if b then of_value (plain t) else of_place t) (if b then x else At p)
      choice true t p x z n i j = fits-value P z (plain t) x (subst (λ a. IsOf P z a x) (sym (plain-shape t)) j)
      choice false t p x z n i j = at-place P scope locals t z p n i

      by_place : (o : Option SourceType) → x.place ≡ o → Told (stepped scope after c o)
          → Well P locals s (λ v u. Fit P u (stepped scope after c x.place) v)
          (placed a >>= (λ p. read_place [] p >>= (λ x. changed_value [] c x (Number (pos 1)) >>= (λ z. write_place [] p z >> gives (if after then x else At p)))))
      by_place None is k = absurd (nothing-told k)
      by_place (Some t) is k =
          let ok = (allowed-told (changes c (Some t) (of_number (pos 1))) (if after then of_value (plain t) else of_place t) k).0 in
          let ch = changes-told P locals c t (of_number (pos 1)) ok in
          let n = scalar-no-function t (changes-scalar c t (of_number (pos 1)) ch) in
          subst (λ o. Well P locals s (λ v u. Fit P u (stepped scope after c o) v)
          (placed a >>= (λ p. read_place [] p >>= (λ x. changed_value [] c x (Number (pos 1)) >>= (λ z. write_place [] p z >> gives (if after then x else At p)))))) (sym is)
          (well-then P locals s (placed a) (λ p. read_place [] p >>= (λ x. changed_value [] c x (Number (pos 1)) >>= (λ z. write_place [] p z >> gives (if after then x else At p))))
          (place-operand P scope locals x t a s h op is n) (λ p u d k.
          change-well u t c (of_number (pos 1)) p (Number (pos 1)) (λ x. if after then x else At p) d.sound (g.place t is).proper ch k (fits-number P u (pos 1)) (λ x z q i j.
          inr (fits-allowed P z (changes c (Some t) (of_number (pos 1))) (if after then of_value (plain t) else of_place t) (if after then x else At p) ok (choice after t p x z n i j)))))

  -- what a scalar's object begins with
  pub settled-well : (s : State) (t : SourceType) (o : ℕ) (x : Typing) (act : Act Value) → Sound P locals s → Target s t (root o) → is_scalar t ≡ true → x.start t ≡ true → Operand P scope locals x act
      → Well P locals s (λ _ u. is_some ((u.object o).held []) ≡ true) (settled [] (root o) act)
  settled-well s t o x act h at sc e op =
      well-then P locals s act (settle [] (root o)) (op.by s h (told_start t e)) (λ v u b f.
      well-settle-scalar P locals u t (root o) v b.sound (target-later s u t (root o) b.later at) sc (started u v f))
    where
      started : (u : State) (v : Value) → Fit P u x v → (v ≡ Missing) ⊎ IsOf P u (shape t) v
      started u v (inl m) = inl m
      started u v (inr f) = inr (f.start t e)

  pub target-stands : (s u : State) (t : SourceType) (o : ℕ) → Later s u → Target s t (root o) → Stands u t o
  target-stands s u t o l at = let q = target-later s u t (root o) l at in record { below = q.below; same = ap shape q.is }

  pub temporary-well : (t : SourceType) (x : Typing) (act : ℕ → Act Value) (s : State) → Sound P locals s → Whole t → is_scalar t ≡ true → ((o : ℕ) → Operand P scope locals x (act o)) → Told (allowed (x.start t) (of_place t))
      → Well P locals s (λ v u. Fit P u (allowed (x.start t) (of_place t)) v)
      (declared_object t >>= (λ o. settled [] (root o) (act o) >> (frame_changed (lists_temporary o) >> gives (At (root o)))))
  temporary-well t x act s h whole sc op told =
      let e = (allowed-told (x.start t) (of_place t) told).0 in
      well-then P locals s (declared_object t) (λ o. settled [] (root o) (act o) >> (frame_changed (lists_temporary o) >> gives (At (root o)))) (well-declared P locals s t h whole.proper) (λ o u b at.
      well-next P locals u (settled [] (root o) (act o)) (frame_changed (lists_temporary o) >> gives (At (root o))) (settled-well u t o x (act o) b.sound at sc e (op o)) (λ _ v c k.
      well-next P locals v (frame_changed (lists_temporary o)) (gives (At (root o))) (well-set P locals v _ (frame-behind P locals v c.sound (lists_temporary o v.frame) refl refl refl)) (λ _ w d m.
      let st = stands-later v w t o d.later (target-stands u v t o c.later at) in
      well-gives P locals w (At (root o)) d.sound (inr (fits-allowed P w (x.start t) (of_place t) (At (root o)) e
      (fits-place P w t (At (root o)) (scalar-no-function t sc, record { below = st.below; same = inr st.same; near = tt })))))))

  pub convert-well : (t : SourceType) (x : Typing) (act : Act Value) (s : State) → Sound P locals s → Good x → not (leads_to_void (plain t) && leads_to_function (pointed x.type)) ≡ true → Operand P scope locals x act
      → Told (allowed (converts (plain t) x) (null_if (is_zero x.number) (of_value (plain t))))
      → Well P locals s (λ v u. Fit P u (allowed (converts (plain t) x) (null_if (is_zero x.number) (of_value (plain t)))) v) (act >>= converted_value t)
  convert-well t x act s h g k op told =
      let e = (allowed-told (converts (plain t) x) (null_if (is_zero x.number) (of_value (plain t))) told).0 in
      well-then P locals s act (converted_value t) (op.by s h (converts-told (plain t) x e)) (λ v u b f.
      subst (λ go. Well P locals u (λ v u. Fit P u (allowed (converts (plain t) x) (null_if (is_zero x.number) (of_value (plain t)))) v) go) (converted-plain t v)
      (well-as P locals u (converted_value (plain t) v) (well-converted P locals (plain t) u x v b.sound g e k f) (λ v w c f. allowed-fit w v e f)))
    where
      allowed-fit : (w : State) (v : Value) → converts (plain t) x ≡ true → Fit P w (of_value (plain t)) v → Fit P w (allowed (converts (plain t) x) (null_if (is_zero x.number) (of_value (plain t)))) v
      allowed-fit w v e (inl m) = inl m
      allowed-fit w v e (inr f) = inr (fits-allowed P w (converts (plain t) x) _ v e (fits-null P w (is_zero x.number) (of_value (plain t)) v f))

  pub bind-well : (x : Typing) (act : Act Value) (s : State) → Sound P locals s → Operand P scope locals x act → Told (of_start (binds scope no_temporary x))
      → Well P locals s (λ v u. Fit P u (of_start (binds scope no_temporary x)) v) act
  bind-well x act s h op told = well-as P locals s act (op.by s h (place told)) (λ v u b f. fit u v f)
    where
      place : Told (of_start (binds scope no_temporary x)) → Told x
      place (told_place t e) = absurd (none-is t e)
      place (told_type t e) = absurd (none-is t e)
      place (told_number z e) = absurd (none-is z e)
      place (told_value t e) = absurd (no-test e)
      place (told_start t e) = let b = binds-told scope x t e in told_place b.place b.is

      fit : (u : State) (v : Value) → Fit P u x v → Fit P u (of_start (binds scope no_temporary x)) v
      fit u v (inl m) = inl m
      fit u v (inr f) = inr (record {
        place = λ t e. absurd (none-is t e);
        type = λ t e. absurd (none-is t e);
        number = λ z e. absurd (none-is z e);
        value = λ t e. absurd (no-test e);
        start = λ t e. let b = binds-told scope x t e in
            subst (λ a. IsOf P u a v) (sym b.reference) (subst (λ a. Leads P u a v) b.same (f.place b.place b.is));
      })
