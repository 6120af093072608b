-- Expressions: from a sound moment none is malformed, and what it gives is as its typing says.
use Rattle.std.proofs.Common.{◌≡◌, ℕ, Bool, true, false, ◌&&◌, not, List, [], ◌∷◌, length, ◌⊎◌, inl, inr, refl, sym, ◌∙◌, subst, true≢false}
use Rattle.std.specs.Prelude.{Option, Some, None, is_some}
use Rattle.cf_base.proofs.Tests.{both}
use Rattle.cf_base.specs.declared.kind.Kind.TheVariants.{Char}
use Rattle.cf_core.specs.Types.{SourceType, integer, pointer, array, is_class, parameters, result}
use Rattle.cf_core.specs.Core as core
use Rattle.cf_core.specs.Core.{Core, Cores, no_temporary, absent, given, Function, Static, Change}
use Rattle.cf_core.specs.Places.{Place}
use Rattle.cf_core.specs.Store.{Value, Nothing, Missing, Built, Number, Null, At, Code, DataMember, FunctionMember}
use Rattle.cf_core.specs.Run.{State, ◌>>=◌, ◌>>◌, gives, declared_object}
use Rattle.cf_core.specs.Access.{using}
use Rattle.cf_core.specs.Calls.{Program, Setting, Again, root, run_named, name_function}
use Rattle.cf_core.specs.Objects.{result_place, literal_object, settled, run_pointer}
use Rattle.cf_core.specs.Expressions.{value, last_value, arguments}
use Rattle.cf_core.specs.Typing.{Scope, Typing, allowed, is_function, of_place, of_result, is_expression}
use Rattle.cf_core.specs.Typed.{typing, typings, last_typing, fit, on_object, is_called}
use Rattle.cf_core_sound.specs.Proper.{is_proper, shape}
use Rattle.cf_core_sound.specs.Values.{Leads, IsOf, Fits, Fit, Told, told_place, told_value}
use Rattle.cf_core_sound.specs.States.{Sound, Later}
use Rattle.cf_core_sound.specs.Well.{Well}
use Rattle.cf_core_sound.specs.Simple.{is_simple, are_simple, are_arguments, is_whole, is_chain, is_called_type, function_fits, has_object, keeps_functions}
use Rattle.cf_core_sound.specs.Calls.{Bodies, Around, classless}
use Rattle.cf_core_sound.proofs.Shapes.{function-shape, whole-tested}
use Rattle.cf_core_sound.proofs.Moments.{fits-later, stands-later}
use Rattle.cf_core_sound.proofs.Access.{Target, well-declared}
use Rattle.cf_core_sound.proofs.Forms.{keeps-typed}
use Rattle.cf_core_sound.proofs.Good.{Good, good}
use Rattle.cf_core_sound.proofs.Typings.{allowed-told, fits-place, fits-allowed}
use Rattle.cf_core_sound.proofs.Steps.{Solid, solid-place, solid-value, well-using}
use Rattle.cf_core_sound.proofs.Combined.{fits-number}
use Rattle.cf_core_sound.proofs.Converting.{expression-told}
use Rattle.cf_core_sound.proofs.Names.{well-local, well-static, well-named, well-literal}
use Rattle.cf_core_sound.proofs.Calling.{ArgsStand, run-well}
use Rattle.cf_core_sound.proofs.Parts.{read-well, address-well, dereference-well, decay-well, from-void-well, index-well, pointer-node, operate-well, unary-well, not-well, and-well, or-well, conditional-well, store-well}
use Rattle.cf_core_sound.proofs.Changing.{AllProper, parameters-proper, result-none, Called, called-told, chain-function, target-stands, settled-well, update-well, step-well, temporary-well, convert-well, bind-well}
use Rattle.cf_core_sound.proofs.Wells.{well-then, well-next, well-gives, well-as, well-undefined}

no-test : false ≡ true → ⊥
no-test e = true≢false (sym e)

of-some : {A : Type 0} (a b : A) → Some a ≡ Some b → a ≡ b
of-some a b e = cc

not-true : (b : Bool) → not b ≡ true → b ≡ false
not-true true h = absurd (true≢false (sym h))
not-true false h = refl

three : (a b c : Bool) → (a && b && c) ≡ true → (a ≡ true) × (b ≡ true) × (c ≡ true)
three true true c e = (refl, refl, e)
three true false c e = absurd (no-test e)
three false b c e = absurd (no-test e)

-- the objects of arguments; one alone holds its value, and where there is none the moment is the same
record Given (s u : State) (ts : List SourceType) (os : List ℕ) : Type 0 where
  stand : ArgsStand u ts os
  one : (o : ℕ) → os ≡ o ∷ [] → is_some ((u.object o).held []) ≡ true
  same : os ≡ [] → u ≡ s

module _ (again : Again) (fs : List Function) (xs : List Static) (ks : List Setting) (inits : List Function) (scope : Scope)
    (around : Around (classless fs xs ks inits) scope.locals) (bodies : Bodies (classless fs xs ks inits) again) where
  abbrev P : Program
  P = classless fs xs ks inits

  abbrev L : List SourceType
  L = scope.locals

  G : (e : Core) → is_simple P scope e ≡ true → Good (typing scope e)
  G e ok = good P scope (λ i t k. (around.locals i t k).0) e ok

  -- a function that leads on to what it is called with
  run-pointer : (s : State) (t : SourceType) (v : Value) (os : List ℕ) → Sound P L s → is_chain t ≡ true → ArgsStand s (parameters t) os
      → ((o : ℕ) → os ≡ o ∷ [] → is_some ((s.object o).held []) ≡ true) → IsOf P s (pointer (shape t)) v
      → Well P L s (λ v u. Fit P u (of_result (result t)) v) (run_pointer again P None v os None)
  run-pointer s t v os h chain args one (inl e) = subst (λ y. Well P L s (λ v u. Fit P u (of_result (result t)) v) (run_pointer again P None y os None)) (sym e) (well-undefined P L s 4)
  run-pointer s t Nothing os h chain args one (inr l) = absurd l
  run-pointer s t Missing os h chain args one (inr l) = absurd l
  run-pointer s t Built os h chain args one (inr l) = absurd l
  run-pointer s t (Number z) os h chain args one (inr l) = absurd l
  run-pointer s t Null os h chain args one (inr l) = absurd l
  run-pointer s t (At p) os h chain args one (inr l) = absurd (true≢false (sym (chain-function t chain) ∙ l.0))
  run-pointer s t (Code f) os h chain args one (inr l) = run-well P L again bodies s f t os h chain l.1 args one
  run-pointer s t (DataMember path i) os h chain args one (inr l) = absurd l
  run-pointer s t (FunctionMember path f) os h chain args one (inr l) = absurd l

  called-solid : (x : Typing) (t : SourceType) → Called x t → (Told x) × Solid P L x
  called-solid x t c = by_case c.value
    where
      by_case : (x.value (pointer t) ≡ true) ⊎ ((u : SourceType) × (x.place ≡ Some u) × (shape u ≡ shape t)) → (Told x) × Solid P L x
      by_case (inl e) = (told_value (pointer t) e, solid-value P L x (pointer t) e refl)
      by_case (inr k) = (told_place k.0 k.1, solid-place P L x k.0 k.1)

  called-value : (s : State) (x : Typing) (t : SourceType) (v : Value) → Called x t → Fits P s x v → IsOf P s (pointer (shape t)) v
  called-value s x t v c f = by_case c.value
    where
      by_case : (x.value (pointer t) ≡ true) ⊎ ((u : SourceType) × (x.place ≡ Some u) × (shape u ≡ shape t)) → IsOf P s (pointer (shape t)) v
      by_case (inl e) = f.value (pointer t) e
      by_case (inr k) = inr (subst (λ a. Leads P s a v) k.2 (f.place k.0 k.1))

  record CallType (t : SourceType) : Type 0 where
    no_class : is_class (result t) ≡ false
    chain : is_chain t ≡ true
    proper : is_proper t ≡ true

  call-type : (t : SourceType) → is_called_type t ≡ true → CallType t
  call-type t e =
      let parts = both (not (is_class (result t))) (is_chain t && is_proper t) e in
      let inner = both (is_chain t) (is_proper t) parts.1 in
      record { no_class = not-true (is_class (result t)) parts.0; chain = inner.0; proper = inner.1 }

  fit-allowed : (c : Bool) (z : Typing) (u : State) (v : Value) → c ≡ true → Fit P u z v → Fit P u (allowed c z) v
  fit-allowed c z u v e (inl m) = inl m
  fit-allowed c z u v e (inr f) = inr (fits-allowed P u c z v e f)

  given-more : (s u v w : State) (t : SourceType) (ts : List SourceType) (o : ℕ) (os : List ℕ) → Later u v → Later v w → Target u t (root o) → is_some ((v.object o).held []) ≡ true → Given v w ts os → Given s w (t ∷ ts) (o ∷ os)
  given-more s u v w t ts o os l m at held g = record {
    stand = (stands-later v w t o m (target-stands P scope L u v t o l at), g.stand);
    one = λ q e. one q e;
    same = λ e. absurd (cc);
  }
    where
      head : (a b : ℕ) (ps qs : List ℕ) → a ∷ ps ≡ b ∷ qs → a ≡ b
      head a b ps qs e = cc

      tail : (a b : ℕ) (ps qs : List ℕ) → a ∷ ps ≡ b ∷ qs → ps ≡ qs
      tail a b ps qs e = cc

      one : (q : ℕ) → o ∷ os ≡ q ∷ [] → is_some ((w.object q).held []) ≡ true
      one q e =
          subst (λ i. is_some ((w.object i).held []) ≡ true) (head o q os [] e)
          (subst (λ (x : State). is_some ((x.object o).held []) ≡ true) (sym (g.same (tail o q os [] e))) held)

  mutual
    pub value-well : (e : Core) → is_simple P scope e ≡ true → Told (typing scope e) → (into : Option Place) (s : State) → Sound P L s → Well P L s (λ v u. Fit P u (typing scope e) v) (value again P e into)
    value-well (core.number z) ok told into s h = well-gives P L s (Number z) h (inr (fits-number P s z))
    value-well (core.text j bytes) ok told into s h =
        well-then P L s (literal_object j bytes) (λ o. gives (At (root o))) (well-literal P L s j bytes h ok) (λ o u b st.
        well-gives P L u (At (root o)) b.sound (inr (fits-place P u (array (integer Char) (length bytes)) (At (root o)) (refl, record { below = st.below; same = inr st.same; near = tt }))))
    value-well (core.local i) ok told into s h = well-local P L s i h told (around.locals i)
    value-well (core.static_object n t) ok told into s h =
        let parts = both (is_proper t) (has_object P n) ok in
        well-static P L s n t h parts.0 parts.1 around.statics
    value-well (core.function n t) ok told into s h =
        let parts = both (is_proper t) (function_fits P n t) ok in
        let e = (allowed-told (is_function t) (of_place t) told).0 in
        well-next P L s (name_function P n t) (gives (Code n)) (well-named P L s n t h parts.1) (λ _ u b f.
        well-gives P L u (Code n) b.sound (inr (fits-allowed P u (is_function t) (of_place t) (Code n) e (fits-place P u t (Code n) (function-shape t parts.0 ∙ e, f)))))
    value-well (core.read e) ok told into s h = read-well P scope L (typing scope e) (value again P e None) s h (record { by = λ s h told. value-well e ok told None s h }) told
    value-well (core.address e) ok told into s h = address-well P scope L (typing scope e) (value again P e None) s h (record { by = λ s h told. value-well e ok told None s h }) told
    value-well (core.dereference e) ok told into s h = dereference-well P scope L (typing scope e) (value again P e None) s h (record { by = λ s h told. value-well e ok told None s h }) told
    value-well (core.decay e) ok told into s h = decay-well P scope L (typing scope e) (value again P e None) s h (G e ok) (record { by = λ s h told. value-well e ok told None s h }) told
    value-well (core.from_void t e) ok told into s h =
        let parts = both (is_whole t) (not (is_function t) && is_simple P scope e) ok in
        let inner = both (not (is_function t)) (is_simple P scope e) parts.1 in
        from-void-well P scope L t (typing scope e) (value again P e None) s h (whole-tested t parts.0) (not-true (is_function t) inner.0) (record { by = λ s h told. value-well e inner.1 told None s h }) told
    value-well (core.index a b) ok told into s h =
        let parts = both (is_simple P scope a) (is_simple P scope b) ok in
        index-well P scope L (typing scope a) (typing scope b) (value again P a None) (value again P b None) s h (G a parts.0) (G b parts.1) (record { by = λ s h told. value-well a parts.0 told None s h }) (record { by = λ s h told. value-well b parts.1 told None s h }) told
    value-well (core.pointer_operate o a b) ok told into s h =
        let parts = both (is_simple P scope a) (is_simple P scope b) ok in
        pointer-node P scope L o (typing scope a) (typing scope b) (value again P a None) (value again P b None) s h (G a parts.0) (G b parts.1) (record { by = λ s h told. value-well a parts.0 told None s h }) (record { by = λ s h told. value-well b parts.1 told None s h }) told
    value-well (core.convert t e) ok told into s h =
        let parts = both (is_whole t) (keeps_functions P scope t e && is_simple P scope e) ok in
        let inner = both (keeps_functions P scope t e) (is_simple P scope e) parts.1 in
        convert-well P scope L t (typing scope e) (value again P e None) s h (G e inner.1) (keeps-typed P scope t e inner.1 inner.0) (record { by = λ s h told. value-well e inner.1 told None s h }) told
    value-well (core.operate o k a b) ok told into s h =
        let parts = both (is_simple P scope a) (is_simple P scope b) ok in
        operate-well P scope L o k (typing scope a) (typing scope b) (value again P a None) (value again P b None) s h (record { by = λ s h told. value-well a parts.0 told None s h }) (record { by = λ s h told. value-well b parts.1 told None s h }) told
    value-well (core.unary o k e) ok told into s h = unary-well P scope L o k (typing scope e) (value again P e None) s h (record { by = λ s h told. value-well e ok told None s h }) told
    value-well (core.logical_not e) ok told into s h = not-well P scope L (typing scope e) (value again P e None) s h (record { by = λ s h told. value-well e ok told None s h }) told
    value-well (core.logical_and a b) ok told into s h =
        let parts = both (is_simple P scope a) (is_simple P scope b) ok in
        and-well P scope L (typing scope a) (typing scope b) (value again P a None) (value again P b None) s h (record { by = λ s h told. value-well a parts.0 told None s h }) (record { by = λ s h told. value-well b parts.1 told None s h }) told
    value-well (core.logical_or a b) ok told into s h =
        let parts = both (is_simple P scope a) (is_simple P scope b) ok in
        or-well P scope L (typing scope a) (typing scope b) (value again P a None) (value again P b None) s h (record { by = λ s h told. value-well a parts.0 told None s h }) (record { by = λ s h told. value-well b parts.1 told None s h }) told
    value-well (core.conditional c a b) ok told into s h =
        let parts = both (is_simple P scope c) (is_simple P scope a && is_simple P scope b) ok in
        let inner = both (is_simple P scope a) (is_simple P scope b) parts.1 in
        conditional-well P scope L (typing scope c) (typing scope a) (typing scope b) (value again P c None) (value again P a None) (value again P b None) s h
        (record { by = λ s h told. value-well c parts.0 told None s h }) (record { by = λ s h told. value-well a inner.0 told None s h }) (record { by = λ s h told. value-well b inner.1 told None s h }) told
    value-well (core.comma es) ok told into s h = last-well es ok told s h
    value-well (core.store a b) ok told into s h =
        let parts = both (is_simple P scope a) (is_simple P scope b) ok in
        store-well P scope L (typing scope a) (typing scope b) (value again P a None) (value again P b None) s h (record { by = λ s h told. value-well a parts.0 told None s h }) (record { by = λ s h told. value-well b parts.1 told None s h }) told
    value-well (core.update a c b) ok told into s h =
        let parts = both (is_simple P scope a) (is_simple P scope b) ok in
        update-well P scope L c (typing scope a) (typing scope b) (value again P a None) (value again P b None) s h (G a parts.0) (record { by = λ s h told. value-well a parts.0 told None s h }) (record { by = λ s h told. value-well b parts.1 told None s h }) told
    value-well (core.step p c e) ok told into s h = step-well P scope L p c (typing scope e) (value again P e None) s h (G e ok) (record { by = λ s h told. value-well e ok told None s h }) told
    value-well (core.temporary t e) ok told into s h =
        let parts = both (is_whole t) (is_simple P scope e) ok in
        let sc = (G e parts.1).start t (allowed-told ((typing scope e).start t) (of_place t) told).0 in
        temporary-well P scope L t (typing scope e) (λ o. value again P e (Some (root o))) s h (whole-tested t parts.0) sc (λ o. record { by = λ s h told. value-well e parts.1 told (Some (root o)) s h }) told
    value-well (core.bind no_temporary e) ok told into s h = bind-well P scope L (typing scope e) (value again P e None) s h (record { by = λ s h told. value-well e ok told None s h }) told
    value-well (core.call n t absent es) ok told into s h =
        let parts = both (is_called_type t) (function_fits P n t && are_arguments P scope es) ok in
        let inner = both (function_fits P n t) (are_arguments P scope es) parts.1 in
        let ct = call-type t parts.0 in
        let e = (allowed-told (is_function t && on_object scope None && fit scope (parameters t) (typings scope es)) (of_result (result t)) told).0 in
        let fits_all = three (is_function t) (on_object scope None) (fit scope (parameters t) (typings scope es)) e in
        well-next P L s (name_function P n t) (arguments again P (parameters t) es >>= (λ os. run_named again P n os None (result_place t into))) (well-named P L s n t h inner.0) (λ _ u b f.
        well-then P L u (arguments again P (parameters t) es) (λ os. run_named again P n os None (result_place t into)) (arguments-well (parameters t) es inner.1 fits_all.2 (parameters-proper t ct.proper) u b.sound) (λ os v c g.
        subst (λ p. Well P L v (λ v u. Fit P u (typing scope (core.call n t absent es)) v) (run_named again P n os None p)) (sym (result-none t into ct.no_class))
        (well-as P L v (run_named again P n os None None) (run-well P L again bodies v n t os c.sound ct.chain f g.stand g.one) (λ x w d q.
        fit-allowed (is_function t && on_object scope None && fit scope (parameters t) (typings scope es)) (of_result (result t)) w x e q))))
    value-well (core.pointer_call absent e t es) ok told into s h =
        let parts = both (is_called_type t) (is_simple P scope e && are_arguments P scope es) ok in
        let inner = both (is_simple P scope e) (are_arguments P scope es) parts.1 in
        let ct = call-type t parts.0 in
        let k = (allowed-told (is_called scope None (typing scope e) t && fit scope (parameters t) (typings scope es)) (of_result (result t)) told).0 in
        let fits_all = both (is_called scope None (typing scope e) t) (fit scope (parameters t) (typings scope es)) k in
        let c = called-told (typing scope e) t fits_all.0 in
        let so = called-solid (typing scope e) t c in
        well-then P L s (using (value again P e None)) (λ f. arguments again P (parameters t) es >>= (λ os. run_pointer again P None f os (result_place t into)))
        (well-using P L s (typing scope e) (value again P e None) (value-well e inner.0 so.0 None s h) so.1) (λ f u b q.
        well-then P L u (arguments again P (parameters t) es) (λ os. run_pointer again P None f os (result_place t into)) (arguments-well (parameters t) es inner.1 fits_all.1 (parameters-proper t ct.proper) u b.sound) (λ os v d g.
        subst (λ p. Well P L v (λ v u. Fit P u (typing scope (core.pointer_call absent e t es)) v) (run_pointer again P None f os p)) (sym (result-none t into ct.no_class))
        (well-as P L v (run_pointer again P None f os None) (run-pointer v t f os d.sound ct.chain g.stand g.one (called-value v (typing scope e) t f c (fits-later P u v d.later (typing scope e) f q))) (λ x w m q.
        fit-allowed (is_called scope None (typing scope e) t && fit scope (parameters t) (typings scope es)) (of_result (result t)) w x k q))))
    value-well e ok told into s h = absurd (no-test ok)

    last-well : (es : Cores) → are_simple P scope es ≡ true → Told (last_typing scope es) → (s : State) → Sound P L s → Well P L s (λ v u. Fit P u (last_typing scope es) v) (last_value again P es)
    last-well core.none ok told s h = absurd (no-test ok)
    last-well (core.more e core.none) ok told s h = value-well e ok told None s h
    last-well (core.more e (core.more f es)) ok told s h =
        let parts = both (is_simple P scope e) (are_simple P scope (core.more f es)) ok in
        let k = allowed-told (is_expression (typing scope e)) (last_typing scope (core.more f es)) told in
        well-next P L s (value again P e None) (last_value again P (core.more f es)) (value-well e parts.0 (expression-told (typing scope e) k.0) None s h) (λ v u b q.
        well-as P L u (last_value again P (core.more f es)) (last-well (core.more f es) parts.1 k.1 u b.sound) (λ v w c q.
        fit-allowed (is_expression (typing scope e)) (last_typing scope (core.more f es)) w v k.0 q))

    arguments-well : (ts : List SourceType) (es : Cores) → are_arguments P scope es ≡ true → fit scope ts (typings scope es) ≡ true → AllProper ts → (s : State) → Sound P L s
        → Well P L s (λ os u. Given s u ts os) (arguments again P ts es)
    arguments-well [] core.none ok k p s h = well-gives P L s [] h (record { stand = tt; one = λ o e. absurd (cc); same = λ e. refl })
    arguments-well [] (core.more e es) ok k p s h = absurd (no-test k)
    arguments-well (t ∷ ts) core.none ok k p s h = absurd (no-test k)
    arguments-well (t ∷ ts) (core.more e es) ok k p s h =
        let parts = both (is_simple P scope e) (are_arguments P scope es) ok in
        let inner = both ((typing scope e).start t) (fit scope ts (typings scope es)) k in
        well-then P L s (declared_object t) (λ o. settled [] (root o) (value again P e (Some (root o))) >> (arguments again P ts es >>= (λ os. gives (o ∷ os)))) (well-declared P L s t h p.0) (λ o u b at.
        well-next P L u (settled [] (root o) (value again P e (Some (root o)))) (arguments again P ts es >>= (λ os. gives (o ∷ os)))
        (settled-well P scope L u t o (typing scope e) (value again P e (Some (root o))) b.sound at ((G e parts.0).start t inner.0) inner.0 (record { by = λ s h told. value-well e parts.0 told (Some (root o)) s h })) (λ _ v c held.
        well-then P L v (arguments again P ts es) (λ os. gives (o ∷ os)) (arguments-well ts es parts.1 inner.1 p.1 v c.sound) (λ os w d g.
        well-gives P L w (o ∷ os) d.sound (given-more s u v w t ts o os c.later d.later at held g))))
