-- What lasts of static objects while one of them is set (8.4.1, 8.4.3).
use Rattle.std.proofs.Common.{◌≡◌, ℕ, suc, ◌<◌, ◌-◌, Bool, true, false, ◌&&◌, ◌||◌, List, [], sym, ◌∙◌, ap, subst}
use Rattle.std.specs.Prelude.{nat_le, Some, None}
use Rattle.cf_base.proofs.Tests.{both}
use Rattle.cf_core.specs.Types.{SourceType, is_array, is_class, plain, element}
use Rattle.cf_core.specs.Core as core
use Rattle.cf_core.specs.Core.{Core, Cores, no_temporary, static_temporary, none, item}
use Rattle.cf_core.specs.Places.{Place, inner, part_type, type_at}
use Rattle.cf_core.specs.Store.{Value, Built, At, Object}
use Rattle.cf_core.specs.Run.{State, Act, ◌>>=◌, ◌>>◌, gives, done, changed, valid, when, for_each}
use Rattle.cf_core.specs.Access.{place_type}
use Rattle.cf_core.specs.Objects.{static_type, static_place, settle, element_part, element_count, begin_list, end_list, count, costs_tick, one_tick}
use Rattle.cf_core.specs.Calls as calling
use Rattle.cf_core.specs.Calls.{Program, full_expression, finish_static, has_destructor}
use Rattle.cf_core.specs.Expressions as meaning
use Rattle.cf_sequence.specs.Built.{is_row, is_filling, is_initial, is_list, is_element, are_elements, is_bound, is_constant_set}
use Rattle.cf_sequence.proofs.Following.{pure-valid}
use Rattle.cf_sequence.proofs.Calling.{never, or-else}
use Rattle.cf_sequence.proofs.Lasting.{Keeps, keeps-gives, keeps-then, keeps-next, keeps-seen, keeps-when, keeps-pure, keeps-settle, Lasting}
use Rattle.cf_sequence.proofs.LastingCode.{Rests, value-keeps, filling-keeps, initial-keeps, each-keeps, item-keeps}
use Rattle.cf_sequence.proofs.StaticObjects.{pure-place}
use Rattle.cf_sequence.proofs.Constants.{constant-value, constant-element, by-set}
use Rattle.cf_sequence.proofs.Lists.{row-array, array-part, array-no-class}

module _ (again : calling.Again) (P : Program) (classless : P.classes ≡ []) (rests : Rests again P) (m : ℕ) (before : ℕ → Object) (base : List ℕ) where
  abbrev Q : State → Type 0
  Q = Lasting m before base

  -- a place in an object of before, and its type there
  pub record Within (t : SourceType) (p : Place) : Type 0 where
    pub old : p.object < m
    pub type : type_at P.classes (before p.object).type p.route ≡ t

  type-now : (t : SourceType) (p : Place) → Within t p → (s : State) → Q s → place_type P.classes s p ≡ t
  type-now t p within s q = ap (λ u. type_at P.classes u p.route) (q.objects p.object within.old).type ∙ within.type

  element-within : (t : SourceType) (p : Place) → Within t p → (i : ℕ) → Within (element (plain t)) (inner (item i) p)
  element-within t p within i = record { old = within.old; type = ap (λ u. part_type P.classes u (item i)) within.type }

  -- a list in the core at a place of this type, where it is known whether that is a class
  abbrev core_list : Cores → Core → Place → SourceType → Bool → Act Value
  core_list es rest p t is_made =
      valid ((is_array t || is_class t) && nat_le (count es) (element_count P.classes t))
      >> (when is_made (begin_list p) done
      >> (meaning.elements again P es 0 p t
      >> (for_each (count es) (element_count P.classes t - count es) (λ i.
      one_tick (is_array t && costs_tick rest P.classes (element (plain t)))
      >> full_expression again P (meaning.value again P rest (Some (inner (element_part t i) p)) >>= settle P.classes (inner (element_part t i) p)))
      >> (when is_made (end_list p) done >> gives Built))))

  list-of : (t : SourceType) (es : Cores) (rest : Core) (p : Place) → is_array t ≡ true → is_filling rest ≡ true → Keeps Q (meaning.elements again P es 0 p t) → Keeps Q (core_list es rest p t false)
  list-of t es rest p arr fills each =
      keeps-next Q (valid ((is_array t || is_class t) && nat_le (count es) (element_count P.classes t))) _ (keeps-pure Q _ (pure-valid _))
      (keeps-next Q done _ (keeps-gives Q tt)
      (keeps-next Q (meaning.elements again P es 0 p t) _ each
      (keeps-next Q _ _ (each-keeps again P classless rests m before base (count es) (element_count P.classes t - count es) _ (λ i.
      item-keeps again P classless rests m before base (is_array t && costs_tick rest P.classes (element (plain t))) rest (inner (element_part t i) p)
      (filling-keeps again P classless rests m before base rest fills (inner (element_part t i) p))))
      (keeps-next Q done (gives Built) (keeps-gives Q tt) (keeps-gives Q Built)))))

  mutual
    list-lasts : (t : SourceType) (e : Core) → is_list t e ≡ true → (p : Place) → Within t p → Keeps Q (meaning.value again P e (Some p))
    list-lasts t (core.list es rest) ok p within =
        let u : SourceType = element (plain t) in
        let one = both (is_row t) (are_elements u es && is_filling rest) ok in
        let two = both (are_elements u es) (is_filling rest) one.1 in
        let arr = row-array t one.0 in
        keeps-seen Q _ (λ s q.
        subst (λ v. Keeps Q (core_list es rest p v (is_class v))) (sym (type-now t p within s q))
        (subst (λ b. Keeps Q (core_list es rest p t b)) (sym (array-no-class t arr))
        (list-of t es rest p arr two.1 (elements-last t es two.0 0 p arr within))))
    list-lasts t e ok p within = never ok

    elements-last : (t : SourceType) (es : Cores) → are_elements (element (plain t)) es ≡ true → (i : ℕ) (p : Place) → is_array t ≡ true → Within t p → Keeps Q (meaning.elements again P es i p t)
    elements-last t none ok i p arr within = keeps-gives Q tt
    elements-last t (core.more e es) ok i p arr within =
        let u : SourceType = element (plain t) in
        let parts = both (is_element u e) (are_elements u es) ok in
        let q : Place = inner (element_part t i) p in
        let there : Within u q = subst (λ s. Within u (inner s p)) (sym (array-part t arr i)) (element-within t p within i) in
        keeps-next Q _ (meaning.elements again P es (suc i) p t)
        (item-keeps again P classless rests m before base (is_array t && costs_tick e P.classes u) e q
        (or-else (is_initial e) (is_list u e) parts.0 (λ initial. initial-keeps again P classless rests m before base e initial q) (λ is. list-lasts u e is q there)))
        (elements-last t es parts.1 (suc i) p arr within)

  element-lasts : (t : SourceType) (e : Core) → is_element t e ≡ true → (p : Place) → Within t p → Keeps Q (meaning.value again P e (Some p))
  element-lasts t e ok p within =
      or-else (is_initial e) (is_list t e) ok (λ initial. initial-keeps again P classless rests m before base e initial p) (λ is. list-lasts t e is p within)

  -- ---- references

  changes : (f : State → State) → ((s : State) → Q s → Q (f s)) → Keeps Q (changed f)
  changes f k = record { by = λ s w q. k s q }

  pub finish-lasts : (t : SourceType) (o : ℕ) → Keeps Q (finish_static P t o)
  finish-lasts t o =
      keeps-when Q (has_destructor P.classes t) _ done (changes _ (λ s q. record { next = q.next; objects = q.objects; temporaries = q.temporaries; scope = q.scope })) (keeps-gives Q tt)

  bound-lasts : (e : Core) → is_bound e ≡ true → (p : Place) → Keeps Q (meaning.value again P e (Some p))
  bound-lasts (core.bind no_temporary e) ok p = value-keeps again P classless rests m before base e (constant-value e ok) None
  bound-lasts (core.bind (static_temporary name) e) ok p =
      keeps-then Q (static_place P name) _ (keeps-pure Q (static_place P name) (pure-place P name)) (λ q.
      keeps-next Q (meaning.value again P e (Some q) >>= settle P.classes q) _
      (keeps-then Q (meaning.value again P e (Some q)) (settle P.classes q) (value-keeps again P classless rests m before base e (constant-value e ok) (Some q)) (keeps-settle m before base P.classes q))
      (keeps-next Q (finish_static P (static_type P name) q.object) (gives (At q)) (finish-lasts (static_type P name) q.object) (keeps-gives Q (At q))))
  bound-lasts e ok p = never ok

  -- what an initialiser of a static object leaves
  pub set-lasts : (t : SourceType) (e : Core) → is_constant_set t e ≡ true → (p : Place) → Within t p → Keeps Q (meaning.value again P e (Some p))
  set-lasts t e ok p within = by-set t e ok (λ bound. bound-lasts e bound p) (λ other constant. element-lasts t e (constant-element t e constant) p within)
