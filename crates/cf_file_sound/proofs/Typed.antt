-- What typing says of an expression or initialiser of built forms does not depend on the names of functions and objects.
use Rattle.std.proofs.Common.{◌≡◌, ℕ, nat_lt, Bool, true, false, ◌&&◌, ◌||◌, not, List, ◌∷◌, ap, ap₂, refl}
use Rattle.std.specs.Prelude.{None}
use Rattle.cf_base.proofs.Tests.{both}
use Rattle.cf_base.specs.declared.kind.Kind.TheVariants.{Int}
use Rattle.cf_core.specs.Types.{Name, SourceType, integer, pointer, plain, element, parameters, result, is_class}
use Rattle.cf_core.specs.Core as core
use Rattle.cf_core.specs.Core.{Core, Cores, Static, no_temporary, local_temporary, none, absent}
use Rattle.cf_core.specs.Places.{is_reference}
use Rattle.cf_core.specs.Joined.{renamed, renamed_all}
use Rattle.cf_core.specs.Typing.{Scope, Typing, allowed, of_place, of_value, of_result, null_if, is_zero, is_function, is_condition, is_expression, of_start, operated_type, is_right_operand, pointed, pointer_operated, changes, either, converts}
use Rattle.cf_core.specs.Typed.{typing, typings, last_typing, fit, read_type, address_type, pointed_place, decayed_type, indexed_type, void_pointer, stored, changed_in_place, stepped, on_object, is_called, binds, list_starts}
use Rattle.cf_sequence.specs.Built.{is_chain, is_row, is_value, are_values, are_arguments, is_filling, is_initial, is_list, are_elements, is_element, is_held}

pub never : {A : Type 0} → false ≡ true → A
never e = absurd (cc)

-- the same objects by other names
abbrev pub among : Scope → List Static → Scope
among scope objects = record scope { statics = objects }

module _ (r : Name → Name) (scope : Scope) (objects : List Static) where
  abbrev there : Scope
  there = among scope objects

  abbrev Same : Core → Type 0
  Same e = typing there (renamed r e) ≡ typing scope e

  mutual
    pub same-value : (e : Core) → is_value e ≡ true → Same e
    same-value (core.number z) ok = refl
    same-value (core.local i) ok = refl
    same-value (core.text j bytes) ok = refl
    same-value (core.static_object name t) ok = refl
    same-value (core.function name t) ok = refl
    same-value (core.read e) ok = ap (λ x. read_type scope x.place) (same-value e ok)
    same-value (core.address e) ok = ap (λ x. address_type scope x.place) (same-value e ok)
    same-value (core.dereference e) ok = ap (λ x. pointed_place scope (pointed x.type)) (same-value e ok)
    same-value (core.decay e) ok = ap (λ x. decayed_type scope x.place) (same-value e ok)
    same-value (core.from_void t e) ok = ap (λ x. allowed (void_pointer scope (pointed x.type)) (of_value (pointer t))) (same-value e ok)
    same-value (core.convert t e) ok = ap (λ x. allowed (converts (plain t) x) (null_if (is_zero x.number) (of_value (plain t)))) (same-value e ok)
    same-value (core.unary op k e) ok = ap (λ x. allowed (x.value (integer k)) (of_value (integer k))) (same-value e ok)
    same-value (core.logical_not e) ok = ap (λ x. allowed (is_condition x) (of_value (integer Int))) (same-value e ok)
    same-value (core.step is_postfix change e) ok = ap (λ x. stepped scope is_postfix change x.place) (same-value e ok)
    same-value (core.temporary t e) ok = ap (λ x. allowed (x.start t) (of_place t)) (same-value e (both (not (is_reference t)) (is_value e) ok).1)
    same-value (core.bind no_temporary e) ok = ap (λ x. of_start (binds scope no_temporary x)) (same-value e ok)
    same-value (core.index a b) ok = let p = both (is_value a) (is_value b) ok in ap₂ (indexed_type scope) (same-value a p.0) (same-value b p.1)
    same-value (core.pointer_operate op a b) ok = let p = both (is_value a) (is_value b) ok in ap₂ (pointer_operated op) (same-value a p.0) (same-value b p.1)
    same-value (core.operate op k a b) ok =
        let p = both (is_value a) (is_value b) ok in
        ap₂ (λ x y. allowed (x.value (integer k) && is_right_operand op k y) (of_value (operated_type op k))) (same-value a p.0) (same-value b p.1)
    same-value (core.logical_and a b) ok =
        let p = both (is_value a) (is_value b) ok in ap₂ (λ x y. allowed (is_condition x && is_condition y) (of_value (integer Int))) (same-value a p.0) (same-value b p.1)
    same-value (core.logical_or a b) ok =
        let p = both (is_value a) (is_value b) ok in ap₂ (λ x y. allowed (is_condition x && is_condition y) (of_value (integer Int))) (same-value a p.0) (same-value b p.1)
    same-value (core.store a b) ok = let p = both (is_value a) (is_value b) ok in ap₂ (λ x y. stored scope x.place y) (same-value a p.0) (same-value b p.1)
    same-value (core.update a change b) ok =
        let p = both (is_value a) (is_value b) ok in ap₂ (λ x y. changed_in_place scope x.place (changes change x.place y)) (same-value a p.0) (same-value b p.1)
    same-value (core.conditional c a b) ok =
        let p = both (is_value c) (is_value a && is_value b) ok in
        let q = both (is_value a) (is_value b) p.1 in ap₂ (λ x y. allowed (is_condition x) y) (same-value c p.0) (ap₂ either (same-value a q.0) (same-value b q.1))
    same-value (core.comma es) ok = same-values es ok
    same-value (core.call name t absent args) ok =
        ap (λ xs. allowed (is_function t && on_object scope None && fit scope (parameters t) xs) (of_result (result t)))
        (same-arguments args (both (is_chain t) (are_arguments args) (both (not (is_class (result t))) (is_chain t && are_arguments args) ok).1).1)
    same-value (core.pointer_call absent e t args) ok =
        let p = both (is_value e) (are_arguments args) (both (is_chain t) (is_value e && are_arguments args) (both (not (is_class (result t))) (is_chain t && (is_value e && are_arguments args)) ok).1).1 in
        ap₂ (λ x xs. allowed (is_called scope None x t && fit scope (parameters t) xs) (of_result (result t))) (same-value e p.0) (same-arguments args p.1)
    same-value e ok = never ok

    same-values : (es : Cores) → are_values es ≡ true → last_typing there (renamed_all r es) ≡ last_typing scope es
    same-values none ok = never ok
    same-values (core.more e none) ok = same-value e ok
    same-values (core.more e (core.more f es)) ok =
        let p = both (is_value e) (are_values (core.more f es)) ok in ap₂ (λ x y. allowed (is_expression x) y) (same-value e p.0) (same-values (core.more f es) p.1)

    same-arguments : (es : Cores) → are_arguments es ≡ true → typings there (renamed_all r es) ≡ typings scope es
    same-arguments none ok = refl
    same-arguments (core.more e es) ok =
        let p = both (is_value e) (are_arguments es) ok in ap₂ (λ (x : Typing) (xs : List Typing). x ∷ xs) (same-value e p.0) (same-arguments es p.1)

  -- ---- initialisers

  same-filling : (e : Core) → is_filling e ≡ true → Same e
  same-filling core.zeros ok = refl
  same-filling (core.string bytes) ok = refl
  same-filling e ok = never ok

  pub same-initial : (e : Core) → is_initial e ≡ true → Same e
  same-initial core.zeros ok = refl
  same-initial (core.string bytes) ok = refl
  same-initial core.blank ok = refl
  same-initial e ok = same-value e ok

  by-list : (t : SourceType) (e : Core) (b : Bool) → is_initial e ≡ b → b || is_list t e ≡ true → (is_list t e ≡ true → Same e) → Same e
  by-list t e true is ok listed = same-initial e is
  by-list t e false is ok listed = listed ok

  mutual
    same-list : (t : SourceType) (e : Core) → is_list t e ≡ true → Same e
    same-list t (core.list es rest) ok =
        let p = both (is_row t) (are_elements (element (plain t)) es && is_filling rest) ok in
        let q = both (are_elements (element (plain t)) es) (is_filling rest) p.1 in
        ap₂ (λ xs x. of_start (list_starts scope xs x)) (same-elements (element (plain t)) es q.0) (same-filling rest q.1)
    same-list t e ok = never ok

    same-elements : (t : SourceType) (es : Cores) → are_elements t es ≡ true → typings there (renamed_all r es) ≡ typings scope es
    same-elements t none ok = refl
    same-elements t (core.more e es) ok =
        let p = both (is_element t e) (are_elements t es) ok in
        ap₂ (λ (x : Typing) (xs : List Typing). x ∷ xs) (by-list t e (is_initial e) refl p.0 (same-list t e)) (same-elements t es p.1)

  pub same-element : (t : SourceType) (e : Core) → is_element t e ≡ true → Same e
  same-element t e ok = by-list t e (is_initial e) refl ok (same-list t e)

  pub same-held : (i : ℕ) (e : Core) → is_held i e ≡ true → Same e
  same-held i (core.bind (local_temporary j t) e) ok =
      let p = both (nat_lt i j) (not (is_reference t) && is_value e) ok in
      ap (λ x. of_start (binds scope (local_temporary j t) x)) (same-value e (both (not (is_reference t)) (is_value e) p.1).1)
  same-held i e ok = never ok
