-- What an expression initialises is a scalar or a reference, so its type is complete.
use Rattle.std.proofs.Common.{◌≡◌, Bool, true, false, ◌&&◌, not, if◌then◌else◌, List, refl}
use Rattle.std.specs.Prelude.{ℤ, pos, Option, Some, None, slice_get}
use Rattle.cf_base.proofs.Tests.{both}
use Rattle.cf_core.specs.declared.operators.PointerOperator.{PointerOperator}
use Rattle.cf_core.specs.declared.operators.PointerOperator.TheVariants as ptr
use Rattle.cf_core.specs.Types.{SourceType, integer, enumeration, class, pointer, reference, array, data_member, function_member, const, plain, same_but_const, parameters, result, is_class}
use Rattle.cf_core.specs.Classes.{Class}
use Rattle.cf_core.specs.Core as core
use Rattle.cf_core.specs.Core.{Core, Cores, Change, no_temporary, none, absent}
use Rattle.cf_core.specs.Places.{is_scalar}
use Rattle.cf_core.specs.Typing.{Scope, Typing, no_typing, allowed, is_function, of_value, null_if, is_zero, of_number, holds_number, of_place, of_name, of_result, is_integer, is_condition, is_expression, pointed, points_to_object, is_right_operand, operated_type, pointers_alike, may_be_equal, pointer_operated, changes, either, converts}
use Rattle.cf_core.specs.Typed.{typing, typings, last_typing, typing_maybe, binds, fit, is_called, on_object, read_type, pointed_place, address_type, decayed_type, stored, changed_in_place, stepped, void_pointer}
use Rattle.cf_core.specs.Valid.{is_complete}
use Rattle.cf_sequence.specs.Built.{is_value, are_values, are_arguments, is_chain}
use Rattle.cf_sequence.proofs.Calling.{never}

module _ (classes : List Class) where
  pub scalar-complete : (t : SourceType) → is_scalar t ≡ true → is_complete classes t ≡ true
  scalar-complete (const t) ok = scalar-complete t ok
  scalar-complete (integer k) ok = refl
  scalar-complete (enumeration e) ok = refl
  scalar-complete (pointer t) ok = refl
  scalar-complete (reference t) ok = refl
  scalar-complete (data_member c t) ok = refl
  scalar-complete (function_member c t) ok = refl
  scalar-complete t ok = never ok

  -- each type of which it initialises an object is complete
  pub record Starts (x : Typing) : Type 0 where
    pub starts : (t : SourceType) → x.start t ≡ true → is_complete classes t ≡ true

  no-starts : Starts no_typing
  no-starts = record { starts = λ t ok. never ok }

  allowed-starts : (b : Bool) (x : Typing) → Starts x → Starts (allowed b x)
  allowed-starts true x s = s
  allowed-starts false x s = no-starts

  value-starts : (t : SourceType) → Starts (of_value t)
  value-starts t = record { starts = λ u ok. scalar-complete u (both (is_scalar u) (same_but_const t u) ok).0 }

  null-starts : (b : Bool) (t : SourceType) → Starts (null_if b (of_value t))
  null-starts b t = record { starts = Starts.starts (value-starts t) }

  number-starts : (z : ℤ) (t : SourceType) → holds_number z t ≡ true → is_complete classes t ≡ true
  number-starts z (integer k) ok = refl
  number-starts z (enumeration e) ok = refl
  number-starts z (const t) ok = number-starts z t ok
  number-starts z t ok = never ok

  place-starts : (t : SourceType) → Starts (of_place t)
  place-starts t = by (is_function t)
    where
      by : (b : Bool) → Starts (elim b as (λ b. Typing) [ true ↦ record (of_value (pointer t)) { place = Some t } | false ↦ record no_typing { place = Some t } ])
      by true = record { starts = Starts.starts (value-starts (pointer t)) }
      by false = record { starts = Starts.starts no-starts }

  name-starts : (o : Option SourceType) → Starts (of_name o)
  name-starts None = no-starts
  name-starts (Some (reference t)) = place-starts t
  name-starts (Some t) = place-starts t

  result-starts : (t : SourceType) → is_class t ≡ false → Starts (of_result t)
  result-starts (reference t) e = place-starts t
  result-starts (class c) e = absurd (cc)
  result-starts (const t) e = result-starts t e
  result-starts t e = value-starts t

  either-starts : (x y : Typing) → Starts (either x y)
  either-starts x y = record { starts = λ t ok. scalar-complete t (both (is_scalar t) (x.value t) (both (is_scalar t && x.value t) (y.value t) ok).0).0 }

  chosen-starts : (a b : Bool) (x y : Typing) → Starts x → Starts y → Starts (if a then x else (if b then y else no_typing))
  chosen-starts true b x y p q = p
  chosen-starts false true x y p q = q
  chosen-starts false false x y p q = no-starts

  pointer-starts : (op : PointerOperator) (x y : Typing) → Starts (pointer_operated op x y)
  pointer-starts ptr.Add x y = by x.type y.type
    where
      by : (o p : Option SourceType) → Starts (pointer_operated ptr.Add (record x { type = o }) (record y { type = p }))
      by None None = chosen-starts (points_to_object (record x { type = None }) && is_integer (record y { type = None })) (is_integer (record x { type = None }) && points_to_object (record y { type = None })) _ _ no-starts no-starts
      by (Some t) None = chosen-starts (points_to_object (record x { type = Some t }) && is_integer (record y { type = None })) (is_integer (record x { type = Some t }) && points_to_object (record y { type = None })) _ _ (value-starts t) no-starts
      by None (Some u) = chosen-starts (points_to_object (record x { type = None }) && is_integer (record y { type = Some u })) (is_integer (record x { type = None }) && points_to_object (record y { type = Some u })) _ _ no-starts (value-starts u)
      by (Some t) (Some u) =
          chosen-starts (points_to_object (record x { type = Some t }) && is_integer (record y { type = Some u })) (is_integer (record x { type = Some t }) && points_to_object (record y { type = Some u })) _ _ (value-starts t) (value-starts u)
  pointer-starts ptr.Subtract x y = by x.type
    where
      by : (o : Option SourceType) → Starts (pointer_operated ptr.Subtract (record x { type = o }) y)
      by None = allowed-starts (points_to_object (record x { type = None }) && is_integer y) no_typing no-starts
      by (Some t) = allowed-starts (points_to_object (record x { type = Some t }) && is_integer y) (of_value t) (value-starts t)
  pointer-starts ptr.Equal x y = allowed-starts (may_be_equal x y) (of_value (integer _)) (value-starts (integer _))
  pointer-starts ptr.NotEqual x y = allowed-starts (may_be_equal x y) (of_value (integer _)) (value-starts (integer _))
  pointer-starts op x y = allowed-starts (points_to_object x && pointers_alike x y) (of_value (integer _)) (value-starts (integer _))

  module _ (scope : Scope) where
    read-starts : (o : Option SourceType) → Starts (read_type scope o)
    read-starts None = no-starts
    read-starts (Some t) = allowed-starts (is_scalar t) (of_value (plain t)) (value-starts (plain t))

    pointed-starts : (o : Option SourceType) → Starts (pointed_place scope o)
    pointed-starts None = no-starts
    pointed-starts (Some t) = place-starts t

    address-starts : (o : Option SourceType) → Starts (address_type scope o)
    address-starts None = no-starts
    address-starts (Some t) = value-starts (pointer t)

    decayed-starts : (o : Option SourceType) → Starts (decayed_type scope o)
    decayed-starts None = no-starts
    decayed-starts (Some (array t n)) = value-starts (pointer t)
    decayed-starts (Some (const (array t n))) = value-starts (pointer t)
    decayed-starts (Some t) = allowed-starts (is_function t) (of_value (pointer t)) (value-starts (pointer t))

    stored-starts : (o : Option SourceType) (y : Typing) → Starts (stored scope o y)
    stored-starts None y = no-starts
    stored-starts (Some t) y = allowed-starts (is_scalar t && y.value t) (of_place t) (place-starts t)

    changed-starts : (o : Option SourceType) (b : Bool) → Starts (changed_in_place scope o b)
    changed-starts None b = no-starts
    changed-starts (Some t) b = allowed-starts b (of_place t) (place-starts t)

    stepped-starts : (is_postfix : Bool) (c : Change) (o : Option SourceType) → Starts (stepped scope is_postfix c o)
    stepped-starts is_postfix c None = no-starts
    stepped-starts true c (Some t) = allowed-starts (changes c (Some t) (of_number (pos 1))) (of_value (plain t)) (value-starts (plain t))
    stepped-starts false c (Some t) = allowed-starts (changes c (Some t) (of_number (pos 1))) (of_place t) (place-starts t)

    bound-complete : (x : Typing) (t : SourceType) → binds scope no_temporary x t ≡ true → is_complete classes t ≡ true
    bound-complete x (reference t) ok = refl
    bound-complete x (const t) ok = bound-complete x t ok
    bound-complete x t ok = never ok

    mutual
      pub expression-starts : (e : Core) → is_value e ≡ true → Starts (typing scope e)
      expression-starts (core.number z) ok = record { starts = number-starts z }
      expression-starts (core.local i) ok = name-starts (slice_get scope.locals i)
      expression-starts (core.text j bytes) ok = place-starts (array (integer _) _)
      expression-starts (core.static_object name t) ok = name-starts (Some t)
      expression-starts (core.function name t) ok = allowed-starts (is_function t) (of_place t) (place-starts t)
      expression-starts (core.read e) ok = read-starts (typing scope e).place
      expression-starts (core.address e) ok = address-starts (typing scope e).place
      expression-starts (core.dereference e) ok = pointed-starts (pointed (typing scope e).type)
      expression-starts (core.decay e) ok = decayed-starts (typing scope e).place
      expression-starts (core.from_void t e) ok = allowed-starts (void_pointer scope (pointed (typing scope e).type)) (of_value (pointer t)) (value-starts (pointer t))
      expression-starts (core.index a b) ok =
          chosen-starts (points_to_object (typing scope a) && is_integer (typing scope b)) (is_integer (typing scope a) && points_to_object (typing scope b)) _ _
          (pointed-starts (pointed (typing scope a).type)) (pointed-starts (pointed (typing scope b).type))
      expression-starts (core.pointer_operate op a b) ok = pointer-starts op (typing scope a) (typing scope b)
      expression-starts (core.convert t e) ok = allowed-starts (converts (plain t) (typing scope e)) _ (null-starts (is_zero (typing scope e).number) (plain t))
      expression-starts (core.operate op k a b) ok =
          allowed-starts ((typing scope a).value (integer k) && is_right_operand op k (typing scope b)) (of_value (operated_type op k)) (value-starts (operated_type op k))
      expression-starts (core.unary op k e) ok = allowed-starts ((typing scope e).value (integer k)) (of_value (integer k)) (value-starts (integer k))
      expression-starts (core.logical_not e) ok = allowed-starts (is_condition (typing scope e)) (of_value (integer _)) (value-starts (integer _))
      expression-starts (core.logical_and a b) ok = allowed-starts (is_condition (typing scope a) && is_condition (typing scope b)) (of_value (integer _)) (value-starts (integer _))
      expression-starts (core.logical_or a b) ok = allowed-starts (is_condition (typing scope a) && is_condition (typing scope b)) (of_value (integer _)) (value-starts (integer _))
      expression-starts (core.conditional c a b) ok = allowed-starts (is_condition (typing scope c)) (either (typing scope a) (typing scope b)) (either-starts (typing scope a) (typing scope b))
      expression-starts (core.comma es) ok = last-starts es ok
      expression-starts (core.store a b) ok = stored-starts (typing scope a).place (typing scope b)
      expression-starts (core.update a c b) ok = changed-starts (typing scope a).place (changes c (typing scope a).place (typing scope b))
      expression-starts (core.step is_postfix c e) ok = stepped-starts is_postfix c (typing scope e).place
      expression-starts (core.temporary t e) ok = allowed-starts ((typing scope e).start t) (of_place t) (place-starts t)
      expression-starts (core.bind no_temporary e) ok = record { starts = bound-complete (typing scope e) }
      expression-starts (core.call name t absent args) ok =
          let plain-result = (both (not (is_class (result t))) (is_chain t && are_arguments args) ok).0 in
          allowed-starts (is_function t && on_object scope (typing_maybe scope absent) && fit scope (parameters t) (typings scope args)) (of_result (result t)) (result-starts (result t) (negated (is_class (result t)) plain-result))
        where
          negated : (b : Bool) → not b ≡ true → b ≡ false
          negated true e = never e
          negated false e = refl
      expression-starts (core.pointer_call absent e t args) ok =
          let plain-result = (both (not (is_class (result t))) (is_chain t && (is_value e && are_arguments args)) ok).0 in
          allowed-starts (is_called scope (typing_maybe scope absent) (typing scope e) t && fit scope (parameters t) (typings scope args)) (of_result (result t)) (result-starts (result t) (negated (is_class (result t)) plain-result))
        where
          negated : (b : Bool) → not b ≡ true → b ≡ false
          negated true e = never e
          negated false e = refl
      expression-starts e ok = never ok

      last-starts : (es : Cores) → are_values es ≡ true → Starts (last_typing scope es)
      last-starts none ok = never ok
      last-starts (core.more e none) ok = expression-starts e ok
      last-starts (core.more e (core.more f es)) ok =
          allowed-starts (is_expression (typing scope e)) (last_typing scope (core.more f es)) (last-starts (core.more f es) (both (is_value e) (are_values (core.more f es)) ok).1)
