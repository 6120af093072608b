-- Expressions with other names have the types that they had.
use Rattle.std.proofs.Common.{◌≡◌, ℕ, Bool, true, not, List, Option, Some, None, Ok, refl, sym, subst}
use Rattle.cf_base.specs.declared.arith.Arith.{Arith}
use Rattle.cc_whole.specs.declared.types.CType.{CType}
use Rattle.cc_whole.specs.declared.types.CType.TheVariants as ty
use Rattle.cc_whole.specs.Plain.{Place, named, pointed, Expression, constant, load, unary, cast, address, binary}
use Rattle.cc_whole.specs.Types.{binary_type, value_type, stored_type}
use Rattle.cc_whole.specs.Landmarks.{type_marks, marks}
use Rattle.cc_whole.specs.Known.{Meant, function, Named, is_main}
use Rattle.cc_whole.specs.Typed.{is_zero, typed_constant, typed_name, typed_prefix, typed_cast, typed_address, typed_pointed, fitted, left_fits, typed, typed_place, target_name, typed_target}
use Rattle.cc_whole_link.specs.Rename.{Renaming}
use Rattle.cc_whole_closed.proofs.Plains.{place_with, expression_with}
use Rattle.cc_whole_linked_valid.proofs.Checks.{Good, same, never, good_moved, good_before, good_then, good_holds}
use Rattle.cc_whole_linked_valid.proofs.Same.{functions, objects, Meets, nothing, both}
use Rattle.cc_whole_linked_valid.proofs.Names.{Names, Fits}

-- ---- names

name_kept : (x y : List ℕ) → (not (is_main x) ≡ true → not (is_main y) ≡ true) → {m n : Option Meant} → Meets m n → Good (typed_name x m) (typed_name y n)
name_kept x y h (nothing o) = never 1 0 (typed_name y o)
name_kept x y h (both _ _ (functions p q e)) = good_before (good_holds 10 0 0 h) (same (Ok ty.FunctionPointer))
name_kept x y h (both _ _ (objects s t v k)) = subst (λ z. Good (Ok (value_type s)) (Ok z)) v (same (Ok (value_type s)))

address_kept : {m n : Option Meant} → Meets m n → Good (typed_address m) (typed_address n)
address_kept (nothing o) = never 1 1 (typed_address o)
address_kept (both _ _ (functions p q e)) = never 3 1 (typed_address (Some (function q)))
address_kept (both _ _ (objects s t v k)) = same (Ok ty.Pointer)

target_kept : {m n : Option Meant} → Meets m n → Good (target_name m) (target_name n)
target_kept (nothing o) = never 1 0 (target_name o)
target_kept (both _ _ (functions p q e)) = never 3 0 (target_name (Some (function q)))
target_kept (both _ _ (objects s t v k)) = subst (λ z. Good (fitted 0 (stored_type s)) (fitted 0 z)) k (same (fitted 0 (stored_type s)))

-- ---- operators

pub zero_kept : (e : Expression) (r : Renaming) → is_zero (expression_with e r) ≡ is_zero e
zero_kept (constant c) r = refl
zero_kept (load p) r = refl
zero_kept (unary o e) r = refl
zero_kept (cast t e) r = refl
zero_kept (address name) r = refl
zero_kept (binary o a b) r = refl

fitted_kept : (m n : ℕ) (o : Option CType) → Good (fitted m o) (fitted n o)
fitted_kept m n None = never 3 m (fitted n None)
fitted_kept m n (Some t) = same (Ok t)

binary_kept : (m n : ℕ) (o : Arith) (s t : CType) (a b c d : Bool) → c ≡ a → d ≡ b → Good (fitted m (binary_type o s a t b)) (fitted n (binary_type o s c t d))
binary_kept m n o s t a b c d e f =
    subst (λ z. Good (fitted m (binary_type o s a t b)) (fitted n (binary_type o s z t d))) (sym e)
    (subst (λ z. Good (fitted m (binary_type o s a t b)) (fitted n (binary_type o s a t z))) (sym f) (fitted_kept m n (binary_type o s a t b)))

cast_kept : (t s : CType) (a c : Bool) → c ≡ a → Good (typed_cast t a s) (typed_cast t c s)
cast_kept t s a c e = subst (λ z. Good (typed_cast t a s) (typed_cast t z s)) (sym e) (same (typed_cast t a s))

module _ (longer : Names) (old new : List Named) (r : Renaming) (f : Fits longer old new r) where
  mutual
    pub typed_kept : (e : Expression) → Good (typed e old) (typed (expression_with e r) new)
    typed_kept (constant c) = same (typed_constant c)
    typed_kept (load p) = place_kept p
    typed_kept (unary o e) = good_then (typed_kept e) (λ t. same (typed_prefix o t))
    typed_kept (cast t e) =
        good_then (good_moved (type_marks t) (type_marks t) (typed_kept e)) (λ s. cast_kept t s (is_zero e) (is_zero (expression_with e r)) (zero_kept e r))
    typed_kept (address name) = address_kept (f.meets name)
    typed_kept (binary o a b) =
        good_then (typed_kept a) (λ s. good_before (same (left_fits o s))
        (good_then (good_moved (marks a) (marks (expression_with a r)) (typed_kept b))
        (λ t. binary_kept (marks a) (marks (expression_with a r)) o s t (is_zero a) (is_zero b) (is_zero (expression_with a r)) (is_zero (expression_with b r)) (zero_kept a r) (zero_kept b r))))

    pub place_kept : (p : Place) → Good (typed_place p old) (typed_place (place_with p r) new)
    place_kept (named name) = name_kept name (r name) (f.mild name).main (f.meets name)
    place_kept (pointed t e) = good_then (good_moved (type_marks t) (type_marks t) (typed_kept e)) (λ s. same (typed_pointed t s))

  pub stored_kept : (p : Place) → Good (typed_target p old) (typed_target (place_with p r) new)
  stored_kept (named name) = target_kept (f.meets name)
  stored_kept (pointed t e) = place_kept (pointed t e)
