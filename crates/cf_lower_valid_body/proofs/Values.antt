-- The C expression of what an action gives has the type of the C local that it goes to.
use Rattle.std.proofs.Common.{◌≡◌, ℕ, ◌≤◌, ◌<◌, ◌^◌, Bool, true, false, not, ◌&&◌, ◌||◌, if◌then◌else◌, List, [], refl, sym, ◌∙◌, ap, subst, arith}
use Rattle.std.specs.Prelude.{ℤ, pos, negsuc, Option, Some, None, Ok, is_some, slice_get}
use Rattle.std.specs.List.{list_all}
use Rattle.cf_base.specs.declared.kind.Kind.{Kind}
use Rattle.cf_base.specs.declared.kind.Kind.TheVariants.{Int, UInt}
use Rattle.cf_base.specs.declared.arith.Arith.{Arith}
use Rattle.cf_base.specs.declared.arith.Arith.TheVariants as op
use Rattle.cf_base.specs.Integers.{fits, convert}
use Rattle.cf_base.proofs.Tests.{both, all_of}
use Rattle.cf_types.specs.Operators.{is_shift as source_shift}
use Rattle.cf_core.specs.declared.operators.PointerOperator.{PointerOperator}
use Rattle.cf_core.specs.declared.operators.PointerOperator.TheVariants as pointer
use Rattle.cf_core.specs.Types.{Name, SourceType, void, integer, enumeration, class, reference, array, takes, gives, data_member, function_member, const, without_const, same_but_const, is_void, element}
use Rattle.cf_core.specs.Types as types
use Rattle.cf_core.specs.Core.{arithmetic, moved}
use Rattle.cf_core.specs.Places.{is_reference, is_scalar}
use Rattle.cf_core.specs.Size.{size}
use Rattle.cf_lower_layout.specs.Sorts.{Sort, number, address, code, sort_to, sort_of}
use Rattle.cf_lower_layout.proofs.Types.{same-without_const}
use Rattle.cf_plain.specs.Plain as plain_action
use Rattle.cf_plain.specs.Plain.{Register, Action}
use Rattle.cf_plain_kept.specs.Kept as plain
use Rattle.cc_whole.specs.declared.types.CType.{CType}
use Rattle.cc_whole.specs.declared.types.CType.TheVariants as ty
use Rattle.cc_whole.specs.declared.types.CConstant.TheVariants as constants
use Rattle.cc_whole.specs.declared.types.CVariableType.{CVariableType}
use Rattle.cc_whole.specs.declared.types.CVariableType.TheVariants as variable
use Rattle.cc_whole.specs.declared.types.CLocalType.TheVariants as local
use Rattle.cc_whole.specs.Types.{value_type, local_type, binary_type, arithmetic_type, may_stand_left}
use Rattle.cc_whole.specs.Typed.{is_zero}
use Rattle.cc_whole.specs.Known.{Named, lookup, object}
use Rattle.cc_whole.specs.Plain.{Expression, named, pointed, constant, load, address as address_of, binary}
use Rattle.cf_lower.specs.Kept.{Kept, unknown, integer_of, holds, argument, Keeping, Locals, local_kept, constant_kept, result_kept, of_sort, of_type, referred, place_of, read_kept, decayed_kept, pointer_of, operated_kept, changed_kept, declared_kept, is_argument, type_or_void, kept_by}
use Rattle.cf_lower.specs.Written.{c_type, register_type, int_constant, words, variable_type, local_name, register_name, literal_name}
use Rattle.cf_lower.specs.Written as written
use Rattle.cf_lower.specs.Expressions.{zero, in_register, integer_in, address_in, local_value, value_in, as_value, as_bits, at_kind, loaded, place_named, element_bytes, moved_by, sum_by, sum_of, equated, pointer_operated, loaded_or, read_value, same_value, converted, changed, value, constant_of}
use Rattle.cf_lower_kept.specs.Ready.{is_code, names_well, names_well_if, is_object, is_no_code, of_place, operands_ready, action_ready, is_the_type}
use Rattle.cf_lower_kept.specs.Told.{ToldIf, AllTold}
use Rattle.cf_lower_program.specs.Types.{is_laid, is_lowered}
use Rattle.cf_lower_valid_body.specs.Scope.{Own, NamesObject, NamesFunction, Fits, is_local_type, is_lowered_action}
use Rattle.cf_lower_valid_body.proofs.Types.{no-not, item-passes, bare-small, pointer-type, bare-type, object-sort}
use Rattle.cf_lower_valid_body.proofs.Keeping.{kept_lowered, FitIf, Good, fit-below}
use Rattle.cf_lower_valid_body.proofs.Numbers.{int-fits}
use Rattle.cf_lower_valid_body.proofs.Typed.{Has, constant-has, count-has, value-has, function-has, address-has, cast-has, pointed-has, binary-has, integers-have, ints-have, same-cast, bits-have, kind-has, operated-has, computed-has, prefixed-has, value-cast, register-cast, zero-value, kind-integer}

-- the type of a value that a register holds, or of 0
abbrev pub held_type : Option Sort → CType
held_type None = ty.Int
held_type (Some s) = register_type s

-- what a test gives that gives nothing of nothing
pub strict : (F : Option plain.Kept → Option plain.Kept) → F None ≡ None → (o : Option plain.Kept) → is_some (F o) ≡ true → is_some o ≡ true
strict F e None h = subst (λ x. is_some x ≡ true) e h
strict F e (Some x) h = refl

-- the second of two that are compared
second : (o p : Option plain.Kept) → is_some (plain.compared o p) ≡ true → is_some p ≡ true
second (Some (plain.a_place t)) None h = h
second (Some (plain.a_member t)) None h = h
second (Some (plain.an_integer i)) None h = h
second o None h = absurd (cc)
second o (Some x) h = refl

abbrev kept_lowered_if : Option plain.Kept → Bool
kept_lowered_if None = true
kept_lowered_if (Some x) = kept_lowered x

fit-kept : (n : ℕ) (o : Option plain.Kept) (r : Register) → FitIf n o r → kept_lowered_if o ≡ true
fit-kept n None r h = refl
fit-kept n (Some x) r h = h.1

-- the tests of the type of an object that is named
parts-of : (a b c : Bool) → ((a && true) && (b && c) && true) ≡ true → (a ≡ true) × (c ≡ true)
parts-of true true true e = (refl, refl)
parts-of true true false e = absurd (cc)
parts-of true false c e = absurd (cc)
parts-of false b c e = absurd (cc)

converted-none : (t : SourceType) → plain.converted t None ≡ None
converted-none (integer k) = refl
converted-none (enumeration n) = refl
converted-none (types.pointer t) = refl
converted-none (data_member c t) = refl
converted-none (function_member c t) = refl
converted-none (const t) = converted-none t
converted-none t = refl

some-same : {A : Type 0} (x y : A) → Some x ≡ Some y → x ≡ y
some-same x y e = cc

-- the value of an object's name, and of its local
pub local-value : (t : SourceType) → value_type (local_type (written.local_type [] t)) ≡ value_type (variable_type [] t)
local-value t = by (sort_of t)
  where
    by : (o : Option Sort)
        → value_type (local_type (written.if_scalar o (local.Ints (words [] t)) (λ s. local.Scalar (c_type s))))
        ≡ value_type (written.if_scalar o (variable.Ints (words [] t)) (λ s. variable.Scalar (c_type s)))
    by None = refl
    by (Some s) = refl

-- calls are statements of their own
abbrev pub is_call : Action → Bool
is_call (plain_action.call name t on is into) = true
is_call (plain_action.pointer_call on r t is into) = true
is_call a = false

module _ (names : List Named) where
  abbrev pub GetsIf : Option Sort → Expression → Type 0
  GetsIf None e = Unit {0}
  GetsIf (Some s) e = Has names e (register_type s)

  -- ---- names

  plain-place : (name : Name) (t : SourceType) (v : CVariableType) → lookup names name ≡ Some (object v) → is_code t ≡ false
      → Has names (address_of name) (register_type (sort_to (without_const t)))
  plain-place name t v means isnt =
      address-has names name v means ∙ ap (λ s. Ok (register_type s)) (sym (object-sort t isnt))

  pub place-gets : (name : Name) (t : SourceType) (v : CVariableType) → lookup names name ≡ Some (object v) → value_type v ≡ value_type (variable_type [] t)
      → names_well t ≡ true → is_lowered t ≡ true → is_code t ≡ false → GetsIf (local_kept (place_of t)) (place_named name t)
  place-gets name (reference u) v means is well low isnt =
      let had : Has names (load (named name)) (c_type (sort_to (without_const u))) = value-has names name v means ∙ ap (λ (c : CType). Ok c) is in
      let same : c_type (sort_to (without_const u)) ≡ register_type (sort_to u) = sym (pointer-type (without_const u)) ∙ bare-type u low in
      subst (λ (c : CType). Has names (as_value (sort_to u) (load (named name))) c) (sym (bare-type u low))
      (same-cast names (register_type (sort_to u)) (load (named name)) (subst (λ (c : CType). Has names (load (named name)) c) same had))
  place-gets name (const u) v means is well low isnt = by (is_reference u) (no-not (is_reference u) well)
    where
      by : (b : Bool) → b ≡ false
          → GetsIf (local_kept (holds (sort_to (without_const (if b then referred u else const u)))))
          (elim b [ true ↦ as_value (sort_to (referred (const u))) (load (named name)) | false ↦ address_of name ])
      by true e = absurd (cc)
      by false e = plain-place name u v means isnt
  place-gets name t v means is well low isnt = plain-place name t v means isnt

module _ (names : List Named) (f : Name) (locals : Locals) (result : SourceType) (n d : ℕ) (own : Own names locals.types n d)
    (types : list_all is_local_type locals.types ≡ true) where
  -- ---- registers

  pub in-register : (s : Sort) (r : Register) → r < n → Has names (in_register s r) (register_type s)
  in-register s r lt = value-has names (register_name s r) (variable.Scalar (register_type s)) (own.register s r lt)

  pub integer-has : (r : Register) → r < n → Has names (integer_in r) ty.Int
  integer-has r lt = in-register (number Int) r lt

  pub pointer-has : (r : Register) → r < n → Has names (address_in r) ty.Pointer
  pointer-has r lt = in-register (address void) r lt

  pub local-has : (o : Option Sort) (r : Register) → r < n → Has names (local_value o r) (held_type o)
  local-has None r lt = refl
  local-has (Some s) r lt = in-register s r lt

  pub value-in : (h : Keeping) (r : Register) → r < n → Has names (value_in h r) (held_type (local_kept (h r)))
  value-in h r lt = local-has (local_kept (h r)) r lt

  -- ---- names

  local-gets : (i : ℕ) (o : Option SourceType) → slice_get locals.types i ≡ o → names_well_if o ≡ true → is_some (plain.named o) ≡ true
      → GetsIf names (local_kept (place_of (type_or_void o))) (place_named (local_name i) (type_or_void o))
  local-gets i None e well some = absurd (cc)
  local-gets i (Some t) e well some =
      let ok = both (is_lowered t) (not (is_code t)) (item-passes is_local_type locals.types i t types e) in
      place-gets names (local_name i) t (local_type (written.local_type [] t)) (own.local i t e) (local-value t) well ok.0 (no-not (is_code t) ok.1)

  -- ---- what registers hold

  read-gets : (y : Kept) (r : Register) → r < n → GetsIf names (local_kept (read_kept y)) (read_value y r)
  read-gets (holds (address t)) r lt = by (sort_of t)
    where
      by : (o : Option Sort) → GetsIf names (local_kept (of_sort o)) (loaded_or o r)
      by None = tt
      by (Some (number k)) = value-cast names (number k) (load (pointed (c_type (number k)) (address_in r))) (pointed-has names (c_type (number k)) (address_in r) (pointer-has r lt))
      by (Some (address u)) = value-cast names (address u) (load (pointed ty.Pointer (address_in r))) (pointed-has names ty.Pointer (address_in r) (pointer-has r lt))
      by (Some (code u)) = value-cast names (code u) (load (pointed ty.FunctionPointer (address_in r))) (pointed-has names ty.FunctionPointer (address_in r) (pointer-has r lt))
  read-gets (holds (number k)) r lt = tt
  read-gets (holds (code t)) r lt = tt
  read-gets y r lt = tt

  same-gets : (y : Kept) (r : Register) → r < n → GetsIf names (local_kept y) (same_value y r)
  same-gets (holds s) r lt = register-cast names s (in_register s r) (in-register s r lt)
  same-gets (integer_of k) r lt = refl
  same-gets unknown r lt = tt
  same-gets (argument i t) r lt = tt

  decayed-gets : (y : Kept) (r : Register) → r < n → GetsIf names (local_kept (decayed_kept y)) (same_value y r)
  decayed-gets (holds (address t)) r lt = register-cast names (address t) (in_register (address t) r) (in-register (address t) r lt)
  decayed-gets (holds (number k)) r lt = same-gets (holds (number k)) r lt
  decayed-gets (holds (code t)) r lt = same-gets (holds (code t)) r lt
  decayed-gets y r lt = same-gets y r lt

  -- ---- pointers

  -- a pointer and so many elements of a small size
  moved-has : (o : Arith) (p : Expression) (m : ℕ) (e : Expression) → may_stand_left o ty.Pointer ≡ true
      → ((z : Bool) → binary_type o ty.Pointer z ty.Int false ≡ Some ty.Pointer) → Has names p ty.Pointer → Has names e ty.Int → m ≤ 2 ^ 22
      → Has names (moved_by o p m e) ty.Pointer
  moved-has o p m e left moves h k small =
      binary-has names o p (binary op.Multiply e (constant (int_constant m))) ty.Pointer ty.Int ty.Pointer h
      (ints-have names op.Multiply e (constant (int_constant m)) k (count-has names m small)) left (moves (is_zero p))

  -- what a place of a type that is no function's is told as
  no-code-told : (t : SourceType) (y : Kept) → y ≡ holds (sort_to (without_const t)) → is_no_code t ≡ true → y ≡ holds (address (without_const t))
  no-code-told t y e ok = e ∙ ap (λ (s : Sort). holds s) (object-sort t (no-not (is_code t) ok))

  -- and of an object's type
  object-told : (t : SourceType) (y : Kept) → y ≡ holds (sort_to (without_const t)) → is_object t ≡ true → y ≡ holds (address (without_const t))
  object-told t y e ok = no-code-told t y e (both (not (is_code t)) (not (is_void t)) ok).0

  first-place : (x : Bool) (t : SourceType) → is_object t && x ≡ true → is_object t ≡ true
  first-place x t e = (both (is_object t) x e).0

  sum-gets : (o p : Option plain.Kept) (y z : Kept) (r q : Register) → ToldIf locals o y → ToldIf locals p z → FitIf n o r → FitIf n p q
      → of_place is_object o && of_place is_object p ≡ true → is_some (plain.moved_kept o p) ≡ true → GetsIf names (local_kept (pointer_of y z)) (sum_by [] y z r q)
  sum-gets (Some (plain.an_integer i)) (Some (plain.a_place t)) y z r q h k u v e s =
      subst (λ x. GetsIf names (local_kept (pointer_of x z)) (sum_by [] x z r q)) (sym h.is)
      (subst (λ x. GetsIf names (local_kept (pointer_of (integer_of h.kinds) x)) (sum_by [] (integer_of h.kinds) x r q)) (sym (object-told t z k e))
      (moved-has op.Add (address_in q) (size [] (without_const t)) (integer_in r) refl (λ w. refl) (pointer-has q v.0) (integer-has r u.0) (bare-small t v.1)))
  sum-gets (Some (plain.a_place t)) (Some (plain.an_integer i)) y z r q h k u v e s =
      subst (λ x. GetsIf names (local_kept (pointer_of x z)) (sum_by [] x z r q)) (sym (object-told t y h (first-place true t e)))
      (moved-has op.Add (address_in r) (size [] (without_const t)) (integer_in q) refl (λ w. refl) (pointer-has r u.0) (integer-has q v.0) (bare-small t u.1))
  sum-gets o p y z r q h k u v e s = absurd (cc)

  back-gets : (w : Arith) → may_stand_left w ty.Pointer ≡ true → ((z : Bool) → binary_type w ty.Pointer z ty.Int false ≡ Some ty.Pointer)
      → (o p : Option plain.Kept) (y : Kept) (r q : Register) → ToldIf locals o y → FitIf n o r → FitIf n p q → of_place is_object o ≡ true
      → is_some (plain.forth o p) ≡ true → GetsIf names (local_kept y) (moved_by w (address_in r) (element_bytes [] y) (integer_in q))
  back-gets w left moves (Some (plain.a_place t)) (Some (plain.an_integer i)) y r q h u v e s =
      subst (λ x. GetsIf names (local_kept x) (moved_by w (address_in r) (element_bytes [] x) (integer_in q))) (sym (object-told t y h e))
      (moved-has w (address_in r) (size [] (without_const t)) (integer_in q) left moves (pointer-has r u.0) (integer-has q v.0) (bare-small t u.1))
  back-gets w left moves o p y r q h u v e s = absurd (cc)

  -- the elements between two pointers
  small-element : (o p : Option plain.Kept) (y : Kept) (r : Register) → ToldIf locals o y → FitIf n o r → of_place is_object o ≡ true
      → is_some (plain.compared o p) ≡ true → element_bytes [] y ≤ 2 ^ 22
  small-element (Some (plain.a_place t)) (Some (plain.a_place u)) y r h v e s =
      subst (λ x. element_bytes [] x ≤ 2 ^ 22) (sym (object-told t y h e)) (bare-small t v.1)
  small-element (Some (plain.a_member t)) (Some (plain.a_member u)) y r h v e s = absurd (no-member v.1)
    where
      no-member : false ≡ true → ⊥
      no-member x = cc
  small-element (Some (plain.an_integer i)) (Some (plain.an_integer j)) y r h v e s = subst (λ x. element_bytes [] x ≤ 2 ^ 22) (sym h.is) (omega arith)
  small-element o p y r h v e s = absurd (cc)

  -- objects are no functions
  no-code : (o : Option plain.Kept) → of_place is_object o ≡ true → of_place is_no_code o ≡ true
  no-code (Some (plain.a_place t)) e = (both (not (is_code t)) (not (is_void t)) e).0
  no-code o e = refl

  no-codes : (o p : Option plain.Kept) → of_place is_object o && of_place is_object p ≡ true → of_place is_no_code o && of_place is_no_code p ≡ true
  no-codes o p e =
      let two = both (of_place is_object o) (of_place is_object p) e in
      all_of (of_place is_no_code o) (of_place is_no_code p) (no-code o two.0) (no-code p two.1)

  -- two pointers, or two integers
  compared-has : (w : Arith) → may_stand_left w ty.Pointer ≡ true → binary_type w ty.Pointer false ty.Pointer false ≡ Some ty.Int
      → arithmetic_type w ty.Int ty.Int ≡ ty.Int → (o p : Option plain.Kept) (y z : Kept) (r q : Register) → ToldIf locals o y → ToldIf locals p z
      → FitIf n o r → FitIf n p q → of_place is_no_code o && of_place is_no_code p ≡ true → is_some (plain.compared o p) ≡ true
      → Has names (binary w (local_value (local_kept y) r) (local_value (local_kept z) q)) ty.Int
  compared-has w left pointers integers (Some (plain.a_place t)) (Some (plain.a_place u)) y z r q h k a b e s =
      let two = both (is_no_code t) (is_no_code u) e in
      subst (λ x. Has names (binary w (local_value (local_kept x) r) (local_value (local_kept z) q)) ty.Int) (sym (no-code-told t y h two.0))
      (subst (λ x. Has names (binary w (in_register (address (without_const t)) r) (local_value (local_kept x) q)) ty.Int) (sym (no-code-told u z k two.1))
      (binary-has names w (in_register (address (without_const t)) r) (in_register (address (without_const u)) q) ty.Pointer ty.Pointer ty.Int
      (pointer-has r a.0) (pointer-has q b.0) left pointers))
  compared-has w left pointers integers (Some (plain.a_member t)) (Some (plain.a_member u)) y z r q h k a b e s = absurd (no-member a.1)
    where
      no-member : false ≡ true → ⊥
      no-member x = cc
  compared-has w left pointers integers (Some (plain.an_integer i)) (Some (plain.an_integer j)) y z r q h k a b e s =
      subst (λ x. Has names (binary w (local_value (local_kept x) r) (local_value (local_kept z) q)) ty.Int) (sym h.is)
      (subst (λ x. Has names (binary w (integer_in r) (local_value (local_kept x) q)) ty.Int) (sym k.is)
      (subst (λ (c : CType). Has names (binary w (integer_in r) (integer_in q)) c) integers (ints-have names w (integer_in r) (integer_in q) (integer-has r a.0) (integer-has q b.0))))
  compared-has w left pointers integers o p y z r q h k a b e s = absurd (cc)

  -- equality of what is no function
  equated-has : (w : Arith) (o p : Option plain.Kept) (y : Kept) (a b : Expression) → ToldIf locals o y → of_place is_no_code o ≡ true → is_some (plain.compared o p) ≡ true
      → kept_lowered_if o ≡ true → Has names (binary w a b) ty.Int → Has names (equated w y a b) ty.Int
  equated-has w (Some (plain.a_place t)) p y a b h e s low had = subst (λ x. Has names (equated w x a b) ty.Int) (sym (no-code-told t y h e)) had
  equated-has w (Some (plain.an_integer i)) p y a b h e s low had = subst (λ x. Has names (equated w x a b) ty.Int) (sym h.is) had
  equated-has w (Some (plain.a_member t)) p y a b h e s low had = absurd (cc)
  equated-has w o p y a b h e s low had = absurd (cc)

  pointer-gets : (w : PointerOperator) (g : plain.Keeping) (h : Keeping) (r q : Register) → AllTold locals g h → Good n g
      → operands_ready w (g r) (g q) ≡ true → is_some (plain.pointer_operated w (g r) (g q)) ≡ true
      → GetsIf names (local_kept (operated_kept w (h r) (h q))) (pointer_operated [] w h r q)
  pointer-gets pointer.Add g h r q told good e s = sum-gets (g r) (g q) (h r) (h q) r q (told r) (told q) (good r) (good q) e s
  pointer-gets pointer.Subtract g h r q told good e s =
      back-gets op.Subtract refl (λ z. refl) (g r) (g q) (h r) r q (told r) (good r) (good q) (both (of_place is_object (g r)) (of_place is_object (g q)) e).0 s
  pointer-gets pointer.Difference g h r q told good e s =
      let ar = fit-below n (g r) r (good r) (strict (λ o. plain.compared o (g q)) refl (g r) s) in
      let aq = fit-below n (g q) q (good q) (second (g r) (g q) s) in
      let small = small-element (g r) (g q) (h r) r (told r) (good r) (both (of_place is_object (g r)) (of_place is_object (g q)) e).0 s in
      ints-have names op.Divide (binary op.Subtract (address_in r) (address_in q)) (constant (int_constant (element_bytes [] (h r))))
      (binary-has names op.Subtract (address_in r) (address_in q) ty.Pointer ty.Pointer ty.Int (pointer-has r ar) (pointer-has q aq) refl refl)
      (count-has names (element_bytes [] (h r)) small)
  pointer-gets pointer.Less g h r q told good e s =
      compared-has op.Less refl refl refl (g r) (g q) (h r) (h q) r q (told r) (told q) (good r) (good q) (no-codes (g r) (g q) e) s
  pointer-gets pointer.Greater g h r q told good e s =
      compared-has op.Greater refl refl refl (g r) (g q) (h r) (h q) r q (told r) (told q) (good r) (good q) (no-codes (g r) (g q) e) s
  pointer-gets pointer.LessEqual g h r q told good e s =
      compared-has op.LessEqual refl refl refl (g r) (g q) (h r) (h q) r q (told r) (told q) (good r) (good q) (no-codes (g r) (g q) e) s
  pointer-gets pointer.GreaterEqual g h r q told good e s =
      compared-has op.GreaterEqual refl refl refl (g r) (g q) (h r) (h q) r q (told r) (told q) (good r) (good q) (no-codes (g r) (g q) e) s
  pointer-gets pointer.Equal g h r q told good e s =
      equated-has op.Equal (g r) (g q) (h r) (value_in h r) (value_in h q) (told r) (both (of_place is_no_code (g r)) (of_place is_no_code (g q)) e).0 s
      (fit-kept n (g r) r (good r))
      (compared-has op.Equal refl refl refl (g r) (g q) (h r) (h q) r q (told r) (told q) (good r) (good q) e s)
  pointer-gets pointer.NotEqual g h r q told good e s =
      equated-has op.NotEqual (g r) (g q) (h r) (value_in h r) (value_in h q) (told r) (both (of_place is_no_code (g r)) (of_place is_no_code (g q)) e).0 s
      (fit-kept n (g r) r (good r))
      (compared-has op.NotEqual refl refl refl (g r) (g q) (h r) (h q) r q (told r) (told q) (good r) (good q) e s)

  -- ---- truth, conversions and changes

  truth-has : (w : Arith) → may_stand_left w ty.Pointer ≡ true → may_stand_left w ty.FunctionPointer ≡ true → binary_type w ty.Pointer false ty.Int true ≡ Some ty.Int
      → binary_type w ty.FunctionPointer false ty.Int true ≡ Some ty.Int → arithmetic_type w ty.Int ty.Int ≡ ty.Int
      → (o : Option Sort) (r : Register) → r < n → Has names (binary w (local_value o r) zero) ty.Int
  truth-has w left1 left2 p1 p2 ints None r lt =
      subst (λ (c : CType). Has names (binary w zero zero) c) ints (ints-have names w zero zero refl refl)
  truth-has w left1 left2 p1 p2 ints (Some (number k)) r lt =
      subst (λ (c : CType). Has names (binary w (in_register (number k) r) zero) c) ints (ints-have names w (in_register (number k) r) zero (in-register (number k) r lt) refl)
  truth-has w left1 left2 p1 p2 ints (Some (address t)) r lt =
      binary-has names w (in_register (address t) r) zero ty.Pointer ty.Int ty.Int (in-register (address t) r lt) refl left1 p1
  truth-has w left1 left2 p1 p2 ints (Some (code t)) r lt =
      binary-has names w (in_register (code t) r) zero ty.FunctionPointer ty.Int ty.Int (in-register (code t) r lt) refl left2 p2

  converted-gets : (s : Option Sort) (y : Kept) (r : Register) → r < n → GetsIf names (local_kept (of_sort s)) (converted s y r)
  converted-gets None y r lt = tt
  converted-gets (Some (number k)) y r lt = bits-have names (c_type (number k)) (at_kind k (integer_in r)) (kind-has names k (integer_in r) (integer-has r lt)) (kind-integer k)
  converted-gets (Some (address t)) (integer_of i) r lt = zero-value names (address t)
  converted-gets (Some (address t)) y r lt = register-cast names (address t) (in_register (address t) r) (in-register (address t) r lt)
  converted-gets (Some (code t)) (integer_of i) r lt = zero-value names (code t)
  converted-gets (Some (code t)) y r lt = register-cast names (code t) (in_register (code t) r) (in-register (code t) r lt)

  result-gets : (o : Arith) (k : Kind) (e : Expression) → Has names e ty.Int → GetsIf names (local_kept (result_kept o k)) e
  result-gets op.Less k e h = h
  result-gets op.Greater k e h = h
  result-gets op.LessEqual k e h = h
  result-gets op.GreaterEqual k e h = h
  result-gets op.Equal k e h = h
  result-gets op.NotEqual k e h = h
  result-gets o k e h = h

  constant-gets : (z : ℤ) → GetsIf names (local_kept (constant_kept z)) (constant_of z)
  constant-gets z = by (fits Int z || fits UInt z)
    where
      by : (b : Bool) → GetsIf names (local_kept (if b then integer_of (λ k. fits k z) else unknown)) (constant_of z)
      by true = constant-has names (constants.Signed (convert Int z)) (int-fits z)
      by false = tt

  declared-gets : (i : ℕ) (t : SourceType) (o : Option SourceType) → slice_get locals.types i ≡ o → is_the_type o t ≡ true
      → GetsIf names (local_kept (declared_kept locals i t)) (address_of (local_name i))
  declared-gets i t None e is = absurd (cc)
  declared-gets i t (Some u) e is = by (is_argument locals i && is_scalar t)
    where
      by : (b : Bool) → GetsIf names (local_kept (if b then argument i t else holds (address (without_const t)))) (address_of (local_name i))
      by true = tt
      by false = address-has names (local_name i) (local_type (written.local_type [] u)) (own.local i u e)

  -- ---- actions

  module _ (g : plain.Keeping) (h : Keeping) (told : AllTold locals g h) (good : Good n g) where
    below : (F : Option plain.Kept → Option plain.Kept) → F None ≡ None → (r : Register) → is_some (F (g r)) ≡ true → r < n
    below F e r s = fit-below n (g r) r (good r) (strict F e (g r) s)

    is-given : (b : Bool) (x : plain.Kept) → is_some (plain.given b x) ≡ true → b ≡ true
    is-given true x s = refl
    is-given false x s = absurd (cc)

    number-below : (k : Kind) (r : Register) → plain.has_kind k (g r) ≡ true → r < n
    number-below k r e = fit-below n (g r) r (good r) (by (g r) e)
      where
        by : (o : Option plain.Kept) → plain.has_kind k o ≡ true → is_some o ≡ true
        by None x = absurd (cc)
        by (Some y) x = refl

    integer-below : (r : Register) → plain.integer_in (g r) ≡ true → r < n
    integer-below r e = fit-below n (g r) r (good r) (by (g r) e)
      where
        by : (o : Option plain.Kept) → plain.integer_in o ≡ true → is_some o ≡ true
        by None x = absurd (cc)
        by (Some y) x = refl

    right-below : (o : Arith) (k : Kind) (r : Register) → plain.right_has o k (g r) ≡ true → r < n
    right-below o k r e = by (source_shift o) e
      where
        by : (b : Bool) → (if b then plain.integer_in (g r) else plain.has_kind k (g r)) ≡ true → r < n
        by true x = integer-below r x
        by false x = number-below k r x

    pub value-gets : (a : Action) → is_call a ≡ false → action_ready locals.types result g a ≡ true → Fits names f a
        → is_some (plain.kept_by locals.types result g a) ≡ true → GetsIf names (local_kept (kept_by locals h a)) (value [] f locals h a)
    value-gets (plain_action.number z) isnt e fit s = constant-gets z
    value-gets (plain_action.text j b) isnt e fit s = address-has names (literal_name f j) fit.names_it.type fit.names_it.means
    value-gets (plain_action.local i) isnt e fit s = local-gets i (slice_get locals.types i) refl e s
    value-gets (plain_action.static_object name t) isnt e fit s =
        let laid = parts-of (is_lowered t) (is_laid t) (not (is_code t)) fit.lowered in
        place-gets names name t fit.names_it.type fit.names_it.means fit.names_it.value e laid.0 (no-not (is_code t) laid.1)
    value-gets (plain_action.function name t) isnt e fit s = function-has names name fit.names_it.prototype fit.names_it.means fit.names_it.not_main
    value-gets (plain_action.read r) isnt e fit s = read-gets (h r) r (below plain.read_kept refl r s)
    value-gets (plain_action.dereference r) isnt e fit s = same-gets (h r) r (below plain.pointed_kept refl r s)
    value-gets (plain_action.decay r) isnt e fit s = decayed-gets (h r) r (below plain.decayed_kept refl r s)
    value-gets (plain_action.index r q) isnt e fit s = sum-gets (g r) (g q) (h r) (h q) r q (told r) (told q) (good r) (good q) e s
    value-gets (plain_action.convert t r) isnt e fit s = converted-gets (sort_of t) (h r) r (below (plain.converted t) (converted-none t) r s)
    value-gets (plain_action.from_void t r) isnt e fit s = same-cast names ty.Pointer (address_in r) (pointer-has r (below (plain.from_void_kept t) refl r s))
    value-gets (plain_action.operate o k r q) isnt e fit s =
        let two = both (plain.has_kind k (g r)) (plain.right_has o k (g q)) (is-given (plain.has_kind k (g r) && plain.right_has o k (g q)) _ s) in
        result-gets o k _ (computed-has names o k (integer_in r) (integer_in q) (integer-has r (number-below k r two.0)) (integer-has q (right-below o k q two.1)))
    value-gets (plain_action.unary o k r) isnt e fit s =
        prefixed-has names o k (integer_in r) (integer-has r (number-below k r (is-given (plain.has_kind k (g r)) _ s)))
    value-gets (plain_action.truth r) isnt e fit s = truth-has op.NotEqual refl refl refl refl refl (local_kept (h r)) r (below plain.tested refl r s)
    value-gets (plain_action.logical_not r) isnt e fit s = truth-has op.Equal refl refl refl refl refl (local_kept (h r)) r (below plain.tested refl r s)
    value-gets (plain_action.pointer_operate w r q) isnt e fit s = pointer-gets w g h r q told good e s
    value-gets (plain_action.changed (arithmetic o k to) r q) isnt e fit s =
        let two = both (plain.integer_in (g r)) (plain.right_has o k (g q)) (is-given (plain.integer_in (g r) && plain.right_has o k (g q)) _ s) in
        operated-has names o k to (integer_in r) (integer_in q) (integer-has r (integer-below r two.0)) (integer-has q (right-below o k q two.1))
    value-gets (plain_action.changed (moved false) r q) isnt e fit s =
        back-gets op.Add refl (λ z. refl) (g r) (g q) (h r) r q (told r) (good r) (good q) e s
    value-gets (plain_action.changed (moved true) r q) isnt e fit s =
        back-gets op.Subtract refl (λ z. refl) (g r) (g q) (h r) r q (told r) (good r) (good q) e s
    value-gets (plain_action.declare i t) isnt e fit s = declared-gets i t (slice_get locals.types i) refl e
    value-gets (plain_action.call name t on is into) isnt e fit s = absurd (cc)
    value-gets (plain_action.pointer_call on r t is into) isnt e fit s = absurd (cc)
    value-gets a isnt e fit s = tt
