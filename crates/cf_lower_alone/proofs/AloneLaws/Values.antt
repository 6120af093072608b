-- The C expressions of actions with other names for functions and objects.
use Rattle.std.proofs.Common.{◌≡◌, ℕ, Bool, true, false, List, refl, ap, ◌∙◌}
use Rattle.std.specs.Prelude.{Option, Some, None}
use Rattle.cf_base.specs.declared.kind.Kind.{Kind}
use Rattle.cf_base.specs.declared.kind.Kind.TheVariants.{Int}
use Rattle.cf_base.specs.declared.arith.Arith.{Arith}
use Rattle.cf_base.specs.declared.arith.Arith.TheVariants as op
use Rattle.cf_types.specs.Operators.{is_shift}
use Rattle.cf_core.specs.declared.operators.PointerOperator.{PointerOperator}
use Rattle.cf_core.specs.declared.operators.PointerOperator.TheVariants as pointer
use Rattle.cf_core.specs.Types.{Name, SourceType, void}
use Rattle.cf_core.specs.Classes.{Class}
use Rattle.cf_core.specs.Core.{Change, arithmetic, moved}
use Rattle.cf_core.specs.Places.{is_reference}
use Rattle.cf_core.specs.Size.{size}
use Rattle.cf_lower_layout.specs.Sorts.{Sort, number, address, code, sort_to, sort_of}
use Rattle.cf_plain.specs.Plain as plain
use Rattle.cf_plain.specs.Plain.{Register, Action}
use Rattle.cf_plain.specs.Joined.{renamed_action}
use Rattle.cc_whole.specs.declared.types.CType.{CType}
use Rattle.cc_whole.specs.declared.types.CType.TheVariants as ty
use Rattle.cc_whole.specs.Plain.{Expression, named, pointed, constant, load, unary, cast, address as address_of, binary}
use Rattle.cc_whole_link.specs.Rename.{Renaming}
use Rattle.cc_whole_closed.proofs.Plains.{expression_with}
use Rattle.cf_lower.specs.Kept.{Kept, integer_of, holds, Keeping, local_kept, Locals, type_of_local, referred}
use Rattle.cf_lower.specs.Written.{c_integer, c_type, register_type, int_constant, local_name, register_name, flag_name, result_name, literal_name}
use Rattle.cf_lower.specs.Expressions.{zero, in_register, integer_in, address_in, local_value, value_in, as_value, at_kind, place_named, operated, prefix_of, element_bytes, moved_by, sum_by, equated, pointer_operated, loaded_or, read_value, same_value, converted, changed, value}

-- the names that the C has for its own stay
pub record KeepsOwn (r : Renaming) : Type 0 where
  pub local : (i : ℕ) → r (local_name i) ≡ local_name i
  pub register : (s : Sort) (i : Register) → r (register_name s i) ≡ register_name s i
  pub flag : (d : ℕ) → r (flag_name d) ≡ flag_name d
  pub result : (t : CType) → r (result_name t) ≡ result_name t

-- what an action of a function names goes by its other name, the function having another name too
abbrev pub Goes : Renaming → (Name → Name) → Name → Name → Action → Type 0
Goes r q f f' (plain.text j b) = r (literal_name f j) ≡ literal_name f' j
Goes r q f f' (plain.static_object n t) = r n ≡ q n
Goes r q f f' (plain.function n t) = r n ≡ q n
Goes r q f f' (plain.call n t object is into) = r n ≡ q n
Goes r q f f' a = Unit {0}

module _ (r : Renaming) (own : KeepsOwn r) where
  abbrev pub Stays : Expression → Type 0
  Stays e = expression_with e r ≡ e

  pub register-stays : (s : Sort) (p : Register) → Stays (in_register s p)
  register-stays s p = ap (λ n. load (named n)) (own.register s p)

  local-stays : (o : Option Sort) (p : Register) → Stays (local_value o p)
  local-stays None p = refl
  local-stays (Some s) p = register-stays s p

  pub held-stays : (g : Keeping) (p : Register) → Stays (value_in g p)
  held-stays g p = local-stays (local_kept (g p)) p

  pub cast-stays : (t : CType) (e : Expression) → Stays e → Stays (cast t e)
  cast-stays t e h = ap (cast t) h

  pub binary-stays : (o : Arith) (a b : Expression) → Stays a → Stays b → Stays (binary o a b)
  binary-stays o a b h k = ap (λ x. binary o x (expression_with b r)) h ∙ ap (binary o a) k

  operated-stays : (o : Arith) (k : Kind) (a b : Expression) → Stays a → Stays b → Stays (operated o k a b)
  operated-stays o k a b h m = go (is_shift o)
    where
      go : (c : Bool) → Stays (elim c [ true ↦ binary o (at_kind k a) b | false ↦ binary o (at_kind k a) (at_kind k b) ])
      go true = binary-stays o (at_kind k a) b (cast-stays (c_integer k) a h) m
      go false = binary-stays o (at_kind k a) (at_kind k b) (cast-stays (c_integer k) a h) (cast-stays (c_integer k) b m)

  place-with : (n : Name) (t : SourceType) → expression_with (place_named n t) r ≡ place_named (r n) t
  place-with n t = go (is_reference t)
    where
      go : (c : Bool) → expression_with (elim c [ true ↦ as_value (sort_to (referred t)) (load (named n)) | false ↦ address_of n ]) r
          ≡ elim c [ true ↦ as_value (sort_to (referred t)) (load (named (r n))) | false ↦ address_of (r n) ]
      go true = refl
      go false = refl

  moved-stays : (o : Arith) (p : Expression) (n : ℕ) (e : Expression) → Stays p → Stays e → Stays (moved_by o p n e)
  moved-stays o p n e h k =
      binary-stays o p (binary op.Multiply e (constant (int_constant n))) h (binary-stays op.Multiply e (constant (int_constant n)) k refl)

  integer-stays : (p : Register) → Stays (integer_in p)
  integer-stays p = register-stays (number Int) p

  address-stays : (p : Register) → Stays (address_in p)
  address-stays p = register-stays (address void) p

  sum-stays : (classes : List Class) (x y : Kept) (p s : Register) → Stays (sum_by classes x y p s)
  sum-stays classes (holds (address t)) y p s = moved-stays op.Add (address_in p) (size classes t) (integer_in s) (address-stays p) (integer-stays s)
  sum-stays classes x y p s = moved-stays op.Add (address_in s) (element_bytes classes y) (integer_in p) (address-stays s) (integer-stays p)

  equated-stays : (o : Arith) (x : Kept) (a b : Expression) → Stays a → Stays b → Stays (equated o x a b)
  equated-stays o (holds (code t)) a b h k =
      binary-stays o (binary op.Equal a zero) (binary op.Equal b zero) (binary-stays op.Equal a zero h refl) (binary-stays op.Equal b zero k refl)
  equated-stays o x a b h k = binary-stays o a b h k

  pointers-stay : (classes : List Class) (o : PointerOperator) (g : Keeping) (p s : Register) → Stays (pointer_operated classes o g p s)
  pointers-stay classes pointer.Add g p s = sum-stays classes (g p) (g s) p s
  pointers-stay classes pointer.Subtract g p s =
      moved-stays op.Subtract (address_in p) (element_bytes classes (g p)) (integer_in s) (address-stays p) (integer-stays s)
  pointers-stay classes pointer.Difference g p s =
      binary-stays op.Divide (binary op.Subtract (address_in p) (address_in s)) (constant (int_constant (element_bytes classes (g p))))
      (binary-stays op.Subtract (address_in p) (address_in s) (address-stays p) (address-stays s)) refl
  pointers-stay classes pointer.Less g p s = binary-stays op.Less (value_in g p) (value_in g s) (held-stays g p) (held-stays g s)
  pointers-stay classes pointer.Greater g p s = binary-stays op.Greater (value_in g p) (value_in g s) (held-stays g p) (held-stays g s)
  pointers-stay classes pointer.LessEqual g p s = binary-stays op.LessEqual (value_in g p) (value_in g s) (held-stays g p) (held-stays g s)
  pointers-stay classes pointer.GreaterEqual g p s = binary-stays op.GreaterEqual (value_in g p) (value_in g s) (held-stays g p) (held-stays g s)
  pointers-stay classes pointer.Equal g p s = equated-stays op.Equal (g p) (value_in g p) (value_in g s) (held-stays g p) (held-stays g s)
  pointers-stay classes pointer.NotEqual g p s = equated-stays op.NotEqual (g p) (value_in g p) (value_in g s) (held-stays g p) (held-stays g s)

  loaded-stays : (o : Option Sort) (p : Register) → Stays (loaded_or o p)
  loaded-stays None p = refl
  loaded-stays (Some s) p = ap (λ e. cast (register_type s) (load (pointed (c_type s) e))) (address-stays p)

  read-stays : (x : Kept) (p : Register) → Stays (read_value x p)
  read-stays (holds (address t)) p = loaded-stays (sort_of t) p
  read-stays x p = refl

  same-stays : (x : Kept) (p : Register) → Stays (same_value x p)
  same-stays (holds s) p = cast-stays (register_type s) (in_register s p) (register-stays s p)
  same-stays x p = refl

  converted-stays : (o : Option Sort) (x : Kept) (p : Register) → Stays (converted o x p)
  converted-stays None x p = refl
  converted-stays (Some (number k)) x p =
      cast-stays ty.Int (at_kind k (integer_in p)) (cast-stays (c_integer k) (integer_in p) (integer-stays p))
  converted-stays (Some (address t)) (integer_of f) p = refl
  converted-stays (Some (address t)) x p = cast-stays ty.Pointer (in_register (address t) p) (register-stays (address t) p)
  converted-stays (Some (code t)) (integer_of f) p = refl
  converted-stays (Some (code t)) x p = cast-stays ty.FunctionPointer (in_register (code t) p) (register-stays (code t) p)

  changed-stays : (classes : List Class) (c : Change) (g : Keeping) (p s : Register) → Stays (changed classes c g p s)
  changed-stays classes (arithmetic o k to) g p s =
      cast-stays ty.Int (at_kind to (operated o k (integer_in p) (integer_in s)))
      (cast-stays (c_integer to) (operated o k (integer_in p) (integer_in s)) (operated-stays o k (integer_in p) (integer_in s) (integer-stays p) (integer-stays s)))
  changed-stays classes (moved false) g p s =
      moved-stays op.Add (address_in p) (element_bytes classes (g p)) (integer_in s) (address-stays p) (integer-stays s)
  changed-stays classes (moved true) g p s =
      moved-stays op.Subtract (address_in p) (element_bytes classes (g p)) (integer_in s) (address-stays p) (integer-stays s)

  -- the value of an action
  pub value-with : (q : Name → Name) (classes : List Class) (f f' : Name) (locals : Locals) (g : Keeping) (a : Action) → Goes r q f f' a
      → expression_with (value classes f locals g a) r ≡ value classes f' locals g (renamed_action q a)
  value-with q classes f f' locals g (plain.text j b) e = ap address_of e
  value-with q classes f f' locals g (plain.local i) e =
      place-with (local_name i) (type_of_local locals i) ∙ ap (λ n. place_named n (type_of_local locals i)) (own.local i)
  value-with q classes f f' locals g (plain.static_object n t) e = place-with n t ∙ ap (λ n. place_named n t) e
  value-with q classes f f' locals g (plain.function n t) e = ap (λ n. load (named n)) e
  value-with q classes f f' locals g (plain.read p) e = read-stays (g p) p
  value-with q classes f f' locals g (plain.dereference p) e = same-stays (g p) p
  value-with q classes f f' locals g (plain.decay p) e = same-stays (g p) p
  value-with q classes f f' locals g (plain.index p s) e = sum-stays classes (g p) (g s) p s
  value-with q classes f f' locals g (plain.convert t p) e = converted-stays (sort_of t) (g p) p
  value-with q classes f f' locals g (plain.from_void t p) e = cast-stays ty.Pointer (address_in p) (address-stays p)
  value-with q classes f f' locals g (plain.operate o k p s) e =
      cast-stays ty.Int (operated o k (integer_in p) (integer_in s)) (operated-stays o k (integer_in p) (integer_in s) (integer-stays p) (integer-stays s))
  value-with q classes f f' locals g (plain.unary o k p) e =
      ap (λ x. cast ty.Int (unary (prefix_of o) (cast (c_integer k) x))) (integer-stays p)
  value-with q classes f f' locals g (plain.truth p) e = binary-stays op.NotEqual (value_in g p) zero (held-stays g p) refl
  value-with q classes f f' locals g (plain.logical_not p) e = binary-stays op.Equal (value_in g p) zero (held-stays g p) refl
  value-with q classes f f' locals g (plain.pointer_operate o p s) e = pointers-stay classes o g p s
  value-with q classes f f' locals g (plain.changed c p s) e = changed-stays classes c g p s
  value-with q classes f f' locals g (plain.declare i t) e = ap address_of (own.local i)
  value-with q classes f f' locals g a e = refl
