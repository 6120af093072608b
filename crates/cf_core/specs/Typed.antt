-- What types the nodes of expressions and initialisers have, and what types their parts must have (5, 8.4, 12).
use Rattle.std.specs.Prelude.{ℕ, Bool, true, false, ◌&&◌, ◌||◌, not, nat_le, if◌then◌else◌, List, [], ◌∷◌, pos, Option, Some, None, slice_get, is_some, length, find, bytes_eq}
use Rattle.cf_base.specs.declared.kind.Kind.TheVariants.{Char, SChar, UChar, Int}
use Rattle.cf_core.specs.Types.{Name, SourceType, void, integer, class, pointer, reference, array, data_member, function_member, const, plain, same_but_const, parameters, result, is_class, is_void}
use Rattle.cf_core.specs.Classes.{Special, MemberFunction, class_named, fields_of, declared, copy_in, assignment_in}
use Rattle.cf_core.specs.Subobjects.{Path, class_at}
use Rattle.cf_core.specs.Core.{Core, Cores, MaybeCore, Static, Target, direct, dispatched, Change, Holder, no_temporary, local_temporary, static_temporary, none, more, absent, given, number, text, this, local, static_object, function, member, read, address, dereference, decay, index, convert, up, down, from_void, to_member, data_pointer, function_pointer, through, operate, unary, logical_not, logical_and, logical_or, pointer_operate, conditional, comma, store, update, step, assign, temporary, call, virtual_call, pointer_call, new, new_array, delete, delete_array, build, copy, each, list, string, bind, zeros, blank}
use Rattle.cf_core.specs.Places.{is_scalar, class_of}
use Rattle.cf_core.specs.Calls.{behind_first, takes_object}
use Rattle.cf_core.specs.Typing.{Scope, Typing, no_typing, allowed, is_function, same_type, of_start, of_value, null_if, is_zero, of_number, of_place, of_name, of_result, is_integer, is_condition, is_expression, pointed, points_to_object, is_class_place, operated_type, is_right_operand, pointer_operated, changes, either, converts}

module _ (scope : Scope) where
  abbrev pub field_type : Name → ℕ → Option SourceType
  field_type c i = slice_get (fields_of scope.classes c) i

  -- a data member of a place
  abbrev pub member_of : Option SourceType → ℕ → Typing
  member_of None i = no_typing
  member_of (Some t) i = of_name (field_type (class_of t) i)

  -- a place of a class or a pointer to one, taken to a class
  abbrev pub moved_to : Typing → (Name → Option Name) → Typing
  moved_to x go = elim x.place [ None ↦ by_pointer (pointed x.type) | Some t ↦ to_place (go (class_of t)) ]
    where
      to_place : Option Name → Typing
      to_place None = no_typing
      to_place (Some d) = of_place (class d)

      to_class : Option Name → Typing
      to_class None = no_typing
      to_class (Some d) = of_value (pointer (class d))

      by_pointer : Option SourceType → Typing
      by_pointer None = no_typing
      by_pointer (Some t) = to_class (go (class_of t))

  abbrev pub derived_of : Name → Path → Name → Option Name
  derived_of c path d = leads (class_at scope.classes c path)
    where
      leads : Option Name → Option Name
      leads None = None
      leads (Some e) = if bytes_eq e d then Some c else None

  -- a pointer to a member of a base as one of a derived class (4.8)
  abbrev pub of_derived : Path → Typing → Typing
  of_derived path x = record no_typing {
    value = λ t. in_base t;
    member = λ c. elim (class_at scope.classes c path) [ None ↦ None | Some d ↦ x.member d ];
    start = λ t. in_base t;
  }
    where
      in_class : Option Name → (Name → SourceType) → Bool
      in_class None form = false
      in_class (Some d) form = x.value (form d)

      in_base : SourceType → Bool
      in_base (data_member c t) = in_class (class_at scope.classes c path) (λ d. data_member d t)
      in_base (function_member c t) = in_class (class_at scope.classes c path) (λ d. function_member d t)
      in_base (const t) = in_base t
      in_base t = false

  abbrev pub of_data_pointer : ℕ → Typing
  of_data_pointer i = record no_typing { value = points; member = λ c. field_type c i; start = points }
    where
      points : SourceType → Bool
      points (data_member c t) = same_type (field_type c i) t
      points (const t) = points t
      points t = false

  abbrev pub of_function_pointer : Target → Typing
  of_function_pointer target = record no_typing { value = points target; start = points target }
    where
      points : Target → SourceType → Bool
      points (direct f) (function_member c t) = true
      points (dispatched signature) (function_member c t) = is_some (declared scope.classes c signature)
      points target (const t) = points target t
      points target t = false

  -- arguments of parameters
  abbrev pub fit : List SourceType → List Typing → Bool
  fit [] [] = true
  fit (t ∷ ts) (x ∷ xs) = x.start t && fit ts xs
  fit ts xs = false

  abbrev pub all_start : SourceType → List Typing → Bool
  all_start t [] = true
  all_start t (x ∷ xs) = x.start t && all_start t xs

  -- data members in order, and what is left of them
  abbrev pub fields_start : List SourceType → List Typing → Typing → Bool
  fields_start ts [] rest = all_left ts
    where
      all_left : List SourceType → Bool
      all_left [] = true
      all_left (t ∷ ts) = rest.start t && all_left ts
  fields_start [] (x ∷ xs) rest = false
  fields_start (t ∷ ts) (x ∷ xs) rest = x.start t && fields_start ts xs rest

  abbrev pub list_starts : List Typing → Typing → SourceType → Bool
  list_starts xs rest (array t n) = nat_le (length xs) n && all_start t xs && (nat_le n (length xs) || rest.start t)
  list_starts xs rest (class c) = is_some (class_named scope.classes c) && fields_start (fields_of scope.classes c) xs rest
  list_starts xs rest (const t) = list_starts xs rest t
  list_starts xs rest t = false

  abbrev pub each_starts : Typing → SourceType → Bool
  each_starts x (array t n) = x.start t
  each_starts x (const t) = each_starts x t
  each_starts x t = false

  abbrev pub is_char : SourceType → Bool
  is_char (integer Char) = true
  is_char (integer SChar) = true
  is_char (integer UChar) = true
  is_char (const t) = is_char t
  is_char t = false

  abbrev pub string_starts : ℕ → SourceType → Bool
  string_starts m (array t n) = is_char t && nat_le m n
  string_starts m (const t) = string_starts m t
  string_starts m t = false

  abbrev pub built_type : SourceType → Name
  built_type (array t n) = built_type t
  built_type t = class_of t

  abbrev pub special_parameters : Option Special → List SourceType
  special_parameters None = []
  special_parameters (Some f) = behind_first (parameters f.type)

  -- the default arguments of the copy constructor of a type's class
  abbrev pub copies_with : SourceType → List Typing → Bool
  copies_with t xs = fit (special_parameters (copy_in (class_named scope.classes (built_type t)))) xs

  abbrev pub by_value : Option Special → Bool
  by_value None = false
  by_value (Some f) = takes_object f

  abbrev pub assigns_with : SourceType → List Typing → Bool
  assigns_with t xs = if by_value (assignment_in (class_named scope.classes (built_type t))) then copies_with t xs else fit [] xs

  -- the static object that a reference binds as a temporary (8.4.3)
  abbrev pub holds_for : Option Static → SourceType → Bool
  holds_for None t = false
  holds_for (Some s) t = same_but_const s.type t

  -- what a reference binds
  abbrev pub binds : Holder → Typing → SourceType → Bool
  binds no_temporary x (reference t) = same_type x.place t
  binds (local_temporary i u) x (reference t) = same_but_const u t && same_type (slice_get scope.locals i) u && x.start u
  binds (static_temporary name) x (reference t) = holds_for (find (λ (s : Static). bytes_eq s.name name) scope.statics) t && x.start t
  binds h x (const t) = binds h x t
  binds h x t = false

  -- the object of a call, if it is a member function's
  abbrev pub on_object : Option Typing → Bool
  on_object None = true
  on_object (Some x) = is_class_place x

  abbrev pub declares_virtual : Option SourceType → Name → Bool
  declares_virtual None signature = false
  declares_virtual (Some t) signature = is_virtual_in (declared scope.classes (class_of t) signature)
    where
      is_virtual_in : Option MemberFunction → Bool
      is_virtual_in None = false
      is_virtual_in (Some f) = f.is_virtual

  -- a pointer to a function, or to a member function of the object's class
  abbrev pub is_called : Option Typing → Typing → SourceType → Bool
  is_called None x t = x.value (pointer t) || same_type x.place t
  is_called (Some object) x t = elim object.place [ None ↦ false | Some c ↦ x.value (function_member (class_of c) t) ]

  abbrev pub through_of : Option SourceType → Typing → Typing
  through_of None x = no_typing
  through_of (Some t) x = of_name (x.member (class_of t))

  abbrev pub decayed_type : Option SourceType → Typing
  decayed_type None = no_typing
  decayed_type (Some (array t n)) = of_value (pointer t)
  decayed_type (Some (const (array t n))) = of_value (pointer t)
  decayed_type (Some t) = allowed (is_function t) (of_value (pointer t))

  abbrev pub pointed_place : Option SourceType → Typing
  pointed_place (Some t) = of_place t
  pointed_place None = no_typing

  abbrev pub read_type : Option SourceType → Typing
  read_type None = no_typing
  read_type (Some t) = allowed (is_scalar t) (of_value (plain t))

  abbrev pub stored : Option SourceType → Typing → Typing
  stored None x = no_typing
  stored (Some t) x = allowed (is_scalar t && x.value t) (of_place t)

  abbrev pub changed_in_place : Option SourceType → Bool → Typing
  changed_in_place None ok = no_typing
  changed_in_place (Some t) ok = allowed ok (of_place t)

  abbrev pub address_type : Option SourceType → Typing
  address_type None = no_typing
  address_type (Some t) = of_value (pointer t)

  abbrev pub indexed_type : Typing → Typing → Typing
  indexed_type x y =
      if points_to_object x && is_integer y then pointed_place (pointed x.type)
      else (if is_integer x && points_to_object y then pointed_place (pointed y.type) else no_typing)

  abbrev pub stepped : Bool → Change → Option SourceType → Typing
  stepped is_postfix change None = no_typing
  stepped is_postfix change (Some t) =
      allowed (changes change (Some t) (of_number (pos 1))) (if is_postfix then of_value (plain t) else of_place t)

  abbrev pub void_pointer : Option SourceType → Bool
  void_pointer None = false
  void_pointer (Some t) = is_void t

  abbrev pub named_class : Option Name → Typing
  named_class None = no_typing
  named_class (Some c) = of_place (class c)

  -- what is assigned memberwise or by its class's function: an object of any type, also one of a generated assignment's members (12.8)
  abbrev pub is_assigned : SourceType → Bool
  is_assigned (array t n) = true
  is_assigned (const t) = is_assigned t
  is_assigned t = is_class t || is_scalar t

  abbrev pub starts_class : (List Typing → Bool) → List Typing → SourceType → Bool
  starts_class fits_all xs t = is_class t && is_some (class_named scope.classes (class_of t)) && fits_all xs

  abbrev pub is_reference : SourceType → Bool
  is_reference (reference t) = true
  is_reference (const t) = is_reference t
  is_reference t = false

  abbrev mutual
    pub typing : Core → Typing
    typing (number z) = of_number z
    typing (text j bytes) = of_place (array (integer Char) (length bytes))
    typing this = named_class scope.this
    typing (local i) = of_name (slice_get scope.locals i)
    typing (static_object n t) = of_name (Some t)
    typing (function n t) = allowed (is_function t) (of_place t)
    typing (member e i) = member_of (typing e).place i
    typing (read e) = read_type (typing e).place
    typing (address e) = address_type (typing e).place
    typing (dereference e) = pointed_place (pointed (typing e).type)
    typing (decay e) = decayed_type (typing e).place
    typing (index a b) = indexed_type (typing a) (typing b)
    typing (convert t e) = allowed (converts (plain t) (typing e)) (null_if (is_zero (typing e).number) (of_value (plain t)))
    typing (up path e) = moved_to (typing e) (λ c. class_at scope.classes c path)
    typing (down c path e) = moved_to (typing e) (derived_of c path)
    typing (from_void t e) = allowed (void_pointer (pointed (typing e).type)) (of_value (pointer t))
    typing (to_member path e) = of_derived path (typing e)
    typing (data_pointer i) = of_data_pointer i
    typing (function_pointer t) = of_function_pointer t
    typing (through a b) = through_of (typing a).place (typing b)
    typing (operate op k a b) = allowed ((typing a).value (integer k) && is_right_operand op k (typing b)) (of_value (operated_type op k))
    typing (unary op k e) = allowed ((typing e).value (integer k)) (of_value (integer k))
    typing (logical_not e) = allowed (is_condition (typing e)) (of_value (integer Int))
    typing (logical_and a b) = allowed (is_condition (typing a) && is_condition (typing b)) (of_value (integer Int))
    typing (logical_or a b) = allowed (is_condition (typing a) && is_condition (typing b)) (of_value (integer Int))
    typing (pointer_operate op a b) = pointer_operated op (typing a) (typing b)
    typing (conditional c a b) = allowed (is_condition (typing c)) (either (typing a) (typing b))
    typing (comma es) = last_typing es
    typing (store a b) = stored (typing a).place (typing b)
    typing (update a change b) = changed_in_place (typing a).place (changes change (typing a).place (typing b))
    typing (step is_postfix change e) = stepped is_postfix change (typing e).place
    typing (assign t a b es) =
        allowed (is_assigned t && same_type (typing a).place t && same_type (typing b).place t && assigns_with t (typings es)) (of_place t)
    typing (temporary t e) = allowed ((typing e).start t) (of_place t)
    typing (call name t object es) =
        allowed (is_function t && on_object (typing_maybe object) && fit (parameters t) (typings es)) (of_result (result t))
    typing (virtual_call signature t e es) =
        allowed (declares_virtual (typing e).place signature && fit (parameters t) (typings es)) (of_result (result t))
    typing (pointer_call object e t es) =
        allowed (is_called (typing_maybe object) (typing e) t && fit (parameters t) (typings es)) (of_result (result t))
    typing (new t e) = allowed ((typing e).start t) (of_value (pointer t))
    typing (new_array t a b) = allowed (is_integer (typing a) && (typing b).start (array t 0)) (of_value (pointer t))
    typing (delete t e) = allowed (points_to_object (typing e) && same_type (pointed (typing e).type) t) (of_value void)
    typing (delete_array t e) = allowed (points_to_object (typing e) && same_type (pointed (typing e).type) t) (of_value void)
    typing (build name t es) = of_start (starts_class (fit (parameters t)) (typings es))
    typing (copy t e es) = allowed (same_type (typing e).place t && copies_with t (typings es)) (of_start (same_but_const t))
    typing (each e) = of_start (each_starts (typing e))
    typing (list es rest) = of_start (list_starts (typings es) (typing rest))
    typing (string bytes) = of_start (string_starts (length bytes))
    typing (bind h e) = of_start (binds h (typing e))
    typing zeros = of_start (λ t. not (is_reference t))
    typing blank = of_start (λ t. not (is_reference t))
    typing e = no_typing

    pub typings : Cores → List Typing
    typings none = []
    typings (more e es) = typing e ∷ typings es

    pub typing_maybe : MaybeCore → Option Typing
    typing_maybe absent = None
    typing_maybe (given e) = Some (typing e)

    -- each of them is an expression, and the last tells the type (5.18)
    pub last_typing : Cores → Typing
    last_typing none = no_typing
    last_typing (more e none) = typing e
    last_typing (more e (more f rest)) = allowed (is_expression (typing e)) (last_typing (more f rest))
