-- The C statements that store values, and those of calls, are valid.
use Rattle.std.proofs.Common.{◌≡◌, ℕ, zero, suc, ◌+◌, ◌*◌, ◌≤◌, ◌<◌, ◌^◌, Bool, true, false, not, ◌&&◌, ◌||◌, ◌==◌, if◌then◌else◌, nat_le, List, [], ◌∷◌, ◌++◌, length, map, refl, sym, ◌∙◌, ap, subst, arith}
use Rattle.std.specs.Prelude.{pos, Option, Some, None, Ok, is_some, slice_get}
use Rattle.std.specs.List.{list_all}
use Rattle.std.proofs.Math.Nat.{add-mul}
use Rattle.std.proofs.lemmas.Bool.Decides.{nat_tests}
use Rattle.std.proofs.lemmas.Nat.{mul-le}
use Rattle.cf_base.specs.declared.kind.Kind.{Kind}
use Rattle.cf_base.specs.declared.kind.Kind.TheVariants.{Int}
use Rattle.cf_base.specs.declared.arith.Arith.TheVariants as op
use Rattle.cf_base.specs.Integers.{convert}
use Rattle.cf_base.proofs.Tests.{both, all_of}
use Rattle.cf_core.specs.Types.{Name, SourceType, void, integer, enumeration, class, reference, array, takes, gives, data_member, function_member, const, without_const, same_but_const, is_void, parameters, result as result_type}
use Rattle.cf_core.specs.Types as types
use Rattle.cf_core.specs.Places.{is_scalar}
use Rattle.cf_core.specs.Size.{size}
use Rattle.cf_lower_layout.specs.Sorts.{Sort, number, address, code, sort_to, sort_of, scalar_sort}
use Rattle.cf_lower_layout.proofs.Types.{same-without_const}
use Rattle.cf_plain.specs.Plain as plain_action
use Rattle.cf_plain.specs.Plain.{Register, Action}
use Rattle.cf_plain.specs.Valid.{is_of, are_arguments, action_fits}
use Rattle.cf_plain_kept.specs.Kept as plain
use Rattle.cc_whole.specs.declared.types.CType.{CType}
use Rattle.cc_whole.specs.declared.types.CType.TheVariants as ty
use Rattle.cc_whole.specs.declared.types.CConstant.TheVariants as constants
use Rattle.cc_whole.specs.declared.types.CSignature.{CSignature}
use Rattle.cc_whole.specs.declared.types.CVariableType.{CVariableType}
use Rattle.cc_whole.specs.declared.types.CVariableType.TheVariants as variable
use Rattle.cc_whole.specs.declared.types.CLocalType.TheVariants as local
use Rattle.cc_whole.specs.Types.{same_type, value_type, stored_type, local_type, signature_of, is_function_pointer, is_integer}
use Rattle.cc_whole.specs.Landmarks.{type_marks, statement_marks, marks, place_marks, target_marks, signature_marks, callee_marks}
use Rattle.cc_whole.specs.Fault.{Checks, fine, holds, moved, checked_then, ◌before◌}
use Rattle.cc_whole.specs.Known.{Named, Known, lookup, object, is_main}
use Rattle.cc_whole.specs.Plain.{Expression, Statement, Statements, Place, named, pointed, constant, load, assign, call, Callee, by_name, by_pointer, in_order, body}
use Rattle.cc_whole.specs.Typed.{typed, typed_target, target_name, typed_pointed, is_zero, fits_type}
use Rattle.cc_whole.specs.Statements.{assigned, stored_in as target_stored, called_name, called_type, fits_stored, calls_main, called_pointer, arguments, calls, called as called_statement, checked, checked_statements, checked_body}
use Rattle.cf_lower.specs.Kept.{Kept, holds as keeps, argument, integer_of, Keeping, Locals, local_kept, declared_kept, is_argument, kept_by}
use Rattle.cf_lower.specs.Written.{if_scalar, c_type, register_type, int_constant, words, result_of, local_name, register_name, result_name}
use Rattle.cf_lower.specs.Written as written
use Rattle.cf_lower.specs.Expressions.{constant_of, in_register, address_in, local_value, value_in, as_value, as_stored, value}
use Rattle.cf_lower.specs.Expressions as expressions
use Rattle.cf_lower.specs.Statements.{Inside, block, set_register, put, stored, stored_in, first_in, behind, for_each, zeros, zeros_in, put_bytes, kind_in, bytes_in, passed, c_types, signature, called, through, done, put_in, kept}
use Rattle.cf_lower_kept.specs.Ready.{is_code, action_ready}
use Rattle.cf_lower_kept.specs.Told.{Told, ToldIf, AllTold}
use Rattle.cf_lower_program.specs.Types.{is_lowered, is_callable}
use Rattle.cf_lower_valid_body.specs.Scope.{Own, NamesFunction, TakesResult, Fits, standing, is_local_type}
use Rattle.cf_lower_valid_body.proofs.Types.{sort-same, sort-bare, bare-small, lowered-small}
use Rattle.cf_lower_valid_body.proofs.Keeping.{kept_lowered, FitIf, Good, fit-below}
use Rattle.cf_lower_valid_body.proofs.Numbers.{int-fits}
use Rattle.cf_lower_valid_body.proofs.Typed.{Has, type-same, constant-has, count-has, value-has, binary-has, value-cast, stored-cast, zero-stored}
use Rattle.cf_lower_valid_body.proofs.Values.{held_type, strict, local-has, in-register, pointer-has, value-in, GetsIf, is_call, value-gets}

-- ---- lists of statements

abbrev pub AllChecked : List Statement → Known → Type 0
AllChecked [] k = Unit {0}
AllChecked (s ∷ ss) k = (checked s k ≡ fine) × AllChecked ss k

pub all-append : (xs ys : List Statement) (k : Known) → AllChecked xs k → AllChecked ys k → AllChecked (xs ++ ys) k
all-append [] ys k h m = m
all-append (x ∷ xs) ys k h m = (h.0, all-append xs ys k h.1 m)

pub in-order : (ss : List Statement) (k : Known) → AllChecked ss k → checked_statements (in_order ss) k ≡ fine
in-order [] k h = refl
in-order (s ∷ ss) k h =
    ap (λ c. c before moved (statement_marks s) (checked_statements (in_order ss) k)) h.0 ∙ ap (moved (statement_marks s)) (in-order ss k h.1)

pub block-checked : (ss : List Statement) (k : Known) → AllChecked ss k → checked_body (block ss) k ≡ fine
block-checked ss k h = ap (moved 0) (in-order ss k h)

-- ---- assignments

module _ (k : Known) where
  pub named-assigned : (name : Name) (t : CType) (e : Expression) → lookup k.names name ≡ Some (object (variable.Scalar t)) → Has k.names e t
      → checked (assign (named name) e) k ≡ fine
  named-assigned name t e means h =
      ap (λ c. checked_then (target_name c) (λ w. moved 1 (assigned w e k.names))) means
      ∙ ap (λ c. moved 1 (checked_then c (λ u. holds (fits_type t u (is_zero e)) 4 0))) h
      ∙ ap (λ b. moved 1 (holds (b || (is_zero e && not (is_integer t))) 4 0)) (type-same t)

  pub pointed-assigned : (t : CType) (p e : Expression) → Has k.names p ty.Pointer → Has k.names e t → checked (assign (pointed t p) e) k ≡ fine
  pointed-assigned t p e at h =
      ap (λ c. checked_then (checked_then (moved (type_marks t) c) (typed_pointed t)) (λ w. moved (place_marks (pointed t p)) (assigned w e k.names))) at
      ∙ ap (λ c. moved (place_marks (pointed t p)) (checked_then c (λ u. holds (fits_type t u (is_zero e)) 4 0))) h
      ∙ ap (λ b. moved (place_marks (pointed t p)) (holds (b || (is_zero e && not (is_integer t))) 4 0)) (type-same t)

  pub put-checked : (s : Sort) (p e : Expression) → Has k.names p ty.Pointer → Has k.names (as_stored s e) (c_type s) → checked (put s p e) k ≡ fine
  put-checked s p e at h = pointed-assigned (c_type s) p (as_stored s e) at h

  -- ---- the bytes of an object

  pub behind-has : (p : Expression) (m : ℕ) → Has k.names p ty.Pointer → m ≤ 2 ^ 22 → Has k.names (behind p m) ty.Pointer
  behind-has p m h le = binary-has k.names op.Add p (constant (int_constant m)) ty.Pointer ty.Int ty.Pointer h (count-has k.names m le) refl refl

  for-each-checked : (m i : ℕ) (f : ℕ → List Statement) → ((j : ℕ) → i ≤ j → j < i + m → AllChecked (f j) k) → AllChecked (for_each i m f) k
  for-each-checked zero i f h = tt
  for-each-checked (suc m) i f h =
      all-append (f i) (for_each (suc i) m f) k (h i (omega arith) (omega arith)) (for-each-checked m (suc i) f (λ j le lt. h j (omega (arith, le)) (omega (arith, lt))))

  item-fits : (at j m s : ℕ) → at + m * s ≤ 2 ^ 22 → j < m → (at + j * s) + s ≤ 2 ^ 22
  item-fits at j m s le lt =
      let more : (j + 1) * s ≤ m * s = mul-le (j + 1) s m s (omega (arith, lt)) (omega arith) in
      omega (arith, more, le, add-mul j 1 s)

  pub zeros-checked : (t : SourceType) (p : Expression) (at : ℕ) → Has k.names p ty.Pointer → at + size [] t ≤ 2 ^ 22 → AllChecked (zeros [] t p at) k
  zeros-checked (array t m) p at h le =
      for-each-checked m 0 (λ i. zeros [] t p (at + i * size [] t)) (λ j low lt. zeros-checked t p (at + j * size [] t) h (item-fits at j m (size [] t) le (omega (arith, lt))))
  zeros-checked (const t) p at h le = zeros-checked t p at h le
  zeros-checked t p at h le = by (sort_of t)
    where
      by : (o : Option Sort) → AllChecked (if_scalar o [] (λ s. put s (behind p at) expressions.zero ∷ [])) k
      by None = tt
      by (Some s) = (put-checked s (behind p at) expressions.zero (behind-has p at h (omega (arith, le))) (zero-stored k.names s), tt)

  pub bytes-checked : (kind : Kind) (p : Expression) (i : ℕ) (bs : List ℕ) → Has k.names p ty.Pointer → i + length bs ≤ 2 ^ 22 → AllChecked (put_bytes kind p i bs) k
  bytes-checked kind p i [] h le = tt
  bytes-checked kind p i (b ∷ bs) h le =
      let fit : i + suc (length bs) ≤ 2 ^ 22 = le in
      let z = convert kind (pos b) in (
        put-checked (number kind) (behind p i) (constant_of z) (behind-has p i h (omega (arith, fit)))
            (stored-cast k.names (number kind) (constant_of z) (constant-has k.names (constants.Signed (convert Int z)) (int-fits z))),
        bytes-checked kind p (suc i) bs h (omega (arith, fit)),
      )

-- ---- what a register holds, for an object

abbrev pub inside_at : Name → SourceType → Locals → ℕ → List Statement → List Statement → Inside
inside_at f t locals depth leaving going_on =
    record { classes = []; function = f; result = t; locals = locals; depth = depth; leaving = leaving; going_on = going_on }

suits-type : (locals : Locals) (t : SourceType) (x : plain.Kept) (z : Kept) → plain.suits t x ≡ true → Told locals x z → (s : Sort) → sort_of t ≡ Some s
    → held_type (local_kept z) ≡ register_type s
suits-type locals (integer k) (plain.an_integer f) z e h s is = ap (λ y. held_type (local_kept y)) h.is ∙ ap held_type is
suits-type locals (enumeration n) (plain.an_integer f) z e h s is = ap (λ y. held_type (local_kept y)) h.is ∙ ap held_type is
suits-type locals (types.pointer t) (plain.a_place u) z e h s is =
    ap (λ y. held_type (local_kept y)) h ∙ ap (λ w. register_type (sort_to w)) (same-without_const u t e) ∙ ap held_type is
suits-type locals (reference t) (plain.a_place u) z e h s is =
    ap (λ y. held_type (local_kept y)) h ∙ ap (λ w. register_type (sort_to w)) (same-without_const u t e) ∙ ap held_type is
suits-type locals (const t) x z e h s is = suits-type locals t x z e h s is
suits-type locals (data_member c t) x z e h s is = absurd (cc)
suits-type locals (function_member c t) x z e h s is = absurd (cc)
suits-type locals t x z e h s is = absurd (cc)

number-self : (m : ℕ) → (m == m) ≡ true
number-self m = grind (arith, nat_tests)

module _ (names : List Named) (f : Name) (locals : Locals) (result : SourceType) (n d : ℕ) (own : Own names locals.types n d)
    (types : list_all is_local_type locals.types ≡ true) (given : Option CType) (breaks continues : Bool) where
  abbrev here : Known
  here = standing names given breaks continues

  -- ---- stores

  pub value-suits : (h : Keeping) (q : Register) (t : SourceType) (x : plain.Kept) → q < n → plain.suits t x ≡ true → Told locals x (h q) → (s : Sort)
      → sort_of t ≡ Some s → Has names (as_stored s (value_in h q)) (c_type s)
  value-suits h q t x lt e told s is =
      stored-cast names s (value_in h q)
      (subst (λ (c : CType). Has names (value_in h q) c) (suits-type locals t x (h q) e told s is) (value-in names f locals result n d own types h q lt))

  scalar-stored : (o : Option Sort) (r : Register) (e : Expression) → r < n → ((s : Sort) → o ≡ Some s → Has names (as_stored s e) (c_type s))
      → AllChecked (stored o r e) here
  scalar-stored None r e lt has = tt
  scalar-stored (Some s) r e lt has = (put-checked here s (address_in r) e (pointer-has names f locals result n d own types r lt) (has s refl), tt)

  stored-at : (w : SourceType) (r : Register) (e : Expression) → r < n → ((s : Sort) → sort_of w ≡ Some s → Has names (as_stored s e) (c_type s))
      → AllChecked (stored_in (keeps (sort_to w)) r e) here
  stored-at (takes p t) r e lt has = tt
  stored-at (gives t c) r e lt has = tt
  stored-at w r e lt has = scalar-stored (sort_of w) r e lt has

  some-given : (b : Bool) (x : plain.Kept) → is_some (plain.given b x) ≡ true → b ≡ true
  some-given true x s = refl
  some-given false x s = absurd (cc)

  store-checked : (o p : Option plain.Kept) (r q : Register) (h : Keeping) → ToldIf locals o (h r) → ToldIf locals p (h q) → FitIf n o r → FitIf n p q
      → is_some (plain.stored o p) ≡ true → AllChecked (stored_in (h r) r (value_in h q)) here
  store-checked (Some (plain.a_place t)) (Some x) r q h a b u v s =
      subst (λ y. AllChecked (stored_in y r (value_in h q)) here) (sym a)
      (stored-at (without_const t) r (value_in h q) u.0
      (λ z is. value-suits h q t x v.0 (some-given (plain.suits t x) _ s) b z (sym (sort-bare t) ∙ is)))
  store-checked o p r q h a b u v s = absurd (cc)

  first-checked : (o p : Option plain.Kept) (r q : Register) (h : Keeping) → ToldIf locals o (h r) → ToldIf locals p (h q) → FitIf n o r → FitIf n p q
      → is_some (plain.begun o p) ≡ true → AllChecked (first_in (h r) r (value_in h q)) here
  first-checked (Some (plain.an_object i t)) (Some x) r q h a b u v s =
      subst (λ y. AllChecked (first_in y r (value_in h q)) here) (sym a.is) (by (is_argument locals i && is_scalar t))
    where
      suits : plain.suits t x ≡ true
      suits = some-given (plain.suits t x) plain.no_value s

      passed-first : (o : Option Sort) → sort_of t ≡ o → AllChecked (if_scalar o [] (λ s. assign (named (local_name i)) (as_stored s (value_in h q)) ∷ [])) here
      passed-first None e = tt
      passed-first (Some z) e = (
        named-assigned here (local_name i) (c_type z) (as_stored z (value_in h q))
            (own.local i t a.there ∙ ap (λ w. Some (object (local_type (if_scalar w (local.Ints (words [] t)) (λ s. local.Scalar (c_type s)))))) e)
            (value-suits h q t x v.0 suits b z e),
        tt,
      )

      by : (c : Bool) → AllChecked (first_in (if c then argument i t else keeps (address (without_const t))) r (value_in h q)) here
      by true = passed-first (sort_of t) refl
      by false = scalar-stored (sort_of (without_const t)) r (value_in h q) u.0 (λ z is. value-suits h q t x v.0 suits b z (sym (sort-bare t) ∙ is))
  first-checked (Some (plain.a_place t)) (Some x) r q h a b u v s =
      subst (λ y. AllChecked (first_in y r (value_in h q)) here) (sym a)
      (stored-at (without_const t) r (value_in h q) u.0
      (λ z is. value-suits h q t x v.0 (some-given (plain.suits t x) plain.no_value s) b z (sym (sort-bare t) ∙ is)))
  first-checked o p r q h a b u v s = absurd (cc)

  zeros-at : (w : SourceType) (r : Register) → r < n → size [] w ≤ 2 ^ 22 → AllChecked (zeros_in [] (keeps (sort_to w)) r) here
  zeros-at (takes p t) r lt small = tt
  zeros-at (gives t c) r lt small = tt
  zeros-at w r lt small =
      zeros-checked here w (address_in r) 0 (pointer-has names f locals result n d own types r lt) (omega (arith, small))

  zero-checked : (o : Option plain.Kept) (r : Register) (y : Kept) → ToldIf locals o y → FitIf n o r → is_some (plain.filled o) ≡ true
      → AllChecked (zeros_in [] y r) here
  zero-checked (Some (plain.an_object i t)) r y a u s = subst (λ y. AllChecked (zeros_in [] y r) here) (sym a.is) (by (is_argument locals i && is_scalar t))
    where
      by : (c : Bool) → AllChecked (zeros_in [] (if c then argument i t else keeps (address (without_const t))) r) here
      by true = tt
      by false = zeros-checked here (without_const t) (address_in r) 0 (pointer-has names f locals result n d own types r u.0)
          (let small = bare-small t u.1 in omega (arith, small))
  zero-checked (Some (plain.a_place t)) r y a u s =
      subst (λ y. AllChecked (zeros_in [] y r) here) (sym a) (zeros-at (without_const t) r u.0 (bare-small t u.1))
  zero-checked o r y a u s = absurd (cc)

  -- ---- calls

  local-passed : (i : ℕ) (t u : SourceType) (s : Sort) → slice_get locals.types i ≡ Some u → same_but_const u t ≡ true → sort_of t ≡ Some s
      → Has names (load (named (local_name i))) (c_type s)
  local-passed i t u s e same is =
      value-has names (local_name i) (local_type (written.local_type [] u)) (own.local i u e)
      ∙ ap (λ o. Ok (value_type (local_type (if_scalar o (local.Ints (words [] u)) (λ s. local.Scalar (c_type s)))))) (sort-same u t same ∙ is)

  arguments-fine : (ps : List SourceType) (is : List ℕ) → are_arguments locals.types ps is ≡ true → list_all (λ p. is_some (sort_of p)) ps ≡ true
      → arguments (c_types ps) (passed is) names ≡ fine
  arguments-fine [] [] e h = refl
  arguments-fine [] (i ∷ is) e h = refl
  arguments-fine (t ∷ ts) [] e h = absurd (cc)
  arguments-fine (t ∷ ts) (i ∷ is) e h =
      let two = both (is_of (slice_get locals.types i) t) (are_arguments locals.types ts is) e in
      let all = both (is_some (sort_of t)) (list_all (λ p. is_some (sort_of p)) ts) h in
      go (sort_of t) refl all.0 (slice_get locals.types i) refl two.0 (arguments-fine ts is two.1 all.1)
    where
      go : (o : Option Sort) → sort_of t ≡ o → is_some o ≡ true → (u : Option SourceType) → slice_get locals.types i ≡ u → is_of u t ≡ true
          → arguments (c_types ts) (passed is) names ≡ fine
          → arguments (if_scalar o (c_types ts) (λ s. c_type s ∷ c_types ts)) (load (named (local_name i)) ∷ passed is) names ≡ fine
      go None e s u f same rest = absurd (cc)
      go (Some z) e s None f same rest = absurd (cc)
      go (Some z) e s (Some u) f same rest =
          ap (λ c. checked_then c (λ x. holds (same_type x (c_type z)) 5 0 before moved 1 (arguments (c_types ts) (passed is) names))) (local-passed i t u z f same e)
          ∙ ap (λ b. holds b 5 0 before moved 1 (arguments (c_types ts) (passed is) names)) (type-same (c_type z))
          ∙ ap (moved 1) rest

  same-length : (ps : List SourceType) (is : List ℕ) → are_arguments locals.types ps is ≡ true → list_all (λ p. is_some (sort_of p)) ps ≡ true
      → length (c_types ps) ≡ length (passed is)
  same-length [] [] e h = refl
  same-length [] (i ∷ is) e h = absurd (cc)
  same-length (t ∷ ts) [] e h = absurd (cc)
  same-length (t ∷ ts) (i ∷ is) e h =
      let two = both (is_of (slice_get locals.types i) t) (are_arguments locals.types ts is) e in
      let all = both (is_some (sort_of t)) (list_all (λ p. is_some (sort_of p)) ts) h in
      go (sort_of t) all.0 (same-length ts is two.1 all.1)
    where
      go : (o : Option Sort) → is_some o ≡ true → length (c_types ts) ≡ length (passed is)
          → length (if_scalar o (c_types ts) (λ s. c_type s ∷ c_types ts)) ≡ suc (length (passed is))
      go None s l = absurd (cc)
      go (Some z) s l = ap suc l

  -- what is called, by a name or through a register
  record Calls (c : Callee) (t : SourceType) : Type 0 where
    type : called_type c names ≡ Ok (signature t)
    not_main : calls_main c ≡ false
    pointer : called_pointer c names ≡ fine

  calls-fine : (into : Option CType) (c : Callee) (t : SourceType) (is : List ℕ) → Calls c t → is_callable t ≡ true → are_arguments locals.types (parameters t) is ≡ true
      → fits_stored into (result_of (result_type t)) ≡ true → calls into (signature t) c (passed is) here ≡ fine
  calls-fine into c t is x callable fit stores =
      let test : Bool = list_all (λ p. is_some (sort_of p)) (parameters t) in
      let scalars : test ≡ true =
      (both (nat_le (length (parameters t)) (2 ^ 64)) test
      (both (nat_le (length (parameters t)) (2 ^ 64) && test) (is_void (result_type t) || is_some (sort_of (result_type t))) callable).0).1 in
      let count : (length (c_types (parameters t)) == length (passed is)) ≡ true =
      subst (λ m. (length (c_types (parameters t)) == m) ≡ true) (same-length (parameters t) is fit scalars) (number-self (length (c_types (parameters t)))) in
      let rest4 : Checks = moved (callee_marks c) (arguments (c_types (parameters t)) (passed is) names) in
      let rest3 : Checks = called_pointer c names before rest4 in
      let rest2 : Checks = holds (not (calls_main c)) 10 0 before rest3 in
      let rest1 : Checks = holds (length (c_types (parameters t)) == length (passed is)) 5 0 before rest2 in
      ap (λ b. holds b 4 0 before rest1) stores
      ∙ ap (λ b. holds b 5 0 before rest2) count
      ∙ ap (λ b. holds (not b) 10 0 before rest3) x.not_main
      ∙ ap (λ y. y before rest4) x.pointer
      ∙ ap (moved (callee_marks c)) (arguments-fine (parameters t) is fit scalars)

  dropped-checked : (c : Callee) (t : SourceType) (is : List ℕ) → Calls c t → is_callable t ≡ true → are_arguments locals.types (parameters t) is ≡ true
      → checked (call None c (passed is)) here ≡ fine
  dropped-checked c t is x callable fit =
      ap (λ y. moved 0 (checked_then y (λ s. calls None s c (passed is) here))) x.type ∙ ap (moved 0) (calls-fine None c t is x callable fit refl)

  taken-checked : (c : Callee) (t : SourceType) (is : List ℕ) (s : Sort) → Calls c t → is_callable t ≡ true → are_arguments locals.types (parameters t) is ≡ true
      → sort_of (result_type t) ≡ Some s → TakesResult names t → checked (call (Some (named (result_name (c_type s)))) c (passed is)) here ≡ fine
  taken-checked c t is s x callable fit e gets =
      ap (λ y. checked_then (checked_then (target_name y) (λ t. Ok (Some t)))
      (λ stored. moved 1 (checked_then (called_type c names) (λ s. calls stored s c (passed is) here)))) (gets s e)
      ∙ ap (λ y. moved 1 (checked_then y (λ z. calls (Some (c_type s)) z c (passed is) here))) x.type
      ∙ ap (moved 1) (calls-fine (Some (c_type s)) c t is x callable fit
      (ap (λ o. fits_stored (Some (c_type s)) (if_scalar o None (λ s. Some (c_type s)))) e ∙ type-same (c_type s)))

  abbrev into-below : Option Register → Type 0
  into-below None = Unit {0}
  into-below (Some r) = r < n

  called-checked : (c : Callee) (t : SourceType) (is : List ℕ) (into : Option Register) → Calls c t → is_callable t ≡ true
      → are_arguments locals.types (parameters t) is ≡ true → TakesResult names t → into-below into → AllChecked (called c t is into) here
  called-checked c t is None x callable fit gets lt = (dropped-checked c t is x callable fit, tt)
  called-checked c t is (Some r) x callable fit gets lt = go (sort_of (result_type t)) refl
    where
      go : (o : Option Sort) → sort_of (result_type t) ≡ o → AllChecked (if_scalar o (call None c (passed is) ∷ []) (λ s.
          call (Some (named (result_name (c_type s)))) c (passed is)
          ∷ set_register s r (as_value s (load (named (result_name (c_type s))))) ∷ [])) here
      go None e = (dropped-checked c t is x callable fit, tt)
      go (Some s) e = (
        taken-checked c t is s x callable fit e gets,
        (
          named-assigned here (register_name s r) (register_type s) (as_value s (load (named (result_name (c_type s))))) (own.register s r lt)
              (value-cast names s (load (named (result_name (c_type s)))) (value-has names (result_name (c_type s)) (variable.Scalar (c_type s)) (gets s e))),
          tt,
        ),
      )

  by-name : (name : Name) (t : SourceType) → NamesFunction names name t → Calls (by_name name) t
  by-name name t x = record {
    type = ap called_name x.means ∙ ap (λ (s : CSignature). Ok s) x.signature;
    not_main = x.not_main;
    pointer = refl;
  }

  by-register : (r : Register) (t : SourceType) → r < n → Calls (through r t) t
  by-register r t lt = record {
    type = refl;
    not_main = refl;
    pointer = ap (λ c. moved (signature_marks (signature t)) (checked_then c (λ u. holds (is_function_pointer u) 3 0))) (in-register names f locals result n d own types (code t) r lt);
  }

  -- ---- actions

  callable-parts : (a b c : Bool) → ((a && true) && b && c) ≡ true → b ≡ true
  callable-parts true true c e = refl
  callable-parts true false c e = absurd (cc)
  callable-parts false b c e = absurd (cc)

  module _ (g : plain.Keeping) (h : Keeping) (told : AllTold locals g h) (good : Good n g) (depth : ℕ) (leaving going_on : List Statement) where
    abbrev at : Inside
    at = inside_at f result locals depth leaving going_on

    set : (F : Option plain.Kept → Option plain.Kept) → F None ≡ None → (r : Register) → is_some (F (g r)) ≡ true → r < n
    set F e r s = fit-below n (g r) r (good r) (strict F e (g r) s)

    bytes-small : (b : List ℕ) → nat_le (length b) (2 ^ 22) ≡ true → 0 + length b ≤ 2 ^ 22
    bytes-small b e = grind (arith, nat_tests, e)

    -- an action whose value is not kept
    pub done-checked : (a : Action) → action_fits locals.types a ≡ true → Fits names f a
        → is_some (plain.kept_by locals.types result g a) ≡ true → AllChecked (done at h a) here
    done-checked (plain_action.store r q) fits fit s = store-checked (g r) (g q) r q h (told r) (told q) (good r) (good q) s
    done-checked (plain_action.first r q) fits fit s = first-checked (g r) (g q) r q h (told r) (told q) (good r) (good q) s
    done-checked (plain_action.zeros r) fits fit s = zero-checked (g r) r (h r) (told r) (good r) s
    done-checked (plain_action.bytes r b) fits fit s =
        all-append (zeros_in [] (h r) r) (put_bytes (kind_in (h r)) (address_in r) 0 b) here (zero-checked (g r) r (h r) (told r) (good r) s)
        (bytes-checked here (kind_in (h r)) (address_in r) 0 b (pointer-has names f locals result n d own types r (set plain.filled refl r s)) (bytes-small b fit.lowered))
    done-checked (plain_action.call name t on is into) fits fit s =
        called-checked (by_name name) t is None (by-name name t fit.names_it.0) (callable-parts _ (is_callable t) _ fit.lowered) fits fit.names_it.1 tt
    done-checked (plain_action.pointer_call None r t is None) fits fit s =
        called-checked (through r t) t is None (by-register r t (set (plain.pointed_call t) refl r s)) (callable-parts _ (is_callable t) _ fit.lowered) fits fit.names_it tt
    done-checked (plain_action.pointer_call (Some o) r t is into) fits fit s = absurd (cc)
    done-checked (plain_action.pointer_call None r t is (Some o)) fits fit s = absurd (cc)
    done-checked a fits fit s = tt

    put-in-checked : (o : Option Sort) (r : Register) (e : Expression) → r < n → GetsIf names o e → AllChecked (put_in at o r e) here
    put-in-checked None r e lt has = tt
    put-in-checked (Some s) r e lt has = (named-assigned here (register_name s r) (register_type s) e (own.register s r lt) has, tt)

    value-checked : (r : Register) (a : Action) → r < n → is_call a ≡ false → action_ready locals.types result g a ≡ true → Fits names f a
        → is_some (plain.kept_by locals.types result g a) ≡ true
        → AllChecked (put_in at (local_kept (kept_by locals h a)) r (value [] f locals h a)) here
    value-checked r a lt isnt e fit s =
        put-in-checked (local_kept (kept_by locals h a)) r (value [] f locals h a) lt
        (value-gets names f locals result n d own types g h told good a isnt e fit s)

    -- an action whose value goes to a register
    pub kept-checked : (r : Register) (a : Action) → r < n → action_ready locals.types result g a ≡ true → action_fits locals.types a ≡ true → Fits names f a
        → is_some (plain.kept_by locals.types result g a) ≡ true → AllChecked (kept at h r a) here
    kept-checked r (plain_action.call name t on is into) lt e fits fit s =
        called-checked (by_name name) t is (Some r) (by-name name t fit.names_it.0) (callable-parts _ (is_callable t) _ fit.lowered) fits fit.names_it.1 lt
    kept-checked r (plain_action.pointer_call None q t is None) lt e fits fit s =
        called-checked (through q t) t is (Some r) (by-register q t (set (plain.pointed_call t) refl q s)) (callable-parts _ (is_callable t) _ fit.lowered) fits fit.names_it lt
    kept-checked r (plain_action.pointer_call (Some o) q t is into) lt e fits fit s = absurd (cc)
    kept-checked r (plain_action.pointer_call None q t is (Some o)) lt e fits fit s = absurd (cc)
    kept-checked r a lt e fits fit s = value-checked r a lt refl e fit s
