-- A fault stands at a landmark of its text: fewer landmarks stand before it than there are.
use Rattle.std.proofs.Common.{ℕ, ◌+◌, ◌<◌, ◌≤◌, Bool, true, false, not, ◌||◌, List, [], ◌∷◌, Option, Some, None, Ok, Err, length, arith}
use Rattle.std.specs.Prelude.{◌==◌, is_none, is_some}
use Rattle.cc_whole.specs.declared.types.CType.{CType}
use Rattle.cc_whole.specs.declared.types.CType.TheVariants as ty
use Rattle.cc_whole.specs.declared.types.CSignature.{CSignature}
use Rattle.cc_whole.specs.declared.types.CVariableType.{CVariableType}
use Rattle.cc_whole.specs.declared.types.CVariableType.TheVariants as variable
use Rattle.cc_whole.specs.declared.statement.CLocal.{CLocal}
use Rattle.cc_whole.specs.Plain.{Place, named, pointed, Expression, constant, load, unary, cast, address, binary, Callee, by_name, by_pointer, Statement, assign, call, block, leave, next, choose, loop, select, give, Statements, done, followed, SwitchItems, closed, labelled, otherwise, stated, Body, body}
use Rattle.cc_whole.specs.Numbers.{fits_constant, label_of}
use Rattle.cc_whole.specs.Types.{same_type, is_integer, is_pointer, is_function_pointer, binary_type, may_stand_left, stored_type, local_type}
use Rattle.cc_whole.specs.Landmarks.{type_marks, marks, place_marks, all_marks, target_marks, signature_marks, callee_marks, given_marks, marks_before, variable_marks, local_marks, locals_marks, statement_marks, statements_marks, switch_marks, body_marks}
use Rattle.cc_whole.specs.Fault.{Checked, Checks, holds, moved, checked_then, ◌before◌}
use Rattle.cc_whole.specs.Known.{Meant, function, object, Named, Known, lookup, is_in, is_main}
use Rattle.cc_whole.specs.Typed.{is_zero, may_cast, typed_name, typed_address, typed, typed_place, fitted, target_name, typed_target, fits_type}
use Rattle.cc_whole.specs.Statements.{assigned, stored_in, called_name, called_type, fits_stored, helper_may_call, calls_main, called_pointer, arguments, calls, called, condition, fits_given, given, has_size, checked_locals, in_a_loop, in_a_switch, with_locals, Labels, no_labels, has_case, checked, checked_statements, checked_switch, checked_body}

-- a fault, if there is one, stands before this many landmarks have been passed
abbrev pub Inside : {A : Type 0} → ℕ → Checked A → Type 0
Inside n (Ok a) = Unit {0}
Inside n (Err f) = f.place < n

pub holds_inside : (b : Bool) (rule place n : ℕ) → place < n → Inside n (holds b rule place)
holds_inside true rule place n h = tt
holds_inside false rule place n h = h

pub then_inside : {A B : Type 0} (n : ℕ) (c : Checked A) (g : A → Checked B) → Inside n c → ((a : A) → Inside n (g a)) → Inside n (checked_then c g)
then_inside n (Ok a) g h k = k a
then_inside n (Err f) g h k = h

pub before_inside : {A : Type 0} (n : ℕ) (c : Checks) (d : Checked A) → Inside n c → Inside n d → Inside n (c before d)
before_inside n (Ok u) d h k = k
before_inside n (Err f) d h k = h

pub moved_inside : {A : Type 0} (n m l : ℕ) (c : Checked A) → n + m ≤ l → Inside m c → Inside l (moved n c)
moved_inside n m l (Ok a) e h = tt
moved_inside n m l (Err f) e h = omega (arith, e, h)

pub wider_inside : {A : Type 0} (n l : ℕ) (c : Checked A) → n ≤ l → Inside n c → Inside l c
wider_inside n l (Ok a) e h = tt
wider_inside n l (Err f) e h = omega (arith, e, h)

-- a test, and then a part
pub test_inside : {A : Type 0} (b : Bool) (rule place n : ℕ) (d : Checked A) → place < n → Inside n d → Inside n (holds b rule place before d)
test_inside b rule place n d h k = before_inside n (holds b rule place) d (holds_inside b rule place n h) k

-- ---- expressions

pub some_type : (t : CType) → 0 < type_marks t
some_type ty.Char = omega arith
some_type ty.UChar = omega arith
some_type ty.Short = omega arith
some_type ty.UShort = omega arith
some_type ty.Int = omega arith
some_type ty.UInt = omega arith
some_type ty.Pointer = omega arith
some_type ty.FunctionPointer = omega arith

mutual
  pub some_marks : (e : Expression) → 0 < marks e
  some_marks (constant c) = omega arith
  some_marks (load p) = some_place p
  some_marks (unary o e) = some_marks e
  some_marks (cast t e) = let h = some_marks e in omega (arith, h)
  some_marks (address name) = omega arith
  some_marks (binary o a b) = let h = some_marks a in omega (arith, h)

  pub some_place : (p : Place) → 0 < place_marks p
  some_place (named name) = omega arith
  some_place (pointed t e) = let h = some_marks e in omega (arith, h)

pub name_inside : (name : List ℕ) (m : Option Meant) → Inside 1 (typed_name name m)
name_inside name None = omega arith
name_inside name (Some (function p)) = test_inside (not (is_main name)) 10 0 1 _ (omega arith) tt
name_inside name (Some (object t)) = tt

pub address_inside : (m : Option Meant) → Inside 2 (typed_address m)
address_inside None = omega arith
address_inside (Some (function p)) = omega arith
address_inside (Some (object t)) = tt

pub fitted_inside : (place n : ℕ) (t : Option CType) → place < n → Inside n (fitted place t)
fitted_inside place n None h = h
fitted_inside place n (Some t) h = tt

mutual
  pub typed_inside : (e : Expression) (k : List Named) → Inside (marks e) (typed e k)
  typed_inside (constant c) k = test_inside (fits_constant c) 11 0 1 _ (omega arith) tt
  typed_inside (load p) k = place_inside p k
  typed_inside (unary o e) k =
      then_inside (marks e) (typed e k) _ (typed_inside e k) (λ t. test_inside (is_integer t) 3 0 (marks e) _ (some_marks e) tt)
  typed_inside (cast t e) k =
      let h = some_marks e in
      then_inside (type_marks t + marks e) (moved (type_marks t) (typed e k)) _
      (moved_inside (type_marks t) (marks e) (type_marks t + marks e) (typed e k) (omega arith) (typed_inside e k))
      (λ s. test_inside (may_cast t s (is_zero e)) 3 (type_marks t) (type_marks t + marks e) _ (omega (arith, h)) tt)
  typed_inside (address name) k = address_inside (lookup k name)
  typed_inside (binary o a b) k =
      let h = some_marks a in
      let g = some_marks b in
      let n = marks a + marks b in
      then_inside n (typed a k) _ (wider_inside (marks a) n (typed a k) (omega arith) (typed_inside a k))
      (λ s. test_inside (may_stand_left o s) 3 0 n _ (omega (arith, h))
      (then_inside n (moved (marks a) (typed b k)) _ (moved_inside (marks a) (marks b) n (typed b k) (omega arith) (typed_inside b k))
      (λ t. fitted_inside (marks a) n (binary_type o s (is_zero a) t (is_zero b)) (omega (arith, g)))))

  pub place_inside : (p : Place) (k : List Named) → Inside (place_marks p) (typed_place p k)
  place_inside (named name) k = name_inside name (lookup k name)
  place_inside (pointed t e) k =
      let h = some_marks e in
      then_inside (type_marks t + marks e) (moved (type_marks t) (typed e k)) _
      (moved_inside (type_marks t) (marks e) (type_marks t + marks e) (typed e k) (omega arith) (typed_inside e k))
      (λ s. test_inside (is_pointer s) 3 (type_marks t) (type_marks t + marks e) _ (omega (arith, h)) tt)

pub target_name_inside : (m : Option Meant) → Inside 1 (target_name m)
target_name_inside None = omega arith
target_name_inside (Some (function p)) = omega arith
target_name_inside (Some (object t)) = fitted_inside 0 1 (stored_type t) (omega arith)

pub target_inside : (p : Place) (k : List Named) → Inside (place_marks p) (typed_target p k)
target_inside (named name) k = target_name_inside (lookup k name)
target_inside (pointed t e) k = place_inside (pointed t e) k

-- an expression, and a test of its type
pub tested_inside : (e : Expression) (k : List Named) (test : CType → Bool) (rule : ℕ) → Inside (marks e) (checked_then (typed e k) (λ t. holds (test t) rule 0))
tested_inside e k test rule = then_inside (marks e) (typed e k) _ (typed_inside e k) (λ t. holds_inside (test t) rule 0 (marks e) (some_marks e))

-- ---- calls

pub stored_inside : (p : Option Place) (k : List Named) → Inside (target_marks p) (stored_in p k)
stored_inside None k = tt
stored_inside (Some p) k = then_inside (place_marks p) (typed_target p k) _ (target_inside p k) (λ t. tt)

pub some_callee : (c : Callee) → 0 < callee_marks c
some_callee (by_name name) = omega arith
some_callee (by_pointer s e) = let h = some_marks e in omega (arith, h)

pub called_name_inside : (n : ℕ) (m : Option Meant) → 0 < n → Inside n (called_name m)
called_name_inside n None h = h
called_name_inside n (Some (function p)) h = tt
called_name_inside n (Some (object t)) h = h

pub called_type_inside : (n : ℕ) (c : Callee) (k : List Named) → 0 < n → Inside n (called_type c k)
called_type_inside n (by_name name) k h = called_name_inside n (lookup k name) h
called_type_inside n (by_pointer s e) k h = tt

pub pointer_inside : (c : Callee) (k : List Named) → Inside (callee_marks c) (called_pointer c k)
pointer_inside (by_name name) k = tt
pointer_inside (by_pointer s e) k =
    moved_inside (signature_marks s) (marks e) (signature_marks s + marks e) (checked_then (typed e k) (λ t. holds (is_function_pointer t) 3 0)) (omega arith)
    (tested_inside e k is_function_pointer 3)

pub arguments_inside : (ts : List CType) (es : List Expression) (k : List Named) → Inside (all_marks es) (arguments ts es k)
arguments_inside [] es k = tt
arguments_inside (t ∷ ts) [] k = tt
arguments_inside (t ∷ ts) (e ∷ es) k =
    let h = some_marks e in
    let n = marks e + all_marks es in
    then_inside n (typed e k) _ (wider_inside (marks e) n (typed e k) (omega arith) (typed_inside e k))
    (λ s. test_inside (same_type s t) 5 0 n _ (omega (arith, h)) (moved_inside (marks e) (all_marks es) n (arguments ts es k) (omega arith) (arguments_inside ts es k)))

pub calls_inside : (stored : Option CType) (s : CSignature) (c : Callee) (es : List Expression) (k : Known) → Inside (callee_marks c + all_marks es) (calls stored s c es k)
calls_inside stored s c es k =
    let n = callee_marks c + all_marks es in
    let some : 0 < n = let h = some_callee c in omega (arith, h) in
    test_inside (fits_stored stored s.result) 4 0 n _ some (test_inside (length s.parameters == length es) 5 0 n _ some
    (test_inside (not k.in_helper || helper_may_call c) 9 0 n _ some (test_inside (not (calls_main c)) 10 0 n _ some
    (before_inside n (called_pointer c k.names) _ (wider_inside (callee_marks c) n (called_pointer c k.names) (omega arith) (pointer_inside c k.names))
    (moved_inside (callee_marks c) (all_marks es) n (arguments s.parameters es k.names) (omega arith) (arguments_inside s.parameters es k.names))))))

pub called_inside : (p : Option Place) (c : Callee) (es : List Expression) (k : Known) → Inside (target_marks p + (callee_marks c + all_marks es)) (called p c es k)
called_inside p c es k =
    let m = callee_marks c + all_marks es in
    let n = target_marks p + m in
    let some : 0 < m = let h = some_callee c in omega (arith, h) in
    then_inside n (stored_in p k.names) _ (wider_inside (target_marks p) n (stored_in p k.names) (omega arith) (stored_inside p k.names))
    (λ stored. moved_inside (target_marks p) m n (checked_then (called_type c k.names) (λ s. calls stored s c es k)) (omega arith)
    (then_inside m (called_type c k.names) _ (called_type_inside m c k.names some) (λ s. calls_inside stored s c es k)))

-- ---- statements

pub given_inside : (e : Option Expression) (k : Known) → Inside (1 + given_marks e) (given e k)
given_inside None k = holds_inside (is_none k.result) 6 0 1 (omega arith)
given_inside (Some e) k =
    let n = 1 + marks e in
    test_inside (is_some k.result) 6 0 n _ (omega arith)
    (then_inside n (moved 1 (typed e k.names)) _ (moved_inside 1 (marks e) n (typed e k.names) (omega arith) (typed_inside e k.names))
    (λ t. holds_inside (fits_given k.result t (is_zero e)) 6 0 n (omega arith)))

-- the number of the elements of an array stands behind its name
pub size_inside : (t : CVariableType) → Inside (variable_marks t) (holds (has_size t) 11 (marks_before t + 1))
size_inside (variable.Scalar t) = tt
size_inside (variable.Ints c) = holds_inside (has_size (variable.Ints c)) 11 2 3 (omega arith)
size_inside (variable.Chars c) = holds_inside (has_size (variable.Chars c)) 11 2 3 (omega arith)
size_inside (variable.Pairs c) = holds_inside (has_size (variable.Pairs c)) 11 3 4 (omega arith)

pub locals_inside : (xs : List CLocal) (before_it : List (List ℕ)) → Inside (locals_marks xs) (checked_locals xs before_it)
locals_inside [] before_it = tt
locals_inside (x ∷ xs) before_it =
    let t = local_type x.ty in
    let n = local_marks x + locals_marks xs in
    test_inside (not (is_in before_it x.name)) 2 (marks_before t) n _ (omega arith)
    (before_inside n (holds (has_size t) 11 (marks_before t + 1)) _ (wider_inside (variable_marks t) n (holds (has_size t) 11 (marks_before t + 1)) (omega arith) (size_inside t))
    (moved_inside (local_marks x) (locals_marks xs) n (checked_locals xs (x.name ∷ before_it)) (omega arith) (locals_inside xs (x.name ∷ before_it))))

-- one part, and another behind its landmarks
pub next_inside : (n m : ℕ) (c d : Checks) → Inside n c → Inside m d → Inside (n + m) (c before moved n d)
next_inside n m c d h k = before_inside (n + m) c (moved n d) (wider_inside n (n + m) c (omega arith) h) (moved_inside n m (n + m) d (omega arith) k)

pub condition_inside : (e : Expression) (k : List Named) → Inside (marks e) (condition e k)
condition_inside e k = tested_inside e k is_integer 3

mutual
  pub checked_inside : (s : Statement) (k : Known) → Inside (statement_marks s) (checked s k)
  checked_inside (assign p e) k =
      let n = place_marks p + marks e in
      then_inside n (typed_target p k.names) _ (wider_inside (place_marks p) n (typed_target p k.names) (omega arith) (target_inside p k.names))
      (λ t. moved_inside (place_marks p) (marks e) n (assigned t e k.names) (omega arith) (tested_inside e k.names (λ s. fits_type t s (is_zero e)) 4))
  checked_inside (call p c es) k = called_inside p c es k
  checked_inside (block b) k = body_inside b k
  checked_inside leave k = holds_inside k.may_break 7 0 1 (omega arith)
  checked_inside next k = holds_inside k.in_loop 7 0 1 (omega arith)
  checked_inside (choose e b other) k =
      let n = 1 + (marks e + (body_marks b + body_marks other)) in
      before_inside n (moved 1 (condition e k.names)) _ (moved_inside 1 (marks e) n (condition e k.names) (omega arith) (condition_inside e k.names))
      (before_inside n (moved (1 + marks e) (checked_body b k)) _ (moved_inside (1 + marks e) (body_marks b) n (checked_body b k) (omega arith) (body_inside b k))
      (moved_inside (1 + (marks e + body_marks b)) (body_marks other) n (checked_body other k) (omega arith) (body_inside other k)))
  checked_inside (loop b) k = moved_inside 1 (body_marks b) (1 + body_marks b) (checked_body b (in_a_loop k)) (omega arith) (body_inside b (in_a_loop k))
  checked_inside (select e items) k =
      let n = 1 + (marks e + switch_marks items) in
      before_inside n (moved 1 (condition e k.names)) _ (moved_inside 1 (marks e) n (condition e k.names) (omega arith) (condition_inside e k.names))
      (moved_inside (1 + marks e) (switch_marks items) n (checked_switch items no_labels (in_a_switch k)) (omega arith) (switch_inside items no_labels (in_a_switch k)))
  checked_inside (give e) k = given_inside e k

  pub statements_inside : (all : Statements) (k : Known) → Inside (statements_marks all) (checked_statements all k)
  statements_inside done k = tt
  statements_inside (followed s rest) k =
      next_inside (statement_marks s) (statements_marks rest) (checked s k) (checked_statements rest k) (checked_inside s k) (statements_inside rest k)

  pub switch_inside : (all : SwitchItems) (ls : Labels) (k : Known) → Inside (switch_marks all) (checked_switch all ls k)
  switch_inside closed ls k = tt
  switch_inside (labelled c rest) ls k =
      let n = 2 + switch_marks rest in
      let more = record ls { cases = label_of c ∷ ls.cases } in
      test_inside (not (has_case ls.cases (label_of c))) 8 0 n _ (omega arith)
      (test_inside (fits_constant c) 11 1 n _ (omega arith) (moved_inside 2 (switch_marks rest) n (checked_switch rest more k) (omega arith) (switch_inside rest more k)))
  switch_inside (otherwise rest) ls k =
      let n = 1 + switch_marks rest in
      let more = record ls { has_default = true } in
      test_inside (not ls.has_default) 8 0 n _ (omega arith) (moved_inside 1 (switch_marks rest) n (checked_switch rest more k) (omega arith) (switch_inside rest more k))
  switch_inside (stated s rest) ls k =
      next_inside (statement_marks s) (switch_marks rest) (checked s k) (checked_switch rest ls k) (checked_inside s k) (switch_inside rest ls k)

  pub body_inside : (b : Body) (k : Known) → Inside (body_marks b) (checked_body b k)
  body_inside (body locals all) k =
      next_inside (locals_marks locals) (statements_marks all) (checked_locals locals []) (checked_statements all (with_locals locals k)) (locals_inside locals [])
      (statements_inside all (with_locals locals k))
