-- The first fault of a statement: rules V1 to V11, as far as a statement can break them.
use Rattle.std.specs.Prelude.{ℕ, ◌+◌, Bool, true, false, not, ◌&&◌, ◌||◌, ◌==◌, List, [], ◌∷◌, ◌++◌, Option, Some, None, is_none, is_some, Ok, codes, length, bytes_eq}
use Rattle.std.specs.List.{list_any}
use Rattle.cc_whole.specs.declared.types.CType.{CType}
use Rattle.cc_whole.specs.declared.types.CSignature.{CSignature}
use Rattle.cc_whole.specs.declared.types.CVariableType.{CVariableType}
use Rattle.cc_whole.specs.declared.types.CVariableType.TheVariants as variable
use Rattle.cc_whole.specs.declared.statement.CLocal.{CLocal}
use Rattle.cc_whole.specs.Plain.{Place, Expression, Callee, by_name, by_pointer, Statement, assign, call, block, leave, next, choose, loop, select, give, Statements, done, followed, SwitchItems, closed, labelled, otherwise, stated, Body, body}
use Rattle.cc_whole.specs.Numbers.{fits_constant, label_of, is_size}
use Rattle.cc_whole.specs.Types.{same_type, is_integer, is_function_pointer, local_type, signature_of}
use Rattle.cc_whole.specs.Landmarks.{marks, place_marks, target_marks, signature_marks, callee_marks, marks_before, local_marks, locals_marks, statement_marks, body_marks}
use Rattle.cc_whole.specs.Fault.{Checked, Checks, fine, broken, holds, moved, checked_then, ◌before◌}
use Rattle.cc_whole.specs.Known.{Meant, function, object, Named, Known, lookup, locals_named, is_in, is_main, is_helper}
use Rattle.cc_whole.specs.Typed.{typed, typed_target, is_zero, fits_type}

-- ---- assignments

-- V4: both sides have one type, the constant 0 fitting pointers
abbrev pub assigned : CType → Expression → List Named → Checks
assigned wanted e names = checked_then (typed e names) (λ t. holds (fits_type wanted t (is_zero e)) 4 0)

-- ---- calls

-- the type of the place that gets the result, if it is stored
abbrev pub stored_in : Option Place → List Named → Checked (Option CType)
stored_in None names = Ok None
stored_in (Some p) names = checked_then (typed_target p names) (λ t. Ok (Some t))

-- V1: the name is declared before; V3: it is a function's
abbrev pub called_name : Option Meant → Checked CSignature
called_name None = broken 1 0
called_name (Some (function p)) = Ok (signature_of p)
called_name (Some (object t)) = broken 3 0

abbrev pub called_type : Callee → List Named → Checked CSignature
called_type (by_name name) names = called_name (lookup names name)
called_type (by_pointer s e) names = Ok s

-- a result of the type that is stored
abbrev pub fits_stored : Option CType → Option CType → Bool
fits_stored None result = true
fits_stored (Some wanted) None = false
fits_stored (Some wanted) (Some t) = same_type t wanted

-- V9: a helper calls by name only, and neither a helper nor `atexit`
abbrev pub helper_may_call : Callee → Bool
helper_may_call (by_name name) = not (is_helper name) && not (bytes_eq name (codes "atexit"))
helper_may_call (by_pointer s e) = false

-- V10: `main` is not called
abbrev pub calls_main : Callee → Bool
calls_main (by_name name) = is_main name
calls_main (by_pointer s e) = false

-- V3: what is called through is a pointer to a function
abbrev pub called_pointer : Callee → List Named → Checks
called_pointer (by_name name) names = fine
called_pointer (by_pointer s e) names =
    moved (signature_marks s) (checked_then (typed e names) (λ t. holds (is_function_pointer t) 3 0))

-- V5: the arguments have the types of the parameters
abbrev pub arguments : List CType → List Expression → List Named → Checks
arguments [] es names = fine
arguments (t ∷ ts) [] names = fine
arguments (t ∷ ts) (e ∷ es) names =
    checked_then (typed e names) (λ s. holds (same_type s t) 5 0 before moved (marks e) (arguments ts es names))

-- V4, the result is of the stored type, V5, there are as many arguments as parameters, V9 and V10 of a call
abbrev pub calls : Option CType → CSignature → Callee → List Expression → Known → Checks
calls stored s c es k =
    holds (fits_stored stored s.result) 4 0 before holds (length s.parameters == length es) 5 0
    before holds (not k.in_helper || helper_may_call c) 9 0 before holds (not (calls_main c)) 10 0
    before called_pointer c k.names before moved (callee_marks c) (arguments s.parameters es k.names)

abbrev pub called : Option Place → Callee → List Expression → Known → Checks
called p c es k =
    checked_then (stored_in p k.names) (λ stored. moved (target_marks p) (checked_then (called_type c k.names) (λ s. calls stored s c es k)))

-- ---- conditions, results, locals

-- V3: a condition and the value of a `switch` are integers
abbrev pub condition : Expression → List Named → Checks
condition e names = checked_then (typed e names) (λ t. holds (is_integer t) 3 0)

abbrev pub fits_given : Option CType → CType → Bool → Bool
fits_given None t zero = false
fits_given (Some wanted) t zero = fits_type wanted t zero

-- V6, at `return`: there is a value of the result's type exactly where there is a result
abbrev pub given : Option Expression → Known → Checks
given None k = holds (is_none k.result) 6 0
given (Some e) k = holds (is_some k.result) 6 0 before checked_then (moved 1 (typed e k.names)) (λ t. holds (fits_given k.result t (is_zero e)) 6 0)

-- V11: an array has from 1 to 2 ^ 22 elements
abbrev pub has_size : CVariableType → Bool
has_size (variable.Scalar t) = true
has_size (variable.Ints c) = is_size c
has_size (variable.Chars c) = is_size c
has_size (variable.Pairs c) = is_size c

-- V2: the locals of a body differ, from those before them
abbrev pub checked_locals : List CLocal → List (List ℕ) → Checks
checked_locals [] before_it = fine
checked_locals (x ∷ xs) before_it =
    let t = local_type x.ty in
    holds (not (is_in before_it x.name)) 2 (marks_before t) before holds (has_size t) 11 (marks_before t + 1)
    before moved (local_marks x) (checked_locals xs (x.name ∷ before_it))

-- ---- statements

abbrev pub in_a_loop : Known → Known
in_a_loop k = record k { in_loop = true; may_break = true }

abbrev pub in_a_switch : Known → Known
in_a_switch k = record k { may_break = true }

abbrev pub with_locals : List CLocal → Known → Known
with_locals locals k = record k { names = locals_named locals ++ k.names }

-- labels, modulo 2 ^ 32, and whether there is a `default`
pub record Labels : Type 0 where
  pub cases : List ℕ
  pub has_default : Bool

abbrev pub no_labels : Labels
no_labels = record { cases = []; has_default = false }

-- whether there is a case of this label
abbrev pub has_case : List ℕ → ℕ → Bool
has_case cases n = list_any (λ other. other == n) cases

abbrev mutual
  -- V7: `break` and `continue` stand inside
  pub checked : Statement → Known → Checks
  checked (assign p e) k = checked_then (typed_target p k.names) (λ t. moved (place_marks p) (assigned t e k.names))
  checked (call p c es) k = called p c es k
  checked (block b) k = checked_body b k
  checked leave k = holds k.may_break 7 0
  checked next k = holds k.in_loop 7 0
  checked (choose e b other) k =
      moved 1 (condition e k.names) before moved (1 + marks e) (checked_body b k) before moved (1 + (marks e + body_marks b)) (checked_body other k)
  checked (loop b) k = moved 1 (checked_body b (in_a_loop k))
  checked (select e items) k = moved 1 (condition e k.names) before moved (1 + marks e) (checked_switch items no_labels (in_a_switch k))
  checked (give e) k = given e k

  pub checked_statements : Statements → Known → Checks
  checked_statements done k = fine
  checked_statements (followed s rest) k = checked s k before moved (statement_marks s) (checked_statements rest k)

  -- V8, at `case` or `default`: labels differ, and there is at most one `default`
  pub checked_switch : SwitchItems → Labels → Known → Checks
  checked_switch closed ls k = fine
  checked_switch (labelled c rest) ls k =
      holds (not (has_case ls.cases (label_of c))) 8 0 before holds (fits_constant c) 11 1
      before moved 2 (checked_switch rest (record ls { cases = label_of c ∷ ls.cases }) k)
  checked_switch (otherwise rest) ls k = holds (not ls.has_default) 8 0 before moved 1 (checked_switch rest (record ls { has_default = true }) k)
  checked_switch (stated s rest) ls k = checked s k before moved (statement_marks s) (checked_switch rest ls k)

  pub checked_body : Body → Known → Checks
  checked_body (body locals all) k = checked_locals locals [] before moved (locals_marks locals) (checked_statements all (with_locals locals k))
