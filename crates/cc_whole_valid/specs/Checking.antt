-- How the code checks statements, up to the first broken rule.
use Rattle.std.specs.Prelude.{ℕ, Bool, true, not, ◌&&◌, ◌==◌, List, [], ◌∷◌, Option, Some, None, is_none, is_some, length}
use Rattle.cc_whole.specs.declared.types.CType.{CType}
use Rattle.cc_whole.specs.declared.types.CConstant.{CConstant}
use Rattle.cc_whole.specs.declared.types.CSignature.{CSignature}
use Rattle.cc_whole.specs.declared.types.CVariableType.{CVariableType}
use Rattle.cc_whole.specs.declared.statement.CLocal.{CLocal}
use Rattle.cc_whole.specs.Plain.{Place, Expression, Callee, by_name, by_pointer, Statement, assign, call, block, leave, next, choose, loop, select, give, Statements, done, followed, SwitchItems, closed, labelled, otherwise, stated, Body, body, SwitchItem, label, default_label, inner}
use Rattle.cc_whole.specs.Numbers.{fits_constant, label_of}
use Rattle.cc_whole.specs.Types.{same_type, is_integer, is_function_pointer, local_type, signature_of}
use Rattle.cc_whole.specs.Landmarks.{type_marks, result_marks, marks_before, marks_behind}
use Rattle.cc_whole.specs.Known.{Meant, function, object, Named, Known, lookup, is_in}
use Rattle.cc_whole.specs.Typed.{is_zero, fits_type}
use Rattle.cc_whole.specs.Statements.{fits_stored, helper_may_call, calls_main, fits_given, has_size, in_a_loop, in_a_switch, with_locals, Labels, no_labels, has_case}
use Rattle.cc_whole_valid.specs.Walk.{Walk, and_then, ◌>>=◌, pure, past, broken_at, where_holds, unless}
use Rattle.cc_whole_valid.specs.Typing.{type_from, target_from}

-- ---- assignments and calls

unfoldable pub assigned_from : CType → Expression → List Named → Walk (Unit {0})
assigned_from wanted e names = λ at. and_then (type_from e names at) (λ t. where_holds (fits_type wanted t (is_zero e)) 4 at (pure tt))

unfoldable pub stored_from : Option Place → List Named → Walk (Option CType)
stored_from None names = pure None
stored_from (Some p) names = target_from p names >>= (λ t. pure (Some t))

-- the type of the function of a name; nothing is passed
unfoldable pub signature_by : Option Meant → Walk CSignature
signature_by None = λ at. broken_at 1 at at
signature_by (Some (function p)) = pure (signature_of p)
signature_by (Some (object t)) = λ at. broken_at 3 at at

unfoldable pub signature_from : Callee → List Named → Walk CSignature
signature_from (by_name name) names = signature_by (lookup names name)
signature_from (by_pointer s e) names = pure s

-- goes past the types of parameters, or past `void`
abbrev pub types_from : List CType → Walk (Unit {0})
types_from [] = pure tt
types_from (t ∷ ts) = past (type_marks t) >>= (λ u. types_from ts)

unfoldable pub parameter_types_from : List CType → Walk (Unit {0})
parameter_types_from [] = past 1
parameter_types_from (t ∷ ts) = types_from (t ∷ ts)

-- goes past the type of a function that is called through a pointer
unfoldable pub type_of_call : CSignature → Walk (Unit {0})
type_of_call s = past (result_marks s.result) >>= (λ u. parameter_types_from s.parameters)

-- goes past what is called
unfoldable pub callee_from : Callee → List Named → Walk (Unit {0})
callee_from (by_name name) names = past 1
callee_from (by_pointer s e) names = type_of_call s >>= (λ u at. and_then (type_from e names at) (λ t. where_holds (is_function_pointer t) 3 at (pure tt)))

unfoldable pub argument_from : CType → Expression → List Named → Walk (Unit {0})
argument_from t e names = λ at. and_then (type_from e names at) (λ s. where_holds (same_type s t) 5 at (pure tt))

abbrev pub arguments_from : List CType → List Expression → List Named → Walk (Unit {0})
arguments_from [] es names = pure tt
arguments_from (t ∷ ts) [] names = pure tt
arguments_from (t ∷ ts) (e ∷ es) names = argument_from t e names >>= (λ u. arguments_from ts es names)

-- a function of this type is called, which may stand here
unfoldable pub call_from : Callee → List Expression → Known → Option CType → CSignature → Walk (Unit {0})
call_from c es k stored s = λ at.
    where_holds (fits_stored stored s.result) 4 at (where_holds (length s.parameters == length es) 5 at
    (unless (k.in_helper && not (helper_may_call c)) 9 at (unless (calls_main c) 10 at
    (callee_from c k.names >>= (λ u. arguments_from s.parameters es k.names))))) at

unfoldable pub called_from : Option Place → Callee → List Expression → Known → Walk (Unit {0})
called_from p c es k = stored_from p k.names >>= (λ stored. signature_from c k.names >>= (λ s. call_from c es k stored s))

-- ---- conditions, results, locals

unfoldable pub condition_from : Expression → List Named → Walk (Unit {0})
condition_from e names = λ at. and_then (type_from e names at) (λ t. where_holds (is_integer t) 3 at (pure tt))

-- the value that `return` at this place gives
unfoldable pub value_from : ℕ → Expression → Known → Walk (Unit {0})
value_from place e k = type_from e k.names >>= (λ t. where_holds (fits_given k.result t (is_zero e)) 6 place (pure tt))

unfoldable pub given_from : Option Expression → Known → Walk (Unit {0})
given_from None k = λ at. where_holds (is_none k.result) 6 at (past 1) at
given_from (Some e) k = λ at. where_holds (is_some k.result) 6 at (past 1 >>= (λ u. value_from at e k)) at

-- a name that differs from those before it
unfoldable pub distinct_from : List ℕ → List (List ℕ) → Walk (Unit {0})
distinct_from name before_it = λ at. unless (is_in before_it name) 2 at (past 1) at

-- goes past the number of elements
unfoldable pub size_from : CVariableType → Bool → Walk (Unit {0})
size_from t fits = λ at. where_holds fits 11 at (past (marks_behind t)) at

unfoldable pub local_from : CLocal → List (List ℕ) → Walk (Unit {0})
local_from x before_it =
    past (marks_before (local_type x.ty)) >>= (λ u. distinct_from x.name before_it >>= (λ v. size_from (local_type x.ty) (has_size (local_type x.ty))))

abbrev pub locals_from : List CLocal → List (List ℕ) → Walk (Unit {0})
locals_from [] before_it = pure tt
locals_from (x ∷ xs) before_it = local_from x before_it >>= (λ u. locals_from xs (x.name ∷ before_it))

-- ---- statements

-- a word that may stand here
unfoldable pub word_from : Bool → Walk (Unit {0})
word_from may_stand = λ at. where_holds may_stand 7 at (past 1) at

abbrev pub with_case : CConstant → Labels → Labels
with_case c ls = record ls { cases = label_of c ∷ ls.cases }

abbrev pub with_default : Labels → Labels
with_default ls = record ls { has_default = true }

-- the number of a label
unfoldable pub number_from : CConstant → Walk (Unit {0})
number_from c = λ at. where_holds (fits_constant c) 11 at (past 1) at

unfoldable pub case_from : CConstant → Labels → Walk (Unit {0})
case_from c ls = λ at. unless (has_case ls.cases (label_of c)) 8 at (past 1 >>= (λ u. number_from c)) at

unfoldable pub default_from : Labels → Walk (Unit {0})
default_from ls = λ at. unless ls.has_default 8 at (past 1) at

abbrev mutual
  pub checked_from : Statement → Known → Walk (Unit {0})
  checked_from (assign p e) k = target_from p k.names >>= (λ t. assigned_from t e k.names)
  checked_from (call p c es) k = called_from p c es k
  checked_from (block b) k = body_from b k
  checked_from leave k = word_from k.may_break
  checked_from next k = word_from k.in_loop
  checked_from (choose e b other) k = past 1 >>= (λ u. condition_from e k.names >>= (λ v. body_from b k >>= (λ w. body_from other k)))
  checked_from (loop b) k = past 1 >>= (λ u. body_from b (in_a_loop k))
  checked_from (select e items) k = past 1 >>= (λ u. condition_from e k.names >>= (λ v. switch_from items no_labels (in_a_switch k)))
  checked_from (give e) k = given_from e k

  pub statements_from : Statements → Known → Walk (Unit {0})
  statements_from done k = pure tt
  statements_from (followed s rest) k = checked_from s k >>= (λ u. statements_from rest k)

  pub switch_from : SwitchItems → Labels → Known → Walk (Unit {0})
  switch_from closed ls k = pure tt
  switch_from (labelled c rest) ls k = case_from c ls >>= (λ u. switch_from rest (with_case c ls) k)
  switch_from (otherwise rest) ls k = default_from ls >>= (λ u. switch_from rest (with_default ls) k)
  switch_from (stated s rest) ls k = checked_from s k >>= (λ u. switch_from rest ls k)

  pub body_from : Body → Known → Walk (Unit {0})
  body_from (body locals all) k = locals_from locals [] >>= (λ u. statements_from all (with_locals locals k))

-- ---- one item of a `switch`

abbrev pub switch_item_from : SwitchItem → Labels → Known → Walk (Unit {0})
switch_item_from (label c) ls k = case_from c ls
switch_item_from default_label ls k = default_from ls
switch_item_from (inner s) ls k = checked_from s k

-- the labels behind it
abbrev pub labels_after : SwitchItem → Labels → Labels
labels_after (label c) ls = with_case c ls
labels_after default_label ls = with_default ls
labels_after (inner s) ls = ls
