-- Where validity holds of expressions and statements, their names are names and their constants fit.
use Rattle.std.proofs.Common.{◌≡◌, ℕ, suc, ◌+◌, ◌<◌, ◌^◌, nat_lt, Bool, true, false, ◌&&◌, List, [], ◌∷◌, ◌++◌, pos, negsuc, Option, Some, None, Result, Ok, Err, length, refl, ap, sym, subst, ◌∙◌, arith}
use Rattle.std.specs.Prelude.{is_some, is_none, ◌==◌, ◌||◌, not}
use Rattle.std.specs.List.{list_all}
use Rattle.std.proofs.lemmas.Bool.{and_parts, and_from, false≢true}
use Rattle.std.proofs.lemmas.Bool.Decides.{nat_tests}
use Rattle.cf_base.specs.declared.kind.Kind.TheVariants.{Int, UInt}
use Rattle.cf_base.specs.Integers.{fits}
use Rattle.cc_whole_tokens.specs.Token.{is_name}
use Rattle.cc_whole.specs.declared.types.CType.{CType}
use Rattle.cc_whole.specs.declared.types.CConstant.{CConstant}
use Rattle.cc_whole.specs.declared.types.CConstant.TheVariants as int
use Rattle.cc_whole.specs.declared.types.CSignature.{CSignature}
use Rattle.cc_whole.specs.declared.types.CVariableType.{CVariableType}
use Rattle.cc_whole.specs.declared.types.CVariableType.TheVariants as variable
use Rattle.cc_whole.specs.declared.statement.CLocal.{CLocal}
use Rattle.cc_whole.specs.Numbers.{fits_constant, is_size, size_of, constant_type, label_of}
use Rattle.cc_whole.specs.Types.{local_type, signature_of, stored_type, is_function_pointer, is_integer, same_type, may_stand_left, binary_type}
use Rattle.cc_whole.specs.Landmarks.{type_marks, marks, place_marks, target_marks, callee_marks, signature_marks, locals_marks, local_marks, marks_before, statement_marks, body_marks}
use Rattle.cc_whole.specs.Fault.{Checked, Checks, fine, holds, moved, checked_then, ◌before◌}
use Rattle.cc_whole.specs.Known.{Meant, function, object, Named, Known, lookup, locals_named, is_in, is_main}
use Rattle.cc_whole.specs.Typed.{typed, typed_place, typed_constant, typed_name, typed_prefix, typed_cast, typed_address, typed_pointed, left_fits, fitted, is_zero, target_name, typed_target, fits_type}
use Rattle.cc_whole.specs.Statements.{assigned, stored_in, called_name, called_type, calls, called, called_pointer, arguments, condition, fits_given, given, has_size, checked_locals, in_a_loop, in_a_switch, with_locals, Labels, no_labels, has_case, checked, checked_statements, checked_switch, checked_body, fits_stored, helper_may_call, calls_main}
use Rattle.cc_whole.specs.Spellable.{good_locals, spellable, spellable_statements, spellable_switch, spellable_body}
use Rattle.cc_whole.specs.Plain.{Place, named, pointed, Expression, constant, load, unary, cast, address, binary, Callee, by_name, by_pointer, Statement, assign, call, block, leave, next, choose, loop, select, give, Statements, done, followed, SwitchItems, closed, labelled, otherwise, stated, Body, body}
use Rattle.cc_whole_printed.specs.Written.{written, written_place, all_written, written_target, written_callee, written_given, written_type, written_local, written_statement, written_statements, written_switch, written_body}
use Rattle.cc_whole_printed.proofs.Checks.{holds_is, moved_is, before_first, before_next, Found, then_is, good_names, lookup_good, good_append, good_locals_named}

-- ---- expressions

constant_good : (c : CConstant) (t : CType) → typed_constant c ≡ Ok t → fits_constant c ≡ true
constant_good c t h = holds_is (fits_constant c) 11 0 tt (before_first (holds (fits_constant c) 11 0) (Ok (constant_type c)) t h)

name_found : (name : List ℕ) (m : Option Meant) (t : CType) → typed_name name m ≡ Ok t → is_some m ≡ true
name_found name None t h = cc
name_found name (Some m) t h = refl

address_found : (m : Option Meant) (t : CType) → typed_address m ≡ Ok t → is_some m ≡ true
address_found None t h = cc
address_found (Some m) t h = refl

target_found : (m : Option Meant) (t : CType) → target_name m ≡ Ok t → is_some m ≡ true
target_found None t h = cc
target_found (Some m) t h = refl

mutual
  pub expression_good : (e : Expression) (names : List Named) (t : CType) → good_names names ≡ true → typed e names ≡ Ok t → written e ≡ true
  expression_good (constant c) names t good h = constant_good c t h
  expression_good (load p) names t good h = place_good p names t good h
  expression_good (unary o e) names t good h = let w = then_is (typed e names) (typed_prefix o) t h in expression_good e names w.value good w.first
  expression_good (cast u e) names t good h =
      let w = then_is (moved (type_marks u) (typed e names)) (typed_cast u (is_zero e)) t h in
      expression_good e names w.value good (moved_is (type_marks u) (typed e names) w.value w.first)
  expression_good (address name) names t good h = lookup_good names name good (address_found (lookup names name) t h)
  expression_good (binary o a b) names t good h =
      let w = then_is (typed a names) _ t h in
      let right = then_is (moved (marks a) (typed b names)) _ t (before_next (left_fits o w.value) _ t w.then_) in
      and_from (written a) (written b) (expression_good a names w.value good w.first)
      (expression_good b names right.value good (moved_is (marks a) (typed b names) right.value right.first))

  pub place_good : (p : Place) (names : List Named) (t : CType) → good_names names ≡ true → typed_place p names ≡ Ok t → written_place p ≡ true
  place_good (named name) names t good h = lookup_good names name good (name_found name (lookup names name) t h)
  place_good (pointed u e) names t good h =
      let w = then_is (moved (type_marks u) (typed e names)) (typed_pointed u) t h in
      expression_good e names w.value good (moved_is (type_marks u) (typed e names) w.value w.first)

target_good : (p : Place) (names : List Named) (t : CType) → good_names names ≡ true → typed_target p names ≡ Ok t → written_place p ≡ true
target_good (named name) names t good h = lookup_good names name good (target_found (lookup names name) t h)
target_good (pointed u e) names t good h = place_good (pointed u e) names t good h

-- ---- calls

stored_good : (p : Option Place) (names : List Named) (t : Option CType) → good_names names ≡ true → stored_in p names ≡ Ok t → written_target p ≡ true
stored_good None names t good h = refl
stored_good (Some p) names t good h = let w = then_is (typed_target p names) _ t h in target_good p names w.value good w.first

called_found : (m : Option Meant) (s : CSignature) → called_name m ≡ Ok s → is_some m ≡ true
called_found None s h = cc
called_found (Some m) s h = refl

callee_good : (c : Callee) (names : List Named) (s : CSignature) → good_names names ≡ true → called_type c names ≡ Ok s → called_pointer c names ≡ Ok tt
    → written_callee c ≡ true
callee_good (by_name name) names s good h p = lookup_good names name good (called_found (lookup names name) s h)
callee_good (by_pointer u e) names s good h p =
    let w = then_is (typed e names) _ tt (moved_is (signature_marks u) (checked_then (typed e names) (λ t. holds (is_function_pointer t) 3 0)) tt p) in
    expression_good e names w.value good w.first

same_length : (m n : ℕ) → (suc m == suc n) ≡ true → (m == n) ≡ true
same_length m n h = grind (arith, nat_tests, h)

none_longer : (n : ℕ) → (0 == suc n) ≡ false
none_longer n = grind (arith, nat_tests)

arguments_good : (ts : List CType) (es : List Expression) (names : List Named) → good_names names ≡ true → (length ts == length es) ≡ true
    → arguments ts es names ≡ Ok tt → all_written es ≡ true
arguments_good [] [] names good len h = refl
arguments_good [] (e ∷ es) names good len h = absurd (false≢true (sym (none_longer (length es)) ∙ len))
arguments_good (t ∷ ts) [] names good len h = refl
arguments_good (t ∷ ts) (e ∷ es) names good len h =
    let w = then_is (typed e names) _ tt h in
    let rest = moved_is (marks e) (arguments ts es names) tt (before_next (holds (same_type w.value t) 5 0) _ tt w.then_) in
    and_from (written e) (all_written es) (expression_good e names w.value good w.first) (arguments_good ts es names good (same_length (length ts) (length es) len) rest)

call_good : (p : Option Place) (c : Callee) (es : List Expression) (k : Known) → good_names k.names ≡ true → called p c es k ≡ Ok tt
    → written_statement (call p c es) ≡ true
call_good p c es k good h =
    let stored = then_is (stored_in p k.names) _ tt h in
    let typed_call = then_is (called_type c k.names) _ tt (moved_is (target_marks p) _ tt stored.then_) in
    let s = typed_call.value in
    let five = before_next (holds (fits_stored stored.value s.result) 4 0) _ tt typed_call.then_ in
    let count = holds_is (length s.parameters == length es) 5 0 tt (before_first (holds (length s.parameters == length es) 5 0) _ tt five) in
    let nine = before_next (holds (length s.parameters == length es) 5 0) _ tt five in
    let ten = before_next (holds (not k.in_helper || helper_may_call c) 9 0) _ tt nine in
    let pointer = before_next (holds (not (calls_main c)) 10 0) _ tt ten in
    let given_all = moved_is (callee_marks c) (arguments s.parameters es k.names) tt (before_next (called_pointer c k.names) _ tt pointer) in
    and_from (written_target p) (written_callee c && all_written es) (stored_good p k.names stored.value good stored.first)
    (and_from (written_callee c) (all_written es)
    (callee_good c k.names s good typed_call.first (before_first (called_pointer c k.names) _ tt pointer))
    (arguments_good s.parameters es k.names good count given_all))

-- ---- conditions, results, locals

condition_good : (e : Expression) (names : List Named) → good_names names ≡ true → condition e names ≡ Ok tt → written e ≡ true
condition_good e names good h = let w = then_is (typed e names) _ tt h in expression_good e names w.value good w.first

given_good : (e : Option Expression) (k : Known) → good_names k.names ≡ true → given e k ≡ Ok tt → written_given e ≡ true
given_good None k good h = refl
given_good (Some e) k good h =
    let w = then_is (moved 1 (typed e k.names)) _ tt (before_next (holds (is_some k.result) 6 0) _ tt h) in
    expression_good e k.names w.value good (moved_is 1 (typed e k.names) w.value w.first)

size_good : (c : CConstant) → is_size c ≡ true → fits_constant c ≡ true
size_good (int.Signed (pos n)) h =
    let parts = and_parts (nat_lt 0 n) (nat_lt n (2 ^ 22 + 1)) h in
    let b = parts.1 in
    let small : n < 2 ^ 22 + 1 = grind (arith, nat_tests, b) in
    grind (arith, nat_tests, small)
size_good (int.Signed (negsuc n)) h = cc
size_good (int.Unsigned n) h =
    let parts = and_parts (nat_lt 0 n) (nat_lt n (2 ^ 22 + 1)) h in
    let b = parts.1 in
    let small : n < 2 ^ 22 + 1 = grind (arith, nat_tests, b) in
    grind (arith, nat_tests, small)

pub type_good : (t : CVariableType) → has_size t ≡ true → written_type t ≡ true
type_good (variable.Scalar t) h = refl
type_good (variable.Ints c) h = size_good c h
type_good (variable.Chars c) h = size_good c h
type_good (variable.Pairs c) h = size_good c h

locals_good : (xs : List CLocal) (before_it : List (List ℕ)) → good_locals xs ≡ true → checked_locals xs before_it ≡ Ok tt → list_all written_local xs ≡ true
locals_good [] before_it names h = refl
locals_good (x ∷ xs) before_it names h =
    let t = local_type x.ty in
    let own = and_parts (is_name x.name) (good_locals xs) names in
    let sized = before_next (holds (not (is_in before_it x.name)) 2 (marks_before t)) _ tt h in
    let size = holds_is (has_size t) 11 (marks_before t + 1) tt (before_first (holds (has_size t) 11 (marks_before t + 1)) _ tt sized) in
    let rest = moved_is (local_marks x) (checked_locals xs (x.name ∷ before_it)) tt (before_next (holds (has_size t) 11 (marks_before t + 1)) _ tt sized) in
    and_from (written_local x) (list_all written_local xs) (and_from (is_name x.name) (written_type t) own.0 (type_good t size))
    (locals_good xs (x.name ∷ before_it) own.1 rest)

-- ---- statements

mutual
  pub statement_good : (s : Statement) (k : Known) → spellable s ≡ true → good_names k.names ≡ true → checked s k ≡ Ok tt → written_statement s ≡ true
  statement_good (assign p e) k spell good h =
      let w = then_is (typed_target p k.names) _ tt h in
      let value = then_is (typed e k.names) _ tt (moved_is (place_marks p) (assigned w.value e k.names) tt w.then_) in
      and_from (written_place p) (written e) (target_good p k.names w.value good w.first) (expression_good e k.names value.value good value.first)
  statement_good (call p c es) k spell good h = call_good p c es k good h
  statement_good (block b) k spell good h = body_good b k spell good h
  statement_good leave k spell good h = refl
  statement_good next k spell good h = refl
  statement_good (choose e b other) k spell good h =
      let spells = and_parts (spellable_body b) (spellable_body other) spell in
      let test = moved_is 1 (condition e k.names) tt (before_first (moved 1 (condition e k.names)) _ tt h) in
      let bodies = before_next (moved 1 (condition e k.names)) _ tt h in
      let first = moved_is (1 + marks e) (checked_body b k) tt (before_first (moved (1 + marks e) (checked_body b k)) _ tt bodies) in
      let second = moved_is (1 + (marks e + body_marks b)) (checked_body other k) tt (before_next (moved (1 + marks e) (checked_body b k)) _ tt bodies) in
      and_from (written e) (written_body b && written_body other) (condition_good e k.names good test)
      (and_from (written_body b) (written_body other) (body_good b k spells.0 good first) (body_good other k spells.1 good second))
  statement_good (loop b) k spell good h = body_good b (in_a_loop k) spell good (moved_is 1 (checked_body b (in_a_loop k)) tt h)
  statement_good (select e items) k spell good h =
      let test = moved_is 1 (condition e k.names) tt (before_first (moved 1 (condition e k.names)) _ tt h) in
      let rest = moved_is (1 + marks e) (checked_switch items no_labels (in_a_switch k)) tt (before_next (moved 1 (condition e k.names)) _ tt h) in
      and_from (written e) (written_switch items) (condition_good e k.names good test) (switch_good items no_labels (in_a_switch k) spell good rest)
  statement_good (give e) k spell good h = given_good e k good h

  pub statements_good : (all : Statements) (k : Known) → spellable_statements all ≡ true → good_names k.names ≡ true → checked_statements all k ≡ Ok tt
      → written_statements all ≡ true
  statements_good done k spell good h = refl
  statements_good (followed s rest) k spell good h =
      let spells = and_parts (spellable s) (spellable_statements rest) spell in
      let others = moved_is (statement_marks s) (checked_statements rest k) tt (before_next (checked s k) _ tt h) in
      and_from (written_statement s) (written_statements rest) (statement_good s k spells.0 good (before_first (checked s k) _ tt h)) (statements_good rest k spells.1 good others)

  pub switch_good : (items : SwitchItems) (ls : Labels) (k : Known) → spellable_switch items ≡ true → good_names k.names ≡ true
      → checked_switch items ls k ≡ Ok tt → written_switch items ≡ true
  switch_good closed ls k spell good h = refl
  switch_good (labelled c rest) ls k spell good h =
      let other = before_next (holds (not (has_case ls.cases (label_of c))) 8 0) _ tt h in
      let fit = holds_is (fits_constant c) 11 1 tt (before_first (holds (fits_constant c) 11 1) _ tt other) in
      let ls2 = record ls { cases = label_of c ∷ ls.cases } in
      let others = moved_is 2 (checked_switch rest ls2 k) tt (before_next (holds (fits_constant c) 11 1) _ tt other) in
      and_from (fits_constant c) (written_switch rest) fit (switch_good rest ls2 k spell good others)
  switch_good (otherwise rest) ls k spell good h =
      let ls2 = record ls { has_default = true } in
      switch_good rest ls2 k spell good (moved_is 1 (checked_switch rest ls2 k) tt (before_next (holds (not ls.has_default) 8 0) _ tt h))
  switch_good (stated s rest) ls k spell good h =
      let spells = and_parts (spellable s) (spellable_switch rest) spell in
      let others = moved_is (statement_marks s) (checked_switch rest ls k) tt (before_next (checked s k) _ tt h) in
      and_from (written_statement s) (written_switch rest) (statement_good s k spells.0 good (before_first (checked s k) _ tt h)) (switch_good rest ls k spells.1 good others)

  pub body_good : (b : Body) (k : Known) → spellable_body b ≡ true → good_names k.names ≡ true → checked_body b k ≡ Ok tt → written_body b ≡ true
  body_good (body locals all) k spell good h =
      let spells = and_parts (good_locals locals) (spellable_statements all) spell in
      let inner = moved_is (locals_marks locals) (checked_statements all (with_locals locals k)) tt (before_next (checked_locals locals []) _ tt h) in
      and_from (list_all written_local locals) (written_statements all) (locals_good locals [] spells.0 (before_first (checked_locals locals []) _ tt h))
      (statements_good all (with_locals locals k) spells.1 (good_append (locals_named locals) k.names (good_locals_named locals spells.0) good) inner)
