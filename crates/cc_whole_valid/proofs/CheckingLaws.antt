-- What the code finds of statements is what the definition finds.
use Rattle.std.proofs.Common.{◌≡◌, ℕ, ◌+◌, Bool, true, false, not, ◌&&◌, ◌||◌, List, [], ◌∷◌, Option, Some, None, Result, Ok, Err, length, refl, ap, sym, ◌∙◌, arith}
use Rattle.std.specs.Prelude.{◌==◌, is_none, is_some, if◌then◌else◌}
use Rattle.std.proofs.lemmas.Bool.{eqb-true}
use Rattle.cc_whole.specs.declared.types.CType.{CType}
use Rattle.cc_whole.specs.declared.types.CConstant.{CConstant}
use Rattle.cc_whole.specs.declared.types.CSignature.{CSignature}
use Rattle.cc_whole.specs.declared.types.CVariableType.{CVariableType}
use Rattle.cc_whole.specs.declared.statement.CLocal.{CLocal}
use Rattle.cc_whole.specs.Plain.{Place, Expression, Callee, by_name, by_pointer, Statement, assign, call, block, leave, next, choose, loop, select, give, Statements, done, followed, SwitchItems, closed, labelled, otherwise, stated, Body, body}
use Rattle.cc_whole.specs.Numbers.{fits_constant, label_of}
use Rattle.cc_whole.specs.Types.{same_type, is_integer, is_function_pointer, local_type}
use Rattle.cc_whole.specs.Landmarks.{type_marks, result_marks, all_types_marks, types_marks, marks, place_marks, all_marks, target_marks, signature_marks, callee_marks, given_marks, marks_before, marks_behind, local_marks, locals_marks, statement_marks, statements_marks, switch_marks, body_marks}
use Rattle.cc_whole.specs.Fault.{Checked, Checks, broken, holds, moved, checked_then, ◌before◌}
use Rattle.cc_whole.specs.Known.{Meant, function, object, Named, Known, lookup, is_in}
use Rattle.cc_whole.specs.Typed.{is_zero, typed, typed_target, fits_type}
use Rattle.cc_whole.specs.Statements.{assigned, stored_in, called_name, called_type, fits_stored, helper_may_call, calls_main, called_pointer, arguments, calls, called, condition, fits_given, given, has_size, checked_locals, in_a_loop, in_a_switch, with_locals, Labels, no_labels, has_case, checked, checked_statements, checked_switch, checked_body}
use Rattle.cc_whole_valid.specs.declared.stop.Stop.{Stop}
use Rattle.cc_whole_valid.specs.declared.stop.Stop.TheVariants as stop
use Rattle.cc_whole_valid.specs.Walk.{Walk, and_then, ◌>>=◌, pure, past, where_holds}
use Rattle.cc_whole_valid.specs.Typing.{type_from, target_from}
use Rattle.cc_whole_valid.specs.Checking.{assigned_from, stored_from, signature_by, signature_from, types_from, parameter_types_from, type_of_call, callee_from, argument_from, arguments_from, call_from, called_from, condition_from, value_from, given_from, distinct_from, size_from, local_from, locals_from, word_from, with_case, with_default, number_from, case_from, default_from, checked_from, statements_from, switch_from, body_from}
use Rattle.cc_whole_valid.proofs.WalkLaws.{told, told_past, told_back, told_then, told_before, told_behind, told_where, told_where_known, told_unless, told_holds, told_holds_not}
use Rattle.cc_whole_valid.proofs.TypingLaws.{here, told_type, told_target}

-- an expression, and a test of its type whose fault stands at its front
told_tested : (e : Expression) (k : List Named) (test : CType → Bool) (rule at : ℕ) (f : CType → Walk (Unit {0}))
    → ((t : CType) → f t (at + marks e) ≡ (if test t then Ok (tt, at + marks e) else Err (stop.Broken rule at)))
    → and_then (type_from e k at) f ≡ told at (marks e) (checked_then (typed e k) (λ t. holds (test t) rule 0))
told_tested e k test rule at f h =
    told_then at (marks e) (marks e) (typed e k) (λ t. holds (test t) rule 0) (type_from e k at) f (told_type e k at)
    (λ t. h t ∙ told_holds (test t) rule 0 at (marks e) at (Ok (tt, at + marks e)) (here at) refl)

told_assigned : (w : CType) (e : Expression) (k : List Named) (at : ℕ) → assigned_from w e k at ≡ told at (marks e) (assigned w e k)
unfolding assigned_from
told_assigned w e k at = told_tested e k (λ t. fits_type w t (is_zero e)) 4 at _ (λ t. refl)

told_condition : (e : Expression) (k : List Named) (at : ℕ) → condition_from e k at ≡ told at (marks e) (condition e k)
unfolding condition_from
told_condition e k at = told_tested e k is_integer 3 at _ (λ t. refl)

-- ---- calls

told_stored : (p : Option Place) (k : List Named) (at : ℕ) → stored_from p k at ≡ told at (target_marks p) (stored_in p k)
unfolding stored_from
told_stored None k at = ap (λ n. Ok (None, n)) (here at)
told_stored (Some p) k at =
    told_then at (place_marks p) (place_marks p) (typed_target p k) (λ t. Ok (Some t)) (target_from p k at) _ (told_target p k at) (λ t. refl)

told_signature_by : (m : Option Meant) (at : ℕ) → signature_by m at ≡ told at 0 (called_name m)
unfolding signature_by
told_signature_by None at = ap (λ n. Err (stop.Broken 1 n)) (here at)
told_signature_by (Some (function p)) at = ap (λ n. Ok (_, n)) (here at)
told_signature_by (Some (object t)) at = ap (λ n. Err (stop.Broken 3 n)) (here at)

told_signature : (c : Callee) (k : List Named) (at : ℕ) → signature_from c k at ≡ told at 0 (called_type c k)
unfolding signature_from
told_signature (by_name name) k at = told_signature_by (lookup k name) at
told_signature (by_pointer s e) k at = ap (λ n. Ok (s, n)) (here at)

told_types : (ts : List CType) (at : ℕ) → types_from ts at ≡ Ok (tt, at + all_types_marks ts)
told_types [] at = ap (λ n. Ok (tt, n)) (here at)
told_types (t ∷ ts) at =
    ap (λ r. and_then r (λ u. types_from ts)) (told_past (type_marks t) at)
    ∙ (told_types ts (at + type_marks t)
    ∙ ap (λ n. Ok (tt, n)) (let h : (at + type_marks t) + all_types_marks ts ≡ at + (type_marks t + all_types_marks ts) = omega arith in h))

told_parameter_types : (ts : List CType) (at : ℕ) → parameter_types_from ts at ≡ Ok (tt, at + types_marks ts)
unfolding parameter_types_from
told_parameter_types [] at = told_past 1 at
told_parameter_types (t ∷ ts) at = told_types (t ∷ ts) at

-- the type of a call is passed as its landmarks are
told_call_type : (s : CSignature) (at : ℕ) → type_of_call s at ≡ past (signature_marks s) at
unfolding type_of_call
told_call_type s at =
    let n = result_marks s.result in
    let m = types_marks s.parameters in
    ap (λ r. and_then r (λ u. parameter_types_from s.parameters)) (told_past n at)
    ∙ (told_parameter_types s.parameters (at + n)
    ∙ (ap (λ k. Ok (tt, k)) (let h : (at + n) + m ≡ at + (n + m) = omega arith in h) ∙ sym (told_past (n + m) at)))

told_callee : (c : Callee) (k : List Named) (at : ℕ) → callee_from c k at ≡ told at (callee_marks c) (called_pointer c k)
unfolding callee_from
told_callee (by_name name) k at = told_past 1 at
told_callee (by_pointer s e) k at =
    ap (λ r. and_then r (λ u at. and_then (type_from e k at) (λ t. where_holds (is_function_pointer t) 3 at (pure tt)))) (told_call_type s at)
    ∙ told_behind at (signature_marks s) (marks e) (signature_marks s + marks e) (checked_then (typed e k) (λ t. holds (is_function_pointer t) 3 0)) _ refl
    (told_tested e k is_function_pointer 3 (at + signature_marks s) _ (λ t. refl))

told_argument : (t : CType) (e : Expression) (k : List Named) (at : ℕ)
    → argument_from t e k at ≡ told at (marks e) (checked_then (typed e k) (λ s. holds (same_type s t) 5 0))
unfolding argument_from
told_argument t e k at = told_tested e k (λ s. same_type s t) 5 at _ (λ s. refl)

-- a test of what is found, and then a check
then_before : {A : Type 0} (r : Checked A) (f : A → Checks) (c : Checks) → checked_then r (λ a. f a before c) ≡ (checked_then r f before c)
then_before (Ok a) f c = refl
then_before (Err x) f c = refl

told_arguments : (ts : List CType) (es : List Expression) (k : List Named) (at : ℕ) → length ts ≡ length es
    → arguments_from ts es k at ≡ told at (all_marks es) (arguments ts es k)
told_arguments [] [] k at same = ap (λ n. Ok (tt, n)) (here at)
told_arguments [] (e ∷ es) k at same = absurd (omega (arith, same))
told_arguments (t ∷ ts) [] k at same = absurd (omega (arith, same))
told_arguments (t ∷ ts) (e ∷ es) k at same =
    told_before at (marks e) (marks e + all_marks es) (checked_then (typed e k) (λ s. holds (same_type s t) 5 0)) (moved (marks e) (arguments ts es k))
    (argument_from t e k at) (λ u. arguments_from ts es k) (told_argument t e k at)
    (told_arguments ts es k (at + marks e) (let h : length ts ≡ length es = omega (arith, same) in h) ∙ told_back at (marks e) (all_marks es) (arguments ts es k))
    ∙ ap (told at (marks e + all_marks es)) (sym (then_before (typed e k) (λ s. holds (same_type s t) 5 0) (moved (marks e) (arguments ts es k))))

not_and_not : (a b : Bool) → not (a && not b) ≡ (not a || b)
not_and_not true true = refl
not_and_not true false = refl
not_and_not false b = refl

module _ (c : Callee) (es : List Expression) (k : Known) (s : CSignature) (at : ℕ) where
  abbrev l : ℕ
  l = callee_marks c + all_marks es

  abbrev behind : Checks
  behind = called_pointer c k.names before moved (callee_marks c) (arguments s.parameters es k.names)

  abbrev walk : Result (Unit {0} × ℕ) Stop
  walk = and_then (callee_from c k.names at) (λ u. arguments_from s.parameters es k.names)

  told_operands : length s.parameters ≡ length es → walk ≡ told at l behind
  told_operands same =
      told_before at (callee_marks c) l (called_pointer c k.names) (moved (callee_marks c) (arguments s.parameters es k.names)) (callee_from c k.names at)
      (λ u. arguments_from s.parameters es k.names) (told_callee c k.names at)
      (told_arguments s.parameters es k.names (at + callee_marks c) same ∙ told_back at (callee_marks c) (all_marks es) (arguments s.parameters es k.names))

  told_helper : (r : Result (Unit {0} × ℕ) Stop) (d : Checks) → r ≡ told at l d
      → (if k.in_helper && not (helper_may_call c) then Err (stop.Broken 9 at) else r) ≡ told at l (holds (not k.in_helper || helper_may_call c) 9 0 before d)
  told_helper r d e =
      told_unless (k.in_helper && not (helper_may_call c)) 9 0 at l at d r (here at) e
      ∙ ap (λ b. told at l (holds b 9 0 before d)) (not_and_not k.in_helper (helper_may_call c))

  told_call : (stored : Option CType) → call_from c es k stored s at ≡ told at l (calls stored s c es k)
  unfolding call_from
  told_call stored =
      told_where (fits_stored stored s.result) 4 0 at l at _ _ (here at)
      (told_where_known (length s.parameters == length es) 5 0 at l at _ _ (here at) (λ same.
      told_helper _ (holds (not (calls_main c)) 10 0 before behind)
      (told_unless (calls_main c) 10 0 at l at behind walk (here at) (told_operands (eqb-true (length s.parameters) (length es) same)))))

told_called : (p : Option Place) (c : Callee) (es : List Expression) (k : Known) (at : ℕ)
    → called_from p c es k at ≡ told at (target_marks p + (callee_marks c + all_marks es)) (called p c es k)
unfolding called_from
told_called p c es k at =
    told_then at (target_marks p) (target_marks p + (callee_marks c + all_marks es)) (stored_in p k.names) _ (stored_from p k.names at) _ (told_stored p k.names at)
    (λ stored. told_then (at + target_marks p) 0 (callee_marks c + all_marks es) (called_type c k.names) (λ s. calls stored s c es k)
    (signature_from c k.names (at + target_marks p)) _ (told_signature c k.names (at + target_marks p))
    (λ s. ap (call_from c es k stored s) (let h : (at + target_marks p) + 0 ≡ at + target_marks p = omega arith in h) ∙ told_call c es k s (at + target_marks p) stored)
    ∙ told_back at (target_marks p) (callee_marks c + all_marks es) (checked_then (called_type c k.names) (λ s. calls stored s c es k)))

-- ---- results, locals

told_value : (e : Expression) (k : Known) (at : ℕ)
    → and_then (past 1 at) (λ u. value_from at e k)
    ≡ told at (1 + marks e) (checked_then (moved 1 (typed e k.names)) (λ t. holds (fits_given k.result t (is_zero e)) 6 0))
unfolding value_from
told_value e k at =
    ap (λ r. and_then r (λ u. value_from at e k)) (told_past 1 at)
    ∙ told_then at (1 + marks e) (1 + marks e) (moved 1 (typed e k.names)) _ (type_from e k.names (at + 1)) _
    (told_type e k.names (at + 1) ∙ told_back at 1 (marks e) (typed e k.names))
    (λ t. told_holds (fits_given k.result t (is_zero e)) 6 0 at (1 + marks e) at _ (here at) refl)

told_given : (e : Option Expression) (k : Known) (at : ℕ) → given_from e k at ≡ told at (1 + given_marks e) (given e k)
unfolding given_from
told_given None k at = told_holds (is_none k.result) 6 0 at 1 at (past 1 at) (here at) (told_past 1 at)
told_given (Some e) k at = told_where (is_some k.result) 6 0 at (1 + marks e) at _ _ (here at) (told_value e k at)

pub told_distinct : (name : List ℕ) (before_it : List (List ℕ)) (at : ℕ) → distinct_from name before_it at ≡ told at 1 (holds (not (is_in before_it name)) 2 0)
unfolding distinct_from
told_distinct name before_it at = told_holds_not (is_in before_it name) 2 0 at 1 at (past 1 at) (here at) (told_past 1 at)

pub told_size : (t : CVariableType) (fits : Bool) (at : ℕ) → size_from t fits at ≡ told at (marks_behind t) (holds fits 11 0)
unfolding size_from
told_size t fits at = told_holds fits 11 0 at (marks_behind t) at (past (marks_behind t) at) (here at) (told_past (marks_behind t) at)

pub told_number : (c : CConstant) (at : ℕ) → number_from c at ≡ told at 1 (holds (fits_constant c) 11 0)
unfolding number_from
told_number c at = told_holds (fits_constant c) 11 0 at 1 at (past 1 at) (here at) (told_past 1 at)

-- a name behind some landmarks, and the number of its elements behind it
pub spread : (n : ℕ) (c : Checks) (fits : Bool) → moved n (c before moved 1 (holds fits 11 0)) ≡ (moved n c before holds fits 11 (n + 1))
spread n (Ok u) true = refl
spread n (Ok u) false = refl
spread n (Err x) fits = refl

pub moved_front : (n : ℕ) (b : Bool) (rule : ℕ) → moved n (holds b rule 0) ≡ holds b rule n
moved_front n true rule = refl
moved_front n false rule = ap (broken rule) (let h : n + 0 ≡ n = omega arith in h)

pub before_before : {A : Type 0} (a b : Checks) (c : Checked A) → ((a before b) before c) ≡ (a before (b before c))
before_before (Ok u) b c = refl
before_before (Err x) b c = refl

-- a type, a name and the number of its elements
pub told_variable : (t : CVariableType) (fits : Bool) (name : Walk (Unit {0})) (c : Checks) (at : ℕ) → ((n : ℕ) → name n ≡ told n 1 c)
    → and_then (past (marks_before t) at) (λ u. name >>= (λ v. size_from t fits))
    ≡ told at (marks_before t + (1 + marks_behind t)) (moved (marks_before t) c before holds fits 11 (marks_before t + 1))
told_variable t fits name c at e =
    let n = marks_before t in
    told_behind at n (1 + marks_behind t) (n + (1 + marks_behind t)) (c before moved 1 (holds fits 11 0)) (λ u. name >>= (λ v. size_from t fits)) refl
    (told_before (at + n) 1 (1 + marks_behind t) c (moved 1 (holds fits 11 0)) (name (at + n)) (λ v. size_from t fits) (e (at + n))
    (told_size t fits ((at + n) + 1) ∙ told_back (at + n) 1 (marks_behind t) (holds fits 11 0)))
    ∙ ap (told at (n + (1 + marks_behind t))) (spread n c fits)

told_local : (x : CLocal) (before_it : List (List ℕ)) (at : ℕ)
    → local_from x before_it at
    ≡ told at (local_marks x) (holds (not (is_in before_it x.name)) 2 (marks_before (local_type x.ty)) before holds (has_size (local_type x.ty)) 11 (marks_before (local_type x.ty) + 1))
unfolding local_from
told_local x before_it at =
    let t = local_type x.ty in
    told_variable t (has_size t) (distinct_from x.name before_it) (holds (not (is_in before_it x.name)) 2 0) at (told_distinct x.name before_it)
    ∙ ap (λ c. told at (local_marks x) (c before holds (has_size t) 11 (marks_before t + 1))) (moved_front (marks_before t) (not (is_in before_it x.name)) 2)

told_locals : (xs : List CLocal) (before_it : List (List ℕ)) (at : ℕ) → locals_from xs before_it at ≡ told at (locals_marks xs) (checked_locals xs before_it)
told_locals [] before_it at = ap (λ n. Ok (tt, n)) (here at)
told_locals (x ∷ xs) before_it at =
    let t = local_type x.ty in
    let a = holds (not (is_in before_it x.name)) 2 (marks_before t) in
    let b = holds (has_size t) 11 (marks_before t + 1) in
    let rest = checked_locals xs (x.name ∷ before_it) in
    told_before at (local_marks x) (local_marks x + locals_marks xs) (a before b) (moved (local_marks x) rest) (local_from x before_it at) (λ u. locals_from xs (x.name ∷ before_it))
    (told_local x before_it at)
    (told_locals xs (x.name ∷ before_it) (at + local_marks x) ∙ told_back at (local_marks x) (locals_marks xs) rest)
    ∙ ap (told at (local_marks x + locals_marks xs)) (before_before a b (moved (local_marks x) rest))

-- ---- statements

told_word : (may_stand : Bool) (at : ℕ) → word_from may_stand at ≡ told at 1 (holds may_stand 7 0)
unfolding word_from
told_word may_stand at = told_holds may_stand 7 0 at 1 at (past 1 at) (here at) (told_past 1 at)

-- one part, and then another behind its landmarks
pub told_next : (at n m : ℕ) (c d : Checks) (r : Result (Unit {0} × ℕ) Stop) (w : Walk (Unit {0})) → r ≡ told at n c → w (at + n) ≡ told (at + n) m d
    → and_then r (λ u. w) ≡ told at (n + m) (c before moved n d)
told_next at n m c d r w e h = told_before at n (n + m) c (moved n d) r (λ u. w) e (h ∙ told_back at n m d)

pub moved_before : (n : ℕ) (c d : Checks) → moved n (c before d) ≡ (moved n c before moved n d)
moved_before n (Ok u) d = refl
moved_before n (Err x) d = refl

pub moved_moved : {A : Type 0} (n m : ℕ) (c : Checked A) → moved n (moved m c) ≡ moved (n + m) c
moved_moved n m (Ok a) = refl
moved_moved n m (Err x) = ap (broken x.rule) (let h : n + (m + x.place) ≡ (n + m) + x.place = omega arith in h)

told_case : (c : CConstant) (ls : Labels) (at : ℕ)
    → case_from c ls at ≡ told at 2 (holds (not (has_case ls.cases (label_of c))) 8 0 before holds (fits_constant c) 11 1)
unfolding case_from
told_case c ls at =
    told_unless (has_case ls.cases (label_of c)) 8 0 at 2 at (holds (fits_constant c) 11 1) (and_then (past 1 at) (λ u. number_from c)) (here at)
    (told_behind at 1 1 2 (holds (fits_constant c) 11 0) (λ u. number_from c) refl (told_number c (at + 1)) ∙ ap (told at 2) (moved_front 1 (fits_constant c) 11))

told_default : (ls : Labels) (at : ℕ) → default_from ls at ≡ told at 1 (holds (not ls.has_default) 8 0)
unfolding default_from
told_default ls at = told_holds_not ls.has_default 8 0 at 1 at (past 1 at) (here at) (told_past 1 at)

-- a condition and two branches behind a word
branches : (n m : ℕ) (a b c : Checks)
    → moved 1 (a before moved n (b before moved m c)) ≡ (moved 1 a before moved (1 + n) b before moved (1 + (n + m)) c)
branches n m a b c =
    moved_before 1 a (moved n (b before moved m c))
    ∙ ap (λ d. moved 1 a before d)
    (moved_moved 1 n (b before moved m c) ∙ (moved_before (1 + n) b (moved m c) ∙ ap (λ d. moved (1 + n) b before d)
    (moved_moved (1 + n) m c ∙ ap (λ i. moved i c) (let h : (1 + n) + m ≡ 1 + (n + m) = omega arith in h))))

mutual
  pub told_checked : (s : Statement) (k : Known) (at : ℕ) → checked_from s k at ≡ told at (statement_marks s) (checked s k)
  told_checked (assign p e) k at =
      told_then at (place_marks p) (place_marks p + marks e) (typed_target p k.names) (λ t. moved (place_marks p) (assigned t e k.names)) (target_from p k.names at)
      (λ t. assigned_from t e k.names) (told_target p k.names at)
      (λ t. told_assigned t e k.names (at + place_marks p) ∙ told_back at (place_marks p) (marks e) (assigned t e k.names))
  told_checked (call p c es) k at = told_called p c es k at
  told_checked (block b) k at = told_body b k at
  told_checked leave k at = told_word k.may_break at
  told_checked next k at = told_word k.in_loop at
  told_checked (choose e b other) k at =
      let n = marks e in
      let m = body_marks b in
      let o = body_marks other in
      let cond = condition e k.names in
      told_behind at 1 (n + (m + o)) (1 + (n + (m + o))) (cond before moved n (checked_body b k before moved m (checked_body other k))) _ refl
      (told_next (at + 1) n (m + o) cond (checked_body b k before moved m (checked_body other k)) (condition_from e k.names (at + 1))
      (λ at. and_then (body_from b k at) (λ u. body_from other k)) (told_condition e k.names (at + 1))
      (told_next ((at + 1) + n) m o (checked_body b k) (checked_body other k) (body_from b k ((at + 1) + n)) (body_from other k) (told_body b k ((at + 1) + n))
      (told_body other k (((at + 1) + n) + m))))
      ∙ ap (told at (1 + (n + (m + o)))) (branches n m cond (checked_body b k) (checked_body other k))
  told_checked (loop b) k at =
      told_behind at 1 (body_marks b) (1 + body_marks b) (checked_body b (in_a_loop k)) (λ u. body_from b (in_a_loop k)) refl (told_body b (in_a_loop k) (at + 1))
  told_checked (select e items) k at =
      let n = marks e in
      let cond = condition e k.names in
      let rest = checked_switch items no_labels (in_a_switch k) in
      told_behind at 1 (n + switch_marks items) (1 + (n + switch_marks items)) (cond before moved n rest) _ refl
      (told_next (at + 1) n (switch_marks items) cond rest (condition_from e k.names (at + 1)) (switch_from items no_labels (in_a_switch k)) (told_condition e k.names (at + 1))
      (told_switch items no_labels (in_a_switch k) ((at + 1) + n)))
      ∙ ap (told at (1 + (n + switch_marks items))) (moved_before 1 cond (moved n rest) ∙ ap (λ d. moved 1 cond before d) (moved_moved 1 n rest))
  told_checked (give e) k at = told_given e k at

  pub told_statements : (all : Statements) (k : Known) (at : ℕ) → statements_from all k at ≡ told at (statements_marks all) (checked_statements all k)
  told_statements done k at = ap (λ n. Ok (tt, n)) (here at)
  told_statements (followed s rest) k at =
      told_next at (statement_marks s) (statements_marks rest) (checked s k) (checked_statements rest k) (checked_from s k at) (statements_from rest k) (told_checked s k at)
      (told_statements rest k (at + statement_marks s))

  pub told_switch : (all : SwitchItems) (ls : Labels) (k : Known) (at : ℕ) → switch_from all ls k at ≡ told at (switch_marks all) (checked_switch all ls k)
  told_switch closed ls k at = ap (λ n. Ok (tt, n)) (here at)
  told_switch (labelled c rest) ls k at =
      let a = holds (not (has_case ls.cases (label_of c))) 8 0 in
      let b = holds (fits_constant c) 11 1 in
      told_next at 2 (switch_marks rest) (a before b) (checked_switch rest (with_case c ls) k) (case_from c ls at) (switch_from rest (with_case c ls) k) (told_case c ls at)
      (told_switch rest (with_case c ls) k (at + 2))
      ∙ ap (told at (2 + switch_marks rest)) (before_before a b (moved 2 (checked_switch rest (with_case c ls) k)))
  told_switch (otherwise rest) ls k at =
      told_next at 1 (switch_marks rest) (holds (not ls.has_default) 8 0) (checked_switch rest (with_default ls) k) (default_from ls at) (switch_from rest (with_default ls) k)
      (told_default ls at) (told_switch rest (with_default ls) k (at + 1))
  told_switch (stated s rest) ls k at =
      told_next at (statement_marks s) (switch_marks rest) (checked s k) (checked_switch rest ls k) (checked_from s k at) (switch_from rest ls k) (told_checked s k at)
      (told_switch rest ls k (at + statement_marks s))

  pub told_body : (b : Body) (k : Known) (at : ℕ) → body_from b k at ≡ told at (body_marks b) (checked_body b k)
  told_body (body locals all) k at =
      told_next at (locals_marks locals) (statements_marks all) (checked_locals locals []) (checked_statements all (with_locals locals k)) (locals_from locals [] at)
      (statements_from all (with_locals locals k)) (told_locals locals [] at) (told_statements all (with_locals locals k) (at + locals_marks locals))
