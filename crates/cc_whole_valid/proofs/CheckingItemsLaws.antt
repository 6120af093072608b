-- What the code finds of items is what the definition finds.
use Rattle.std.proofs.Common.{◌≡◌, ℕ, ◌+◌, Bool, true, false, not, ◌&&◌, List, [], ◌∷◌, Option, Some, None, Result, Ok, Err, refl, ap, sym, ◌∙◌, arith}
use Rattle.cc_whole.specs.declared.types.CVariableType.{CVariableType}
use Rattle.cc_whole.specs.declared.unit.CParameter.{CParameter}
use Rattle.cc_whole.specs.declared.unit.CPrototype.{CPrototype}
use Rattle.cc_whole.specs.declared.unit.CPair.{CPair}
use Rattle.cc_whole.specs.declared.unit.CInitialiser.{CInitialiser}
use Rattle.cc_whole.specs.declared.unit.CInitialiser.TheVariants as initialiser
use Rattle.cc_whole.specs.declared.unit.CVariable.{CVariable}
use Rattle.cc_whole.specs.Plain.{Function, Item, declares, declares_variable, defines, defines_variable}
use Rattle.cc_whole.specs.Numbers.{fits_constant}
use Rattle.cc_whole.specs.Landmarks.{type_marks, result_marks, static_marks, marks_before_name, marks_before, variable_marks, all_parameters_marks, parameters_marks, prototype_marks, pairs_marks, initialiser_marks, body_marks, item_marks}
use Rattle.cc_whole.specs.Fault.{Checks, holds, moved, ◌before◌}
use Rattle.cc_whole.specs.Known.{Meant, function, object, Named, lookup, is_in, is_main, is_library}
use Rattle.cc_whole.specs.Statements.{has_size, checked_body}
use Rattle.cc_whole.specs.Valid.{agrees, own_type, has_type, checked_name, checked_parameters, checked_prototype, inside, may_be_shared, checked_function, paired, checked_pairs, may_start, holds_start, checked_start, checked_variable, named_by, defined_after, checked_function_definition, checked_variable_definition, checked_item, checked_items, first_fault}
use Rattle.cc_whole_valid.specs.declared.stop.Stop.{Stop}
use Rattle.cc_whole_valid.specs.declared.stop.Stop.TheVariants as stop
use Rattle.cc_whole_valid.specs.Walk.{Walk, and_then, ◌>>=◌, past, fault_of, found_by}
use Rattle.cc_whole_valid.specs.Checking.{distinct_from, number_from, body_from}
use Rattle.cc_whole_valid.specs.CheckingItems.{declared_from, parameter_from, some_from, parameters_from, prototype_from, unshared_from, function_from, paired_by, paired_from, pair_from, pairs_from, inside_from, start_from, variable_from, variable_definition_from, item_from, items_from}
use Rattle.cc_whole_valid.proofs.WalkLaws.{told, told_past, told_before, told_behind, told_where, told_holds, told_holds_not}
use Rattle.cc_whole_valid.proofs.TypingLaws.{here}
use Rattle.cc_whole_valid.proofs.CheckingLaws.{told_distinct, told_number, told_variable, told_next, moved_front, moved_before, moved_moved, before_before, told_body}

told_declared : (names : List Named) (defined : List (List ℕ)) (d : Bool) (name : List ℕ) (m : Meant) (at : ℕ)
    → declared_from names defined d name m at ≡ told at 1 (checked_name names defined d name m 0)
unfolding declared_from
told_declared names defined d name m at =
    let a = agrees (lookup names name) m && not (d && is_in defined name) in
    let b = has_type (own_type name) m && not (d && is_library name) in
    told_where a 2 0 at 1 at (holds b 10 0) _ (here at) (told_holds b 10 0 at 1 at (past 1 at) (here at) (told_past 1 at))

-- the same name behind some landmarks
named_behind : (names : List Named) (defined : List (List ℕ)) (d : Bool) (name : List ℕ) (m : Meant) (n : ℕ)
    → moved n (checked_name names defined d name m 0) ≡ checked_name names defined d name m n
named_behind names defined d name m n =
    let a = agrees (lookup names name) m && not (d && is_in defined name) in
    let b = has_type (own_type name) m && not (d && is_library name) in
    moved_before n (holds a 2 0) (holds b 10 0) ∙ (ap (λ c. c before moved n (holds b 10 0)) (moved_front n a 2) ∙ ap (λ c. holds a 2 n before c) (moved_front n b 10))

-- ---- functions

told_parameter : (p : CParameter) (before_it : List (List ℕ)) (at : ℕ)
    → parameter_from p before_it at ≡ told at (type_marks p.ty + 1) (holds (not (is_in before_it p.name)) 2 (type_marks p.ty))
unfolding parameter_from
told_parameter p before_it at =
    told_behind at (type_marks p.ty) 1 (type_marks p.ty + 1) (holds (not (is_in before_it p.name)) 2 0) (λ u. distinct_from p.name before_it) refl
    (told_distinct p.name before_it (at + type_marks p.ty))
    ∙ ap (told at (type_marks p.ty + 1)) (moved_front (type_marks p.ty) (not (is_in before_it p.name)) 2)

told_some : (ps : List CParameter) (before_it : List (List ℕ)) (at : ℕ) → some_from ps before_it at ≡ told at (all_parameters_marks ps) (checked_parameters ps before_it)
told_some [] before_it at = ap (λ n. Ok (tt, n)) (here at)
told_some (p ∷ ps) before_it at =
    let n = type_marks p.ty in
    let m = all_parameters_marks ps in
    let c = holds (not (is_in before_it p.name)) 2 n in
    let rest = checked_parameters ps (p.name ∷ before_it) in
    told_next at (n + 1) m c rest (parameter_from p before_it at) (some_from ps (p.name ∷ before_it)) (told_parameter p before_it at) (told_some ps (p.name ∷ before_it) (at + (n + 1)))
    ∙ ap (λ l. told at l (c before moved (n + 1) rest)) (let h : (n + 1) + m ≡ n + (1 + m) = omega arith in h)

told_parameters : (ps : List CParameter) (at : ℕ) → parameters_from ps at ≡ told at (parameters_marks ps) (checked_parameters ps [])
unfolding parameters_from
told_parameters [] at = told_past 1 at
told_parameters (p ∷ ps) at = told_some (p ∷ ps) [] at

-- past some landmarks twice
past_past : {B : Type 0} (n m at : ℕ) (f : Unit {0} → Walk B) → and_then (past n at) (λ u. past m >>= f) ≡ and_then (past (n + m) at) f
past_past n m at f =
    ap (λ r. and_then r (λ u. past m >>= f)) (told_past n at)
    ∙ (ap (λ r. and_then r f) (told_past m (at + n))
    ∙ (ap (f tt) (let h : (at + n) + m ≡ at + (n + m) = omega arith in h) ∙ sym (ap (λ r. and_then r f) (told_past (n + m) at))))

told_prototype : (names : List Named) (defined : List (List ℕ)) (d : Bool) (p : CPrototype) (at : ℕ)
    → prototype_from names defined d p at ≡ told at (prototype_marks p) (checked_prototype names defined d p)
unfolding prototype_from
told_prototype names defined d p at =
    let n = marks_before_name p in
    let m = parameters_marks p.parameters in
    let c = checked_name names defined d p.name (function p) 0 in
    let rest = checked_parameters p.parameters [] in
    past_past (static_marks p.is_static) (result_marks p.result) at (λ v. declared_from names defined d p.name (function p) >>= (λ w. parameters_from p.parameters))
    ∙ (told_behind at n (1 + m) (n + (1 + m)) (c before moved 1 rest) (λ v. declared_from names defined d p.name (function p) >>= (λ w. parameters_from p.parameters)) refl
    (told_next (at + n) 1 m c rest (declared_from names defined d p.name (function p) (at + n)) (parameters_from p.parameters)
    (told_declared names defined d p.name (function p) (at + n)) (told_parameters p.parameters ((at + n) + 1)))
    ∙ ap (told at (n + (1 + m)))
    (moved_before n c (moved 1 rest)
    ∙ (ap (λ x. x before moved n (moved 1 rest)) (named_behind names defined d p.name (function p) n)
    ∙ ap (λ x. checked_name names defined d p.name (function p) n before x) (moved_moved n 1 rest))))

told_unshared : (s t : Bool) (at : ℕ) → unshared_from s t at ≡ told at 0 (may_be_shared s t)
unfolding unshared_from
told_unshared s t at = told_holds_not (s && t) 12 0 at 0 at (Ok (tt, at)) (here at) (ap (λ n. Ok (tt, n)) (here at))

-- a test that passes no landmark, and a check
told_first : (at l : ℕ) (c d : Checks) (r : Result (Unit {0} × ℕ) Stop) (f : Unit {0} → Walk (Unit {0})) → r ≡ told at 0 c → f tt at ≡ told at l d
    → and_then r f ≡ told at l (c before d)
told_first at l c d r f e h = told_before at 0 l c d r f e (ap (f tt) (sym (here at)) ∙ h)

told_function : (f : Function) (names : List Named) (defined : List (List ℕ)) (at : ℕ)
    → function_from f names defined at ≡ told at (prototype_marks f.prototype + body_marks f.body) (checked_function_definition f names defined)
unfolding function_from
told_function f names defined at =
    let k = inside f.prototype (named_by (defines f) ∷ names) in
    let l = prototype_marks f.prototype + body_marks f.body in
    told_first at l (may_be_shared f.is_shared f.prototype.is_static)
    (checked_prototype names defined true f.prototype before moved (prototype_marks f.prototype) (checked_body f.body k))
    (unshared_from f.is_shared f.prototype.is_static at) _ (told_unshared f.is_shared f.prototype.is_static at)
    (told_next at (prototype_marks f.prototype) (body_marks f.body) (checked_prototype names defined true f.prototype) (checked_body f.body k)
    (prototype_from names defined true f.prototype at) (body_from f.body k) (told_prototype names defined true f.prototype at)
    (told_body f.body k (at + prototype_marks f.prototype)))

-- ---- variables

two_behind : (at : ℕ) → (at + 1) + 1 ≡ at + 2
two_behind at = omega arith

told_paired_by : (name : List ℕ) (m : Option Meant) (at : ℕ) → paired_by name m (at + 1) ≡ told at 2 (checked_function name m)
unfolding paired_by
told_paired_by name None at = refl
told_paired_by name (Some (function p)) at =
    told_holds_not (is_main name) 10 1 at 2 (at + 1) (past 1 (at + 1)) refl (told_past 1 (at + 1) ∙ ap (λ n. Ok (tt, n)) (two_behind at))
told_paired_by name (Some (object t)) at = refl

told_paired : (names : List Named) (f : Option (List ℕ)) (at : ℕ) → paired_from names f (at + 1) ≡ told at 2 (paired names f)
unfolding paired_from
told_paired names None at = told_past 1 (at + 1) ∙ ap (λ n. Ok (tt, n)) (two_behind at)
told_paired names (Some name) at = told_paired_by name (lookup names name) at

told_pair : (p : CPair) (names : List Named) (at : ℕ) → pair_from p names at ≡ told at 2 (holds (fits_constant p.number) 11 0 before paired names p.function)
unfolding pair_from
told_pair p names at =
    told_before at 1 2 (holds (fits_constant p.number) 11 0) (paired names p.function) (number_from p.number at) (λ u. paired_from names p.function) (told_number p.number at)
    (told_paired names p.function at)

told_pairs : (ps : List CPair) (names : List Named) (at : ℕ) → pairs_from ps names at ≡ told at (pairs_marks ps) (checked_pairs ps names)
told_pairs [] names at = ap (λ n. Ok (tt, n)) (here at)
told_pairs (p ∷ ps) names at =
    let a = holds (fits_constant p.number) 11 0 in
    let b = paired names p.function in
    told_next at 2 (pairs_marks ps) (a before b) (checked_pairs ps names) (pair_from p names at) (pairs_from ps names) (told_pair p names at) (told_pairs ps names (at + 2))
    ∙ ap (told at (2 + pairs_marks ps)) (before_before a b (moved 2 (checked_pairs ps names)))

told_start : (t : CVariableType) (names : List Named) (start : Option CInitialiser) (at : ℕ)
    → start_from t names start at ≡ told at (initialiser_marks start) (checked_start t names start)
unfolding start_from inside_from
told_start t names None at = ap (λ n. Ok (tt, n)) (here at)
told_start t names (Some (initialiser.Text bytes)) at =
    told_holds (may_start t (initialiser.Text bytes)) 3 0 at 1 at (past 1 at) (here at) (told_past 1 at)
told_start t names (Some (initialiser.Pairs ps)) at =
    told_where (may_start t (initialiser.Pairs ps)) 3 0 at (pairs_marks ps) at (checked_pairs ps names) (pairs_from ps names at) (here at) (told_pairs ps names at)

told_object : (names : List Named) (defined : List (List ℕ)) (d : Bool) (t : CVariableType) (name : List ℕ) (start : Option CInitialiser) (at : ℕ)
    → variable_from names defined d t name start at ≡ told at (variable_marks t) (checked_variable names defined d t name start)
unfolding variable_from
told_object names defined d t name start at =
    let fits = has_size t && holds_start t start in
    told_variable t fits (declared_from names defined d name (object t)) (checked_name names defined d name (object t) 0) at (told_declared names defined d name (object t))
    ∙ ap (λ c. told at (variable_marks t) (c before holds fits 11 (marks_before t + 1))) (named_behind names defined d name (object t) (marks_before t))

told_variable_definition : (v : CVariable) (names : List Named) (defined : List (List ℕ)) (at : ℕ)
    → variable_definition_from v names defined at
    ≡ told at (static_marks v.is_static + (variable_marks v.ty + initialiser_marks v.initialiser)) (checked_variable_definition v names defined)
unfolding variable_definition_from
told_variable_definition v names defined at =
    let s = static_marks v.is_static in
    let n = variable_marks v.ty in
    let m = initialiser_marks v.initialiser in
    let c = checked_variable names defined true v.ty v.name v.initialiser in
    let rest = checked_start v.ty (named_by (defines_variable v) ∷ names) v.initialiser in
    told_first at (s + (n + m)) (may_be_shared v.is_shared v.is_static) (moved s (c before moved n rest)) (unshared_from v.is_shared v.is_static at) _
    (told_unshared v.is_shared v.is_static at)
    (told_behind at s (n + m) (s + (n + m)) (c before moved n rest) _ refl
    (told_next (at + s) n m c rest (variable_from names defined true v.ty v.name v.initialiser (at + s)) (start_from v.ty (named_by (defines_variable v) ∷ names) v.initialiser)
    (told_object names defined true v.ty v.name v.initialiser (at + s)) (told_start v.ty (named_by (defines_variable v) ∷ names) v.initialiser ((at + s) + n))))

-- ---- items

told_item : (i : Item) (names : List Named) (defined : List (List ℕ)) (at : ℕ) → item_from i names defined at ≡ told at (item_marks i) (checked_item i names defined)
unfolding item_from
told_item (declares p) names defined at = told_prototype names defined false p at
told_item (declares_variable t name) names defined at = told_object names defined false t name None at
told_item (defines f) names defined at = told_function f names defined at
told_item (defines_variable v) names defined at = told_variable_definition v names defined at

abbrev items_marks : List Item → ℕ
items_marks [] = 0
items_marks (i ∷ rest) = item_marks i + items_marks rest

told_items : (items : List Item) (names : List Named) (defined : List (List ℕ)) (at : ℕ)
    → items_from items names defined at ≡ told at (items_marks items) (checked_items items names defined)
told_items [] names defined at = ap (λ n. Ok (tt, n)) (here at)
told_items (i ∷ rest) names defined at =
    told_next at (item_marks i) (items_marks rest) (checked_item i names defined) (checked_items rest (named_by i ∷ names) (defined_after i defined)) (item_from i names defined at)
    (items_from rest (named_by i ∷ names) (defined_after i defined)) (told_item i names defined at) (told_items rest (named_by i ∷ names) (defined_after i defined) (at + item_marks i))

-- what a walk from the front finds is the fault
module _ (n : ℕ) where
  none_found : (c : Checks) (u : Unit {0}) (new : ℕ) → told 0 n c ≡ Ok (u, new) → None ≡ fault_of c
  none_found (Ok v) u new e = refl
  none_found (Err f) u new e = absurd (cc)

  one_found : (c : Checks) (rule place : ℕ) → told 0 n c ≡ Err (stop.Broken rule place) → Some (record { rule = rule; place = place }) ≡ fault_of c
  one_found (Ok v) rule place e = absurd (cc)
  one_found (Err f) rule place e =
      let same : stop.Broken f.rule (0 + f.place) ≡ stop.Broken rule place = cc in
      ap (λ (x : Stop). found_by {A = Unit {0}} (Err x)) (sym same) ∙ ap (λ k. Some (record { rule = f.rule; place = k })) (let h : 0 + f.place ≡ f.place = omega arith in h)

pub no_fault : (items : List Item) (u : Unit {0}) (new : ℕ) → items_from items [] [] 0 ≡ Ok (u, new) → None ≡ fault_of (first_fault items)
no_fault items u new e = none_found (items_marks items) (first_fault items) u new (sym (told_items items [] [] 0) ∙ e)

pub a_fault : (items : List Item) (rule place : ℕ) → items_from items [] [] 0 ≡ Err (stop.Broken rule place)
    → Some (record { rule = rule; place = place }) ≡ fault_of (first_fault items)
a_fault items rule place e = one_found (items_marks items) (first_fault items) rule place (sym (told_items items [] [] 0) ∙ e)
