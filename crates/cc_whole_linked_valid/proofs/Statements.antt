-- Statements with other names keep the rules that they kept.
use Rattle.std.proofs.Common.{◌≡◌, ℕ, suc, ◌+◌, Bool, true, false, not, ◌||◌, ◌==◌, List, [], ◌∷◌, ◌++◌, Option, Some, None, is_none, is_some, Ok, length, refl, ap, sym, subst, ◌∙◌}
use Rattle.std.proofs.lemmas.Bool.{and_parts, and_from}
use Rattle.std.proofs.lemmas.List.Folds.{list_all-append}
use Rattle.cc_whole.specs.declared.types.CType.{CType}
use Rattle.cc_whole.specs.declared.types.CSignature.{CSignature}
use Rattle.cc_whole.specs.Plain.{Place, Expression, Callee, by_name, by_pointer, Statement, assign, call, block, leave, next, choose, loop, select, give, Statements, done, followed, SwitchItems, closed, labelled, otherwise, stated, Body, body}
use Rattle.cc_whole.specs.Numbers.{fits_constant, label_of}
use Rattle.cc_whole.specs.Types.{same_type, is_integer, is_function_pointer, signature_of}
use Rattle.cc_whole.specs.Landmarks.{marks, place_marks, target_marks, signature_marks, callee_marks, locals_marks, statement_marks, body_marks}
use Rattle.cc_whole.specs.Fault.{fine, holds}
use Rattle.cc_whole.specs.Known.{Meant, object, Named, Known, locals_named, is_in}
use Rattle.cc_whole.specs.Typed.{is_zero, fits_type}
use Rattle.cc_whole.specs.Statements.{assigned, stored_in, called_name, called_type, fits_stored, helper_may_call, calls_main, called_pointer, arguments, calls, called, condition, fits_given, given, checked_locals, in_a_loop, in_a_switch, with_locals, Labels, no_labels, has_case, checked, checked_statements, checked_switch, checked_body}
use Rattle.cc_whole.specs.Uses.{local_names}
use Rattle.cc_whole_link.specs.Rename.{Renaming, hiding}
use Rattle.cc_whole_link.specs.Placed.{locals_of, locals_of_all, locals_of_switch, locals_of_body}
use Rattle.cc_whole_closed.proofs.Plains.{place_with, expression_with, expressions_with, target_with, callee_with, given_with, statement_with, statements_with, switch_with, body_with}
use Rattle.cc_whole_linked_valid.proofs.Checks.{Good, same, never, good_moved, good_before, good_then, good_holds}
use Rattle.cc_whole_linked_valid.proofs.Same.{functions, objects, Meets, nothing, both}
use Rattle.cc_whole_linked_valid.proofs.Names.{Names, Mild, Fits, Clear, under_locals}
use Rattle.cc_whole_linked_valid.proofs.Typed.{zero_kept, typed_kept, stored_kept}

called_kept_name : {m n : Option Meant} → Meets m n → Good (called_name m) (called_name n)
called_kept_name (nothing o) = never 1 0 (called_name o)
called_kept_name (both _ _ (functions p q e)) = subst (λ z. Good (Ok (signature_of p)) (Ok z)) e (same (Ok (signature_of p)))
called_kept_name (both _ _ (objects s t v k)) = never 3 0 (called_name (Some (object t)))

same_length : (es : List Expression) (r : Renaming) → length (expressions_with es r) ≡ length es
same_length [] r = refl
same_length (e ∷ es) r = ap suc (same_length es r)

-- a helper calls what it may call
helper_kept : (x y : List ℕ) → Mild x y → helper_may_call (by_name x) ≡ true → helper_may_call (by_name y) ≡ true
helper_kept x y m e =
    let parts = and_parts _ _ e in
    and_from _ _ (ap not m.helper ∙ parts.0) (m.atexit parts.1)

or_kept : (b c d : Bool) → (c ≡ true → d ≡ true) → (b || c) ≡ true → (b || d) ≡ true
or_kept true c d h e = refl
or_kept false c d h e = h e

pub clear_parts : (longer xs ys : Names) → Clear longer (xs ++ ys) → Clear longer xs × Clear longer ys
clear_parts longer xs ys c = and_parts _ _ (sym (list_all-append (λ n. not (is_in longer n)) xs ys) ∙ c)

-- what is known at a statement, with other names in scope
abbrev pub among : Known → List Named → Known
among k names = record k { names = names }

module _ (longer : Names) where
  -- ---- expressions in statements

  module _ (old new : List Named) (r : Renaming) (f : Fits longer old new r) where
    assigned_kept : (wanted : CType) (e : Expression) → Good (assigned wanted e old) (assigned wanted (expression_with e r) new)
    assigned_kept wanted e =
        good_then (typed_kept longer old new r f e) (λ t. subst (λ z. Good (holds (fits_type wanted t (is_zero e)) 4 0) (holds (fits_type wanted t z) 4 0)) (sym (zero_kept e r))
        (same (holds (fits_type wanted t (is_zero e)) 4 0)))

    condition_kept : (e : Expression) → Good (condition e old) (condition (expression_with e r) new)
    condition_kept e = good_then (typed_kept longer old new r f e) (λ t. same (holds (is_integer t) 3 0))

    arguments_kept : (ts : List CType) (es : List Expression) → Good (arguments ts es old) (arguments ts (expressions_with es r) new)
    arguments_kept [] es = same fine
    arguments_kept (t ∷ ts) [] = same fine
    arguments_kept (t ∷ ts) (e ∷ es) =
        good_then (typed_kept longer old new r f e) (λ s. good_before (same (holds (same_type s t) 5 0)) (good_moved (marks e) (marks (expression_with e r)) (arguments_kept ts es)))

    result_kept : (p : Option Place) → Good (stored_in p old) (stored_in (target_with p r) new)
    result_kept None = same (Ok None)
    result_kept (Some p) = good_then (stored_kept longer old new r f p) (λ t. same (Ok (Some t)))

    type_kept : (c : Callee) → Good (called_type c old) (called_type (callee_with c r) new)
    type_kept (by_name name) = called_kept_name (f.meets name)
    type_kept (by_pointer s e) = same (Ok s)

    pointer_kept : (c : Callee) → Good (called_pointer c old) (called_pointer (callee_with c r) new)
    pointer_kept (by_name name) = same fine
    pointer_kept (by_pointer s e) =
        good_moved (signature_marks s) (signature_marks s) (good_then (typed_kept longer old new r f e) (λ t. same (holds (is_function_pointer t) 3 0)))

    callee_kept : (c : Callee) → helper_may_call c ≡ true → helper_may_call (callee_with c r) ≡ true
    callee_kept (by_name name) e = helper_kept name (r name) (f.mild name) e
    callee_kept (by_pointer s x) e = e

    main_kept : (c : Callee) → not (calls_main c) ≡ true → not (calls_main (callee_with c r)) ≡ true
    main_kept (by_name name) e = (f.mild name).main e
    main_kept (by_pointer s x) e = e

  module _ (k : Known) (new : List Named) (r : Renaming) (f : Fits longer k.names new r) where
    calls_kept : (stored : Option CType) (s : CSignature) (c : Callee) (es : List Expression) → Good (calls stored s c es k) (calls stored s (callee_with c r) (expressions_with es r) (among k new))
    calls_kept stored s c es =
        good_before (same (holds (fits_stored stored s.result) 4 0))
        (good_before (good_holds 5 0 0 (λ e. ap (λ n. length s.parameters == n) (same_length es r) ∙ e))
        (good_before (good_holds 9 0 0 (or_kept (not k.in_helper) (helper_may_call c) (helper_may_call (callee_with c r)) (callee_kept k.names new r f c)))
        (good_before (good_holds 10 0 0 (main_kept k.names new r f c))
        (good_before (pointer_kept k.names new r f c) (good_moved (callee_marks c) (callee_marks (callee_with c r)) (arguments_kept k.names new r f s.parameters es))))))

    called_kept : (p : Option Place) (c : Callee) (es : List Expression) → Good (called p c es k) (called (target_with p r) (callee_with c r) (expressions_with es r) (among k new))
    called_kept p c es =
        good_then (result_kept k.names new r f p) (λ stored. good_moved (target_marks p) (target_marks (target_with p r))
        (good_then (type_kept k.names new r f c) (λ s. calls_kept stored s c es)))

    given_kept : (e : Option Expression) → Good (given e k) (given (given_with e r) (among k new))
    given_kept None = same (holds (is_none k.result) 6 0)
    given_kept (Some e) =
        good_before (same (holds (is_some k.result) 6 0)) (good_then (good_moved 1 1 (typed_kept longer k.names new r f e))
        (λ t. subst (λ z. Good (holds (fits_given k.result t (is_zero e)) 6 0) (holds (fits_given k.result t z) 6 0)) (sym (zero_kept e r))
        (same (holds (fits_given k.result t (is_zero e)) 6 0))))

  -- ---- statements

  mutual
    statement_kept : (s : Statement) (k : Known) (new : List Named) (r : Renaming) → Fits longer k.names new r → Clear longer (locals_of s)
        → Good (checked s k) (checked (statement_with s r) (among k new))
    statement_kept (assign p e) k new r f c =
        good_then (stored_kept longer k.names new r f p) (λ t. good_moved (place_marks p) (place_marks (place_with p r)) (assigned_kept k.names new r f t e))
    statement_kept (call p d es) k new r f c = called_kept k new r f p d es
    statement_kept (block b) k new r f c = body_kept b k new r f c
    statement_kept leave k new r f c = same (holds k.may_break 7 0)
    statement_kept next k new r f c = same (holds k.in_loop 7 0)
    statement_kept (choose e b other) k new r f c =
        let parts = clear_parts longer (locals_of_body b) (locals_of_body other) c in
        good_before (good_moved 1 1 (condition_kept k.names new r f e))
        (good_before (good_moved (1 + marks e) (1 + marks (expression_with e r)) (body_kept b k new r f parts.0))
        (good_moved (1 + (marks e + body_marks b)) (1 + (marks (expression_with e r) + body_marks (body_with b r))) (body_kept other k new r f parts.1)))
    statement_kept (loop b) k new r f c = good_moved 1 1 (body_kept b (in_a_loop k) new r f c)
    statement_kept (select e items) k new r f c =
        good_before (good_moved 1 1 (condition_kept k.names new r f e))
        (good_moved (1 + marks e) (1 + marks (expression_with e r)) (switch_kept items no_labels (in_a_switch k) new r f c))
    statement_kept (give e) k new r f c = given_kept k new r f e

    statements_kept : (all : Statements) (k : Known) (new : List Named) (r : Renaming) → Fits longer k.names new r → Clear longer (locals_of_all all)
        → Good (checked_statements all k) (checked_statements (statements_with all r) (among k new))
    statements_kept done k new r f c = same fine
    statements_kept (followed s rest) k new r f c =
        let parts = clear_parts longer (locals_of s) (locals_of_all rest) c in
        good_before (statement_kept s k new r f parts.0) (good_moved (statement_marks s) (statement_marks (statement_with s r)) (statements_kept rest k new r f parts.1))

    switch_kept : (items : SwitchItems) (ls : Labels) (k : Known) (new : List Named) (r : Renaming) → Fits longer k.names new r → Clear longer (locals_of_switch items)
        → Good (checked_switch items ls k) (checked_switch (switch_with items r) ls (among k new))
    switch_kept closed ls k new r f c = same fine
    switch_kept (labelled n rest) ls k new r f c =
        good_before (same (holds (not (has_case ls.cases (label_of n))) 8 0)) (good_before (same (holds (fits_constant n) 11 1))
        (good_moved 2 2 (switch_kept rest (record ls { cases = label_of n ∷ ls.cases }) k new r f c)))
    switch_kept (otherwise rest) ls k new r f c =
        good_before (same (holds (not ls.has_default) 8 0)) (good_moved 1 1 (switch_kept rest (record ls { has_default = true }) k new r f c))
    switch_kept (stated s rest) ls k new r f c =
        let parts = clear_parts longer (locals_of s) (locals_of_switch rest) c in
        good_before (statement_kept s k new r f parts.0) (good_moved (statement_marks s) (statement_marks (statement_with s r)) (switch_kept rest ls k new r f parts.1))

    pub body_kept : (b : Body) (k : Known) (new : List Named) (r : Renaming) → Fits longer k.names new r → Clear longer (locals_of_body b)
        → Good (checked_body b k) (checked_body (body_with b r) (among k new))
    body_kept (body locals all) k new r f c =
        let parts = clear_parts longer (local_names locals) (locals_of_all all) c in
        good_before (same (checked_locals locals [])) (good_moved (locals_marks locals) (locals_marks locals)
        (statements_kept all (with_locals locals k) (locals_named locals ++ new) (hiding (local_names locals) r) (under_locals longer k.names new r f locals parts.0) parts.1))
