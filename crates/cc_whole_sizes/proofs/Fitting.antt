-- What keeps rule V11 has sizes that fit.
use Rattle.std.proofs.Common.{◌≡◌, ℕ, ◌+◌, ◌*◌, ◌^◌, nat_lt, true, not, ◌&&◌, List, [], ◌∷◌, ◌++◌, pos, negsuc, refl, ap, ◌∙◌, arith}
use Rattle.std.specs.List.{list_all}
use Rattle.std.proofs.lemmas.Bool.{and_parts, and_from}
use Rattle.std.proofs.lemmas.Bool.Decides.{nat_tests}
use Rattle.std.proofs.lemmas.List.Folds.{list_all-append}
use Rattle.cc_whole.specs.declared.types.CType.{CType}
use Rattle.cc_whole.specs.declared.types.CType.TheVariants as ty
use Rattle.cc_whole.specs.declared.types.CConstant.{CConstant}
use Rattle.cc_whole.specs.declared.types.CConstant.TheVariants as int
use Rattle.cc_whole.specs.declared.types.CVariableType.{CVariableType}
use Rattle.cc_whole.specs.declared.types.CVariableType.TheVariants as variable
use Rattle.cc_whole.specs.declared.types.CLocalType.{CLocalType}
use Rattle.cc_whole.specs.declared.types.CLocalType.TheVariants as «local»
use Rattle.cc_whole.specs.declared.statement.CLocal.{CLocal}
use Rattle.cc_whole.specs.declared.unit.CVariable.{CVariable}
use Rattle.cc_whole.specs.declared.unit.CProgram.{CProgram}
use Rattle.cc_whole.specs.Numbers.{size_of, is_size, fits_constant, label_of}
use Rattle.cc_whole.specs.Plain.{Function, Statement, assign, call, block, leave, next, choose, loop, select, give, Statements, done, followed, SwitchItems, closed, labelled, otherwise, stated, Body, body, Item, declares, declares_variable, defines, defines_variable, items_of, functions_of, variables_of}
use Rattle.cc_whole.specs.Types.{local_type}
use Rattle.cc_whole.specs.Landmarks.{marks, marks_before, local_marks, locals_marks, statement_marks, body_marks, prototype_marks, static_marks, variable_marks, item_marks}
use Rattle.cc_whole.specs.Fault.{fine, holds, moved, ◌before◌}
use Rattle.cc_whole.specs.Known.{object, Named, Known, is_in}
use Rattle.cc_whole.specs.Statements.{has_size, checked_locals, in_a_loop, in_a_switch, with_locals, Labels, no_labels, has_case, condition, checked, checked_statements, checked_switch, checked_body}
use Rattle.cc_whole.specs.Spellable.{spellable_items}
use Rattle.cc_whole.specs.Valid.{inside, may_be_shared, holds_start, checked_name, checked_prototype, checked_variable, checked_start, named_by, defined_after, checked_item, checked_items, first_fault}
use Rattle.cc_whole.specs.ValidUnit.{keeps, valid_items, valid_program}
use Rattle.cc_whole_mean.specs.Types.{count_of, local_size, variable_size}
use Rattle.cc_whole_linked_valid.proofs.Checks.{keeps_fine, holds_true, first_fine, second_fine, fine_moved}
use Rattle.cc_whole_sizes.specs.Sizes.{locals_of, locals_of_all, locals_of_switch, locals_of_body, fits_32_bits, local_fits, variable_fits, locals_fit, SizesFit}

-- ---- sizes

same_count : (c : CConstant) → count_of c ≡ size_of c
same_count (int.Signed (pos n)) = refl
same_count (int.Signed (negsuc n)) = refl
same_count (int.Unsigned n) = refl

is_small : (c : CConstant) → is_size c ≡ true → nat_lt (size_of c) (2 ^ 22 + 1) ≡ true
is_small c e = (and_parts (nat_lt 0 (size_of c)) (nat_lt (size_of c) (2 ^ 22 + 1)) e).1

-- arrays of elements of 4 and of 8 bytes
four_times : (n : ℕ) → nat_lt n (2 ^ 22 + 1) ≡ true → fits_32_bits (4 * n) ≡ true
four_times n e = grind (arith, nat_tests, e)

eight_times : (n : ℕ) → nat_lt n (2 ^ 22 + 1) ≡ true → fits_32_bits (8 * n) ≡ true
eight_times n e = grind (arith, nat_tests, e)

ints_fit : (c : CConstant) → is_size c ≡ true → fits_32_bits (4 * count_of c) ≡ true
ints_fit c e = ap (λ n. fits_32_bits (4 * n)) (same_count c) ∙ four_times (size_of c) (is_small c e)

pairs_fit : (c : CConstant) → is_size c ≡ true → fits_32_bits (8 * count_of c) ≡ true
pairs_fit c e = ap (λ n. fits_32_bits (8 * n)) (same_count c) ∙ eight_times (size_of c) (is_small c e)

chars_fit : (c : CConstant) → is_size c ≡ true → fits_32_bits (count_of c) ≡ true
chars_fit c e = ap fits_32_bits (same_count c) ∙ grind (arith, nat_tests, is_small c e)

scalar_fits : (t : CType) → fits_32_bits (variable_size (variable.Scalar t)) ≡ true
scalar_fits ty.Char = refl
scalar_fits ty.UChar = refl
scalar_fits ty.Short = refl
scalar_fits ty.UShort = refl
scalar_fits ty.Int = refl
scalar_fits ty.UInt = refl
scalar_fits ty.Pointer = refl
scalar_fits ty.FunctionPointer = refl

type_fits : (t : CVariableType) → has_size t ≡ true → fits_32_bits (variable_size t) ≡ true
type_fits (variable.Scalar t) e = scalar_fits t
type_fits (variable.Ints c) e = ints_fit c e
type_fits (variable.Chars c) e = chars_fit c e
type_fits (variable.Pairs c) e = pairs_fit c e

local_type_fits : (t : CLocalType) → has_size (local_type t) ≡ true → fits_32_bits (local_size t) ≡ true
local_type_fits («local».Scalar t) e = scalar_fits t
local_type_fits («local».Ints c) e = ints_fit c e

-- ---- bodies

both_fit : (xs ys : List CLocal) → list_all local_fits xs ≡ true → list_all local_fits ys ≡ true → list_all local_fits (xs ++ ys) ≡ true
both_fit xs ys e f = list_all-append local_fits xs ys ∙ and_from (list_all local_fits xs) (list_all local_fits ys) e f

locals_here : (xs : List CLocal) (seen : List (List ℕ)) → checked_locals xs seen ≡ fine → list_all local_fits xs ≡ true
locals_here [] seen e = refl
locals_here (x ∷ xs) seen e =
    let t = local_type x.ty in
    let rest = second_fine (holds (not (is_in seen x.name)) 2 (marks_before t)) _ tt e in
    let size = holds_true (has_size t) 11 (marks_before t + 1) (first_fine (holds (has_size t) 11 (marks_before t + 1)) _ tt rest) in
    let others = fine_moved (local_marks x) (checked_locals xs (x.name ∷ seen)) (second_fine (holds (has_size t) 11 (marks_before t + 1)) _ tt rest) in
    and_from (local_fits x) (list_all local_fits xs) (local_type_fits x.ty size) (locals_here xs (x.name ∷ seen) others)

mutual
  statement_fits : (s : Statement) (k : Known) → checked s k ≡ fine → list_all local_fits (locals_of s) ≡ true
  statement_fits (assign p e) k h = refl
  statement_fits (call p c es) k h = refl
  statement_fits (block b) k h = body_fits b k h
  statement_fits leave k h = refl
  statement_fits next k h = refl
  statement_fits (choose e b other) k h =
      let rest = second_fine (moved 1 (condition e k.names)) (moved (1 + marks e) (checked_body b k) before moved (1 + (marks e + body_marks b)) (checked_body other k)) tt h in
      both_fit (locals_of_body b) (locals_of_body other)
      (body_fits b k (fine_moved (1 + marks e) (checked_body b k) (first_fine (moved (1 + marks e) (checked_body b k)) (moved (1 + (marks e + body_marks b)) (checked_body other k)) tt rest)))
      (body_fits other k (fine_moved (1 + (marks e + body_marks b)) (checked_body other k) (second_fine (moved (1 + marks e) (checked_body b k)) (moved (1 + (marks e + body_marks b)) (checked_body other k)) tt rest)))
  statement_fits (loop b) k h = body_fits b (in_a_loop k) (fine_moved 1 (checked_body b (in_a_loop k)) h)
  statement_fits (select e items) k h =
      switch_fits items no_labels (in_a_switch k)
      (fine_moved (1 + marks e) (checked_switch items no_labels (in_a_switch k)) (second_fine (moved 1 (condition e k.names)) (moved (1 + marks e) (checked_switch items no_labels (in_a_switch k))) tt h))
  statement_fits (give e) k h = refl

  statements_fit : (all : Statements) (k : Known) → checked_statements all k ≡ fine → list_all local_fits (locals_of_all all) ≡ true
  statements_fit done k h = refl
  statements_fit (followed s rest) k h =
      both_fit (locals_of s) (locals_of_all rest) (statement_fits s k (first_fine (checked s k) (moved (statement_marks s) (checked_statements rest k)) tt h))
      (statements_fit rest k (fine_moved (statement_marks s) (checked_statements rest k) (second_fine (checked s k) (moved (statement_marks s) (checked_statements rest k)) tt h)))

  switch_fits : (items : SwitchItems) (ls : Labels) (k : Known) → checked_switch items ls k ≡ fine → list_all local_fits (locals_of_switch items) ≡ true
  switch_fits closed ls k h = refl
  switch_fits (labelled c rest) ls k h =
      let more = record ls { cases = label_of c ∷ ls.cases } in
      let behind = second_fine (holds (not (has_case ls.cases (label_of c))) 8 0) (holds (fits_constant c) 11 1 before moved 2 (checked_switch rest more k)) tt h in
      switch_fits rest more k (fine_moved 2 (checked_switch rest more k) (second_fine (holds (fits_constant c) 11 1) (moved 2 (checked_switch rest more k)) tt behind))
  switch_fits (otherwise rest) ls k h =
      let more = record ls { has_default = true } in
      switch_fits rest more k (fine_moved 1 (checked_switch rest more k) (second_fine (holds (not ls.has_default) 8 0) (moved 1 (checked_switch rest more k)) tt h))
  switch_fits (stated s rest) ls k h =
      both_fit (locals_of s) (locals_of_switch rest) (statement_fits s k (first_fine (checked s k) (moved (statement_marks s) (checked_switch rest ls k)) tt h))
      (switch_fits rest ls k (fine_moved (statement_marks s) (checked_switch rest ls k) (second_fine (checked s k) (moved (statement_marks s) (checked_switch rest ls k)) tt h)))

  body_fits : (b : Body) (k : Known) → checked_body b k ≡ fine → list_all local_fits (locals_of_body b) ≡ true
  body_fits (body locals all) k h =
      both_fit locals (locals_of_all all) (locals_here locals [] (first_fine (checked_locals locals []) (moved (locals_marks locals) (checked_statements all (with_locals locals k))) tt h))
      (statements_fit all (with_locals locals k)
      (fine_moved (locals_marks locals) (checked_statements all (with_locals locals k)) (second_fine (checked_locals locals []) (moved (locals_marks locals) (checked_statements all (with_locals locals k))) tt h)))

-- ---- items

function_fits : (f : Function) (names : List Named) (defined : List (List ℕ)) → checked_item (defines f) names defined ≡ fine → locals_fit f ≡ true
function_fits f names defined h =
    let inner = checked_body f.body (inside f.prototype (named_by (defines f) ∷ names)) in
    let head = checked_prototype names defined true f.prototype in
    body_fits f.body (inside f.prototype (named_by (defines f) ∷ names))
    (fine_moved (prototype_marks f.prototype) inner
    (second_fine head (moved (prototype_marks f.prototype) inner) tt (second_fine (may_be_shared f.is_shared f.prototype.is_static) (head before moved (prototype_marks f.prototype) inner) tt h)))

variable_size_fits : (v : CVariable) (names : List Named) (defined : List (List ℕ)) → checked_item (defines_variable v) names defined ≡ fine → variable_fits v ≡ true
variable_size_fits v names defined h =
    let head = checked_variable names defined true v.ty v.name v.initialiser in
    let rest = head before moved (variable_marks v.ty) (checked_start v.ty (named_by (defines_variable v) ∷ names) v.initialiser) in
    let own = first_fine head (moved (variable_marks v.ty) (checked_start v.ty (named_by (defines_variable v) ∷ names) v.initialiser)) tt
    (fine_moved (static_marks v.is_static) rest (second_fine (may_be_shared v.is_shared v.is_static) (moved (static_marks v.is_static) rest) tt h)) in
    let sized = second_fine (checked_name names defined true v.name (object v.ty) (marks_before v.ty)) (holds (has_size v.ty && holds_start v.ty v.initialiser) 11 (marks_before v.ty + 1)) tt own in
    type_fits v.ty (and_parts (has_size v.ty) (holds_start v.ty v.initialiser) (holds_true (has_size v.ty && holds_start v.ty v.initialiser) 11 (marks_before v.ty + 1) sized)).0

items_fit : (items : List Item) (names : List Named) (defined : List (List ℕ)) → checked_items items names defined ≡ fine → SizesFit items
items_fit [] names defined h = record { locals = refl; variables = refl }
items_fit (i ∷ items) names defined h =
    let later = checked_items items (named_by i ∷ names) (defined_after i defined) in
    with_item i (first_fine (checked_item i names defined) (moved (item_marks i) later) tt h)
    (items_fit items (named_by i ∷ names) (defined_after i defined) (fine_moved (item_marks i) later (second_fine (checked_item i names defined) (moved (item_marks i) later) tt h)))
  where
    with_item : (i : Item) → checked_item i names defined ≡ fine → SizesFit items → SizesFit (i ∷ items)
    with_item (declares p) own fit = record { locals = fit.locals; variables = fit.variables }
    with_item (declares_variable t name) own fit = record { locals = fit.locals; variables = fit.variables }
    with_item (defines f) own fit =
        record { locals = and_from (locals_fit f) (list_all locals_fit (functions_of items)) (function_fits f names defined own) fit.locals; variables = fit.variables }
    with_item (defines_variable v) own fit =
        record { locals = fit.locals; variables = and_from (variable_fits v) (list_all variable_fits (variables_of items)) (variable_size_fits v names defined own) fit.variables }

pub valid_fit : (items : List Item) → valid_items items ≡ true → SizesFit items
valid_fit items e = items_fit items [] [] (keeps_fine (first_fault items) (and_parts (spellable_items items) (keeps (first_fault items)) e).1)

pub program_items : (program : CProgram) → valid_program program ≡ true → valid_items (items_of program.items) ≡ true
program_items program e = (and_parts (valid_items (items_of program.items)) _ e).0
