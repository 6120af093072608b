-- In a valid unit names are names and constants fit.
use Rattle.std.proofs.Common.{◌≡◌, ℕ, ◌+◌, Bool, true, false, ◌&&◌, List, [], ◌∷◌, ◌++◌, Option, Some, None, Ok, Err, refl, ap, sym, ◌∙◌}
use Rattle.std.specs.Prelude.{is_some, not}
use Rattle.std.specs.List.{list_all}
use Rattle.std.proofs.lemmas.Bool.{and_parts, and_from}
use Rattle.cc_whole_tokens.specs.Token.{is_name}
use Rattle.cc_whole.specs.declared.types.CVariableType.{CVariableType}
use Rattle.cc_whole.specs.declared.unit.CParameter.{CParameter}
use Rattle.cc_whole.specs.declared.unit.CPair.{CPair}
use Rattle.cc_whole.specs.declared.unit.CInitialiser.{CInitialiser}
use Rattle.cc_whole.specs.declared.unit.CInitialiser.TheVariants as initialiser
use Rattle.cc_whole.specs.declared.unit.CVariable.{CVariable}
use Rattle.cc_whole.specs.declared.unit.CUnit.{CUnit}
use Rattle.cc_whole.specs.Numbers.{fits_constant}
use Rattle.cc_whole.specs.Landmarks.{marks_before, variable_marks, static_marks, prototype_marks, item_marks}
use Rattle.cc_whole.specs.Fault.{Checks, holds, moved, ◌before◌}
use Rattle.cc_whole.specs.Known.{Meant, function, object, Named, lookup, parameters_named}
use Rattle.cc_whole.specs.Statements.{has_size, checked_body}
use Rattle.cc_whole.specs.Spellable.{spellable_prototype, spellable_body, spellable_start, spellable_item, spellable_items, spellable_version}
use Rattle.cc_whole.specs.Valid.{checked_name, checked_function, paired, checked_pairs, may_start, holds_start, checked_start, may_be_shared, checked_prototype, inside, checked_variable, named_by, defined_after, checked_function_definition, checked_variable_definition, checked_item, checked_items, first_fault}
use Rattle.cc_whole.specs.ValidUnit.{keeps, valid_items, valid_unit}
use Rattle.cc_whole.specs.Plain.{Function, Item, declares, declares_variable, defines, defines_variable, items_of}
use Rattle.cc_whole_printed.specs.Written.{written_type, written_body, written_function, written_pair, written_pairs, written_item, written_unit}
use Rattle.cc_whole_printed.proofs.Checks.{holds_is, moved_is, before_first, before_next, good_names, lookup_good, good_append, good_parameters}
use Rattle.cc_whole_printed.proofs.ValidStatements.{type_good, body_good}

-- ---- initialisers

function_found : (name : List ℕ) (m : Option Meant) → checked_function name m ≡ Ok tt → is_some m ≡ true
function_found name None h = cc
function_found name (Some m) h = refl

paired_good : (f : Option (List ℕ)) (names : List Named) → good_names names ≡ true → paired names f ≡ Ok tt → written_function f ≡ true
paired_good None names good h = refl
paired_good (Some name) names good h = lookup_good names name good (function_found name (lookup names name) h)

pairs_good : (ps : List CPair) (names : List Named) → good_names names ≡ true → checked_pairs ps names ≡ Ok tt → list_all written_pair ps ≡ true
pairs_good [] names good h = refl
pairs_good (p ∷ ps) names good h =
    let fit = holds_is (fits_constant p.number) 11 0 tt (before_first (holds (fits_constant p.number) 11 0) _ tt h) in
    let rest = before_next (holds (fits_constant p.number) 11 0) _ tt h in
    let others = moved_is 2 (checked_pairs ps names) tt (before_next (paired names p.function) _ tt rest) in
    and_from (written_pair p) (list_all written_pair ps)
    (and_from (fits_constant p.number) (written_function p.function) fit (paired_good p.function names good (before_first (paired names p.function) _ tt rest)))
    (pairs_good ps names good others)

start_good : (t : CVariableType) (names : List Named) (start : Option CInitialiser) → good_names names ≡ true → checked_start t names start ≡ Ok tt
    → written_pairs start ≡ true
start_good t names None good h = refl
start_good t names (Some (initialiser.Text bytes)) good h = refl
start_good t names (Some (initialiser.Pairs ps)) good h = pairs_good ps names good (before_next (holds (may_start t (initialiser.Pairs ps)) 3 0) _ tt h)

variable_good : (names : List Named) (defined : List (List ℕ)) (is_definition : Bool) (t : CVariableType) (name : List ℕ) (start : Option CInitialiser)
    → checked_variable names defined is_definition t name start ≡ Ok tt → written_type t ≡ true
variable_good names defined is_definition t name start h =
    let sized = before_next (checked_name names defined is_definition name (object t) (marks_before t)) _ tt h in
    type_good t (and_parts (has_size t) (holds_start t start) (holds_is (has_size t && holds_start t start) 11 (marks_before t + 1) tt sized)).0

-- ---- items

-- what an item declares is a name
named_good : (i : Item) → spellable_item i ≡ true → is_name (named_by i).name ≡ true
named_good (declares p) spell = (and_parts (is_name p.name) (list_all (λ (x : CParameter). is_name x.name) p.parameters) spell).0
named_good (declares_variable t name) spell = spell
named_good (defines f) spell =
    let head = (and_parts (spellable_prototype f.prototype) (spellable_body f.body) spell).0 in
    (and_parts (is_name f.prototype.name) (list_all (λ (x : CParameter). is_name x.name) f.prototype.parameters) head).0
named_good (defines_variable v) spell = (and_parts (is_name v.name) (spellable_start v.initialiser) spell).0

more_good : (i : Item) (names : List Named) → spellable_item i ≡ true → good_names names ≡ true → good_names (named_by i ∷ names) ≡ true
more_good i names spell good = and_from (is_name (named_by i).name) (good_names names) (named_good i spell) good

function_good : (f : Function) (names : List Named) (defined : List (List ℕ)) → spellable_item (defines f) ≡ true → good_names names ≡ true
    → checked_function_definition f names defined ≡ Ok tt → written_item (defines f) ≡ true
function_good f names defined spell good h =
    let spells = and_parts (spellable_prototype f.prototype) (spellable_body f.body) spell in
    let head = and_parts (is_name f.prototype.name) (list_all (λ (x : CParameter). is_name x.name) f.prototype.parameters) spells.0 in
    let known = inside f.prototype (named_by (defines f) ∷ names) in
    let rest = before_next (may_be_shared f.is_shared f.prototype.is_static) _ tt h in
    let inner = moved_is (prototype_marks f.prototype) (checked_body f.body known) tt (before_next (checked_prototype names defined true f.prototype) _ tt rest) in
    and_from (spellable_prototype f.prototype) (written_body f.body) spells.0
    (body_good f.body known spells.1
    (good_append (parameters_named f.prototype.parameters) (named_by (defines f) ∷ names) (good_parameters f.prototype.parameters head.1) (more_good (defines f) names spell good)) inner)

defined_variable_good : (v : CVariable) (names : List Named) (defined : List (List ℕ)) → spellable_item (defines_variable v) ≡ true → good_names names ≡ true
    → checked_variable_definition v names defined ≡ Ok tt → written_item (defines_variable v) ≡ true
defined_variable_good v names defined spell good h =
    let spells = and_parts (is_name v.name) (spellable_start v.initialiser) spell in
    let rest = moved_is (static_marks v.is_static) _ tt (before_next (may_be_shared v.is_shared v.is_static) _ tt h) in
    let typed = variable_good names defined true v.ty v.name v.initialiser (before_first (checked_variable names defined true v.ty v.name v.initialiser) _ tt rest) in
    let all_names = named_by (defines_variable v) ∷ names in
    let start = moved_is (variable_marks v.ty) (checked_start v.ty all_names v.initialiser) tt
    (before_next (checked_variable names defined true v.ty v.name v.initialiser) _ tt rest) in
    and_from (is_name v.name) (written_type v.ty && (spellable_start v.initialiser && written_pairs v.initialiser)) spells.0
    (and_from (written_type v.ty) (spellable_start v.initialiser && written_pairs v.initialiser) typed
    (and_from (spellable_start v.initialiser) (written_pairs v.initialiser) spells.1
    (start_good v.ty all_names v.initialiser (more_good (defines_variable v) names spell good) start)))

item_good : (i : Item) (names : List Named) (defined : List (List ℕ)) → spellable_item i ≡ true → good_names names ≡ true → checked_item i names defined ≡ Ok tt
    → written_item i ≡ true
item_good (declares p) names defined spell good h = spell
item_good (declares_variable t name) names defined spell good h = and_from (is_name name) (written_type t) spell (variable_good names defined false t name None h)
item_good (defines f) names defined spell good h = function_good f names defined spell good h
item_good (defines_variable v) names defined spell good h = defined_variable_good v names defined spell good h

items_good : (all : List Item) (names : List Named) (defined : List (List ℕ)) → spellable_items all ≡ true → good_names names ≡ true
    → checked_items all names defined ≡ Ok tt → list_all written_item all ≡ true
items_good [] names defined spell good h = refl
items_good (i ∷ all) names defined spell good h =
    let spells = and_parts (spellable_item i) (spellable_items all) spell in
    let others = moved_is (item_marks i) (checked_items all (named_by i ∷ names) (defined_after i defined)) tt (before_next (checked_item i names defined) _ tt h) in
    and_from (written_item i) (list_all written_item all) (item_good i names defined spells.0 good (before_first (checked_item i names defined) _ tt h))
    (items_good all (named_by i ∷ names) (defined_after i defined) spells.1 (more_good i names spells.0 good) others)

-- ---- the unit

kept : (c : Checks) → keeps c ≡ true → c ≡ Ok tt
kept (Ok u) h = refl
kept (Err f) h = cc

pub valid_is_written : (unit : CUnit) → valid_unit unit ≡ true → written_unit unit ≡ true
valid_is_written unit valid =
    let parts = and_parts (spellable_version unit.version) (valid_items (items_of unit.items)) valid in
    let rules = and_parts (spellable_items (items_of unit.items)) (keeps (first_fault (items_of unit.items))) parts.1 in
    and_from (spellable_version unit.version) (list_all written_item (items_of unit.items)) parts.0
    (items_good (items_of unit.items) [] [] rules.0 refl (kept (first_fault (items_of unit.items)) rules.1))
