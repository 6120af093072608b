-- A fault of an item stands at a landmark of its text.
use Rattle.std.proofs.Common.{◌≡◌, ℕ, ◌+◌, ◌<◌, Bool, true, false, not, ◌&&◌, List, [], ◌∷◌, Option, Some, None, refl, arith}
use Rattle.std.proofs.lemmas.Bool.{and_parts}
use Rattle.cc_whole.specs.declared.types.CVariableType.{CVariableType}
use Rattle.cc_whole.specs.declared.types.CVariableType.TheVariants as variable
use Rattle.cc_whole.specs.declared.unit.CParameter.{CParameter}
use Rattle.cc_whole.specs.declared.unit.CPrototype.{CPrototype}
use Rattle.cc_whole.specs.declared.unit.CPair.{CPair}
use Rattle.cc_whole.specs.declared.unit.CInitialiser.{CInitialiser}
use Rattle.cc_whole.specs.declared.unit.CInitialiser.TheVariants as initialiser
use Rattle.cc_whole.specs.Plain.{Item, declares, declares_variable, defines, defines_variable}
use Rattle.cc_whole.specs.Numbers.{fits_constant}
use Rattle.cc_whole.specs.Landmarks.{type_marks, marks_before, variable_marks, body_marks, static_marks, all_parameters_marks, parameters_marks, marks_before_name, prototype_marks, pairs_marks, initialiser_marks, item_marks}
use Rattle.cc_whole.specs.Fault.{holds, moved, ◌before◌}
use Rattle.cc_whole.specs.Known.{Meant, function, object, Named, lookup, is_in, is_main, is_library}
use Rattle.cc_whole.specs.Statements.{has_size, checked_body}
use Rattle.cc_whole.specs.Valid.{agrees, own_type, has_type, checked_name, checked_parameters, checked_prototype, inside, may_be_shared, checked_function, paired, checked_pairs, may_start, holds_start, checked_start, checked_variable, named_by, checked_item}
use Rattle.cc_whole.specs.Spellable.{spellable_start, spellable_item}
use Rattle.cc_whole_tokens.specs.Token.{is_name}
use Rattle.cc_whole_wide.proofs.FaultPlaces.{Inside, holds_inside, before_inside, moved_inside, wider_inside, test_inside, next_inside, body_inside}

-- ---- items

pub declared_inside : (names : List Named) (defined : List (List ℕ)) (d : Bool) (name : List ℕ) (m : Meant) (place n : ℕ) → place < n → Inside n (checked_name names defined d name m place)
declared_inside names defined d name m place n h =
    test_inside (agrees (lookup names name) m && not (d && is_in defined name)) 2 place n _ h (holds_inside (has_type (own_type name) m && not (d && is_library name)) 10 place n h)

pub some_parameters_inside : (ps : List CParameter) (before_it : List (List ℕ)) → Inside (all_parameters_marks ps) (checked_parameters ps before_it)
some_parameters_inside [] before_it = tt
some_parameters_inside (p ∷ ps) before_it =
    let n = type_marks p.ty + (1 + all_parameters_marks ps) in
    test_inside (not (is_in before_it p.name)) 2 (type_marks p.ty) n _ (omega arith)
    (moved_inside (type_marks p.ty + 1) (all_parameters_marks ps) n (checked_parameters ps (p.name ∷ before_it)) (omega arith) (some_parameters_inside ps (p.name ∷ before_it)))

pub parameters_inside : (ps : List CParameter) → Inside (parameters_marks ps) (checked_parameters ps [])
parameters_inside [] = tt
parameters_inside (p ∷ ps) = some_parameters_inside (p ∷ ps) []

pub prototype_inside : (names : List Named) (defined : List (List ℕ)) (d : Bool) (p : CPrototype) → Inside (prototype_marks p) (checked_prototype names defined d p)
prototype_inside names defined d p =
    let m = marks_before_name p in
    let n = m + (1 + parameters_marks p.parameters) in
    before_inside n (checked_name names defined d p.name (function p) m) _ (declared_inside names defined d p.name (function p) m n (omega arith))
    (moved_inside (m + 1) (parameters_marks p.parameters) n (checked_parameters p.parameters []) (omega arith) (parameters_inside p.parameters))

-- the front of an item has a landmark
pub shared_inside : (s t : Bool) (n : ℕ) → 0 < n → Inside n (may_be_shared s t)
shared_inside s t n h = holds_inside (not (s && t)) 12 0 n h

pub function_inside : (name : List ℕ) (m : Option Meant) → Inside 2 (checked_function name m)
function_inside name None = omega arith
function_inside name (Some (function p)) = holds_inside (not (is_main name)) 10 1 2 (omega arith)
function_inside name (Some (object t)) = omega arith

pub paired_inside : (names : List Named) (f : Option (List ℕ)) → Inside 2 (paired names f)
paired_inside names None = tt
paired_inside names (Some name) = function_inside name (lookup names name)

pub pairs_inside : (ps : List CPair) (names : List Named) → Inside (pairs_marks ps) (checked_pairs ps names)
pairs_inside [] names = tt
pairs_inside (p ∷ ps) names =
    let n = 2 + pairs_marks ps in
    test_inside (fits_constant p.number) 11 0 n _ (omega arith)
    (before_inside n (paired names p.function) _ (wider_inside 2 n (paired names p.function) (omega arith) (paired_inside names p.function))
    (moved_inside 2 (pairs_marks ps) n (checked_pairs ps names) (omega arith) (pairs_inside ps names)))

-- there is a pair where there are pairs
abbrev pub has_pairs : Option CInitialiser → Bool
has_pairs None = true
has_pairs (Some (initialiser.Text bytes)) = true
has_pairs (Some (initialiser.Pairs [])) = false
has_pairs (Some (initialiser.Pairs (p ∷ ps))) = true

abbrev pub starts_well : Item → Bool
starts_well (declares p) = true
starts_well (declares_variable t name) = true
starts_well (defines f) = true
starts_well (defines_variable v) = has_pairs v.initialiser

pub start_inside : (t : CVariableType) (names : List Named) (start : Option CInitialiser) → has_pairs start ≡ true → Inside (initialiser_marks start) (checked_start t names start)
start_inside t names None h = tt
start_inside t names (Some (initialiser.Text bytes)) h = holds_inside (may_start t (initialiser.Text bytes)) 3 0 1 (omega arith)
start_inside t names (Some (initialiser.Pairs [])) h = absurd (cc)
start_inside t names (Some (initialiser.Pairs (p ∷ ps))) h =
    test_inside (may_start t (initialiser.Pairs (p ∷ ps))) 3 0 (2 + pairs_marks ps) _ (omega arith) (pairs_inside (p ∷ ps) names)

-- a number of elements that holds what the array starts with
pub sized_inside : (t : CVariableType) (start : Option CInitialiser) → Inside (variable_marks t) (holds (has_size t && holds_start t start) 11 (marks_before t + 1))
sized_inside (variable.Scalar t) None = tt
sized_inside (variable.Scalar t) (Some (initialiser.Text bytes)) = tt
sized_inside (variable.Scalar t) (Some (initialiser.Pairs ps)) = tt
sized_inside (variable.Ints c) start = holds_inside (has_size (variable.Ints c) && holds_start (variable.Ints c) start) 11 2 3 (omega arith)
sized_inside (variable.Chars c) start = holds_inside (has_size (variable.Chars c) && holds_start (variable.Chars c) start) 11 2 3 (omega arith)
sized_inside (variable.Pairs c) start = holds_inside (has_size (variable.Pairs c) && holds_start (variable.Pairs c) start) 11 3 4 (omega arith)

pub variable_inside : (names : List Named) (defined : List (List ℕ)) (d : Bool) (t : CVariableType) (name : List ℕ) (start : Option CInitialiser)
    → Inside (variable_marks t) (checked_variable names defined d t name start)
variable_inside names defined d t name start =
    before_inside (variable_marks t) (checked_name names defined d name (object t) (marks_before t)) _
    (declared_inside names defined d name (object t) (marks_before t) (variable_marks t) (omega arith)) (sized_inside t start)

pub item_inside : (i : Item) (names : List Named) (defined : List (List ℕ)) → starts_well i ≡ true → Inside (item_marks i) (checked_item i names defined)
item_inside (declares p) names defined h = prototype_inside names defined false p
item_inside (declares_variable t name) names defined h = variable_inside names defined false t name None
item_inside (defines f) names defined h =
    let n = prototype_marks f.prototype + body_marks f.body in
    let k = inside f.prototype (named_by (defines f) ∷ names) in
    before_inside n (may_be_shared f.is_shared f.prototype.is_static) _ (shared_inside f.is_shared f.prototype.is_static n (omega arith))
    (next_inside (prototype_marks f.prototype) (body_marks f.body) (checked_prototype names defined true f.prototype) (checked_body f.body k)
    (prototype_inside names defined true f.prototype) (body_inside f.body k))
item_inside (defines_variable v) names defined h =
    let s = static_marks v.is_static in
    let m = variable_marks v.ty + initialiser_marks v.initialiser in
    let n = s + m in
    let rest = checked_start v.ty (named_by (defines_variable v) ∷ names) v.initialiser in
    before_inside n (may_be_shared v.is_shared v.is_static) _ (shared_inside v.is_shared v.is_static n (omega arith))
    (moved_inside s m n (checked_variable names defined true v.ty v.name v.initialiser before moved (variable_marks v.ty) rest) (omega arith)
    (next_inside (variable_marks v.ty) (initialiser_marks v.initialiser) (checked_variable names defined true v.ty v.name v.initialiser) rest
    (variable_inside names defined true v.ty v.name v.initialiser) (start_inside v.ty (named_by (defines_variable v) ∷ names) v.initialiser h)))

spelled_pairs : (start : Option CInitialiser) → spellable_start start ≡ true → has_pairs start ≡ true
spelled_pairs None h = refl
spelled_pairs (Some (initialiser.Text bytes)) h = refl
spelled_pairs (Some (initialiser.Pairs [])) h = h
spelled_pairs (Some (initialiser.Pairs (p ∷ ps))) h = refl

pub spelled_well : (i : Item) → spellable_item i ≡ true → starts_well i ≡ true
spelled_well (declares p) h = refl
spelled_well (declares_variable t name) h = refl
spelled_well (defines f) h = refl
spelled_well (defines_variable v) h = spelled_pairs v.initialiser (and_parts (is_name v.name) (spellable_start v.initialiser) h).1
