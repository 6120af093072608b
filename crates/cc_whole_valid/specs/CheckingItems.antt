-- How the code checks items, up to the first broken rule; and which trees it finds to have a text.
use Rattle.std.specs.Prelude.{ℕ, nat_lt, Bool, true, false, not, ◌&&◌, List, [], ◌∷◌, Option, Some, None}
use Rattle.std.specs.List.{list_all}
use Rattle.cc_whole_tokens.specs.Token.{is_name}
use Rattle.cc_whole.specs.declared.types.CVariableType.{CVariableType}
use Rattle.cc_whole.specs.declared.unit.CParameter.{CParameter}
use Rattle.cc_whole.specs.declared.unit.CPrototype.{CPrototype}
use Rattle.cc_whole.specs.declared.unit.CPair.{CPair}
use Rattle.cc_whole.specs.declared.unit.CInitialiser.{CInitialiser}
use Rattle.cc_whole.specs.declared.unit.CInitialiser.TheVariants as initialiser
use Rattle.cc_whole.specs.declared.unit.CVariable.{CVariable}
use Rattle.cc_whole.specs.Spellable.{spellable}
use Rattle.cc_whole.specs.Plain.{SwitchItem, label, default_label, inner, Function, Item, declares, declares_variable, defines, defines_variable}
use Rattle.cc_whole.specs.Landmarks.{type_marks, result_marks, static_marks, marks_before}
use Rattle.cc_whole.specs.Known.{Meant, function, object, Named, lookup, is_in, is_main, is_library}
use Rattle.cc_whole.specs.Statements.{has_size}
use Rattle.cc_whole.specs.Valid.{agrees, own_type, has_type, inside, may_start, holds_start, named_by, defined_after}
use Rattle.cc_whole_valid.specs.Walk.{Walk, ◌>>=◌, pure, past, broken_at, where_holds, unless}
use Rattle.cc_whole_valid.specs.Checking.{distinct_from, size_from, number_from, body_from}

-- a name that is declared as this, or defined
unfoldable pub declared_from : List Named → List (List ℕ) → Bool → List ℕ → Meant → Walk (Unit {0})
declared_from names defined is_definition name m = λ at.
    where_holds (agrees (lookup names name) m && not (is_definition && is_in defined name)) 2 at
    (where_holds (has_type (own_type name) m && not (is_definition && is_library name)) 10 at (past 1)) at

-- ---- functions

unfoldable pub parameter_from : CParameter → List (List ℕ) → Walk (Unit {0})
parameter_from p before_it = past (type_marks p.ty) >>= (λ u. distinct_from p.name before_it)

abbrev pub some_from : List CParameter → List (List ℕ) → Walk (Unit {0})
some_from [] before_it = pure tt
some_from (p ∷ ps) before_it = parameter_from p before_it >>= (λ u. some_from ps (p.name ∷ before_it))

-- `void` stands where there is no parameter
unfoldable pub parameters_from : List CParameter → Walk (Unit {0})
parameters_from [] = past 1
parameters_from (p ∷ ps) = some_from (p ∷ ps) []

unfoldable pub prototype_from : List Named → List (List ℕ) → Bool → CPrototype → Walk (Unit {0})
prototype_from names defined is_definition p =
    past (static_marks p.is_static) >>= (λ u. past (result_marks p.result) >>= (λ v. declared_from names defined is_definition p.name (function p)
    >>= (λ w. parameters_from p.parameters)))

-- `static`, which a shared definition does not have
unfoldable pub unshared_from : Bool → Bool → Walk (Unit {0})
unshared_from is_shared is_static = λ at. unless (is_shared && is_static) 12 at (pure tt) at

unfoldable pub function_from : Function → List Named → List (List ℕ) → Walk (Unit {0})
function_from f names defined =
    unshared_from f.is_shared f.prototype.is_static >>= (λ u. prototype_from names defined true f.prototype
    >>= (λ v. body_from f.body (inside f.prototype (named_by (defines f) ∷ names))))

-- ---- variables

-- the function of a pair
unfoldable pub paired_by : List ℕ → Option Meant → Walk (Unit {0})
paired_by name None = λ at. broken_at 1 at at
paired_by name (Some (function p)) = λ at. unless (is_main name) 10 at (past 1) at
paired_by name (Some (object t)) = λ at. broken_at 3 at at

unfoldable pub paired_from : List Named → Option (List ℕ) → Walk (Unit {0})
paired_from names None = past 1
paired_from names (Some name) = paired_by name (lookup names name)

unfoldable pub pair_from : CPair → List Named → Walk (Unit {0})
pair_from p names = number_from p.number >>= (λ u. paired_from names p.function)

abbrev pub pairs_from : List CPair → List Named → Walk (Unit {0})
pairs_from [] names = pure tt
pairs_from (p ∷ ps) names = pair_from p names >>= (λ u. pairs_from ps names)

unfoldable pub inside_from : CInitialiser → List Named → Walk (Unit {0})
inside_from (initialiser.Text bytes) names = past 1
inside_from (initialiser.Pairs ps) names = pairs_from ps names

unfoldable pub start_from : CVariableType → List Named → Option CInitialiser → Walk (Unit {0})
start_from t names None = pure tt
start_from t names (Some start) = λ at. where_holds (may_start t start) 3 at (inside_from start names) at

unfoldable pub variable_from : List Named → List (List ℕ) → Bool → CVariableType → List ℕ → Option CInitialiser → Walk (Unit {0})
variable_from names defined is_definition t name start =
    past (marks_before t) >>= (λ u. declared_from names defined is_definition name (object t) >>= (λ v. size_from t (has_size t && holds_start t start)))

unfoldable pub variable_definition_from : CVariable → List Named → List (List ℕ) → Walk (Unit {0})
variable_definition_from v names defined =
    unshared_from v.is_shared v.is_static >>= (λ u. past (static_marks v.is_static)
    >>= (λ u. variable_from names defined true v.ty v.name v.initialiser
    >>= (λ u. start_from v.ty (named_by (defines_variable v) ∷ names) v.initialiser)))

-- ---- items

unfoldable pub item_from : Item → List Named → List (List ℕ) → Walk (Unit {0})
item_from (declares p) names defined = prototype_from names defined false p
item_from (declares_variable t name) names defined = variable_from names defined false t name None
item_from (defines f) names defined = function_from f names defined
item_from (defines_variable v) names defined = variable_definition_from v names defined

abbrev pub items_from : List Item → List Named → List (List ℕ) → Walk (Unit {0})
items_from [] names defined = pure tt
items_from (i ∷ rest) names defined = item_from i names defined >>= (λ u. items_from rest (named_by i ∷ names) (defined_after i defined))

-- ---- texts

abbrev pub spellable_switch_item : SwitchItem → Bool
spellable_switch_item (label c) = true
spellable_switch_item default_label = true
spellable_switch_item (inner s) = spellable s

abbrev pub good_parameters : List CParameter → Bool
good_parameters parameters = list_all (λ (p : CParameter). is_name p.name) parameters

abbrev pub are_bytes : List ℕ → Bool
are_bytes bytes = list_all (λ b. nat_lt b 256) bytes
