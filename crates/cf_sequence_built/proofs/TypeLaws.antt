-- What a type by its number is, by what stands in the table.
use Rattle.std.proofs.Common.{◌≡◌, ◌∙◌, ℕ, ◌<◌, Bool, true, false, not, ◌&&◌, List, [], ◌∷◌, map, length, Option, Some, None, slice_get, All, ap, refl, sym, arith}
use Rattle.cf_types.specs.declared.ty.Ty.{Ty}
use Rattle.cf_types.specs.declared.ty.Ty.TheVariants as ty
use Rattle.cf_types.specs.declared.ty.Fun.{Fun}
use Rattle.cf_types.specs.Table.{NamesBelow, Names, parts_of_fun}
use Rattle.cf_classes.proofs.Trees.{of_type-at}
use Rattle.cf_core.specs.Types.{SourceType, void, gives, is_class, result, plain, element}
use Rattle.cf_core.specs.Places.{is_reference}
use Rattle.cf_core.specs.FromTypes.{Tables, type_of, type_step, taking, fun_type}
use Rattle.cf_sequence_built.specs.Unbuilt.{is_function_type, is_called, is_array_itself}

-- whether an entry is of a class
abbrev pub class_seen : Tables → Ty → Bool
class_seen tables (ty.Class c) = true
class_seen tables (ty.Const u) = is_class (type_of tables u)
class_seen tables v = false

-- whether it is a function type whose result is no class
abbrev pub fun_seen : Tables → Option Fun → Bool
fun_seen tables None = false
fun_seen tables (Some fun) = not (is_class (type_of tables fun.result))

abbrev pub called_seen : Tables → Ty → Bool
called_seen tables (ty.Fun f) = fun_seen tables (slice_get tables.types.funs f)
called_seen tables v = false

class-taking : (ps : List SourceType) (r : SourceType) (b : Bool) → is_class (taking ps (gives r b)) ≡ false
class-taking [] r b = refl
class-taking (p ∷ ps) r b = refl

function-taking : (ps : List SourceType) (r : SourceType) (b : Bool) → is_function_type (taking ps (gives r b)) ≡ true
function-taking [] r b = refl
function-taking (p ∷ ps) r b = function-taking ps r b

result-taking : (ps : List SourceType) (r : SourceType) (b : Bool) → result (taking ps (gives r b)) ≡ r
result-taking [] r b = refl
result-taking (p ∷ ps) r b = result-taking ps r b

class-fun : (rec : ℕ → SourceType) (o : Option Fun) → is_class (fun_type rec o) ≡ false
class-fun rec None = refl
class-fun rec (Some f) = class-taking (map rec f.params) (rec f.result) f.is_const

pub class_by_entry : (tables : Tables) (t : ℕ) (v : Ty) → slice_get tables.types.types t ≡ Some v → NamesBelow t v → is_class (type_of tables t) ≡ class_seen tables v
class_by_entry tables t (ty.Const u) h below =
    let r = of_type-at void (type_step tables) tables.types t (ty.Const u) h in ap is_class r.2 ∙ ap is_class (r.1 u below)
class_by_entry tables t (ty.Fun f) h below =
    let r = of_type-at void (type_step tables) tables.types t (ty.Fun f) h in ap is_class r.2 ∙ class-fun r.0 (slice_get tables.types.funs f)
class_by_entry tables t v h below = ap is_class (of_type-at void (type_step tables) tables.types t v h).2

-- whether an entry is a reference
abbrev pub reference_seen : Tables → Ty → Bool
reference_seen tables (ty.Ref u) = true
reference_seen tables (ty.Const u) = is_reference (type_of tables u)
reference_seen tables v = false

reference-taking : (ps : List SourceType) (r : SourceType) (b : Bool) → is_reference (taking ps (gives r b)) ≡ false
reference-taking [] r b = refl
reference-taking (p ∷ ps) r b = refl

reference-fun : (rec : ℕ → SourceType) (o : Option Fun) → is_reference (fun_type rec o) ≡ false
reference-fun rec None = refl
reference-fun rec (Some f) = reference-taking (map rec f.params) (rec f.result) f.is_const

pub reference_by_entry : (tables : Tables) (t : ℕ) (v : Ty) → slice_get tables.types.types t ≡ Some v → NamesBelow t v → is_reference (type_of tables t) ≡ reference_seen tables v
reference_by_entry tables t (ty.Const u) h below =
    let r = of_type-at void (type_step tables) tables.types t (ty.Const u) h in ap is_reference r.2 ∙ ap is_reference (r.1 u below)
reference_by_entry tables t (ty.Fun f) h below =
    let r = of_type-at void (type_step tables) tables.types t (ty.Fun f) h in ap is_reference r.2 ∙ reference-fun r.0 (slice_get tables.types.funs f)
reference_by_entry tables t v h below = ap is_reference (of_type-at void (type_step tables) tables.types t v h).2

pub reference_seen_other : (tables : Tables) (v : Ty) → ((u : ℕ) → v ≡ ty.Ref u → ⊥) → ((u : ℕ) → v ≡ ty.Const u → ⊥) → reference_seen tables v ≡ false
reference_seen_other tables (ty.Ref u) no_reference no_const = absurd (no_reference u refl)
reference_seen_other tables (ty.Const u) no_reference no_const = absurd (no_const u refl)
reference_seen_other tables v no_reference no_const = refl

-- as `is_called` has it
abbrev calls : SourceType → Bool
calls t = not (is_class (result t)) && is_function_type t

and-true : (a b : Bool) → b ≡ true → a && b ≡ a
and-true true b e = e
and-true false b e = refl

called-fun : (tables : Tables) (t : ℕ) (rec : ℕ → SourceType) → ((u : ℕ) → u < t → rec u ≡ type_of tables u) → (o : Option Fun)
    → All (λ u. u < t) (parts_of_fun o) → calls (fun_type rec o) ≡ fun_seen tables o
called-fun tables t rec same None all = refl
called-fun tables t rec same (Some f) all =
    and-true (not (is_class (result (taking (map rec f.params) (gives (rec f.result) f.is_const))))) _ (function-taking (map rec f.params) (rec f.result) f.is_const)
    ∙ ap (λ u. not (is_class u)) (result-taking (map rec f.params) (rec f.result) f.is_const ∙ same f.result (all 0 0 (omega arith)))

pub called_by_entry : (tables : Tables) (t : ℕ) (v : Ty) → slice_get tables.types.types t ≡ Some v → Names tables.types.funs t (length tables.types.funs) v
    → is_called tables t ≡ called_seen tables v
called_by_entry tables t (ty.Fun f) h names =
    let r = of_type-at void (type_step tables) tables.types t (ty.Fun f) h in ap calls r.2 ∙ called-fun tables t r.0 r.1 (slice_get tables.types.funs f) names.parts_known
called_by_entry tables t v h names = ap calls (of_type-at void (type_step tables) tables.types t v h).2

pub class_seen_other : (tables : Tables) (v : Ty) → ((c : ℕ) → v ≡ ty.Class c → ⊥) → ((u : ℕ) → v ≡ ty.Const u → ⊥) → class_seen tables v ≡ false
class_seen_other tables (ty.Class c) no_class no_const = absurd (no_class c refl)
class_seen_other tables (ty.Const u) no_class no_const = absurd (no_const u refl)
class_seen_other tables v no_class no_const = refl

pub called_seen_other : (tables : Tables) (v : Ty) → ((f : ℕ) → v ≡ ty.Fun f → ⊥) → called_seen tables v ≡ false
called_seen_other tables (ty.Fun f) no_fun = absurd (no_fun f refl)
called_seen_other tables v no_fun = refl

-- ---- arrays

plain-taking : (ps : List SourceType) (r : SourceType) (b : Bool) → plain (taking ps (gives r b)) ≡ taking ps (gives r b)
plain-taking [] r b = refl
plain-taking (p ∷ ps) r b = refl

plain-fun : (rec : ℕ → SourceType) (o : Option Fun) → plain (fun_type rec o) ≡ fun_type rec o
plain-fun rec None = refl
plain-fun rec (Some f) = plain-taking (map rec f.params) (rec f.result) f.is_const

pub plain_by_const : (tables : Tables) (t u : ℕ) → slice_get tables.types.types t ≡ Some (ty.Const u) → NamesBelow t (ty.Const u) → type_of tables u ≡ plain (type_of tables t)
plain_by_const tables t u h below =
    let r = of_type-at void (type_step tables) tables.types t (ty.Const u) h in sym (ap plain r.2 ∙ r.1 u below)

pub plain_otherwise : (tables : Tables) (t : ℕ) (v : Ty) → slice_get tables.types.types t ≡ Some v → ((u : ℕ) → v ≡ ty.Const u → ⊥) → type_of tables t ≡ plain (type_of tables t)
plain_otherwise tables t (ty.Const u) h no_const = absurd (no_const u refl)
plain_otherwise tables t (ty.Fun f) h no_const =
    let r = of_type-at void (type_step tables) tables.types t (ty.Fun f) h in
    r.2 ∙ sym (plain-fun r.0 (slice_get tables.types.funs f)) ∙ sym (ap plain r.2)
plain_otherwise tables t v h no_const = let r = of_type-at void (type_step tables) tables.types t v h in r.2 ∙ sym (ap plain r.2)

array-taking : (ps : List SourceType) (r : SourceType) (b : Bool) → is_array_itself (taking ps (gives r b)) ≡ false
array-taking [] r b = refl
array-taking (p ∷ ps) r b = refl

array-fun : (rec : ℕ → SourceType) (o : Option Fun) → is_array_itself (fun_type rec o) ≡ false
array-fun rec None = refl
array-fun rec (Some f) = array-taking (map rec f.params) (rec f.result) f.is_const

pub array_there : (tables : Tables) (t u n : ℕ) → slice_get tables.types.types t ≡ Some (ty.Array u n) → true ≡ is_array_itself (type_of tables t)
array_there tables t u n h = sym (ap is_array_itself (of_type-at void (type_step tables) tables.types t (ty.Array u n) h).2)

pub array_otherwise : (tables : Tables) (t : ℕ) (v : Ty) → slice_get tables.types.types t ≡ Some v → ((u n : ℕ) → v ≡ ty.Array u n → ⊥) → false ≡ is_array_itself (type_of tables t)
array_otherwise tables t (ty.Array u n) h no_array = absurd (no_array u n refl)
array_otherwise tables t (ty.Fun f) h no_array =
    let r = of_type-at void (type_step tables) tables.types t (ty.Fun f) h in sym (ap is_array_itself r.2 ∙ array-fun r.0 (slice_get tables.types.funs f))
array_otherwise tables t v h no_array = sym (ap is_array_itself (of_type-at void (type_step tables) tables.types t v h).2)

element-taking : (ps : List SourceType) (r : SourceType) (b : Bool) → element (taking ps (gives r b)) ≡ taking ps (gives r b)
element-taking [] r b = refl
element-taking (p ∷ ps) r b = refl

element-fun : (rec : ℕ → SourceType) (o : Option Fun) → element (fun_type rec o) ≡ fun_type rec o
element-fun rec None = refl
element-fun rec (Some f) = element-taking (map rec f.params) (rec f.result) f.is_const

pub element_by_array : (tables : Tables) (t u n : ℕ) → slice_get tables.types.types t ≡ Some (ty.Array u n) → NamesBelow t (ty.Array u n) → type_of tables u ≡ element (type_of tables t)
element_by_array tables t u n h below =
    let r = of_type-at void (type_step tables) tables.types t (ty.Array u n) h in sym (ap element r.2 ∙ r.1 u below)

pub element_otherwise : (tables : Tables) (t : ℕ) (v : Ty) → slice_get tables.types.types t ≡ Some v → ((u n : ℕ) → v ≡ ty.Array u n → ⊥) → type_of tables t ≡ element (type_of tables t)
element_otherwise tables t (ty.Array u n) h no_array = absurd (no_array u n refl)
element_otherwise tables t (ty.Fun f) h no_array =
    let r = of_type-at void (type_step tables) tables.types t (ty.Fun f) h in
    r.2 ∙ sym (element-fun r.0 (slice_get tables.types.funs f)) ∙ sym (ap element r.2)
element_otherwise tables t v h no_array = let r = of_type-at void (type_step tables) tables.types t v h in r.2 ∙ sym (ap element r.2)
