-- What linking makes of units: a program, or the first broken rule and a name.
use Rattle.std.specs.Prelude.{◌≡◌, ℕ, Bool, true, false, not, ◌&&◌, ◌||◌, ◌==◌, if◌then◌else◌, List, [], ◌∷◌, ◌++◌, Option, Some, None, Result, Ok, Err, codes, decimal, bytes_eq, find, Contains, IsTrue}
use Rattle.std.specs.List.{list_any}
use Rattle.cc_whole.specs.declared.types.CType.TheVariants as ty
use Rattle.cc_whole.specs.declared.types.CLocalType.TheVariants as «local»
use Rattle.cc_whole.specs.declared.expression.CPlace.TheVariants as place
use Rattle.cc_whole.specs.declared.expression.CExpression.TheVariants as tree
use Rattle.cc_whole.specs.declared.statement.CStatement.{CStatement}
use Rattle.cc_whole.specs.declared.statement.CStatement.TheVariants as statement
use Rattle.cc_whole.specs.declared.statement.CCallee.TheVariants as callee
use Rattle.cc_whole.specs.declared.unit.CItem.{CItem}
use Rattle.cc_whole.specs.declared.unit.CItem.TheVariants as item
use Rattle.cc_whole.specs.declared.unit.CUnit.{CUnit}
use Rattle.cc_whole.specs.declared.unit.CProgram.{CProgram}
use Rattle.cc_whole.specs.Build.{made_body}
use Rattle.cc_whole.specs.Plain.{item_of}
use Rattle.cc_whole.specs.Known.{is_in, is_library}
use Rattle.cc_whole.specs.Valid.{agrees, named_by}
use Rattle.cc_whole_link.specs.Placed.{Placed, placed_units, its_name, old_name, defines_it, is_shared, defines_named, inner_names}

-- a broken rule of linking, 1 to 6, and the name that it is about
pub record Refusal : Type 0 where
  pub rule : ℕ
  pub name : List ℕ

abbrev pub refusal : ℕ → List ℕ → Refusal
refusal rule name = record { rule = rule; name = name }

-- ---- L6

-- a version that is not 1, in decimal
abbrev pub other_version : List CUnit → Option (List ℕ)
other_version [] = None
other_version (u ∷ rest) = if u.version == 1 then other_version rest else Some (decimal u.version)

-- ---- L1

-- a used name that no unit defines, the library functions excepted: the first in the text of the item
abbrev pub undefined_use : List Placed → Placed → Option (List ℕ)
undefined_use all i = find (λ name. not (is_library name) && not (list_any (defines_named name) all)) i.uses

-- ---- L2

-- another definition of this name, where not both are shared
abbrev pub second : Placed → Placed → Bool
second i b = defines_named (its_name i) b && not (is_shared i && is_shared b)

-- `main`, which is not static
abbrev pub is_the_main : Placed → Bool
is_the_main = defines_named (codes "main")

-- what the linker's own `main` would call: `__main`, which is not static, and `__sti` and `__hci`, static or not
abbrev pub is_start : Placed → Bool
is_start p = defines_named (codes "__main") p || (defines_it p && (bytes_eq (old_name p) (codes "__sti") || bytes_eq (old_name p) (codes "__hci")))

-- one unit defines `main`, and another what the linker's `main` would call
abbrev pub clashes : Placed → Placed → Bool
clashes i b = not (i.unit == b.unit) && ((is_the_main i && is_start b) || (is_start i && is_the_main b))

-- a parameter or local that has the longer name of a static name of its unit: the first in the text of the item
abbrev pub captured : Placed → Option (List ℕ)
captured i = find (is_in i.longer_names) (inner_names (item_of i.was))

abbrev pub second_definition : List Placed → Placed → Option (List ℕ)
second_definition before_it i =
    if defines_it i && list_any (second i) before_it then Some (its_name i)
    else (if list_any (clashes i) before_it then Some (codes "main") else captured i)

-- ---- L3

-- a shared definition of this name before it that is another as it stands in its unit
pub record Differs (before_it : List Placed) (i : Placed) : Type 0 where
  pub other : Placed
  pub stands : Contains before_it other
  pub same_name : IsTrue (defines_named (its_name i) other)
  pub both_shared : IsTrue (is_shared i && is_shared other)
  pub differ : i.was ≡ other.was → ⊥

-- ---- L5

-- a declaration of this name before it with another type
abbrev pub other_type : Placed → Placed → Bool
other_type i b = bytes_eq (its_name b) (its_name i) && not (agrees (Some (named_by (item_of b.now)).meant) (named_by (item_of i.now)).meant)

-- ---- the first refusal

-- what an item breaks behind those before it, in the order L1, L2, L3, L5
pub data Breaks (all before_it : List Placed) (i : Placed) : Option Refusal → Type 0 where
  undefined : (name : List ℕ) → undefined_use all i ≡ Some name → Breaks all before_it i (Some (refusal 1 name))
  twice : (name : List ℕ) → undefined_use all i ≡ None → second_definition before_it i ≡ Some name → Breaks all before_it i (Some (refusal 2 name))
  shared : undefined_use all i ≡ None → second_definition before_it i ≡ None → Differs before_it i → Breaks all before_it i (Some (refusal 3 (its_name i)))
  typed : undefined_use all i ≡ None → second_definition before_it i ≡ None → (Differs before_it i → ⊥) → list_any (other_type i) before_it ≡ true
      → Breaks all before_it i (Some (refusal 5 (its_name i)))
  kept : undefined_use all i ≡ None → second_definition before_it i ≡ None → (Differs before_it i → ⊥) → list_any (other_type i) before_it ≡ false
      → Breaks all before_it i None

-- what the items break, in order
pub data FirstBroken (all : List Placed) : List Placed → List Placed → Option Refusal → Type 0 where
  none : (before_it : List Placed) → FirstBroken all before_it [] None
  here : (before_it : List Placed) (i : Placed) (rest : List Placed) (r : Refusal) → Breaks all before_it i (Some r) → FirstBroken all before_it (i ∷ rest) (Some r)
  later : (before_it : List Placed) (i : Placed) (rest : List Placed) (r : Option Refusal) → Breaks all before_it i None
      → FirstBroken all (before_it ++ i ∷ []) rest r → FirstBroken all before_it (i ∷ rest) r

-- ---- the program

-- a shared definition that stands there already
abbrev pub repeats : List Placed → Placed → Bool
repeats before_it i = defines_it i && list_any (λ b. defines_named (its_name i) b && (is_shared i && is_shared b)) before_it

-- the items in order, but shared definitions once
abbrev pub kept_items : List Placed → List Placed → List CItem
kept_items before_it [] = []
kept_items before_it (i ∷ rest) =
    if repeats before_it i then kept_items (before_it ++ i ∷ []) rest else (i.now ∷ kept_items (before_it ++ i ∷ []) rest)

-- calls of those that were static functions of this name, in order
abbrev pub calls_of : List ℕ → List Placed → List CStatement
calls_of name [] = []
calls_of name (p ∷ rest) =
    if defines_it p && (p.is_static && bytes_eq (old_name p) name) then (statement.Call None (callee.Name (its_name p)) [] ∷ calls_of name rest) else calls_of name rest

-- `int main(void) { int status; .. status = __main(); return status; }`, which first calls each `__hci` and then each `__sti`
abbrev pub added_main : List Placed → CItem
added_main all = item.Function (record {
  is_shared = false;
  prototype = record { is_static = false; result = Some ty.Int; name = codes "main"; parameters = [] };
  body = made_body (record { ty = «local».Scalar ty.Int; name = codes "status" } ∷ [])
      (calls_of (codes "__hci") all ++ (calls_of (codes "__sti") all
      ++ (statement.Call (Some (place.Name (codes "status"))) (callee.Name (codes "__main")) []
      ∷ statement.Return (Some (tree.Load (place.Name (codes "status")))) ∷ [])));
})

-- the program has a `main` of its own, or the added one, which calls `__main` (L4)
abbrev pub with_main : List Placed → Result CProgram Refusal
with_main all =
    if list_any is_the_main all then Ok (record { items = kept_items [] all })
    else (if list_any (defines_named (codes "__main")) all then Ok (record { items = kept_items [] all ++ added_main all ∷ [] })
    else Err (refusal 4 (codes "__main")))

-- what units make: L6 comes first, then the rules of items, then L4
pub data Links (units : List CUnit) : Result CProgram Refusal → Type 0 where
  version : (name : List ℕ) → other_version units ≡ Some name → Links units (Err (refusal 6 name))
  broken : (r : Refusal) → other_version units ≡ None → FirstBroken (placed_units 1 units) [] (placed_units 1 units) (Some r) → Links units (Err r)
  linked : other_version units ≡ None → FirstBroken (placed_units 1 units) [] (placed_units 1 units) None → Links units (with_main (placed_units 1 units))
