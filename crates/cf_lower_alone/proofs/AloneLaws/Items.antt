-- Items of a unit with other names, as plain data.
use Rattle.std.proofs.Common.{◌≡◌, ℕ, Bool, true, false, ◌||◌, cond, List, [], ◌∷◌, ◌++◌, map, refl, ap, sym, ◌∙◌, inl, inr}
use Rattle.std.specs.Prelude.{bytes_eq}
use Rattle.std.proofs.lemmas.Bool.{true≢false}
use Rattle.cf_base.proofs.Tests.{same_bytes, bytes_same}
use Rattle.cc_whole.specs.declared.unit.CItem.{CItem}
use Rattle.cc_whole.specs.declared.unit.CItem.TheVariants as item
use Rattle.cc_whole.specs.declared.unit.CVariable.{CVariable}
use Rattle.cc_whole.specs.Plain.{Function, Item, declares, declares_variable, defines, defines_variable, item_of, items_of, name_of, functions_of, variables_of}
use Rattle.cc_whole.specs.Uses.{parameter_names}
use Rattle.cc_whole.specs.Known.{is_in}
use Rattle.cc_whole.specs.Valid.{is_definition}
use Rattle.cc_whole.specs.ValidUnit.{is_static}
use Rattle.cc_whole_link.specs.Rename.{Renaming, hiding, prototype_renamed, variable_renamed, item_renamed}
use Rattle.cc_whole_link.specs.Placed.{statics, is_shared_item}
use Rattle.cc_whole_closed.proofs.Plains.{body_with}
use Rattle.cc_whole_closed.proofs.Renamed.{body_as}
use Rattle.cc_whole_sections.specs.Sections.{In, Every}

abbrev pub function_with : Function → Renaming → Function
function_with f r = record {
  is_shared = f.is_shared;
  prototype = prototype_renamed f.prototype r;
  body = body_with f.body (hiding (parameter_names f.prototype.parameters) r);
}

abbrev pub item_with : Item → Renaming → Item
item_with (declares p) r = declares (prototype_renamed p r)
item_with (declares_variable t name) r = declares_variable t (r name)
item_with (defines f) r = defines (function_with f r)
item_with (defines_variable v) r = defines_variable (variable_renamed v r)

pub item-as : (i : CItem) (r : Renaming) → item_of (item_renamed i r) ≡ item_with (item_of i) r
item-as (item.Prototype p) r = refl
item-as (item.Extern t name) r = refl
item-as (item.Function f) r =
    ap (λ b. defines (record { is_shared = f.is_shared; prototype = prototype_renamed f.prototype r; body = b }))
    (body_as f.body (hiding (parameter_names f.prototype.parameters) r))
item-as (item.Variable v) r = refl

abbrev pub items_with : Renaming → List Item → List Item
items_with r is = map (λ i. item_with i r) is

pub items-as : (is : List CItem) (r : Renaming) → items_of (map (λ i. item_renamed i r) is) ≡ items_with r (items_of is)
items-as [] r = refl
items-as (i ∷ is) r = ap (λ x. x ∷ items_of (map (λ i. item_renamed i r) is)) (item-as i r) ∙ ap (λ l. item_with (item_of i) r ∷ l) (items-as is r)

pub name-with : (i : Item) (r : Renaming) → name_of (item_with i r) ≡ r (name_of i)
name-with (declares p) r = refl
name-with (declares_variable t name) r = refl
name-with (defines f) r = refl
name-with (defines_variable v) r = refl

definition-with : (i : Item) (r : Renaming) → is_definition (item_with i r) ≡ is_definition i
definition-with (declares p) r = refl
definition-with (declares_variable t name) r = refl
definition-with (defines f) r = refl
definition-with (defines_variable v) r = refl

shared-with : (i : Item) (r : Renaming) → is_shared_item (item_with i r) ≡ is_shared_item i
shared-with (declares p) r = refl
shared-with (declares_variable t name) r = refl
shared-with (defines f) r = refl
shared-with (defines_variable v) r = refl

pub name-as : (i : CItem) (r : Renaming) → name_of (item_of (item_renamed i r)) ≡ r (name_of (item_of i))
name-as i r = ap name_of (item-as i r) ∙ name-with (item_of i) r

pub definition-as : (i : CItem) (r : Renaming) → is_definition (item_of (item_renamed i r)) ≡ is_definition (item_of i)
definition-as i r = ap is_definition (item-as i r) ∙ definition-with (item_of i) r

pub shared-as : (i : CItem) (r : Renaming) → is_shared_item (item_of (item_renamed i r)) ≡ is_shared_item (item_of i)
shared-as i r = ap is_shared_item (item-as i r) ∙ shared-with (item_of i) r

-- ---- the functions and variables of items

pub functions-append : (xs ys : List Item) → functions_of (xs ++ ys) ≡ functions_of xs ++ functions_of ys
functions-append [] ys = refl
functions-append (declares p ∷ xs) ys = functions-append xs ys
functions-append (declares_variable t name ∷ xs) ys = functions-append xs ys
functions-append (defines f ∷ xs) ys = ap (λ l. f ∷ l) (functions-append xs ys)
functions-append (defines_variable v ∷ xs) ys = functions-append xs ys

pub variables-append : (xs ys : List Item) → variables_of (xs ++ ys) ≡ variables_of xs ++ variables_of ys
variables-append [] ys = refl
variables-append (declares p ∷ xs) ys = variables-append xs ys
variables-append (declares_variable t name ∷ xs) ys = variables-append xs ys
variables-append (defines f ∷ xs) ys = variables-append xs ys
variables-append (defines_variable v ∷ xs) ys = ap (λ l. v ∷ l) (variables-append xs ys)

pub functions-with : (r : Renaming) (is : List Item) → functions_of (items_with r is) ≡ map (λ f. function_with f r) (functions_of is)
functions-with r [] = refl
functions-with r (declares p ∷ is) = functions-with r is
functions-with r (declares_variable t name ∷ is) = functions-with r is
functions-with r (defines f ∷ is) = ap (λ l. function_with f r ∷ l) (functions-with r is)
functions-with r (defines_variable v ∷ is) = functions-with r is

pub variables-with : (r : Renaming) (is : List Item) → variables_of (items_with r is) ≡ map (λ v. variable_renamed v r) (variables_of is)
variables-with r [] = refl
variables-with r (declares p ∷ is) = variables-with r is
variables-with r (declares_variable t name ∷ is) = variables-with r is
variables-with r (defines f ∷ is) = variables-with r is
variables-with r (defines_variable v ∷ is) = ap (λ l. variable_renamed v r ∷ l) (variables-with r is)

-- declarations have none
pub no-functions : (is : List Item) → Every (λ i. is_definition i ≡ false) is → functions_of is ≡ []
no-functions [] h = refl
no-functions (declares p ∷ is) h = no-functions is (λ i k. h i (inr k))
no-functions (declares_variable t name ∷ is) h = no-functions is (λ i k. h i (inr k))
no-functions (defines f ∷ is) h = absurd (true≢false (h (defines f) (inl refl)))
no-functions (defines_variable v ∷ is) h = no-functions is (λ i k. h i (inr k))

pub no-variables : (is : List Item) → Every (λ i. is_definition i ≡ false) is → variables_of is ≡ []
no-variables [] h = refl
no-variables (declares p ∷ is) h = no-variables is (λ i k. h i (inr k))
no-variables (declares_variable t name ∷ is) h = no-variables is (λ i k. h i (inr k))
no-variables (defines f ∷ is) h = no-variables is (λ i k. h i (inr k))
no-variables (defines_variable v ∷ is) h = absurd (true≢false (h (defines_variable v) (inl refl)))

pub functions-only : {A : Type 0} (g : A → Function) (xs : List A) → functions_of (map (λ x. defines (g x)) xs) ≡ map g xs
functions-only g [] = refl
functions-only g (x ∷ xs) = ap (λ l. g x ∷ l) (functions-only g xs)

pub variables-only : (vs : List CVariable) → variables_of (map defines_variable vs) ≡ vs
variables-only [] = refl
variables-only (v ∷ vs) = ap (λ l. v ∷ l) (variables-only vs)

pub functions-without : (vs : List CVariable) → functions_of (map defines_variable vs) ≡ []
functions-without [] = refl
functions-without (v ∷ vs) = functions-without vs

pub variables-without : {A : Type 0} (g : A → Function) (xs : List A) → variables_of (map (λ x. defines (g x)) xs) ≡ []
variables-without g [] = refl
variables-without g (x ∷ xs) = variables-without g xs

-- ---- static names

-- a name that stands among the static ones
pub record StaticItem (is : List Item) (name : List ℕ) : Type 0 where
  pub one : Item
  pub there : In one is
  pub static : is_static one ≡ true
  pub named : name_of one ≡ name

pub static-there : (is : List Item) (i : Item) → In i is → is_static i ≡ true → is_in (statics is) (name_of i) ≡ true
static-there [] i h s = absurd h
static-there (j ∷ is) i (inl e) s =
    ap (λ b. is_in (cond b (name_of j ∷ statics is) (statics is)) (name_of i)) (ap is_static e ∙ s)
    ∙ ap (λ b. b || is_in (statics is) (name_of i)) (bytes_same (name_of j) (name_of i) (ap name_of e))
static-there (j ∷ is) i (inr h) s = go (is_static j) (static-there is i h s)
  where
    or-right : (a b : Bool) → b ≡ true → (a || b) ≡ true
    or-right true b e = refl
    or-right false b e = e

    go : (b : Bool) → is_in (statics is) (name_of i) ≡ true → is_in (cond b (name_of j ∷ statics is) (statics is)) (name_of i) ≡ true
    go true e = or-right (bytes_eq (name_of j) (name_of i)) (is_in (statics is) (name_of i)) e
    go false e = e

pub static-from : (is : List Item) (name : List ℕ) → is_in (statics is) name ≡ true → StaticItem is name
static-from [] name e = absurd (true≢false (sym e))
static-from (j ∷ is) name e = go (is_static j) refl (λ k. static-from is name k) e
  where
    later : StaticItem is name → StaticItem (j ∷ is) name
    later x = record { one = x.one; there = inr x.there; static = x.static; named = x.named }

    by : is_static j ≡ true → (is_in (statics is) name ≡ true → StaticItem is name) → (b : Bool) → bytes_eq (name_of j) name ≡ b
        → (b || is_in (statics is) name) ≡ true → StaticItem (j ∷ is) name
    by s again true is_named k = record { one = j; there = inl refl; static = s; named = same_bytes (name_of j) name is_named }
    by s again false not_named k = later (again k)

    go : (b : Bool) → is_static j ≡ b → (is_in (statics is) name ≡ true → StaticItem is name) → is_in (cond b (name_of j ∷ statics is) (statics is)) name ≡ true
        → StaticItem (j ∷ is) name
    go true s again k = by s again (bytes_eq (name_of j) name) refl k
    go false s again k = later (again k)
