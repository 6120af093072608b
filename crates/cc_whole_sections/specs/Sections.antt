-- Items of a unit in two sections. The first declares what the bodies of the second use; one name has one type, and no name is defined twice.
use Rattle.std.specs.Prelude.{◌≡◌, ℕ, true, false, ◌&&◌, List, [], ◌∷◌, ◌++◌, ◌⊎◌, Some, map, bytes_eq}
use Rattle.cc_whole.specs.declared.unit.CVariable.{CVariable}
use Rattle.cc_whole.specs.Plain.{Function, Item, declares, declares_variable, defines, defines_variable}
use Rattle.cc_whole.specs.Fault.{fine}
use Rattle.cc_whole.specs.Known.{Meant, Named, lookup, is_in, is_library}
use Rattle.cc_whole.specs.Statements.{has_size, checked_body}
use Rattle.cc_whole.specs.Valid.{agrees, own_type, has_type, checked_parameters, inside, holds_start, checked_start, named_by, is_definition, defined_after}

-- it stands in the list
abbrev pub In : {A : Type 0} → A → List A → Type 0
In x [] = ⊥
In x (y ∷ ys) = (y ≡ x) ⊎ In x ys

-- it is so of each
abbrev pub Every : {A : Type 0} → (A → Type 0) → List A → Type 0
Every {A} P xs = (x : A) → In x xs → P x

abbrev pub item_name : Item → List ℕ
item_name i = (named_by i).name

abbrev pub item_names : List Item → List (List ℕ)
item_names items = map item_name items

-- ---- one type for each name

pub record OneType (known : List Named) : Type 0 where
  pub agree : (x y : Named) → In x known → In y known → bytes_eq x.name y.name ≡ true → agrees (Some x.meant) y.meant ≡ true
  -- a name that has a type of its own has this
  pub own : (x : Named) → In x known → has_type (own_type x.name) x.meant ≡ true

-- the name is known, with this type
pub record Stands (names : List Named) (x : Named) : Type 0 where
  pub meant : Meant
  pub means : lookup names x.name ≡ Some meant
  pub agrees_with : agrees (Some meant) x.meant ≡ true

-- ---- what is asked of each item by itself

-- of a body, where these names are known
pub record IsFunction (wanted : List Named) (f : Function) : Type 0 where
  pub shared : (f.is_shared && f.prototype.is_static) ≡ false
  pub parameters : checked_parameters f.prototype.parameters [] ≡ fine
  pub no_library : is_library f.prototype.name ≡ false
  pub body : (names : List Named) → Every (Stands names) wanted → checked_body f.body (inside f.prototype names) ≡ fine

pub record IsVariable (v : CVariable) : Type 0 where
  pub shared : (v.is_shared && v.is_static) ≡ false
  pub no_library : is_library v.name ≡ false
  pub size : (has_size v.ty && holds_start v.ty v.initialiser) ≡ true
  pub start : (names : List Named) → checked_start v.ty names v.initialiser ≡ fine

-- of what declares names
abbrev pub Declares : Item → Type 0
Declares (declares p) = checked_parameters p.parameters [] ≡ fine
Declares (declares_variable t name) = has_size t ≡ true
Declares (defines f) = ⊥
Declares (defines_variable v) = IsVariable v

-- of what uses them
abbrev pub Uses : List Named → Item → Type 0
Uses wanted (defines f) = IsFunction wanted f
Uses wanted i = ⊥

-- ---- sections

-- no name is defined twice, nor one that was defined before
abbrev pub DefinedOnce : List Item → List (List ℕ) → Type 0
DefinedOnce [] defined = Unit {0}
DefinedOnce (i ∷ rest) defined = (is_definition i ≡ true → is_in defined (item_name i) ≡ false) × DefinedOnce rest (defined_after i defined)

pub record Sections (known wanted : List Named) (first second : List Item) : Type 0 where
  pub one_type : OneType known
  pub first_known : Every (λ i. In (named_by i) known) first
  pub second_known : Every (λ i. In (named_by i) known) second
  pub wanted_known : Every (λ x. In x known) wanted
  pub wanted_first : Every (λ (x : Named). is_in (item_names first) x.name ≡ true) wanted
  pub declares : Every Declares first
  pub uses : Every (Uses wanted) second
  pub once : DefinedOnce (first ++ second) []
