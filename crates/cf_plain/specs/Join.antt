-- What stands in the way of joining plain files, as for cores: names without a definition or with several, and definitions and types that differ.
use Rattle.std.specs.Prelude.{◌≡◌, ◌≢◌, ℕ, suc, Bool, true, false, ◌&&◌, List, [], ◌∷◌, ◌++◌, Option, Some, None, codes, map, Contains, slice_get}
use Rattle.std.specs.List.{flat_map}
use Rattle.cf_core.specs.Types.{Name, parameters}
use Rattle.cf_core.specs.Classes.{Class}
use Rattle.cf_core.specs.Calls.{is_library}
use Rattle.cf_core.specs.Named.{destructors, used_by_role}
use Rattle.cf_core.specs.Joined.{name_in}
use Rattle.cf_core.specs.Join.{literal_name, named_target, table_uses, Typed, typed, description_name}
use Rattle.cf_plain.specs.Plain.{Action, text, static_object, function, function_pointer, call, build, PlainFunction, PlainStatic, PlainFile}
use Rattle.cf_plain.specs.Joined.{own_names, local_names}
use Rattle.cf_plain.specs.Named.{used_by, all_actions}

-- Definitions.

pub data Thing : Type 0 where
  a_function : PlainFunction → Thing
  an_object : PlainStatic → Thing
  a_literal : List ℕ → Thing

pub record Definition : Type 0 where
  pub name : Name
  pub is_shared : Bool
  pub thing : Thing

abbrev pub literal_at : Name → Bool → Action → List Definition
literal_at f is_shared (text j bytes) = record { name = literal_name f j; is_shared = is_shared; thing = a_literal bytes } ∷ []
literal_at f is_shared a = []

abbrev pub function_definitions : (Name → Name) → PlainFunction → List Definition
function_definitions r f =
    record { name = r f.name; is_shared = f.is_shared; thing = a_function f } ∷ flat_map (literal_at (r f.name) f.is_shared) (all_actions f.body)

-- the literals of a local object's initialiser are those of its function
abbrev pub literals_of : Option Name → (Name → Name) → PlainStatic → List Definition
literals_of None r x = []
literals_of (Some f) r x = flat_map (literal_at (r f) x.is_shared) (all_actions x.start)

abbrev pub object_definitions : (Name → Name) → PlainStatic → List Definition
object_definitions r x = record { name = r x.name; is_shared = x.is_shared; thing = an_object x } ∷ literals_of x.owner r x

abbrev pub definitions_in : ℕ → PlainFile → List Definition
definitions_in k file =
    let r = name_in k (local_names file) in
    flat_map (function_definitions r) file.functions ++ flat_map (object_definitions r) file.statics

abbrev pub definitions_from : ℕ → List PlainFile → List Definition
definitions_from k [] = []
definitions_from k (file ∷ rest) = definitions_in k file ++ definitions_from (suc k) rest

abbrev pub definitions : List PlainFile → List Definition
definitions files = definitions_from 1 files

-- Uses.

-- the functions and objects that one action uses
abbrev pub uses_at : List Class → Action → List Name
uses_at classes (static_object n t) = n ∷ []
uses_at classes (function n t) = n ∷ []
uses_at classes (function_pointer t) = named_target t
uses_at classes a = used_by classes a

abbrev pub function_uses : List Class → PlainFunction → List Name
function_uses classes f =
    flat_map (uses_at classes) (all_actions f.body) ++ used_by_role classes f.role ++ flat_map (destructors classes) (parameters f.type)

abbrev pub object_uses : List Class → PlainStatic → List Name
object_uses classes x = flat_map (uses_at classes) (all_actions x.start) ++ destructors classes x.type

-- what a file uses: its functions, its objects and the tables of its classes
abbrev pub uses_in : PlainFile → List Name
uses_in file =
    flat_map (function_uses file.classes) file.functions
    ++ flat_map (object_uses file.classes) file.statics
    ++ flat_map (λ (c : Class). table_uses file.classes c.code) file.classes

-- with what types of the small C names are defined or used
abbrev pub typed_at : List Class → Action → List Typed
typed_at classes (static_object n t) = typed classes n t ∷ []
typed_at classes (function n t) = typed classes n t ∷ []
typed_at classes (call n t object is into) = typed classes n t ∷ []
typed_at classes (build n t r is) = typed classes n t ∷ []
typed_at classes a = []

abbrev pub typed_in : PlainFile → List Typed
typed_in file =
    flat_map (λ (f : PlainFunction). typed file.classes f.name f.type ∷ flat_map (typed_at file.classes) (all_actions f.body)) file.functions
    ++ flat_map (λ (x : PlainStatic). typed file.classes x.name x.type ∷ flat_map (typed_at file.classes) (all_actions x.start)) file.statics

-- the files with their own names, in order
abbrev pub with_own_names : ℕ → List PlainFile → List PlainFile
with_own_names k [] = []
with_own_names k (file ∷ rest) = own_names k file ∷ with_own_names (suc k) rest

abbrev pub named_files : List PlainFile → List PlainFile
named_files files = with_own_names 1 files

abbrev pub defined_names : List PlainFile → List Name
defined_names files = map (λ (d : Definition). d.name) (definitions files)

-- two definitions of one name, at different places of the list
pub record DefinedTwice (files : List PlainFile) (a b : Definition) : Type 0 where
  pub first : ℕ
  pub second : ℕ
  pub differ : first ≢ second
  pub at_first : slice_get (definitions files) first ≡ Some a
  pub at_second : slice_get (definitions files) second ≡ Some b
  pub same_name : a.name ≡ b.name

-- A rule of joining that the files break, by its number, and the name at which they do.
pub data Join (files : List PlainFile) : ℕ → Name → Type 0 where
  -- a name that is used has no definition, the library's functions excepted
  without_definition : (name : Name) → Contains (flat_map uses_in (named_files files)) name → is_library name ≡ false
      → (Contains (defined_names files) name → ⊥) → Join files 1 name
  -- one name has two definitions that aren't both shared
  two_definitions : (a b : Definition) → DefinedTwice files a b → a.is_shared && b.is_shared ≡ false → Join files 2 a.name
  -- a shared function, object or literal has two different definitions
  different_definitions : (a b : Definition) → DefinedTwice files a b → a.is_shared && b.is_shared ≡ true → a.thing ≢ b.thing → Join files 3 a.name
  -- a class has two different descriptions
  different_classes : (c d : Class) → Contains (flat_map (λ (f : PlainFile). f.classes) files) c
      → Contains (flat_map (λ (f : PlainFile). f.classes) files) d → c.code ≡ d.code → c.description ≢ d.description → Join files 3 (description_name c)
  -- no file defines `main`
  no_main : (Contains (defined_names files) (codes "__main") → ⊥) → Join files 4 (codes "__main")
  -- one name is defined or used with two different types of the small C
  different_types : (a b : Typed) → Contains (flat_map typed_in (named_files files)) a → Contains (flat_map typed_in (named_files files)) b
      → a.name ≡ b.name → a.types ≢ b.types → Join files 5 a.name
