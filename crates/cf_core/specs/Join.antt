-- What stands in the way of joining files: names without a definition or with several, and definitions and types that differ.
use Rattle.std.specs.Prelude.{◌≡◌, ◌≢◌, ℕ, suc, Bool, true, false, ◌&&◌, if◌then◌else◌, List, [], ◌∷◌, ◌++◌, Option, Some, None, codes, decimal, map, filter, Contains, slice_get}
use Rattle.std.specs.List.{flat_map}
use Rattle.cf_core.specs.Types.{Name, SourceType, class, array, const, parameters}
use Rattle.cf_core.specs.Classes.{Class, MemberFunction, Special, class_named, functions_in, copy_in, assignment_in, special_names}
use Rattle.cf_core.specs.Subobjects.{Subobject, subobjects, Overrider, final_overrider}
use Rattle.cf_core.specs.Core.{Core, Target, direct, dispatched, Function, Static, CoreFile, text, static_object, function, function_pointer, call, build, copy, assign}
use Rattle.cf_core.specs.Calls.{is_library, takes_object}
use Rattle.cf_core.specs.Nodes.{nodes}
use Rattle.cf_core.specs.Named.{used_by, used_by_role, destructors}
use Rattle.cf_core.specs.Joined.{own_names, name_in, local_names}
use Rattle.cf_core.specs.CType.{CType, c_types}

-- Definitions.

pub data Thing : Type 0 where
  a_function : Function → Thing
  an_object : Static → Thing
  a_literal : List ℕ → Thing

pub record Definition : Type 0 where
  pub name : Name
  pub is_shared : Bool
  pub thing : Thing

-- the literal of this number in a function
abbrev pub literal_name : Name → ℕ → Name
literal_name f j = codes "__s" ++ decimal j ++ codes "__" ++ f

abbrev pub literal_at : Name → Bool → Core → List Definition
literal_at f is_shared (text j bytes) = record { name = literal_name f j; is_shared = is_shared; thing = a_literal bytes } ∷ []
literal_at f is_shared e = []

abbrev pub function_definitions : (Name → Name) → Function → List Definition
function_definitions r f =
    record { name = r f.name; is_shared = f.is_shared; thing = a_function f } ∷ flat_map (literal_at (r f.name) f.is_shared) (nodes f.body)

-- the literals of a local object's initialiser are those of its function
abbrev pub literals_of : Option Name → (Name → Name) → Static → List Definition
literals_of None r x = []
literals_of (Some f) r x = flat_map (literal_at (r f) x.is_shared) (nodes x.start)

abbrev pub object_definitions : (Name → Name) → Static → List Definition
object_definitions r x = record { name = r x.name; is_shared = x.is_shared; thing = an_object x } ∷ literals_of x.owner r x

-- What is local to a file is defined under its name there; inside a core it keeps its link name, so that files' cores can be compared.
abbrev pub definitions_in : ℕ → CoreFile → List Definition
definitions_in k file =
    let r = name_in k (local_names file) in
    flat_map (function_definitions r) file.functions ++ flat_map (object_definitions r) file.statics

abbrev pub definitions_from : ℕ → List CoreFile → List Definition
definitions_from k [] = []
definitions_from k (file ∷ rest) = definitions_in k file ++ definitions_from (suc k) rest

abbrev pub definitions : List CoreFile → List Definition
definitions files = definitions_from 1 files

-- Uses.

abbrev pub copies : List Class → SourceType → List Name
copies classes (class c) = special_names (copy_in (class_named classes c))
copies classes (array t n) = copies classes t
copies classes (const t) = copies classes t
copies classes t = []

-- the copy constructor that builds the object which an assignment takes
abbrev pub copies_for_assignment : List Class → SourceType → List Name
copies_for_assignment classes (class c) = for_object (assignment_in (class_named classes c))
  where
    for_object : Option Special → List Name
    for_object None = []
    for_object (Some f) = if takes_object f then copies classes (class c) else []
copies_for_assignment classes (array t n) = copies_for_assignment classes t
copies_for_assignment classes (const t) = copies_for_assignment classes t
copies_for_assignment classes t = []

abbrev pub named_target : Target → List Name
named_target (direct f) = f ∷ []
named_target (dispatched f) = []

-- the functions and objects that one node uses
abbrev pub uses_at : List Class → Core → List Name
uses_at classes (static_object n t) = n ∷ []
uses_at classes (function n t) = n ∷ []
uses_at classes (function_pointer t) = named_target t
uses_at classes (copy t e es) = copies classes t
uses_at classes (assign t a b es) = used_by classes (assign t a b es) ++ copies_for_assignment classes t
uses_at classes e = used_by classes e

abbrev pub overrider_name : Option Overrider → List Name
overrider_name None = []
overrider_name (Some x) = if x.function.is_pure then [] else x.function.name ∷ []

-- the functions in the tables of a class: the overrider, in the class of each part that may be active, of each virtual function there
abbrev pub table_uses : List Class → Name → List Name
table_uses classes c =
    flat_map (λ (q : Subobject).
    flat_map (λ (r : Subobject).
    flat_map (λ (f : MemberFunction). overrider_name (final_overrider classes q.class r.path f.signature))
    (filter (λ (f : MemberFunction). f.is_virtual) (functions_in (class_named classes r.class))))
    (subobjects classes q.class))
    (subobjects classes c)

abbrev pub function_uses : List Class → Function → List Name
function_uses classes f =
    flat_map (uses_at classes) (nodes f.body) ++ used_by_role classes f.role ++ flat_map (destructors classes) (parameters f.type)

abbrev pub object_uses : List Class → Static → List Name
object_uses classes x = flat_map (uses_at classes) (nodes x.start) ++ destructors classes x.type

-- what a file uses: its functions, its objects and the tables of its classes
abbrev pub uses_in : CoreFile → List Name
uses_in file =
    flat_map (function_uses file.classes) file.functions
    ++ flat_map (object_uses file.classes) file.statics
    ++ flat_map (λ (c : Class). table_uses file.classes c.code) file.classes

-- Types: with what types of the small C names are defined or used.

pub record Typed : Type 0 where
  pub name : Name
  pub types : List CType

abbrev pub typed : List Class → Name → SourceType → Typed
typed classes n t = record { name = n; types = c_types classes t }

abbrev pub typed_at : List Class → Core → List Typed
typed_at classes (static_object n t) = typed classes n t ∷ []
typed_at classes (function n t) = typed classes n t ∷ []
typed_at classes (call n t object args) = typed classes n t ∷ []
typed_at classes (build n t args) = typed classes n t ∷ []
typed_at classes e = []

abbrev pub typed_in : CoreFile → List Typed
typed_in file =
    flat_map (λ (f : Function). typed file.classes f.name f.type ∷ flat_map (typed_at file.classes) (nodes f.body)) file.functions
    ++ flat_map (λ (x : Static). typed file.classes x.name x.type ∷ flat_map (typed_at file.classes) (nodes x.start)) file.statics

-- the files with their own names, in order
abbrev pub with_own_names : ℕ → List CoreFile → List CoreFile
with_own_names k [] = []
with_own_names k (file ∷ rest) = own_names k file ∷ with_own_names (suc k) rest

abbrev pub named_files : List CoreFile → List CoreFile
named_files files = with_own_names 1 files

abbrev pub defined_names : List CoreFile → List Name
defined_names files = map (λ (d : Definition). d.name) (definitions files)

abbrev pub description_name : Class → Name
description_name c = codes "__ds__" ++ c.code

-- Two definitions of one name, at different places of the list.
pub record DefinedTwice (files : List CoreFile) (a b : Definition) : Type 0 where
  pub first : ℕ
  pub second : ℕ
  pub differ : first ≢ second
  pub at_first : slice_get (definitions files) first ≡ Some a
  pub at_second : slice_get (definitions files) second ≡ Some b
  pub same_name : a.name ≡ b.name

-- A rule of joining that the files break, by its number, and the name at which they do.
pub data Join (files : List CoreFile) : ℕ → Name → Type 0 where
  -- a name that is used has no definition, the library's functions excepted
  without_definition : (name : Name) → Contains (flat_map uses_in (named_files files)) name → is_library name ≡ false
      → (Contains (defined_names files) name → ⊥) → Join files 1 name
  -- one name has two definitions that aren't both shared
  two_definitions : (a b : Definition) → DefinedTwice files a b → a.is_shared && b.is_shared ≡ false → Join files 2 a.name
  -- a shared function, object or literal has two different cores
  different_cores : (a b : Definition) → DefinedTwice files a b → a.is_shared && b.is_shared ≡ true → a.thing ≢ b.thing → Join files 3 a.name
  -- a class has two different descriptions
  different_classes : (c d : Class) → Contains (flat_map (λ (f : CoreFile). f.classes) files) c
      → Contains (flat_map (λ (f : CoreFile). f.classes) files) d → c.code ≡ d.code → c.description ≢ d.description → Join files 3 (description_name c)
  -- no file defines `main`
  no_main : (Contains (defined_names files) (codes "__main") → ⊥) → Join files 4 (codes "__main")
  -- one name is defined or used with two different types of the small C
  different_types : (a b : Typed) → Contains (flat_map typed_in (named_files files)) a → Contains (flat_map typed_in (named_files files)) b
      → a.name ≡ b.name → a.types ≢ b.types → Join files 5 a.name
