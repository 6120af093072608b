-- Validity of the core of a file: every node has parts of the number and types that it takes, what is numbered or named is there, and
-- no two functions or objects have one link name. Elaboration makes no other cores.
use Rattle.std.specs.Prelude.{ℕ, Bool, true, false, ◌&&◌, ◌||◌, not, nat_le, List, [], ◌∷◌, ◌++◌, Option, Some, None, slice_get, is_some, length, map, find, codes, bytes_eq}
use Rattle.std.specs.List.{list_any, list_all}
use Rattle.cf_core.specs.Types.{Name, SourceType, void, integer, enumeration, class, pointer, reference, array, takes, gives, data_member, function_member, const, parameters, result, is_void}
use Rattle.cf_core.specs.Classes.{Base, MemberFunction, Class, class_named, functions_in}
use Rattle.cf_core.specs.Subobjects.{Subobject, subobjects, final_overrider}
use Rattle.cf_core.specs.Core.{Core, Cores, MaybeCore, Parts, Role, plain_function, member_function, constructor, destructor, Function, Static, CoreFile, none, more, absent, given, no_parts, part, blank, full, block, sequence, declare, once, branch, loop, switch, case_label, default_label, leave, continue, give, parts}
use Rattle.cf_core.specs.Places.{part_eq}
use Rattle.cf_core.specs.Building.{BuiltPart, building}
use Rattle.cf_core.specs.Statements.{has_case, has_default}
use Rattle.cf_core.specs.Typing.{Scope, Typing, is_function, is_integer, is_condition, is_expression, same_type}
use Rattle.cf_core.specs.Joined.{is_nothing}
use Rattle.cf_core.specs.Typed.{typing}

-- Types and classes.

-- whether objects of a type can be made, with these classes defined
abbrev pub is_complete : List Class → SourceType → Bool
is_complete classes void = false
is_complete classes (integer k) = true
is_complete classes (enumeration e) = true
is_complete classes (class c) = is_some (class_named classes c)
is_complete classes (pointer t) = true
is_complete classes (reference t) = true
is_complete classes (array t n) = is_complete classes t
is_complete classes (takes p t) = false
is_complete classes (gives t c) = false
is_complete classes (data_member c t) = true
is_complete classes (function_member c t) = true
is_complete classes (const t) = is_complete classes t

abbrev pub all_differ : List Name → Bool
all_differ [] = true
all_differ (n ∷ rest) = not (list_any (bytes_eq n) rest) && all_differ rest

abbrev pub base_fits : List Class → Base → Bool
base_fits earlier b = is_some (class_named earlier b.class)

-- bases and data members are of classes that are defined before (9.1, 10), and no base is there twice
abbrev pub classes_fit : List Class → List Class → Bool
classes_fit earlier [] = true
classes_fit earlier (c ∷ rest) =
    not (is_some (class_named earlier c.code))
    && list_all (base_fits earlier) c.bases
    && all_differ (map (λ (b : Base). b.class) c.bases)
    && list_all (is_complete earlier) c.fields
    && classes_fit (earlier ++ c ∷ []) rest

-- each virtual function of each part of a class has its final overrider (10.2)
abbrev pub overriders_exist : List Class → Name → Bool
overriders_exist classes c =
    list_all (λ (r : Subobject).
    list_all (λ (f : MemberFunction). not f.is_virtual || is_some (final_overrider classes c r.path f.signature))
    (functions_in (class_named classes r.class)))
    (subobjects classes c)

-- Statements.

-- no label twice (6.4.2)
abbrev pub labels_differ : Cores → Bool
labels_differ none = true
labels_differ (more (case_label z) rest) = not (has_case z rest) && labels_differ rest
labels_differ (more default_label rest) = not (has_default rest) && labels_differ rest
labels_differ (more e rest) = labels_differ rest

abbrev pub is_label : Core → Bool
is_label (case_label z) = true
is_label default_label = true
is_label e = false

abbrev pub has_label : Cores → Bool
has_label none = false
has_label (more e rest) = is_label e || has_label rest

abbrev mutual
  pub initialises_local : Core → Bool
  initialises_local (declare i t blank) = false
  initialises_local (declare i t e) = true
  initialises_local (sequence es) = any_initialises es
  initialises_local e = false

  pub any_initialises : Cores → Bool
  any_initialises none = false
  any_initialises (more e es) = initialises_local e || any_initialises es

-- no label passes a declaration with an initialiser (6.7)
abbrev pub passes_none : Cores → Bool
passes_none none = true
passes_none (more e rest) = not (initialises_local e && has_label rest) && passes_none rest

abbrev pub constant_starts : Option Static → Typing → Bool
constant_starts None x = false
constant_starts (Some s) x = x.start s.type

-- what a function's statements may name and give
pub record Body : Type 0 where
  pub scope : Scope
  pub parameters : ℕ
  pub result : SourceType
  pub is_main : Bool

module _ (f : Body) where
  abbrev pub condition_fits : MaybeCore → Bool
  condition_fits absent = true
  condition_fits (given e) = is_condition (typing f.scope e)

  abbrev pub expression_fits : MaybeCore → Bool
  expression_fits absent = true
  expression_fits (given e) = is_expression (typing f.scope e)

  abbrev mutual
    -- a statement, where `break` and `continue` may stand or not (6.6)
    pub fits : Bool → Bool → Core → Bool
    fits breaks continues (full blank) = true
    fits breaks continues (full e) = is_expression (typing f.scope e)
    fits breaks continues (block es) = all_fit breaks continues es
    fits breaks continues (sequence es) = all_fit breaks continues es
    fits breaks continues (declare i t e) =
        nat_le f.parameters i && same_type (slice_get f.scope.locals i) t && is_complete f.scope.classes t && (typing f.scope e).start t
    fits breaks continues (once name e) = constant_starts (find (λ (x : Static). bytes_eq x.name name) f.scope.statics) (typing f.scope e)
    fits breaks continues (branch c a b) = is_condition (typing f.scope c) && fits breaks continues a && fits_maybe breaks continues b
    fits breaks continues (loop how c e s) = condition_fits c && expression_fits e && fits true true s
    fits breaks continues (switch e es) =
        is_integer (typing f.scope e) && labels_differ es && passes_none es && labelled_fit true continues es
    fits breaks continues leave = breaks
    fits breaks continues continue = continues
    fits breaks continues (give absent) = is_void f.result || f.is_main
    fits breaks continues (give (given e)) = (typing f.scope e).start f.result
    fits breaks continues e = false

    pub fits_maybe : Bool → Bool → MaybeCore → Bool
    fits_maybe breaks continues absent = true
    fits_maybe breaks continues (given s) = fits breaks continues s

    pub all_fit : Bool → Bool → Cores → Bool
    all_fit breaks continues none = true
    all_fit breaks continues (more s rest) = fits breaks continues s && all_fit breaks continues rest

    -- the statements and labels of a switch's own block
    pub labelled_fit : Bool → Bool → Cores → Bool
    labelled_fit breaks continues none = true
    labelled_fit breaks continues (more s rest) = (is_label s || fits breaks continues s) && labelled_fit breaks continues rest

  -- each part that an initialiser stands for, in the order of building and once at most (12.6.2)
  abbrev pub built_in_order : List BuiltPart → Parts → Bool
  built_in_order xs no_parts = true
  built_in_order [] (part w e rest) = false
  built_in_order (x ∷ xs) (part w e rest) =
      elim (part_eq x.part w) [
        | true ↦ (typing f.scope e).start x.type && built_in_order xs rest
        | false ↦ built_in_order xs (part w e rest)
      ]

  abbrev pub body_fits : Role → Core → Bool
  body_fits (constructor c) (parts ps s) = built_in_order (building f.scope.classes c true) ps && fits false false s
  body_fits (constructor c) e = false
  body_fits role e = fits false false e

-- Functions and objects.

abbrev pub class_of_role : Role → Option Name
class_of_role plain_function = None
class_of_role (member_function c) = Some c
class_of_role (constructor c) = Some c
class_of_role (destructor c) = Some c

abbrev pub role_fits : List Class → Option Name → Bool
role_fits classes None = true
role_fits classes (Some c) = is_some (class_named classes c)

abbrev pub body_of : CoreFile → Function → Body
body_of file f = record {
  scope = record { classes = file.classes; statics = file.statics; locals = parameters f.type ++ f.locals; this = class_of_role f.role };
  parameters = length (parameters f.type);
  result = result f.type;
  is_main = bytes_eq f.name (codes "__main");
}

abbrev pub result_fits : List Class → SourceType → Bool
result_fits classes t = is_void t || is_complete classes t

abbrev pub function_fits : CoreFile → Function → Bool
function_fits file f =
    is_function f.type
    && role_fits file.classes (class_of_role f.role)
    && list_all (is_complete file.classes) (parameters f.type ++ f.locals)
    && result_fits file.classes (result f.type)
    && body_fits (body_of file f) f.role f.body

abbrev pub owner_fits : CoreFile → Option Name → Bool
owner_fits file None = true
owner_fits file (Some name) = list_any (λ (f : Function). bytes_eq f.name name) file.functions

-- The initialiser of a local object may stand in its function (6.7).
abbrev pub static_fits : CoreFile → Static → Bool
static_fits file x =
    is_complete file.classes x.type
    && ((is_some x.owner && is_nothing x.start)
    || (typing (record { classes = file.classes; statics = file.statics; locals = []; this = None }) x.start).start x.type)
    && owner_fits file x.owner

-- The core of a file is valid.
abbrev pub valid_file : CoreFile → Bool
valid_file file =
    classes_fit [] file.classes
    && list_all (λ (c : Class). overriders_exist file.classes c.code) file.classes
    && all_differ (map (λ (f : Function). f.name) file.functions ++ map (λ (x : Static). x.name) file.statics)
    && list_all (function_fits file) file.functions
    && list_all (static_fits file) file.statics
