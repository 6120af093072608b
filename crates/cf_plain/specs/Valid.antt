-- Validity of the plain statements of a file: what is numbered is there, locals have the types that they are used with, and each way out of a loop or
-- switch stands in one.
use Rattle.std.specs.Prelude.{ℕ, Bool, true, false, ◌&&◌, ◌||◌, not, nat_lt, List, [], ◌∷◌, ◌++◌, map, length, Option, Some, None, slice_get}
use Rattle.std.specs.List.{list_all}
use Rattle.cf_core.specs.Types.{SourceType, same_but_const, parameters, result as result_type}
use Rattle.cf_core.specs.Classes.{Class}
use Rattle.cf_core.specs.Core.{Role, constructor}
use Rattle.cf_core.specs.Places.{part_eq}
use Rattle.cf_core.specs.Building.{BuiltPart, building}
use Rattle.cf_core.specs.Typing.{is_function}
use Rattle.cf_core.specs.Valid.{classes_fit, overriders_exist, all_differ, is_complete, role_fits, class_of_role, result_fits}
use Rattle.cf_plain.specs.Plain.{Action, local, declare, finish, call, virtual_call, pointer_call, build, Plain, Plains, PlainParts, act, set, branch, loop, switch, case_label, default_label, leave, continue, give, parts, nothing, more, no_parts, part, PlainFunction, PlainStatic, PlainFile}
use Rattle.cf_plain.specs.Running.{has_case}

-- whether a local is there and has this type, which may differ in const
abbrev pub is_of : Option SourceType → SourceType → Bool
is_of None t = false
is_of (Some u) t = same_but_const u t

module _ (locals : List SourceType) where
  -- the locals that are the objects of parameters of these types
  abbrev pub are_arguments : List SourceType → List ℕ → Bool
  are_arguments [] [] = true
  are_arguments (t ∷ ts) (i ∷ is) = is_of (slice_get locals i) t && are_arguments ts is
  are_arguments ts is = false

  abbrev pub action_fits : Action → Bool
  action_fits (local i) = nat_lt i (length locals)
  action_fits (declare i t) = is_of (slice_get locals i) t
  action_fits (finish t i) = is_of (slice_get locals i) t
  action_fits (call f t object is into) = are_arguments (parameters t) is
  action_fits (virtual_call f t object is into) = are_arguments (parameters t) is
  action_fits (pointer_call object r t is into) = are_arguments (parameters t) is
  action_fits (build f t r is) = are_arguments (parameters t) is
  action_fits a = true

  abbrev pub is_label : Plain → Bool
  is_label (case_label z) = true
  is_label default_label = true
  is_label s = false

  abbrev pub has_default : Plains → Bool
  has_default nothing = false
  has_default (more default_label rest) = true
  has_default (more s rest) = has_default rest

  -- no label twice (6.4.2)
  abbrev pub labels_differ : Plains → Bool
  labels_differ nothing = true
  labels_differ (more (case_label z) rest) = not (has_case z rest) && labels_differ rest
  labels_differ (more default_label rest) = not (has_default rest) && labels_differ rest
  labels_differ (more s rest) = labels_differ rest

  abbrev mutual
    -- a statement, where `break` and `continue` may stand or not (6.6)
    pub fits : Bool → Bool → Plain → Bool
    fits breaks continues (act a) = action_fits a
    fits breaks continues (set r a) = action_fits a
    fits breaks continues (branch r ss ts) = all_fit breaks continues ss && all_fit breaks continues ts
    fits breaks continues (loop ss ts) = all_fit true true ss && all_fit true false ts
    fits breaks continues (switch r ss) = labels_differ ss && labelled_fit continues ss
    fits breaks continues leave = breaks
    fits breaks continues continue = continues
    fits breaks continues (give r) = true
    fits breaks continues s = false

    pub all_fit : Bool → Bool → Plains → Bool
    all_fit breaks continues nothing = true
    all_fit breaks continues (more s rest) = fits breaks continues s && all_fit breaks continues rest

    -- the statements and labels of a switch
    pub labelled_fit : Bool → Plains → Bool
    labelled_fit continues nothing = true
    labelled_fit continues (more s rest) = (is_label s || fits true continues s) && labelled_fit continues rest

  -- each part in the order of building and once at most (12.6.2)
  abbrev pub built_in_order : List BuiltPart → PlainParts → Bool
  built_in_order xs no_parts = true
  built_in_order [] (part w ss rest) = false
  built_in_order (x ∷ xs) (part w ss rest) =
      elim (part_eq x.part w) [
        | true ↦ all_fit false false ss && built_in_order xs rest
        | false ↦ built_in_order xs (part w ss rest)
      ]

  abbrev pub body_fits : List Class → Role → Plains → Bool
  body_fits classes (constructor c) (more (parts ps) ss) = built_in_order (building classes c true) ps && all_fit false false ss
  body_fits classes (constructor c) ss = false
  body_fits classes role ss = all_fit false false ss

abbrev pub function_fits : PlainFile → PlainFunction → Bool
function_fits file f =
    is_function f.type
    && role_fits file.classes (class_of_role f.role)
    && list_all (is_complete file.classes) (parameters f.type ++ f.locals)
    && result_fits file.classes (result_type f.type)
    && body_fits (parameters f.type ++ f.locals) file.classes f.role f.body

abbrev pub static_fits : PlainFile → PlainStatic → Bool
static_fits file x = is_complete file.classes x.type && list_all (is_complete file.classes) x.locals && all_fit x.locals false false x.start

-- The plain statements of a file are valid.
abbrev pub valid_file : PlainFile → Bool
valid_file file =
    classes_fit [] file.classes
    && list_all (λ (c : Class). overriders_exist file.classes c.code) file.classes
    && all_differ (map (λ (f : PlainFunction). f.name) file.functions ++ map (λ (x : PlainStatic). x.name) file.statics)
    && list_all (function_fits file) file.functions
    && list_all (static_fits file) file.statics
