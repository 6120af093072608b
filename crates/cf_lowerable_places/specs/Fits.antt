-- What is asked of the statements of a function, but that the registers that they set are below a bound, as they are.
use Rattle.std.specs.Prelude.{ℕ, Bool, true, ◌&&◌, if◌then◌else◌, List, Option, Some, None, bytes_eq, codes}
use Rattle.cf_core.specs.Types.{Name, SourceType}
use Rattle.cf_core.specs.Classes.{Class}
use Rattle.cf_core.specs.Calls.{is_library}
use Rattle.cf_core.specs.FromTypes.{type_of}
use Rattle.cf_lower_layout.specs.Sorts.{Sort, sort_of}
use Rattle.cf_plain.specs.Plain.{Action, call, pointer_call, Plain, set}
use Rattle.cf_lower.specs.Kept.{Kept, Keeping, Locals}
use Rattle.cf_lower_held.specs.declared.scene.Scene.{Scene}
use Rattle.cf_lower_held.specs.Scenes.{locals_in}
use Rattle.cf_lower_place.specs.View.{View}
use Rattle.cf_lower_place.specs.Leaf.{may_hold, may_set, is_leaf}
use Rattle.cf_lower_place.specs.Calls.{are_passed, is_code_for, library_fits, put_fits, exit_fits, get_fits}
use Rattle.cf_lower_place.specs.Named.{library_type, may_be_named, takes_locals}
use Rattle.cf_lower_types.specs.Bare.{classes_of}

module _ (locals : Locals) (given : Option Sort) (classes : List Class) where
  -- the bound is not asked for, so any number stands for it
  abbrev pub view_below : ℕ → View
  view_below n = record {
    locals = locals;
    bound = n;
    result = given;
    classes = classes;
    texts = λ j bytes. true;
    names = λ name t. may_be_named name t;
  }

  abbrev pub view : View
  view = view_below 0

  -- a call by name
  abbrev pub named_fits : Name → SourceType → List ℕ → Bool
  named_fits name t is =
      if is_library name then library_fits locals (bytes_eq name (codes "putchar")) (bytes_eq name (codes "exit")) t is
      else are_passed locals is && takes_locals locals t is

  -- a call through what a register holds
  abbrev pub pointed_fits : Kept → SourceType → List ℕ → Bool
  pointed_fits k t is =
      is_code_for t k
      && (get_fits locals (library_type (codes "getchar")) t is
      && (put_fits locals (library_type (codes "putchar")) t is
      && (exit_fits locals (library_type (codes "exit")) t is && (are_passed locals is && takes_locals locals t is))))

  -- a register is set by an action
  abbrev pub set_fits : Keeping → Action → Bool
  set_fits h (call name t None is None) = named_fits name t is
  set_fits h (pointer_call None p t is None) = pointed_fits (h p) t is
  set_fits h a = may_set view h a

  abbrev pub statement_fits : Keeping → Plain → Bool
  statement_fits h (set q a) = set_fits h a
  statement_fits h s = is_leaf view h s

-- the same of the function that a scene is of
abbrev pub given_in : Scene → Option Sort
given_in x = sort_of (type_of x.tables.now x.result)

abbrev pub view_in : Scene → View
view_in x = view (locals_in x) (given_in x) (classes_of x.tables.now)

abbrev pub fits_in : Scene → Keeping → Plain → Bool
fits_in x = statement_fits (locals_in x) (given_in x) (classes_of x.tables.now)

-- whether a function that gives this returns what a register holds
abbrev pub takes_given : Option Sort → Kept → Bool
takes_given None k = true
takes_given (Some u) k = may_hold (Some u) k
