-- Which statements that are no control fit in a function of both programs: leaves by what registers hold before them, and calls by the functions of the
-- program.
use Rattle.std.specs.List.{list_all}
use Rattle.std.specs.Prelude.{ℕ, Bool, false, ◌&&◌, ◌||◌, not, List, Option, Some, None, is_some}
use Rattle.cf_core.specs.Types.{SourceType, same_but_const, parameters, result as result_type}
use Rattle.cf_core.specs.Core.{Function}
use Rattle.cf_core.specs.Calls.{function_named}
use Rattle.cf_plain.specs.Plain.{Plain}
use Rattle.cc_whole.specs.declared.types.CType.{CType}
use Rattle.cf_lower.specs.Kept.{Keeping}
use Rattle.cf_lower_place.specs.View.{Reach}
use Rattle.cf_lower_place.specs.Calls as place
use Rattle.cf_lower_place.specs.Calls.{types_passed, same_signature}
use Rattle.cf_lower_turns.specs.Scene.{Scene}
use Rattle.cf_lower_actions.specs.Leaf.{view_of}

module _ (z : Scene) where
  -- the function is there, and is passed what it takes where the call has its type
  abbrev pub called_well : Option Function → SourceType → List ℕ → Bool
  called_well None t is = false
  called_well (Some f) t is =
      not (same_but_const f.type t) || (types_passed z.body.own.locals is (parameters f.type) && same_but_const (result_type f.type) (result_type t))

  -- and where a pointer leads to it
  abbrev pub reached_well : SourceType → List ℕ → Function → Bool
  reached_well t is f = called_well (Some f) t is && (not (same_but_const f.type t) || same_signature t f.type)

  abbrev pub has_result : CType → Bool
  has_result t = is_some (z.body.flags.result t)

  abbrev pub reach_of : Reach
  reach_of = record {
    library = λ name. z.signature name;
    results = λ t. has_result t;
    called = λ name t is. called_well (function_named z.program name) t is;
    reached = λ t is. list_all (reached_well t is) z.program.functions;
  }

  abbrev pub fits : Keeping → Plain → Bool
  fits h s = place.fits (view_of z) reach_of h s
