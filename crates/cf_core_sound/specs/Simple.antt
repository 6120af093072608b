-- The expressions whose soundness is told: those over numbers and pointers, with names, literals, temporaries and calls, and no class.
use Rattle.std.specs.Prelude.{Bool, true, false, ◌&&◌, ◌||◌, not, nat_le, length, Option, Some, None, is_some}
use Rattle.cf_core.specs.Types.{Name, SourceType, pointer, takes, gives, plain, result, is_class, is_void, same_but_const}
use Rattle.cf_core.specs.Core as core
use Rattle.cf_core.specs.Core.{Core, Cores, no_temporary, absent}
use Rattle.cf_core.specs.Places.{is_reference}
use Rattle.cf_core.specs.Calls.{Program, is_library, function_named}
use Rattle.cf_core.specs.Objects.{static_number}
use Rattle.cf_core.specs.Typing.{Scope, is_function}
use Rattle.cf_core_sound.specs.Forms.{points, form}
use Rattle.cf_core_sound.specs.Proper.{most, is_proper}
use Rattle.cf_core_sound.specs.Values.{library_type}

-- a function type: its parameters, and then its result
abbrev pub is_chain : SourceType → Bool
is_chain (takes p t) = is_chain t
is_chain (gives t c) = true
is_chain t = false

abbrev pub is_whole : SourceType → Bool
is_whole t = is_proper t && not (is_reference t)

-- a function of the library is named with its own type
abbrev pub library_fits : Name → SourceType → Bool
library_fits name t = not (is_library name) || same_but_const (library_type name) t

-- a function's type, with a result that is no class
abbrev pub is_called_type : SourceType → Bool
is_called_type t = not (is_class (result t)) && (is_chain t && is_proper t)

abbrev pub leads_to_void : SourceType → Bool
leads_to_void (pointer t) = is_void t
leads_to_void t = false

abbrev pub leads_to_function : Option SourceType → Bool
leads_to_function None = false
leads_to_function (Some t) = is_function t

-- the program has an object or a function of this name
abbrev pub has_object : Program → Name → Bool
has_object P name = is_some (static_number P name)

abbrev pub has_function : Program → Name → Bool
has_function P name = is_library name || is_some (function_named P name)

-- a function that the program has is named, and one of the library with its own type
abbrev pub function_fits : Program → Name → SourceType → Bool
function_fits P name t = has_function P name && library_fits name t

module _ (P : Program) (scope : Scope) where
  -- no pointer to a function becomes one to void, by the form of what is converted
  abbrev pub keeps_functions : SourceType → Core → Bool
  keeps_functions t e = not (leads_to_void (plain t) && leads_to_function (points (form scope.locals e)))

  abbrev mutual
    pub is_simple : Core → Bool
    is_simple (core.number z) = true
    is_simple (core.local i) = true
    is_simple (core.text j bytes) = nat_le (length bytes) most
    is_simple (core.static_object name t) = is_proper t && has_object P name
    is_simple (core.function name t) = is_proper t && function_fits P name t
    is_simple (core.read e) = is_simple e
    is_simple (core.address e) = is_simple e
    is_simple (core.dereference e) = is_simple e
    is_simple (core.decay e) = is_simple e
    is_simple (core.from_void t e) = is_whole t && (not (is_function t) && is_simple e)
    is_simple (core.index a b) = is_simple a && is_simple b
    is_simple (core.pointer_operate op a b) = is_simple a && is_simple b
    is_simple (core.convert t e) = is_whole t && (keeps_functions t e && is_simple e)
    is_simple (core.operate op k a b) = is_simple a && is_simple b
    is_simple (core.unary op k e) = is_simple e
    is_simple (core.logical_not e) = is_simple e
    is_simple (core.logical_and a b) = is_simple a && is_simple b
    is_simple (core.logical_or a b) = is_simple a && is_simple b
    is_simple (core.conditional c a b) = is_simple c && (is_simple a && is_simple b)
    is_simple (core.comma es) = are_simple es
    is_simple (core.store a b) = is_simple a && is_simple b
    is_simple (core.update a c b) = is_simple a && is_simple b
    is_simple (core.step is_postfix c e) = is_simple e
    is_simple (core.temporary t e) = is_whole t && is_simple e
    is_simple (core.bind no_temporary e) = is_simple e
    is_simple (core.call name t absent args) = is_called_type t && (function_fits P name t && are_arguments args)
    is_simple (core.pointer_call absent e t args) = is_called_type t && (is_simple e && are_arguments args)
    is_simple e = false

    -- an expression's parts: one at least
    pub are_simple : Cores → Bool
    are_simple core.none = false
    are_simple (core.more e core.none) = is_simple e
    are_simple (core.more e (core.more f es)) = is_simple e && are_simple (core.more f es)

    pub are_arguments : Cores → Bool
    are_arguments core.none = true
    are_arguments (core.more e es) = is_simple e && are_arguments es
