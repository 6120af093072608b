-- The programs whose soundness is told: without classes, each function and setting is typed and simple, and `main` takes nothing and gives an int.
use Rattle.std.specs.Prelude.{Bool, true, false, ◌&&◌, not, [], Option, Some, None, codes}
use Rattle.std.specs.List.{list_all}
use Rattle.cf_base.specs.declared.kind.Kind.TheVariants.{Int}
use Rattle.cf_core.specs.Types.{integer, gives, type_eq}
use Rattle.cf_core.specs.Core.{Role, plain_function, member_function, constructor, destructor, Function, Static, CoreFile}
use Rattle.cf_core.specs.Places.{is_reference}
use Rattle.cf_core.specs.Calls.{Setting, Program, function_named}
use Rattle.cf_core.specs.Objects.{static_type}
use Rattle.cf_core.specs.Typing.{Scope}
use Rattle.cf_core.specs.Typed.{typing}
use Rattle.cf_core.specs.Valid.{body_of, fits}
use Rattle.cf_core_sound.specs.Simple.{is_chain, has_object}
use Rattle.cf_core_sound.specs.Statements.{is_object, is_simple_initial, is_simple_statement}
use Rattle.cf_core_sound.specs.Calls.{frame_types}

abbrev pub is_plain_role : Role → Bool
is_plain_role plain_function = true
is_plain_role (member_function c) = false
is_plain_role (constructor c) = false
is_plain_role (destructor c) = false

-- what a program's functions may name
abbrev pub in_program : Program → CoreFile
in_program P = record { classes = P.classes; functions = P.functions; statics = P.statics }

abbrev pub is_sound_function : Program → Function → Bool
is_sound_function P f =
    is_plain_role f.role && (is_chain f.type && (list_all is_object (frame_types f)
    && (is_simple_statement P (body_of (in_program P) f).scope f.body && fits (body_of (in_program P) f) false false f.body)))

abbrev pub is_sound_static : Static → Bool
is_sound_static x = is_object x.type && not (is_reference x.type)

-- a setting is outside of all functions
abbrev pub outside : Program → Scope
outside P = record { classes = P.classes; statics = P.statics; locals = []; this = None }

abbrev pub is_sound_setting : Program → Setting → Bool
is_sound_setting P x =
    has_object P x.object && (is_simple_initial P (outside P) x.start && (typing (outside P) x.start).start (static_type P x.object))

abbrev pub is_main : Option Function → Bool
is_main None = false
is_main (Some f) = type_eq f.type (gives (integer Int) false)

abbrev pub is_sound_program : Program → Bool
is_sound_program P =
    is_main (function_named P (codes "__main"))
    && (list_all (is_sound_function P) P.functions && (list_all is_sound_static P.statics && list_all (is_sound_setting P) P.constants))
