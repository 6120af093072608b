-- An object of the file behind its declaration.
use Rattle.std.proofs.Common.{◌≡◌, Bool, Option, None, refl, sym, ap, ◌∙◌}
use Rattle.cf_core.specs.declared.unit.CoreStatic.{CoreStatic}
use Rattle.cf_elab.specs.Answer.{Made, onward}
use Rattle.cf_elab.specs.Env.{Env, Name}
use Rattle.cf_elab.specs.Initial.{Start}
use Rattle.cf_elab.specs.Objects as objects
use Rattle.cf_elab.specs.Objects.{Says, Written, variable_link}
use Rattle.cf_elab_env.specs.Shut as made
use Rattle.cf_elab_env.proofs.Growth.{grown_laws}
use Rattle.cf_elab_declare.specs.Starts.Shut as start
use Rattle.cf_elab_declare.specs.Starts.Written.{start_place}
use Rattle.cf_elab_declare.specs.Defines.Shut as shut

pub file_is : (d : Says) (internal : Bool) (w : Option Written) (env : Env)
    → shut.file_defined d internal w env
    ≡ onward (start.started (objects.static_keeper (variable_link d.name) None d.at) d.name d.at d.type w env)
    (λ s env. onward (start.check_constant (start_place w d.at) s env) (λ _ env. shut.file_added d internal s env))
unfolding shut.file_defined start.started start.check_constant
file_is d internal w env = refl

pub ruleset file_laws = (file_is, grown_laws)

pub added_is : (d : Says) (internal : Bool) (s : Start) (link : Name) (x : CoreStatic) (env next : Env) → link ≡ variable_link d.name
    → x ≡ objects.static_of link d.type s.node None s.is_constant internal → made.define_static x env ≡ Made tt next → shut.file_added d internal s env ≡ Made tt next
unfolding shut.file_added made.define_static
added_is d internal s link x env next is made h =
    ap (λ l. objects.define_static (objects.static_of l d.type s.node None s.is_constant internal) env) (sym is) ∙ ap (λ x. objects.define_static x env) (sym made) ∙ h

pub ruleset added_laws = (added_is)
