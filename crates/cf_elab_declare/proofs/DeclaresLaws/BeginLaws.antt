-- Objects before their initialisers.
use Rattle.std.proofs.Common.{◌≡◌, Bool, true, false, not, ◌&&◌, if◌then◌else◌, refl, ap, ◌∙◌}
use Rattle.cf_elab.specs.Answer.{Answer, Elab, Made, onward}
use Rattle.cf_elab.specs.Env.{Env, Name}
use Rattle.cf_elab.specs.Objects as elaborated
use Rattle.cf_elab.specs.Objects.{Says}
use Rattle.cf_elab_declare.specs.Declares.Begun.{Begun, only_declared, of_file, static_local, local}
use Rattle.cf_elab_declare.specs.Declares.Shut as shut
use Rattle.cf_elab_declare.specs.Defines.Shut as define
use Rattle.cf_elab_objects.specs.Links.Shut as links
use Rattle.cf_elab_objects.specs.Objects.Shut as objects

module _ (d : Says) (env : Env) where
  abbrev in_block : Bool → Answer Begun
  in_block static =
      let run : Elab Begun = if static then (λ env. onward (define.begin_static_local d.at d.name d.type env) (λ n env. Made (static_local n) env))
      else (λ env. onward (define.begin_local d.at d.name d.type env) (λ i env. Made (local i) env)) in run env

  pub static_is : d.is_static ≡ true → shut.begin_in_block d env ≡ onward (define.begin_static_local d.at d.name d.type env) (λ n env. Made (static_local n) env)
  unfolding shut.begin_in_block
  static_is h = ap in_block h

  pub automatic_is : d.is_static ≡ false → shut.begin_in_block d env ≡ onward (define.begin_local d.at d.name d.type env) (λ i env. Made (local i) env)
  unfolding shut.begin_in_block
  automatic_is h = ap in_block h

  module _ (in_file : Bool) where
    abbrev by_tests : Bool → Bool → Bool → Answer Begun
    by_tests extern defines file =
        let run : Elab Begun = if extern && not defines then (λ env. onward (objects.declare_linked d env) (λ _ env. Made only_declared env))
        else (if file then (λ env. onward (objects.declare_linked d env) (λ internal env. Made (of_file internal) env)) else shut.begin_in_block d) in run env

    opened : shut.begin in_file d env ≡ by_tests d.is_extern d.defines in_file
    unfolding shut.begin
    opened = refl

    pub declared_is : d.is_extern ≡ true → d.defines ≡ false → shut.begin in_file d env ≡ onward (objects.declare_linked d env) (λ _ env. Made only_declared env)
    declared_is e f = opened ∙ ap (λ e. by_tests e d.defines in_file) e ∙ ap (λ f. by_tests true f in_file) f

    no_extern : (file : Bool) → d.is_extern ≡ false → shut.begin in_file d env ≡ by_tests false true in_file
    no_extern file e = opened ∙ ap (λ e. by_tests e d.defines in_file) e

    defining : (file : Bool) → d.defines ≡ true → shut.begin in_file d env ≡ by_tests false true in_file
    defining file f = opened ∙ ap (λ f. by_tests d.is_extern f in_file) f ∙ by d.is_extern
      where
        by : (e : Bool) → by_tests e true in_file ≡ by_tests false true in_file
        by true = refl
        by false = refl

    pub file_not_extern : d.is_extern ≡ false → in_file ≡ true → shut.begin in_file d env ≡ onward (objects.declare_linked d env) (λ internal env. Made (of_file internal) env)
    file_not_extern e f = no_extern in_file e ∙ ap (by_tests false true) f

    pub file_defined : d.defines ≡ true → in_file ≡ true → shut.begin in_file d env ≡ onward (objects.declare_linked d env) (λ internal env. Made (of_file internal) env)
    file_defined e f = defining in_file e ∙ ap (by_tests false true) f

    pub block_not_extern : d.is_extern ≡ false → in_file ≡ false → shut.begin in_file d env ≡ shut.begin_in_block d env
    block_not_extern e f = no_extern in_file e ∙ ap (by_tests false true) f

    pub block_defined : d.defines ≡ true → in_file ≡ false → shut.begin in_file d env ≡ shut.begin_in_block d env
    block_defined e f = defining in_file e ∙ ap (by_tests false true) f

-- the link name of an object
pub link_is : (name link : Name) → link ≡ links.variable_link name → link ≡ elaborated.variable_link name
unfolding links.variable_link
link_is name link h = h

pub ruleset block_laws = (static_is, automatic_is)

pub ruleset begin_laws = (link_is, declared_is, file_not_extern, file_defined, block_not_extern, block_defined)
