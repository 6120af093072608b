-- What a name is declared as.
use Rattle.std.proofs.Common.{◌≡◌, ℕ, Bool, true, false, List, [], Option, refl, ap, ◌∙◌}
use Rattle.cf_syntax.specs.declared.name.Last.{Last}
use Rattle.cf_syntax.specs.declared.name.Last.TheVariants as last
use Rattle.cf_syntax.specs.declared.name.Name.{Name as WrittenName}
use Rattle.cf_unit.specs.declared.initialiser.Initialiser.{Initialiser}
use Rattle.cf_elab.specs.Answer.{Elab, Made, onward, gives, ◌>>=◌, ◌>>◌}
use Rattle.cf_elab.specs.Declaration as declaration
use Rattle.cf_elab.specs.Env.{Env, Name}
use Rattle.cf_elab.specs.Objects.{Reached}
use Rattle.cf_elab.specs.Operand.{Sort, sort_of, is_function, function_sort}
use Rattle.cf_elab.specs.Shape.{Shape, whole, unbounded}
use Rattle.cf_elab.specs.Specifiers.{Gathered, is_typedef}
use Rattle.cf_elab_declaration.specs.Declarators.Shut as shut
use Rattle.cf_elab_env.specs.Holds.{IsFunctionSort}
use Rattle.cf_elab_env.proofs.Growth.{grown_laws}
use Rattle.cf_elab_declaration.specs.WrittenTrees.Given.{given}

module _ (in_file : Bool) (g : Gathered) (n : WrittenName) (s : Shape) (i : Option Initialiser) (env : Env) where
  pub whole_is : (t : ℕ) → shut.by_shape in_file g n s i (whole t) env ≡ shut.by_kind in_file g n s i t env
  unfolding shut.by_shape shut.by_kind
  whole_is t = refl

  pub unbounded_is : (u : ℕ) → shut.by_shape in_file g n s i (unbounded u) env ≡ shut.unbounded in_file g n i u env
  unfolding shut.by_shape shut.unbounded
  unbounded_is u = refl

  module _ (t : ℕ) where
    -- as the definition has it
    abbrev kind_of : Bool → Bool → Elab (List Reached)
    kind_of true f = declaration.plain_name n n.last >>= (λ name. declaration.typedef_row name n.last_at t (given i)) >> gives []
    kind_of false true = declaration.function_row g n t s (given i) >> gives []
    kind_of false false = declaration.plain_name n n.last >>= (λ name. declaration.object_row in_file g name n.last_at t (declaration.parts_of (given i)) (given i))

    opened : shut.by_kind in_file g n s i t env ≡ kind_of (is_typedef g) (is_function (sort_of env.types t)) env
    unfolding shut.by_kind
    opened = refl

    pub typedef_is : (name : Name) → n.last ≡ last.Ident name → is_typedef g ≡ true
        → shut.by_kind in_file g n s i t env ≡ onward (shut.typedef_row name n.last_at t i env) (λ _ env. Made [] env)
    unfolding shut.typedef_row
    typedef_is name is h =
        opened ∙ ap (λ b. kind_of b (is_function (sort_of env.types t)) env) h
        ∙ ap (λ (l : Last). onward (onward (declaration.plain_name n l env) (λ name. declaration.typedef_row name n.last_at t (given i))) (λ _ env. let none : List Reached = [] in Made none env)) is

    pub function_there : is_typedef g ≡ false → is_function (sort_of env.types t) ≡ true
        → shut.by_kind in_file g n s i t env ≡ onward (shut.function_row g n t s i env) (λ _ env. Made [] env)
    unfolding shut.function_row
    function_there h f = opened ∙ ap (λ b. kind_of b (is_function (sort_of env.types t)) env) h ∙ ap (λ b. kind_of false b env) f

    pub object_there : is_typedef g ≡ false → is_function (sort_of env.types t) ≡ false → shut.by_kind in_file g n s i t env ≡ shut.object_row in_file g n t i env
    unfolding shut.object_row
    object_there h f = opened ∙ ap (λ b. kind_of b (is_function (sort_of env.types t)) env) h ∙ ap (λ b. kind_of false b env) f

pub function_type : (s : Sort) → is_function s ≡ true → IsFunctionSort s
function_type (function_sort f) h = tt
function_type other h = cc

pub ruleset shape_laws = (whole_is, unbounded_is)

pub ruleset kind_laws = (typedef_is, function_there, object_there, function_type, grown_laws)
