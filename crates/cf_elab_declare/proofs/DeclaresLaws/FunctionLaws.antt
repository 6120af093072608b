-- Declarations of functions.
use Rattle.std.proofs.Common.{◌≡◌, ℕ, Bool, true, false, List, [], None, Some, All, if◌then◌else◌, refl, sym, ap, subst, ◌∙◌, arith}
use Rattle.cf_syntax.specs.declared.name.Last.{Last}
use Rattle.cf_syntax.specs.declared.name.Last.TheVariants as last
use Rattle.cf_syntax.specs.declared.name.Name.{Name as WrittenName}
use Rattle.std.specs.Option.{option_map_or}
use Rattle.cf_types.specs.Table.{Table}
use Rattle.cf_elab.specs.Answer.{Answer, Made, onward}
use Rattle.cf_elab.specs.Built.{of_name}
use Rattle.cf_elab.specs.Declaration as declaration
use Rattle.cf_elab.specs.Env.{Env}
use Rattle.cf_elab.specs.Functions.{Says}
use Rattle.cf_elab.specs.Operand.{sort_of}
use Rattle.cf_elab.specs.Shape.{Parameter, Shape, inner, pointing, referring, to_member, taking, holding, is_inner, function_of}
use Rattle.cf_elab.specs.Specifiers.{Gathered}
use Rattle.cf_elab_declare.specs.Declares.Shut as shut
use Rattle.cf_elab_env.specs.Holds.{Grows, IsEnv, IsFunctionSort, IsType}
use Rattle.cf_elab_env.specs.Shut as made
use Rattle.cf_elab_declare.proofs.DeclaresLaws.NameLaws.{is_identifier}
use Rattle.cf_elab_env.proofs.Growth.{grown_laws, All-into}
use Rattle.cf_elab_functions.specs.Seen.{NoDefault}
use Rattle.cf_elab_functions.specs.Shut as functions
use Rattle.cf_elab_functions.proofs.Without.{without}
use Rattle.cf_elab_shape.specs.Shapes.Holds.{IsParameter, IsShape}
use Rattle.cf_elab_shape.proofs.ShapesLaws.TypedLaws.{shape_grown}

-- ---- a name that is built is a plain one

plain_is : (n : WrittenName) (env : Env) → of_name n ≡ None → declaration.need_plain_name n.last n.last_at env ≡ Made tt env
plain_is n env built = by n.last refl
  where
    by : (l : Last) → n.last ≡ l → declaration.need_plain_name l n.last_at env ≡ Made tt env
    by (last.Ident name) is = refl
    by (last.Operator k) is = refl
    by (last.Destructor name) is = absurd (is_identifier n built (λ other h. cc))
    by (last.Conversion ss ps) is = absurd (is_identifier n built (λ other h. cc))

module _ (g : Gathered) (n : WrittenName) (t : ℕ) (s : Shape) (initialised : Bool) (env : Env) where
  abbrev behind_name : Env → Answer (Unit {0})
  behind_name env =
      onward (made.int env) (λ i env. onward (functions.declare_function i (declaration.function_says g n t s false initialised) env) (λ _ env. Made tt env))

  pub row_is : of_name n ≡ None → shut.function_declared g n t s initialised env ≡ behind_name env
  unfolding shut.function_declared made.int
  row_is built = ap (λ a. onward a (λ _. behind_name)) (plain_is n env built)

pub function_grown : (a b : Table) (t : ℕ) → Grows a b → IsType a t → IsFunctionSort (sort_of a t) → IsFunctionSort (sort_of b t)
function_grown a b t g k h = subst IsFunctionSort (sym (g.sorts t k)) h

pub types_grown : (a b c : Table) → Grows a b → c ≡ b → Grows a c
types_grown a b c g is = subst (λ c. Grows a c) (sym is) g

pub ruleset row_laws = (row_is, function_grown, types_grown, shape_grown, grown_laws)

-- ---- parameters without default arguments don't matter

none_given : All NoDefault []
none_given = λ i d w. absurd (omega arith)

pub no_defaults : (types : Table) (s : Shape) → IsShape types s → All NoDefault (declaration.parameters_of s)
no_defaults types inner k = none_given
no_defaults types (pointing at c s) k = no_defaults types s k
no_defaults types (referring at s) k = no_defaults types s k
no_defaults types (to_member at c const s) k = no_defaults types s k
no_defaults types (holding at b s) k = no_defaults types s k
no_defaults types (taking at ps c s) k = by (is_inner s) (no_defaults types s k.1)
  where
    by : (b : Bool) → All NoDefault (declaration.parameters_of s) → All NoDefault (option_map_or (λ (ps : List Parameter). ps) (if b then Some ps else function_of s) [])
    by true inside = All-into (IsParameter types) NoDefault ps (λ p h. h.no_default) k.0
    by false inside = inside

pub said : (i : ℕ) (g : Gathered) (n : WrittenName) (t : ℕ) (s : Shape) (defines initialised : Bool) (x : Says) (env : Env) → IsEnv env → IsShape env.types s
    → x ≡ record (declaration.function_says g n t s defines initialised) { parameters = [] }
    → functions.declare_function i (declaration.function_says g n t s defines initialised) env ≡ functions.declare_function i x env
said i g n t s defines initialised x env e k is =
    without env e (declaration.function_says g n t s defines initialised) (no_defaults env.types s k) i ∙ ap (λ d. functions.declare_function i d env) (sym is)
