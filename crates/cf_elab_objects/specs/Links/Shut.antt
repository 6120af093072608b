-- The link names that elaboration makes, and the pieces of them, each under a name of its own that does not unfold. `Rattle.cf_elab_objects.proofs.LinksLaws`
-- says what each is.
use Rattle.std.specs.Prelude.{ℕ, List, [], ◌∷◌, ◌++◌, codes, decimal, slice_get, Option, None, Some}
use Rattle.std.specs.List.{flat_map}
use Rattle.cf_base.specs.declared.limit.Bound.TheVariants as bound
use Rattle.cf_types.specs.Table.{Table}
use Rattle.cf_classes.specs.LinkName as link
use Rattle.cf_classes.specs.TypeTree.{fun_of, params_of}
use Rattle.cf_elab.specs.Answer.{Elab, ◌>>◌, gives, passes}
use Rattle.cf_elab.specs.Complete as complete
use Rattle.cf_elab.specs.Env.{Env, Name}
use Rattle.cf_elab.specs.Functions as functions
use Rattle.cf_elab.specs.Objects as objects

-- ---- types in link names

-- a type's code as text
unfoldable pub type_code : Env → ℕ → List ℕ
type_code env t = link.code (link.code_of env.types env.classes t)

-- those of several types, one behind the other
unfoldable pub type_codes : Env → List ℕ → List ℕ
type_codes env ts = flat_map (type_code env) ts

-- what stands before the elements' type in the code of an array
unfoldable pub bound_code : ℕ → List ℕ
bound_code count = codes "A" ++ decimal count ++ codes "_"

-- what an enumeration is called; one without a name is nothing
unfoldable pub label_code : Name → List ℕ
label_code [] = []
label_code (b ∷ bs) = link.counted (b ∷ bs)

unfoldable pub enum_code : Env → ℕ → List ℕ
enum_code env e = link.scope_code (link.enum_names env.classes e)

-- the parameters of a function type itself; of another type there are none
unfoldable pub params_at : Table → ℕ → List ℕ
params_at types t = params_of (fun_of types (slice_get types.types t))

-- the parameters of a function of this type, as its link name says them
unfoldable pub parameter_code : Env → ℕ → List ℕ
parameter_code env t = link.parameters (functions.parameter_codes (link.code_of env.types env.classes t))

-- ---- link names

unfoldable pub function_link : Env → link.Called → ℕ → Name
function_link = functions.function_link

unfoldable pub variable_link : Name → Name
variable_link = objects.variable_link

-- ---- the limit on names

unfoldable pub name_within : Name → Elab (Unit {0})
name_within = complete.name_within

-- the name, where it is within the limit
unfoldable pub name_or_limit : Name → Elab Name
name_or_limit name = complete.name_within name >> gives name

-- a text that is written, if it is no longer than a name may be
unfoldable pub ended : Option Name → Elab Name
ended None = passes bound.Names complete.most_name
ended (Some name) = gives name
