-- Fit with users' functions: one constructor or one conversion function (12.3).
use Rattle.std.specs.Prelude.{ℕ, false, List, [], ◌∷◌, Option, None, Some}
use Rattle.std.specs.Option.{option_map_or}
use Rattle.cf_types.specs.declared.ty.Ty.TheVariants as ty
use Rattle.cf_convert.specs.Converts.{base_path}
use Rattle.cf_convert.specs.UserConversion.{User, One, Nothing, Many, by_user}
use Rattle.cf_classes.specs.declared.path.Step.{Step}
use Rattle.cf_classes.specs.declared.class.MemberDef.{MemberDef}
use Rattle.cf_classes.specs.declared.class.MemberRef.{MemberRef}
use Rattle.cf_classes.specs.declared.class.What.{What}
use Rattle.cf_classes.specs.declared.class.What.TheVariants as what
use Rattle.cf_classes.specs.Signature.{member_params}
use Rattle.cf_core.specs.declared.node.Core.{Core as Node}
use Rattle.cf_core.specs.declared.node.Core.TheVariants as node
use Rattle.cf_elab.specs.Env.{Env, Default}
use Rattle.cf_elab.specs.Answer.{Elab, ◌>>=◌, ◌>>◌, gives, breaks, known}
use Rattle.cf_elab.specs.Made.{intern}
use Rattle.cf_elab.specs.Operand.{Value, val, defs, computed, result_value, sort_of}
use Rattle.cf_elab.specs.Fit.{fit_by, no_user, converted}
use Rattle.cf_elab.specs.Initial.{Start, Keeper, initial_by, no_keeper}
use Rattle.cf_elab.specs.Arguments.{arguments_by, fun_at, result_of}
use Rattle.cf_elab.specs.Members.{class_defs, need_use, base_at, class_number}
use Rattle.cf_elab.specs.MethodNode.{member_at, method_link, defaults_in, on_object, object_place}

-- the argument of a serving function is converted without another user's function
abbrev pub standard_initial : ℕ → ℕ → Value → Elab Start
standard_initial at t v = initial_by (fit_by no_user) no_keeper at t v

-- an object that a constructor makes of the value
abbrev pub by_constructor : ℕ → Value → MemberRef → MemberDef → Elab Value
by_constructor at v m d = do
  env ← known
  args ← arguments_by standard_initial at (member_params env.types d) (defaults_in env m) (v ∷ [])
  t ← intern (ty.Class m.class)
  gives (computed at (node.Build at (method_link env m d) d.ty args) t)

-- what a conversion function of the value's class, or of a base of it, gives
abbrev pub path_to : Env → Option ℕ → ℕ → List Step
path_to env None c = []
path_to env (Some d) c = option_map_or (λ p. p) (base_path (class_defs env) d c) []

abbrev pub by_conversion : ℕ → Value → MemberRef → MemberDef → Elab Value
by_conversion at v m d = do
  env ← known
  o ← base_at at (path_to env (class_number (sort_of env.types v.type)) m.class) (object_place v)
  gives (result_value env.types at (on_object at false env m d o.node []) (result_of (fun_at env.types d.ty)))

abbrev pub by_what : ℕ → Value → MemberRef → MemberDef → What → Elab Value
by_what at v m d what.Constructor = by_constructor at v m d
by_what at v m d other = by_conversion at v m d

abbrev pub by_member : ℕ → Value → MemberRef → Option MemberDef → Elab Value
by_member at v m None = breaks 13 at
by_member at v m (Some d) = by_what at v m d d.what

-- a conversion function is used on the object, and named in its class; a constructor is named in its own
abbrev pub use_of : Env → ℕ → MemberRef → Option ℕ → Option MemberDef → Elab (Unit {0})
use_of env at m (Some c) (Some d) = by_kind d.what
  where
    by_kind : What → Elab (Unit {0})
    by_kind what.Convert = need_use at m c (Some c)
    by_kind other = need_use at m m.class None
use_of env at m c d = need_use at m m.class None

-- several are K41; access; and then its own conversion to the type
abbrev pub by_function : ℕ → Value → ℕ → User → Elab Value
by_function at v t Nothing = no_user at v t
by_function at v t Many = breaks 41 at
by_function at v t (One s) = do
  env ← known
  use_of env at s.function (class_number (sort_of env.types v.type)) (member_at env s.function)
  x ← by_member at v s.function (member_at env s.function)
  converted at t s.after x

abbrev pub user_value : ℕ → Value → ℕ → Elab Value
user_value at v t = known >>= (λ env. by_function at v t (by_user env.types (defs env) (val v) t))

-- Fit: the value as one of the type; else the rule is broken at the place
abbrev pub fit : ℕ → Value → ℕ → Elab Value
fit at v t = fit_by user_value at v t

-- the initialiser of an object or reference of the type by a value
abbrev pub initial : (ℕ → Elab Keeper) → ℕ → ℕ → Value → Elab Start
initial keeper at t v = initial_by fit keeper at t v

-- the arguments of a call, and for the last parameters without one their default arguments
abbrev pub arguments : ℕ → List ℕ → List Default → List Value → Elab (List Node)
arguments at ps ds vs = arguments_by (initial no_keeper) at ps ds vs
