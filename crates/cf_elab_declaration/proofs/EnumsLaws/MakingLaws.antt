-- A new enumeration and its type.
use Rattle.std.proofs.Common.{◌≡◌, ℕ, ◌<◌, List, [], ◌∷◌, ◌++◌, length, Some, slice_get, unwrap_or, ap, ◌∙◌, arith, length-append, refl}
use Rattle.cf_classes.specs.declared.label.Label.{Label}
use Rattle.cf_types.specs.Table.{Table}
use Rattle.cf_types.specs.declared.ty.Ty.TheVariants as ty
use Rattle.cf_convert.specs.Constness.{type_at, bare}
use Rattle.cf_elab.specs.Answer.{Made, onward}
use Rattle.cf_elab.specs.ClassScope.{open_class}
use Rattle.cf_elab.specs.Env.{Env, Name}
use Rattle.cf_elab.specs.Operand.{sort_of, ty_sort, enumeral}
use Rattle.cf_elab_env.specs.Shut as made
use Rattle.cf_elab_env.proofs.Growth.{grown_laws}
use Rattle.cf_elab_specifiers.proofs.NamedLaws.NamedLaws.{names_enum}
use Rattle.cf_elab_declaration.specs.Enums.Shut as shut

pub new_is : (name : Name) (env : Env) → shut.new_type name env ≡ onward (made.new_enum name env) (λ e env. onward (made.intern (ty.Enum e) env) (λ t env. Made (e, t) env))
unfolding shut.new_type made.new_enum made.intern
new_is name env = refl

-- it is one of those that are declared
pub new_given : (name : Name) (env new : Env) (n : ℕ) → made.new_enum name env ≡ Made n new → n < length new.classes.enums
unfolding made.new_enum
new_given name env new n h =
    let more : List Label = record { name = name; outer = open_class env } ∷ [] in
    let number : length env.classes.enums ≡ n = cc in
    let state : record env { classes = record env.classes { enums = env.classes.enums ++ more } } ≡ new = cc in
    omega (arith, number, ap (λ (e : Env). length e.classes.enums) state, length-append env.classes.enums more)

pub sort_enum : (types : Table) (t e : ℕ) → slice_get types.types t ≡ Some (ty.Enum e) → sort_of types t ≡ enumeral e
sort_enum types t e h =
    let found : type_at types t ≡ ty.Enum e = ap (λ o. unwrap_or o ty.Void) h in
    let plain : bare types t ≡ t = rw found refl in
    ap (λ b. ty_sort types (type_at types b)) plain ∙ ap (ty_sort types) found

pub ruleset new_laws = (new_is, new_given, sort_enum, names_enum, grown_laws)
