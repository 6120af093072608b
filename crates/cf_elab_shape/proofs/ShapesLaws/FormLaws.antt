-- What types may be made into, and K26.
use Rattle.std.proofs.Common.{◌≡◌, ℕ, Bool, true, false, not, ◌||◌, refl, ap}
use Rattle.cf_types.specs.Table.{Table}
use Rattle.cf_elab.specs.Answer.{Made, Refused, need}
use Rattle.cf_elab.specs.Env.{Env}
use Rattle.cf_elab.specs.Operand.{sort_of, is_array, is_function, is_void, is_reference}
use Rattle.cf_elab_shape.specs.Shapes.Shut as shut

pub is_fine : (b : Bool) (at : ℕ) (env : Env) → b ≡ true → shut.need_at b at env ≡ Made tt env
unfolding shut.need_at
is_fine b at env h = ap (λ b. need b 26 at env) h

pub is_wrong : (b : Bool) (at : ℕ) (env : Env) → b ≡ false → shut.need_at b at env ≡ Refused 26 at
unfolding shut.need_at
is_wrong b at env h = ap (λ b. need b 26 at env) h

pub points_is : (types : Table) (t : ℕ) → shut.points types t ≡ not (is_reference (sort_of types t))
unfolding shut.points
points_is types t = refl

pub refers_is : (types : Table) (t : ℕ) → shut.refers types t ≡ not (is_reference (sort_of types t) || is_void (sort_of types t))
unfolding shut.refers
refers_is types t = refl

pub returned_is : (types : Table) (t : ℕ) → shut.returned types t ≡ not (is_array (sort_of types t) || is_function (sort_of types t))
unfolding shut.returned
returned_is types t = refl

pub held_is : (types : Table) (t : ℕ) → shut.held types t ≡ not (is_reference (sort_of types t) || is_void (sort_of types t) || is_function (sort_of types t))
unfolding shut.held
held_is types t = refl

pub ruleset need_laws = (is_fine, is_wrong)

pub ruleset form_laws = (points_is, refers_is, returned_is, held_is)
