-- What a declarator with parameters declares.
use Rattle.std.proofs.Common.{◌≡◌, ℕ, Bool, true, false, cond, ◌||◌, List, refl}
use Rattle.cf_unit.specs.Declares.{Shape, called, covered}

pub name_of_function : (b : Bool) (d : Shape) (all : List (List ℕ)) → (cond b (called d all) (covered d)).name ≡ d.name
name_of_function true d all = refl
name_of_function false d all = refl

pub bare_of_function : (b : Bool) (d : Shape) (all : List (List ℕ)) → (cond b (called d all) (covered d)).is_bare ≡ false
bare_of_function true d all = refl
bare_of_function false d all = refl

pub params_of_function : (b : Bool) (d : Shape) (all : List (List ℕ)) → (cond b (called d all) (covered d)).has_params ≡ (b || d.has_params)
params_of_function true d all = refl
params_of_function false d all = refl
