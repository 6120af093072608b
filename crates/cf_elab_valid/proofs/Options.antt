-- Options that are there, and those that are not.
use Rattle.std.proofs.Common.{◌≡◌, Some, None}

pub some_is : {A : Type 0} (x y : A) → Some x ≡ Some y → x ≡ y
some_is x y h = cc

pub none_some : {A : Type 0} (x : A) → None ≡ Some x → ⊥
none_some x h = cc

-- what is there is not missing
pub never_none : {A : Type 0} {B : Type 0} (x : A) → Some x ≡ None → B
never_none x h = absurd cc
