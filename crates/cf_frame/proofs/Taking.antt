-- The parameters of a function type.
use Rattle.std.proofs.Common.{◌≡◌, Bool, List, [], ◌∷◌, refl, ap}
use Rattle.cf_core.specs.Types.{SourceType, gives, parameters}
use Rattle.cf_core.specs.FromTypes.{taking}

pub taking-parameters : (ps : List SourceType) (t : SourceType) (c : Bool) → parameters (taking ps (gives t c)) ≡ ps
taking-parameters [] t c = refl
taking-parameters (p ∷ ps) t c = ap (λ qs. p ∷ qs) (taking-parameters ps t c)
