-- What a table says of the labels of a `switch`.
use Rattle.std.specs.Prelude.{ℕ, Bool, false, nat_eq, unwrap_or}
use Rattle.std.specs.HashMap.{HashMap, get}

abbrev pub noted : {S : Type 0} → HashMap ℕ Bool S → ℕ → Bool
noted table label = unwrap_or (get nat_eq table label) false
