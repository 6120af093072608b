-- The store of a known value, by what the scalar is.
use Rattle.std.specs.Prelude.{List, [], ◌∷◌, Option}
use Rattle.cc_whole.specs.Plain.{Expression, Statement}
use Rattle.cf_lower.specs.Statements.{put}
use Rattle.cf_lower.specs.Written.{if_scalar}
use Rattle.cf_lower_layout.specs.Sorts.{Sort}

abbrev pub put_if : Option Sort → Expression → Expression → List Statement
put_if s p e = if_scalar s [] (λ t. put t p e ∷ [])
