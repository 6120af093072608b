-- Items that need no others.
use Rattle.std.specs.Prelude.{◌≡◌, true, not, List, codes}
use Rattle.std.specs.List.{list_all}
use Rattle.cc_whole.specs.Plain.{Item}
use Rattle.cc_whole.specs.ValidUnit.{is_static, defined_in, uses_defined}

-- none is static, one defines `main`, and what they use is defined among them or a library function
pub record Closed (items : List Item) : Type 0 where
  pub no_static : list_all (λ i. not (is_static i)) items ≡ true
  pub main : defined_in items (codes "main") ≡ true
  pub uses : list_all (uses_defined items) items ≡ true
