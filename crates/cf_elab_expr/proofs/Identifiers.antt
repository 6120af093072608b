-- A name that is built is an identifier alone.
use Rattle.std.proofs.Common.{◌≡◌, ℕ, Bool, true, false, List, [], ◌∷◌, None, Some, refl, if◌then◌else◌}
use Rattle.cf_syntax.specs.declared.name.Last.TheVariants as last
use Rattle.cf_syntax.specs.declared.name.Name.{Name as WrittenName}
use Rattle.cf_elab.specs.Built as built

module _ (n : WrittenName) (h : built.of_name n ≡ None) where
  by : (file : Bool) (scopes : List (List ℕ)) → (if built.is_qualified file scopes then Some n.at else built.of_last n.at n.last) ≡ None
      → (file ≡ false) × (scopes ≡ []) × (built.of_last n.at n.last ≡ None)
  by false [] h = (refl, refl, h)
  by true [] h = cc
  by false (s ∷ rest) h = cc
  by true (s ∷ rest) h = cc

  pub of_no_file : n.from_file ≡ false
  of_no_file = (by n.from_file n.scopes h).0

  pub in_no_scope : n.scopes ≡ []
  in_no_scope = (by n.from_file n.scopes h).1

  pub plain_last : built.of_last n.at n.last ≡ None
  plain_last = (by n.from_file n.scopes h).2

pub no_destructor : (n : WrittenName) (name : List ℕ) → built.of_name n ≡ None → n.last ≡ last.Destructor name → ⊥
no_destructor n name h is = let e = rw is at (plain_last n h) in cc

pub ruleset name_laws = (of_no_file, in_no_scope, no_destructor)
