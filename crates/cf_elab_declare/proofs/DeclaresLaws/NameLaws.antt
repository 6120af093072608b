-- Names that are built are identifiers that nothing qualifies.
use Rattle.std.proofs.Common.{◌≡◌, ℕ, Bool, true, false, List, [], ◌∷◌, None, Some, refl, if◌then◌else◌}
use Rattle.cf_syntax.specs.declared.name.Last.{Last}
use Rattle.cf_syntax.specs.declared.name.Last.TheVariants as last
use Rattle.cf_syntax.specs.declared.name.Name.{Name}
use Rattle.cf_elab.specs.Answer.{Made}
use Rattle.cf_elab.specs.Built.{Place, of_name, of_last, is_qualified}
use Rattle.cf_elab.specs.Declaration.{unqualified}
use Rattle.cf_elab.specs.Env.{Env}

abbrev by_test : Name → Bool → Place
by_test n q = if q then Some n.at else of_last n.at n.last

not_qualified : (n : Name) (q : Bool) → is_qualified n.from_file n.scopes ≡ q → by_test n q ≡ None → q ≡ false
not_qualified n true is h = cc
not_qualified n false is h = refl

last_built : (n : Name) (q : Bool) → by_test n q ≡ None → of_last n.at n.last ≡ None
last_built n true h = cc
last_built n false h = h

-- its last part is an identifier
pub is_identifier : (n : Name) → of_name n ≡ None → ((name : List ℕ) → n.last ≡ last.Ident name → ⊥) → ⊥
is_identifier n built other = by n.last refl (last_built n (is_qualified n.from_file n.scopes) built)
  where
    by : (l : Last) → n.last ≡ l → of_last n.at l ≡ None → ⊥
    by (last.Ident name) is h = other name is
    by (last.Destructor name) is h = cc
    by (last.Operator k) is h = cc
    by (last.Conversion ss ps) is h = cc

pub ruleset name_laws = (is_identifier)

-- and nothing stands before it
pub unqualified_is : (n : Name) (env : Env) → of_name n ≡ None → unqualified n env ≡ Made tt env
unqualified_is n env built = by n.from_file n.scopes (not_qualified n (is_qualified n.from_file n.scopes) refl built)
  where
    by : (from_file : Bool) (scopes : List (List ℕ)) → is_qualified from_file scopes ≡ false → unqualified (record n { from_file = from_file; scopes = scopes }) env ≡ Made tt env
    by false [] h = refl
    by true scopes h = cc
    by false (s ∷ rest) h = cc
