-- The type that the name of a static object has in its file is that of one of the file's objects.
use Rattle.std.proofs.Common.{◌≡◌, Bool, true, false, ◌||◌, cond, List, [], ◌∷◌, refl}
use Rattle.std.specs.Prelude.{Some, find, bytes_eq}
use Rattle.std.specs.List.{list_any}
use Rattle.cf_core.specs.Types.{Name, SourceType}
use Rattle.cf_core.specs.Core.{Static}
use Rattle.cf_sequence.specs.Statements.{type_of_static}
use Rattle.cf_sequence.proofs.Calling.{never}
use Rattle.cf_sequence.proofs.StaticObjects.{type_found}
use Rattle.cf_base.proofs.Tests.{bytes_same}
use Rattle.cf_sequence_lowered.proofs.Each.{Each, each-as}

abbrev is_named : Name → List Static → Bool
is_named name xs = list_any (λ (y : Static). bytes_eq y.name name) xs

or-right : (a b : Bool) → b ≡ true → a || b ≡ true
or-right true b e = refl
or-right false b e = e

or-left : (a b : Bool) → a ≡ true → a || b ≡ true
or-left true b e = refl
or-left false b e = never e

all-named : (xs : List Static) → Each (λ (x : Static). is_named x.name xs ≡ true) xs
all-named [] = tt
all-named (x ∷ xs) = (
  or-left (bytes_eq x.name x.name) (is_named x.name xs) (bytes_same x.name x.name refl),
  each-as (λ (y : Static). is_named y.name xs ≡ true) (λ (y : Static). is_named y.name (x ∷ xs) ≡ true) xs (λ y ok. or-right (bytes_eq x.name y.name) (is_named y.name xs) ok)
      (all-named xs),
)

module _ (P : SourceType → Type 0) where
  type-named : (xs : List Static) (name : Name) → Each (λ (x : Static). P x.type) xs → is_named name xs ≡ true → P (type_of_static xs name)
  type-named [] name p ok = never ok
  type-named (x ∷ xs) name p ok = by (bytes_eq x.name name) ok (λ later. type-named xs name p.1 later)
    where
      by : (b : Bool) → b || is_named name xs ≡ true → (is_named name xs ≡ true → P (type_of_static xs name))
          → P (type_found (cond b (Some x) (find (λ (x : Static). bytes_eq x.name name) xs)))
      by true ok go = p.0
      by false ok go = go ok

  pub types-named : (xs : List Static) → Each (λ (x : Static). P x.type) xs → Each (λ (x : Static). P (type_of_static xs x.name)) xs
  types-named xs p = each-as (λ (x : Static). is_named x.name xs ≡ true) (λ (x : Static). P (type_of_static xs x.name)) xs (λ x ok. type-named xs x.name p ok) (all-named xs)
