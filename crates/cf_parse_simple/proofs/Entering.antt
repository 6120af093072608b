-- What is entered depends on the names alone, and on the class whose members are read.
use Rattle.std.proofs.Common.{◌≡◌, ℕ, List, [], ◌∷◌, None, refl}
use Rattle.cf_syntax.specs.declared.specifier.TypeSpecifier.{TypeSpecifier}
use Rattle.cf_syntax.specs.declared.specifier.TypeSpecifier.TheVariants as specifier
use Rattle.cf_enter.specs.Steps.{known_by}
use Rattle.cf_unit.specs.declared.reading.Given.{Given}
use Rattle.cf_unit.specs.Declares.{Shape}
use Rattle.cf_unit.specs.Enters.{entered_names, given_one}
use Rattle.cf_unit.specs.Known.{Known, with_names}

pub entered_by : (home : ℕ) (g : Given) (k : Known) (s : Shape) (all : List (List ℕ))
    → entered_names home g (known_by k.names k.own) s all ≡ entered_names home g k s all
entered_by home g k s [] = refl
entered_by home g k s (name ∷ more) = refl

pub given_by : (g : Given) (k : Known) (w : TypeSpecifier) → (given_one g (known_by k.names None) w).0 ≡ (given_one g k w).0
given_by g k (specifier.Storage at w) = refl
given_by g k (specifier.Const at) = refl
given_by g k (specifier.Basic at b) = refl
given_by g k (specifier.Elaborated at c path) = refl
given_by g k (specifier.Named path) = refl

pub known_by_given : (g : Given) (k : Known) (w : TypeSpecifier) → with_names k (given_one g (known_by k.names None) w).1.names ≡ (given_one g k w).1
known_by_given g k (specifier.Storage at w) = refl
known_by_given g k (specifier.Const at) = refl
known_by_given g k (specifier.Basic at b) = refl
known_by_given g k (specifier.Elaborated at c path) = refl
known_by_given g k (specifier.Named path) = refl
