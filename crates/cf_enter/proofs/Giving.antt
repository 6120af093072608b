-- A specifier that is added step by step.
use Rattle.std.proofs.Common.{◌≡◌, refl}
use Rattle.cf_syntax.specs.declared.specifier.TypeSpecifier.{TypeSpecifier}
use Rattle.cf_syntax.specs.declared.specifier.TypeSpecifier.TheVariants as specifier
use Rattle.cf_unit.specs.declared.reading.Given.{Given}
use Rattle.cf_unit.specs.Known.{Known}
use Rattle.cf_unit.specs.Enters.{given_one}
use Rattle.cf_enter.specs.Steps.{given_by, type_of}

pub given_is : (g : Given) (k : Known) (w : TypeSpecifier) → (given_one g k w).0 ≡ given_by g w (type_of g.is_friend k.names w).0
given_is g k (specifier.Storage at w) = refl
given_is g k (specifier.Const at) = refl
given_is g k (specifier.Basic at b) = refl
given_is g k (specifier.Elaborated at c path) = refl
given_is g k (specifier.Named path) = refl

pub names_are : (g : Given) (k : Known) (w : TypeSpecifier) → (given_one g k w).1.names ≡ (type_of g.is_friend k.names w).1
names_are g k (specifier.Storage at w) = refl
names_are g k (specifier.Const at) = refl
names_are g k (specifier.Basic at b) = refl
names_are g k (specifier.Elaborated at c path) = refl
names_are g k (specifier.Named path) = refl
