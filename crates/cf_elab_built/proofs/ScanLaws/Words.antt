-- Specifiers, each by its form.
use Rattle.std.proofs.Common.{◌≡◌, false, refl}
use Rattle.cf_syntax.specs.declared.specifier.TypeSpecifier.{TypeSpecifier}
use Rattle.cf_unit.specs.declared.class.ClassDef.{ClassDef}
use Rattle.cf_unit.specs.declared.enumeration.EnumDef.{EnumDef}
use Rattle.cf_unit.specs.declared.specifier.Specifier.{out-Specifier}
use Rattle.cf_unit.specs.declared.specifier.Specifier.TheVariants as specifier
use Rattle.cf_elab.specs.Scan.{specifier_word, plain_word}

pub word_plain : (s : TypeSpecifier) → specifier_word (out-Specifier (specifier.Plain s)) ≡ plain_word s
unfolding out-Specifier denote.Hole.Carrier.out
word_plain s = refl

pub word_class : (c : ClassDef) → specifier_word (out-Specifier (specifier.Class c)) ≡ false
unfolding out-Specifier denote.Hole.Carrier.out
word_class c = refl

pub word_enumeration : (e : EnumDef) → specifier_word (out-Specifier (specifier.Enumeration e)) ≡ false
unfolding out-Specifier denote.Hole.Carrier.out
word_enumeration e = refl

pub ruleset word_laws = (word_plain, word_class, word_enumeration)
