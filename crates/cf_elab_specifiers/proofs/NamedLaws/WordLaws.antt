-- Specifiers with their names looked up.
use Rattle.std.proofs.Common.{◌≡◌, ℕ, true, false, None, refl, sym, ap, ◌∙◌}
use Rattle.cf_syntax.specs.declared.name.Path.{Path}
use Rattle.cf_syntax.specs.declared.specifier.ClassKey.{ClassKey}
use Rattle.cf_syntax.specs.declared.specifier.ClassKey.TheVariants as key
use Rattle.cf_syntax.specs.declared.specifier.BasicType.{BasicType}
use Rattle.cf_syntax.specs.declared.specifier.Storage.{Storage}
use Rattle.cf_syntax.specs.declared.specifier.TypeSpecifier.{TypeSpecifier}
use Rattle.cf_syntax.specs.declared.specifier.TypeSpecifier.TheVariants as specifier
use Rattle.cf_elab.specs.Answer.{Answer, Made, Refused, Passed, onward, need}
use Rattle.cf_elab.specs.Built.{of_path, of_specifier, of_key}
use Rattle.cf_elab.specs.Declarator as declarator
use Rattle.cf_elab.specs.Env.{Env}
use Rattle.cf_elab.specs.Operand.{sort_of}
use Rattle.cf_elab.specs.Paths as paths
use Rattle.cf_elab.specs.Specifiers.{Word, stored_as, const_word, basic_word, type_word}
use Rattle.cf_elab_env.proofs.Growth.{grown_laws}
use Rattle.cf_elab_specifiers.specs.Named.Shut as shut

module _ (at : ℕ) (k : ClassKey) (t : ℕ) (env : Env) where
  pub by_key : declarator.of_key k (sort_of env.types t) ≡ true → shut.need_key at k t env ≡ Made tt env
  unfolding shut.need_key
  by_key h = ap (λ b. need b 10 at env) h

  pub by_no_key : declarator.of_key k (sort_of env.types t) ≡ false → shut.need_key at k t env ≡ Refused 10 at
  unfolding shut.need_key
  by_no_key h = ap (λ b. need b 10 at env) h

pub elaborated_is : (k : ClassKey) (path : Path) (env : Env)
    → shut.elaborated k path env ≡ onward (shut.keyed_type path env) (λ t e. onward (shut.need_key path.at k t e) (λ _ f. Made t f))
unfolding shut.elaborated shut.keyed_type shut.need_key
elaborated_is k path env = refl

module _ (s : TypeSpecifier) (env : Env) where
  pub storage_is : (at : ℕ) (w : Storage) → s ≡ specifier.Storage at w → shut.word_of s env ≡ Made (stored_as at w) env
  unfolding shut.word_of
  storage_is at w is = ap (λ s. declarator.word_of s env) is

  pub const_is : (at : ℕ) → s ≡ specifier.Const at → shut.word_of s env ≡ Made (const_word at) env
  unfolding shut.word_of
  const_is at is = ap (λ s. declarator.word_of s env) is

  pub basic_is : (at : ℕ) (b : BasicType) → s ≡ specifier.Basic at b → shut.word_of s env ≡ Made (basic_word at b) env
  unfolding shut.word_of
  basic_is at b is = ap (λ s. declarator.word_of s env) is

  pub named_is : (path : Path) → s ≡ specifier.Named path → shut.word_of s env ≡ shut.named_word path env
  unfolding shut.word_of shut.named_word
  named_is path is = ap (λ s. declarator.word_of s env) is

  pub keyed_is : (at : ℕ) (k : ClassKey) (path : Path) → s ≡ specifier.Elaborated at k path → shut.word_of s env ≡ shut.keyed_word at k path env
  unfolding shut.word_of shut.keyed_word
  keyed_is at k path is = ap (λ s. declarator.word_of s env) is

pub named_word_is : (path : Path) (env : Env) → shut.named_word path env ≡ onward (shut.type_at_path path env) (λ t e. Made (type_word path.at t) e)
unfolding shut.named_word shut.type_at_path
named_word_is path env = refl

pub keyed_word_is : (at : ℕ) (k : ClassKey) (path : Path) (env : Env) → shut.keyed_word at k path env ≡ onward (shut.elaborated k path env) (λ t e. Made (type_word at t) e)
unfolding shut.keyed_word shut.elaborated
keyed_word_is at k path env = by (paths.keyed_type path env)
  where
    last : ℕ → Env → Answer Word
    last t e = Made (type_word at t) e

    by : (r : Answer ℕ) → onward r (λ t e. onward (declarator.elaborated path.at k t e) last) ≡ onward (onward r (λ t e. declarator.elaborated path.at k t e)) last
    by (Made t e) = refl
    by (Refused r p) = refl
    by (Passed b m) = refl

pub named_built : (s : TypeSpecifier) (path : Path) → of_specifier s ≡ None → s ≡ specifier.Named path → of_path path ≡ None
named_built s path built is = ap of_specifier (sym is) ∙ built

key_built : (at : ℕ) (k : ClassKey) (path : Path) → of_key at k path ≡ None → of_path path ≡ None
key_built at key.Enum path h = h
key_built at key.Class path h = cc
key_built at key.Struct path h = cc

pub elaborated_built : (s : TypeSpecifier) (at : ℕ) (k : ClassKey) (path : Path) → of_specifier s ≡ None → s ≡ specifier.Elaborated at k path → of_path path ≡ None
elaborated_built s at k path built is = key_built at k path (ap of_specifier (sym is) ∙ built)

pub ruleset key_laws = (by_key, by_no_key)

pub ruleset elaborated_laws = (elaborated_is, grown_laws)

pub ruleset word_laws = (storage_is, const_is, basic_is, named_is, keyed_is, named_built, elaborated_built, grown_laws)

pub ruleset named_laws = (named_word_is, grown_laws)

pub ruleset keyed_laws = (keyed_word_is, grown_laws)
