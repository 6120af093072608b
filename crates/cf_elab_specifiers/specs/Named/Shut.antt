-- The rows of names that stand for types, each under a name of its own that does not unfold. `Rattle.cf_elab_specifiers.proofs.NamedLaws` says what each is.
use Rattle.std.specs.Prelude.{ℕ, false, List, Some}
use Rattle.cf_syntax.specs.declared.name.Path.{Path}
use Rattle.cf_syntax.specs.declared.specifier.ClassKey.{ClassKey}
use Rattle.cf_syntax.specs.declared.specifier.TypeSpecifier.{TypeSpecifier}
use Rattle.cf_elab.specs.Answer.{Elab, ◌>>=◌, gives, known, need}
use Rattle.cf_elab.specs.Declarator as declarator
use Rattle.cf_elab.specs.Env.{Name, Entity}
use Rattle.cf_elab.specs.Names as names
use Rattle.cf_elab.specs.Operand.{sort_of}
use Rattle.cf_elab.specs.Paths as paths
use Rattle.cf_elab.specs.Specifiers.{Word, type_word}

unfoldable pub type_of : Entity → Elab ℕ
type_of e = names.type_of_entity 0 (Some e)

-- ---- one name, and a path that is one name

unfoldable pub type_named : ℕ → Name → Elab ℕ
type_named at name = known >>= (λ env. paths.type_found at (paths.found_alone env false name))

unfoldable pub keyed_named : ℕ → Name → Elab ℕ
keyed_named at name = known >>= (λ env. paths.type_found at (paths.type_behind_key env false name))

unfoldable pub type_at_path : Path → Elab ℕ
type_at_path = paths.type_at_path

unfoldable pub keyed_type : Path → Elab ℕ
keyed_type = paths.keyed_type

-- ---- specifiers

unfoldable pub need_key : ℕ → ClassKey → ℕ → Elab (Unit {0})
need_key at k t = known >>= (λ env. need (declarator.of_key k (sort_of env.types t)) 10 at)

unfoldable pub elaborated : ClassKey → Path → Elab ℕ
elaborated k path = do
  t ← paths.keyed_type path
  declarator.elaborated path.at k t

unfoldable pub named_word : Path → Elab Word
named_word path = do
  t ← paths.type_at_path path
  gives (type_word path.at t)

unfoldable pub keyed_word : ℕ → ClassKey → Path → Elab Word
keyed_word at k path = do
  t ← paths.keyed_type path
  u ← declarator.elaborated path.at k t
  gives (type_word at u)

unfoldable pub word_of : TypeSpecifier → Elab Word
word_of = declarator.word_of

unfoldable pub words_of : List TypeSpecifier → Elab (List Word)
words_of = declarator.words_of
