-- What is known of a specifier: the type that it names is in the table.
use Rattle.cf_types.specs.Table.{Table}
use Rattle.cf_elab_env.specs.Holds.{IsType}
use Rattle.cf_elab_specifiers.specs.declared.said.word.Word.{Word}
use Rattle.cf_elab_specifiers.specs.declared.said.word.Word.TheVariants as word

abbrev pub IsWord : Table → Word → Type 0
IsWord types (word.Type at t) = IsType types t
IsWord types (word.Defined at t) = IsType types t
IsWord types other = Unit {0}
