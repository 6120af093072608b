-- Specifiers that the code holds, as the definitions of elaboration see them.
use Rattle.cf_elab.specs.Specifiers as spec
use Rattle.cf_elab_specifiers.specs.declared.said.word.Word.{Word}
use Rattle.cf_elab_specifiers.specs.declared.said.word.Word.TheVariants as word

abbrev pub word_seen : Word → spec.Word
word_seen (word.Stored at s) = spec.stored_as at s
word_seen (word.Const at) = spec.const_word at
word_seen (word.Basic at b) = spec.basic_word at b
word_seen (word.Type at t) = spec.type_word at t
word_seen (word.Defined at t) = spec.defined_word at t
