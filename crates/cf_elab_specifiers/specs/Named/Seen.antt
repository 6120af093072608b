-- Lists of specifiers that the code holds, as the definitions of elaboration see them.
use Rattle.std.specs.Prelude.{List, map}
use Rattle.cf_elab.specs.Specifiers as spec
use Rattle.cf_elab_specifiers.specs.Said.Seen.{word_seen}
use Rattle.cf_elab_specifiers.specs.declared.said.word.Word.{Word}

abbrev pub words_seen : List Word → List spec.Word
words_seen ws = map word_seen ws
