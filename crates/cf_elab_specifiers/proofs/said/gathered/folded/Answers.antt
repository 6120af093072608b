use Rattle.std.proofs.Common.{rules, map, ap, ◌∙◌}
use Rattle.std.proofs.lemmas.Iterator.{YieldsList-from_slice}
use Rattle.std.proofs.lemmas.Iterator.Consumers.{fold_from_yields_List}
use Rattle.cf_elab.specs.Specifiers.{Gathered, gathers, gathered_from}
use Rattle.cf_elab_specifiers.specs.Said.Seen.{word_seen}
use Rattle.cf_elab_specifiers.specs.declared.said.word.Word.{Word}
use Rattle.cf_elab_specifiers.proofs.SaidLaws.Folding.{gathered_is}
use Rattle.cf_elab_specifiers.proofs.said.gathered.folded.Goals as goal

pub returns : goal.returns
returns c =
    fold_from_yields_List _ (λ (g : Gathered) (w : Word). gathers g (word_seen w)) c.nothing.result c.fold.result c.fold.ensures.ran (YieldsList-from_slice c.args.words.now cc)
    (λ a x b q k. search rules)
    ∙ gathered_is c.nothing.result c.args.words.now ∙ ap (λ g. gathered_from g (map word_seen c.args.words.now)) c.nothing.ensures
