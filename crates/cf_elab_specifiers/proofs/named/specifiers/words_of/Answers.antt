use Rattle.std.proofs.Common.{rules, List, map, All, sym, ap, subst, ◌∙◌, arith}
use Rattle.cf_elab.specs.Answer.{Made}
use Rattle.cf_elab_env.specs.Answered.{Stops}
use Rattle.cf_elab_env.proofs.Growth.{grows_through, grows-refl}
use Rattle.cf_elab_specifiers.specs.Said.Seen.{word_seen}
use Rattle.cf_elab_specifiers.specs.Said.Words.{IsWord}
use Rattle.cf_elab_specifiers.specs.declared.said.word.Word.{Word}
use Rattle.cf_elab_specifiers.specs.Named.Shut as shut
use Rattle.cf_elab_specifiers.proofs.NamedLaws.WordsLaws.{no_words, words_more, words_stopped, words_known, built_at}
use Rattle.cf_elab_specifiers.proofs.named.specifiers.words_of.Goals as goal

pub loop-specifier-init : goal.loop-specifier-init
loop-specifier-init c =
    let env = c.args.env.now in
    record {
      made = no_words env ∙ ap (λ (ws : List Word). Made (map word_seen ws) env) (sym c.new-words.ensures);
      known = search rules;
      grows = grows-refl env.types;
    }

pub word_of-requires : goal.word_of-requires
word_of-requires c = built_at c.args.specifiers.now c.loop-specifier.specifier-index c.specifier-item.result c.requires (omega arith) c.specifier-item.is

pub returns-in_err-word-clause-made : goal.returns-in_err-word-clause-made
returns-in_err-word-clause-made c =
    let stops : Stops (shut.words_of c.args.specifiers.now c.args.env.now) c.in_err-word.field-0.0 =
    words_stopped c.args.specifiers.now c.loop-specifier.specifier-index c.specifier-item.result (omega arith) c.specifier-item.is c.args.env.now c.loop-specifier.env c.loop-specifier.words
    c.loop-specifier.invariant.made c.in_err-word.field-0.0 c.in_err-word.ensures.made in
    search rules

pub loop-specifier-preserved : goal.loop-specifier-preserved
loop-specifier-preserved c =
    let env = c.word_of.new.env in
    let more = words_more c.args.specifiers.now c.loop-specifier.specifier-index c.specifier-item.result (omega arith) c.specifier-item.is c.args.env.now c.loop-specifier.env c.loop-specifier.words
    c.loop-specifier.invariant.made c.in_ok-word.word env c.in_ok-word.ensures.made in
    let grown = c.in_ok-word.ensures.grows in
    record {
      made = more ∙ ap (λ (ws : List Word). Made (map word_seen ws) env) (sym c.in_ok-push.ensures.ok);
      known = subst (All (λ (w : Word). IsWord env.types w)) (sym c.in_ok-push.ensures.ok)
          (words_known c.loop-specifier.env.types env.types c.loop-specifier.words c.in_ok-word.word grown c.loop-specifier.invariant.known c.in_ok-word.ensures.known);
      grows = grows_through c.args.env.now.types c.loop-specifier.env.types env.types c.loop-specifier.invariant.grows grown;
    }
