use Rattle.std.proofs.Common.{rules, ◌≤◌, ◌∙◌, ap, sym, subst, List, All, drop, ◌+◌, length}
use Rattle.std.specs.Option.{option_copied}
use Rattle.std.proofs.lemmas.Result.{err_from_is_err_and}
use Rattle.cf_elab_env.proofs.Growth.{grows_through, grows-refl}
use Rattle.cf_elab_env.proofs.InOrder.{behind, none_yet}
use Rattle.cf_elab_specifiers.specs.Said.Words.{IsWord}
use Rattle.cf_elab_specifiers.specs.declared.said.word.Word.{Word}
use Rattle.cf_elab_specifiers.specs.Named.Seen.{words_seen}
use Rattle.cf_elab_specifiers.proofs.NamedLaws.WordsLaws.{words_known}
use Rattle.cf_elab_declaration.specs.Declarations.Shut as shut
use Rattle.cf_elab_declaration.proofs.DeclarationsLaws.BuiltParts.{one_specifier}
use Rattle.cf_elab_declaration.proofs.DeclarationsLaws.Several.{words_end, words_stop, words_go}
use Rattle.cf_elab_declaration.proofs.declarations.specifiers.words.Goals as goal

pub loop-specifier-init : goal.loop-specifier-init
loop-specifier-init c =
    let whole = shut.words (option_copied c.args.alias) c.args.specifiers.now c.args.env.now in
    record {
      made = none_yet whole ∙ ap (λ (l : List Word). behind (words_seen l) whole) (sym c.new-words.ensures);
      known = search rules;
      grows = grows-refl c.args.env.now.types;
    }

pub word-requires : goal.word-requires
word-requires c = one_specifier c.args.specifiers.now c.loop-specifier.specifier-index c.specifier-item.result c.requires c.loop-specifier-test.true c.specifier-item.is

pub returns-in_err-word-clause-made : goal.returns-in_err-word-clause-made
returns-in_err-word-clause-made c =
    let p = err_from_is_err_and c.from_residual.result c.from_residual.ensures.1 in
    rw (p.1, p.2)
    (words_stop (shut.words (option_copied c.args.alias) c.args.specifiers.now c.args.env.now) (option_copied c.args.alias) c.loop-specifier.words c.args.specifiers.now c.loop-specifier.specifier-index
    c.specifier-item.result c.loop-specifier.env c.loop-specifier.invariant.made c.loop-specifier-test.true c.specifier-item.is c.in_err-word.field-0.0 c.in_err-word.ensures.made)

pub loop-specifier-preserved : goal.loop-specifier-preserved
loop-specifier-preserved c =
    let alias = option_copied c.args.alias in
    let w = c.in_ok-word.field-0 in
    let next = c.word.new.env in
    let more = words_go (shut.words alias c.args.specifiers.now c.args.env.now) alias c.loop-specifier.words c.args.specifiers.now c.loop-specifier.specifier-index c.specifier-item.result c.loop-specifier.env
    c.loop-specifier.invariant.made c.loop-specifier-test.true c.specifier-item.is w next c.in_ok-word.ensures.made in
    record {
      made = more ∙ ap (λ (l : List Word). behind (words_seen l) (shut.words alias (drop (c.loop-specifier.specifier-index + 1) c.args.specifiers.now) next)) (sym c.in_ok-push.ensures.ok);
      known = subst (All (λ (w : Word). IsWord next.types w)) (sym c.in_ok-push.ensures.ok)
          (words_known c.loop-specifier.env.types next.types c.loop-specifier.words w c.in_ok-word.ensures.grows c.loop-specifier.invariant.known c.in_ok-word.ensures.known);
      grows = grows_through c.args.env.now.types c.loop-specifier.env.types next.types c.loop-specifier.invariant.grows c.in_ok-word.ensures.grows;
    }

pub returns-clause-made : goal.returns-clause-made
returns-clause-made c =
    let past : length c.args.specifiers.now ≤ c.loop-specifier.specifier-index = search rules in
    c.loop-specifier.invariant.made ∙ words_end (option_copied c.args.alias) c.loop-specifier.words c.args.specifiers.now c.loop-specifier.specifier-index c.loop-specifier.env past
