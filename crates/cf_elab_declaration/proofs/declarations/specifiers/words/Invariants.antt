use Rattle.std.proofs.Common.{◌≡◌, drop, All}
use Rattle.std.specs.Option.{option_copied}
use Rattle.cf_elab_env.specs.Holds.{Grows}
use Rattle.cf_elab_env.proofs.InOrder.{behind}
use Rattle.cf_elab_specifiers.specs.Said.Words.{IsWord}
use Rattle.cf_elab_specifiers.specs.Named.Seen.{words_seen}
use Rattle.cf_elab_declaration.specs.Declarations.Shut as shut
use Rattle.cf_elab_declaration.proofs.declarations.specifiers.words.Given as goal

abbrev pub invariant-loop-specifier : goal.invariant-loop-specifier
invariant-loop-specifier l = record {
  made : shut.words (option_copied l.alias) l.specifiers l.initial.env ≡ behind (words_seen l.words) (shut.words (option_copied l.alias) (drop l.specifier-index l.specifiers) l.env);
  known : All (λ w. IsWord l.env.types w) l.words;
  grows : Grows l.initial.env.types l.env.types;
}
