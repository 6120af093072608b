use Rattle.std.proofs.Common.{◌≡◌, map, take, All}
use Rattle.cf_elab.specs.Answer.{Made}
use Rattle.cf_elab_env.specs.Holds.{Grows}
use Rattle.cf_elab_specifiers.specs.Said.Seen.{word_seen}
use Rattle.cf_elab_specifiers.specs.Said.Words.{IsWord}
use Rattle.cf_elab_specifiers.specs.Named.Shut as shut
use Rattle.cf_elab_specifiers.proofs.named.specifiers.words_of.Given as goal

abbrev pub invariant-loop-specifier : goal.invariant-loop-specifier
invariant-loop-specifier l = record {
  made : shut.words_of (take l.specifier-index l.specifiers) l.initial.env ≡ Made (map word_seen l.words) l.env;
  known : All (λ w. IsWord l.env.types w) l.words;
  grows : Grows l.initial.env.types l.env.types;
}
