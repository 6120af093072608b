-- Parts of what specifiers say together.
use Rattle.std.specs.Prelude.{ℕ, Option, Some, is_some}
use Rattle.std.specs.Option.{option_or}
use Rattle.cf_syntax.specs.declared.specifier.Storage.{Storage}
use Rattle.cf_elab.specs.Specifiers.{Gathered, conflicts}

-- one of the words of which there is one at most
abbrev pub with_class : ℕ → Storage → Gathered → Gathered
with_class at s g = conflicts (is_some g.storage) at (record g { storage = option_or g.storage (Some (at, s)) })
