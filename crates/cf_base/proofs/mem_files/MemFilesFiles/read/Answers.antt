-- A read that was not to fail fails where no file has the name.
use Rattle.std.proofs.Common.{◌≡◌, ◌⊎◌, inr, refl, ap, sym, ◌∙◌, ℕ, List, None}
use Rattle.std.specs.Prelude.{find, bytes_eq, string_bytes}
use Rattle.std.specs.Option.{option_copied}
use Rattle.cf_base.specs.Held.{Named, held}
use Rattle.cf_base.proofs.mem_files.MemFilesFiles.read.Goals as goal

not_held : (files all : List Named) (name : List ℕ) → all ≡ files → find (λ file. bytes_eq (string_bytes file.0) name) all ≡ None → held files name ≡ None
not_held files all name same e = rw (sym same, e) refl

pub returns-in_ok-note-in-None-clause-cause : goal.returns-in_ok-note-in-None-clause-cause
returns-in_ok-note-in-None-clause-cause c =
    inr (not_held c.args.self.now.files.items c.deref.result.now c.args.name.now c.deref.ensures.value (sym c.find_file.ensures ∙ ap option_copied c.in-None.is))
