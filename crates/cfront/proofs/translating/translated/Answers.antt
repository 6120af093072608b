-- The text stands, and its unit links to a program or does not.
use Rattle.std.proofs.Common.{◌∙◌, ℕ, List, Err, subst}
use Rattle.std.proofs.lemmas.Result.{err_from_is_err_and}
use Rattle.cf_compile.specs.Compiles.{IsCompiled}
use Rattle.cfront.specs.Steps.{WasWritten, WriteLeaves}
use Rattle.cfront.proofs.Causes.{write_stops}
use Rattle.cfront.proofs.MadePrograms.{made_of, link_stops}
use Rattle.cfront.proofs.translating.translated.Goals as goal

pub returns-in_err-written-clause-leaves : goal.returns-in_err-written-clause-leaves
returns-in_err-written-clause-leaves g c =
    let M : List ℕ → Type 0 = λ bytes. IsCompiled bytes c.in_ok-made.made in
    let W : List ℕ → Type 0 = λ name. WriteLeaves {T = Unit {0}} name c.deref-2.result.now (g.F.Files.disk c.source_bytes.new.files)
    (g.F.Files.disk c.written.new.files) (Err c.in_err-written.field-0.0) in
    let is = subst M c.deref.ensures.value c.in_ok-made.ensures in
    let p = err_from_is_err_and c.from_residual-in_err-written.result c.from_residual-in_err-written.ensures.1 in
    rw (p.1, p.2)
    (write_stops c.args.file.now c.in_ok-bytes.bytes.items c.deref-2.result.now is.core (g.F.Files.disk c.args.files.now)
    (g.F.Files.disk c.source_bytes.new.files) (g.F.Files.disk c.written.new.files) c.in_err-written.field-0.0 c.in_ok-bytes.ensures.leaves.0
    c.in_ok-bytes.ensures.leaves.1 is.taken (subst W (c.as_str.ensures.value ∙ c.in_ok-name.ensures) c.in_err-written.ensures.leaves))

pub returns-in_err-program-clause-leaves : goal.returns-in_err-program-clause-leaves
returns-in_err-program-clause-leaves g c =
    let M : List ℕ → Type 0 = λ bytes. IsCompiled bytes c.in_ok-made.made in
    let W : List ℕ → Type 0 = λ text. WasWritten c.as_str.result.now text (g.F.Files.disk c.source_bytes.new.files) (g.F.Files.disk c.written.new.files) in
    let p = err_from_is_err_and c.from_residual-in_err-program.result c.from_residual-in_err-program.ensures.1 in
    rw (p.1, p.2)
    (link_stops c.args.file.now c.in_ok-bytes.bytes.items c.as_str.result.now (g.F.Files.disk c.args.files.now)
    (g.F.Files.disk c.source_bytes.new.files) (g.F.Files.disk c.written.new.files) c.in_ok-bytes.ensures.leaves.0 c.in_ok-bytes.ensures.leaves.1
    (c.as_str.ensures.value ∙ c.in_ok-name.ensures) c.in_ok-made.made (subst M c.deref.ensures.value c.in_ok-made.ensures)
    (subst W c.deref-2.ensures.value c.in_ok-written.ensures.leaves) c.in_err-program.field-0.0 c.in_err-program.ensures)

pub returns-clause-leaves : goal.returns-clause-leaves
returns-clause-leaves g c =
    let M : List ℕ → Type 0 = λ bytes. IsCompiled bytes c.in_ok-made.made in
    let W : List ℕ → Type 0 = λ text. WasWritten c.as_str.result.now text (g.F.Files.disk c.source_bytes.new.files) (g.F.Files.disk c.written.new.files) in
    made_of c.args.file.now c.in_ok-bytes.bytes.items c.as_str.result.now (g.F.Files.disk c.args.files.now)
    (g.F.Files.disk c.source_bytes.new.files) (g.F.Files.disk c.written.new.files) c.in_ok-bytes.ensures.leaves.0 c.in_ok-bytes.ensures.leaves.1
    (c.as_str.ensures.value ∙ c.in_ok-name.ensures) c.in_ok-made.made (subst M c.deref.ensures.value c.in_ok-made.ensures)
    (subst W c.deref-2.ensures.value c.in_ok-written.ensures.leaves) c.in_ok-program.program c.in_ok-program.ensures
