use Rattle.std.proofs.Common.{sym, ◌∙◌, true≢false}
use Rattle.cf_core.specs.FromUnit.{tables_of}
use Rattle.cf_sound.proofs.FileLaws.{main_taking}
use Rattle.cf_sound.proofs.files.is_main.Goals as goal

pub returns-else-is_empty : goal.returns-else-is_empty
returns-else-is_empty c =
    c.if-is_empty.false ∙ main_taking (tables_of c.args.unit.now) c.args.f.now (λ e. true≢false (sym (c.is_empty.ensures.1 e) ∙ c.if-is_empty.false))
