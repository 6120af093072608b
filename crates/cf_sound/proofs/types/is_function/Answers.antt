use Rattle.std.proofs.Common.{ap, refl, sym, ◌∙◌}
use Rattle.cf_core.specs.FromUnit.{tables_of}
use Rattle.cf_core.specs.Typing.{is_function}
use Rattle.cf_sound.proofs.Entries.{by_fun, no_function}
use Rattle.cf_sound.proofs.types.is_function.Goals as goal

pub returns-in-Fun : goal.returns-in-Fun
returns-in-Fun c =
    by_fun (tables_of c.args.unit.now) is_function _ (λ q t. refl) (λ t b. refl) c.args.id _ c.entry.result c.entry.ensures.value c.entry.ensures.named c.in-Fun.is

pub returns-in_default : goal.returns-in_default
returns-in_default c = no_function (tables_of c.args.unit.now) c.entry.result c.in_default.not-Fun ∙ sym (ap is_function c.entry.ensures.value)
