use Rattle.std.proofs.Common.{ap, refl, sym, ◌∙◌}
use Rattle.cf_core.specs.FromUnit.{tables_of}
use Rattle.cf_types.specs.declared.ty.Ty.TheVariants as ty
use Rattle.cf_core_typed.specs.Same.{takes_const}
use Rattle.cf_sound.proofs.Entries.{by_form, by_fun, takes_by_others}
use Rattle.cf_sound.proofs.types.takes_const.Goals as goal

pub returns-in-Const : goal.returns-in-Const
returns-in-Const c = by_form (tables_of c.args.unit.now) takes_const c.args.id c.entry.result (ty.Const _) c.entry.ensures.value c.in-Const.is

pub returns-in-Ref : goal.returns-in-Ref
returns-in-Ref c = by_form (tables_of c.args.unit.now) takes_const c.args.id c.entry.result (ty.Ref _) c.entry.ensures.value c.in-Ref.is

pub returns-in-Array : goal.returns-in-Array
returns-in-Array c = by_form (tables_of c.args.unit.now) takes_const c.args.id c.entry.result (ty.Array _ _) c.entry.ensures.value c.in-Array.is

pub returns-in-Fun : goal.returns-in-Fun
returns-in-Fun c =
    by_fun (tables_of c.args.unit.now) takes_const _ (λ q t. refl) (λ t b. refl) c.args.id _ c.entry.result c.entry.ensures.value c.entry.ensures.named c.in-Fun.is

pub returns-in_default : goal.returns-in_default
returns-in_default c =
    takes_by_others (tables_of c.args.unit.now) c.entry.result c.in_default.not-Const c.in_default.not-Ref c.in_default.not-Array c.in_default.not-Fun
    ∙ sym (ap takes_const c.entry.ensures.value)
