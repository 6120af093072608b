use Rattle.std.proofs.Common.{sym, ap, ◌∙◌}
use Rattle.cf_convert.specs.Constness.{bare}
use Rattle.cf_elab.specs.Operand.{sort_of}
use Rattle.cf_elab_env.proofs.Growth.{grows-refl}
use Rattle.cf_elab_fit.specs.Shut as shut
use Rattle.cf_elab_fit.proofs.ReadLaws.{plain_array, plain_function, plain_read, read_stays}
use Rattle.cf_elab_fit.proofs.reading.plain_typed.Goals as goal

pub returns-in_ok-pointer-in-Array-clause-made : goal.returns-in_ok-pointer-in-Array-clause-made
returns-in_ok-pointer-in-Array-clause-made c =
    let found = c.sort_of.ensures.value ∙ ap (sort_of c.args.env.now.types) c.ty.ensures in
    plain_array c.args.value c.sort_of.result _ _ c.args.env.now _ c.in-Array.is found c.in_ok-pointer-in-Array.ensures.made

pub returns-in_ok-pointer-in-Function-clause-made : goal.returns-in_ok-pointer-in-Function-clause-made
returns-in_ok-pointer-in-Function-clause-made c =
    let types = c.args.env.now.types in
    let found = c.sort_of.ensures.value ∙ ap (sort_of types) c.ty.ensures in
    let to = c.bare-ty.ensures.value ∙ ap (bare types) c.ty-in-Function.ensures in
    plain_function c.args.value c.sort_of.result _ c.args.env.now _ c.in-Function.is found
    (ap (λ t. shut.decayed c.args.value t c.args.env.now) (sym to) ∙ c.in_ok-pointer-in-Function.ensures.made)

pub returns-in_ok-read-in_default : goal.returns-in_ok-read-in_default
returns-in_ok-read-in_default c =
    let types = c.args.env.now.types in
    let found = c.sort_of.ensures.value ∙ ap (sort_of types) c.ty.ensures in
    let read = c.in_ok-read-in_default in
    record {
      made = plain_read c.args.value read.read c.sort_of.result c.args.env.now c.in_default.not-Array c.in_default.not-Function found read.ensures.made;
      typed = read.ensures.typed;
      known = read_stays types c.args.value read.read c.holds.ensures.table read.ensures.made;
      grows = grows-refl types;
    }
