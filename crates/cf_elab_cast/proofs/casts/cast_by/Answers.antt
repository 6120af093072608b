use Rattle.cf_elab_cast.proofs.FormLaws.{form_from_void}
use Rattle.cf_elab_cast.proofs.casts.cast_by.Goals as goal

pub returns-in_ok-pointer-in-FromVoid-clause-made : goal.returns-in_ok-pointer-in-FromVoid-clause-made
returns-in_ok-pointer-in-FromVoid-clause-made c =
    form_from_void c.args.at c.args.ty c.args.form c.args.value c.args.env.now c.in-FromVoid.object c.in_ok-pointer-in-FromVoid.pointer c.in-FromVoid.is
    c.in_ok-pointer-in-FromVoid.ensures.made
