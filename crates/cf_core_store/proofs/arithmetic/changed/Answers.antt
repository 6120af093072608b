use Rattle.std.proofs.Common.{◌≡◌, ◌∙◌, ℤ, FitsSigned, w64, to_z, of_z, to_z-of_z, rules, ap, sym, subst}
use Rattle.cf_core.specs.Scalars as scalars
use Rattle.cf_core.specs.Store.{Number}
use Rattle.cf_core_objects.specs.Answer.{Told}
use Rattle.cf_core_objects.specs.Store.{value_of}
use Rattle.cf_base.specs.Integers.{convert}
use Rattle.cf_base.specs.World.{Went}
use Rattle.cf_core.specs.Run.{Gives}
use Rattle.cf_core_store.proofs.Steps.{changed-stops, changed-goes}
use Rattle.cf_core_store.proofs.arithmetic.changed.Goals as goal

pub returns-in-Err : goal.returns-in-Err
returns-in-Err c = λ s w.
    let ex : to_z w64 (of_z w64 c.args.x) ≡ c.args.x = let fits : FitsSigned w64 c.args.x = search rules in to_z-of_z {w = w64} {z = c.args.x} fits in
    let ec : to_z w64 (of_z w64 c.convert.result) ≡ c.convert.result = let fits : FitsSigned w64 c.convert.result = search rules in to_z-of_z {w = w64} {z = c.convert.result} fits in
    changed-stops c.args.op c.args.at c.args.to c.args.x (value_of c.args.y) c.in-Err.stop c.operated.result s w c.in-Err.is
    (subst (λ (x : ℤ). Told Number c.operated.result s w (scalars.operated c.args.op c.args.at (Number x) (value_of c.args.y) s w)) (ec ∙ c.convert.ensures ∙ ap (convert c.args.at) ex) (c.operated.ensures s w))

pub returns-in-Ok : goal.returns-in-Ok
returns-in-Ok c = λ s w.
    let ex : to_z w64 (of_z w64 c.args.x) ≡ c.args.x = let fits : FitsSigned w64 c.args.x = search rules in to_z-of_z {w = w64} {z = c.args.x} fits in
    let ec : to_z w64 (of_z w64 c.convert.result) ≡ c.convert.result = let fits : FitsSigned w64 c.convert.result = search rules in to_z-of_z {w = w64} {z = c.convert.result} fits in
    let ev : to_z w64 (of_z w64 c.in-Ok.value) ≡ c.in-Ok.value = let fits : FitsSigned w64 c.in-Ok.value = search rules in to_z-of_z {w = w64} {z = c.in-Ok.value} fits in
    let ek : to_z w64 (of_z w64 c.convert-in-Ok.result) ≡ c.convert-in-Ok.result = let fits : FitsSigned w64 c.convert-in-Ok.result = search rules in to_z-of_z {w = w64} {z = c.convert-in-Ok.result} fits in
    changed-goes c.args.op c.args.at c.args.to c.args.x c.in-Ok.value (value_of c.args.y) c.operated.result s w c.in-Ok.is
    (subst (λ (x : ℤ). Told Number c.operated.result s w (scalars.operated c.args.op c.args.at (Number x) (value_of c.args.y) s w)) (ec ∙ c.convert.ensures ∙ ap (convert c.args.at) ex) (c.operated.ensures s w))
    ∙ ap (λ (x : ℤ). Went (Gives (Number x) s) w) (sym (ek ∙ c.convert-in-Ok.ensures ∙ ap (convert c.args.to) ev))
