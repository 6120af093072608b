use Rattle.std.proofs.Common.{◌∙◌, [], ◌∷◌, ◌++◌, List, ap, sym, subst}
use Rattle.cf_base.specs.declared.kind.Kind.TheVariants.{Int}
use Rattle.cf_types.specs.declared.ty.Ty.{Ty}
use Rattle.cf_types.specs.declared.ty.Ty.TheVariants as ty
use Rattle.cf_types.specs.Table.{Enters}
use Rattle.cf_core.specs.declared.unit.CoreFn.{CoreFn}
use Rattle.cf_core.specs.FromUnit.{IsValid}
use Rattle.cf_core_tried.proofs.Validity.{seven_is, seven_is_valid}
use Rattle.cf_core_tried.proofs.units.seven.Goals as goal

pub new-requires-3 : goal.new-requires-3
new-requires-3 c =
    let int = subst (λ (l : List Ty). Enters l c.intern.new.self.types (ty.Int Int) c.in_ok-int.int) c.new-types.ensures.types c.in_ok-int.ensures.ok in
    let funs = c.in_ok-int.ensures.funs ∙ c.new-types.ensures.funs in
    let functions = c.in_ok-push.ensures.ok ∙ ap (λ (l : List CoreFn). l ++ c.in_ok-main_of.field-0 ∷ []) c.new-functions.ensures
    ∙ ap (λ (f : CoreFn). f ∷ []) c.in_ok-main_of.ensures in
    record {
      valid = subst IsValid
          (sym (seven_is c.intern.new.self c.new.result c.push.new.self c.new-2.result c.in_ok-int.int int funs
          c.new.ensures.labels c.new.ensures.enums c.new.ensures.defined functions c.new-2.ensures))
          seven_is_valid;
    }
