use Rattle.std.proofs.Common.{sym, ◌∙◌}
use Rattle.cf_elab.specs.Answer.{Made}
use Rattle.cf_elab_shape.proofs.ShapesLaws.ParameterLaws.{array_parameter, function_parameter}
use Rattle.cf_elab_shape.proofs.shapes.functions.parameter_type.Goals as goal

pub returns-in_ok-pointer-in-Array-clause-made : goal.returns-in_ok-pointer-in-Array-clause-made
returns-in_ok-pointer-in-Array-clause-made c =
    array_parameter c.args.env.now c.args.ty c.holds.ensures c.requires.known c.requires.object c.in-Array.element c.in-Array.field-1
    (Made c.in_ok-pointer-in-Array.pointer c.pointer_to.new.self) (sym c.in-Array.is ∙ c.type_at.ensures) c.in_ok-pointer-in-Array.ensures.made

pub returns-in_ok-pointer-in-Fun-clause-made : goal.returns-in_ok-pointer-in-Fun-clause-made
returns-in_ok-pointer-in-Fun-clause-made c =
    function_parameter c.args.env.now c.args.ty c.holds.ensures c.requires.known c.requires.object c.in-Fun.field-0
    (Made c.in_ok-pointer-in-Fun.pointer c.pointer_to-in-Fun.new.self) (sym c.in-Fun.is ∙ c.type_at.ensures) c.in_ok-pointer-in-Fun.ensures.made
