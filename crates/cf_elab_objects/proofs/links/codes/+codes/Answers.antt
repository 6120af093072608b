use Rattle.std.proofs.Common.{ap, sym, ◌∙◌, slice_get}
use Rattle.cf_types.specs.Table.{Table}
use Rattle.cf_elab_objects.specs.Links.Text.{added}
use Rattle.cf_elab_objects.proofs.LinksLaws.CodeLaws.{adds_int, adds_enum, adds_pointer, adds_reference, adds_const, adds_array, adds_function, none_yet}
use Rattle.cf_elab_objects.proofs.links.codes.+codes.Goals as goal

pub add_code-returns-in_ok-add-in-Int : goal.add_code-returns-in_ok-add-in-Int
add_code-returns-in_ok-add-in-Int t c =
    adds_int c.args.env.now c.holds.ensures c.args.ty c.requires c.args.text.now c.args.text.now c.add-in-Int.new.self c.in-Int.kind (sym c.type_at.ensures ∙ c.in-Int.is)
    (c.in_ok-add-in-Int.ensures ∙ ap (λ p. added p c.args.text.now) c.kind_code.ensures)

pub add_code-returns-in_ok-add_enum-in-Enum : goal.add_code-returns-in_ok-add_enum-in-Enum
add_code-returns-in_ok-add_enum-in-Enum t c =
    adds_enum c.args.env.now c.holds.ensures c.args.ty c.requires c.args.text.now c.args.text.now c.add_enum.new.text c.in-Enum.number (sym c.type_at.ensures ∙ c.in-Enum.is) c.in_ok-add_enum-in-Enum.ensures

pub add_code-returns-in_ok-add_code-in-Ptr : goal.add_code-returns-in_ok-add_code-in-Ptr
add_code-returns-in_ok-add_code-in-Ptr t c =
    adds_pointer c.args.env.now c.holds.ensures c.args.ty c.requires c.args.text.now c.add-in-Ptr.new.self c.add_code.new.text c.in-Ptr.to (sym c.type_at.ensures ∙ c.in-Ptr.is)
    c.in_ok-add-in-Ptr.ensures c.in_ok-add_code-in-Ptr.ensures

pub add_code-returns-in_ok-add_code-in-Ref : goal.add_code-returns-in_ok-add_code-in-Ref
add_code-returns-in_ok-add_code-in-Ref t c =
    adds_reference c.args.env.now c.holds.ensures c.args.ty c.requires c.args.text.now c.add-in-Ref.new.self c.add_code-in-Ref.new.text c.in-Ref.to (sym c.type_at.ensures ∙ c.in-Ref.is)
    c.in_ok-add-in-Ref.ensures c.in_ok-add_code-in-Ref.ensures

pub add_code-returns-in_ok-add_code-in-Const : goal.add_code-returns-in_ok-add_code-in-Const
add_code-returns-in_ok-add_code-in-Const t c =
    adds_const c.args.env.now c.holds.ensures c.args.ty c.requires c.args.text.now c.add-in-Const.new.self c.add_code-in-Const.new.text c.in-Const.of (sym c.type_at.ensures ∙ c.in-Const.is)
    c.in_ok-add-in-Const.ensures c.in_ok-add_code-in-Const.ensures

pub add_code-returns-in_ok-add_code-in-Array : goal.add_code-returns-in_ok-add_code-in-Array
add_code-returns-in_ok-add_code-in-Array t c =
    adds_array c.args.env.now c.holds.ensures c.args.ty c.requires c.args.text.now c.add_bound.new.text c.add_code-in-Array.new.text c.in-Array.element c.in-Array.count (sym c.type_at.ensures ∙ c.in-Array.is)
    c.in_ok-add_bound-in-Array.ensures c.in_ok-add_code-in-Array.ensures

pub add_code-returns-in_ok-add_code-in-Fun : goal.add_code-returns-in_ok-add_code-in-Fun
add_code-returns-in_ok-add_code-in-Fun t c =
    adds_function c.args.env.now c.holds.ensures c.args.ty c.requires c.args.text.now c.add-in-Fun.new.self c.add_parameters.new.text c.add-in-Fun-2.new.self c.add_code-in-Fun.new.text
    c.in-Fun.fun c.get_fun-fun.result.now c.function_head.result.now (sym c.type_at.ensures ∙ c.in-Fun.is)
    (ap (λ (t : Table). slice_get t.funs c.in-Fun.fun) (sym c.types.ensures.value) ∙ c.get_fun-fun.ensures) c.function_head.ensures c.in_ok-add-in-Fun.ensures c.in_ok-add_parameters-in-Fun.ensures
    c.in_ok-add-in-Fun-2.ensures c.in_ok-add_code-in-Fun.ensures

pub add_parameters-loop-param-init : goal.add_parameters-loop-param-init
add_parameters-loop-param-init t c = none_yet c.args.env.now c.args.text.now
