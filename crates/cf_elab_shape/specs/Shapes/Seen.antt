-- Declarators and the types that they make, as the definitions of elaboration see them. None is a pointer to a member, since no class is built.
use Rattle.std.specs.Prelude.{ℕ, Bool, true, false}
use Rattle.cf_syntax.specs.declared.specifier.Pointer.{Pointer}
use Rattle.cf_syntax.specs.declared.specifier.Pointer.TheVariants as pointer
use Rattle.cf_elab.specs.Shape as shape
use Rattle.cf_elab_shape.specs.declared.shapes.shape.Shape.{Shape, fold-Shape}
use Rattle.cf_elab_shape.specs.declared.shapes.shape.Shape.TheOpen.{Shape-F}
use Rattle.cf_elab_shape.specs.declared.shapes.shaped.Shaped.{Shaped}
use Rattle.cf_elab_shape.specs.declared.shapes.shaped.Shaped.TheVariants as shaped

abbrev pub shape_step : Shape-F shape.Shape → shape.Shape
shape_step Shape-F.Inner = shape.inner
shape_step (Shape-F.Pointing at is_const s) = shape.pointing at is_const s
shape_step (Shape-F.Referring at s) = shape.referring at s
shape_step (Shape-F.Taking at ps is_const s) = shape.taking at ps is_const s
shape_step (Shape-F.Holding at b s) = shape.holding at b s

abbrev pub shape_seen : Shape → shape.Shape
shape_seen = fold-Shape shape.Shape shape_step

abbrev pub shaped_seen : Shaped → shape.Shaped
shaped_seen (shaped.Whole t) = shape.whole t
shaped_seen (shaped.Unbounded t) = shape.unbounded t

-- the type, or that of the elements
abbrev pub type_of : shape.Shaped → ℕ
type_of (shape.whole t) = t
type_of (shape.unbounded t) = t

-- ---- operators before the name

-- whether it is no pointer to a member
abbrev pub is_built : Pointer → Bool
is_built (pointer.ToMember at path is_const) = false
is_built other = true

-- the declarator behind an operator that is built
abbrev pub pointed_shape : Pointer → shape.Shape → shape.Shape
pointed_shape (pointer.To at is_const) s = shape.pointing at is_const s
pointed_shape (pointer.Reference at) s = shape.referring at s
pointed_shape (pointer.ToMember at path is_const) s = s
