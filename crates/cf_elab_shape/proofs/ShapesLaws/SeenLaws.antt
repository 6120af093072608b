-- Declarators as the definitions see them, one operator at a time.
use Rattle.std.proofs.Common.{◌≡◌, ℕ, Bool, List, Option, sym, ap, ◌∙◌}
use Rattle.cf_elab.specs.Operand.{Value}
use Rattle.cf_elab.specs.Shape as shape
use Rattle.cf_elab.specs.Shape.{Parameter}
use Rattle.cf_elab_shape.specs.declared.shapes.shape.Shape.{Shape}
use Rattle.cf_elab_shape.specs.declared.shapes.shape.Shape.TheFolds.{fold-roll-Shape}
use Rattle.cf_elab_shape.specs.declared.shapes.shape.Shape.TheOpen.{Shape-F}
use Rattle.cf_elab_shape.specs.declared.shapes.shape.Shape.TheVariants as form
use Rattle.cf_elab_shape.specs.declared.shapes.shape.Shape.TheVariants.{rolls-Inner, rolls-Pointing, rolls-Referring, rolls-Taking, rolls-Holding}
use Rattle.cf_elab_shape.specs.Shapes.Seen.{shape_seen, shape_step}

pub seen_inner : shape_seen form.Inner ≡ shape.inner
seen_inner = ap shape_seen (sym rolls-Inner) ∙ fold-roll-Shape shape.Shape shape_step Shape-F.Inner

pub seen_pointing : (at : ℕ) (c : Bool) (s : Shape) → shape_seen (form.Pointing at c s) ≡ shape.pointing at c (shape_seen s)
seen_pointing at c s = ap shape_seen (sym (rolls-Pointing at c s)) ∙ fold-roll-Shape shape.Shape shape_step (Shape-F.Pointing at c s)

pub seen_referring : (at : ℕ) (s : Shape) → shape_seen (form.Referring at s) ≡ shape.referring at (shape_seen s)
seen_referring at s = ap shape_seen (sym (rolls-Referring at s)) ∙ fold-roll-Shape shape.Shape shape_step (Shape-F.Referring at s)

pub seen_taking : (at : ℕ) (ps : List Parameter) (c : Bool) (s : Shape) → shape_seen (form.Taking at ps c s) ≡ shape.taking at ps c (shape_seen s)
seen_taking at ps c s = ap shape_seen (sym (rolls-Taking at ps c s)) ∙ fold-roll-Shape shape.Shape shape_step (Shape-F.Taking at ps c s)

pub seen_holding : (at : ℕ) (b : Option Value) (s : Shape) → shape_seen (form.Holding at b s) ≡ shape.holding at b (shape_seen s)
seen_holding at b s = ap shape_seen (sym (rolls-Holding at b s)) ∙ fold-roll-Shape shape.Shape shape_step (Shape-F.Holding at b s)
