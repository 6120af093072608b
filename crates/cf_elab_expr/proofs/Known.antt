-- What is known of specifiers and declarators, as they are made and as the table of types grows.
use Rattle.std.proofs.Common.{◌≡◌, ℕ, Bool, List, Option, sym, subst, All}
use Rattle.cf_syntax.specs.declared.specifier.Pointer.{Pointer}
use Rattle.cf_syntax.specs.declared.specifier.Pointer.TheVariants as pointer
use Rattle.cf_types.specs.Table.{Table}
use Rattle.cf_elab.specs.Operand.{Value}
use Rattle.cf_elab.specs.Shape as shape
use Rattle.cf_elab.specs.Shape.{Parameter}
use Rattle.cf_elab_env.specs.Holds.{Grows}
use Rattle.cf_elab_env.proofs.Growth.{type_grown, All-into}
use Rattle.cf_elab_shape.specs.Shapes.Holds.{IsShape, AreObjects}
use Rattle.cf_elab_shape.specs.Shapes.Seen.{shape_seen, pointed_shape}
use Rattle.cf_elab_shape.specs.declared.shapes.shape.Shape.{Shape}
use Rattle.cf_elab_shape.specs.declared.shapes.shape.Shape.TheVariants as form
use Rattle.cf_elab_shape.proofs.ShapesLaws.SeenLaws.{seen_inner, seen_taking, seen_holding}
use Rattle.cf_elab_specifiers.specs.Said.Words.{IsWord}
use Rattle.cf_elab_specifiers.specs.declared.said.word.Word.{Word}
use Rattle.cf_elab_specifiers.specs.declared.said.word.Word.TheVariants as word

word_grown : (a b : Table) (w : Word) → Grows a b → IsWord a w → IsWord b w
word_grown a b (word.Stored at s) g h = tt
word_grown a b (word.Const at) g h = tt
word_grown a b (word.Basic at k) g h = tt
word_grown a b (word.Type at t) g h = type_grown a b t g h
word_grown a b (word.Defined at t) g h = type_grown a b t g h

pub words_grown : (a b : Table) (ws : List Word) → Grows a b → All (λ w. IsWord a w) ws → All (λ w. IsWord b w) ws
words_grown a b ws g all = All-into (λ w. IsWord a w) (λ w. IsWord b w) ws (λ w. word_grown a b w g) all

module _ (types : Table) where
  abbrev its : shape.Shape → Type 0
  its s = IsShape types s

  pub inner_shape : IsShape types (shape_seen form.Inner)
  inner_shape = subst its (sym seen_inner) tt

  pub pointed_shape_known : (p : Pointer) (s : shape.Shape) → IsShape types s → IsShape types (pointed_shape p s)
  pointed_shape_known (pointer.To at c) s k = k
  pointed_shape_known (pointer.Reference at) s k = k
  pointed_shape_known (pointer.ToMember at path c) s k = k

  -- the same by another name
  pub pointed_known : (p : Pointer) (s t : Shape) → shape_seen t ≡ pointed_shape p (shape_seen s) → IsShape types (shape_seen s) → IsShape types (shape_seen t)
  pointed_known p s t is k = subst its (sym is) (pointed_shape_known p (shape_seen s) k)

  pub taken_shape : (at : ℕ) (ps : List Parameter) (c : Bool) (s : Shape) → AreObjects types ps → IsShape types (shape_seen s) → IsShape types (shape_seen (form.Taking at ps c s))
  taken_shape at ps c s objects k = subst its (sym (seen_taking at ps c s)) (objects, k)

  pub held_shape : (at : ℕ) (b : Option Value) (s : Shape) → IsShape types (shape_seen s) → IsShape types (shape_seen (form.Holding at b s))
  held_shape at b s k = subst its (sym (seen_holding at b s)) k

pub ruleset shape_laws = (inner_shape, pointed_known, seen_inner)
