-- What a statement's node is as an expression is its piece.
use Rattle.std.proofs.Common.{◌≡◌, List, [], ◌∷◌, map, Option, Some, None, option_map, refl, ap, sym, subst, ◌∙◌}
use Rattle.cf_types.specs.Table.{Table}
use Rattle.cf_core.specs.declared.node.Core.{Core, roll-Core, ind-Core}
use Rattle.cf_core.specs.declared.node.Core.TheOpen.{Core-F}
use Rattle.cf_core.specs.declared.node.Core.TheFolds.{fold-roll-Core, map-Core, fold-roll-PartStart, map-PartStart}
use Rattle.cf_core.specs.declared.node.PartStart.{PartStart, PartStart-F, fold-PartStart, roll-PartStart}
use Rattle.cf_sequence_expr.specs.Pieces.{Piece, piece, part_piece, piece_step}
use Rattle.cf_sequence_expr.specs.Pieces as pieces
use Rattle.cf_sequence_stmt.specs.Steps.{Step, step, step_step, part_step}

module _ (types : Table) where
  abbrev step_of : Core → Step
  step_of = step types

  abbrev part_of : PartStart → Step
  part_of = fold-PartStart Step Step (step_step types) (part_step types)

  abbrev piece_of : Core → Piece
  piece_of = piece types

  abbrev IsSame : Core → Type 0
  IsSame n = (step_of n).piece ≡ piece_of n

  abbrev IsPartSame : PartStart → Type 0
  IsPartSame p = (part_of p).piece ≡ part_piece types p

  abbrev Child : Type 0
  Child = (n : Core) × IsSame n

  abbrev PartChild : Type 0
  PartChild = (p : PartStart) × IsPartSame p

  row : (es : List Child) → map Step.piece (map step_of (map (λ (c : Child). c.0) es)) ≡ map piece_of (map (λ (c : Child). c.0) es)
  row [] = refl
  row (e ∷ es) = ap (λ p. p ∷ map Step.piece (map step_of (map (λ (c : Child). c.0) es))) e.1 ∙ ap (λ ps. piece_of e.0 ∷ ps) (row es)

  part_row : (es : List PartChild) → map Step.piece (map part_of (map (λ (c : PartChild). c.0) es)) ≡ map (part_piece types) (map (λ (c : PartChild). c.0) es)
  part_row [] = refl
  part_row (e ∷ es) = ap (λ p. p ∷ map Step.piece (map part_of (map (λ (c : PartChild). c.0) es))) e.1 ∙ ap (λ ps. part_piece types e.0 ∷ ps) (part_row es)

  either : (e : Option Child) → option_map Step.piece (option_map step_of (option_map (λ (c : Child). c.0) e)) ≡ option_map piece_of (option_map (λ (c : Child). c.0) e)
  either None = refl
  either (Some e) = ap Some e.1

  layer : (y : Core-F Child PartChild)
      → piece_step types (map-Core _ _ _ _ Step.piece Step.piece (map-Core _ _ _ _ step_of part_of (map-Core _ _ _ _ (λ (c : Child). c.0) (λ (c : PartChild). c.0) y)))
      ≡ piece_step types (map-Core _ _ _ _ piece_of (part_piece types) (map-Core _ _ _ _ (λ (c : Child). c.0) (λ (c : PartChild). c.0) y))
  layer (Core-F.Number at z) = refl
  layer (Core-F.Text at j bytes) = refl
  layer (Core-F.This at) = refl
  layer (Core-F.Local at i) = refl
  layer (Core-F.Static at n t) = refl
  layer (Core-F.Function at n t) = refl
  layer (Core-F.DataPointer at i) = refl
  layer (Core-F.FunctionPointer at t) = refl
  layer (Core-F.Characters at bytes) = refl
  layer (Core-F.Zeros at) = refl
  layer (Core-F.Blank at) = refl
  layer (Core-F.Case at z) = refl
  layer (Core-F.Default at) = refl
  layer (Core-F.Break at) = refl
  layer (Core-F.Continue at) = refl
  layer (Core-F.Member at e i) = ap (λ z. piece_step types (Core-F.Member at z i)) e.1
  layer (Core-F.Read at e) = ap (λ z. piece_step types (Core-F.Read at z)) e.1
  layer (Core-F.Address at e) = ap (λ z. piece_step types (Core-F.Address at z)) e.1
  layer (Core-F.Dereference at e) = ap (λ z. piece_step types (Core-F.Dereference at z)) e.1
  layer (Core-F.Decay at e) = ap (λ z. piece_step types (Core-F.Decay at z)) e.1
  layer (Core-F.Convert at t e) = ap (λ z. piece_step types (Core-F.Convert at t z)) e.1
  layer (Core-F.Up at path e) = ap (λ z. piece_step types (Core-F.Up at path z)) e.1
  layer (Core-F.Down at c path e) = ap (λ z. piece_step types (Core-F.Down at c path z)) e.1
  layer (Core-F.FromVoid at t e) = ap (λ z. piece_step types (Core-F.FromVoid at t z)) e.1
  layer (Core-F.ToMember at path e) = ap (λ z. piece_step types (Core-F.ToMember at path z)) e.1
  layer (Core-F.Unary at op k e) = ap (λ z. piece_step types (Core-F.Unary at op k z)) e.1
  layer (Core-F.Not at e) = ap (λ z. piece_step types (Core-F.Not at z)) e.1
  layer (Core-F.Increment at is_postfix c e) = ap (λ z. piece_step types (Core-F.Increment at is_postfix c z)) e.1
  layer (Core-F.New at t e) = ap (λ z. piece_step types (Core-F.New at t z)) e.1
  layer (Core-F.Delete at t e) = ap (λ z. piece_step types (Core-F.Delete at t z)) e.1
  layer (Core-F.DeleteArray at t e) = ap (λ z. piece_step types (Core-F.DeleteArray at t z)) e.1
  layer (Core-F.Each at e) = ap (λ z. piece_step types (Core-F.Each at z)) e.1
  layer (Core-F.Full at e) = ap (λ z. piece_step types (Core-F.Full at z)) e.1
  layer (Core-F.Declare at i t e) = ap (λ z. piece_step types (Core-F.Declare at i t z)) e.1
  layer (Core-F.Once at n e) = ap (λ z. piece_step types (Core-F.Once at n z)) e.1
  layer (Core-F.Temporary at t e) = ap (λ z. piece_step types (Core-F.Temporary at t z)) e.1
  layer (Core-F.Bind at h e) = ap (λ z. piece_step types (Core-F.Bind at h z)) e.1
  layer (Core-F.Index at a b) = ap (λ z. piece_step types (Core-F.Index at z ((step_of b.0).piece))) a.1 ∙ ap (λ z. piece_step types (Core-F.Index at (piece_of a.0) z)) b.1
  layer (Core-F.Through at a b) = ap (λ z. piece_step types (Core-F.Through at z ((step_of b.0).piece))) a.1 ∙ ap (λ z. piece_step types (Core-F.Through at (piece_of a.0) z)) b.1
  layer (Core-F.Operate at op k a b) = ap (λ z. piece_step types (Core-F.Operate at op k z ((step_of b.0).piece))) a.1 ∙ ap (λ z. piece_step types (Core-F.Operate at op k (piece_of a.0) z)) b.1
  layer (Core-F.And at a b) = ap (λ z. piece_step types (Core-F.And at z ((step_of b.0).piece))) a.1 ∙ ap (λ z. piece_step types (Core-F.And at (piece_of a.0) z)) b.1
  layer (Core-F.Or at a b) = ap (λ z. piece_step types (Core-F.Or at z ((step_of b.0).piece))) a.1 ∙ ap (λ z. piece_step types (Core-F.Or at (piece_of a.0) z)) b.1
  layer (Core-F.PointerOperate at op a b) = ap (λ z. piece_step types (Core-F.PointerOperate at op z ((step_of b.0).piece))) a.1 ∙ ap (λ z. piece_step types (Core-F.PointerOperate at op (piece_of a.0) z)) b.1
  layer (Core-F.Store at a b) = ap (λ z. piece_step types (Core-F.Store at z ((step_of b.0).piece))) a.1 ∙ ap (λ z. piece_step types (Core-F.Store at (piece_of a.0) z)) b.1
  layer (Core-F.Update at a c b) = ap (λ z. piece_step types (Core-F.Update at z c ((step_of b.0).piece))) a.1 ∙ ap (λ z. piece_step types (Core-F.Update at (piece_of a.0) c z)) b.1
  layer (Core-F.NewArray at t a b) = ap (λ z. piece_step types (Core-F.NewArray at t z ((step_of b.0).piece))) a.1 ∙ ap (λ z. piece_step types (Core-F.NewArray at t (piece_of a.0) z)) b.1
  layer (Core-F.Comma at es) = ap (λ z. piece_step types (Core-F.Comma at z)) (row es)
  layer (Core-F.Block at es) = ap (λ z. piece_step types (Core-F.Block at z)) (row es)
  layer (Core-F.Sequence at es) = ap (λ z. piece_step types (Core-F.Sequence at z)) (row es)
  layer (Core-F.Build at f t es) = ap (λ z. piece_step types (Core-F.Build at f t z)) (row es)
  layer (Core-F.Conditional at q a b) = ap (λ z. piece_step types (Core-F.Conditional at z ((step_of a.0).piece) ((step_of b.0).piece))) q.1 ∙ ap (λ z. piece_step types (Core-F.Conditional at (piece_of q.0) z ((step_of b.0).piece))) a.1 ∙ ap (λ z. piece_step types (Core-F.Conditional at (piece_of q.0) (piece_of a.0) z)) b.1
  layer (Core-F.Assign at t a b es) = ap (λ z. piece_step types (Core-F.Assign at t z ((step_of b.0).piece) (map Step.piece (map step_of (map (λ (c : Child). c.0) es))))) a.1 ∙ ap (λ z. piece_step types (Core-F.Assign at t (piece_of a.0) z (map Step.piece (map step_of (map (λ (c : Child). c.0) es))))) b.1 ∙ ap (λ z. piece_step types (Core-F.Assign at t (piece_of a.0) (piece_of b.0) z)) (row es)
  layer (Core-F.Call at f t None es) = ap (λ z. piece_step types (Core-F.Call at f t z (map Step.piece (map step_of (map (λ (c : Child). c.0) es))))) (either None) ∙ ap (λ z. piece_step types (Core-F.Call at f t (option_map piece_of (option_map (λ (c : Child). c.0) None)) z)) (row es)
  layer (Core-F.Call at f t (Some o) es) = ap (λ z. piece_step types (Core-F.Call at f t z (map Step.piece (map step_of (map (λ (c : Child). c.0) es))))) (either (Some o)) ∙ ap (λ z. piece_step types (Core-F.Call at f t (option_map piece_of (option_map (λ (c : Child). c.0) (Some o))) z)) (row es)
  layer (Core-F.VirtualCall at m t e es) = ap (λ z. piece_step types (Core-F.VirtualCall at m t z (map Step.piece (map step_of (map (λ (c : Child). c.0) es))))) e.1 ∙ ap (λ z. piece_step types (Core-F.VirtualCall at m t (piece_of e.0) z)) (row es)
  layer (Core-F.PointerCall at None e t es) = ap (λ z. piece_step types (Core-F.PointerCall at z ((step_of e.0).piece) t (map Step.piece (map step_of (map (λ (c : Child). c.0) es))))) (either None) ∙ ap (λ z. piece_step types (Core-F.PointerCall at (option_map piece_of (option_map (λ (c : Child). c.0) None)) z t (map Step.piece (map step_of (map (λ (c : Child). c.0) es))))) e.1 ∙ ap (λ z. piece_step types (Core-F.PointerCall at (option_map piece_of (option_map (λ (c : Child). c.0) None)) (piece_of e.0) t z)) (row es)
  layer (Core-F.PointerCall at (Some o) e t es) = ap (λ z. piece_step types (Core-F.PointerCall at z ((step_of e.0).piece) t (map Step.piece (map step_of (map (λ (c : Child). c.0) es))))) (either (Some o)) ∙ ap (λ z. piece_step types (Core-F.PointerCall at (option_map piece_of (option_map (λ (c : Child). c.0) (Some o))) z t (map Step.piece (map step_of (map (λ (c : Child). c.0) es))))) e.1 ∙ ap (λ z. piece_step types (Core-F.PointerCall at (option_map piece_of (option_map (λ (c : Child). c.0) (Some o))) (piece_of e.0) t z)) (row es)
  layer (Core-F.Copy at t e es) = ap (λ z. piece_step types (Core-F.Copy at t z (map Step.piece (map step_of (map (λ (c : Child). c.0) es))))) e.1 ∙ ap (λ z. piece_step types (Core-F.Copy at t (piece_of e.0) z)) (row es)
  layer (Core-F.List at es r) = ap (λ z. piece_step types (Core-F.List at z ((step_of r.0).piece))) (row es) ∙ ap (λ z. piece_step types (Core-F.List at (map piece_of (map (λ (c : Child). c.0) es)) z)) r.1
  layer (Core-F.If at q a None) = ap (λ z. piece_step types (Core-F.If at z ((step_of a.0).piece) (option_map Step.piece (option_map step_of (option_map (λ (c : Child). c.0) None))))) q.1 ∙ ap (λ z. piece_step types (Core-F.If at (piece_of q.0) z (option_map Step.piece (option_map step_of (option_map (λ (c : Child). c.0) None))))) a.1 ∙ ap (λ z. piece_step types (Core-F.If at (piece_of q.0) (piece_of a.0) z)) (either None)
  layer (Core-F.If at q a (Some o)) = ap (λ z. piece_step types (Core-F.If at z ((step_of a.0).piece) (option_map Step.piece (option_map step_of (option_map (λ (c : Child). c.0) (Some o)))))) q.1 ∙ ap (λ z. piece_step types (Core-F.If at (piece_of q.0) z (option_map Step.piece (option_map step_of (option_map (λ (c : Child). c.0) (Some o)))))) a.1 ∙ ap (λ z. piece_step types (Core-F.If at (piece_of q.0) (piece_of a.0) z)) (either (Some o))
  layer (Core-F.Loop at f None None s) = ap (λ z. piece_step types (Core-F.Loop at f z (option_map Step.piece (option_map step_of (option_map (λ (c : Child). c.0) None))) ((step_of s.0).piece))) (either None) ∙ ap (λ z. piece_step types (Core-F.Loop at f (option_map piece_of (option_map (λ (c : Child). c.0) None)) z ((step_of s.0).piece))) (either None) ∙ ap (λ z. piece_step types (Core-F.Loop at f (option_map piece_of (option_map (λ (c : Child). c.0) None)) (option_map piece_of (option_map (λ (c : Child). c.0) None)) z)) s.1
  layer (Core-F.Loop at f None (Some o2) s) = ap (λ z. piece_step types (Core-F.Loop at f z (option_map Step.piece (option_map step_of (option_map (λ (c : Child). c.0) (Some o2)))) ((step_of s.0).piece))) (either None) ∙ ap (λ z. piece_step types (Core-F.Loop at f (option_map piece_of (option_map (λ (c : Child). c.0) None)) z ((step_of s.0).piece))) (either (Some o2)) ∙ ap (λ z. piece_step types (Core-F.Loop at f (option_map piece_of (option_map (λ (c : Child). c.0) None)) (option_map piece_of (option_map (λ (c : Child). c.0) (Some o2))) z)) s.1
  layer (Core-F.Loop at f (Some o) None s) = ap (λ z. piece_step types (Core-F.Loop at f z (option_map Step.piece (option_map step_of (option_map (λ (c : Child). c.0) None))) ((step_of s.0).piece))) (either (Some o)) ∙ ap (λ z. piece_step types (Core-F.Loop at f (option_map piece_of (option_map (λ (c : Child). c.0) (Some o))) z ((step_of s.0).piece))) (either None) ∙ ap (λ z. piece_step types (Core-F.Loop at f (option_map piece_of (option_map (λ (c : Child). c.0) (Some o))) (option_map piece_of (option_map (λ (c : Child). c.0) None)) z)) s.1
  layer (Core-F.Loop at f (Some o) (Some o2) s) = ap (λ z. piece_step types (Core-F.Loop at f z (option_map Step.piece (option_map step_of (option_map (λ (c : Child). c.0) (Some o2)))) ((step_of s.0).piece))) (either (Some o)) ∙ ap (λ z. piece_step types (Core-F.Loop at f (option_map piece_of (option_map (λ (c : Child). c.0) (Some o))) z ((step_of s.0).piece))) (either (Some o2)) ∙ ap (λ z. piece_step types (Core-F.Loop at f (option_map piece_of (option_map (λ (c : Child). c.0) (Some o))) (option_map piece_of (option_map (λ (c : Child). c.0) (Some o2))) z)) s.1
  layer (Core-F.Switch at e es) = ap (λ z. piece_step types (Core-F.Switch at z (map Step.piece (map step_of (map (λ (c : Child). c.0) es))))) e.1 ∙ ap (λ z. piece_step types (Core-F.Switch at (piece_of e.0) z)) (row es)
  layer (Core-F.Return at None) = ap (λ z. piece_step types (Core-F.Return at z)) (either None)
  layer (Core-F.Return at (Some o)) = ap (λ z. piece_step types (Core-F.Return at z)) (either (Some o))
  layer (Core-F.Parts at ps s) = ap (λ z. piece_step types (Core-F.Parts at z ((step_of s.0).piece))) (part_row ps) ∙ ap (λ z. piece_step types (Core-F.Parts at (map (part_piece types) (map (λ (c : PartChild). c.0) ps)) z)) s.1

  rolled : (x : Core-F Core PartStart)
      → piece_step types (map-Core _ _ _ _ Step.piece Step.piece (map-Core _ _ _ _ step_of part_of x)) ≡ piece_step types (map-Core _ _ _ _ piece_of (part_piece types) x)
      → IsSame (roll-Core x)
  rolled x p =
      ap Step.piece (fold-roll-Core Step Step (step_step types) (part_step types) x) ∙ p ∙ sym (fold-roll-Core Piece Piece (piece_step types) (pieces.part_step types) x)

  part_layer : (y : PartStart-F Child PartChild) → IsPartSame (roll-PartStart (map-PartStart _ _ _ _ (λ (c : Child). c.0) (λ (c : PartChild). c.0) y))
  part_layer y =
      let x = map-PartStart _ _ _ _ (λ (c : Child). c.0) (λ (c : PartChild). c.0) y in
      ap Step.piece (fold-roll-PartStart Step Step (step_step types) (part_step types) x) ∙ y.start.1
      ∙ sym (fold-roll-PartStart Piece Piece (piece_step types) (pieces.part_step types) x)

  pub same_piece : (n : Core) → (step types n).piece ≡ piece types n
  same_piece = ind-Core IsSame IsPartSame
      (λ x y is. subst (λ z. IsSame (roll-Core z)) is (rolled (map-Core _ _ _ _ (λ (c : Child). c.0) (λ (c : PartChild). c.0) y) (layer y)))
      (λ x y is. subst (λ z. IsPartSame (roll-PartStart z)) is (part_layer y))
