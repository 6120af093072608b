-- The locals that a loop adds.
use Rattle.std.proofs.Common.{◌≡◌, ℕ, List, Option, Some, None, option_map, ap, sym, ◌∙◌}
use Rattle.cf_types.specs.Table.{Table}
use Rattle.cf_core.specs.declared.operators.LoopForm.{LoopForm}
use Rattle.cf_core.specs.declared.node.Core.{Core, roll-Core}
use Rattle.cf_core.specs.declared.node.Core.TheOpen.{Core-F}
use Rattle.cf_core.specs.declared.node.Core.TheFolds.{fold-roll-Core, map-Core}
use Rattle.cf_core.specs.declared.node.PartStart.{PartStart}
use Rattle.cf_core.specs.declared.node.Core.TheVariants.{Loop, rolls-Loop}
use Rattle.cf_sequence_expr.specs.Pieces.{Piece, piece, part_piece, piece_step, part_step, in_maybe}

rolled : (types : Table) (y : Core-F Core PartStart) → piece types (roll-Core y) ≡ piece_step types (map-Core _ _ _ _ (piece types) (part_piece types) y)
rolled types y = fold-roll-Core Piece Piece (piece_step types) (part_step types) y

at-loop : (types : Table) (at : ℕ) (form : LoopForm) (c e : Option Core) (s : Core)
    → piece types (Loop at form c e s) ≡ piece_step types (map-Core _ _ _ _ (piece types) (part_piece types) (Core-F.Loop at form c e s))
at-loop types at form c e s = ap (piece types) (sym (rolls-Loop at form c e s)) ∙ rolled types (Core-F.Loop at form c e s)

looped : (types : Table) (at : ℕ) (form : LoopForm) (c e : Option Core) (s : Core) (l : List ℕ)
    → (piece types (Loop at form c e s)).locals l ≡ (piece types s).locals (in_maybe (option_map (piece types) e) (in_maybe (option_map (piece types) c) l))
looped types at form None None s l = ap (λ x. Piece.locals x l) (at-loop types at form None None s)
looped types at form None (Some e) s l = ap (λ x. Piece.locals x l) (at-loop types at form None (Some e) s)
looped types at form (Some c) None s l = ap (λ x. Piece.locals x l) (at-loop types at form (Some c) None s)
looped types at form (Some c) (Some e) s l = ap (λ x. Piece.locals x l) (at-loop types at form (Some c) (Some e) s)

pub in_loop : (types : Table) (x : Core) (at : ℕ) (form : LoopForm) (c e : Option Core) (s body : Core) (k l m n : List ℕ) → x ≡ Loop at form c e s → body ≡ s
    → l ≡ in_maybe (option_map (piece types) c) k → m ≡ in_maybe (option_map (piece types) e) l → n ≡ (piece types body).locals m → n ≡ (piece types x).locals k
in_loop types x at form c e s body k l m n is body_is p q r =
    r ∙ ap (λ y. (piece types y).locals m) body_is ∙ ap ((piece types s).locals) (q ∙ ap (in_maybe (option_map (piece types) e)) p)
    ∙ sym (looped types at form c e s k) ∙ ap (λ y. (piece types y).locals k) (sym is)
