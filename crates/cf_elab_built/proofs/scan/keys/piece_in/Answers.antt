use Rattle.std.proofs.Common.{List, ℕ, Bor, ◌∙◌, ap, sym}
use Rattle.cf_elab_built.proofs.ScanLaws.Pieces.{item_at, item_past}
use Rattle.cf_elab_built.proofs.scan.keys.piece_in.Goals as goal

pub returns-in-Some : goal.returns-in-Some
returns-in-Some c =
    let piece = c.in-Some.piece.now in
    let found = c.in-Some.ensures.lookup in
    ap (λ (p : Bor (List ℕ)). p.now) found.1 ∙ sym (item_at c.args.pieces.now c.args.number piece found.3.0)

pub returns-in-None : goal.returns-in-None
returns-in-None c = sym (item_past c.args.pieces.now c.args.number c.in-None.ensures.lookup.3)
