use Rattle.std.proofs.Common.{◌≡◌, ◌&&◌, drop}
use Rattle.cf_lowerable_places.specs.Contents.{knowing}
use Rattle.cf_lowerable_places.proofs.StatementLaws.{Placed, Listed, Behind}
use Rattle.cf_lowerable_places.proofs.statements.+statements.Given as goal

abbrev pub invariant-statements-loop-s : goal.invariant-statements-loop-s
invariant-statements-loop-s l = record {
  placed : (l.good && Placed l.x l.breaks l.continues (drop l.s-index l.s-items) (knowing l.x l.cs)) ≡ Placed l.x l.breaks l.continues l.s-items (knowing l.x l.initial.cs);
  held : Behind l.x (drop l.s-index l.s-items) (knowing l.x l.cs) ≡ Behind l.x l.s-items (knowing l.x l.initial.cs);
}

abbrev pub invariant-items-loop-s : goal.invariant-items-loop-s
invariant-items-loop-s l =
    (l.good && Listed l.x l.continues (drop l.s-index l.s-items) (knowing l.x l.cs) (knowing l.x l.running)) ≡ Listed l.x l.continues l.s-items (knowing l.x l.cs) (knowing l.x l.cs)
