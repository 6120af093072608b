use Rattle.std.proofs.Common.{◌≡◌, ◌≤◌, ◌-◌, length, drop}
use Rattle.cf_name_places.proofs.places.Places.cut.Given as goal

abbrev pub invariant-loop-self : goal.invariant-loop-self
invariant-loop-self l = record {
  enough : l.len ≤ length l.self;
  longer : length l.self ≤ length l.initial.self;
  left : l.self ≡ drop (length l.initial.self - length l.self) l.initial.self;
}

abbrev pub decreases-loop-self : goal.decreases-loop-self
decreases-loop-self l = length l.self
