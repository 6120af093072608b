-- Nodes as elaboration makes them, and what they are as plain data.
use Rattle.std.proofs.Common.{◌≡◌, ℕ, [], ◌∷◌}
use Rattle.std.specs.Prelude.{pos, Some, None, false, codes}
use Rattle.cf_base.specs.declared.kind.Kind.TheVariants.{Int}
use Rattle.cf_base.specs.declared.arith.Arith.TheVariants as op
use Rattle.cf_types.specs.declared.ty.Ty.TheVariants as ty
use Rattle.cf_classes.specs.declared.class.MemberRef.{MemberRef}
use Rattle.cf_core.specs.declared.node.Core.{Core, roll-Core}
use Rattle.cf_core.specs.declared.node.Core.TheOpen.{Core-F}
use Rattle.cf_core.specs.declared.node.Core.TheFolds.{fold-roll-Core}
use Rattle.cf_core.specs.Types.{Name, integer, takes, gives}
use Rattle.cf_core.specs.Core as plain
use Rattle.cf_core.specs.FromTypes.{Tables}
use Rattle.cf_core.specs.View.{Started, core_step, started_step, core_of}
use Rattle.cf_core.specs.NodePlace.{place, place_step, unplaced}

abbrev tables : Tables
tables = record {
  types = record {
    types = ty.Int Int ∷ ty.Fun 0 ∷ [];
    funs = record { result = 0; params = 0 ∷ []; is_const = false } ∷ [];
  };
  classes = record { labels = []; enums = []; defined = [] };
}

abbrev no_signature : MemberRef → Name
no_signature m = []

abbrev viewed : Core → plain.Core
viewed = core_of tables no_signature

abbrev putchar_of_local : Core
putchar_of_local =
    roll-Core (Core-F.Call 9 (codes "putchar") 1 None (roll-Core (Core-F.Read 17 (roll-Core (Core-F.Local 17 0))) ∷ []))

place_of_a_call : place putchar_of_local ≡ 9
place_of_a_call = simp (fold-roll-Core ℕ (Unit {0}) place_step unplaced)

call_as_plain_data :
    viewed putchar_of_local
    ≡ plain.call (codes "putchar") (takes (integer Int) (gives (integer Int) false)) plain.absent (plain.more (plain.read (plain.local 0)) plain.none)
call_as_plain_data = simp (fold-roll-Core plain.Core Started (core_step tables no_signature) (started_step tables no_signature))

return_as_plain_data :
    viewed (roll-Core (Core-F.Return 3 (Some (roll-Core (Core-F.Operate 12 op.Add Int (roll-Core (Core-F.Number 10 (pos 2))) (roll-Core (Core-F.Number 14 (pos 1))))))))
    ≡ plain.give (plain.given (plain.operate op.Add Int (plain.number (pos 2)) (plain.number (pos 1))))
return_as_plain_data = simp (fold-roll-Core plain.Core Started (core_step tables no_signature) (started_step tables no_signature))
