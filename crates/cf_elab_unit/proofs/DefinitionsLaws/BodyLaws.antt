-- Bodies of functions.
use Rattle.std.proofs.Common.{◌≡◌, List, All, sym, subst}
use Rattle.cf_types.specs.Table.{Table}
use Rattle.cf_elab.specs.Env.{Hand}
use Rattle.cf_elab.specs.Shape.{Parameter}
use Rattle.cf_elab_env.specs.Holds.{IsHand, IsType}
use Rattle.cf_elab_env.proofs.Growth.{grown_laws}
use Rattle.cf_elab_shape.specs.Shapes.Holds.{AreObjects}
use Rattle.cf_elab_unit.proofs.DefinitionsLaws.HandLaws.{entry_typed, objects_typed, hand_known, hand_grown}
use Rattle.cf_elab_unit.proofs.DefinitionsLaws.Rows.{define_is, no_entry, entry_is, begin_is, body_is}

pub hand_same : (a b : Table) (h : Hand) → b ≡ a → IsHand a h → IsHand b h
hand_same a b h is k = subst (λ t. IsHand t h) (sym is) k

pub typed_same : (a b : Table) (ps : List Parameter) → b ≡ a → AreObjects a ps → All (λ p. IsType b p.type) ps
typed_same a b ps is k = subst (λ t. All (λ (p : Parameter). IsType t p.type) ps) (sym is) (objects_typed a ps k)

pub ruleset at_laws = (no_entry, entry_is, grown_laws)

pub ruleset define_laws = (define_is, entry_typed, hand_known, hand_grown, grown_laws)

pub ruleset begin_laws = (begin_is, hand_same, typed_same)

pub ruleset braces_laws = (body_is)

pub ruleset end_laws = (hand_same)
