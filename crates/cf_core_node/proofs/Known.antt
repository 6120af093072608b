-- What is known of the parts of nodes.
use Rattle.std.proofs.Common.{◌≡◌, ℕ, zero, suc, ◌<◌, length, get_or, Bool, true, List, [], ◌∷◌, ap, ◌∙◌, arith}
use Rattle.std.specs.Prelude.{◌&&◌}
use Rattle.std.proofs.lemmas.Bool.{and_parts}
use Rattle.cf_core.specs.declared.node.Core.{Core}
use Rattle.cf_core.specs.FromUnit.{Unit}
use Rattle.cf_core_node.specs.Known.{known, all_known}

pub first : (x y : Bool) → (x && y) ≡ true → x ≡ true
first x y h = (and_parts x y h).0

pub second : (x y : Bool) → (x && y) ≡ true → y ≡ true
second x y h = (and_parts x y h).1

pub known_at : (unit : Unit) (es : List Core) (i : ℕ) (e : Core) → all_known unit es ≡ true → i < length es → e ≡ get_or es i e → known unit e ≡ true
known_at unit [] i e h lt is = absurd (omega arith)
known_at unit (x ∷ es) zero e h lt is = ap (known unit) is ∙ first (known unit x) (all_known unit es) h
known_at unit (x ∷ es) (suc i) e h lt is = known_at unit es i e (second (known unit x) (all_known unit es) h) (omega arith) is
