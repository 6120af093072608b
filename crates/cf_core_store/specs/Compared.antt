-- Decay and comparison of places, where it is told what is there.
use Rattle.std.specs.Prelude.{ℕ, Bool, false, not, ◌&&◌, ◌||◌, ◌==◌, nat_lt, nat_le, pos, ◌-ℤ◌}
use Rattle.cf_core.specs.declared.operators.PointerOperator.{PointerOperator}
use Rattle.cf_core.specs.declared.operators.PointerOperator.TheVariants as op
use Rattle.cf_core.specs.Core.{item}
use Rattle.cf_core.specs.Places.{Place, inner, place_eq, is_beyond}
use Rattle.cf_core.specs.Pointers.{element_of, in_array, same_array, truth_value}
use Rattle.cf_core.specs.Store.{Value, Number, At}
use Rattle.cf_core.specs.Run.{State, Act, ◌>>◌, gives, need, not_alive, outside_array, compared}
use Rattle.cf_core_objects.specs.declared.site.Site.{Site}
use Rattle.cf_core_objects.specs.Site.{IsSite}
use Rattle.cf_core_store.specs.declared.compared.Both.{Both}

-- the first element of an array, of which it is told whether it is no end
abbrev pub first_of : Bool → Place → Act Value
first_of is_inside p = need is_inside outside_array >> gives (At (inner (item 0) p))

abbrev pub less_of : PointerOperator → ℕ → ℕ → Bool
less_of op.Add i j = false
less_of op.Subtract i j = false
less_of op.Difference i j = false
less_of op.Less i j = nat_lt i j
less_of op.Greater i j = nat_lt j i
less_of op.LessEqual i j = nat_le i j
less_of op.GreaterEqual i j = nat_le j i
less_of op.Equal i j = false
less_of op.NotEqual i j = false

-- The first place may be compared with an end or with any, as the other is one; and the first lies in the other.
abbrev pub ends : Bool → Place → Place → Bool
ends is_inside p q = not (not is_inside) || in_array q p

abbrev pub lies : Bool → Place → Place → Bool
lies is_inside p q = not (not is_inside) && (p.object == q.object) && is_beyond p.route q.route

abbrev pub comparable : Bool → Bool → Place → Place → Bool
comparable i j p q = place_eq p q || (not (not i && not j) && ends i p q && ends j q p && not (lies i p q) && not (lies j q p))

-- what is at two places
pub record AreSites (s : State) (p q : Place) (both : Both) : Type 0 where
  pub first : IsSite (s.object p.object) p.route both.first
  pub second : IsSite (s.object q.object) q.route both.second

-- of two places, of which it is told whether their objects have ended
abbrev pub distance : Bool → Bool → Place → Place → Act Value
distance g h p q =
    need (not g && not h) not_alive
    >> (need (same_array p q) outside_array >> gives (Number (pos (element_of p.route).index -ℤ pos (element_of q.route).index)))

abbrev pub order : PointerOperator → Bool → Bool → Place → Place → Act Value
order o g h p q =
    need (not g && not h) compared
    >> (need (same_array p q) compared >> gives (truth_value (less_of o (element_of p.route).index (element_of q.route).index)))

abbrev pub equality : Site → Site → Place → Place → Act Bool
equality x y p q =
    need (not x.is_gone && not y.is_gone) compared
    >> (need (comparable x.is_inside y.is_inside p q) compared >> gives (place_eq p q))
