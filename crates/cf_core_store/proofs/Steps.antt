-- How an answer on the first part of an act leads to one on the whole.
use Rattle.std.proofs.Common.{◌≡◌, ℤ, Result, Ok, Err, ap, sym, subst, []}
use Rattle.cf_base.specs.declared.kind.Kind.{Kind}
use Rattle.cf_base.specs.declared.arith.Arith.{Arith}
use Rattle.cf_base.specs.World.{World, Ran, Went, and_then}
use Rattle.cf_base.specs.Integers.{convert}
use Rattle.cf_core.specs.Run.{State, Did, Gives, Act, ◌>>=◌, onward, gives}
use Rattle.cf_core.specs.Store.{Value, Number}
use Rattle.cf_core.specs.Access.{number_of}
use Rattle.cf_core.specs.Core.{arithmetic}
use Rattle.cf_core.specs.Scalars.{operated, changed_value}
use Rattle.cf_core_objects.specs.declared.answer.Stop.{Stop}
use Rattle.cf_core_objects.specs.declared.answer.Stop.TheVariants as stop
use Rattle.cf_core_objects.specs.declared.answer.Value.{Value as Given}
use Rattle.cf_core_objects.specs.declared.answer.Value.TheVariants as given
use Rattle.cf_core_objects.specs.Answer.{Told, Stopped}
use Rattle.cf_core_objects.specs.Store.{value_of}

pub stops-then : {A B : Type 0} (e : Stop) (act : Act A) (go : A → Act B) (s : State) (w : World) → Stopped e w (act s w) → Stopped e w ((act >>= go) s w)
stops-then {A} {B} (stop.Act n) act go s w h = ap (λ (r : Ran (Did A)). and_then r (λ did w. onward did go w)) h
stops-then {A} {B} stop.Malformed act go s w h = ap (λ (r : Ran (Did A)). and_then r (λ did w. onward did go w)) h
stops-then stop.Memory act go s w h = tt

pub goes-then : {A B : Type 0} (act : Act A) (go : A → Act B) (a : A) (s t : State) (w v : World) → act s w ≡ Went (Gives a t) v → (act >>= go) s w ≡ go a t v
goes-then {A} act go a s t w v h = ap (λ (r : Ran (Did A)). and_then r (λ did w. onward did go w)) h

pub operated-at : (o : Arith) (k : Kind) (x y : Given) (a b : ℤ) (r : Result ℤ Stop) (s : State) (w : World) → x ≡ given.Number a → y ≡ given.Number b
    → Told Number r s w (operated o k (Number a) (Number b) s w) → Told Number r s w (operated o k (value_of x) (value_of y) s w)
operated-at o k x y a b r s w ex ey h =
    subst (λ v. Told Number r s w (operated o k (value_of v) (value_of y) s w)) (sym ex)
    (subst (λ v. Told Number r s w (operated o k (Number a) (value_of v) s w)) (sym ey) h)

pub changed-stops : (o : Arith) (k to : Kind) (x : ℤ) (y : Value) (e : Stop) (r : Result ℤ Stop) (s : State) (w : World) → r ≡ Err e
    → Told Number r s w (operated o k (Number (convert k x)) y s w) → Stopped e w (changed_value [] (arithmetic o k to) (Number x) y s w)
changed-stops o k to x y e r s w is h =
    stops-then e (operated o k (Number (convert k x)) y >>= number_of) (λ z. gives (Number (convert to z))) s w
    (stops-then e (operated o k (Number (convert k x)) y) number_of s w
    (subst (λ (r : Result ℤ Stop). Told Number r s w (operated o k (Number (convert k x)) y s w)) is h))

pub changed-goes : (o : Arith) (k to : Kind) (x z : ℤ) (y : Value) (r : Result ℤ Stop) (s : State) (w : World) → r ≡ Ok z
    → Told Number r s w (operated o k (Number (convert k x)) y s w)
    → changed_value [] (arithmetic o k to) (Number x) y s w ≡ Went (Gives (Number (convert to z)) s) w
changed-goes o k to x z y r s w is h =
    goes-then (operated o k (Number (convert k x)) y >>= number_of) (λ z. gives (Number (convert to z))) z s s w w
    (goes-then (operated o k (Number (convert k x)) y) number_of (Number z) s s w w
    (subst (λ (r : Result ℤ Stop). Told Number r s w (operated o k (Number (convert k x)) y s w)) is h))
