-- How a run goes on behind one that has given a value.
use Rattle.std.proofs.Common.{◌≡◌, ◌∙◌, Result, Ok, Err, refl, ap, sym, subst}
use Rattle.cf_base.specs.World.{World, Ran, Went, Stops}
use Rattle.cf_core.specs.Places.{Place}
use Rattle.cf_core.specs.Store.{Value}
use Rattle.cf_core.specs.Run.{State, Did, Gives, Exits, Malformed, Act, ◌>>=◌}
use Rattle.cf_core.specs.Access.{used, place_of}
use Rattle.cf_core_objects.specs.declared.answer.Stop.{Stop}
use Rattle.cf_core_objects.specs.declared.answer.Stop.TheVariants as stop
use Rattle.cf_core_objects.specs.Answer.{Told, Stopped}
use Rattle.cf_core_objects.specs.Then.{◌▷◌}

pub then-assoc : {A B C : Type 0} (r : Ran (Did A)) (f : A → Act B) (g : B → Act C) → ((r ▷ f) ▷ g) ≡ (r ▷ (λ a. f a >>= g))
then-assoc (Went (Gives a s) w) f g = refl
then-assoc (Went (Exits z s) w) f g = refl
then-assoc (Went Malformed w) f g = refl
then-assoc (Stops e t) f g = refl

pub then-same : {A B : Type 0} (r : Ran (Did A)) (f g : A → Act B) → ((a : A) (s : State) (w : World) → f a s w ≡ g a s w) → (r ▷ f) ≡ (r ▷ g)
then-same (Went (Gives a s) w) f g h = h a s w
then-same (Went (Exits z s) w) f g h = refl
then-same (Went Malformed w) f g h = refl
then-same (Stops e t) f g h = refl

pub placed-then : {A : Type 0} (r : Ran (Did Value)) (g : Place → Act A) → (((r ▷ used) ▷ place_of) ▷ g) ≡ (r ▷ (λ v. (used v >>= place_of) >>= g))
placed-then r g =
    then-assoc (r ▷ used) place_of g ∙ then-assoc r used (λ x. place_of x >>= g)
    ∙ then-same r (λ v. used v >>= (λ x. place_of x >>= g)) (λ v. (used v >>= place_of) >>= g) (λ v s w. sym (then-assoc (used v s w) place_of g))

pub told-err : {A B : Type 0} (view : A → B) (r : Result A Stop) (e : Stop) (s : State) (w : World) (x : Ran (Did B)) → r ≡ Err e → Told view r s w x → Stopped e w x
told-err {A} view r e s w x is h = subst (λ (r : Result A Stop). Told view r s w x) is h

pub told-ok : {A B : Type 0} (view : A → B) (r : Result A Stop) (a : A) (s : State) (w : World) (x : Ran (Did B)) → r ≡ Ok a → Told view r s w x → x ≡ Went (Gives (view a) s) w
told-ok {A} view r a s w x is h = subst (λ (r : Result A Stop). Told view r s w x) is h

pub stops-on : {A B : Type 0} (e : Stop) (x : Ran (Did A)) (go : A → Act B) (w : World) → Stopped e w x → Stopped e w (x ▷ go)
stops-on {A} (stop.Act n) x go w h = ap (λ (r : Ran (Did A)). r ▷ go) h
stops-on {A} stop.Malformed x go w h = ap (λ (r : Ran (Did A)). r ▷ go) h
stops-on stop.Memory x go w h = tt
