-- What is known of the state behind an act of the core comes into what follows by a test of that state: where the test fails the core is malformed, of which
-- nothing is said.
use Rattle.std.proofs.Common.{◌≡◌, ℕ, zero, suc, ◌<◌, ◌≤◌, ◌==◌, Bool, true, false, not, ◌&&◌, ◌||◌, nat_le, refl, sym, ◌∙◌, ap, subst, arith, [], if◌then◌else◌}
use Rattle.std.specs.Prelude.{List, Some}
use Rattle.std.proofs.lemmas.Bool.Decides.{nat_tests}
use Rattle.cf_base.proofs.Tests.{both, all_of}
use Rattle.cf_base.specs.World.{World, Ran, Went, Stops, and_then}
use Rattle.cf_core.specs.Classes.{Class}
use Rattle.cf_core.specs.Places.{Place, is_scalar}
use Rattle.cf_core.specs.Store.{Value, Nothing, Missing, Built, Number, Null, At, Code, DataMember, FunctionMember, Object, hold}
use Rattle.cf_core.specs.Access.{place_type, used, first_value}
use Rattle.cf_core.specs.Objects.{settle}
use Rattle.cf_core.specs.Run.{State, Did, Gives, Exits, Malformed, Act, ◌>>=◌, malformed, when, with_object}
use Rattle.cf_sequence.specs.Follows.{Follows}
use Rattle.cf_sequence.proofs.Following.{on, Gave}
use Rattle.cf_sequence.proofs.Lasting.{Keeps, Same, Newer, Lasting}
use Rattle.cf_sequence.proofs.Moving.{Later, later-same}

-- ---- the test

abbrev stay : (ℕ → Object) → (ℕ → Object) → ℕ → Bool
stay before after zero = true
stay before after (suc n) = (not (before n).is_gone || (after n).is_gone) && stay before after n

-- whether no number of an object below the bound comes again, and what was gone of these is so
abbrev pub later_test : ℕ → (ℕ → Object) → State → Bool
later_test m before t = nat_le m t.next && stay before t.object m

implied : (a b : Bool) → not a || b ≡ true → a ≡ true → b ≡ true
implied true b e k = e
implied false b e k = absurd (cc)

implies : (a b : Bool) → b ≡ a → not a || b ≡ true
implies true b e = e
implies false b e = refl

stay-told : (before after : ℕ → Object) (n : ℕ) → stay before after n ≡ true → (o : ℕ) → o < n → (before o).is_gone ≡ true → (after o).is_gone ≡ true
stay-told before after zero e o lt g = absurd (omega (arith, lt))
stay-told before after (suc n) e o lt g = by (o == n) refl (λ less. stay-told before after n (both (not (before n).is_gone || (after n).is_gone) (stay before after n) e).1 o less g)
  where
    here : o ≡ n → (after o).is_gone ≡ true
    here same =
        ap (λ (p : ℕ). (after p).is_gone) same
        ∙ implied (before n).is_gone (after n).is_gone (both (not (before n).is_gone || (after n).is_gone) (stay before after n) e).0 (ap (λ (p : ℕ). (before p).is_gone) (sym same) ∙ g)

    by : (b : Bool) → o == n ≡ b → (o < n → (after o).is_gone ≡ true) → (after o).is_gone ≡ true
    by true k later = here (grind (arith, nat_tests, k))
    by false k later = later (grind (arith, nat_tests, k, lt))

stays : (before after : ℕ → Object) (n : ℕ) → ((o : ℕ) → o < n → Same (before o) (after o)) → stay before after n ≡ true
stays before after zero same = refl
stays before after (suc n) same =
    all_of (not (before n).is_gone || (after n).is_gone) (stay before after n) (implies (before n).is_gone (after n).is_gone (same n (omega arith)).gone)
    (stays before after n (λ o lt. same o (omega arith)))

test-holds : (m : ℕ) (before : ℕ → Object) (base : List ℕ) (t : State) → Lasting m before base t → later_test m before t ≡ true
test-holds m before base t l =
    let le = l.next in all_of (nat_le m t.next) (stay before t.object m) (grind (arith, nat_tests, le)) (stays before t.object m l.objects)

-- ---- what follows

abbrev pub tested : {A V : Type 0} → ℕ → (ℕ → Object) → (V → Act A) → V → Act A
tested m before c v = λ t w. when (later_test m before t) (c v) malformed t w

pub lasting-on : {A B V : Type 0} {S : A → State → B → State → Type 0} (m : ℕ) (before : ℕ → Object) (base : List ℕ) (s : State) (w : World) (act : Act V) → Keeps (Lasting m before base) act → Lasting m before base s
    → (c : V → Act A) (y : Ran (Did B)) → Follows S (and_then (act s w) (on (tested m before c))) y → Follows S (and_then (act s w) (on c)) y
lasting-on {V = V} {S = S} m before base s w act keeps lasting c y h = by (act s w) (keeps.by s w lasting) h
  where
    by : (x : Ran (Did V)) → Gave (λ (v : V) (t : State). Lasting m before base t) x → Follows S (and_then x (on (tested m before c))) y → Follows S (and_then x (on c)) y
    by (Went (Gives v t) w) q h = subst (λ b. Follows S (when b (c v) malformed t w) y) (test-holds m before base t q) h
    by (Went (Exits z t) w) q h = h
    by (Went Malformed w) q h = h
    by (Stops end trace) q h = h

-- at the beginning, where there is no temporary
pub lasting-start : (s : State) → s.frame.temporaries ≡ [] → Lasting s.next s.object s.frame.scope s
lasting-start s empty = record {
  next = omega arith;
  objects = λ o lt. record { type = refl; life = refl; gone = refl };
  temporaries = subst (Newer s.next) (sym empty) tt;
  scope = record { newer = []; parts = refl; new = tt };
}

-- the states of before: those from the bound on are not asked for
pub told-on : {A B V : Type 0} {S : A → State → B → State → Type 0} (r : State) (m : ℕ) (before : ℕ → Object) → r.next ≡ m → r.object ≡ before
    → (c : V → Act A) (v : V) (t : State) (w : World) (y : Ran (Did B)) → (Later r t → Follows S (c v t w) y) → Follows S (tested m before c v t w) y
told-on {S = S} r m before same_next same_object c v t w y next = by (later_test m before t) refl
  where
    told : later_test m before t ≡ true → Later r t
    told e =
        let parts = both (nat_le m t.next) (stay before t.object m) e in
        record {
          next = (let a = parts.0 in let b = same_next in grind (arith, nat_tests, a, b));
          gone = λ o lt g.
              stay-told before t.object m parts.1 o (let b = same_next in omega (arith, b, lt)) (ap (λ (f : ℕ → Object). (f o).is_gone) (sym same_object) ∙ g);
        }

    by : (b : Bool) → later_test m before t ≡ b → Follows S (when b (c v) malformed t w) y
    by true e = next (told e)
    by false e = record { by = tt }

-- ---- a value that is stored

hold-later : (p : Place) (v : Value) (t : State) → Later t (with_object p.object (hold p.route (Some v)) t)
hold-later p v t = record { next = omega arith; gone = λ o lt e. by o e (o == p.object) refl }
  where
    same : (o : ℕ) → o == p.object ≡ true → o ≡ p.object
    same o k = grind (arith, nat_tests, k)

    by : (o : ℕ) → (t.object o).is_gone ≡ true → (b : Bool) → o == p.object ≡ b → (if b then hold p.route (Some v) (t.object p.object) else t.object o).is_gone ≡ true
    by o e true k = ap (λ (q : ℕ). (t.object q).is_gone) (sym (same o k)) ∙ e
    by o e false k = e

scalar-later : (p : Place) (t : State) (w : World) (b : Bool) (v : Value) → Gave (λ (u : Unit {0}) (r : State). Later t r) (when b (used v >>= first_value p) malformed t w)
scalar-later p t w false v = tt
scalar-later p t w true (Number z) = hold-later p (Number z) t
scalar-later p t w true Null = hold-later p Null t
scalar-later p t w true (At q) = hold-later p (At q) t
scalar-later p t w true (Code f) = hold-later p (Code f) t
scalar-later p t w true (DataMember path i) = hold-later p (DataMember path i) t
scalar-later p t w true (FunctionMember path i) = hold-later p (FunctionMember path i) t
scalar-later p t w true v = tt

settle-later : (classes : List Class) (p : Place) (v : Value) (t : State) (w : World) → Gave (λ (u : Unit {0}) (r : State). Later t r) (settle classes p v t w)
settle-later classes p Built t w = later-same t
settle-later classes p v t w = scalar-later p t w (is_scalar (place_type classes t p)) v

later-tested : (t r : State) → Later t r → later_test t.next t.object r ≡ true
later-tested t r l =
    let le = l.next in all_of (nat_le t.next r.next) (stay t.object r.object t.next) (grind (arith, nat_tests, le)) (each t.next (λ o lt. l.gone o lt))
  where
    one : (a b : Bool) → (a ≡ true → b ≡ true) → not a || b ≡ true
    one true b f = f refl
    one false b f = refl

    each : (n : ℕ) → ((o : ℕ) → o < n → (t.object o).is_gone ≡ true → (r.object o).is_gone ≡ true) → stay t.object r.object n ≡ true
    each zero f = refl
    each (suc n) f =
        all_of (not (t.object n).is_gone || (r.object n).is_gone) (stay t.object r.object n) (one (t.object n).is_gone (r.object n).is_gone (f n (omega arith))) (each n (λ o lt. f o (omega arith)))

pub settle-on : {A B : Type 0} {S : A → State → B → State → Type 0} (classes : List Class) (p : Place) (v : Value) (t : State) (w : World) (c : Unit {0} → Act A) (y : Ran (Did B))
    → Follows S (and_then (settle classes p v t w) (on (tested t.next t.object c))) y → Follows S (and_then (settle classes p v t w) (on c)) y
settle-on {S = S} classes p v t w c y h = by (settle classes p v t w) (settle-later classes p v t w) h
  where
    by : (x : Ran (Did (Unit {0}))) → Gave (λ (u : Unit {0}) (r : State). Later t r) x → Follows S (and_then x (on (tested t.next t.object c))) y → Follows S (and_then x (on c)) y
    by (Went (Gives u r) w) l h = subst (λ b. Follows S (when b (c u) malformed r w) y) (later-tested t r l) h
    by (Went (Exits z r) w) l h = h
    by (Went Malformed w) l h = h
    by (Stops end trace) l h = h
