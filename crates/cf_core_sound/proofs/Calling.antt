-- Calls: a function is entered on objects of its parameters' types, and gives back a value of its result's type.
use Rattle.std.proofs.Common.{◌≡◌, ℕ, zero, suc, ◌-◌, ◌%◌, ◌<◌, nat_lt, Bool, true, false, if◌then◌else◌, List, [], ◌∷◌, ◌++◌, length, length-append, ℤ, pos, negsuc, inl, inr, refl, sym, ap, ◌∙◌, subst, true≢false, arith, codes, bytes_eq}
use Rattle.std.specs.Prelude.{Option, Some, None, is_some, slice_get, nat_eq}
use Rattle.std.proofs.lemmas.Bool.Decides.{nat_tests}
use Rattle.cf_base.specs.Event.{Enter}
use Rattle.cf_base.specs.World.{World, Ran, Went, Stops, and_then, spend, spend_of, deeper, show, next_of}
use Rattle.cf_base.specs.declared.kind.Kind.TheVariants.{Int}
use Rattle.cf_base.specs.Integers.{fits, bits_of}
use Rattle.cf_core.specs.Types.{Name, SourceType, void, integer, enumeration, class, pointer, reference, array, takes, gives as gives_type, data_member, function_member, const, parameters, result, is_void}
use Rattle.cf_core.specs.Core.{Function}
use Rattle.cf_core.specs.Places.{is_scalar}
use Rattle.cf_core.specs.Store.{Value, Nothing, Missing, Built, Number, Null, At, Code, DataMember, FunctionMember}
use Rattle.cf_core.specs.Run.{State, Did, Gives, Exits, Malformed, Act, onward, ◌>>=◌, ◌>>◌, gives, malformed, changed, some_or, when, for_all, object_changed, gone, with_frame}
use Rattle.cf_core.specs.Calls.{Program, Flow, Falls, Breaks, Continues, Returns, body, Again, function_named, is_library, put, get, byte_value, leave_with, argument, run_library, call_library, frame_of, local_count, without_value, given_value, returned, enter, enter_found, run_named}
use Rattle.cf_core.specs.Typing.{of_result}
use Rattle.cf_core_sound.specs.Proper.{shape}
use Rattle.cf_core_sound.specs.Values.{library_type, type_of_function, IsFunction, IsOf, Fits, Fit}
use Rattle.cf_core_sound.specs.States.{Stands, Sound, Later, Behind}
use Rattle.cf_core_sound.specs.Well.{OfBytes, Ends, Well}
use Rattle.cf_core_sound.specs.Simple.{is_chain}
use Rattle.cf_core_sound.specs.Calls.{IsGiven, IsBack, frame_types, Bodies}
use Rattle.cf_core_sound.proofs.Shapes.{scalar-shape}
use Rattle.cf_core_sound.proofs.Moments.{behind-self, later-then, stands-later, is-later}
use Rattle.cf_core_sound.proofs.States.{object-behind, frame-later, frame-sound}
use Rattle.cf_core_sound.proofs.Typings.{fits-value, fits-place}
use Rattle.cf_core_sound.proofs.Wells.{ends-behind, well-then, well-next, well-gives, well-at, well-valid}

no-test : false ≡ true → ⊥
no-test e = true≢false (sym e)

of-some : {A : Type 0} (a b : A) → Some a ≡ Some b → a ≡ b
of-some a b e = cc

none-is : {A : Type 0} (a : A) → None ≡ Some a → ⊥
none-is a e = absurd (cc)

-- ---- functions of one shape

abbrev pub AllAlike : List SourceType → List SourceType → Type 0
AllAlike [] [] = Unit {0}
AllAlike [] (u ∷ us) = ⊥
AllAlike (t ∷ ts) [] = ⊥
AllAlike (t ∷ ts) (u ∷ us) = (shape t ≡ shape u) × AllAlike ts us

abbrev first_of : SourceType → SourceType
first_of (takes p t) = p
first_of t = t

abbrev rest_of : SourceType → SourceType
rest_of (takes p t) = t
rest_of (gives_type t c) = t
rest_of t = t

chain-alike : (t u : SourceType) → is_chain t ≡ true → is_chain u ≡ true → shape t ≡ shape u → AllAlike (parameters t) (parameters u) × (shape (result t) ≡ shape (result u))
chain-alike (takes p t) (takes q u) h k e = let rest = chain-alike t u h k (ap rest_of e) in ((ap first_of e, rest.0), rest.1)
chain-alike (takes p t) (gives_type u c) h k e = absurd (cc)
chain-alike (gives_type t c) (takes q u) h k e = absurd (cc)
chain-alike (gives_type t c) (gives_type u d) h k e = (tt, ap rest_of e)
chain-alike (takes p t) u h k e = absurd (no-test k)
chain-alike (gives_type t c) u h k e = absurd (no-test k)
chain-alike t u h k e = absurd (no-test h)

-- ---- the objects of arguments

abbrev pub ArgsStand : State → List SourceType → List ℕ → Type 0
ArgsStand s [] [] = Unit {0}
ArgsStand s [] (o ∷ os) = ⊥
ArgsStand s (t ∷ ts) [] = ⊥
ArgsStand s (t ∷ ts) (o ∷ os) = Stands s t o × ArgsStand s ts os

pub args-later : (s t : State) (ts : List SourceType) (os : List ℕ) → Later s t → ArgsStand s ts os → ArgsStand t ts os
args-later s t [] [] h k = tt
args-later s t [] (o ∷ os) h k = k
args-later s t (a ∷ ts) [] h k = k
args-later s t (a ∷ ts) (o ∷ os) h k = (stands-later s t a o h k.0, args-later s t ts os h k.1)

args-alike : (s : State) (ts us : List SourceType) (os : List ℕ) → AllAlike ts us → ArgsStand s us os → ArgsStand s ts os
args-alike s [] [] os h k = k
args-alike s [] (u ∷ us) os h k = absurd h
args-alike s (t ∷ ts) [] os h k = absurd h
args-alike s (t ∷ ts) (u ∷ us) [] h k = k
args-alike s (t ∷ ts) (u ∷ us) (o ∷ os) h k = (record { below = k.0.below; same = k.0.same ∙ sym h.0 }, args-alike s ts us os h.1 k.1)

args-length : (s : State) (ts : List SourceType) (os : List ℕ) → ArgsStand s ts os → length os ≡ length ts
args-length s [] [] k = refl
args-length s [] (o ∷ os) k = absurd k
args-length s (t ∷ ts) [] k = absurd k
args-length s (t ∷ ts) (o ∷ os) k = ap suc (args-length s ts os k.1)

args-at : (s : State) (ts ls : List SourceType) (os : List ℕ) (i o : ℕ) (t : SourceType) → ArgsStand s ts os → slice_get os i ≡ Some o → slice_get (ts ++ ls) i ≡ Some t → Stands s t o
args-at s [] ls [] i o t k e f = absurd (none-is o e)
args-at s [] ls (p ∷ os) i o t k e f = absurd k
args-at s (u ∷ ts) ls [] i o t k e f = absurd k
args-at s (u ∷ ts) ls (p ∷ os) zero o t k e f = subst (Stands s t) (of-some p o e) (subst (λ a. Stands s a p) (of-some u t f) k.0)
args-at s (u ∷ ts) ls (p ∷ os) (suc i) o t k e f = args-at s ts ls os i o t k.1 e f

-- the one argument of a function that takes one
one-arg : (s : State) (a : SourceType) (ts : List SourceType) (os : List ℕ) → AllAlike (a ∷ []) ts → ArgsStand s ts os → (o : ℕ) × (os ≡ o ∷ []) × Stands s a o
one-arg s a [] os h k = absurd h
one-arg s a (t ∷ []) [] h k = absurd k
one-arg s a (t ∷ []) (o ∷ []) h k = (o, refl, record { below = k.0.below; same = k.0.same ∙ sym h.0 })
one-arg s a (t ∷ []) (o ∷ (p ∷ os)) h k = absurd k.1
one-arg s a (t ∷ (u ∷ ts)) os h k = absurd h.1

nat-same : (n m : ℕ) → n ≡ m → nat_eq n m ≡ true
nat-same n m e = grind (arith, nat_tests, e)

-- ---- what is given back

fits-result : (P : Program) (s : State) (t : SourceType) (v : Value) → IsOf P s (shape t) v → Fits P s (of_result t) v
fits-result P s (reference t) v i = fits-place P s t v i
fits-result P s (class c) v i = absurd i
fits-result P s (const t) v i = fits-result P s t v i
fits-result P s void v i = fits-value P s void v i
fits-result P s (integer k) v i = fits-value P s (integer k) v i
fits-result P s (enumeration n) v i = fits-value P s (enumeration n) v i
fits-result P s (pointer t) v i = fits-value P s (pointer t) v i
fits-result P s (array t n) v i = fits-value P s (array t n) v i
fits-result P s (takes p t) v i = fits-value P s (takes p t) v i
fits-result P s (gives_type t c) v i = fits-value P s (gives_type t c) v i
fits-result P s (data_member c t) v i = fits-value P s (data_member c t) v i
fits-result P s (function_member c t) v i = fits-value P s (function_member c t) v i

void-shape-of : (t : SourceType) → is_void t ≡ true → shape t ≡ void
void-shape-of void e = refl
void-shape-of (const t) e = void-shape-of t e
void-shape-of (integer k) e = absurd (no-test e)
void-shape-of (enumeration n) e = absurd (no-test e)
void-shape-of (class c) e = absurd (no-test e)
void-shape-of (pointer t) e = absurd (no-test e)
void-shape-of (reference t) e = absurd (no-test e)
void-shape-of (array t n) e = absurd (no-test e)
void-shape-of (takes p t) e = absurd (no-test e)
void-shape-of (gives_type t c) e = absurd (no-test e)
void-shape-of (data_member c t) e = absurd (no-test e)
void-shape-of (function_member c t) e = absurd (no-test e)

without-fits : (P : Program) (s : State) (r t : SourceType) → shape r ≡ shape t → Fit P s (of_result t) (without_value r)
without-fits P s r t e = by_test (is_void r) refl
  where
    by_test : (b : Bool) → is_void r ≡ b → Fit P s (of_result t) (if b then Nothing else Missing)
    by_test true v = inr (fits-result P s t Nothing (subst (λ a. IsOf P s a Nothing) (sym (void-shape-of r v) ∙ e) refl))
    by_test false v = inl refl

given-fits : (P : Program) (s : State) (r t : SourceType) (v : Value) → shape r ≡ shape t → IsOf P s (shape t) v → Fit P s (of_result t) (given_value r v)
given-fits P s r t Nothing e i = without-fits P s r t e
given-fits P s r t Missing e i = inl refl
given-fits P s r t Built e i = inr (fits-result P s t Built i)
given-fits P s r t (Number z) e i = inr (fits-result P s t (Number z) i)
given-fits P s r t Null e i = inr (fits-result P s t Null i)
given-fits P s r t (At p) e i = inr (fits-result P s t (At p) i)
given-fits P s r t (Code f) e i = inr (fits-result P s t (Code f) i)
given-fits P s r t (DataMember path n) e i = inr (fits-result P s t (DataMember path n) i)
given-fits P s r t (FunctionMember path f) e i = inr (fits-result P s t (FunctionMember path f) i)

back-fits : (P : Program) (s : State) (r t : SourceType) (v : Value) → shape r ≡ shape t → IsGiven P s r v → Fit P s (of_result t) (given_value r v)
back-fits P s r t v e (inl n) = subst (λ x. Fit P s (of_result t) (given_value r x)) (sym n) (without-fits P s r t e)
back-fits P s r t v e (inr (inl m)) = subst (λ x. Fit P s (of_result t) (given_value r x)) (sym m) (inl refl)
back-fits P s r t v e (inr (inr i)) = given-fits P s r t v e (subst (λ a. IsOf P s a v) e i)

module _ (P : Program) (locals : List SourceType) where
  returned-well : (u : State) (r t : SourceType) (flow : Flow) → Sound P locals u → shape r ≡ shape t → IsBack P r flow u → Well P locals u (λ v w. Fit P w (of_result t) v) (returned r flow)
  returned-well u r t Falls h e k = well-gives P locals u (without_value r) h (without-fits P u r t e)
  returned-well u r t Breaks h e k = absurd k
  returned-well u r t Continues h e k = absurd k
  returned-well u r t (Returns v) h e k = well-gives P locals u (given_value r v) h (back-fits P u r t v e k)

  back-later : (s t : State) (r : SourceType) (flow : Flow) → Later s t → IsBack P r flow s → IsBack P r flow t
  back-later s t r Falls h k = k
  back-later s t r Breaks h k = k
  back-later s t r Continues h k = k
  back-later s t r (Returns v) h (inl n) = inl n
  back-later s t r (Returns v) h (inr (inl m)) = inr (inl m)
  back-later s t r (Returns v) h (inr (inr i)) = inr (inr (is-later P s t h (shape r) v i))

  -- ---- a tick and a level of depth are spent

  spend-ends : {A : Type 0} {Q : A → State → Type 0} (s : State) (w : World) (go : World → Ran (Did A)) → OfBytes w.input
      → ((x : World) → OfBytes x.input → Ends P locals s Q (go x)) → Ends P locals s Q (spend w go)
  spend-ends {Q = Q} s w go bytes k = by_ticks w.ticks
    where
      by_ticks : (n : ℕ) → Ends P locals s Q (spend_of n w go)
      by_ticks zero = record { by = tt }
      by_ticks (suc left) = k (record w { ticks = left }) bytes

  deeper-ends : {A : Type 0} {Q : A → State → Type 0} (s : State) (d : ℕ) (w : World) (go : ℕ → Ran (Did A)) → ((depth : ℕ) → Ends P locals s Q (go depth)) → Ends P locals s Q (deeper d w go)
  deeper-ends s zero w go k = record { by = tt }
  deeper-ends s (suc d) w go k = k d

  -- what follows a body's run
  body-ends : {A : Type 0} {Q : A → State → Type 0} (ls : List SourceType) (R : Flow → State → Type 0) (s t : State) (x : Ran (Did Flow)) (go : Flow → Act A) → Ends P ls t R x
      → ((flow : Flow) (u : State) (w : World) → Behind P ls t u → R flow u → OfBytes w.input → Ends P locals s Q (go flow u w)) → Ends P locals s Q (and_then x (λ did w. onward did go w))
  body-ends ls R s t (Went (Gives flow u) w) go h k = k flow u w h.by.0 h.by.1 h.by.2
  body-ends ls R s t (Went (Exits z u) w) go h k = record { by = tt }
  body-ends ls R s t (Went Malformed w) go h k = absurd h.by
  body-ends ls R s t (Stops end trace) go h k = record { by = tt }

  module _ (again : Again) (bodies : Bodies P again) where
    enter-well : (s : State) (name : Name) (f : Function) (t : SourceType) (os : List ℕ) → Sound P locals s → function_named P name ≡ Some f → ArgsStand s (parameters f.type) os → shape (result f.type) ≡ shape t
        → Well P locals s (λ v u. Fit P u (of_result t) v) (enter again f os None None)
    enter-well s name f t os h found args same = record {
      by = λ w bytes. spend-ends s w _ bytes (λ w bytes. deeper-ends s s.frame.depth w _ (λ depth.
          body-ends (frame_types f) (IsBack P (result f.type)) s (entered depth) (again (body f os) (entered depth) (show (Enter f.name) w)) (λ flow. changed (with_frame s.frame) >> returned (result f.type) flow)
          ((bodies.by name f found (entered depth) os (sound depth)).by (show (Enter f.name) w) bytes)
          (λ flow u w b k bytes. ends-behind P locals s (with_frame s.frame u) _ (after depth u b)
          ((returned-well (with_frame s.frame u) (result f.type) t flow (back depth u b) same (back-later u (with_frame s.frame u) (result f.type) flow (frame-later P (frame_types f) u b.sound s.frame) k)).by w bytes))));
    }
      where
        entered : ℕ → State
        entered depth = with_frame (frame_of f.name (local_count f) os None None depth) s

        sound : (depth : ℕ) → Sound P (frame_types f) (entered depth)
        sound depth = frame-sound P locals s h (frame_types f) (frame_of f.name (local_count f) os None None depth)
            (sym (length-append (parameters f.type) f.locals)) refl
            (λ i o t e k. args-at s (parameters f.type) f.locals os i o t args e k)

        after : (depth : ℕ) (u : State) → Behind P (frame_types f) (entered depth) u → Later s (with_frame s.frame u)
        after depth u b = later-then s (entered depth) (with_frame s.frame u) (frame-later P locals s h (frame_of f.name (local_count f) os None None depth))
            (later-then (entered depth) u (with_frame s.frame u) b.later (frame-later P (frame_types f) u b.sound s.frame))

        back : (depth : ℕ) (u : State) → Behind P (frame_types f) (entered depth) u → Sound P locals (with_frame s.frame u)
        back depth u b = frame-sound P (frame_types f) u b.sound locals s.frame h.count h.result (λ i o t e k.
            stands-later s u t o (later-then s (entered depth) u (frame-later P locals s h (frame_of f.name (local_count f) os None None depth)) b.later) (h.locals_stand i o t e k))

    -- ---- functions of the library

    gone-well : (s : State) (os : List ℕ) → Sound P locals s → Well P locals s (λ _ u. Unit {0}) (for_all os (λ o. object_changed o gone))
    gone-well s [] h = well-gives P locals s tt h tt
    gone-well s (o ∷ os) h = well-next P locals {Q = λ _ u. Unit {0}} s (object_changed o gone) (for_all os (λ o. object_changed o gone))
        (record { by = λ w bytes. record { by = (object-behind P locals s h o gone refl (λ lt π v sc e. h.holds o π v lt sc e), tt, bytes) } })
        (λ _ u b e. gone-well u os b.sound)

    below-told : (n m : ℕ) → n < m → nat_lt n m ≡ true
    below-told n m lt = grind (arith, nat_tests, lt)

    byte-int : (z : ℤ) → fits Int (pos (bits_of 8 z)) ≡ true
    byte-int (pos n) = below-told (n % 256) 2147483648 (omega arith)
    byte-int (negsuc n) = below-told (256 - suc (n % 256)) 2147483648 (omega arith)

    put-well : (s : State) (z : ℤ) → Sound P locals s → Well P locals s (λ v u. IsOf P u (integer Int) v) (put (Number z))
    put-well s z h = record { by = λ w bytes. record { by = (behind-self P locals s h, (pos (bits_of 8 z), refl, byte-int z), bytes) } }

    get-well : (s : State) → Sound P locals s → Well P locals s (λ v u. IsOf P u (integer Int) v) get
    get-well s h = record { by = λ w bytes. by_input w bytes w.input bytes }
      where
        by_input : (w : World) → OfBytes w.input → (x : List ℕ) → OfBytes x → Ends P locals s (λ v u. IsOf P u (integer Int) v) (next_of x w (λ b w. Went (Gives (byte_value b) s) w))
        by_input w own [] bytes = record { by = (behind-self P locals s h, (negsuc 0, refl, refl), own) }
        by_input w own (b ∷ rest) bytes = record { by = (behind-self P locals s h, (pos b, refl, below-told b 2147483648 (let lt = bytes.0 in omega (arith, lt))), bytes.1) }

    held-well : {B : Type 0} {R : B → State → Type 0} (s : State) (o : ℕ) (go : Value → Act B) → Sound P locals s → Stands s (integer Int) o → (x : Option Value) → (s.object o).held [] ≡ x → is_some x ≡ true
        → ((z : ℤ) → Well P locals s R (go (Number z))) → Well P locals s R (some_or x malformed >>= go)
    held-well s o go h st None e k next = absurd (no-test k)
    held-well {R = R} s o go h st (Some v) e k next =
        let scalar : is_scalar (s.object o).type ≡ true = sym (scalar-shape (s.object o).type) ∙ ap is_scalar st.same in
        let i : IsOf P s (integer Int) v = subst (λ a. IsOf P s a v) st.same (h.holds o [] v st.below scalar e) in
        record { by = λ w bytes. (subst (λ y. Well P locals s R (go y)) (sym i.1) (next i.0)).by w bytes }

    -- what the library's function of one argument does
    one-well : (s : State) (name : Name) (os : List ℕ) (t : SourceType) → Sound P locals s → (o : ℕ) → os ≡ o ∷ [] → Stands s (integer Int) o → is_some ((s.object o).held []) ≡ true
        → (b : Bool) → (b ≡ true → shape t ≡ integer Int)
        → Well P locals s (λ v u. IsOf P u (shape t) v) (some_or (argument os s) malformed >>= (λ v. when b (put v) (leave_with v)))
    one-well s name os t h o e st held b int =
        subst (λ xs. Well P locals s (λ v u. IsOf P u (shape t) v) (some_or (argument xs s) malformed >>= (λ v. when b (put v) (leave_with v)))) (sym e)
        (held-well s o (λ v. when b (put v) (leave_with v)) h st ((s.object o).held []) refl held (by_test b int))
      where
        by_test : (b : Bool) → (b ≡ true → shape t ≡ integer Int) → (z : ℤ) → Well P locals s (λ v u. IsOf P u (shape t) v) (when b (put (Number z)) (leave_with (Number z)))
        by_test true int z = subst (λ a. Well P locals s (λ v u. IsOf P u a v) (put (Number z))) (sym (int refl)) (put-well s z h)
        by_test false int z = record { by = λ w bytes. record { by = tt } }

    library-run : (s : State) (name : Name) (t : SourceType) (os : List ℕ) → Sound P locals s → is_chain t ≡ true → shape (library_type name) ≡ shape t → ArgsStand s (parameters t) os
        → ((o : ℕ) → os ≡ o ∷ [] → is_some ((s.object o).held []) ≡ true) → Well P locals s (λ v u. IsOf P u (shape (result t)) v) (run_library name os)
    library-run s name t os h chain same args held = well-at P locals s
        (λ s. elim (bytes_eq name (codes "getchar")) [
          | true ↦ get
          | false ↦ some_or (argument os s) malformed >>= (λ v. when (bytes_eq name (codes "putchar")) (put v) (leave_with v))
        ]) h (by_name (bytes_eq name (codes "getchar")) (bytes_eq name (codes "putchar")) same)
      where
        by_one : (r : SourceType) (b : Bool) → shape (takes (integer Int) (gives_type r false)) ≡ shape t → (b ≡ true → shape r ≡ integer Int)
            → Well P locals s (λ v u. IsOf P u (shape (result t)) v) (some_or (argument os s) malformed >>= (λ v. when b (put v) (leave_with v)))
        by_one r b same int =
            let alike = chain-alike (takes (integer Int) (gives_type r false)) t refl chain same in
            let one = one-arg s (integer Int) (parameters t) os alike.0 args in
            one-well s name os (result t) h one.0 one.1 one.2 (held one.0 one.1) b (λ e. sym alike.1 ∙ int e)

        by_name : (g p : Bool) → shape (if p then takes (integer Int) (gives_type (integer Int) false) else (if g then gives_type (integer Int) false else takes (integer Int) (gives_type void false))) ≡ shape t
            → Well P locals s (λ v u. IsOf P u (shape (result t)) v) (elim g as (λ x. Act Value) [
              | true ↦ get
              | false ↦ some_or (argument os s) malformed >>= (λ v. when p (put v) (leave_with v))
            ])
        by_name true true same =
            let alike = chain-alike (takes (integer Int) (gives_type (integer Int) false)) t refl chain same in
            subst (λ a. Well P locals s (λ v u. IsOf P u a v) get) alike.1 (get-well s h)
        by_name true false same =
            let alike = chain-alike (gives_type (integer Int) false) t refl chain same in
            subst (λ a. Well P locals s (λ v u. IsOf P u a v) get) alike.1 (get-well s h)
        by_name false true same = by_one (integer Int) true same (λ e. refl)
        by_name false false same = by_one void false same (λ e. absurd (no-test e))

    library-well : (s : State) (name : Name) (t : SourceType) (os : List ℕ) → Sound P locals s → is_chain t ≡ true → shape (library_type name) ≡ shape t → ArgsStand s (parameters t) os
        → ((o : ℕ) → os ≡ o ∷ [] → is_some ((s.object o).held []) ≡ true) → Well P locals s (λ v u. Fit P u (of_result (result t)) v) (call_library name os)
    library-well s name t os h chain same args held =
        well-then P locals s (run_library name os) (λ v. for_all os (λ o. object_changed o gone) >> gives v) (library-run s name t os h chain same args held)
        (λ v u b i. well-next P locals {Q = λ _ u. Unit {0}} u (for_all os (λ o. object_changed o gone)) (gives v) (gone-well u os b.sound)
        (λ _ x c e. well-gives P locals x v c.sound (inr (fits-result P x (result t) v (is-later P u x c.later (shape (result t)) v i)))))

    -- ---- calls by name

    found-well : (s : State) (name : Name) (t : SourceType) (os : List ℕ) → Sound P locals s → is_chain t ≡ true → ArgsStand s (parameters t) os → (x : Option Function) → function_named P name ≡ x
        → (type : SourceType) → type_of_function x ≡ Some type → shape type ≡ shape t → Well P locals s (λ v u. Fit P u (of_result (result t)) v) (enter_found again x os None None)
    found-well s name t os h chain args None e type f same = absurd (none-is type f)
    found-well s name t os h chain args (Some g) e type f same =
        let alike = chain-alike g.type t (bodies.chain name g e) chain (ap shape (of-some g.type type f) ∙ same) in
        let args = args-alike s (parameters g.type) (parameters t) os alike.0 args in
        well-valid P locals s (nat_eq (length os) (length (parameters g.type))) (enter again g os None None) (nat-same _ _ (args-length s (parameters g.type) os args))
        (enter-well s name g (result t) os h e args alike.1)

    pub run-well : (s : State) (name : Name) (t : SourceType) (os : List ℕ) → Sound P locals s → is_chain t ≡ true → IsFunction P name (shape t) → ArgsStand s (parameters t) os
        → ((o : ℕ) → os ≡ o ∷ [] → is_some ((s.object o).held []) ≡ true) → Well P locals s (λ v u. Fit P u (of_result (result t)) v) (run_named again P name os None None)
    run-well s name t os h chain f args held = by_name (is_library name) refl f.found
      where
        by_name : (b : Bool) → is_library name ≡ b → (if b then Some (library_type name) else type_of_function (function_named P name)) ≡ Some f.type
            → Well P locals s (λ v u. Fit P u (of_result (result t)) v) (elim b as (λ x. Act Value) [ true ↦ call_library name os | false ↦ enter_found again (function_named P name) os None None ])
        by_name true e found = library-well s name t os h chain (ap shape (of-some _ _ found) ∙ f.same) args held
        by_name false e found = found-well s name t os h chain args (function_named P name) refl f.type found f.same
