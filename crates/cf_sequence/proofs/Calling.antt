-- Calls by name: the library's functions, and the functions of a program beside those of the plain program.
use Rattle.std.proofs.Common.{◌≡◌, ℕ, zero, suc, length, cond, Bool, true, false, ◌||◌, List, [], ◌∷◌, ◌++◌, map, refl, sym, ap, subst, arith}
use Rattle.std.specs.Prelude.{Option, Some, None, find, nat_eq, bytes_eq, codes, option_map}
use Rattle.std.proofs.lemmas.Bool.Decides.{nat_tests}
use Rattle.cf_base.specs.Event.{Enter}
use Rattle.cf_base.specs.World.{World, Ran, Went, and_then, spend_of, deeper, show, next_of}
use Rattle.cf_core.specs.Types.{SourceType, Name, parameters, result}
use Rattle.cf_core.specs.Classes.{Class}
use Rattle.cf_core.specs.Core.{Function, Static}
use Rattle.cf_core.specs.Store.{Value, Number}
use Rattle.cf_core.specs.Run.{State, Frame, Did, Gives, Act, ◌>>=◌, ◌>>◌, gives, malformed, changed, some_or, valid, when, for_all, object_changed, with_object, gone, with_frame, done, cast_from_void}
use Rattle.cf_core.specs.Calls as core
use Rattle.cf_core.specs.Calls.{Program, body, function_named, is_library, run_library, call_library, run_named, name_function, has_type, enter, enter_found, frame_of, local_count, argument, put, get, byte_value, leave_with, returned, given_value, without_value}
use Rattle.cf_plain.specs.Running as plain
use Rattle.cf_plain.specs.Running.{calls, core_flow, header}
use Rattle.cf_plain.specs.Program.{headers}
use Rattle.cf_plain.specs.Plain.{PlainFunction}
use Rattle.cf_sequence.specs.Sequenced.{sequenced, sequenced_function}
use Rattle.cf_sequence.specs.Follows.{Follows}
use Rattle.cf_sequence.proofs.Following.{on, pull, push, follows-then, Pure, pure-gives, pure-malformed, pure-need, pure-when}

-- two frames of one call, which may have other locals
pub record Alike (f g : Frame) : Type 0 where
  pub function : g.function ≡ f.function
  pub this : g.this ≡ f.this
  pub result : g.result ≡ f.result
  pub depth : g.depth ≡ f.depth

pub never : {A : Type 0} → false ≡ true → A
never e = absurd (cc)

pub or-else : {X : Type 0} (a b : Bool) → (a || b) ≡ true → (a ≡ true → X) → (b ≡ true → X) → X
or-else true b ok f g = f refl
or-else false b ok f g = g ok

-- a function is named
pure-has_type : (x : Option Function) (t : SourceType) → Pure (has_type x t)
pure-has_type None t = pure-malformed
pure-has_type (Some f) t = pure-need _ cast_from_void

pub pure-function : (P : Program) (name : Name) (t : SourceType) → Pure (name_function P name t)
pure-function P name t = pure-when (is_library name) done (has_type (function_named P name) t) (pure-gives tt) (pure-has_type (function_named P name) t)

same-number : (i j : ℕ) → nat_eq i j ≡ true → i ≡ j
same-number i j e = grind (arith, nat_tests)

pick : (name : Name) (b : Bool) (x f : Function) (g : Function → Function) (old new : Option Function)
    → (old ≡ Some f → new ≡ Some (g f)) → cond b (Some x) old ≡ Some f → cond b (Some (g x)) new ≡ Some (g f)
pick name true x f g old new rest e = ap (option_map g) e
pick name false x f g old new rest e = rest e

-- a function of the program is the first of its name in the plain program
pub named-header : (cs : List Class) (xs : List Static) (name : Name) (fs : List Function) (others : List PlainFunction) (f : Function)
    → find (λ (f : Function). bytes_eq f.name name) fs ≡ Some f
    → find (λ (f : Function). bytes_eq f.name name) (map header (map (sequenced_function cs xs) fs ++ others)) ≡ Some (header (sequenced_function cs xs f))
named-header cs xs name [] others f e = absurd (cc)
named-header cs xs name (x ∷ fs) others f e =
    pick name (bytes_eq x.name name) x f (λ y. header (sequenced_function cs xs y)) _ _ (named-header cs xs name fs others f) e

-- ---- the library

module _ {C D : Type 0} {S : C → State → D → State → Type 0} (s : State) (f : Frame) (c : Value → Act C) (g : Value → Act D)
    (next : (v : Value) (w : World) → Follows S (c v s w) (g v (with_frame f s) w)) where
  put-steps : (v : Value) (w : World) → Follows S (and_then (put v s w) (on c)) (and_then (put v (with_frame f s) w) (on g))
  put-steps (Number z) w = next _ _
  put-steps v w = record { by = tt }

  leave-steps : (v : Value) (w : World) → Follows S (and_then (leave_with v s w) (on c)) (and_then (leave_with v (with_frame f s) w) (on g))
  leave-steps (Number z) w = record { by = record { after = with_frame f s; run = refl; same = refl } }
  leave-steps v w = record { by = tt }

  put-or-leave : (b : Bool) (v : Value) (w : World)
      → Follows S (and_then (when b (put v) (leave_with v) s w) (on c)) (and_then (when b (put v) (leave_with v) (with_frame f s) w) (on g))
  put-or-leave true v w = put-steps v w
  put-or-leave false v w = leave-steps v w

  with-argument : (name : Name) (x : Option Value) (w : World)
      → Follows S (and_then ((some_or x malformed >>= (λ v. when (bytes_eq name (codes "putchar")) (put v) (leave_with v))) s w) (on c))
      (and_then ((some_or x malformed >>= (λ v. when (bytes_eq name (codes "putchar")) (put v) (leave_with v))) (with_frame f s) w) (on g))
  with-argument name None w = record { by = tt }
  with-argument name (Some v) w = put-or-leave (bytes_eq name (codes "putchar")) v w

  next-steps : (input : List ℕ) (w : World)
      → Follows S (and_then (next_of input w (λ b w. Went (Gives (byte_value b) s) w)) (on c)) (and_then (next_of input w (λ b w. Went (Gives (byte_value b) (with_frame f s)) w)) (on g))
  next-steps [] w = next _ _
  next-steps (b ∷ rest) w = next _ _

  argument-same : (os : List ℕ) → argument os (with_frame f s) ≡ argument os s
  argument-same [] = refl
  argument-same (o ∷ os) = refl

  abbrev library_act : Bool → Name → Option Value → Act Value
  library_act b name x = elim b [
    | true ↦ get
    | false ↦ some_or x malformed >>= (λ v. when (bytes_eq name (codes "putchar")) (put v) (leave_with v))
  ]

  by-library : (b : Bool) (name : Name) (x : Option Value) (w : World)
      → Follows S (and_then (library_act b name x s w) (on c)) (and_then (library_act b name x (with_frame f s) w) (on g))
  by-library true name x w = next-steps w.input w
  by-library false name x w = with-argument name x w

  library-steps : (name : Name) (os : List ℕ) (w : World)
      → Follows S (and_then (run_library name os s w) (on c)) (and_then (run_library name os (with_frame f s) w) (on g))
  library-steps name os w =
      subst (λ x. Follows S (and_then (library_act (bytes_eq name (codes "getchar")) name (argument os s) s w) (on c))
      (and_then (library_act (bytes_eq name (codes "getchar")) name x (with_frame f s) w) (on g)))
      (sym (argument-same os)) (by-library (bytes_eq name (codes "getchar")) name (argument os s) w)

-- the storage of what it was given ends behind it
abbrev all_end : Value → List ℕ → Act Value
all_end v os = for_all os (λ o. object_changed o gone) >> gives v

end-steps : {C D : Type 0} {S : C → State → D → State → Type 0} (v : Value) (os : List ℕ) (s : State) (f : Frame) (w : World) (c : Value → Act C) (g : Value → Act D)
    → ((t : State) → t.frame ≡ s.frame → Follows S (c v t w) (g v (with_frame f t) w))
    → Follows S (and_then (all_end v os s w) (on c)) (and_then (all_end v os (with_frame f s) w) (on g))
end-steps v [] s f w c g next = next s refl
end-steps v (o ∷ os) s f w c g next = end-steps v os (with_object o gone s) f w c g next

pub call-steps : {C D : Type 0} {S : C → State → D → State → Type 0} (s : State) (f : Frame) (c : Value → Act C) (g : Value → Act D)
    → ((v : Value) (t : State) (w : World) → t.frame ≡ s.frame → Follows S (c v t w) (g v (with_frame f t) w)) → (name : Name) (os : List ℕ) (w : World)
    → Follows S (and_then (call_library name os s w) (on c)) (and_then (call_library name os (with_frame f s) w) (on g))
call-steps s f c g next name os w =
    pull (run_library name os s w) (λ v. all_end v os) c _ (push (run_library name os (with_frame f s) w) (λ v. all_end v os) g _
    (library-steps s f (λ v. all_end v os >>= c) (λ v. all_end v os >>= g) (λ v w. end-steps v os s f w c g (λ t same. next v t w same)) name os w))

-- ---- functions

-- how a body of the plain program ends beside that of the program
abbrev pub FlowAs : core.Flow → plain.Flow → Type 0
FlowAs core.Falls (plain.Falls h) = Unit {0}
FlowAs core.Falls y = ⊥
FlowAs (core.Returns v) (plain.Returns u) = v ≡ u
FlowAs (core.Returns v) y = ⊥
FlowAs x y = Unit {0}

-- the objects are the same where the function has ended well
abbrev pub SameObjects : core.Flow → State → State → Type 0
SameObjects core.Falls s t = t ≡ with_frame t.frame s
SameObjects (core.Returns v) s t = t ≡ with_frame t.frame s
SameObjects x s t = Unit {0}

pub record Ended (x : core.Flow) (s : State) (y : plain.Flow) (t : State) : Type 0 where
  pub flow : FlowAs x y
  pub same : SameObjects x s t

module _ (again : core.Again) (again' : plain.Again) (P : Program) where
  abbrev pub plain_program : Program
  plain_program = headers (sequenced P)

  abbrev pub plain_function : Function → Function
  plain_function f = header (sequenced_function P.classes P.statics f)

  -- the bodies of functions of the program, on the objects of their parameters
  abbrev pub Bodies : Type 0
  Bodies =
      (name : Name) (f : Function) → function_named P name ≡ Some f → (os : List ℕ) → length os ≡ length (parameters f.type)
      → (depth : ℕ) (s : State) (w : World)
      → Follows Ended (again (body f os) (with_frame (frame_of f.name (local_count f) os None None depth) s) w)
      (again' (plain.entered (plain_function f) os) (with_frame (frame_of f.name (local_count (plain_function f)) os None None depth) s) w)

  module _ (bodies : Bodies) {C D : Type 0} {S : C → State → D → State → Type 0} (s : State) (f : Frame) (c : Value → Act C) (g : Value → Act D)
      (next : (v : Value) (t : State) (w : World) → t.frame ≡ s.frame → Follows S (c v t w) (g v (with_frame f t) w)) where
    value-steps : (v : Value) (u q : State) (w : World) → q ≡ with_frame q.frame u → Follows S (c v (with_frame s.frame u) w) (g v (with_frame f q) w)
    value-steps v u q w same = subst (λ q. Follows S (c v (with_frame s.frame u) w) (g v (with_frame f q) w)) (sym same) (next v (with_frame s.frame u) w refl)

    returned-steps : (t : SourceType) (x : core.Flow) (y : plain.Flow) → FlowAs x y → (u q : State) (w : World) → SameObjects x u q
        → Follows S (and_then (returned t x (with_frame s.frame u) w) (on c)) (and_then (returned t (core_flow y) (with_frame f q) w) (on g))
    returned-steps t core.Falls (plain.Falls h) e u q w same = value-steps (without_value t) u q w same
    returned-steps t core.Falls (plain.Breaks h) e u q w same = absurd e
    returned-steps t core.Falls (plain.Continues h) e u q w same = absurd e
    returned-steps t core.Falls (plain.Returns v) e u q w same = absurd e
    returned-steps t core.Breaks y e u q w same = record { by = tt }
    returned-steps t core.Continues y e u q w same = record { by = tt }
    returned-steps t (core.Returns v) (plain.Returns x) e u q w same =
        subst (λ x. Follows S (and_then (returned t (core.Returns v) (with_frame s.frame u) w) (on c)) (and_then (returned t (core.Returns x) (with_frame f q) w) (on g))) e
        (value-steps (given_value t v) u q w same)
    returned-steps t (core.Returns v) (plain.Falls h) e u q w same = absurd e
    returned-steps t (core.Returns v) (plain.Breaks h) e u q w same = absurd e
    returned-steps t (core.Returns v) (plain.Continues h) e u q w same = absurd e

    body-steps : (name : Name) (h : Function) → function_named P name ≡ Some h → (os : List ℕ) → length os ≡ length (parameters h.type) → (depth : ℕ) (w : World)
        → Follows S
        (and_then (and_then (again (body h os) (with_frame (frame_of h.name (local_count h) os None None depth) s) w)
        (on (λ flow. changed (with_frame s.frame) >> returned (result h.type) flow))) (on c))
        (and_then (and_then (and_then (again' (plain.entered (plain_function h) os) (with_frame (frame_of h.name (local_count (plain_function h)) os None None depth) s) w)
        (on (λ flow. gives (core_flow flow)))) (on (λ flow. changed (with_frame f) >> returned (result h.type) flow))) (on g))
    body-steps name h e os l depth w =
        pull _ (λ flow. changed (with_frame s.frame) >> returned (result h.type) flow) c _
        (push _ (λ flow. changed (with_frame f) >> returned (result h.type) flow) g _
        (push _ (λ flow. gives (core_flow flow)) (λ flow. (changed (with_frame f) >> returned (result h.type) flow) >>= g) _
        (follows-then _ _ _ _ (bodies name h e os l depth s w) (λ x u y t w r.
        returned-steps (result h.type) x y r.flow u t w r.same))))

    deeper-steps : (d e : ℕ) → e ≡ d → (w : World) (go go' : ℕ → Ran (Did Value))
        → ((n : ℕ) → Follows S (and_then (go n) (on c)) (and_then (go' n) (on g)))
        → Follows S (and_then (deeper d w go) (on c)) (and_then (deeper e w go') (on g))
    deeper-steps zero e same w go go' step = subst (λ e. Follows S (and_then (deeper zero w go) (on c)) (and_then (deeper e w go') (on g))) (sym same) (record { by = refl })
    deeper-steps (suc d) e same w go go' step = subst (λ e. Follows S (and_then (deeper (suc d) w go) (on c)) (and_then (deeper e w go') (on g))) (sym same) (step d)

    spend-steps : (n : ℕ) (w : World) (go go' : World → Ran (Did Value))
        → ((v : World) → Follows S (and_then (go v) (on c)) (and_then (go' v) (on g)))
        → Follows S (and_then (spend_of n w go) (on c)) (and_then (spend_of n w go') (on g))
    spend-steps zero w go go' step = record { by = refl }
    spend-steps (suc n) w go go' step = step _

    pub enter-steps : (name : Name) (h : Function) → function_named P name ≡ Some h → (os : List ℕ) → length os ≡ length (parameters h.type) → Alike s.frame f → (w : World)
        → Follows S (and_then (enter again h os None None s w) (on c)) (and_then (enter (calls again') (plain_function h) os None None (with_frame f s) w) (on g))
    enter-steps name h e os l alike w =
        spend-steps w.ticks w _ _ (λ w. deeper-steps s.frame.depth f.depth alike.depth w _ _ (λ depth. body-steps name h e os l depth (show (Enter h.name) w)))

    -- it is entered on as many objects as it has parameters, on both sides
    pub found-steps : (name : Name) (h : Function) → function_named P name ≡ Some h → (os : List ℕ) → Alike s.frame f → (w : World)
        → Follows S (and_then (enter_found again (Some h) os None None s w) (on c)) (and_then (enter_found (calls again') (Some (plain_function h)) os None None (with_frame f s) w) (on g))
    found-steps name h e os alike w = by (nat_eq (length os) (length (parameters h.type))) refl
      where
        by : (b : Bool) → nat_eq (length os) (length (parameters h.type)) ≡ b
            → Follows S (and_then ((valid b >> enter again h os None None) s w) (on c)) (and_then ((valid b >> enter (calls again') (plain_function h) os None None) (with_frame f s) w) (on g))
        by true same = enter-steps name h e os (same-number (length os) (length (parameters h.type)) same) alike w
        by false same = record { by = tt }
