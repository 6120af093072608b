-- A call keeps the frame of its caller, and the objects that are not the caller's own.
use Rattle.std.proofs.Common.{◌≡◌, ℕ, zero, suc, ◌<◌, Bool, true, false, ◌||◌, ◌==◌, List, [], ◌∷◌, length, codes, bytes_eq, refl, sym, ◌∙◌, ap, subst, arith, inl, inr}
use Rattle.std.specs.Prelude.{Option, Some, None, slice_get, nat_eq, ◌⊎◌}
use Rattle.std.proofs.lemmas.Bool.Decides.{nat_tests}
use Rattle.cf_base.specs.Event.{Enter}
use Rattle.cf_base.specs.World.{World, Ran, Went, Stops, and_then, spend_of, deeper, show, next_of}
use Rattle.cf_core.specs.Types.{Name, SourceType, parameters, result}
use Rattle.cf_core.specs.Core.{Function}
use Rattle.cf_core.specs.Store.{Value, Number, Null, Code, Object}
use Rattle.cf_core.specs.Run.{State, Did, Gives, Exits, Malformed, Act, onward, ◌>>=◌, ◌>>◌, gives, malformed, changed, some_or, valid, when, for_all, object_changed, gone, with_frame, null_used}
use Rattle.cf_core.specs.Calls as core
use Rattle.cf_core.specs.Calls.{Program, function_named, is_library, byte_value, get, put, leave_with, argument, run_library, call_library, frame_of, local_count, returned, enter, enter_found, run_named, name_function}
use Rattle.cf_core.specs.Objects.{run_pointer}
use Rattle.cf_plain.specs.Acts.{objects_of}
use Rattle.cf_plain.specs.Running.{Again, Flow, entered, calls, core_flow}
use Rattle.cf_plain_frames.specs.Since.{is_among, IsOwn, HasValue, Since, Always, Keeps}
use Rattle.cf_plain_frames.proofs.Acts.{keeps-gives, keeps-malformed, keeps-undefined, keeps-next, keeps-then, keeps-some, keeps-valid, keeps-when, keeps-at}
use Rattle.cf_plain_frames.proofs.Objects.{keeps-ends}
use Rattle.cf_plain_frames.proofs.Values.{keeps-function}

-- functions that are entered keep the objects of before
abbrev pub EntersStay : Again → Type 0
EntersStay again =
    (f : Function) (os : List ℕ) (s : State) (w : World) → ((i : ℕ) → s.frame.locals i ≡ slice_get os i) → Always (Since s os) (again (entered f os) s w)

-- ---- the library's functions

module _ (So : State → Type 0) where
  keeps-get : Keeps So get
  keeps-get = record { by = λ s w q. by_input s w q w.input }
    where
      by_input : (s : State) (w : World) → So s → (x : List ℕ) → Always So (next_of x w (λ b w. Went (Gives (byte_value b) s) w))
      by_input s w q [] = record { by = q }
      by_input s w q (b ∷ rest) = record { by = q }

  keeps-put : (v : Value) → Keeps So (put v)
  keeps-put (Number z) = record { by = λ s w q. record { by = q } }
  keeps-put v = keeps-malformed So

  keeps-leave : (v : Value) → Keeps So (leave_with v)
  keeps-leave (Number z) = record { by = λ s w q. record { by = tt } }
  keeps-leave v = keeps-malformed So

  keeps-library : (name : Name) (os : List ℕ) → Keeps So (run_library name os)
  keeps-library name os = keeps-at So _ (λ s. by_name s (bytes_eq name (codes "getchar")))
    where
      by_name : (s : State) (b : Bool)
          → Keeps So (elim b as (λ x. Act Value) [
            | true ↦ get
            | false ↦ some_or (argument os s) malformed >>= (λ v. when (bytes_eq name (codes "putchar")) (put v) (leave_with v))
          ])
      by_name s true = keeps-get
      by_name s false =
          keeps-then So (some_or (argument os s) malformed) (λ v. when (bytes_eq name (codes "putchar")) (put v) (leave_with v))
          (keeps-some So (argument os s) malformed (keeps-malformed So))
          (λ v. keeps-when So (bytes_eq name (codes "putchar")) (put v) (leave_with v) (keeps-put v) (keeps-leave v))

  keeps-returned : (t : SourceType) (flow : core.Flow) → Keeps So (returned t flow)
  keeps-returned t core.Falls = keeps-gives So _
  keeps-returned t core.Breaks = keeps-malformed So
  keeps-returned t core.Continues = keeps-malformed So
  keeps-returned t (core.Returns v) = keeps-gives So _

module _ (e : State) (os : List ℕ) where
  abbrev Q : State → Type 0
  Q = Since e os

  -- these are own
  abbrev pub AllOwn : List ℕ → Type 0
  AllOwn ps = (o : ℕ) → is_among o ps ≡ true → IsOwn e os o

  -- ---- the objects of locals

  pub record Found (is : List ℕ) (s : State) (w : World) : Type 0 where
    pub objects : List ℕ
    pub are : objects_of is s w ≡ Went (Gives objects s) w
    pub own : AllOwn objects

  own-more : (o : ℕ) (ps : List ℕ) → IsOwn e os o → AllOwn ps → AllOwn (o ∷ ps)
  own-more o ps first rest p h = by_test (o == p) refl
    where
      by_test : (b : Bool) → o == p ≡ b → IsOwn e os p
      by_test true k = subst (IsOwn e os) (let at : o ≡ p = grind (arith, nat_tests, k) in at) first
      by_test false k = rest p (sym (ap (λ b. b || is_among p ps) k) ∙ h)

  none-own : AllOwn []
  none-own o h = absurd (cc)

  abbrev from : List ℕ → State → World → Option ℕ → Ran (Did (List ℕ))
  from is s w x = (some_or x malformed >>= (λ o. objects_of is >>= (λ ps. gives (o ∷ ps)))) s w

  objects-found : (is : List ℕ) (s : State) (w : World) → Q s → (objects_of is s w ≡ Went Malformed w) ⊎ Found is s w
  objects-found [] s w h = inr (record { objects = []; are = refl; own = none-own })
  objects-found (i ∷ is) s w h = by_local (s.frame.locals i) refl (objects-found is s w h)
    where
      by_rest : (o : ℕ) → s.frame.locals i ≡ Some o → (objects_of is s w ≡ Went Malformed w) ⊎ Found is s w
          → (objects_of (i ∷ is) s w ≡ Went Malformed w) ⊎ Found (i ∷ is) s w
      by_rest o k (inl none) = inl (ap (from is s w) k ∙ ap (λ r. and_then r (λ did w. onward did (λ ps. gives (o ∷ ps)) w)) none)
      by_rest o k (inr x) = inr
          (record {
            objects = o ∷ x.objects;
            are = ap (from is s w) k ∙ ap (λ r. and_then r (λ did w. onward did (λ ps. gives (o ∷ ps)) w)) x.are;
            own = own-more o x.objects (h.locals i o k) x.own;
          })

      by_local : (x : Option ℕ) → s.frame.locals i ≡ x → (objects_of is s w ≡ Went Malformed w) ⊎ Found is s w
          → (objects_of (i ∷ is) s w ≡ Went Malformed w) ⊎ Found (i ∷ is) s w
      by_local None k rest = inl (ap (from is s w) k)
      by_local (Some o) k rest = by_rest o k rest

  -- ---- back in the caller

  not-among : (ps : List ℕ) → AllOwn ps → (o : ℕ) → o < e.next → is_among o os ≡ false → is_among o ps ≡ false
  not-among ps own o lt ne = by_test (is_among o ps) refl
    where
      by_own : IsOwn e os o → is_among o ps ≡ false
      by_own (inl among) = absurd (let both = sym among ∙ ne in cc)
      by_own (inr new) = absurd (omega (arith, lt, new))

      by_test : (b : Bool) → is_among o ps ≡ b → is_among o ps ≡ false
      by_test true k = by_own (own o k)
      by_test false k = k

  since-back : (s u entry : State) (ps : List ℕ) → Q s → AllOwn ps → entry.next ≡ s.next → entry.object ≡ s.object → Since entry ps u → Q (with_frame s.frame u)
  since-back s u entry ps h own next objects x = record {
    function = h.function;
    count = h.count;
    depth = h.depth;
    next = let a = h.next in let b = x.next in omega (arith, a, b, next);
    locals = h.locals;
    kept = λ o lt ne.
        x.kept o (let a = h.next in omega (arith, a, lt, next)) (not-among ps own o lt ne) ∙ ap (λ (f : ℕ → Object). (f o).is_gone) objects ∙ h.kept o lt ne;
    valued = λ o lt v.
        x.valued o (let a = h.next in omega (arith, a, lt, next)) (subst (λ (f : ℕ → Object). HasValue (f o)) (sym objects) (h.valued o lt v));
  }

  module _ (again : Again) (stay : EntersStay again) where
    entered-back : (s entry : State) (ps : List ℕ) (t : SourceType) → Q s → AllOwn ps → entry.next ≡ s.next → entry.object ≡ s.object → (x : Ran (Did Flow))
        → Always (Since entry ps) x
        → Always Q (and_then (and_then x (λ did w. onward did (λ flow. gives (core_flow flow)) w))
        (λ did w. onward did (λ flow. changed (with_frame s.frame) >> returned t flow) w))
    entered-back s entry ps t h own next objects (Went (Gives flow u) w) x =
        (keeps-returned Q t (core_flow flow)).by (with_frame s.frame u) w (since-back s u entry ps h own next objects x.by)
    entered-back s entry ps t h own next objects (Went (Exits z u) w) x = record { by = tt }
    entered-back s entry ps t h own next objects (Went Malformed w) x = record { by = tt }
    entered-back s entry ps t h own next objects (Stops end trace) x = record { by = tt }

    abbrev entry : Function → List ℕ → State → ℕ → State
    entry f ps s depth = with_frame (frame_of f.name (local_count f) ps None None depth) s

    abbrev inner : Function → List ℕ → State → ℕ → World → Ran (Did Value)
    inner f ps s depth w = (calls again (core.body f ps) >>= (λ flow. changed (with_frame s.frame) >> returned (result f.type) flow)) (entry f ps s depth) w

    keeps-enter : (f : Function) (ps : List ℕ) → AllOwn ps → Keeps Q (enter (calls again) f ps None None)
    keeps-enter f ps own = record { by = λ s w h. by_ticks s w h w.ticks }
      where
        by_depth : (s : State) (w : World) → Q s → (d : ℕ) → Always Q (deeper d w (λ depth. inner f ps s depth (show (Enter f.name) w)))
        by_depth s w h zero = record { by = tt }
        by_depth s w h (suc d) =
            entered-back s (entry f ps s d) ps (result f.type) h own refl refl (again (entered f ps) (entry f ps s d) (show (Enter f.name) w))
            (stay f ps (entry f ps s d) (show (Enter f.name) w) (λ i. refl))

        by_ticks : (s : State) (w : World) → Q s → (n : ℕ)
            → Always Q (spend_of n w (λ w. deeper s.frame.depth w (λ depth. inner f ps s depth (show (Enter f.name) w))))
        by_ticks s w h zero = record { by = tt }
        by_ticks s w h (suc n) = by_depth s (record w { ticks = n }) h s.frame.depth

    keeps-entered : (f : Option Function) (ps : List ℕ) → AllOwn ps → Keeps Q (enter_found (calls again) f ps None None)
    keeps-entered None ps own = keeps-malformed Q
    keeps-entered (Some f) ps own =
        keeps-then Q (valid (nat_eq (length ps) (length (parameters f.type)))) (λ u. enter (calls again) f ps None None) (keeps-valid Q (nat_eq (length ps) (length (parameters f.type)))) (λ u. keeps-enter f ps own)

    module _ (P : Program) where
      keeps-named : (name : Name) (ps : List ℕ) → AllOwn ps → Keeps Q (run_named (calls again) P name ps None None)
      keeps-named name ps own = by_name (is_library name)
        where
          by_name : (b : Bool)
              → Keeps Q (elim b as (λ x. Act Value) [ true ↦ call_library name ps | false ↦ enter_found (calls again) (function_named P name) ps None None ])
          by_name true =
              keeps-then Q (run_library name ps) (λ v. for_all ps (λ o. object_changed o gone) >> gives v) (keeps-library Q name ps)
              (λ v. keeps-next Q (for_all ps (λ o. object_changed o gone)) (gives v) (keeps-ends e os ps own) (keeps-gives Q v))
          by_name false = keeps-entered (function_named P name) ps own

      -- through a pointer: a function, or null
      keeps-pointed : (v : Value) (ps : List ℕ) → AllOwn ps → Keeps Q (run_pointer (calls again) P None v ps None)
      keeps-pointed (Code name) ps own = keeps-named name ps own
      keeps-pointed Null ps own = keeps-undefined Q null_used
      keeps-pointed v ps own = keeps-malformed Q

      -- on the objects of the arguments, where they are found
      module _ (go : List ℕ → Act Value) (keeps : (ps : List ℕ) → AllOwn ps → Keeps Q (go ps)) where
        abbrev then_run : Ran (Did (List ℕ)) → Ran (Did Value)
        then_run r = and_then r (λ did w. onward did go w)

        keeps-on_objects : (is : List ℕ) → Keeps Q (objects_of is >>= go)
        keeps-on_objects is = record { by = λ s w h. by_found s w h (objects-found is s w h) }
          where
            by_found : (s : State) (w : World) → Q s → (objects_of is s w ≡ Went Malformed w) ⊎ Found is s w → Always Q ((objects_of is >>= go) s w)
            by_found s w h (inl none) = subst (λ r. Always Q (then_run r)) (sym none) (record { by = tt })
            by_found s w h (inr x) = subst (λ r. Always Q (then_run r)) (sym x.are) ((keeps x.objects x.own).by s w h)

      pub keeps-call : (name : Name) (t : SourceType) (is : List ℕ)
          → Keeps Q (name_function P name t >> (objects_of is >>= (λ ps. run_named (calls again) P name ps None None)))
      keeps-call name t is =
          keeps-next Q (name_function P name t) (objects_of is >>= (λ ps. run_named (calls again) P name ps None None)) (keeps-function Q P name t)
          (keeps-on_objects (λ ps. run_named (calls again) P name ps None None) (keeps-named name) is)

      pub keeps-pointer-call : (v : Value) (is : List ℕ) → Keeps Q (objects_of is >>= (λ ps. run_pointer (calls again) P None v ps None))
      keeps-pointer-call v is = keeps-on_objects (λ ps. run_pointer (calls again) P None v ps None) (keeps-pointed v) is
