-- What makes, fills and ends objects, and calls, leave no object to be destroyed.
use Rattle.std.proofs.Common.{◌≡◌, ℕ, zero, suc, Bool, true, false, ◌&&◌, not, ◌==◌, List, [], ◌∷◌, ◌++◌, length, codes, bytes_eq, refl, ap, sym, ◌∙◌, subst}
use Rattle.std.specs.Prelude.{pos, Option, Some, None, find, nat_eq, nat_lt}
use Rattle.cf_base.specs.Event.{Enter}
use Rattle.cf_base.specs.World.{World, Went, spend_of, deeper, show, next_of}
use Rattle.cf_base.specs.declared.kind.Kind.{Kind}
use Rattle.cf_base.specs.Integers.{convert as converted}
use Rattle.cf_core.specs.Types.{Name, SourceType, void, integer, enumeration, class, pointer, reference, array, takes, gives as gives_type, data_member, function_member, const, parameters, result}
use Rattle.cf_core.specs.Classes.{Class, class_named, destructor_in}
use Rattle.cf_core.specs.Core.{Function, item}
use Rattle.cf_core.specs.Places.{Place, inner, type_at, is_scalar}
use Rattle.cf_core.specs.Store.{Value, Nothing, Built, Number, Null, Code, Object, zero_of, hold, hold_all, is_constant_place}
use Rattle.cf_core.specs.Run.{Literal, State, Gives, Act, ◌>>=◌, ◌>>◌, gives, malformed, changed, state, done, need, valid, some_or, when, tick, for_each_back, for_all, object_changed, gone, with_frame, null_used}
use Rattle.cf_core.specs.Access.{place_type, used, names_scalar, use_place, write_place, first_value, fill_zeros}
use Rattle.cf_core.specs.Calls as core
use Rattle.cf_core.specs.Calls.{Program, root, destroy, by_destructor, has_destructor, function_named, is_library, byte_value, get, put, leave_with, argument, run_library, call_library, frame_of, local_count, returned, enter, enter_found, run_named, name_function}
use Rattle.cf_core.specs.Objects.{found_literal, literal_object, new_local, settle, write_bytes, run_pointer}
use Rattle.cf_plain.specs.Acts.{object_of, objects_of, doing, end_local}
use Rattle.cf_plain.specs.Running.{Again, entered, calls}
use Rattle.cf_plain_finished.specs.Finished.{Always, Keeps, NoneFinished}
use Rattle.cf_plain_finished.proofs.Acts.{keeps-gives, keeps-malformed, keeps-undefined, keeps-need, keeps-next, keeps-then, keeps-some, keeps-valid, keeps-when, keeps-at}
use Rattle.cf_plain_finished.proofs.Values.{keeps-used, keeps-names, keeps-use, keeps-function, keeps-object}

abbrev pub Q : State → Type 0
Q = NoneFinished

-- no class has a destructor where there are none
no-destructor : (t : SourceType) → has_destructor [] t ≡ false
no-destructor void = refl
no-destructor (integer k) = refl
no-destructor (enumeration e) = refl
no-destructor (class c) = refl
no-destructor (pointer t) = refl
no-destructor (reference t) = refl
no-destructor (array t n) = no-destructor t
no-destructor (takes p t) = refl
no-destructor (gives_type t c) = refl
no-destructor (data_member c t) = refl
no-destructor (function_member c t) = refl
no-destructor (const t) = no-destructor t

-- ---- objects

keeps-object_changed : (p : ℕ) (f : Object → Object) → Keeps Q (object_changed p f)
keeps-object_changed p f = record { by = λ s w h. record { by = h } }

keeps-first_value : (p : Place) (v : Value) → Keeps Q (first_value p v)
keeps-first_value p v = keeps-object_changed p.object (hold p.route (Some v))

pub keeps-write : (classes : List Class) (p : Place) (v : Value) → Keeps Q (write_place classes p v)
keeps-write classes p v =
    keeps-next Q (names_scalar classes p) _ (keeps-names Q classes p)
    (keeps-next Q (use_place classes p) _ (keeps-use Q classes p)
    (keeps-at Q _ (λ s. keeps-next Q (need (not (is_constant_place classes (s.object p.object) p.route)) 15) _ (keeps-need Q _ 15) (keeps-object_changed p.object (hold p.route (Some v))))))

pub keeps-zeros : (classes : List Class) (p : Place) → Keeps Q (fill_zeros classes p)
keeps-zeros classes p =
    keeps-at Q _ (λ s. keeps-object_changed p.object (hold_all p.route (λ r. Some (zero_of (type_at classes (s.object p.object).type (r ++ p.route))))))

pub keeps-bytes : (k : Kind) (p : Place) (i : ℕ) (b : List ℕ) → Keeps Q (write_bytes k p i b)
keeps-bytes k p i [] = keeps-gives Q tt
keeps-bytes k p i (b ∷ rest) =
    keeps-next Q (first_value (inner (item i) p) (Number (converted k (pos b)))) (write_bytes k p (suc i) rest) (keeps-first_value _ _) (keeps-bytes k p (suc i) rest)

keeps-first : (classes : List Class) (p : Place) (v : Value) → Keeps Q (state >>= (λ s. when (is_scalar (place_type classes s p)) (used v >>= first_value p) malformed))
keeps-first classes p v =
    keeps-at Q _ (λ s. keeps-when Q (is_scalar (place_type classes s p)) (used v >>= first_value p) malformed
    (keeps-then Q (used v) (first_value p) (keeps-used Q v) (keeps-first_value p)) (keeps-malformed Q))

pub keeps-settle : (classes : List Class) (p : Place) (v : Value) → Keeps Q (settle classes p v)
keeps-settle classes p Built = keeps-gives Q tt
keeps-settle classes p v = keeps-first classes p v

pub keeps-new : (i : ℕ) (t : SourceType) → Keeps Q (new_local i t)
keeps-new i t =
    keeps-at Q _ (λ s. keeps-next Q (valid (nat_lt i s.frame.count)) _ (keeps-valid Q _) (record { by = λ u w h. record { by = h } }))

pub keeps-literal : (j : ℕ) (b : List ℕ) → Keeps Q (literal_object j b)
keeps-literal j b =
    keeps-at Q _ (λ s. keeps-some Q (found_literal (find (λ (x : Literal). bytes_eq x.function s.frame.function && (x.number == j)) s.literals)) _
    (record { by = λ u w h. record { by = h } }))

keeps-ends : (ps : List ℕ) → Keeps Q (for_all ps (λ o. object_changed o gone))
keeps-ends [] = keeps-gives Q tt
keeps-ends (p ∷ ps) = keeps-next Q (object_changed p gone) (for_all ps (λ o. object_changed o gone)) (keeps-object_changed p gone) (keeps-ends ps)

module _ (again : core.Again) (P : Program) (none : P.classes ≡ []) where
  keeps-destroy : (t : SourceType) (p : Place) → Keeps Q (destroy again P t p)
  keeps-destroy void p = keeps-gives Q tt
  keeps-destroy (integer k) p = keeps-gives Q tt
  keeps-destroy (enumeration n) p = keeps-gives Q tt
  keeps-destroy (class c) p = subst (λ cs. Keeps Q (by_destructor again P (destructor_in (class_named cs c)) p)) (sym none) (keeps-gives Q tt)
  keeps-destroy (pointer t) p = keeps-gives Q tt
  keeps-destroy (reference t) p = keeps-gives Q tt
  keeps-destroy (array t n) p =
      subst (λ b. Keeps Q (when b (for_each_back n (λ i. tick >> destroy again P t (inner (item i) p))) done))
      (sym (ap (λ cs. has_destructor cs t) none ∙ no-destructor t)) (keeps-gives Q tt)
  keeps-destroy (takes a t) p = keeps-gives Q tt
  keeps-destroy (gives_type t c) p = keeps-gives Q tt
  keeps-destroy (data_member c t) p = keeps-gives Q tt
  keeps-destroy (function_member c t) p = keeps-gives Q tt
  keeps-destroy (const t) p = keeps-destroy t p

  pub keeps-finish : (t : SourceType) (i : ℕ) → Keeps Q (state >>= (λ s. end_local again P t (s.frame.locals i)))
  keeps-finish t i = keeps-at Q _ (λ s. by_local (s.frame.locals i))
    where
      by_local : (x : Option ℕ) → Keeps Q (end_local again P t x)
      by_local None = keeps-gives Q Nothing
      by_local (Some o) =
          keeps-next Q (destroy again P t (root o)) (doing (object_changed o gone)) (keeps-destroy t (root o))
          (keeps-then Q (object_changed o gone) (λ _. gives Nothing) (keeps-object_changed o gone) (λ _. keeps-gives Q Nothing))

keeps-objects : (is : List ℕ) → Keeps Q (objects_of is)
keeps-objects [] = keeps-gives Q []
keeps-objects (i ∷ is) =
    keeps-then Q (object_of i) _ (keeps-object Q i) (λ o. keeps-then Q (objects_of is) _ (keeps-objects is) (λ os. keeps-gives Q (o ∷ os)))

-- ---- the library's functions

keeps-get : Keeps Q get
keeps-get = record { by = λ s w q. by_input s w q w.input }
  where
    by_input : (s : State) (w : World) → Q s → (x : List ℕ) → Always Q (next_of x w (λ b w. Went (Gives (byte_value b) s) w))
    by_input s w q [] = record { by = q }
    by_input s w q (b ∷ rest) = record { by = q }

keeps-put : (v : Value) → Keeps Q (put v)
keeps-put (Number z) = record { by = λ s w q. record { by = q } }
keeps-put v = keeps-malformed Q

keeps-leave : (v : Value) → Keeps Q (leave_with v)
keeps-leave (Number z) = record { by = λ s w q. record { by = q } }
keeps-leave v = keeps-malformed Q

keeps-library : (name : Name) (os : List ℕ) → Keeps Q (run_library name os)
keeps-library name os = keeps-at Q _ (λ s. by_name s (bytes_eq name (codes "getchar")))
  where
    by_name : (s : State) (b : Bool)
        → Keeps Q (elim b as (λ x. Act Value) [
          | true ↦ get
          | false ↦ some_or (argument os s) malformed >>= (λ v. when (bytes_eq name (codes "putchar")) (put v) (leave_with v))
        ])
    by_name s true = keeps-get
    by_name s false =
        keeps-then Q (some_or (argument os s) malformed) (λ v. when (bytes_eq name (codes "putchar")) (put v) (leave_with v))
        (keeps-some Q (argument os s) malformed (keeps-malformed Q))
        (λ v. keeps-when Q (bytes_eq name (codes "putchar")) (put v) (leave_with v) (keeps-put v) (keeps-leave v))

keeps-returned : (t : SourceType) (flow : core.Flow) → Keeps Q (returned t flow)
keeps-returned t core.Falls = keeps-gives Q _
keeps-returned t core.Breaks = keeps-malformed Q
keeps-returned t core.Continues = keeps-malformed Q
keeps-returned t (core.Returns v) = keeps-gives Q _

-- ---- functions

-- functions that are entered leave none
abbrev pub EntersKept : Again → Type 0
EntersKept again = (f : Function) (os : List ℕ) → Keeps Q (again (entered f os))

module _ (again : Again) (kept : EntersKept again) where
  keeps-flow : (f : Function) (os : List ℕ) → Keeps Q (calls again (core.body f os))
  keeps-flow f os = keeps-then Q (again (entered f os)) _ (kept f os) (λ flow. keeps-gives Q _)

  pub keeps-enter : (f : Function) (os : List ℕ) → Keeps Q (enter (calls again) f os None None)
  keeps-enter f os = record { by = λ s w h. by_ticks s w h w.ticks }
    where
      inner : (s : State) → Keeps Q (calls again (core.body f os) >>= (λ flow. changed (with_frame s.frame) >> returned (result f.type) flow))
      inner s =
          keeps-then Q (calls again (core.body f os)) _ (keeps-flow f os)
          (λ flow. keeps-next Q (changed (with_frame s.frame)) (returned (result f.type) flow) (record { by = λ t w h. record { by = h } }) (keeps-returned (result f.type) flow))

      by_depth : (s : State) (w : World) → Q s → (d : ℕ)
          → Always Q (deeper d w (λ depth. (calls again (core.body f os) >>= (λ flow. changed (with_frame s.frame) >> returned (result f.type) flow))
          (with_frame (frame_of f.name (local_count f) os None None depth) s) (show (Enter f.name) w)))
      by_depth s w h zero = record { by = tt }
      by_depth s w h (suc d) = (inner s).by (with_frame (frame_of f.name (local_count f) os None None d) s) (show (Enter f.name) w) h

      by_ticks : (s : State) (w : World) → Q s → (n : ℕ)
          → Always Q (spend_of n w (λ w. deeper s.frame.depth w (λ depth. (calls again (core.body f os) >>= (λ flow. changed (with_frame s.frame) >> returned (result f.type) flow))
          (with_frame (frame_of f.name (local_count f) os None None depth) s) (show (Enter f.name) w))))
      by_ticks s w h zero = record { by = tt }
      by_ticks s w h (suc n) = by_depth s (record w { ticks = n }) h s.frame.depth

  keeps-entered : (f : Option Function) (os : List ℕ) → Keeps Q (enter_found (calls again) f os None None)
  keeps-entered None os = keeps-malformed Q
  keeps-entered (Some f) os =
      keeps-then Q (valid (nat_eq (length os) (length (parameters f.type)))) (λ u. enter (calls again) f os None None)
      (keeps-valid Q (nat_eq (length os) (length (parameters f.type)))) (λ u. keeps-enter f os)

  module _ (P : Program) where
    pub keeps-named : (name : Name) (os : List ℕ) → Keeps Q (run_named (calls again) P name os None None)
    keeps-named name os = by_name (is_library name)
      where
        by_name : (b : Bool)
            → Keeps Q (elim b as (λ x. Act Value) [ true ↦ call_library name os | false ↦ enter_found (calls again) (function_named P name) os None None ])
        by_name true =
            keeps-then Q (run_library name os) (λ v. for_all os (λ o. object_changed o gone) >> gives v) (keeps-library name os)
            (λ v. keeps-next Q (for_all os (λ o. object_changed o gone)) (gives v) (keeps-ends os) (keeps-gives Q v))
        by_name false = keeps-entered (function_named P name) os

    keeps-pointed : (v : Value) (os : List ℕ) → Keeps Q (run_pointer (calls again) P None v os None)
    keeps-pointed (Code name) os = keeps-named name os
    keeps-pointed Null os = keeps-undefined Q null_used
    keeps-pointed v os = keeps-malformed Q

    pub keeps-call : (name : Name) (t : SourceType) (is : List ℕ)
        → Keeps Q (name_function P name t >> (objects_of is >>= (λ os. run_named (calls again) P name os None None)))
    keeps-call name t is =
        keeps-next Q (name_function P name t) (objects_of is >>= (λ os. run_named (calls again) P name os None None)) (keeps-function Q P name t)
        (keeps-then Q (objects_of is) (λ os. run_named (calls again) P name os None None) (keeps-objects is) (keeps-named name))

    pub keeps-pointer-call : (v : Value) (is : List ℕ) → Keeps Q (objects_of is >>= (λ os. run_pointer (calls again) P None v os None))
    keeps-pointer-call v is = keeps-then Q (objects_of is) (λ os. run_pointer (calls again) P None v os None) (keeps-objects is) (keeps-pointed v)
