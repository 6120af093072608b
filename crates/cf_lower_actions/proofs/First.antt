-- First values of scalars.
use Rattle.std.proofs.Common.{◌≡◌, ℕ, ◌<◌, Bool, true, false, [], ◌∷◌, refl, sym, ◌∙◌, ap, subst, arith}
use Rattle.std.specs.Prelude.{◌+◌, Some, Ok, length}
use Rattle.cf_base.specs.World.{World}
use Rattle.cf_core.specs.Types.{SourceType, without_const}
use Rattle.cf_core.specs.Places.{Place}
use Rattle.cf_core.specs.Store as source
use Rattle.cf_core.specs.Store.{hold}
use Rattle.cf_core.specs.Run.{State, with_object}
use Rattle.cf_core.specs.Calls.{Program, root}
use Rattle.cf_core.specs.Calls as core
use Rattle.cf_lower_layout.specs.Layout.{leads}
use Rattle.cf_lower_layout.specs.Sorts.{Sort, number, address, code, scalar_sort, sort_of}
use Rattle.cf_plain.specs.Plain as plain
use Rattle.cf_plain.specs.Plain.{Register, act}
use Rattle.cf_plain.specs.Acts.{Registers, acts}
use Rattle.cf_plain.specs.Running.{calls, does}
use Rattle.cc_whole.specs.Plain.{Expression, named, pointed, assign}
use Rattle.cc_whole_memory.specs.declared.value.Pointer.TheVariants as pointer
use Rattle.cc_whole_memory.specs.declared.value.Value.{Value}
use Rattle.cc_whole_memory.specs.Values.{type_of, as_scalar}
use Rattle.cc_whole_memory.specs.Blocks.{on_ok, write}
use Rattle.cc_whole_mean.specs.Flow as c
use Rattle.cc_whole_mean.specs.Types.{scalar_of}
use Rattle.cc_whole_mean.specs.Values.{value_of, fitted, variable_target, assigned, assigned_to, stored}
use Rattle.cf_lower_relate.specs.Map.{Fixed, Map, Is, is_ended, pointer_to}
use Rattle.cf_lower_relate.specs.Scalars.{c_scalar}
use Rattle.cf_lower_relate.proofs.Memory.{write-place}
use Rattle.cf_lower_relate.proofs.Sorts.{is-scalar}
use Rattle.cf_lower.specs.Kept.{Kept, holds, argument, Keeping, local_kept, type_of_local}
use Rattle.cf_lower.specs.Written.{if_scalar, c_type, local_name}
use Rattle.cf_lower.specs.Expressions.{address_in, local_value, as_stored}
use Rattle.cf_lower.specs.Statements.{lowered, first_in, stored as stored_at, put}
use Rattle.cf_lower_steps.specs.Steps.{HasValue}
use Rattle.cf_lower_steps.specs.Flows.{Simulates}
use Rattle.cf_lower_steps.specs.Lowering.{Takes}
use Rattle.cf_lower_steps.proofs.Registers.{fitted-stays}
use Rattle.cf_lower_steps.proofs.Stores.{Stored, as-stored-value}
use Rattle.cf_lower_steps.proofs.Values.{known-in, stored-scalar}
use Rattle.cf_lower_turns.specs.Around.{Around, depth_of, inside_at}
use Rattle.cf_lower_turns.specs.Here.{Here}
use Rattle.cf_lower_turns.specs.Ways.{ends}
use Rattle.cf_lower_turns.specs.Scene.{GivesBack, Scene, fixed_in, again_at, list_at}
use Rattle.cf_lower_leaves.proofs.Setting.{store-step}
use Rattle.cf_lower_leaves.proofs.Storing.{LiteralsKept, none-wrong, none-ends, kept-by}
use Rattle.cf_lower_objects.proofs.First.{first-cases, first-by, first-step}
use Rattle.cf_lower_actions.specs.Fits.{Fits}
use Rattle.cf_lower_actions.specs.Leaf.{IsThere, IsLocals}

-- a first value makes no literal
first-keeps : (P : Program) (again : core.Again) (g : Registers) (r q : Register) (s : State) (w : World) → LiteralsKept s (acts again P g (plain.first r q) s w)
first-keeps P again g r q s w =
    first-cases P again g r q s w (LiteralsKept s) (none-wrong s w) (none-ends s w) (λ is. kept-by s source.Nothing s w refl)
    (λ p isp v is us. kept-by s source.Nothing (with_object p.object (hold p.route (Some v)) s) w refl)

module _ (z : Scene) (around : Around Keeping) (p : Keeping) (n : ℕ) (g : Registers) (s : State) (t : c.State) (w : World)
    (h : Here (fixed_in z) z.body p (depth_of around) g s t) (r q : Register) (y : SourceType) (u : Sort) (x : Kept) (b : Sort)
    (kr : p r ≡ holds (address y)) (e : sort_of y ≡ Some u) (kq : p q ≡ x) (lx : local_kept x ≡ Some b) (takes : Takes u x) (there : IsThere z.program.classes g s r) where
  -- the object stands in the map too
  standing : (o : Place) → g r ≡ Some (source.At o) → (is_ended (h.map.stage o.object) ≡ false) × (leads z.program.classes (h.map.type o.object) o.route ≡ true)
  standing o is =
      let found = known-in z.program z.function z.signature h.map (calls (again_at z n)) s t.memory h.between.rel w z.body.scope p g h.between.registers r (holds (address y)) (source.At o) kr is in
      let known = found.same.known in
      let there = there o is in (
        sym (h.between.rel.gone o.object known) ∙ there.0,
        subst (λ a. leads z.program.classes a o.route ≡ true) (h.between.rel.type o.object known) there.1,
      )

  pub first-done : Simulates (ends Keeping z.body.scope (Here (fixed_in z) z.body) (GivesBack (fixed_in z) z.body z.result) around p)
      (does (again_at z n) z.program (act (plain.first r q)) g s w) (list_at z n (lowered (act (plain.first r q)) (inside_at z.inside around) p) t w)
  first-done =
      subst (λ ss. Simulates (ends Keeping z.body.scope (Here (fixed_in z) z.body) (GivesBack (fixed_in z) z.body z.result) around p)
      (does (again_at z n) z.program (act (plain.first r q)) g s w) (list_at z n ss t w))
      (sym (ap (λ k. first_in k r (local_value (local_kept (p q)) q)) kr
      ∙ ap (λ i. stored_at i r (local_value (local_kept (p q)) q)) e
      ∙ ap (λ k. put u (address_in r) (local_value (local_kept k) q) ∷ []) kq
      ∙ ap (λ l. put u (address_in r) (local_value l q) ∷ []) lx))
      (store-step z n around p p g s t w h (pointed (c_type u) (address_in r)) (as_stored u (local_value (Some b) q)) refl _ (first-keeps z.program (calls (again_at z n)) g r q s w)
      (first-step z.program z.function z.signature h.map (calls (again_at z n)) s t.memory h.between.rel w z.body.scope p g h.between.registers r q x b kq lx y u kr e takes standing))

-- ---- the object of a parameter of a call

is-type : (K : Fixed) (F : Map) (u : Sort) (v : source.Value) (c : Value) → Is K F u v c → type_of c ≡ scalar_of (c_type u)
is-type K F u v c h = typed u v c h ∙ sym (stored-scalar u)
  where
    typed : (u : Sort) (v : source.Value) (c : Value) → Is K F u v c → type_of c ≡ c_scalar u
    typed (number k) (source.Number x) c h = ap type_of h.is
    typed (address t) source.Null c h = ap type_of h
    typed (address t) (source.At p) c h = ap type_of h.is
    typed (code t) source.Null c h = ap type_of h
    typed (code t) (source.Code f) c h = ap type_of h.is
    typed u v c h = absurd h

-- what is stored once is stored again as it is
stored-again : (K : Fixed) (F : Map) (u : Sort) (v : source.Value) (c : Value) → Is K F u v c → fitted (scalar_of (c_type u)) c ≡ Ok c
stored-again K F u v c h =
    fitted-stays K F (scalar_of (c_type u)) c (is-type K F u v c h) (ap (λ a. as_scalar a c) (stored-scalar u) ∙ is-scalar K F u v c h)

module _ (z : Scene) (fits : Fits z) (around : Around Keeping) (p : Keeping) (n : ℕ) (g : Registers) (s : State) (t : c.State) (w : World)
    (h : Here (fixed_in z) z.body p (depth_of around) g s t) (r q : Register) (i : ℕ) (y : SourceType) (u : Sort) (x : Kept) (b : Sort)
    (kr : p r ≡ argument i y) (lt : i < length z.body.own.locals.types) (typed : without_const y ≡ without_const (type_of_local z.body.own.locals i))
    (e : sort_of y ≡ Some u) (kq : p q ≡ x) (lx : local_kept x ≡ Some b) (takes : Takes u x) (its : IsLocals g s r i) where
  abbrev expression : Expression
  expression = as_stored u (local_value (Some b) q)

  sort-here : sort_of (type_of_local z.body.own.locals i) ≡ Some u
  sort-here = ap scalar_sort (sym typed) ∙ e

  -- the object stands in the C local
  stored-there : (o : ℕ) → s.frame.locals i ≡ Some o → (s.object o).is_gone ≡ false → (v : source.Value)
      → HasValue (fixed_in z) h.map x v (value_of (local_value (Some b) q) z.body.scope t.memory)
      → Stored (fixed_in z) h.map s (with_object o (hold [] (Some v)) s) t.memory (assigned (named (local_name i)) expression z.body.scope t.memory)
  stored-there o there standing v hv =
      let a = h.between.locals.objects i o lt there in
      let live = sym (h.between.rel.gone o a.known) ∙ standing in
      let k = as-stored-value (fixed_in z) h.map u x v hv.value takes hv.same in
      let done = write-place (fixed_in z) h.map s t.memory h.between.rel (root o) u a.known live refl (ap scalar_sort a.type ∙ sort-here) v k.value k.same in
      let base = a.base live in
      let place : pointer.At (z.body.own.local i) 0 ≡ pointer_to (fixed_in z) h.map (root o) =
      ap (λ b. pointer.At b 0) (sym (a.block live)) ∙ ap (pointer.At (h.map.block o)) (let m : 0 ≡ h.map.base o + 0 = omega (arith, base) in m) in
      record {
        after = done.after;
        is = ap (λ a. on_ok (variable_target a) (λ at. assigned_to at expression z.body.scope t.memory)) (fits.shaped i lt u sort-here)
            ∙ ap (λ a. on_ok (on_ok a (λ k. fitted (scalar_of (c_type u)) k)) (λ k. stored (record { pointer = pointer.At (z.body.own.local i) 0; scalar = scalar_of (c_type u) }) k t.memory)) hv.is
            ∙ ap (λ a. on_ok a (λ k. stored (record { pointer = pointer.At (z.body.own.local i) 0; scalar = scalar_of (c_type u) }) k t.memory)) k.is
            ∙ ap (λ a. on_ok a (λ k. write (pointer.At (z.body.own.local i) 0) k t.memory)) (stored-again (fixed_in z) h.map u v k.value k.same)
            ∙ ap (λ a. write a k.value t.memory) place
            ∙ done.is;
        rel = done.rel;
        frame = refl;
        next = done.next;
        object = o;
        known = a.known;
        live = live;
        elsewhere = done.elsewhere;
      }

  argument-stored : (o : Place) → g r ≡ Some (source.At o) → (v : source.Value) → HasValue (fixed_in z) h.map x v (value_of (local_value (Some b) q) z.body.scope t.memory)
      → Stored (fixed_in z) h.map s (with_object o.object (hold o.route (Some v)) s) t.memory (assigned (named (local_name i)) expression z.body.scope t.memory)
  argument-stored o is v hv =
      let there = its o is in
      subst (λ a. Stored (fixed_in z) h.map s (with_object o.object (hold a (Some v)) s) t.memory (assigned (named (local_name i)) expression z.body.scope t.memory)) (sym there.0)
      (stored-there o.object there.1.0 there.1.1 v hv)

  pub argument-done : Simulates (ends Keeping z.body.scope (Here (fixed_in z) z.body) (GivesBack (fixed_in z) z.body z.result) around p)
      (does (again_at z n) z.program (act (plain.first r q)) g s w) (list_at z n (lowered (act (plain.first r q)) (inside_at z.inside around) p) t w)
  argument-done =
      subst (λ ss. Simulates (ends Keeping z.body.scope (Here (fixed_in z) z.body) (GivesBack (fixed_in z) z.body z.result) around p)
      (does (again_at z n) z.program (act (plain.first r q)) g s w) (list_at z n ss t w))
      (sym (ap (λ k. first_in k r (local_value (local_kept (p q)) q)) kr
      ∙ ap (λ o. if_scalar o [] (λ s. assign (named (local_name i)) (as_stored s (local_value (local_kept (p q)) q)) ∷ [])) e
      ∙ ap (λ k. assign (named (local_name i)) (as_stored u (local_value (local_kept k) q)) ∷ []) kq
      ∙ ap (λ l. assign (named (local_name i)) (as_stored u (local_value l q)) ∷ []) lx))
      (store-step z n around p p g s t w h (named (local_name i)) expression refl _ (first-keeps z.program (calls (again_at z n)) g r q s w)
      (first-by z.program z.function z.signature h.map (calls (again_at z n)) s t.memory h.between.rel w z.body.scope p g h.between.registers r q x b kq lx
      (assigned (named (local_name i)) expression z.body.scope t.memory) argument-stored))
