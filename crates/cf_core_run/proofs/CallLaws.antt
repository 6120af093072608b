-- How a call passes its arguments, how a function is entered, and how it ends.
use Rattle.std.proofs.Common.{◌≡◌, ◌∙◌, ℕ, zero, suc, ◌+◌, ◌-◌, Bool, true, false, if◌then◌else◌, List, [], ◌∷◌, ◌++◌, length, slice_get, codes, bytes_eq, Option, Some, None, option_map, Bor, refl, ap, sym, map, reverse, find, cond, arith}
use Rattle.std.proofs.lemmas.List.{append-nil, reverse-reverse}
use Rattle.std.proofs.Common.{append_assoc}
use Rattle.std.specs.Global.{Global}
use Rattle.std.specs.Prelude.{Vec, nat_eq}
use Rattle.cf_base.specs.Event.{Enter, Ticks, Depth}
use Rattle.cf_base.specs.World.{World, Ran, Went, spend_of, deeper, show}
use Rattle.cf_core.specs.FromTypes.{Tables, taking}
use Rattle.cf_core.specs.Types.{SourceType, parameters, result, is_class, gives as gives_type}
use Rattle.cf_core.specs.Core.{Core, Function, more, absent, pointer_call}
use Rattle.cf_core.specs.Access.{used}
use Rattle.cf_core.specs.Places.{Place}
use Rattle.cf_core.specs.Store.{Value, Code, new_object, automatic}
use Rattle.cf_core.specs.Run.{State, Frame, Did, Gives, Malformed, need, done, cast_from_void, Act, ◌>>=◌, ◌>>◌, gives, malformed, some_or, valid, when, upd, changed, with_frame, for_all, object_changed, gone}
use Rattle.cf_core.specs.Objects.{settle, settled, result_place, run_pointer}
use Rattle.cf_core.specs.Calls.{Flow, Falls, body, root, enter, returned, local_count, end_object, name_function}
use Rattle.cf_core.specs.Calls as calls
use Rattle.cf_core.specs.Expressions.{arguments}
use Rattle.cf_core.specs.Program.{ended_well}
use Rattle.cf_run_tree.specs.declared.node.Node.{Node}
use Rattle.cf_run_tree.specs.declared.program.Program.{Program}
use Rattle.cf_run_tree.specs.declared.program.RunFn.{RunFn}
use Rattle.cf_run_tree.specs.declared.program.Signature.{Signature}
use Rattle.cf_run_tree.specs.declared.shape.Form.{Form}
use Rattle.cf_run_tree.specs.declared.shape.Form.TheVariants as form
use Rattle.cf_run_tree.specs.declared.shape.Shape.{Shape}
use Rattle.cf_run_tree.specs.Tree.{core_of, kept, form_type, shape_type, object_type, signature_type, head_or, function_head, function_of, program_of}
use Rattle.cf_core_objects.specs.declared.object.Entered.{Entered}
use Rattle.cf_core_objects.specs.declared.answer.Value.{Value as Given}
use Rattle.cf_core_run.specs.declared.mark.Calling.{Calling}
use Rattle.cf_core_run.specs.declared.mark.ValueMark.TheVariants as vm
use Rattle.cf_core_run.specs.declared.mark.FlowMark.TheVariants as part
use Rattle.cf_core_run.specs.declared.mark.Mark.{Mark}
use Rattle.cf_core_run.specs.declared.mark.Mark.TheVariants as mark
use Rattle.cf_core_run.specs.declared.mark.Doing.TheVariants as doing
use Rattle.cf_core_run.specs.declared.state.Machine.{Machine}
use Rattle.cf_core_objects.specs.Store.{state_of, value_of, frame_of, local_object}
use Rattle.cf_core_objects.specs.Then.{◌▷◌}
use Rattle.cf_core_run.specs.Going.{on_value, on_flow, finish, from_value, from_flow, world_of, Outside, GoesOn, EndsAs, OpensScope, valued, performed, cores, scoped, again, called, passing, pass_next, starting, go_callee, go_argument, go_parameters, library_by, library_on}
use Rattle.cf_core_objects.proofs.ThenLaws.{then-assoc, then-same}
use Rattle.cf_core_run.proofs.Laws.{pushed, value-stops}
use Rattle.cf_core_run.proofs.ShapeLaws.{same-itself}
use Rattle.cf_core_run.proofs.Goes.{flow-pushed}

taking-params : (ts : List SourceType) (r : SourceType) → parameters (taking ts (gives_type r false)) ≡ ts
taking-params [] r = refl
taking-params (t ∷ ts) r = ap (λ l. t ∷ l) (taking-params ts r)

taking-result : (ts : List SourceType) (r : SourceType) → result (taking ts (gives_type r false)) ≡ r
taking-result [] r = refl
taking-result (t ∷ ts) r = taking-result ts r

pub signature-params : (T : Tables) (f : Signature) → parameters (signature_type T f) ≡ map (shape_type T) f.params
signature-params T f = taking-params (map (shape_type T) f.params) (shape_type T f.result)

pub signature-result : (T : Tables) (f : Signature) → result (signature_type T f) ≡ shape_type T f.result
signature-result T f = taking-result (map (shape_type T) f.params) (shape_type T f.result)

class-form : (T : Tables) (b : Bool) (f : Form) → is_class (kept b (form_type T f)) ≡ false
class-form T true form.Void = refl
class-form T false form.Void = refl
class-form T true (form.Integer k) = refl
class-form T false (form.Integer k) = refl
class-form T true (form.Enumeration n) = refl
class-form T false (form.Enumeration n) = refl
class-form T true (form.Pointer t) = refl
class-form T false (form.Pointer t) = refl
class-form T true (form.Reference t) = refl
class-form T false (form.Reference t) = refl

pub class-none : (T : Tables) (f : Signature) → is_class (result (signature_type T f)) ≡ false
class-none T f = ap is_class (signature-result T f) ∙ class-form T f.result.is_const f.result.form

-- the arguments of a call begin
pub start-goes : (T : Tables) (p : Program) (k : ℕ) (f : Value) (g : Signature) (es : List Node) (into : Option Place) (c : Calling) (s : State) (w : World)
    → value_of c.callee ≡ f → c.params.now ≡ g.params → c.rest.now ≡ es → c.made.items ≡ []
    → starting T p k f (signature_type T g) (cores T p es) into s w ≡ passing T p k c s w
start-goes T p k f g es into c s w en ep er em =
    ap (λ ts. (arguments (again T p k) (program_of T p) ts (cores T p es) >>= (λ os. run_pointer (again T p k) (program_of T p) None f os (result_place (signature_type T g) into))) s w) (signature-params T g)
    ∙ ap (λ b. (arguments (again T p k) (program_of T p) (map (shape_type T) g.params) (cores T p es) >>= (λ os. run_pointer (again T p k) (program_of T p) None f os (if b then into else None))) s w) (class-none T g)
    ∙ ap (λ (n : Value). (arguments (again T p k) (program_of T p) (map (shape_type T) g.params) (cores T p es) >>= (λ os. called T p k n os)) s w) (sym en)
    ∙ ap (λ (ps : List Shape). (arguments (again T p k) (program_of T p) (map (shape_type T) ps) (cores T p es) >>= (λ os. called T p k (value_of c.callee) os)) s w) (sym ep)
    ∙ ap (λ (es : List Node). (arguments (again T p k) (program_of T p) (map (shape_type T) c.params.now) (cores T p es) >>= (λ os. called T p k (value_of c.callee) os)) s w) (sym er)
    ∙ ap (λ (made : List ℕ). (arguments (again T p k) (program_of T p) (map (shape_type T) c.params.now) (cores T p c.rest.now) >>= (λ os. called T p k (value_of c.callee) (made ++ os))) s w) (sym em)

length-map : {A B : Type 0} (f : A → B) (xs : List A) → length (map f xs) ≡ length xs
length-map f [] = refl
length-map f (x ∷ xs) = ap suc (length-map f xs)

-- a function is entered on as many objects as it has parameters
abbrev on-so-many : Tables → Program → ℕ → RunFn → List ℕ → Bool → Act Value
on-so-many T p k f args b = valid b >> enter (again T p k) (function_of T p f) args None None

as-declared : (T : Tables) (f : RunFn) (args : List ℕ) (b : Bool) → nat_eq (length args) (length f.signature.params) ≡ b
    → nat_eq (length args) (length (parameters (signature_type T f.signature))) ≡ b
as-declared T f args b e = ap (nat_eq (length args)) (ap length (signature-params T f.signature) ∙ length-map (shape_type T) f.signature.params) ∙ e

pub entered-as : (T : Tables) (p : Program) (k : ℕ) (f : RunFn) (args : List ℕ) (s : State) (w : World) → nat_eq (length args) (length f.signature.params) ≡ true
    → calls.enter_found (again T p k) (Some (function_of T p f)) args None None s w ≡ enter (again T p k) (function_of T p f) args None None s w
entered-as T p k f args s w e = ap (λ b. on-so-many T p k f args b s w) (as-declared T f args true e)

pub entered-wrong : (T : Tables) (p : Program) (k : ℕ) (f : RunFn) (args : List ℕ) (s : State) (w : World) → nat_eq (length args) (length f.signature.params) ≡ false
    → calls.enter_found (again T p k) (Some (function_of T p f)) args None None s w ≡ Went Malformed w
entered-wrong T p k f args s w e = ap (λ b. on-so-many T p k f args b s w) (as-declared T f args false e)

-- a result of class type is built nowhere
pub result-none : (T : Tables) (f : Signature) (into : Option Place) → result_place (signature_type T f) into ≡ None
result-none T f into = ap (λ b. if b then into else None) (class-none T f)

-- what is called through a pointer comes first
pub pointer-goes : (T : Tables) (p : Program) (k : ℕ) (e : Core) (f : Signature) (es : List Node) (into : Option Place) (s : State) (w : World)
    → valued T p k (pointer_call absent e (signature_type T f) (cores T p es)) into s w ≡ (valued T p k e None s w ▷ go_callee T p k f es)
pointer-goes T p k e f es into s w =
    ap (λ (q : Option Place). (valued T p k e None s w ▷ used) ▷ (λ x. arguments (again T p k) (program_of T p) (parameters (signature_type T f)) (cores T p es) >>= (λ os. run_pointer (again T p k) (program_of T p) None x os q))) (result-none T f into)
    ∙ then-assoc (valued T p k e None s w) used (λ x. arguments (again T p k) (program_of T p) (parameters (signature_type T f)) (cores T p es) >>= (λ os. run_pointer (again T p k) (program_of T p) None x os None))
    ∙ sym (ap (λ (q : Option Place). valued T p k e None s w ▷ (λ v. used v >>= (λ x. arguments (again T p k) (program_of T p) (parameters (signature_type T f)) (cores T p es) >>= (λ os. run_pointer (again T p k) (program_of T p) None x os q)))) (result-none T f None))

-- all arguments are passed
pub passing-end : (T : Tables) (p : Program) (k : ℕ) (c : Calling) (s : State) (w : World) → c.params.now ≡ [] → c.rest.now ≡ []
    → passing T p k c s w ≡ called T p k (value_of c.callee) c.made.items s w
passing-end T p k c s w ep er =
    ap (λ (ps : List Shape). (arguments (again T p k) (program_of T p) (map (shape_type T) ps) (cores T p c.rest.now) >>= (λ os. called T p k (value_of c.callee) (c.made.items ++ os))) s w) ep
    ∙ ap (λ (es : List Node). (arguments (again T p k) (program_of T p) [] (cores T p es) >>= (λ os. called T p k (value_of c.callee) (c.made.items ++ os))) s w) er
    ∙ ap (λ os. called T p k (value_of c.callee) os s w) (append-nil c.made.items)

pub passing-next : (T : Tables) (p : Program) (k : ℕ) (c left : Calling) (t : Shape) (e : Node) (s : State) (w : World) → c.params.now ≡ t ∷ left.params.now → c.rest.now ≡ e ∷ left.rest.now
    → left.callee ≡ c.callee → left.made.items ≡ c.made.items → passing T p k c s w ≡ pass_next T p k left t e s w
passing-next T p k c left t e s w ep er en em =
    ap (λ (ps : List Shape). (arguments (again T p k) (program_of T p) (map (shape_type T) ps) (cores T p c.rest.now) >>= (λ os. called T p k (value_of c.callee) (c.made.items ++ os))) s w) ep
    ∙ ap (λ (es : List Node). (arguments (again T p k) (program_of T p) (shape_type T t ∷ map (shape_type T) left.params.now) (cores T p es) >>= (λ os. called T p k (value_of c.callee) (c.made.items ++ os))) s w) er
    ∙ ap (λ (n : Given). (arguments (again T p k) (program_of T p) (shape_type T t ∷ map (shape_type T) left.params.now) (more (core_of T p e) (cores T p left.rest.now)) >>= (λ os. called T p k (value_of n) (c.made.items ++ os))) s w) (sym en)
    ∙ ap (λ (made : List ℕ). (arguments (again T p k) (program_of T p) (shape_type T t ∷ map (shape_type T) left.params.now) (more (core_of T p e) (cores T p left.rest.now)) >>= (λ os. called T p k (value_of left.callee) (made ++ os))) s w) (sym em)
    ∙ behind (settled [] (root s.next) (valued T p k (core_of T p e) (Some (root s.next)))
    (record s { next = suc s.next; object = upd s.next (new_object (shape_type T t) automatic) s.object }) w)
    (arguments (again T p k) (program_of T p) (map (shape_type T) left.params.now) (cores T p left.rest.now)) s.next (λ os. called T p k (value_of left.callee) (left.made.items ++ os))
  where
    behind : (r : Ran (Did (Unit {0}))) (A : Act (List ℕ)) (o : ℕ) (g : List ℕ → Act Value)
        → ((r ▷ (λ u. A >>= (λ os. gives (o ∷ os)))) ▷ g) ≡ (r ▷ (λ u. A >>= (λ os. g (o ∷ os))))
    behind r A o g = then-assoc r (λ u. A >>= (λ os. gives (o ∷ os))) g
        ∙ then-same r (λ u. (A >>= (λ os. gives (o ∷ os))) >>= g) (λ u. A >>= (λ os. g (o ∷ os))) (λ u s w. then-assoc (A s w) (λ os. gives (o ∷ os)) g)

-- what is left of a parameter once its object is there
abbrev pub pass_rest : Tables → Program → ℕ → Calling → Node → ℕ → Act Value
pass_rest T p k left e o =
    settled [] (root o) (valued T p k (core_of T p e) (Some (root o)))
    >> (arguments (again T p k) (program_of T p) (map (shape_type T) left.params.now) (cores T p left.rest.now) >>= (λ os. called T p k (value_of left.callee) (left.made.items ++ o ∷ os)))

pub pass-goes : (T : Tables) (p : Program) (k : ℕ) (left : Calling) (e : Node) (o : ℕ) (s : State) (w : World)
    → pass_rest T p k left e o s w ≡ (valued T p k (core_of T p e) (Some (root o)) s w ▷ go_argument T p k left o)
pass-goes T p k left e o s w =
    then-assoc (valued T p k (core_of T p e) (Some (root o)) s w) (settle [] (root o))
    (λ u. arguments (again T p k) (program_of T p) (map (shape_type T) left.params.now) (cores T p left.rest.now) >>= (λ os. called T p k (value_of left.callee) (left.made.items ++ o ∷ os)))

-- A function is entered.
spends : {A : Type 0} (t : ℕ) (w : World) (go : World → Ran A) → (t ≡ 0 → ⊥) → spend_of t w go ≡ go (record w { ticks = t - 1 })
spends zero w go h = absurd (h refl)
spends (suc t) w go h = ap (λ n. go (record w { ticks = n })) (let e : t ≡ suc t - 1 = omega arith in e)

deepens : {A : Type 0} (d : ℕ) (w : World) (go : ℕ → Ran A) → (d ≡ 0 → ⊥) → deeper d w go ≡ go (d - 1)
deepens zero w go h = absurd (h refl)
deepens (suc d) w go h = ap go (let e : d ≡ suc d - 1 = omega arith in e)

-- what a call of a function is once its tick and its level of depth are spent
abbrev entering : Tables → Program → ℕ → RunFn → List ℕ → State → ℕ → World → Ran (Did Value)
entering T p k f args s depth w =
    (again T p k (body (function_of T p f) args) >>= (λ flow. changed (with_frame s.frame) >> returned (result (signature_type T f.signature)) flow))
    (with_frame (calls.frame_of f.name (local_count (function_of T p f)) args None None depth) s) (show (Enter f.name) w)

pub enter-ticks : (p : Program) (m : Machine) (f : RunFn) (args : List ℕ) → m.ticks ≡ 0
    → EndsAs (λ T o. from_value T p m (enter (again T p m.fuel) (function_of T p f) args None None) o) Ticks
enter-ticks p m f args h = record {
  same = λ T o. ap (λ t. finish T p o (on_value T p (reverse m.stack.items)
      (spend_of t (world_of m.ticks o) (λ w. deeper m.entered.depth w (λ depth. entering T p m.fuel f args (state_of T m.entered m.objects) depth w))))) h
      ∙ ap (finish T p o) (value-stops T p (reverse m.stack.items) Ticks o.trace);
}

pub enter-depth : (p : Program) (m : Machine) (f : RunFn) (args : List ℕ) → (m.ticks ≡ 0 → ⊥) → m.entered.depth ≡ 0
    → EndsAs (λ T o. from_value T p m (enter (again T p m.fuel) (function_of T p f) args None None) o) Depth
enter-depth p m f args h d = record {
  same = λ T o. ap (λ r. finish T p o (on_value T p (reverse m.stack.items) r))
      (spends m.ticks (world_of m.ticks o) (λ w. deeper m.entered.depth w (λ depth. entering T p m.fuel f args (state_of T m.entered m.objects) depth w)) h
      ∙ ap (λ d. deeper d (record (world_of m.ticks o) { ticks = m.ticks - 1 }) (λ depth. entering T p m.fuel f args (state_of T m.entered m.objects) depth (record (world_of m.ticks o) { ticks = m.ticks - 1 }))) d)
      ∙ ap (finish T p o) (value-stops T p (reverse m.stack.items) Depth o.trace);
}

some-map : (args : List ℕ) (i : ℕ) → local_object (slice_get (map Some args) i) ≡ slice_get args i
some-map [] i = refl
some-map (x ∷ args) zero = refl
some-map (x ∷ args) (suc i) = some-map args i

pub entered-frame : (T : Tables) (p : Program) (f : RunFn) (args : List ℕ) (e : Entered) → e.name.now ≡ f.name → e.locals.items ≡ map Some args → e.scope.items ≡ [] → e.temporaries.items ≡ []
    → e.count ≡ length f.signature.params + length f.locals → frame_of e ≡ calls.frame_of f.name (local_count (function_of T p f)) args None None e.depth
entered-frame T p f args e en el es et ec =
    let mk : List ℕ → ℕ → (ℕ → Option ℕ) → List ℕ → Frame = λ n c l s. record { function = n; count = c; this = None; result = None; depth = e.depth; locals = l; scope = s; temporaries = [] } in
    ap (λ (l : List ℕ). record (frame_of e) { temporaries = reverse l }) et
    ∙ ap (λ (l : List (Option ℕ)). mk e.name.now e.count (λ i. local_object (slice_get l i)) (reverse e.scope.items)) el
    ∙ ap (λ n. mk n e.count (λ i. local_object (slice_get (map Some args) i)) (reverse e.scope.items)) en
    ∙ ap (λ (s : List ℕ). mk f.name e.count (λ i. local_object (slice_get (map Some args) i)) (reverse s)) es
    ∙ ap (λ c. mk f.name c (λ i. local_object (slice_get (map Some args) i)) []) (ec ∙ counts)
    ∙ ap (λ (l : ℕ → Option ℕ). mk f.name (local_count (function_of T p f)) l []) (λ j i. some-map args i j)
  where
    counts : length f.signature.params + length f.locals ≡ local_count (function_of T p f)
    counts = ap (λ n. n + length f.locals) (sym (ap length (signature-params T f.signature) ∙ length-map (shape_type T) f.signature.params))
        ∙ ap (λ n. length (parameters (signature_type T f.signature)) + n) (sym (length-map (object_type T) f.locals))

pub enter-goes : (p : Program) (m : Machine) (f : Bor RunFn) (args : Vec ℕ Global) (e : Entered) (stack : Vec Mark Global) → (m.ticks ≡ 0 → ⊥) → (m.entered.depth ≡ 0 → ⊥)
    → e.name.now ≡ f.now.name → e.locals.items ≡ map Some args.items → e.scope.items ≡ [] → e.temporaries.items ≡ [] → e.count ≡ length f.now.signature.params + length f.now.locals
    → e.depth ≡ m.entered.depth - 1 → stack.items ≡ m.stack.items ++ mark.Back m.fuel f.now.signature.result m.entered ∷ []
    → GoesOn p (λ T o. from_value T p m (enter (again T p m.fuel) (function_of T p f.now) args.items None None) o) (Some (Enter f.now.name))
    (record m { stack = stack; entered = e; ticks = m.ticks - 1; doing = doing.Body f args })
enter-goes p m f args e stack ht hd en el es et ea ed ei = record {
  same = λ T o.
      let S = state_of T m.entered m.objects in
      let w : World = record (world_of m.ticks o) { ticks = m.ticks - 1 } in
      let v : World = show (Enter f.now.name) w in
      let R : State → Ran (Did Flow) = λ s. again T p m.fuel (body (function_of T p f.now) args.items) s v in
      ap (λ r. finish T p o (on_value T p (reverse m.stack.items) r))
      (spends m.ticks (world_of m.ticks o) (λ w. deeper m.entered.depth w (λ depth. entering T p m.fuel f.now args.items S depth w)) ht
      ∙ deepens m.entered.depth w (λ depth. entering T p m.fuel f.now args.items S depth w) hd
      ∙ ap (λ depth. entering T p m.fuel f.now args.items S depth w) (sym ed)
      ∙ ap (λ (fr : Frame). (R (with_frame fr S) ▷ (λ flow. changed (with_frame (frame_of m.entered)) >> returned (result (signature_type T f.now.signature)) flow))) (sym (entered-frame T p f.now args.items e en el es et ea))
      ∙ ap (λ t. (R (state_of T e m.objects) ▷ (λ flow. changed (with_frame (frame_of m.entered)) >> returned t flow))) (signature-result T f.now.signature))
      ∙ sym (ap (λ (ms : List Mark). finish T p o (on_flow T p (reverse ms) (R (state_of T e m.objects)))) ei
      ∙ ap (λ (ms : List Mark). finish T p o (on_flow T p ms (R (state_of T e m.objects)))) (pushed m.stack.items (mark.Back m.fuel f.now.signature.result m.entered)));
}

-- The body of a function.
pub body-starts : (T : Tables) (p : Program) (n : ℕ) (f : RunFn) (args : List ℕ) (s : State) (w : World)
    → again T p (suc n) (body (function_of T p f) args) s w ≡ (scoped T p n (performed T p n (core_of T p f.body)) s w ▷ go_parameters T p n args)
body-starts T p n f args s w =
    then-same (scoped T p n (performed T p n (core_of T p f.body)) s w) _ (go_parameters T p n args)
    (λ flow s w. ap (λ b. (ended_well b flow >> (for_all (reverse args) (end_object (again T p n) (program_of T p)) >> gives flow)) s w) (class-none T f.signature))

pub begin-goes : (p : Program) (m opened : Machine) (f : Bor RunFn) (args : Vec ℕ Global) (b : Bor Node) (stack : Vec Mark Global) → (m.fuel ≡ 0 → ⊥)
    → stack.items ≡ m.stack.items ++ mark.Flow (m.fuel - 1) (part.Parameters args) ∷ [] → OpensScope (record m { fuel = m.fuel - 1; stack = stack }) opened → b.now ≡ f.now.body
    → GoesOn p (λ T o. from_flow T p m (again T p m.fuel (body (function_of T p f.now) args.items)) o) None (record opened { doing = doing.Perform b })
begin-goes p m opened f args b stack hf ei opens is = record {
  same = λ T o.
      let k = m.fuel - 1 in
      ap (λ n. from_flow T p m (again T p n (body (function_of T p f.now) args.items)) o) (let h : m.fuel ≡ suc (m.fuel - 1) = omega (arith, hf) in h)
      ∙ ap (λ r. finish T p o (on_flow T p (reverse m.stack.items) r)) (body-starts T p k f.now args.items (state_of T m.entered m.objects) (world_of m.ticks o))
      ∙ sym (flow-pushed T p (record m { fuel = k }) stack k (part.Parameters args) (scoped T p k (performed T p k (core_of T p f.now.body))) o ei)
      ∙ opens.same T p (performed T p k (core_of T p f.now.body)) o
      ∙ ap (λ (n : Node). from_flow T p opened (performed T p k (core_of T p n)) o) (sym is)
      ∙ ap (λ k. from_flow T p opened (performed T p k (core_of T p b.now)) o) (sym opens.fuel);
}

-- a parameter has its value, and the other arguments come
pub argument-passes : (T : Tables) (p : Program) (k : ℕ) (c : Calling) (made : Vec ℕ Global) (object : ℕ) (s : State) (w : World) → made.items ≡ c.made.items ++ object ∷ []
    → (arguments (again T p k) (program_of T p) (map (shape_type T) c.params.now) (cores T p c.rest.now) >>= (λ os. called T p k (value_of c.callee) (c.made.items ++ object ∷ os))) s w
    ≡ passing T p k (record c { made = made }) s w
argument-passes T p k c made object s w is =
    then-same (arguments (again T p k) (program_of T p) (map (shape_type T) c.params.now) (cores T p c.rest.now) s w) (λ os. called T p k (value_of c.callee) (c.made.items ++ object ∷ os)) (λ os. called T p k (value_of c.callee) (made.items ++ os))
    (λ os s w. ap (λ (l : List ℕ). called T p k (value_of c.callee) l s w) (sym (ap (λ (l : List ℕ). l ++ os) is ∙ append_assoc c.made.items (object ∷ []) os)))

-- a function of the library runs
library-goes : (T : Tables) (p : Program) (name args : List ℕ) (s : State) (w : World) → calls.run_library name args s w ≡ library_on T p name (calls.argument args s) s w
library-goes T p name args s w = at (bytes_eq name (codes "getchar"))
  where
    at : (b : Bool) → (let r : Act Value = elim b [
      | true ↦ calls.get
      | false ↦ some_or (calls.argument args s) malformed >>= (λ v. when (bytes_eq name (codes "putchar")) (calls.put v) (calls.leave_with v))
    ] in r s w) ≡ library_by T p b name (calls.argument args s) s w
    at true = refl
    at false = refl

-- and then the storage of its parameters ends
pub library-ends : (T : Tables) (p : Program) (old : Machine) (stack : Vec Mark Global) (name args : List ℕ) (made : Vec ℕ Global) (first : Option Given) (o : Outside)
    → stack.items ≡ old.stack.items ++ mark.Value old.fuel (vm.Library made) ∷ [] → made.items ≡ reverse args
    → option_map value_of first ≡ calls.argument args (state_of T old.entered old.objects)
    → from_value T p old (calls.call_library name args) o ≡ from_value T p (record old { stack = stack }) (library_on T p name (option_map value_of first)) o
library-ends T p old stack name args made first o items back is =
    let S = state_of T old.entered old.objects in
    let w = world_of old.ticks o in
    let R : Option Value → Ran (Did Value) = λ x. library_on T p name x S w in
    let ends : List ℕ → Value → Act Value = λ l v. for_all l (λ o. object_changed o gone) >> gives v in
    sym (ap (λ (ms : List Mark). finish T p o (on_value T p (reverse ms) (R (option_map value_of first)))) items
    ∙ ap (λ (ms : List Mark). finish T p o (on_value T p ms (R (option_map value_of first)))) (pushed old.stack.items (mark.Value old.fuel (vm.Library made)))
    ∙ ap (λ (l : List ℕ). finish T p o (on_value T p (reverse old.stack.items) (R (option_map value_of first) ▷ ends l))) (ap reverse back ∙ reverse-reverse args)
    ∙ ap (λ (x : Option Value). finish T p o (on_value T p (reverse old.stack.items) (R x ▷ ends args))) is
    ∙ ap (λ r. finish T p o (on_value T p (reverse old.stack.items) (r ▷ ends args))) (sym (library-goes T p name args S w)))

-- a function is called by its name
pub called-library : (T : Tables) (p : Program) (k : ℕ) (name args : List ℕ) (s : State) (w : World) → calls.is_library name ≡ true
    → called T p k (Code name) args s w ≡ calls.call_library name args s w
called-library T p k name args s w is = ap (λ (b : Bool). let r : Act Value = elim b [
  | true ↦ calls.call_library name args
  | false ↦ calls.enter_found (again T p k) (calls.function_named (program_of T p) name) args None None
] in r s w) is

pub called-function : (T : Tables) (p : Program) (k : ℕ) (name args : List ℕ) (s : State) (w : World) → calls.is_library name ≡ false
    → called T p k (Code name) args s w ≡ calls.enter_found (again T p k) (calls.function_named (program_of T p) name) args None None s w
called-function T p k name args s w is = ap (λ (b : Bool). let r : Act Value = elim b [
  | true ↦ calls.call_library name args
  | false ↦ calls.enter_found (again T p k) (calls.function_named (program_of T p) name) args None None
] in r s w) is

-- A function that is named.
cond-map : {A B : Type 0} (f : A → B) (b : Bool) (x : A) (r : Option A) → cond b (Some (f x)) (option_map f r) ≡ option_map f (cond b (Some x) r)
cond-map f true x r = refl
cond-map f false x r = refl

pub find-map : {A B : Type 0} (test : B → Bool) (f : A → B) (xs : List A) → find test (map f xs) ≡ option_map f (find (λ a. test (f a)) xs)
find-map test f [] = refl
find-map test f (x ∷ xs) = ap (λ r. cond (test (f x)) (Some (f x)) r) (find-map test f xs) ∙ cond-map f (test (f x)) x (find (λ a. test (f a)) xs)

abbrev pub defined : Program → List ℕ → Option RunFn
defined p name = find (λ (f : RunFn). bytes_eq f.name name) p.functions

pub function-as : (T : Tables) (p : Program) (name : List ℕ) (o : Option RunFn) → defined p name ≡ o → calls.function_named (program_of T p) name ≡ option_map (function_of T p) o
function-as T p name o is = find-map (λ (f : Function). bytes_eq f.name name) (function_of T p) p.functions ∙ ap (option_map (function_of T p)) is

abbrev naming_with : Tables → Bool → Option Function → SourceType → Act (Unit {0})
naming_with T b f t = when b done (calls.has_type f t)

pub named-library : (T : Tables) (p : Program) (name : List ℕ) (t : SourceType) (s : State) (w : World) → calls.is_library name ≡ true
    → name_function (program_of T p) name t s w ≡ Went (Gives tt s) w
named-library T p name t s w is = ap (λ b. naming_with T b (calls.function_named (program_of T p) name) t s w) is

pub named-none : (T : Tables) (p : Program) (name : List ℕ) (t : SourceType) (s : State) (w : World) → calls.is_library name ≡ false → defined p name ≡ None
    → name_function (program_of T p) name t s w ≡ Went Malformed w
named-none T p name t s w is none =
    ap (λ b. naming_with T b (calls.function_named (program_of T p) name) t s w) is
    ∙ ap (λ f. naming_with T false f t s w) (function-as T p name None none)

pub named-some : (T : Tables) (p : Program) (name : List ℕ) (g : Signature) (f : RunFn) (s : State) (w : World) → calls.is_library name ≡ false → defined p name ≡ Some f
    → name_function (program_of T p) name (signature_type T (function_head p name g)) s w ≡ Went (Gives tt s) w
named-some T p name g f s w is found =
    ap (λ b. naming_with T b (calls.function_named (program_of T p) name) (signature_type T (function_head p name g)) s w) is
    ∙ ap (λ h. naming_with T false h (signature_type T (function_head p name g)) s w) (function-as T p name (Some f) found)
    ∙ ap (λ (o : Option RunFn). naming_with T false (Some (function_of T p f)) (signature_type T (head_or o g)) s w) found
    ∙ ap (λ b. need b cast_from_void s w) (same-itself (signature_type T f.signature))

-- More or fewer arguments than parameters.
pub passing-many : (T : Tables) (p : Program) (k : ℕ) (c : Calling) (e : Node) (es : List Node) (s : State) (w : World) → c.params.now ≡ [] → c.rest.now ≡ e ∷ es
    → passing T p k c s w ≡ Went Malformed w
passing-many T p k c e es s w ep er =
    ap (λ (ps : List Shape). (arguments (again T p k) (program_of T p) (map (shape_type T) ps) (cores T p c.rest.now) >>= (λ os. called T p k (value_of c.callee) (c.made.items ++ os))) s w) ep
    ∙ ap (λ (es : List Node). (arguments (again T p k) (program_of T p) [] (cores T p es) >>= (λ os. called T p k (value_of c.callee) (c.made.items ++ os))) s w) er

pub passing-few : (T : Tables) (p : Program) (k : ℕ) (c : Calling) (t : Shape) (ts : List Shape) (s : State) (w : World) → c.params.now ≡ t ∷ ts → c.rest.now ≡ []
    → passing T p k c s w ≡ Went Malformed w
passing-few T p k c t ts s w ep er =
    ap (λ (ps : List Shape). (arguments (again T p k) (program_of T p) (map (shape_type T) ps) (cores T p c.rest.now) >>= (λ os. called T p k (value_of c.callee) (c.made.items ++ os))) s w) ep
    ∙ ap (λ (es : List Node). (arguments (again T p k) (program_of T p) (shape_type T t ∷ map (shape_type T) ts) (cores T p es) >>= (λ os. called T p k (value_of c.callee) (c.made.items ++ os))) s w) er
