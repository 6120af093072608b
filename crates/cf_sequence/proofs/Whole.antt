-- Functions and whole programs: for each bound of ticks the plain program does what the program does.
use Rattle.std.proofs.Common.{◌≡◌, ℕ, zero, suc, ◌+◌, ◌≤◌, ◌<◌, cond, Bool, true, false, not, ◌&&◌, ◌||◌, List, [], ◌∷◌, ◌++◌, append-nil, map, reverse, length, length-append, refl, sym, ◌∙◌, ap, subst, arith, if◌then◌else◌, slice_get}
use Rattle.std.specs.Prelude.{ℤ, pos, Option, Some, None, find, bytes_eq, codes, option_map}
use Rattle.std.specs.List.{list_all}
use Rattle.std.proofs.lemmas.List.{reverse-append}
use Rattle.cf_base.proofs.Tests.{both, same_bytes}
use Rattle.cf_base.specs.World.{World, Ran, Went, Stops, Outcome, and_then, world_at}
use Rattle.cf_core.specs.Types.{SourceType, Name, parameters, result, is_class}
use Rattle.cf_core.specs.Classes.{Class}
use Rattle.cf_core.specs.Core as core
use Rattle.cf_core.specs.Core.{Core, Cores, MaybeCore, Function, Static, Role, plain_function, member_function, constructor, destructor}
use Rattle.cf_core.specs.Nodes.{nodes}
use Rattle.cf_core.specs.Store.{Value, Missing, Number}
use Rattle.cf_core.specs.declared.operators.LoopForm.{LoopForm}
use Rattle.cf_core.specs.declared.operators.LoopForm.TheVariants as form
use Rattle.cf_core.specs.Run.{State, Frame, Did, Gives, Exits, Malformed, Act, ◌>>=◌, ◌>>◌, gives, state, for_all, with_frame}
use Rattle.cf_core.specs.Calls as calling
use Rattle.cf_core.specs.Calls.{Program, Setting, root, function_named, frame_of, local_count, run_named, end_object, in_scope, destroy}
use Rattle.cf_core.specs.Program.{Mean, main_run, runs, run_body, status_of, begins, unbuilds, ends, ended_well, first_state, left, destroy_statics, destroy_static, ended_run, run_outcome, resumed}
use Rattle.cf_core.specs.Statements as does
use Rattle.cf_plain.specs.Plain.{Plain, Plains, PlainFunction, loop, nothing, more}
use Rattle.cf_plain.specs.Acts.{Registers, no_registers}
use Rattle.cf_plain.specs.Program as plain_program
use Rattle.cf_plain.specs.Program.{PlainMean, headers}
use Rattle.cf_plain.specs.Running as running
use Rattle.cf_plain.specs.Running.{Flow, Falls, Breaks, Continues, Returns, calls, core_flow, header, plain_named, all, falling, turning}
use Rattle.cf_sequence.specs.Follows.{Follows}
use Rattle.cf_sequence.specs.Built.{is_statement, is_chain, is_body, is_built_function, is_plain_role, is_plainly_built, is_built_setting, is_none, next_local, arms_fit}
use Rattle.cf_sequence.specs.Made.{Local, added, width, declared, numbered}
use Rattle.cf_sequence.specs.Expressions.{finished}
use Rattle.cf_sequence.specs.Statements.{statement}
use Rattle.cf_sequence.specs.Sequenced.{sequenced, sequenced_function, sequenced_body, class_type}
use Rattle.cf_core.specs.Valid.{class_of_role}
use Rattle.cf_sequence.proofs.StaticObjects.{same-first}
use Rattle.cf_sequence.proofs.Following.{on, pull}
use Rattle.cf_sequence.proofs.Calling.{Alike, Bodies, FlowAs, SameObjects, Ended, never, named-header, found-steps, plain_program as plain_of, plain_function as beside}
use Rattle.cf_sequence.proofs.Moving.{later-then, later-gone, all_gone, gone-frame, gone-append, ends-all, destroy-nothing, Picked, is_next, is_over, Held, held-more, held-append, held-kept, finished-steps, Moved, with_scope, Beyond, Owned}
use Rattle.cf_sequence.proofs.Standing.{Open, Stands, Turned, Turns, inside_of, turn_code, step_code}
use Rattle.cf_sequence.proofs.Scopes.{Ways, scope-steps, closing_scope}
use Rattle.cf_sequence.proofs.Doing.{follow-statement}
use Rattle.cf_sequence.proofs.LastingCode.{Rests, rests-at}
use Rattle.cf_sequence.proofs.Settings.{setting_of, first-stood, settings-steps}
use Rattle.cf_sequence.proofs.NoVirtual.{empty-list}

-- ---- the objects of parameters

held-numbered : (r : State) (locals : ℕ → Option ℕ) (j m : ℕ) (ts : List SourceType) (os : List ℕ) → length os ≡ length ts → j + length ts ≤ m
    → ((i n : ℕ) → n ≡ j + i → locals n ≡ slice_get os i) → Held r locals m (numbered j ts) os
held-numbered r locals j m [] [] l le at = refl
held-numbered r locals j m [] (o ∷ os) l le at = absurd (omega (arith, l))
held-numbered r locals j m (t ∷ ts) [] l le at = absurd (omega (arith, l))
held-numbered r locals j m (t ∷ ts) (o ∷ os) l le at =
    held-more r locals m (record { number = j; type = t }) (numbered (suc j) ts) o os (at 0 j (omega arith)) (omega arith)
    (held-numbered r locals (suc j) m ts os (let e : suc (length os) ≡ suc (length ts) = l in omega arith) (let e : j + suc (length ts) ≤ m = le in omega arith)
    (λ i n e. at (suc i) n (omega arith)))

held-reverse : (r : State) (locals : ℕ → Option ℕ) (m : ℕ) (xs : List Local) (os : List ℕ) → Held r locals m xs os → Held r locals m (reverse xs) (reverse os)
held-reverse r locals m [] os h = ap reverse h
held-reverse r locals m (x ∷ xs) os h = by h.1 (λ ps rest. held-reverse r locals m xs ps rest)
  where
    by : Picked r (locals x.number) (λ ps. Held r locals m xs ps) os → ((ps : List ℕ) → Held r locals m xs ps → Held r locals m (reverse xs) (reverse ps)) → Held r locals m (reverse (x ∷ xs)) (reverse os)
    by (is_next o ps at split rest) go =
        subst (λ zs. Held r locals m zs (reverse os)) (sym (reverse-append (x ∷ []) xs))
        (subst (λ qs. Held r locals m (reverse xs ++ x ∷ []) qs) (sym (ap reverse split ∙ reverse-append (o ∷ []) ps))
        (held-append r locals m (reverse xs) (x ∷ []) (reverse ps) (o ∷ []) (go ps rest) (held-more r locals m x [] o [] at h.0 refl)))
    by (is_over over rest) go =
        subst (λ zs. Held r locals m zs (reverse os)) (sym (reverse-append (x ∷ []) xs))
        (subst (λ qs. Held r locals m (reverse xs ++ x ∷ []) qs) (append-nil (reverse os))
        (held-append r locals m (reverse xs) (x ∷ []) (reverse os) [] (go os rest) (h.0, is_over over refl)))

-- ---- functions by name

abbrev found-or : Function → Option Function → Function
found-or x None = x
found-or x (Some y) = y

found-name : (name : Name) (fs : List Function) (f : Function) → find (λ (f : Function). bytes_eq f.name name) fs ≡ Some f → bytes_eq f.name name ≡ true
found-name name [] f e = absurd (cc)
found-name name (x ∷ fs) f e = by-test (bytes_eq x.name name) refl e (found-name name fs f)
  where
    same-of : bytes_eq x.name name ≡ true → Some x ≡ Some f → bytes_eq f.name name ≡ true
    same-of t e = subst (λ (y : Option Function). bytes_eq (found-or x y).name name ≡ true) e t

    by-test : (b : Bool) → bytes_eq x.name name ≡ b → cond b (Some x) (find (λ (f : Function). bytes_eq f.name name) fs) ≡ Some f
        → (find (λ (f : Function). bytes_eq f.name name) fs ≡ Some f → bytes_eq f.name name ≡ true) → bytes_eq f.name name ≡ true
    by-test true t e rest = same-of t e
    by-test false t e rest = rest e

picked : {X Y : Type 0} (b : Bool) (x f : X) (g : X → Y) (old : Option X) (new : Option Y)
    → (old ≡ Some f → new ≡ Some (g f)) → cond b (Some x) old ≡ Some f → cond b (Some (g x)) new ≡ Some (g f)
picked true x f g old new rest e = ap (option_map g) e
picked false x f g old new rest e = rest e

named-plain : (cs : List Class) (xs : List Static) (name : Name) (fs : List Function) (others : List PlainFunction) (f : Function)
    → find (λ (f : Function). bytes_eq f.name name) fs ≡ Some f
    → find (λ (f : PlainFunction). bytes_eq f.name name) (map (sequenced_function cs xs) fs ++ others) ≡ Some (sequenced_function cs xs f)
named-plain cs xs name [] others f e = absurd (cc)
named-plain cs xs name (x ∷ fs) others f e = picked (bytes_eq x.name name) x f (sequenced_function cs xs) _ _ (named-plain cs xs name fs others f) e

found-built : (name : Name) (fs : List Function) (f : Function) → find (λ (f : Function). bytes_eq f.name name) fs ≡ Some f → list_all is_built_function fs ≡ true → is_built_function f ≡ true
found-built name [] f e ok = absurd (cc)
found-built name (x ∷ fs) f e ok =
    let parts = both (is_built_function x) (list_all is_built_function fs) ok in
    by-test (bytes_eq x.name name) e (λ e. found-built name fs f e parts.1) parts.0
  where
    by-test : (b : Bool) → cond b (Some x) (find (λ (f : Function). bytes_eq f.name name) fs) ≡ Some f
        → (find (λ (f : Function). bytes_eq f.name name) fs ≡ Some f → is_built_function f ≡ true) → is_built_function x ≡ true → is_built_function f ≡ true
    by-test true e rest here = subst (λ (y : Option Function). is_built_function (found-or x y) ≡ true) e here
    by-test false e rest here = rest e

-- ---- a program of functions and static objects

abbrev pub of_parts : List Static → List Setting → List Function → Program
of_parts xs ks fs = record { classes = []; functions = fs; statics = xs; constants = ks; initialisers = [] }

-- what is entered is a plain function
abbrev core_body : calling.Again → Program → Role → Bool → Core → List ℕ → Act calling.Flow
core_body again P role b e args = do
  before ← state
  begins P.classes role before.frame.this
  flow ← in_scope again P (does.does again P e)
  ended_well b flow
  unbuilds again P role before.frame.this
  for_all (reverse args) (end_object again P)
  ends P.classes role before.frame.this before
  gives flow

abbrev plain_body : running.Again → Program → Role → Bool → Plains → Act Flow
plain_body again H role b code = do
  before ← state
  begins H.classes role before.frame.this
  flow ← all again H code no_registers
  ended_well b (core_flow flow)
  unbuilds (calls again) H role before.frame.this
  ends H.classes role before.frame.this before
  gives flow

role-is : (role : Role) → is_plain_role role ≡ true → role ≡ plain_function
role-is plain_function ok = refl
role-is (member_function c) ok = never ok
role-is (constructor c) ok = never ok
role-is (destructor c) ok = never ok

no-result : (b : Bool) → not b ≡ true → b ≡ false
no-result true e = sym e
no-result false e = refl

-- what a function of the program is
pub record Parts (f : Function) : Type 0 where
  pub role : f.role ≡ plain_function
  pub chain : is_chain f.type ≡ true
  pub main : (not (bytes_eq f.name (codes "__main")) || is_none (parameters f.type)) ≡ true
  pub scalar : is_class (result f.type) ≡ false
  pub statement : is_statement (length (parameters f.type)) f.body ≡ true
  pub arms : arms_fit (length (parameters f.type) + length f.locals) f.body ≡ true

pub built-parts : (f : Function) → is_built_function f ≡ true → Parts f
built-parts f ok =
    let main_ok = not (bytes_eq f.name (codes "__main")) || is_none (parameters f.type) in
    let one = both (is_plain_role f.role) (is_chain f.type && (main_ok && is_body f)) ok in
    let two = both (is_chain f.type) (main_ok && is_body f) one.1 in
    let three = both main_ok (is_body f) two.1 in
    let four = both (not (is_class (result f.type))) (is_statement (length (parameters f.type)) f.body && arms_fit (length (parameters f.type) + length f.locals) f.body) three.1 in
    let five = both (is_statement (length (parameters f.type)) f.body) (arms_fit (length (parameters f.type) + length f.locals) f.body) four.1 in
    record { role = role-is f.role one.0; chain = two.0; main = three.0; scalar = no-result (is_class (result f.type)) four.0; statement = five.0; arms = five.1 }

module _ (again : calling.Again) (again' : running.Again) (xs : List Static) (ks : List Setting) (fs : List Function) (bodies : Bodies again again' (of_parts xs ks fs))
    (chains : (name : Name) (f : Function) → function_named (of_parts xs ks fs) name ≡ Some f → is_chain f.type ≡ true)
    (turns : Turns again again' (of_parts xs ks fs)) where
  abbrev P : Program
  P = of_parts xs ks fs

  abbrev H : Program
  H = plain_of again again' P

  -- the end of a body: the objects of its parameters end
  parameters-end : (args : List ℕ) (flow : calling.Flow) (t : State) (w : World)
      → (for_all (reverse args) (end_object again P) >> gives flow) t w ≡ Went (Gives flow (all_gone (reverse args) t)) w
  parameters-end args flow t w = ap (λ r. and_then r (on (λ u. gives flow))) (ends-all again P refl (reverse args) t w)

  module _ (R C : SourceType) (scalar : is_class R ≡ false) (args : List ℕ) where
    abbrev last : calling.Flow → Act calling.Flow
    last flow = for_all (reverse args) (end_object again P) >> gives flow

    abbrev closes : calling.Flow → Act calling.Flow
    closes = closing_scope again again' P bodies chains refl turns R C scalar calling.Flow Flow Ended []

    ended-with : (x : calling.Flow) (y : Flow) (t u : State) (w : World) → FlowAs x y → SameObjects x (all_gone (reverse args) (with_scope [] (all_gone t.frame.scope t))) u
        → Follows Ended (and_then (closes x t w) (on last)) (Went (Gives y u) w)
    ended-with x y t u w flow same =
        scope-steps again again' P bodies chains refl turns R C scalar calling.Flow Flow Ended [] x t w last (Went (Gives y u) w)
        (subst (λ r. Follows Ended r (Went (Gives y u) w)) (sym (parameters-end args x (with_scope [] (all_gone t.frame.scope t)) w))
        (record { by = record { value = y; after = u; run = refl; related = record { flow = flow; same = same } } }))

    all-ended : (t : State) (g : Frame) → with_frame g (all_gone (reverse args) (all_gone t.frame.scope t)) ≡ with_frame g (all_gone (reverse args) (with_scope [] (all_gone t.frame.scope t)))
    all-ended t g = sym (ap (with_frame g) (gone-frame (reverse args) (all_gone t.frame.scope t) (with_scope [] (all_gone t.frame.scope t)).frame))

    all-returned : (t : State) (g : Frame) → with_frame g (all_gone (t.frame.scope ++ reverse args) t) ≡ with_frame g (all_gone (reverse args) (with_scope [] (all_gone t.frame.scope t)))
    all-returned t g = ap (with_frame g) (gone-append t.frame.scope (reverse args) t) ∙ all-ended t g

  body-follows : (f : Function) → is_class (result f.type) ≡ false → is_statement (length (parameters f.type)) f.body ≡ true → arms_fit (length (parameters f.type) + length f.locals) f.body ≡ true → (args : List ℕ) → length args ≡ length (parameters f.type)
      → (depth : ℕ) (s : State) (w : World)
      → Follows Ended
      (and_then (in_scope again P (does.does again P f.body) (with_frame (frame_of f.name (local_count f) args None None depth) s) w)
      (on (λ flow. for_all (reverse args) (end_object again P) >> gives flow)))
      (and_then (all again' H (sequenced_body [] xs f) no_registers (with_frame (frame_of f.name (local_count (beside again again' P f)) args None None depth) s) w) (on gives))
  body-follows f scalar ok placed args many depth s w =
      let e : Frame = frame_of f.name (local_count f) args None None depth in
      let g : Frame = frame_of f.name (local_count (beside again again' P f)) args None None depth in
      let s0 : State = with_frame e s in
      let m : ℕ = length (parameters f.type) in
      let k : ℕ = length (parameters f.type) + length f.locals in
      let wide : g.count ≡ k + length (added (nodes f.body)) = (let x = length-append f.locals (added (nodes f.body)) in omega arith) in
      let R : SourceType = result f.type in
      let C : SourceType = class_type (class_of_role f.role) in
      let params : List Local = reverse (numbered 0 (parameters f.type)) in
      let o : Open = record { here = []; breaks = []; continues = []; returns = params; own = [] } in
      let D : Beyond = record { breaks = []; continues = []; returns = reverse args; own = []; params = m } in
      let held : Held s0 (λ i. slice_get args i) m params (reverse args) =
      held-reverse s0 (λ i. slice_get args i) m (numbered 0 (parameters f.type)) args
      (held-numbered s0 (λ i. slice_get args i) 0 m (parameters f.type) args many (omega arith) (λ i n e. ap (slice_get args) (let x : n ≡ i = omega arith in x))) in
      let room : k + length (added (nodes f.body)) ≤ g.count = omega arith in
      subst (λ b. Follows Ended (and_then (in_scope again P (does.does again P f.body) s0 w) (on (last R C scalar args)))
      (and_then (all again' H (statement (inside_of P R C o) f.body k (finished (declared f.body) (if b then nothing else finished params nothing))) no_registers (with_frame g s) w) (on gives)))
      (sym scalar)
      (pull (does.does again P f.body s0 w) (closes R C scalar args) (last R C scalar args) _
      (follow-statement again again' P bodies chains refl turns R C scalar calling.Flow Flow Ended f.body m ok o D k
      (finished (declared f.body) (finished params nothing)) no_registers s0 g w (λ flow. closes R C scalar args flow >>= last R C scalar args) gives placed
      (record {
        ready = record { alike = record { function = refl; this = refl; result = refl; depth = refl }; count = omega arith; wide = omega arith; locals = λ i lt. refl };
        low = omega arith;
        result = refl;
        empty = refl;
        here = refl;
        breaks = refl;
        continues = refl;
        returns = held;
        own = refl;
        owned = record {
          known = λ i q le at. absurd (let z = never-named i q le at in omega (arith, z));
          apart = λ i j q le le2 at at2. absurd (let z = never-named i q le at in omega (arith, z));
          stays = λ i q le at. absurd (let z = never-named i q le at in omega (arith, z));
        };
        params = omega arith;
        above_here = tt;
        above_own = tt;
      })
      room
      (record {
        breaks = λ t g2 h w2 v owned. ended-with R C scalar args calling.Breaks (Breaks h) t _ w2 tt tt;
        continues = λ t g2 h w2 v owned. ended-with R C scalar args calling.Continues (Continues h) t _ w2 tt tt;
        returns = λ x t g2 w2 v owned. ended-with R C scalar args (calling.Returns x) (Returns x) t (with_frame g2 (all_gone (t.frame.scope ++ reverse args) t)) w2 refl (all-returned R C scalar args t g2);
      })
      (λ t g2 h w2 v held-now low owned.
      finished-steps again' H refl calling.Flow Flow Ended (declared f.body) t.frame.scope (next_local m f.body) (finished params nothing) h gives _ t g2 w2
      (subst (λ xs. Held t g2.locals (next_local m f.body) xs t.frame.scope) (append-nil (declared f.body)) held-now)
      (finished-steps again' H refl calling.Flow Flow Ended params (reverse args) m nothing h gives _ (all_gone t.frame.scope t) g2 w2
      (held-kept s0 (all_gone t.frame.scope t) (λ i. slice_get args i) g2.locals m m params (reverse args) (later-then s0 t (all_gone t.frame.scope t) v.later (later-gone t.frame.scope t)) held (omega arith) v.below)
      (ended-with R C scalar args calling.Falls (Falls h) t (with_frame g2 (all_gone (reverse args) (all_gone t.frame.scope t))) w2 tt (all-ended R C scalar args t g2))))))
    where
      past : {X : Type 0} (xs : List X) (i : ℕ) → length xs ≤ i → slice_get xs i ≡ None
      past [] i le = refl
      past (x ∷ xs) zero le = absurd (omega (arith, le))
      past (x ∷ xs) (suc i) le = past xs i (omega arith)

      never-named : (i q : ℕ) → length (parameters f.type) ≤ i → slice_get args i ≡ Some q → q < 0
      never-named i q le at = let none : None ≡ Some q = sym (past args i (omega (arith, many, le))) ∙ at in absurd (cc)

  -- a function's body, with what comes round it
  entered-follows : (f : Function) → is_built_function f ≡ true → (args : List ℕ) → length args ≡ length (parameters f.type) → (depth : ℕ) (s : State) (w : World)
      → Follows Ended
      (run_body again P f args (with_frame (frame_of f.name (local_count f) args None None depth) s) w)
      (running.run_body again' H (sequenced_function [] xs f) (with_frame (frame_of f.name (local_count (beside again again' P f)) args None None depth) s) w)
  entered-follows f ok args many depth s w =
      let parts = built-parts f ok in
      let s0 : State = with_frame (frame_of f.name (local_count f) args None None depth) s in
      let t0 : State = with_frame (frame_of f.name (local_count (beside again again' P f)) args None None depth) s in
      subst (λ role. Follows Ended (core_body again P role (is_class (result f.type)) f.body args s0 w) (plain_body again' H role (is_class (result f.type)) (sequenced_body [] xs f) t0 w))
      (sym parts.role)
      (subst (λ b. Follows Ended (core_body again P plain_function b f.body args s0 w) (plain_body again' H plain_function b (sequenced_body [] xs f) t0 w)) (sym parts.scalar)
      (body-follows f parts.scalar parts.statement parts.arms args many depth s w))

unit-right : {A : Type 0} (x : Ran (Did A)) → and_then x (on gives) ≡ x
unit-right (Went (Gives a s) w) = refl
unit-right (Went (Exits z s) w) = refl
unit-right (Went Malformed w) = refl
unit-right (Stops end trace) = refl

falls-unit : (again : running.Again) (H : Program) (x : Ran (Did Flow)) → and_then (and_then x (on (falling (λ h. all again H nothing h)))) (on gives) ≡ x
falls-unit again H (Went (Gives (Falls h) s) w) = refl
falls-unit again H (Went (Gives (Breaks h) s) w) = refl
falls-unit again H (Went (Gives (Continues h) s) w) = refl
falls-unit again H (Went (Gives (Returns v) s) w) = refl
falls-unit again H (Went (Exits z s) w) = refl
falls-unit again H (Went Malformed w) = refl
falls-unit again H (Stops end trace) = refl

-- ---- for each bound of ticks

module _ (xs : List Static) (ks : List Setting) (fs : List Function) (set : list_all (is_built_setting xs) ks ≡ true) (ok : list_all is_built_function fs ≡ true) where
  abbrev Q : Program
  Q = headers (sequenced (of_parts xs ks fs))

  abbrev code_of : List PlainFunction
  code_of = (sequenced (of_parts xs ks fs)).functions ++ (sequenced (of_parts xs ks fs)).initialisers

  chains-of : (name : Name) (f : Function) → function_named (of_parts xs ks fs) name ≡ Some f → is_chain f.type ≡ true
  chains-of name f e = (built-parts f (found-built name fs f e ok)).chain

  record Both (n : ℕ) : Type 0 where
    bodies : Bodies (runs (of_parts xs ks fs) n) (running.runs Q code_of n) (of_parts xs ks fs)
    turns : Turns (runs (of_parts xs ks fs) n) (running.runs Q code_of n) (of_parts xs ks fs)

  turn-by : (n : ℕ) (how : LoopForm) (q e : MaybeCore) (body : Core) (o : Open) (D : Beyond) (m k : ℕ) (g : Registers) (s : State) (f : Frame) (w : World) (R C : SourceType)
      → Follows (Turned o.here D m s f) (and_then (does.does (runs (of_parts xs ks fs) n) (of_parts xs ks fs) (core.loop how q e body) s w) (on gives))
      (and_then (all (running.runs Q code_of n) Q (more (loop (turn_code (inside_of (of_parts xs ks fs) R C o) how q e body k) (step_code (inside_of (of_parts xs ks fs) R C o) how q e body k)) nothing) g (with_frame f s) w) (on gives))
      → Follows (Turned o.here D m s f) (does.does (runs (of_parts xs ks fs) n) (of_parts xs ks fs) (core.loop how q e body) s w)
      (running.does (running.runs Q code_of n) Q (loop (turn_code (inside_of (of_parts xs ks fs) R C o) how q e body k) (step_code (inside_of (of_parts xs ks fs) R C o) how q e body k)) g (with_frame f s) w)
  turn-by n how q e body o D m k g s f w R C h =
      let again' = running.runs Q code_of n in
      let the_loop : Plain = loop (turn_code (inside_of (of_parts xs ks fs) R C o) how q e body k) (step_code (inside_of (of_parts xs ks fs) R C o) how q e body k) in
      subst (λ y. Follows (Turned o.here D m s f) (does.does (runs (of_parts xs ks fs) n) (of_parts xs ks fs) (core.loop how q e body) s w) y)
      (falls-unit again' Q (running.does again' Q the_loop g (with_frame f s) w))
      (subst (λ x. Follows (Turned o.here D m s f) x (and_then (all again' Q (more the_loop nothing) g (with_frame f s) w) (on gives)))
      (unit-right (does.does (runs (of_parts xs ks fs) n) (of_parts xs ks fs) (core.loop how q e body) s w)) h)

  turn-ways : (n : ℕ) (b : Both n) (R C : SourceType) (scalar : is_class R ≡ false) (o : Open) (D : Beyond) (m k : ℕ) (s : State) (f : Frame)
      → Ways (runs (of_parts xs ks fs) n) (running.runs Q code_of n) (of_parts xs ks fs) b.bodies chains-of refl b.turns R C scalar calling.Flow Flow (Turned o.here D m s f) D m s f gives gives
  turn-ways n b R C scalar o D m k s f = record {
    breaks = λ t g h w v owned. record { by = record { value = Breaks h; after = with_frame g (all_gone (t.frame.scope ++ D.breaks) t); run = refl; related = record { plain = g; moved = v; owned = owned; ends = refl } } };
    continues = λ t g h w v owned. record { by = record { value = Continues h; after = with_frame g (all_gone (t.frame.scope ++ D.continues) t); run = refl; related = record { plain = g; moved = v; owned = owned; ends = refl } } };
    returns = λ x t g w v owned. record { by = record { value = Returns x; after = with_frame g (all_gone (t.frame.scope ++ D.returns) t); run = refl; related = record { plain = g; moved = v; owned = owned; ends = (refl, refl) } } };
  }

  turn-falls : (o : Open) (D : Beyond) (m k : ℕ) (s : State) (f : Frame) → Stands o D m k s f
      → (t : State) (g : Frame) (h : Registers) (w : World) → Moved m s f t g → Held t g.locals m o.here t.frame.scope → Owned D.params D.own t
      → Follows (Turned o.here D m s f) (Went (Gives calling.Falls t) w) (Went (Gives (Falls h) (with_frame g t)) w)
  turn-falls o D m k s f st t g h w v held owned = record {
    by = record {
      value = Falls h;
      after = with_frame g t;
      run = refl;
      related = record { plain = g; moved = v; owned = owned; ends = (held, refl) };
    };
  }

  -- what lasts of the objects of before
  rests : (n : ℕ) → Rests (runs (of_parts xs ks fs) n) (of_parts xs ks fs)
  rests n = rests-at (of_parts xs ks fs) refl (λ name f found. let parts = built-parts f (found-built name fs f found ok) in (parts.role, parts.statement)) n

  next-follows : (n : ℕ) → Both n → (R C : SourceType) → is_class R ≡ false → (how : LoopForm) (q e : MaybeCore) (body : Core) (m : ℕ) → is_statement m (core.loop how q e body) ≡ true
      → (o : Open) (D : Beyond) (k : ℕ) (g : Registers) (s : State) (f : Frame) (w : World) → arms_fit s.frame.count body ≡ true
      → Stands o D m k s f → k + width (core.loop how q e body) ≤ f.count
      → Follows (Turned o.here D m s f) (runs (of_parts xs ks fs) (suc n) (calling.turn (core.loop how q e body)) s w)
      (running.runs Q code_of (suc n) (running.turn (turn_code (inside_of (of_parts xs ks fs) R C o) how q e body k) (step_code (inside_of (of_parts xs ks fs) R C o) how q e body k) g) (with_frame f s) w)
  next-follows n b R C scalar form.While q e body m is-ok o D k g s f w placed st room = turn-by n form.While q e body o D m k g s f w R C
      (follow-statement (runs (of_parts xs ks fs) n) (running.runs Q code_of n) (of_parts xs ks fs) b.bodies chains-of refl b.turns R C scalar calling.Flow Flow (Turned o.here D m s f)
      (core.loop form.While q e body) m is-ok o D k nothing g s f w gives gives placed st room (turn-ways n b R C scalar o D m k s f) (λ t g h w v held low owned. turn-falls o D m k s f st t g h w v held owned))
  next-follows n b R C scalar form.For q e body m is-ok o D k g s f w placed st room = turn-by n form.For q e body o D m k g s f w R C
      (follow-statement (runs (of_parts xs ks fs) n) (running.runs Q code_of n) (of_parts xs ks fs) b.bodies chains-of refl b.turns R C scalar calling.Flow Flow (Turned o.here D m s f)
      (core.loop form.For q e body) m is-ok o D k nothing g s f w gives gives placed st room (turn-ways n b R C scalar o D m k s f) (λ t g h w v held low owned. turn-falls o D m k s f st t g h w v held owned))
  next-follows n b R C scalar form.Do q e body m is-ok o D k g s f w placed st room = turn-by n form.Do q e body o D m k g s f w R C
      (follow-statement (runs (of_parts xs ks fs) n) (running.runs Q code_of n) (of_parts xs ks fs) b.bodies chains-of refl b.turns R C scalar calling.Flow Flow (Turned o.here D m s f)
      (core.loop form.Do q e body) m is-ok o D k nothing g s f w gives gives placed st room (turn-ways n b R C scalar o D m k s f) (λ t g h w v held low owned. turn-falls o D m k s f st t g h w v held owned))

  next-bodies : (n : ℕ) → Both n → Bodies (runs (of_parts xs ks fs) (suc n)) (running.runs Q code_of (suc n)) (of_parts xs ks fs)
  next-bodies n b name f found args many depth s w =
      let again = runs (of_parts xs ks fs) n in
      let again' = running.runs Q code_of n in
      let t0 : State = with_frame (frame_of f.name (local_count (beside again again' (of_parts xs ks fs) f)) args None None depth) s in
      let same : f.name ≡ name = same_bytes f.name name (found-name name fs f found) in
      let here : function_named (of_parts xs ks fs) f.name ≡ Some f = subst (λ n. function_named (of_parts xs ks fs) n ≡ Some f) (sym same) found in
      subst (λ x. Follows Ended (run_body again (of_parts xs ks fs) f args (with_frame (frame_of f.name (local_count f) args None None depth) s) w) (running.run_found again' Q x t0 w))
      (sym (named-plain [] xs f.name fs (sequenced (of_parts xs ks fs)).initialisers f here))
      (entered-follows again again' xs ks fs b.bodies chains-of b.turns f (found-built name fs f found ok) args many depth s w)

  both-at : (n : ℕ) → Both n
  both-at zero = record { bodies = λ name f found args many depth s w. record { by = refl }; turns = record { follow = λ R C scalar how q e body m is-ok o D k g s f w placed st room. record { by = refl }; rests = rests zero } }
  both-at (suc n) = record { bodies = next-bodies n (both-at n); turns = record { follow = next-follows n (both-at n); rests = rests (suc n) } }

  -- ---- the whole run

  nothing-to-destroy : (again : calling.Again) (P : Program) → P.classes ≡ [] → (o : ℕ) (s : State) (w : World) → destroy_static again P o s w ≡ Went (Gives tt s) w
  nothing-to-destroy again P e o s w = ap (λ (a : Act (Unit {0})). a s w) (destroy-nothing again P e (s.object o).type (root o))

  abbrev statics_by : calling.Again → Program → ℕ → ℕ → ℤ → State → World → List ℕ → Ran (Did ℤ)
  statics_by a P depth n status s w os = elim os [
    | [] ↦ Went (Gives status s) w
    | o ∷ rest ↦ and_then (destroy_static a P o (record s { finished = rest }) w) (resumed depth (destroy_statics a P depth n) status)
  ]

  statics-end : (a b : calling.Again) (P R : Program) → P.classes ≡ [] → R.classes ≡ [] → (depth n : ℕ) (status : ℤ) (s : State) (w : World)
      → destroy_statics a P depth n status s w ≡ destroy_statics b R depth n status s w
  statics-end a b P R e f depth zero status s w = refl
  statics-end a b P R e f depth (suc n) status s w = by-list s.finished (λ rest. statics-end a b P R e f depth n status (record s { finished = rest }) w)
    where
      by-list : (os : List ℕ)
          → ((rest : List ℕ) → destroy_statics a P depth n status (record s { finished = rest }) w ≡ destroy_statics b R depth n status (record s { finished = rest }) w)
          → statics_by a P depth n status s w os ≡ statics_by b R depth n status s w os
      by-list [] later = refl
      by-list (o ∷ rest) later =
          ap (λ r. and_then r (resumed depth (destroy_statics a P depth n) status)) (nothing-to-destroy a P e o (record s { finished = rest }) w)
          ∙ later rest
          ∙ sym (ap (λ r. and_then r (resumed depth (destroy_statics b R depth n) status)) (nothing-to-destroy b R f o (record s { finished = rest }) w))

  abbrev SameNumber : ℤ → State → ℤ → State → Type 0
  SameNumber a s b t = (a ≡ b) × (t ≡ with_frame t.frame s)

  left-same : (depth : ℕ) (s t : State) → t ≡ with_frame t.frame s → left depth t ≡ left depth s
  left-same depth s t e = ap (left depth) e

  outcomes : (a b : calling.Again) (R : Program) → R.classes ≡ [] → (depth n : ℕ) (x y : Ran (Did ℤ)) (o : Outcome) → Follows SameNumber x y
      → run_outcome (and_then x (ended_run a (of_parts xs ks fs) depth n)) ≡ Some o → run_outcome (and_then y (ended_run b R depth n)) ≡ Some o
  outcomes a b R e depth n (Stops end trace) y o h is = ap (λ y. run_outcome (and_then y (ended_run b R depth n))) h.by ∙ is
  outcomes a b R e depth n (Went Malformed w) y o h is = absurd (cc)
  outcomes a b R e depth n (Went (Exits z s) w) y o h is =
      ap (λ y. run_outcome (and_then y (ended_run b R depth n))) h.by.run
      ∙ ap (λ t. run_outcome (destroy_statics b R depth n z t w)) (left-same depth s h.by.after h.by.same)
      ∙ ap run_outcome (sym (statics-end a b (of_parts xs ks fs) R refl e depth n z (left depth s) w)) ∙ is
  outcomes a b R e depth n (Went (Gives z s) w) y o h is =
      ap (λ y. run_outcome (and_then y (ended_run b R depth n))) h.by.run
      ∙ ap (λ z. run_outcome (destroy_statics b R depth n z (left depth h.by.after) w)) (sym h.by.related.0)
      ∙ ap (λ t. run_outcome (destroy_statics b R depth n z t w)) (left-same depth s h.by.after h.by.related.1)
      ∙ ap run_outcome (sym (statics-end a b (of_parts xs ks fs) R refl e depth n z (left depth s) w)) ∙ is

  status-steps : (v : Value) (s : State) (f : Frame) (w : World) → Follows SameNumber (status_of v s w) (status_of v (with_frame f s) w)
  status-steps (Number z) s f w = record { by = record { value = z; after = with_frame f s; run = refl; related = (refl, refl) } }
  status-steps Missing s f w = record { by = record { value = pos 0; after = with_frame f s; run = refl; related = (refl, refl) } }
  status-steps v s f w = record { by = tt }

  main-follows : (n : ℕ) (x : Option Function) → function_named (of_parts xs ks fs) (codes "__main") ≡ x → (s : State) (g : Frame) (w : World) → Alike s.frame g
      → Follows SameNumber (and_then (run_named (runs (of_parts xs ks fs) n) (of_parts xs ks fs) (codes "__main") [] None None s w) (on status_of))
      (and_then (run_named (calls (running.runs Q code_of n)) Q (codes "__main") [] None None (with_frame g s) w) (on status_of))
  main-follows n None found s g w alike =
      subst (λ x. Follows SameNumber (and_then (calling.enter_found (runs (of_parts xs ks fs) n) x [] None None s w) (on status_of))
      (and_then (run_named (calls (running.runs Q code_of n)) Q (codes "__main") [] None None (with_frame g s) w) (on status_of))) (sym found) (record { by = tt })
  main-follows n (Some f) found s g w alike =
      let again = runs (of_parts xs ks fs) n in
      let again' = running.runs Q code_of n in
      subst (λ x. Follows SameNumber (and_then (calling.enter_found again x [] None None s w) (on status_of))
      (and_then (run_named (calls again') Q (codes "__main") [] None None (with_frame g s) w) (on status_of))) (sym found)
      (subst (λ x. Follows SameNumber (and_then (calling.enter_found again (Some f) [] None None s w) (on status_of))
      (and_then (calling.enter_found (calls again') x [] None None (with_frame g s) w) (on status_of))) (sym (named-header [] xs (codes "__main") fs (sequenced (of_parts xs ks fs)).initialisers f found))
      (found-steps again again' (of_parts xs ks fs) (both-at n).bodies s g status_of status_of (λ v t w same. status-steps v t g w) (codes "__main") f found [] alike w))

  pub programs-agree : (input : List ℕ) (heap depth n : ℕ) (o : Outcome) → Mean (of_parts xs ks fs) input heap depth n ≡ Some o → PlainMean (sequenced (of_parts xs ks fs)) input heap depth n ≡ Some o
  programs-agree input heap depth n o is =
      let again = runs (of_parts xs ks fs) n in
      let again' = running.runs Q code_of n in
      let s : State = first_state (of_parts xs ks fs) depth in
      outcomes again (calls again') Q refl depth (suc n) _ _ o
      (subst (λ t. Follows SameNumber (main_run again (of_parts xs ks fs) s (world_at n input heap)) (plain_program.main_run again' Q (map (setting_of (of_parts xs ks fs)) ks) t (world_at n input heap)))
      (sym (same-first (of_parts xs ks fs) depth))
      (settings-steps again again' (of_parts xs ks fs) (both-at n).bodies chains-of refl (rests n) s (first-stood (of_parts xs ks fs) depth) {S = SameNumber} ks set s s.frame (world_at n input heap)
      (record { alike = record { function = refl; this = refl; result = refl; depth = refl }; count = omega arith; wide = omega arith; locals = λ i lt. refl }) refl
      (record { next = omega arith; objects = λ o lt. record { type = refl; life = refl; gone = refl }; temporaries = tt; scope = record { newer = []; parts = refl; new = tt } })
      (λ u. run_named again (of_parts xs ks fs) (codes "__main") [] None None >>= status_of) (λ u. run_named (calls again') Q (codes "__main") [] None None >>= status_of)
      (λ t g w ready. main-follows n (function_named (of_parts xs ks fs) (codes "__main")) refl t g w ready.alike))) is

-- The plain program has the program's meaning: the same trace and the same end, with the same ticks.
pub sequencing-keeps : (P : Program) → is_plainly_built P ≡ true → (input : List ℕ) (heap depth n : ℕ) (o : Outcome)
    → Mean P input heap depth n ≡ Some o → PlainMean (sequenced P) input heap depth n ≡ Some o
sequencing-keeps P ok input heap depth n o is =
    let set : Bool = list_all (is_built_setting P.statics) P.constants in
    let one = both (is_none P.classes) (set && (is_none P.initialisers && list_all is_built_function P.functions)) ok in
    let two = both set (is_none P.initialisers && list_all is_built_function P.functions) one.1 in
    let three = both (is_none P.initialisers) (list_all is_built_function P.functions) two.1 in
    let same : P ≡ of_parts P.statics P.constants P.functions =
    ap (λ (cs : List Class). let R : Program = record { classes = cs; functions = P.functions; statics = P.statics; constants = P.constants; initialisers = P.initialisers } in R) (empty-list P.classes one.0)
    ∙ ap (λ (xs : List Function). let R : Program = record { classes = []; functions = P.functions; statics = P.statics; constants = P.constants; initialisers = xs } in R) (empty-list P.initialisers three.0) in
    subst (λ (R : Program). Mean R input heap depth n ≡ Some o → PlainMean (sequenced R) input heap depth n ≡ Some o) (sym same)
    (programs-agree P.statics P.constants P.functions two.0 three.1 input heap depth n o) is
