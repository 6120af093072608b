-- Full expressions: the flags of their temporaries in branches are cleared before, and their temporaries end behind, on both sides in the same order.
use Rattle.std.proofs.Common.{◌≡◌, inl, ℕ, suc, ◌+◌, ◌≤◌, ◌<◌, Bool, true, false, if◌then◌else◌, List, [], ◌∷◌, append-nil, refl, sym, ◌∙◌, ap, subst, arith, reverse}
use Rattle.std.specs.Prelude.{pos, Option, Some, None}
use Rattle.cf_base.specs.World.{World, Ran, Went, and_then}
use Rattle.cf_core.specs.Types.{Name, SourceType}
use Rattle.cf_core.specs.Core as core
use Rattle.cf_core.specs.Core.{Core, Function, local_temporary}
use Rattle.cf_core.specs.Places.{Place}
use Rattle.cf_core.specs.Store.{Value, Number, At}
use Rattle.cf_core.specs.Run.{State, Frame, Did, Gives, Act, ◌>>=◌, ◌>>◌, gives, state, for_all, frame_changed, with_frame}
use Rattle.cf_core.specs.Joined.{is_nothing}
use Rattle.cf_core.specs.Pointers.{truth_value}
use Rattle.cf_core.specs.Scalars.{truth_of}
use Rattle.cf_core.specs.Access.{used}
use Rattle.cf_core.specs.Objects.{settle}
use Rattle.cf_core.specs.Calls as calling
use Rattle.cf_core.specs.Calls.{Program, function_named, end_object, full_expression}
use Rattle.cf_core.specs.Expressions as meaning
use Rattle.cf_plain.specs.Plain.{Register, Plains, act, set, branch, nothing, more}
use Rattle.cf_plain.specs.Plain as plain
use Rattle.cf_plain.specs.Acts.{Registers}
use Rattle.cf_plain.specs.Running as running
use Rattle.cf_plain.specs.Running.{Flow, keep, falling, all}
use Rattle.cf_sequence.specs.Follows.{Follows}
use Rattle.cf_sequence.specs.Built.{is_value, is_chain}
use Rattle.cf_sequence.specs.Made.{Temporary, temporaries, width, held_by}
use Rattle.cf_sequence.specs.Expressions.{Full, flag, Destination, destination, settled, value, whole, flags, ended, finished, used as use_of}
use Rattle.cf_sequence.specs.Statements.{condition, started}
use Rattle.cf_sequence.proofs.Following.{on, pull}
use Rattle.cf_sequence.proofs.Calling.{Bodies, never}
use Rattle.cf_sequence.proofs.Kept.{Kept, Ready, Valued, keep-same, keep-other, keep-again}
use Rattle.cf_sequence.proofs.Temporaries.{objects, objects-reverse, Unset, Listed, listed-reverse, listing, Begins, Grown, grown-set}
use Rattle.cf_sequence.proofs.Placing.{placing}
use Rattle.cf_sequence.proofs.Moving.{Later, later-gone, all_gone, held-more, gone-same, ends-all, finished-steps}
use Rattle.cf_sequence.proofs.PlainSteps.{Usable, runs_on, set-steps, use-steps, truth-steps, branch-steps}
use Rattle.cf_sequence.proofs.Operands.{H}
use Rattle.cf_sequence.proofs.Parts.{first-steps, value-gives}
use Rattle.cf_sequence.proofs.Evaluating.{follow-value}

-- the register of the temporary's place, which is that of the reference's initialiser
abbrev pub held_at : Core → Register → Register
held_at e n = suc n + width e

pub nothing-is : (e : Core) → is_nothing e ≡ true → e ≡ core.blank
nothing-is core.blank ok = refl
nothing-is e ok = never ok

pub held-none : (e : Core) → is_value e ≡ true → held_by e ≡ []
held-none (core.bind (local_temporary i t) e) ok = never ok
held-none e ok = refl

-- ---- before it

abbrev no_flag : Value
no_flag = Number (pos 0)

-- The flags of temporaries hold 0, and the registers below them are as they were.
pub record Cleared (x : Full) (ts : List Temporary) (g h : Registers) : Type 0 where
  pub unset : Unset x h ts
  pub zeros : (r : ℕ) → g r ≡ Some no_flag → h r ≡ Some no_flag
  pub below : (r : ℕ) → r < x.base → h r ≡ g r

module _ (again : running.Again) (H : Program) (A B : Type 0) (S : A → State → B → State → Type 0) (x : Full) (rest : Plains) (K : Flow → Act B) (y : Ran (Did A)) (s : State) (w : World) where
  abbrev Clears : List Temporary → Registers → Type 0
  Clears ts g = ((h : Registers) → Cleared x ts g h → Follows S y (runs_on again H rest h K s w)) → Follows S y (runs_on again H (flags x ts rest) g K s w)

  clear-one : (t : Temporary) (ts : List Temporary) → ((g : Registers) → Clears ts g) → (b : Bool) → t.in_branch ≡ b → (g : Registers)
      → ((h : Registers) → Cleared x (t ∷ ts) g h → Follows S y (runs_on again H rest h K s w))
      → Follows S y (runs_on again H (elim b [ true ↦ more (set (flag x t.local.number) (plain.number (pos 0))) (flags x ts rest) | false ↦ flags x ts rest ]) g K s w)
  clear-one t ts clears true is g next =
      let r : Register = flag x t.local.number in
      set-steps again H r (plain.number (pos 0)) (flags x ts rest) g K y s w
      (clears (keep g r no_flag) (λ h c. next h (record {
        unset = ((λ e. c.zeros r (keep-same r g no_flag)), c.unset);
        zeros = λ q e. c.zeros q (keep-again r q g no_flag e);
        below = λ q lt. c.below q lt ∙ keep-other r q g no_flag (λ same. omega arith);
      })))
  clear-one t ts clears false is g next = clears g (λ h c. next h (record { unset = ((λ e. never (sym is ∙ e)), c.unset); zeros = c.zeros; below = c.below }))

  pub flags-steps : (ts : List Temporary) (g : Registers) → Clears ts g
  flags-steps [] g next = next g (record { unset = tt; zeros = λ r e. e; below = λ r lt. refl })
  flags-steps (t ∷ ts) g next = clear-one t ts (flags-steps ts) t.in_branch refl g next

-- ---- behind it

module _ (again : running.Again) (H : Program) (classless : H.classes ≡ []) (A B : Type 0) (S : A → State → B → State → Type 0) (x : Full) (rest : Plains) (h : Registers) (K : Flow → Act B) (y : Ran (Did A))
    (f : Frame) (w : World) where
  abbrev Ends : List Temporary → List (Option ℕ) → Type 0
  Ends ts made = (s : State) → Listed x h f.locals ts made → Follows S y (runs_on again H rest h K (with_frame f (all_gone (objects made) s)) w) → Follows S y (runs_on again H (ended x ts rest) h K (with_frame f s) w)

  abbrev one_ended : Temporary → List Temporary → Bool → Plains
  one_ended t ts b = elim b [
    | true ↦ more (branch (flag x t.local.number) (finished (t.local ∷ []) nothing) nothing) (ended x ts rest)
    | false ↦ finished (t.local ∷ []) (ended x ts rest)
  ]

  end-one : (t : Temporary) (ts : List Temporary) (o : ℕ) (s : State) → f.locals t.local.number ≡ Some o → h (flag x t.local.number) ≡ Some (truth_value true)
      → Follows S y (runs_on again H (ended x ts rest) h K (with_frame f (all_gone (o ∷ []) s)) w) → (b : Bool) → Follows S y (runs_on again H (one_ended t ts b) h K (with_frame f s) w)
  end-one t ts o s at flagged next true =
      let K1 : Flow → Act B = λ flow. falling (λ g. all again H (ended x ts rest) g) flow >>= K in
      branch-steps again H true (flag x t.local.number) (finished (t.local ∷ []) nothing) nothing (ended x ts rest) h K y (with_frame f s) w flagged
      (finished-steps again H classless A B S (t.local ∷ []) (o ∷ []) (suc t.local.number) nothing h K1 y s f w
      (held-more s f.locals (suc t.local.number) t.local [] o [] at (omega arith) refl) next)
  end-one t ts o s at flagged next false =
      finished-steps again H classless A B S (t.local ∷ []) (o ∷ []) (suc t.local.number) (ended x ts rest) h K y s f w
      (held-more s f.locals (suc t.local.number) t.local [] o [] at (omega arith) refl) next

  pub ended-steps : (ts : List Temporary) (made : List (Option ℕ)) → Ends ts made
  ended-steps [] [] s listed next = next
  ended-steps [] (m ∷ made) s listed next = absurd listed
  ended-steps (t ∷ ts) [] s listed next = absurd listed
  ended-steps (t ∷ ts) (None ∷ made) s listed next =
      subst (λ b. Follows S y (runs_on again H (one_ended t ts b) h K (with_frame f s) w)) (sym listed.0)
      (branch-steps again H false (flag x t.local.number) (finished (t.local ∷ []) nothing) nothing (ended x ts rest) h K y (with_frame f s) w listed.1 (ended-steps ts made s listed.2 next))
  ended-steps (t ∷ ts) (Some o ∷ made) s listed next =
      end-one t ts o s listed.0 listed.1 (ended-steps ts made (all_gone (o ∷ []) s) listed.2 next) t.in_branch

-- what comes at the end of a full expression
abbrev pub closing : {V : Type 0} → calling.Again → Program → List ℕ → V → Act V
closing again P os v = state >>= (λ t. for_all t.frame.temporaries (end_object again P) >> (frame_changed (λ f. record f { temporaries = os }) >> gives v))

-- of one that has made no temporary
pub closed : {V : Type 0} (again : calling.Again) (P : Program) (e : Frame) (t : State) (w : World) (v : V) → t.frame ≡ record e { temporaries = [] }
    → closing again P e.temporaries v t w ≡ Went (Gives v (with_frame e t)) w
closed again P e t w v same =
    subst (λ (f : Frame). closing again P e.temporaries v (with_frame f t) w ≡ Went (Gives v (with_frame e t)) w) (sym same) refl

-- of any one, where no class has a destructor
all-closed : {V : Type 0} (again : calling.Again) (P : Program) → P.classes ≡ [] → (made : List (Option ℕ)) (e : Frame) (t : State) (w : World) (v : V) → t.frame ≡ listing made (record e { temporaries = [] })
    → closing again P e.temporaries v t w ≡ Went (Gives v (with_frame e (all_gone (reverse (objects made)) t))) w
all-closed again P classless made e t w v same =
    let os : List ℕ = reverse (objects made) in
    let last : Act _ = frame_changed (λ f. record f { temporaries = e.temporaries }) >> gives v in
    ap (λ ps. and_then (for_all ps (end_object again P) t w) (on (λ u. last))) (ap (λ (f : Frame). f.temporaries) same ∙ append-nil os)
    ∙ ap (λ r. and_then r (on (λ u. last))) (ends-all again P classless os t w)
    ∙ ap (λ (f : Frame). Went (Gives v (with_frame f (all_gone os t))) w) (ap (λ (f : Frame). record f { temporaries = e.temporaries }) (gone-same os t ∙ same))

module _ (again : calling.Again) (again' : running.Again) (P : Program) (bodies : Bodies again again' P)
    (chains : (name : Name) (f : Function) → function_named P name ≡ Some f → is_chain f.type ≡ true)
    (classless : P.classes ≡ []) (A B : Type 0) (S : A → State → B → State → Type 0) where
  -- the temporaries of a full expression end on both sides
  pub closing-steps : {V : Type 0} (x : Full) (ts : List Temporary) (made : List (Option ℕ)) (e : Frame) (t : State) (h : Registers) (f : Frame) (w : World) (v : V) (c : V → Act A) (rest : Plains) (K : Flow → Act B)
      → t.frame ≡ listing made (record e { temporaries = [] }) → Listed x h f.locals ts made
      → ((u : State) → u.frame ≡ e → Later t u → Follows S (c v u w) (runs_on again' (H again again' P) rest h K (with_frame f u) w))
      → Follows S (and_then (closing again P e.temporaries v t w) (on c)) (runs_on again' (H again again' P) (ended x (reverse ts) rest) h K (with_frame f t) w)
  closing-steps x ts made e t h f w v c rest K same listed next =
      let os : List ℕ = reverse (objects made) in
      let u : State = with_frame e (all_gone os t) in
      let y = c v u w in
      subst (λ r. Follows S (and_then r (on c)) (runs_on again' (H again again' P) (ended x (reverse ts) rest) h K (with_frame f t) w)) (sym (all-closed again P classless made e t w v same))
      (ended-steps again' (H again again' P) classless A B S x rest h K y f w (reverse ts) (reverse made) t (listed-reverse x h f.locals ts made listed)
      (subst (λ ps. Follows S y (runs_on again' (H again again' P) rest h K (with_frame f (all_gone ps t)) w)) (sym (objects-reverse made)) (next u refl (let l = later-gone os t in record { next = l.next; gone = l.gone }))))

  -- behind the flags its parts begin
  pub begins-whole : (e : Core) → is_value e ≡ true → (n k : ℕ) (g h : Registers) (y f : Frame) (t : List ℕ)
      → Ready k y f → k + width e ≤ f.count → Cleared (record { first = k; base = n }) (temporaries false e k) g h
      → Begins false (record { first = k; base = n }) (temporaries false e k) (n + width e) k (k + width e) h (record y { temporaries = t }) f
  begins-whole e ok n k g h y f t ready room cleared = record {
    ready = record { alike = record { function = ready.alike.function; this = ready.alike.this; result = ready.alike.result; depth = ready.alike.depth }; count = ready.count; wide = ready.wide; locals = ready.locals };
    room = room;
    low = omega arith;
    wide = omega arith;
    high = omega arith;
    placed = placing e ok false k;
    unset = cleared.unset;
  }

  -- the value of a full expression
  pub full-steps : (e : Core) → is_value e ≡ true → (into : Option Place) (into' : Option Destination) (n k : ℕ) (rest : Register → Plains) (g : Registers) (s : State) (f : Frame) (w : World)
      (c : Value → Act A) (K : Flow → Act B)
      → Ready k s.frame f → k + width e ≤ f.count
      → ((v : Value) (t : State) (h : Registers) (f1 : Frame) (w : World) → Valued n (n + width e) k g s.frame f v t h f1
      → Follows S (c v t w) (runs_on again' (H again again' P) (rest (n + width e)) h K (with_frame f1 t) w))
      → Follows S (and_then (full_expression again P (meaning.value again P e into) s w) (on c))
      (runs_on again' (H again again' P) (whole e n k (λ x m rest. value P.classes x e into' m k rest) rest) g K (with_frame f s) w)
  full-steps e ok into into' n k rest g s f w c K ready room next =
      let s0 : State = with_frame (record s.frame { temporaries = [] }) s in
      let x : Full = record { first = k; base = n } in
      let m : ℕ = n + width e in
      let ts : List Temporary = temporaries false e k in
      let last : Plains = ended x (reverse ts) (rest m) in
      pull (meaning.value again P e into s0 w) (closing again P s.frame.temporaries) c _
      (flags-steps again' (H again again' P) A B S x (value P.classes x e into' m k last) K _ (with_frame f s0) w ts g (λ h cleared.
      follow-value again again' P bodies chains A B S e ok false into into' x m k last h s0 f w (λ v. closing again P s.frame.temporaries v >>= c) K
      (begins-whole e ok n k g h s.frame f [] ready room cleared) (λ v t h1 f1 w1 done.
      closing-steps x ts done.grown.made s.frame t h1 f1 w1 v c (rest m) K done.grown.frame done.grown.listed (λ u same later.
      next v u h1 f1 w1 (record { value = done.value; below = λ j lt. done.grown.below j (omega arith) (inl (omega arith)) ∙ cleared.below j lt; frame = same; kept = done.kept })))))

  -- a condition: the register holds 1 or 0
  pub condition-steps : (e : Core) → is_value e ≡ true → (k : ℕ) (rest : Register → Plains) (g : Registers) (s : State) (f : Frame) (w : World)
      (c : Bool → Act A) (K : Flow → Act B)
      → Ready k s.frame f → k + width e ≤ f.count
      → ((b : Bool) (t : State) (h : Registers) (f1 : Frame) (w : World) → h (0 + width e) ≡ Some (truth_value b) → t.frame ≡ s.frame → Kept k f f1
      → Follows S (c b t w) (runs_on again' (H again again' P) (rest (0 + width e)) h K (with_frame f1 t) w))
      → Follows S (and_then (full_expression again P (meaning.value again P e None >>= truth_of) s w) (on c))
      (runs_on again' (H again again' P) (condition P.classes e k rest) g K (with_frame f s) w)
  condition-steps e ok k rest g s f w c K ready room next =
      let s0 : State = with_frame (record s.frame { temporaries = [] }) s in
      let x : Full = record { first = k; base = 0 } in
      let n : ℕ = 0 + width e in
      let ts : List Temporary = temporaries false e k in
      let last : Plains = ended x (reverse ts) (rest n) in
      pull (and_then (meaning.value again P e None s0 w) (on truth_of)) (closing again P s.frame.temporaries) c _
      (pull (meaning.value again P e None s0 w) truth_of (λ b. closing again P s.frame.temporaries b >>= c) _
      (flags-steps again' (H again again' P) A B S x (value P.classes x e None n k (more (set n (plain.truth n)) last)) K _ (with_frame f s0) w ts g (λ h cleared.
      let begins = begins-whole e ok 0 k g h s.frame f [] ready room cleared in
      follow-value again again' P bodies chains A B S e ok false None None x n k (more (set n (plain.truth n)) last) h s0 f w
      (λ v. truth_of v >>= (λ b. closing again P s.frame.temporaries b >>= c)) K begins (λ v t h1 f1 w1 done.
      truth-steps again' (H again again' P) n v h1 done.value (λ b. closing again P s.frame.temporaries b >>= c) last K t (with_frame f1 t) w1 (λ b.
      let grown : Grown x ts n k (k + width e) h s0.frame t (keep h1 n (truth_value b)) f1.locals =
      grown-set false x ts n k (k + width e) n h s0.frame f t h1 f1.locals (truth_value b) begins (omega arith) done.grown in
      closing-steps x ts grown.made s.frame t (keep h1 n (truth_value b)) f1 w1 b c (rest n) K grown.frame grown.listed (λ u same later.
      next b u (keep h1 n (truth_value b)) f1 w1 (keep-same n h1 (truth_value b)) same done.kept))))))

  -- a value that is used
  pub used-steps : (e : Core) → is_value e ≡ true → (k : ℕ) (rest : Register → Plains) (g : Registers) (s : State) (f : Frame) (w : World)
      (c : Value → Act A) (K : Flow → Act B)
      → Ready k s.frame f → k + width e ≤ f.count
      → ((v : Value) (t : State) (h : Registers) (f1 : Frame) (w : World) → Usable v → h (0 + width e) ≡ Some v → t.frame ≡ s.frame → Kept k f f1
      → Follows S (c v t w) (runs_on again' (H again again' P) (rest (0 + width e)) h K (with_frame f1 t) w))
      → Follows S (and_then (full_expression again P (meaning.value again P e None >>= used) s w) (on c))
      (runs_on again' (H again again' P) (whole e 0 k (λ x n rest. value P.classes x e None n k (use_of n rest)) rest) g K (with_frame f s) w)
  used-steps e ok k rest g s f w c K ready room next =
      let s0 : State = with_frame (record s.frame { temporaries = [] }) s in
      let x : Full = record { first = k; base = 0 } in
      let n : ℕ = 0 + width e in
      let ts : List Temporary = temporaries false e k in
      let last : Plains = ended x (reverse ts) (rest n) in
      pull (and_then (meaning.value again P e None s0 w) (on used)) (closing again P s.frame.temporaries) c _
      (pull (meaning.value again P e None s0 w) used (λ v. closing again P s.frame.temporaries v >>= c) _
      (flags-steps again' (H again again' P) A B S x (value P.classes x e None n k (use_of n last)) K _ (with_frame f s0) w ts g (λ h cleared.
      follow-value again again' P bodies chains A B S e ok false None None x n k (use_of n last) h s0 f w
      (λ v. used v >>= (λ v. closing again P s.frame.temporaries v >>= c)) K (begins-whole e ok 0 k g h s.frame f [] ready room cleared) (λ v t h1 f1 w1 done.
      use-steps again' (H again again' P) n v h1 done.value (λ v. closing again P s.frame.temporaries v >>= c) last K t (with_frame f1 t) w1 (λ usable.
      closing-steps x ts done.grown.made s.frame t h1 f1 w1 v c (rest n) K done.grown.frame done.grown.listed (λ u same later.
      next v u h1 f1 w1 usable done.value same done.kept))))))

  -- an initialiser of the place in a register: its value is stored before its temporaries end
  pub settled-steps : (e : Core) → is_value e ≡ true → (u : SourceType) (n : Register) (k : ℕ) (q : Place) (rest : Plains) (g : Registers) (s : State) (f : Frame) (w : World)
      (c : Unit {0} → Act A) (K : Flow → Act B)
      → g n ≡ Some (At q) → Ready k s.frame f → k + width e ≤ f.count
      → ((t : State) (h : Registers) (f1 : Frame) (w : World) → t.frame ≡ s.frame → Kept k f f1 → ((j : ℕ) → j < suc n → h j ≡ g j)
      → Follows S (c tt t w) (runs_on again' (H again again' P) rest h K (with_frame f1 t) w))
      → Follows S (and_then (full_expression again P (meaning.value again P e (Some q) >>= settle P.classes q) s w) (on c))
      (runs_on again' (H again again' P) (started P.classes u e n k rest) g K (with_frame f s) w)
  settled-steps e ok u n k q rest g s f w c K at ready room next =
      let s0 : State = with_frame (record s.frame { temporaries = [] }) s in
      let x : Full = record { first = k; base = suc n } in
      let m : Register = suc n + width e in
      let ts : List Temporary = temporaries false e k in
      let last : Plains = ended x (reverse ts) rest in
      let closes : Unit {0} → Act A = λ u. closing again P s.frame.temporaries u >>= c in
      pull (and_then (meaning.value again P e (Some q) s0 w) (on (settle P.classes q))) (closing again P s.frame.temporaries) c _
      (pull (meaning.value again P e (Some q) s0 w) (settle P.classes q) closes _
      (flags-steps again' (H again again' P) A B S x (value P.classes x e (destination n u) m k (settled e n m last)) K _ (with_frame f s0) w ts g (λ h cleared.
      follow-value again again' P bodies chains A B S e ok false (Some q) (destination n u) x m k (settled e n m last) h s0 f w (λ v. settle P.classes q v >>= closes) K
      (begins-whole e ok (suc n) k g h s.frame f [] ready room cleared) (λ v t h1 f1 w1 done.
      let below : (j : ℕ) → j < suc n → h1 j ≡ g j = λ j lt. done.grown.below j (omega arith) (inl (omega arith)) ∙ cleared.below j lt in
      subst (λ b. Follows S (and_then (settle P.classes q v t w1) (on closes))
      (runs_on again' (H again again' P) (if b then last else more (act (plain.first n m)) last) h1 K (with_frame f1 t) w1)) (sym (value-gives again again' P bodies chains A B S e ok))
      (first-steps again again' P bodies chains A B S n m q v h1 last closes K t f1 w1 (below n (omega arith) ∙ at) done.value (λ t1 same.
      closing-steps x ts done.grown.made s.frame t1 h1 f1 w1 tt c rest K (same ∙ done.grown.frame) done.grown.listed (λ t2 same2 later. next t2 h1 f1 w1 same2 done.kept below)))))))
