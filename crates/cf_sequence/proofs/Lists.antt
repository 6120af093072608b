-- Lists as initialisers of arrays: the place of each element, and then its own initialiser (8.4.1).
use Rattle.std.proofs.Common.{◌≡◌, ℕ, zero, suc, ◌+◌, ◌-◌, ◌≤◌, ◌<◌, Bool, true, false, not, ◌&&◌, ◌||◌, nat_le, nat_lt, if◌then◌else◌, List, [], ◌∷◌, length, refl, sym, ◌∙◌, ap, subst, arith}
use Rattle.std.specs.Prelude.{pos, Some, None}
use Rattle.std.proofs.lemmas.Bool.Decides.{nat_tests}
use Rattle.cf_base.proofs.Tests.{both}
use Rattle.cf_base.specs.World.{World, Ran, Went, Stops, and_then}
use Rattle.cf_core.specs.Types.{Name, SourceType, array, const, plain as unqualified, element, is_array, is_class}
use Rattle.cf_core.specs.Classes.{Class}
use Rattle.cf_core.specs.Core as core
use Rattle.cf_core.specs.Core.{Core, Cores, Function, none, item}
use Rattle.cf_core.specs.Joined.{is_nothing}
use Rattle.cf_core.specs.Nodes.{nodes, nodes_all}
use Rattle.cf_core.specs.Places.{Place, inner, bound, type_at, is_inside}
use Rattle.cf_core.specs.Store.{Value, Number, At}
use Rattle.cf_core.specs.Run.{State, Frame, Did, Gives, Exits, Malformed, Act, ◌>>=◌, ◌>>◌, gives, malformed, need, valid, some_or, with_frame, not_alive, outside_array}
use Rattle.cf_core.specs.Access.{place_type, used, name_part}
use Rattle.cf_core.specs.Pointers.{element_of, route_of, up_to, moved_place}
use Rattle.cf_core.specs.Scalars.{indexed, decayed}
use Rattle.cf_core.specs.Objects.{element_part, element_count, count, costs_tick, any_costs}
use Rattle.cf_core.specs.Calls as calling
use Rattle.cf_core.specs.Calls.{Program, function_named}
use Rattle.cf_plain.specs.Plain.{Register, Plains, act, set, leave, nothing, more}
use Rattle.cf_plain.specs.Plain as plain
use Rattle.cf_plain.specs.Acts.{Registers}
use Rattle.cf_plain.specs.Running as running
use Rattle.cf_plain.specs.Running.{Flow, Falls, keep, falling, all}
use Rattle.cf_sequence.specs.Follows.{Follows}
use Rattle.cf_sequence.specs.Built.{is_row, is_value, is_start, is_filling, is_initial, is_list, is_element, are_elements, is_chain}
use Rattle.cf_sequence.specs.Made.{added, width, width_all}
use Rattle.cf_sequence.specs.Expressions.{Full, Destination, destination, elements, repeated, in_turn, part_in, part_type, parts_count, begun, built, settled}
use Rattle.cf_sequence.specs.Statements.{started}
use Rattle.cf_sequence.proofs.Following.{on, Gave, gave-as, push, follows-then}
use Rattle.cf_sequence.proofs.Calling.{Bodies, never, or-else}
use Rattle.cf_sequence.proofs.Kept.{Kept, kept-all, Ready, added-two, keep-same, keep-other}
use Rattle.cf_sequence.proofs.PlainSteps.{runs_on, set-steps, at-one, at-two}
use Rattle.cf_sequence.proofs.Operands.{H}
use Rattle.cf_sequence.proofs.Silent.{all-append, Silent, silent-none, silent-set, silent-act, silent-loop, silent-then, silent-settled, silent-whole, silent-by}
use Rattle.cf_sequence.proofs.Filling.{filling-initial, fill, started-is, filled-steps}
use Rattle.cf_sequence.proofs.Fulls.{nothing-is, settled-steps}
use Rattle.cf_sequence.proofs.Standing.{settled_full}
use Rattle.cf_sequence.proofs.Lasting.{Keeps, Newer, Lasting}
use Rattle.cf_sequence.proofs.LastingCode.{Rests, initial-keeps, settled-keeps}

-- ---- arrays

pub row-array : (t : SourceType) → is_row t ≡ true → is_array t ≡ true
row-array (array t n) ok = refl
row-array (const (array t n)) ok = refl
row-array t ok = never ok

pub array-part : (t : SourceType) → is_array t ≡ true → (i : ℕ) → element_part t i ≡ item i
array-part (array t n) ok i = refl
array-part (const t) ok i = array-part t ok i
array-part t ok i = never ok

pub array-count : (cs : List Class) (t : SourceType) → is_array t ≡ true → element_count cs t ≡ bound t
array-count cs (array t n) ok = refl
array-count cs (const t) ok = array-count cs t ok
array-count cs t ok = never ok

pub array-no-class : (t : SourceType) → is_array t ≡ true → is_class t ≡ false
array-no-class (array t n) ok = refl
array-no-class (const t) ok = array-no-class t ok
array-no-class t ok = never ok

-- no element is built by a function
value-costs : (e : Core) → is_value e ≡ true → (cs : List Class) (u : SourceType) → costs_tick e cs u ≡ false
value-costs (core.build name t args) ok cs u = never ok
value-costs (core.copy t e es) ok cs u = never ok
value-costs (core.each e) ok cs u = never ok
value-costs (core.list es rest) ok cs u = never ok
value-costs e ok cs u = refl

filling-costs : (e : Core) → is_filling e ≡ true → (cs : List Class) (u : SourceType) → costs_tick e cs u ≡ false
filling-costs core.zeros ok cs u = refl
filling-costs (core.string bytes) ok cs u = refl
filling-costs e ok cs u = never ok

initial-costs : (e : Core) → is_initial e ≡ true → (cs : List Class) (u : SourceType) → costs_tick e cs u ≡ false
initial-costs e ok cs u =
    or-else (is_filling e) (is_start e) ok (λ fills. filling-costs e fills cs u)
    (λ starts. or-else (is_nothing e) (is_value e) starts (λ blank. ap (λ e. costs_tick e cs u) (nothing-is e blank)) (λ is. value-costs e is cs u))

none-costs : (a b c d : Bool) → b ≡ false → d ≡ false → a && (b || (c && d)) ≡ false
none-costs true b true d p q = ap (λ b. b || d) p ∙ q
none-costs true b false d p q = ap (λ b. b || false) p
none-costs false b c d p q = refl

mutual
  list-costs : (t : SourceType) (e : Core) → is_list t e ≡ true → (cs : List Class) (u : SourceType) → costs_tick e cs u ≡ false
  list-costs t (core.list es rest) ok cs u =
      let v : SourceType = element (unqualified t) in
      let w : SourceType = element (unqualified u) in
      let parts = both (are_elements v es) (is_filling rest) (both (is_row t) (are_elements v es && is_filling rest) ok).1 in
      none-costs (is_array u) (any_costs es cs w) (nat_lt (count es) (bound u)) (costs_tick rest cs w) (elements-cost v es parts.0 cs w)
      (filling-costs rest parts.1 cs w)
  list-costs t e ok cs u = never ok

  elements-cost : (t : SourceType) (es : Cores) → are_elements t es ≡ true → (cs : List Class) (u : SourceType) → any_costs es cs u ≡ false
  elements-cost t none ok cs u = refl
  elements-cost t (core.more e es) ok cs u =
      let parts = both (is_element t e) (are_elements t es) ok in
      ap (λ b. b || any_costs es cs u) (or-else (is_initial e) (is_list t e) parts.0 (λ initial. initial-costs e initial cs u) (λ is. list-costs t e is cs u))
      ∙ elements-cost t es parts.1 cs u

pub element-costs : (t : SourceType) (e : Core) → is_element t e ≡ true → (cs : List Class) (u : SourceType) → costs_tick e cs u ≡ false
element-costs t e ok cs u = or-else (is_initial e) (is_list t e) ok (λ initial. initial-costs e initial cs u) (λ is. list-costs t e is cs u)

pub all-width : (es : Cores) → width_all es ≡ length (added (nodes_all es))
all-width none = refl
all-width (core.more e es) = ap (λ n. width e + n) (all-width es) ∙ sym (added-two (nodes e) (nodes_all es))

-- ---- an object that stands

-- It has this type, nothing in it was built by a function, and it has not ended.
pub record Intact (T : SourceType) (o : ℕ) (s : State) : Type 0 where
  pub below : o < s.next
  pub type : (s.object o).type ≡ T
  pub life : (s.object o).life ≡ (λ π. None)
  pub stands : (s.object o).is_gone ≡ false

-- a place in it
pub record Lies (cs : List Class) (T t : SourceType) (p : Place) : Type 0 where
  pub type : type_at cs T p.route ≡ t
  pub inside : is_inside cs T p.route ≡ true

-- it goes on standing where what lasts of it does
pub still-intact : (T : SourceType) (o : ℕ) (s t : State) (base : List ℕ) → Intact T o s → Lasting s.next s.object base t → Intact T o t
still-intact T o s t base i l =
    let same = l.objects o i.below in
    record {
      below = (let a = i.below in let b = l.next in omega arith);
      type = same.type ∙ i.type;
      life = same.life ∙ i.life;
      stands = same.gone ∙ i.stands;
    }

-- the place of an element
pub element-lies : (cs : List Class) (T t : SourceType) (p : Place) → is_array t ≡ true → Lies cs T t p → (i : ℕ) → nat_lt i (bound t) ≡ true → Lies cs T (element (unqualified t)) (inner (item i) p)
element-lies cs T t p ok lies i lt = record {
  type = ap (λ t. element (unqualified t)) lies.type;
  inside = ap (λ t. nat_lt i (bound t) && is_inside cs T p.route) lies.type ∙ ap (λ b. b && is_inside cs T p.route) lt ∙ lies.inside;
}

-- ---- the steps to an element, in any state where the object stands

decay-there : (cs : List Class) (p : Place) (s : State) (w : World) → is_array (place_type cs s p) ≡ true → is_inside cs (s.object p.object).type p.route ≡ true
    → decayed cs (At p) s w ≡ Went (Gives (At (inner (item 0) p)) s) w
decay-there cs p s w arr inside =
    ap (λ b. (valid b >> (name_part cs p >> gives (At (inner (item 0) p)))) s w) arr ∙ ap (λ b. (need b outside_array >> gives (At (inner (item 0) p))) s w) inside

none-before : (i : ℕ) → 0 + i ≡ i
none-before i = omega arith

move-there : (cs : List Class) (p : Place) (i : ℕ) (s : State) (w : World) → (s.object p.object).is_gone ≡ false
    → nat_le i (bound (type_at cs (s.object p.object).type p.route)) ≡ true
    → moved_place cs (inner (item 0) p) (pos i) s w ≡ Went (Gives (At (inner (item i) p)) s) w
move-there cs p i s w stands within =
    ap (λ b. (need (not b) not_alive >> (up_to (bound (type_at cs (s.object p.object).type p.route)) (Some (0 + i)) >>= goes)) s w) stands
    ∙ ap (λ j. (up_to (bound (type_at cs (s.object p.object).type p.route)) (Some j) >>= goes) s w) (none-before i)
    ∙ ap (λ b. ((need b outside_array >> gives i) >>= goes) s w) within
  where
    goes : ℕ → Act Value
    goes j = gives (At (record (inner (item 0) p) { route = route_of (element_of (item 0 ∷ p.route)) j }))

-- what is known of the core's state behind a step
pub known : {A B : Type 0} {R : A → State → B → State → Type 0} (Q : A → State → Type 0) (x : Ran (Did A)) (y : Ran (Did B)) → Gave Q x → Follows R x y
    → Follows (λ a s b t. R a s b t × Q a s) x y
known Q (Went (Gives a s) w) y q h = record { by = record { value = h.by.value; after = h.by.after; run = h.by.run; related = (h.by.related, q) } }
known Q (Went (Exits z s) w) y q h = record { by = record { after = h.by.after; run = h.by.run; same = h.by.same } }
known Q (Went Malformed w) y q h = record { by = tt }
known Q (Stops end trace) y q h = record { by = h.by }

pub alone : {A : Type 0} (x : Ran (Did A)) → and_then x (on gives) ≡ x
alone (Went (Gives a s) w) = refl
alone (Went (Exits z s) w) = refl
alone (Went Malformed w) = refl
alone (Stops end trace) = refl

-- ---- an initialiser that is no list, of the place in a register

silent-initial : (again : running.Again) (H : Program) (P : Program) (t : SourceType) (e : Core) → is_initial e ≡ true → (n : Register) (k : ℕ) → Silent again H (started P.classes t e n k)
silent-initial again H P t e ok n k =
    or-else (is_filling e) (is_start e) ok
    (λ fills. silent-by again H (started P.classes t e n k) (λ rest. more (act (fill e n)) rest) (started-is P.classes t e fills n k) (silent-act again H (fill e n)))
    (λ starts. or-else (is_nothing e) (is_value e) starts
    (λ blank. silent-by again H (started P.classes t e n k) (λ rest. rest) (λ rest. ap (λ e. started P.classes t e n k rest) (nothing-is e blank)) (silent-none again H))
    (λ is. silent-whole again H P e is (suc n) k (destination n t) (λ m rest. settled e n m rest) (λ m rest. rest) (λ m. silent-settled again H e n m) (λ m. silent-none again H)))

-- lists have no label either
module _ (again : running.Again) (H : Program) (P : Program) where
  silent-part : (n p : Register) (t : SourceType) (i : ℕ) → Silent again H (part_in n p t i)
  silent-part n p t i = by (is_array t)
    where
      by : (b : Bool) → Silent again H (λ rest. if b then more (set n (plain.decay p)) (more (set (suc n) (plain.number (pos i))) (more (set n (plain.index n (suc n))) rest)) else more (set n (plain.member p i)) rest)
      by true = record { labels = λ z rest. refl; at_case = λ z rest g. refl; at_default = λ rest g. refl; ahead = λ rest. refl }
      by false = silent-set again H n (plain.member p i)

  silent-turn : (b : Bool) (code : Plains → Plains) → Silent again H code → Silent again H (in_turn b code)
  silent-turn true code p = silent-loop again H (code (more leave nothing)) nothing
  silent-turn false code p = p

  silent-repeated : (i j : ℕ) (code : ℕ → Plains → Plains) → ((i : ℕ) → Silent again H (code i)) → Silent again H (repeated i j code)
  silent-repeated i zero code p = silent-none again H
  silent-repeated i (suc j) code p = silent-then again H (code i) (repeated (suc i) j code) (p i) (silent-repeated (suc i) j code p)

  silent-if : (b : Bool) (a : plain.Action) → Silent again H (λ rest. if b then more (act a) rest else rest)
  silent-if true a = silent-act again H a
  silent-if false a = silent-none again H

  abbrev item_code : Bool → Core → Destination → ℕ → Register → ℕ → Plains → Plains
  item_code tick e d i n k = in_turn tick (λ rest. part_in n d.register d.type i (started P.classes (part_type P.classes d.type i) e n k rest))

  silent-item : (e : Core) → ((t : SourceType) (n : Register) (k : ℕ) → Silent again H (started P.classes t e n k)) → (tick : Bool) (d : Destination) (i : ℕ) (n : Register) (k : ℕ)
      → Silent again H (item_code tick e d i n k)
  silent-item e p tick d i n k =
      silent-turn tick (λ rest. part_in n d.register d.type i (started P.classes (part_type P.classes d.type i) e n k rest))
      (silent-then again H (part_in n d.register d.type i) (started P.classes (part_type P.classes d.type i) e n k) (silent-part n d.register d.type i) (p (part_type P.classes d.type i) n k))

  silent-list-of : (es : Cores) (last : Core) → ((x : Full) (d : Destination) (i : ℕ) (n : Register) (k : ℕ) → Silent again H (elements P.classes x es d i n k))
      → ((t : SourceType) (n : Register) (k : ℕ) → Silent again H (started P.classes t last n k)) → (t : SourceType) (n : Register) (k : ℕ) → Silent again H (started P.classes t (core.list es last) n k)
  silent-list-of es last p q t n k =
      let x : Full = record { first = k; base = suc n } in
      let d : Destination = record { register = n; type = t } in
      let m : Register = suc n + width (core.list es last) in
      let l : ℕ = k + width_all es in
      let tick : Bool = is_array t && costs_tick last P.classes (part_type P.classes t 0) in
      let left : Plains → Plains = repeated (count es) (parts_count P.classes t - count es) (λ i. item_code tick last d i m l) in
      silent-then again H (begun P.classes d) (λ rest. elements P.classes x es d 0 m k (left (built P.classes d rest))) (silent-if (is_class t) (plain.begin_list n))
      (silent-then again H (elements P.classes x es d 0 m k) (λ rest. left (built P.classes d rest)) (p x d 0 m k)
      (silent-then again H left (built P.classes d) (silent-repeated (count es) (parts_count P.classes t - count es) (λ i. item_code tick last d i m l) (λ i. silent-item last q tick d i m l))
      (silent-if (is_class t) (plain.end_list n))))

  mutual
    silent-list : (u : SourceType) (e : Core) → is_list u e ≡ true → (t : SourceType) (n : Register) (k : ℕ) → Silent again H (started P.classes t e n k)
    silent-list u (core.list es last) ok t n k =
        let v : SourceType = element (unqualified u) in
        let parts = both (are_elements v es) (is_filling last) (both (is_row u) (are_elements v es && is_filling last) ok).1 in
        silent-list-of es last (λ x d i n k. silent-elements v es parts.0 x d i n k)
        (λ t n k. silent-initial again H P t last (filling-initial last parts.1) n k) t n k
    silent-list u e ok t n k = never ok

    silent-elements : (u : SourceType) (es : Cores) → are_elements u es ≡ true → (x : Full) (d : Destination) (i : ℕ) (n : Register) (k : ℕ) → Silent again H (elements P.classes x es d i n k)
    silent-elements u none ok x d i n k = silent-none again H
    silent-elements u (core.more e es) ok x d i n k =
        let parts = both (is_element u e) (are_elements u es) ok in
        let tick : Bool = is_array d.type && costs_tick e P.classes (part_type P.classes d.type i) in
        silent-then again H (item_code tick e d i n k) (elements P.classes x es d (suc i) n (k + width e))
        (silent-item e (λ t n k. or-else (is_initial e) (is_list u e) parts.0 (λ initial. silent-initial again H P t e initial n k) (λ is. silent-list u e is t n k)) tick d i n k)
        (silent-elements u es parts.1 x d (suc i) n (k + width e))

  pub silent-element : (u : SourceType) (e : Core) → is_element u e ≡ true → (t : SourceType) (n : Register) (k : ℕ) → Silent again H (started P.classes t e n k)
  silent-element u e ok t n k = or-else (is_initial e) (is_list u e) ok (λ initial. silent-initial again H P t e initial n k) (λ is. silent-list u e is t n k)

module _ (again : calling.Again) (again' : running.Again) (P : Program) (bodies : Bodies again again' P)
    (chains : (name : Name) (f : Function) → function_named P name ≡ Some f → is_chain f.type ≡ true) (classless : P.classes ≡ [])
    (A B : Type 0) (S : A → State → B → State → Type 0) where
  abbrev pub Initials : Register → ℕ → Registers → Frame → Frame → Plains → (Unit {0} → Act A) → (Flow → Act B) → Type 0
  Initials n k h e f rest c K =
      (t : State) (h1 : Registers) (g : Frame) (w : World) → t.frame ≡ e → Kept k f g → ((j : ℕ) → j < suc n → h1 j ≡ h j)
      → Follows S (c tt t w) (runs_on again' (H again again' P) rest h1 K (with_frame g t) w)

  pub initial-steps : (u : SourceType) (e : Core) → is_initial e ≡ true → (n : Register) (k : ℕ) (q : Place) (rest : Plains) (h : Registers) (s : State) (f : Frame) (w : World)
      (c : Unit {0} → Act A) (K : Flow → Act B) → h n ≡ Some (At q) → Ready k s.frame f → k + width e ≤ f.count → Initials n k h s.frame f rest c K
      → Follows S (and_then (settled_full again P q e s w) (on c)) (runs_on again' (H again again' P) (started P.classes u e n k rest) h K (with_frame f s) w)
  initial-steps u e ok n k q rest h s f w c K at ready room next =
      or-else (is_filling e) (is_start e) ok
      (λ fills. filled-steps again again' P u e fills n k q h rest c K s f w at (λ t same. next t h f w same (kept-all k f) (λ j lt. refl)))
      (λ starts. or-else (is_nothing e) (is_value e) starts
      (λ blank. subst (λ e. Follows S (and_then (settled_full again P q e s w) (on c)) (runs_on again' (H again again' P) (started P.classes u e n k rest) h K (with_frame f s) w)) (sym (nothing-is e blank))
      (next s h f w refl (kept-all k f) (λ j lt. refl)))
      (λ is.
      settled-steps again again' P bodies chains classless A B S e is u n k q rest h s f w c K at ready room next))

-- it has run on both sides
record Ran_on (s : State) (f : Frame) (n : Register) (k : ℕ) (h : Registers) (u : Unit {0}) (t : State) (flow : Flow) (z : State) : Type 0 where
  registers : Registers
  frame : Frame
  falls : flow ≡ Falls registers
  after : z ≡ with_frame frame t
  same : t.frame ≡ s.frame
  kept : Kept k f frame
  below : (j : ℕ) → j < suc n → registers j ≡ h j

module _ (again : calling.Again) (again' : running.Again) (P : Program) (bodies : Bodies again again' P)
    (chains : (name : Name) (f : Function) → function_named P name ≡ Some f → is_chain f.type ≡ true) (classless : P.classes ≡ []) (rests : Rests again P)
    (A B : Type 0) (S : A → State → B → State → Type 0) where
  abbrev pub Hp : Program
  Hp = H again again' P

  lasting-now : (s : State) → s.frame.temporaries ≡ [] → Lasting s.next s.object s.frame.scope s
  lasting-now s empty = record {
    next = omega arith;
    objects = λ o lt. record { type = refl; life = refl; gone = refl };
    temporaries = subst (Newer s.next) (sym empty) tt;
    scope = record { newer = []; parts = refl; new = tt };
  }

  intact-behind : (T : SourceType) (e : Core) → is_initial e ≡ true → (q : Place) (s : State) (w : World) → s.frame.temporaries ≡ [] → Intact T q.object s
      → Gave (λ (u : Unit {0}) (t : State). Intact T q.object t) (settled_full again P q e s w)
  intact-behind T e ok q s w empty i =
      gave-as (λ (u : Unit {0}) (t : State). Lasting s.next s.object s.frame.scope t) (λ (u : Unit {0}) (t : State). Intact T q.object t) (settled_full again P q e s w)
      (Keeps.by (settled-keeps again P classless rests s.next s.object s.frame.scope e q (initial-keeps again P classless rests s.next s.object s.frame.scope e ok q)) s w (lasting-now s empty))
      (λ u t l. still-intact T q.object s t s.frame.scope i l)

  -- what comes behind an initialiser that leaves the object standing
  abbrev pub Stays : SourceType → ℕ → Register → ℕ → Registers → Frame → Frame → Plains → (Unit {0} → Act A) → (Flow → Act B) → Type 0
  Stays T o n k h e f rest c K =
      (t : State) (h1 : Registers) (g : Frame) (w : World) → t.frame ≡ e → Kept k f g → ((j : ℕ) → j < n → h1 j ≡ h j) → Intact T o t
      → Follows S (c tt t w) (runs_on again' Hp rest h1 K (with_frame g t) w)

  pub alone-steps : (T u : SourceType) (e : Core) → is_initial e ≡ true → (n : Register) (k : ℕ) (q : Place) (rest : Plains) (h : Registers) (s : State) (f : Frame) (w : World)
      (c : Unit {0} → Act A) (K : Flow → Act B) → h n ≡ Some (At q) → Ready k s.frame f → k + width e ≤ f.count → s.frame.temporaries ≡ [] → Intact T q.object s
      → Stays T q.object n k h s.frame f rest c K
      → Follows S (and_then (settled_full again P q e s w) (on c)) (runs_on again' Hp (started P.classes u e n k rest) h K (with_frame f s) w)
  alone-steps T u e ok n k q rest h s f w c K at ready room empty i next =
      let x : Ran (Did (Unit {0})) = settled_full again P q e s w in
      let y : Ran (Did Flow) = all again' Hp (started P.classes u e n k nothing) h (with_frame f s) w in
      let goes : Flow → Act B = λ flow. falling (λ g. all again' Hp rest g) flow >>= K in
      let R : Unit {0} → State → Flow → State → Type 0 = Ran_on s f n k h in
      let two : Follows R x y =
      subst (λ z. Follows R z y) (alone x)
      (subst (λ z. Follows R (and_then x (on gives)) z) (alone y)
      (initial-steps again again' P bodies chains classless (Unit {0}) Flow R u e ok n k q nothing h s f w gives gives at ready room (λ t h1 g w1 same kept below.
      record { by = record { value = Falls h1; after = with_frame g t; run = refl; related = record { registers = h1; frame = g; falls = refl; after = refl; same = same; kept = kept; below = below } } }))) in
      let both_runs : Follows S (and_then x (on c)) (and_then y (on goes)) =
      follows-then x y c goes (known (λ (v : Unit {0}) (t : State). Intact T q.object t) x y (intact-behind T e ok q s w empty i) two) (λ v t flow z w1 r.
      subst (λ (flow : Flow). Follows S (c v t w1) (goes flow z w1)) (sym (Ran_on.falls r.0))
      (subst (λ (z : State). Follows S (c v t w1) (goes (Falls (Ran_on.registers r.0)) z w1)) (sym (Ran_on.after r.0))
      (next t (Ran_on.registers r.0) (Ran_on.frame r.0) w1 (Ran_on.same r.0) (Ran_on.kept r.0) (λ j lt. Ran_on.below r.0 j (omega arith)) r.1))) in
      subst (λ z. Follows S (and_then x (on c)) (and_then z (on K)))
      (sym (ap (λ ss. all again' Hp ss h (with_frame f s) w) (Silent.ahead (silent-initial again' Hp P u e ok n k) rest) ∙ all-append again' Hp (started P.classes u e n k nothing) rest h (with_frame f s) w))
      (push y (falling (λ g. all again' Hp rest g)) K _ both_runs)

  -- ---- the place of an element comes into a register

  pub part-steps : (n r : Register) (T t : SourceType) (i : ℕ) (p : Place) (rest : Plains) (h : Registers) (K : Flow → Act B) (x : Ran (Did A)) (s : State) (f : Frame) (w : World)
      → is_array t ≡ true → h r ≡ Some (At p) → Intact T p.object s → Lies P.classes T t p → nat_lt i (bound t) ≡ true
      → ((h1 : Registers) → h1 n ≡ Some (At (inner (item i) p)) → ((j : ℕ) → j < n → h1 j ≡ h j) → Follows S x (runs_on again' Hp rest h1 K (with_frame f s) w))
      → Follows S x (runs_on again' Hp (part_in n r t i rest) h K (with_frame f s) w)
  part-steps n r T t i p rest h K x s f w arr at stands lies lt next =
      let u : State = with_frame f s in
      let v0 : Value = At (inner (item 0) p) in
      let v1 : Value = Number (pos i) in
      let v2 : Value = At (inner (item i) p) in
      let h1 : Registers = keep h n v0 in
      let h2 : Registers = keep h1 (suc n) v1 in
      let h3 : Registers = keep h2 n v2 in
      let indexing : Plains = more (set n (plain.index n (suc n))) rest in
      let numbered : Plains = more (set (suc n) (plain.number (pos i))) indexing in
      let typed : type_at P.classes (s.object p.object).type p.route ≡ t = ap (λ T. type_at P.classes T p.route) stands.type ∙ lies.type in
      let array_there : is_array (place_type P.classes u p) ≡ true = ap is_array typed ∙ arr in
      let inside : is_inside P.classes (s.object p.object).type p.route ≡ true = ap (λ T. is_inside P.classes T p.route) stands.type ∙ lies.inside in
      let within : nat_le i (bound (type_at P.classes (s.object p.object).type p.route)) ≡ true = ap (λ t. nat_le i (bound t)) typed ∙ no-more i (bound t) lt in
      let at-n : h2 n ≡ Some v0 = keep-other (suc n) n h1 v1 (λ z. omega arith) ∙ keep-same n h v0 in
      subst (λ b. Follows S x (runs_on again' Hp (if b then more (set n (plain.decay r)) numbered else more (set n (plain.member r i)) rest) h K u w)) (sym arr)
      (set-steps again' Hp n (plain.decay r) numbered h K x u w
      (at-one again' Hp (λ o. (some_or o malformed >>= used) >>= decayed P.classes) (h r) (At p) at (λ v. λ t w. runs_on again' Hp numbered (keep h n v) K t w) x u w
      (subst (λ z. Follows S x (and_then z (on (λ v. λ t w. runs_on again' Hp numbered (keep h n v) K t w)))) (sym (decay-there P.classes p u w array_there inside))
      (set-steps again' Hp (suc n) (plain.number (pos i)) indexing h1 K x u w
      (set-steps again' Hp n (plain.index n (suc n)) rest h2 K x u w
      (at-two again' Hp (λ o q. (some_or o malformed >>= used) >>= (λ a. (some_or q malformed >>= used) >>= (λ b. indexed P.classes a b))) (h2 n) (h2 (suc n)) v0 v1 at-n (keep-same (suc n) h1 v1)
      (λ v. λ t w. runs_on again' Hp rest (keep h2 n v) K t w) x u w
      (subst (λ z. Follows S x (and_then z (on (λ v. λ t w. runs_on again' Hp rest (keep h2 n v) K t w))))
      (sym (move-there P.classes p i u w stands.stands within))
      (next h3 (keep-same n h2 v2)
      (λ j less. keep-other n j h2 v2 (λ z. omega arith) ∙ keep-other (suc n) j h1 v1 (λ z. omega arith) ∙ keep-other n j h v0 (λ z. omega arith))))))))))
    where
      no-more : (i n : ℕ) → nat_lt i n ≡ true → nat_le i n ≡ true
      no-more i n lt = grind (arith, nat_tests)
