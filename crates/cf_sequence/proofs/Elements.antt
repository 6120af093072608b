-- The elements of a list one after the other, and lists in lists (8.4.1).
use Rattle.std.proofs.Common.{◌≡◌, ℕ, zero, suc, ◌+◌, ◌-◌, ◌≤◌, ◌<◌, Bool, true, false, ◌&&◌, ◌||◌, nat_le, nat_lt, if◌then◌else◌, List, [], length, refl, sym, ◌∙◌, ap, subst, arith}
use Rattle.std.specs.Prelude.{Some, slice_get}
use Rattle.std.proofs.lemmas.Bool.Decides.{nat_tests}
use Rattle.cf_base.proofs.Tests.{both}
use Rattle.cf_base.specs.World.{World, and_then}
use Rattle.cf_core.specs.Types.{Name, SourceType, plain as unqualified, element, is_array, is_class}
use Rattle.cf_core.specs.Classes.{Class, fields_of, type_in}
use Rattle.cf_core.specs.Core as core
use Rattle.cf_core.specs.Core.{Core, Cores, Function, none, item}
use Rattle.cf_core.specs.Nodes.{nodes, nodes_all}
use Rattle.cf_core.specs.Places.{Place, inner, bound, type_at, class_of}
use Rattle.cf_core.specs.Store.{Value, Built, At}
use Rattle.cf_core.specs.Run.{State, Frame, Act, ◌>>=◌, ◌>>◌, gives, done, valid, when, for_each, with_frame}
use Rattle.cf_core.specs.Access.{place_type}
use Rattle.cf_core.specs.Objects.{settle, settled as core_settled, element_part, element_count, begin_list, end_list, count, costs_tick, one_tick}
use Rattle.cf_core.specs.Calls as calling
use Rattle.cf_core.specs.Calls.{Program, function_named, full_expression}
use Rattle.cf_core.specs.Expressions as meaning
use Rattle.cf_plain.specs.Plain.{Register, Plains, act, more}
use Rattle.cf_plain.specs.Plain as plain
use Rattle.cf_plain.specs.Acts.{Registers}
use Rattle.cf_plain.specs.Running as running
use Rattle.cf_plain.specs.Running.{Flow}
use Rattle.cf_sequence.specs.Follows.{Follows}
use Rattle.cf_sequence.specs.Built.{is_row, is_initial, is_list, is_element, are_elements, is_chain, is_filling}
use Rattle.cf_sequence.specs.Made.{width, width_all}
use Rattle.cf_sequence.specs.Expressions.{Full, Destination, destination, value, elements, repeated, in_turn, part_in, part_type, parts_count}
use Rattle.cf_sequence.specs.Statements.{started}
use Rattle.cf_sequence.proofs.Following.{on, pull}
use Rattle.cf_sequence.proofs.Calling.{Bodies, never, or-else}
use Rattle.cf_sequence.proofs.Kept.{Kept, kept-all, kept-then, kept-count, Ready, ready-more, ready-kept, added-two}
use Rattle.cf_sequence.proofs.PlainSteps.{runs_on}
use Rattle.cf_sequence.proofs.Operands.{H}
use Rattle.cf_sequence.proofs.Filling.{filling-element}
use Rattle.cf_sequence.proofs.Fulls.{closing, closed}
use Rattle.cf_sequence.proofs.Standing.{settled_full}
use Rattle.cf_sequence.proofs.LastingCode.{Rests}
use Rattle.cf_sequence.proofs.Lists.{row-array, array-part, array-count, array-no-class, element-costs, all-width, Intact, Lies, element-lies, Stays, alone-steps, part-steps}

-- the type and the number of the parts of an array
pub array-element : (cs : List Class) (t : SourceType) → is_array t ≡ true → (i : ℕ) → part_type cs t i ≡ element (unqualified t)
array-element cs t arr i = ap (λ b. if b then element (unqualified t) else type_in (slice_get (fields_of cs (class_of t)) i)) arr

pub array-parts : (cs : List Class) (t : SourceType) → is_array t ≡ true → parts_count cs t ≡ bound t
array-parts cs t arr = ap (λ b. if b then bound t else length (fields_of cs (class_of t))) arr

pub no-tick : (a b : Bool) → b ≡ false → a && b ≡ false
no-tick true b e = e
no-tick false b e = refl

below : (i n : ℕ) → suc i ≤ n → nat_lt i n ≡ true
below i n le = grind (arith, nat_tests)

within : (m n : ℕ) → nat_le m n ≡ true → m ≤ n
within m n le = grind (arith, nat_tests)

intact-framed : (T : SourceType) (o : ℕ) (s : State) (g : Frame) → Intact T o s → Intact T o (with_frame g s)
intact-framed T o s g i = record { below = i.below; type = i.type; life = i.life; stands = i.stands }

ready-emptied : (k : ℕ) (e f : Frame) → Ready k e f → Ready k (record e { temporaries = [] }) f
ready-emptied k e f r = record {
  alike = record { function = r.alike.function; this = r.alike.this; result = r.alike.result; depth = r.alike.depth };
  count = r.count;
  wide = r.wide;
  locals = r.locals;
}

-- behind a part that adds locals
ready-later : (k l : ℕ) (e f g d : Frame) → Ready k e f → Kept k f g → d ≡ e → k ≤ l → l ≤ f.count → Ready l d g
ready-later k l e f g d ready kept same le room =
    subst (λ (y : Frame). Ready l y g) (sym same) (ready-more k l e g le (let c = kept-count k f g kept in omega arith) (ready-kept k e f g ready kept))

module _ (again : calling.Again) (again' : running.Again) (P : Program) (bodies : Bodies again again' P)
    (chains : (name : Name) (f : Function) → function_named P name ≡ Some f → is_chain f.type ≡ true) (classless : P.classes ≡ []) (rests : Rests again P)
    (A B : Type 0) (S : A → State → B → State → Type 0) where
  abbrev G : Program
  G = H again again' P

  abbrev Stands : SourceType → ℕ → Register → ℕ → Registers → Frame → Frame → Plains → (Unit {0} → Act A) → (Flow → Act B) → Type 0
  Stands = Stays again again' P bodies chains classless rests A B S

  -- one element in the core
  abbrev core_item : Bool → Core → Place → Act (Unit {0})
  core_item tick e q = one_tick tick >> full_expression again P (core_settled P.classes q (meaning.value again P e (Some q)))

  -- those that are left out
  abbrev core_left : SourceType → Core → Place → ℕ → ℕ → Act (Unit {0})
  core_left t last p i j = for_each i j (λ i. core_item (is_array t && costs_tick last P.classes (element (unqualified t))) last (inner (element_part t i) p))

  -- a list in the core, where it is known whether the type is an array or a class
  abbrev core_list : Cores → Core → Place → SourceType → Bool → Bool → Act Value
  core_list es last p t is_row is_made =
      valid ((is_row || is_made) && nat_le (count es) (element_count P.classes t))
      >> (when is_made (begin_list p) done
      >> (meaning.elements again P es 0 p t
      >> (core_left t last p (count es) (element_count P.classes t - count es) >> (when is_made (end_list p) done >> gives Built))))

  abbrev plain_item : Bool → SourceType → Core → Register → Register → SourceType → ℕ → ℕ → Plains → Plains
  plain_item tick v e n r t i k rest = in_turn tick (λ rest. part_in n r t i (started P.classes v e n k rest)) rest

  abbrev plain_left : SourceType → Core → Register → Register → ℕ → ℕ → ℕ → Plains → Plains
  plain_left t last n r k i j rest =
      repeated i j (λ i rest. plain_item (is_array t && costs_tick last P.classes (part_type P.classes t 0)) (part_type P.classes t i) last n r t i k rest) rest

  abbrev plain_list : Cores → Core → Full → Register → Register → SourceType → ℕ → Bool → ℕ → Plains → Plains
  plain_list es last x n r t k is_made m rest =
      let d : Destination = record { register = r; type = t } in
      let inside : Plains = elements P.classes x es d 0 n k (plain_left t last n r (k + width_all es) (count es) (m - count es) (if is_made then more (act (plain.end_list r)) rest else rest)) in
      if is_made then more (act (plain.begin_list r)) inside else inside

  -- ---- what the code of an element does, of a list, and of the elements of one

  abbrev Item : SourceType → Core → Type 0
  Item t e =
      (T : SourceType) (i : ℕ) → nat_lt i (bound t) ≡ true → (n r : Register) (k : ℕ) (p : Place) (rest : Plains) (h : Registers) (s : State) (f : Frame) (w : World) (c : Unit {0} → Act A) (K : Flow → Act B)
      → h r ≡ Some (At p) → r < n → Ready k s.frame f → k + width e ≤ f.count → s.frame.temporaries ≡ [] → Intact T p.object s → Lies P.classes T t p
      → Stands T p.object n k h s.frame f rest c K
      → (a b : Bool) (v : SourceType) → a ≡ false → b ≡ false → v ≡ element (unqualified t)
      → Follows S (and_then (core_item a e (inner (item i) p) s w) (on c)) (runs_on again' G (plain_item b v e n r t i k rest) h K (with_frame f s) w)

  abbrev pub Nested : SourceType → Core → Type 0
  Nested u e =
      (T : SourceType) (n : Register) (k : ℕ) (q : Place) (rest : Plains) (h : Registers) (s : State) (f : Frame) (w : World) (c : Unit {0} → Act A) (K : Flow → Act B)
      → h n ≡ Some (At q) → Ready k s.frame f → k + width e ≤ f.count → Intact T q.object s → Lies P.classes T u q
      → Stands T q.object n k h s.frame f rest c K
      → Follows S (and_then (settled_full again P q e s w) (on c)) (runs_on again' G (started P.classes u e n k rest) h K (with_frame f s) w)

  abbrev Row : SourceType → Cores → Type 0
  Row t es =
      (T : SourceType) (i : ℕ) → i + count es ≤ bound t → (x : Full) (n r : Register) (k : ℕ) (p : Place) (rest : Plains) (h : Registers) (s : State) (f : Frame) (w : World) (c : Unit {0} → Act A) (K : Flow → Act B)
      → h r ≡ Some (At p) → r < n → Ready k s.frame f → k + width_all es ≤ f.count → s.frame.temporaries ≡ [] → Intact T p.object s → Lies P.classes T t p
      → Stands T p.object n k h s.frame f rest c K
      → Follows S (and_then (meaning.elements again P es i p t s w) (on c)) (runs_on again' G (elements P.classes x es (record { register = r; type = t }) i n k rest) h K (with_frame f s) w)

  item-of : (t : SourceType) (e : Core) → is_array t ≡ true → is_element (element (unqualified t)) e ≡ true → (is_list (element (unqualified t)) e ≡ true → Nested (element (unqualified t)) e) → Item t e
  item-of t e arr ok nested T i lt n r k p rest h s f w c K at less ready room empty stands lies next a b v no-a no-b same =
      let u : SourceType = element (unqualified t) in
      let q : Place = inner (item i) p in
      subst (λ a. Follows S (and_then (core_item a e q s w) (on c)) (runs_on again' G (plain_item b v e n r t i k rest) h K (with_frame f s) w)) (sym no-a)
      (subst (λ b. Follows S (and_then (settled_full again P q e s w) (on c)) (runs_on again' G (plain_item b v e n r t i k rest) h K (with_frame f s) w)) (sym no-b)
      (subst (λ v. Follows S (and_then (settled_full again P q e s w) (on c)) (runs_on again' G (part_in n r t i (started P.classes v e n k rest)) h K (with_frame f s) w)) (sym same)
      (part-steps again again' P bodies chains classless rests A B S n r T t i p (started P.classes u e n k rest) h K _ s f w arr at stands lies lt (λ h1 at-n below1.
      or-else (is_initial e) (is_list u e) ok
      (λ initial.
      alone-steps again again' P bodies chains classless rests A B S T u e initial n k q rest h1 s f w c K at-n ready room empty stands
      (λ t1 h2 g w1 same kept below2 stands1. next t1 h2 g w1 same kept (λ j lt. below2 j lt ∙ below1 j lt) stands1))
      (λ is.
      nested is T n k q rest h1 s f w c K at-n ready room stands (element-lies P.classes T t p arr lies i lt)
      (λ t1 h2 g w1 same kept below2 stands1. next t1 h2 g w1 same kept (λ j lt. below2 j lt ∙ below1 j lt) stands1))))))

  row-none : (t : SourceType) → Row t none
  row-none t T i le x n r k p rest h s f w c K at less ready room empty stands lies next = next s h f w refl (kept-all k f) (λ j lt. refl) stands

  row-more : (t : SourceType) (e : Core) (es : Cores) → is_array t ≡ true → is_element (element (unqualified t)) e ≡ true → Item t e → Row t es → Row t (core.more e es)
  row-more t e es arr ok one row T i le x n r k p rest h s f w c K at less ready room empty stands lies next =
      let u : SourceType = element (unqualified t) in
      let l : ℕ = k + width e in
      let others : Plains = elements P.classes x es (record { register = r; type = t }) (suc i) n l rest in
      let tick : Bool = is_array t && costs_tick e P.classes u in
      let behind : Unit {0} → Act (Unit {0}) = λ v. meaning.elements again P es (suc i) p t in
      let costs : (v : SourceType) → is_array t && costs_tick e P.classes v ≡ false = λ v. no-tick (is_array t) (costs_tick e P.classes v) (element-costs u e ok P.classes v) in
      pull (core_item tick e (inner (element_part t i) p) s w) behind c _
      (subst (λ part. Follows S (and_then (core_item tick e (inner part p) s w) (on (λ v. behind v >>= c)))
      (runs_on again' G (plain_item (is_array t && costs_tick e P.classes (part_type P.classes t i)) (part_type P.classes t i) e n r t i k others) h K (with_frame f s) w)) (sym (array-part t arr i))
      (one T i (below i (bound t) (omega arith)) n r k p others h s f w (λ v. behind v >>= c) K at less ready (omega arith) empty stands lies
      (λ t1 h1 g w1 same1 kept1 below1 stands1.
      row T (suc i) (omega arith) x n r l p rest h1 t1 g w1 c K (below1 r less ∙ at) less
      (ready-later k l s.frame f g t1.frame ready kept1 same1 (omega arith) (omega arith)) (let c1 = kept-count k f g kept1 in omega arith) (ap (λ (y : Frame). y.temporaries) same1 ∙ empty) stands1 lies
      (λ t2 h2 g2 w2 same2 kept2 below2 stands2.
      next t2 h2 g2 w2 (same2 ∙ same1) (kept-then k l f g g2 (omega arith) kept1 kept2) (λ j lt. below2 j lt ∙ below1 j lt) stands2))
      tick (is_array t && costs_tick e P.classes (part_type P.classes t i)) (part_type P.classes t i) (costs u) (costs (part_type P.classes t i)) (array-element P.classes t arr i)))

  -- what is left out, one after the other
  left-steps : (t : SourceType) (last : Core) → is_array t ≡ true → is_element (element (unqualified t)) last ≡ true → Item t last → (T : SourceType) (j i : ℕ) → i + j ≤ bound t
      → (n r : Register) (k : ℕ) (p : Place) (rest : Plains) (h : Registers) (s : State) (f : Frame) (w : World) (c : Unit {0} → Act A) (K : Flow → Act B)
      → h r ≡ Some (At p) → r < n → Ready k s.frame f → k + width last ≤ f.count → s.frame.temporaries ≡ [] → Intact T p.object s → Lies P.classes T t p
      → Stands T p.object n k h s.frame f rest c K
      → Follows S (and_then (core_left t last p i j s w) (on c)) (runs_on again' G (plain_left t last n r k i j rest) h K (with_frame f s) w)
  left-steps t last arr ok one T zero i le n r k p rest h s f w c K at less ready room empty stands lies next = next s h f w refl (kept-all k f) (λ j lt. refl) stands
  left-steps t last arr ok one T (suc j) i le n r k p rest h s f w c K at less ready room empty stands lies next =
      let u : SourceType = element (unqualified t) in
      let others : Plains = plain_left t last n r k (suc i) j rest in
      let tick : Bool = is_array t && costs_tick last P.classes u in
      let first : Bool = is_array t && costs_tick last P.classes (part_type P.classes t 0) in
      let behind : Unit {0} → Act (Unit {0}) = λ v. core_left t last p (suc i) j in
      let costs : (v : SourceType) → is_array t && costs_tick last P.classes v ≡ false = λ v. no-tick (is_array t) (costs_tick last P.classes v) (element-costs u last ok P.classes v) in
      pull (core_item tick last (inner (element_part t i) p) s w) behind c _
      (subst (λ part. Follows S (and_then (core_item tick last (inner part p) s w) (on (λ v. behind v >>= c)))
      (runs_on again' G (plain_item first (part_type P.classes t i) last n r t i k others) h K (with_frame f s) w)) (sym (array-part t arr i))
      (one T i (below i (bound t) (omega arith)) n r k p others h s f w (λ v. behind v >>= c) K at less ready room empty stands lies
      (λ t1 h1 g w1 same1 kept1 below1 stands1.
      left-steps t last arr ok one T j (suc i) (omega arith) n r k p rest h1 t1 g w1 c K (below1 r less ∙ at) less
      (ready-later k k s.frame f g t1.frame ready kept1 same1 (omega arith) (omega arith)) (let c1 = kept-count k f g kept1 in omega arith) (ap (λ (y : Frame). y.temporaries) same1 ∙ empty) stands1 lies
      (λ t2 h2 g2 w2 same2 kept2 below2 stands2.
      next t2 h2 g2 w2 (same2 ∙ same1) (kept-then k k f g g2 (omega arith) kept1 kept2) (λ j lt. below2 j lt ∙ below1 j lt) stands2))
      tick first (part_type P.classes t i) (costs u) (costs (part_type P.classes t 0)) (array-element P.classes t arr i)))

  -- once it is known that the elements are no more than the array has
  counted : (t : SourceType) (es : Cores) (last : Core) → is_array t ≡ true → is_element (element (unqualified t)) last ≡ true → Row t es → Item t last
      → (T : SourceType) (x : Full) (n r : Register) (k : ℕ) (p : Place) (rest : Plains) (h : Registers) (s : State) (f : Frame) (w : World) (c : Value → Act A) (K : Flow → Act B)
      → h r ≡ Some (At p) → r < n → Ready k s.frame f → k + width (core.list es last) ≤ f.count → s.frame.temporaries ≡ [] → Intact T p.object s → Lies P.classes T t p
      → Stands T p.object n k h s.frame f rest (λ u. c Built) K → (m : ℕ) → m ≡ bound t → (b : Bool) → nat_le (count es) m ≡ b
      → Follows S (and_then ((valid b >> (meaning.elements again P es 0 p t >> (core_left t last p (count es) (m - count es) >> (done >> gives Built)))) s w) (on c))
      (runs_on again' G (elements P.classes x es (record { register = r; type = t }) 0 n k (plain_left t last n r (k + width_all es) (count es) (bound t - count es) rest)) h K (with_frame f s) w)
  counted t es last arr ok row one T x n r k p rest h s f w c K at less ready room empty stands lies next m many false le = record { by = tt }
  counted t es last arr ok row one T x n r k p rest h s f w c K at less ready room empty stands lies next m many true le =
      let l : ℕ = k + width_all es in
      let two = added-two (nodes_all es) (nodes last) in
      let wide = all-width es in
      let few : count es ≤ m = within (count es) m le in
      let ends : Unit {0} → Act Value = λ u. done >> gives Built in
      let left : Unit {0} → Act Value = λ u. core_left t last p (count es) (m - count es) >> (done >> gives Built) in
      pull (meaning.elements again P es 0 p t s w) left c _
      (row T 0 (omega arith) x n r k p (plain_left t last n r l (count es) (bound t - count es) rest) h s f w (λ u. left u >>= c) K at less ready (omega arith) empty stands lies
      (λ t1 h1 g1 w1 same1 kept1 below1 stands1.
      pull (core_left t last p (count es) (m - count es) t1 w1) ends c _
      (subst (λ (j : ℕ). Follows S (and_then (core_left t last p (count es) j t1 w1) (on (λ u. ends u >>= c)))
      (runs_on again' G (plain_left t last n r l (count es) (bound t - count es) rest) h1 K (with_frame g1 t1) w1)) (sym (ap (λ m. m - count es) many))
      (left-steps t last arr ok one T (bound t - count es) (count es) (omega arith) n r l p rest h1 t1 g1 w1 (λ u. ends u >>= c) K (below1 r less ∙ at) less
      (ready-later k l s.frame f g1 t1.frame ready kept1 same1 (omega arith) (omega arith)) (let c1 = kept-count k f g1 kept1 in omega arith) (ap (λ (y : Frame). y.temporaries) same1 ∙ empty) stands1 lies
      (λ t2 h2 g2 w2 same2 kept2 below2 stands2.
      next t2 h2 g2 w2 (same2 ∙ same1) (kept-then k l f g1 g2 (omega arith) kept1 kept2) (λ j lt. below2 j lt ∙ below1 j lt) stands2)))))

  -- a list at its place
  list-steps : (t : SourceType) (es : Cores) (last : Core) → is_array t ≡ true → is_element (element (unqualified t)) last ≡ true → Row t es → Item t last
      → (T : SourceType) (x : Full) (n r : Register) (k : ℕ) (p : Place) (rest : Plains) (h : Registers) (s : State) (f : Frame) (w : World) (c : Value → Act A) (K : Flow → Act B)
      → h r ≡ Some (At p) → r < n → Ready k s.frame f → k + width (core.list es last) ≤ f.count → s.frame.temporaries ≡ [] → Intact T p.object s → Lies P.classes T t p
      → Stands T p.object n k h s.frame f rest (λ u. c Built) K
      → Follows S (and_then (meaning.value again P (core.list es last) (Some p) s w) (on c)) (runs_on again' G (value P.classes x (core.list es last) (destination r t) n k rest) h K (with_frame f s) w)
  list-steps t es last arr ok row one T x n r k p rest h s f w c K at less ready room empty stands lies next =
      let typed : place_type P.classes s p ≡ t = ap (λ T. type_at P.classes T p.route) stands.type ∙ lies.type in
      let no_class = array-no-class t arr in
      let y : Bool → Bool → ℕ → Type 0 = λ is_row is_made m.
      Follows S (and_then (core_list es last p t is_row is_made s w) (on c)) (runs_on again' G (plain_list es last x n r t k is_made m rest) h K (with_frame f s) w) in
      subst (λ v. Follows S (and_then (core_list es last p v (is_array v) (is_class v) s w) (on c)) (runs_on again' G (plain_list es last x n r t k (is_class t) (parts_count P.classes t) rest) h K (with_frame f s) w)) (sym typed)
      (subst (λ b. y b (is_class t) (parts_count P.classes t)) (sym arr)
      (subst (λ b. y true b (parts_count P.classes t)) (sym no_class)
      (subst (y true false) (sym (array-parts P.classes t arr))
      (counted t es last arr ok row one T x n r k p rest h s f w c K at less ready room empty stands lies next (element_count P.classes t) (array-count P.classes t arr)
      (nat_le (count es) (element_count P.classes t)) refl))))

  -- as a full expression of its own
  nested-of : (t : SourceType) (es : Cores) (last : Core) → is_array t ≡ true → is_element (element (unqualified t)) last ≡ true → Row t es → Item t last → Nested t (core.list es last)
  nested-of t es last arr ok row one T n k q rest h s f w c K at ready room stands lies next =
      let e : Core = core.list es last in
      let e0 : Frame = record s.frame { temporaries = [] } in
      let s0 : State = with_frame e0 s in
      let m : Register = suc n + width e in
      let closes : Unit {0} → Act A = λ u. closing again P s.frame.temporaries u >>= c in
      pull (and_then (meaning.value again P e (Some q) s0 w) (on (settle P.classes q))) (closing again P s.frame.temporaries) c _
      (pull (meaning.value again P e (Some q) s0 w) (settle P.classes q) closes _
      (list-steps t es last arr ok row one T (record { first = k; base = suc n }) m n k q rest h s0 f w (λ v. settle P.classes q v >>= closes) K at (omega arith)
      (ready-emptied k s.frame f ready) room refl (intact-framed T q.object s e0 stands) lies (λ t1 h1 g w1 same kept below stands1.
      subst (λ x. Follows S (and_then x (on c)) (runs_on again' G rest h1 K (with_frame g t1) w1)) (sym (closed again P s.frame t1 w1 tt same))
      (next (with_frame s.frame t1) h1 g w1 refl kept (λ j lt. below j (omega arith)) (intact-framed T q.object t1 s.frame stands1)))))

  mutual
    -- a list as the initialiser of the place in a register
    pub nested-steps : (t : SourceType) (e : Core) → is_list t e ≡ true → Nested t e
    nested-steps t (core.list es last) ok =
        let u : SourceType = element (unqualified t) in
        let kinds = both (is_row t) (are_elements u es && is_filling last) ok in
        let arr = row-array t kinds.0 in
        let parts = both (are_elements u es) (is_filling last) kinds.1 in
        let fills = filling-element u last parts.1 in
        nested-of t es last arr fills (row-steps t arr es parts.0) (item-of t last arr fills (λ is. nested-steps u last is))
    nested-steps t e ok = never ok

    row-steps : (t : SourceType) → is_array t ≡ true → (es : Cores) → are_elements (element (unqualified t)) es ≡ true → Row t es
    row-steps t arr none ok = row-none t
    row-steps t arr (core.more e es) ok =
        let u : SourceType = element (unqualified t) in
        let parts = both (is_element u e) (are_elements u es) ok in
        row-more t e es arr parts.0 (item-of t e arr parts.0 (λ is. nested-steps u e is)) (row-steps t arr es parts.1)
