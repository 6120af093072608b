-- Lists as initialisers of local arrays: their plain statements are ready for lowering.
use Rattle.std.proofs.Common.{◌≡◌, ℕ, zero, suc, ◌+◌, ◌-◌, ◌≤◌, ◌<◌, Bool, true, false, ◌&&◌, ◌||◌, not, nat_le, nat_lt, if◌then◌else◌, List, length, refl, sym, ap, ◌∙◌, subst, arith}
use Rattle.std.specs.Prelude.{◌^◌, pos, Option, Some, None, slice_get}
use Rattle.std.proofs.lemmas.Bool.Decides.{nat_tests}
use Rattle.cf_base.specs.declared.kind.Kind.TheVariants.{Int, UInt}
use Rattle.cf_base.specs.Integers.{fits}
use Rattle.cf_base.proofs.Tests.{both, all_of}
use Rattle.cf_core.specs.Types.{SourceType, array, const, plain as unqualified, element, is_array}
use Rattle.cf_core.specs.Classes.{Class, fields_of, type_in}
use Rattle.cf_core.specs.Core as core
use Rattle.cf_core.specs.Core.{Core, Cores, none}
use Rattle.cf_core.specs.Nodes.{nodes, nodes_all}
use Rattle.cf_core.specs.Objects.{count, costs_tick}
use Rattle.cf_core.specs.Places.{bound, class_of}
use Rattle.cf_core.specs.Typing.{Scope}
use Rattle.cf_core.specs.Typed.{typing, typings, all_start, list_starts}
use Rattle.cf_core.specs.Valid.{Body}
use Rattle.cf_plain.specs.Plain.{Register, Action, Plain, Plains, act, set, nothing, more}
use Rattle.cf_plain.specs.Plain as plain
use Rattle.cf_plain_kept.specs.Kept as kept
use Rattle.cf_plain_kept.specs.Kept.{Kept, no_value, an_integer, a_place, an_object, Keeping, keep, given, moved_kept, kept_by, after}
use Rattle.cf_lower_kept.specs.Ready.{names_well_if, has_objects, is_object, is_code, of_place, decays_well}
use Rattle.cf_sequence.specs.Built.{is_filling, is_initial, is_row, is_list, is_element, are_elements}
use Rattle.cf_sequence.specs.Made.{added, width, width_all}
use Rattle.cf_sequence.specs.Expressions.{Full, Destination, elements, repeated, in_turn, part_in, part_type, parts_count}
use Rattle.cf_sequence.specs.Statements.{Inside, started}
use Rattle.cf_sequence.proofs.Calling.{never, or-else}
use Rattle.cf_sequence.proofs.Elements.{no-tick, array-parts}
use Rattle.cf_sequence.proofs.Filling.{fill, started-is, filling-adds, filling-element}
use Rattle.cf_sequence.proofs.Lists.{array-no-class, element-costs}
use Rattle.cf_sequence_kept.proofs.Lists.{Takes, object-takes, RunsAt, element-inits}
use Rattle.cf_sequence_kept.proofs.Values.{keep-at, keep-below}
use Rattle.cf_sequence_valid.proofs.Stands.{Stand, stand-left, stand-right}
use Rattle.cf_sequence_valid.proofs.Values as locals_of
use Rattle.cf_sequence_lowered.specs.Ready.{node_is_ready, row_is_ready, rows_are_ready}
use Rattle.cf_sequence_lowered.proofs.Each.{Each, each-left, each-right}
use Rattle.cf_sequence_lowered.proofs.ReadyInitials.{run-initial}
use Rattle.cf_sequence_lowered.proofs.ReadySteps.{run, Lucky, Good, GoodAll, Behind, same-state}

below-limit : (i n : ℕ) → suc i ≤ n → nat_le n 2147483648 ≡ true → nat_lt i 2147483648 ≡ true
below-limit i n lt le = grind (arith, nat_tests)

first-kind : (b c : Bool) → b ≡ true → b || c ≡ true
first-kind true c e = refl
first-kind false c e = never e

within-limit : (a b : ℕ) → nat_le a 2147483648 ≡ true → nat_le b 2147483648 ≡ true → nat_le (a + (b - a)) 2147483648 ≡ true
within-limit a b p q = grind (arith, nat_tests)

-- ---- arrays

row-array : (T : SourceType) → is_row T ≡ true → is_array T ≡ true
row-array (array t n) ok = refl
row-array (const (array t n)) ok = refl
row-array T ok = never ok

row-decays : (T : SourceType) → is_row T ≡ true → kept.decayed T ≡ Some (a_place (element (unqualified T)))
row-decays (array t n) ok = refl
row-decays (const (array t n)) ok = refl
row-decays T ok = never ok

each-starts : (scope : Scope) (t : SourceType) (n : ℕ) (es : Cores) (last : Core) → list_starts scope (typings scope es) (typing scope last) (array t n) ≡ true
    → all_start scope t (typings scope es) ≡ true
each-starts scope t n es last fit =
    let few = nat_le (length (typings scope es)) n in
    let all_there = all_start scope t (typings scope es) in
    (both few all_there (both (few && all_there) (nat_le n (length (typings scope es)) || (typing scope last).start t) fit).0).1

row-starts : (scope : Scope) (T : SourceType) → is_row T ≡ true → (es : Cores) (last : Core) → list_starts scope (typings scope es) (typing scope last) T ≡ true
    → all_start scope (element (unqualified T)) (typings scope es) ≡ true
row-starts scope (array t n) ok es last fit = each-starts scope t n es last fit
row-starts scope (const (array t n)) ok es last fit = each-starts scope t n es last fit
row-starts scope T ok es last fit = never ok

-- a register with an object or a place of this type, whose first values are to come
pub record Begun (T : SourceType) (o : Option Kept) : Type 0 where
  pub takes : Takes T o
  pub well : has_objects T && not (is_code T) ≡ true → decays_well o ≡ true

pub object-begun : (i : ℕ) (T : SourceType) (o : Option Kept) → o ≡ Some (an_object i T) → Begun T o
object-begun i T o e = record { takes = object-takes i T o e; well = λ ok. ap decays_well e ∙ ok }

place-begun : (T : SourceType) (o : Option Kept) → o ≡ Some (a_place T) → Begun T o
place-begun T o e =
    subst (Begun T) (sym e)
    (record { takes = record { first = λ x ok. ap (λ b. given b no_value) ok; fills = refl; decays = refl }; well = λ ok. (both (has_objects T) (not (is_code T)) ok).0 })

module _ (body : Body) (locals : List SourceType) (keeps : locals_of.Kept body.scope locals) where
  abbrev scope : Scope
  scope = body.scope

  abbrev R : SourceType
  R = body.result

  abbrev runs : Plains → Keeping → Option Keeping
  runs ss g = run locals body.result ss g

  -- code that is ready where this register is begun, and leaves it and those below
  record Leaves (n : Register) (g : Keeping) (F : Plains → Plains) : Type 0 where
    lucky : Lucky locals body.result F g
    below : (r : Register) → r < n → Lucky.now lucky r ≡ g r

  abbrev step : (s : Plain) (g h : Keeping) → after locals body.result s g ≡ Some h → Good locals body.result s g → Lucky locals body.result (λ rest. more s rest) g
  step s g h is good = record {
    now = h;
    goes = λ rest. ap (λ (o : Option Keeping). elim o as (λ _. Option Keeping) [ None ↦ None | Some h ↦ runs rest h ]) is;
    walks = λ rest ok. (good, subst (λ o. Behind o (λ h. GoodAll locals body.result rest h)) (sym is) ok);
  }

  set-after : (n : Register) (a : Action) (g : Keeping) (k : Kept) → kept_by locals body.result g a ≡ Some k → after locals body.result (set n a) g ≡ Some (keep g n k)
  set-after n a g k e = ap (λ (o : Option Kept). elim o as (λ _. Option Keeping) [ None ↦ None | Some x ↦ Some (keep g n x) ]) e

  abbrev then-lucky : (F G : Plains → Plains) (g : Keeping) (p : Lucky locals body.result F g) → Lucky locals body.result G (Lucky.now p) → Lucky locals body.result (λ rest. F (G rest)) g
  then-lucky F G g p q = record {
    now = Lucky.now q;
    goes = λ rest. Lucky.goes p (G rest) ∙ Lucky.goes q rest;
    walks = λ rest ok. Lucky.walks p (G rest) (Lucky.walks q rest ok);
  }

  abbrev by-lucky : (F G : Plains → Plains) (g : Keeping) → ((rest : Plains) → F rest ≡ G rest) → Lucky locals body.result G g → Lucky locals body.result F g
  by-lucky F G g same p = record {
    now = Lucky.now p;
    goes = λ rest. ap (λ ss. runs ss g) (same rest) ∙ Lucky.goes p rest;
    walks = λ rest ok. subst (λ ss. GoodAll locals body.result ss g) (sym (same rest)) (Lucky.walks p rest ok);
  }

  -- ---- the place of an element

  record PartAt (n : Register) (g : Keeping) (t : SourceType) (F : Plains → Plains) : Type 0 where
    lucky : Lucky locals body.result F g
    there : Lucky.now lucky n ≡ Some (a_place t)
    below : (r : Register) → r < n → Lucky.now lucky r ≡ g r

  part-at : (n r : Register) (T t : SourceType) (i : ℕ) (g : Keeping) → is_array T ≡ true → kept.decayed T ≡ Some (a_place t) → has_objects T && not (is_code T) ≡ true → is_object t ≡ true
      → nat_lt i 2147483648 ≡ true → Begun T (g r) → PartAt n g t (part_in n r T i)
  part-at n r T t i g arr decays objects object small begun =
      let number : Kept = an_integer (λ k. fits k (pos i)) in
      let g1 : Keeping = keep g n (a_place t) in
      let g2 : Keeping = keep g1 (suc n) number in
      let up : n < suc n = omega arith in
      let left : g2 n ≡ Some (a_place t) = keep-below g1 (suc n) n number up ∙ keep-at g n (a_place t) in
      let right : g2 (suc n) ≡ Some number = keep-at g1 (suc n) number in
      let indexing : Plains → Plains = λ rest. more (set n (plain.index n (suc n))) rest in
      let numbered : Plains → Plains = λ rest. more (set (suc n) (plain.number (pos i))) (indexing rest) in
      let decaying : Plains → Plains = λ rest. more (set n (plain.decay r)) (numbered rest) in
      let one = step (set n (plain.decay r)) g g1 (set-after n (plain.decay r) g (a_place t) (Takes.decays (Begun.takes begun) ∙ decays)) (Begun.well begun objects) in
      let two = step (set (suc n) (plain.number (pos i))) g1 g2 (set-after (suc n) (plain.number (pos i)) g1 number refl) (first-kind (fits Int (pos i)) (fits UInt (pos i)) small) in
      let three = step (set n (plain.index n (suc n))) g2 (keep g2 n (a_place t))
      (set-after n (plain.index n (suc n)) g2 (a_place t) (ap (λ o. moved_kept o (g2 (suc n))) left ∙ ap (moved_kept (Some (a_place t))) right))
      (all_of (of_place is_object (g2 n)) (of_place is_object (g2 (suc n))) (ap (of_place is_object) left ∙ object) (ap (of_place is_object) right)) in
      let all = by-lucky (part_in n r T i) decaying g (λ rest. ap (λ b. if b then decaying rest else more (set n (plain.member r i)) rest) arr)
      (then-lucky (λ rest. more (set n (plain.decay r)) rest) numbered g one (then-lucky (λ rest. more (set (suc n) (plain.number (pos i))) rest) indexing g1 two three)) in
      record {
        lucky = all;
        there = keep-at g2 n (a_place t);
        below = λ q lt. keep-below g2 n q (a_place t) lt ∙ keep-below g1 (suc n) q number (omega (arith, lt)) ∙ keep-below g n q (a_place t) lt;
      }

  -- ---- elements

  -- an initialiser of what is begun in a register
  abbrev Inits : SourceType → Core → Type 0
  Inits t e = (f : Inside) (n k : ℕ) (g i : Keeping) (rest : Plains) → Stand locals k (added (nodes e)) → Begun t (g n) → runs (started f.classes t e n k rest) g ≡ Some i
      → Leaves (suc n) g (started f.classes t e n k)

  -- what is known of an array and of its elements
  record Row (T t : SourceType) : Type 0 where
    arr : is_array T ≡ true
    same : element (unqualified T) ≡ t
    decays : kept.decayed T ≡ Some (a_place t)
    objects : has_objects T && not (is_code T) ≡ true
    object : is_object t ≡ true

  abbrev item_code : Bool → List Class → Core → Register → Register → SourceType → ℕ → ℕ → Plains → Plains
  item_code tick cs e n r T i k = in_turn tick (λ rest. part_in n r T i (started cs (part_type cs T i) e n k rest))

  item-at : (f : Inside) (T t : SourceType) (row : Row T t) (e : Core) → Inits t e → (tick : Bool) → tick ≡ false → (n r : Register) (i k : ℕ) (g j : Keeping) (rest : Plains)
      → nat_lt i 2147483648 ≡ true → Begun T (g r) → Stand locals k (added (nodes e)) → runs (item_code tick f.classes e n r T i k rest) g ≡ Some j
      → Leaves n g (item_code tick f.classes e n r T i k)
  item-at f T t row e inits tick quick n r i k g j rest small begun st success =
      let cs : List Class = f.classes in
      let typed : part_type cs T i ≡ t = ap (λ b. if b then element (unqualified T) else type_in (slice_get (fields_of cs (class_of T)) i)) (Row.arr row) ∙ Row.same row in
      let plainly : Plains → Plains = λ rest. part_in n r T i (started cs t e n k rest) in
      let same : (rest : Plains) → item_code tick cs e n r T i k rest ≡ plainly rest = λ rest.
      ap (λ b. in_turn b (λ rest. part_in n r T i (started cs (part_type cs T i) e n k rest)) rest) quick ∙ ap (λ v. part_in n r T i (started cs v e n k rest)) typed in
      let p = part-at n r T t i g (Row.arr row) (Row.decays row) (Row.objects row) (Row.object row) small begun in
      let now : Keeping = Lucky.now (PartAt.lucky p) in
      let inner : runs (started cs t e n k rest) now ≡ Some j = sym (Lucky.goes (PartAt.lucky p) (started cs t e n k rest)) ∙ sym (ap (λ ss. runs ss g) (same rest)) ∙ success in
      let q = inits f n k now j rest st (place-begun t (now n) (PartAt.there p)) inner in
      record {
        lucky = by-lucky (item_code tick cs e n r T i k) plainly g same (then-lucky (part_in n r T i) (started cs t e n k) g (PartAt.lucky p) (Leaves.lucky q));
        below = λ q' lt. Leaves.below q q' (omega (arith, lt)) ∙ PartAt.below p q' lt;
      }

  -- elements that are the same, from one on
  repeated-at : (n r : Register) (T : SourceType) → r < n → (code : ℕ → Plains → Plains)
      → ((i : ℕ) (g j : Keeping) (rest : Plains) → nat_lt i 2147483648 ≡ true → Begun T (g r) → runs (code i rest) g ≡ Some j → Leaves n g (code i))
      → (m i limit : ℕ) → i + m ≤ limit → nat_le limit 2147483648 ≡ true → (g j : Keeping) (rest : Plains) → Begun T (g r) → runs (repeated i m code rest) g ≡ Some j
      → Leaves n g (repeated i m code)
  repeated-at n r T lt code each zero i limit le small g j rest begun success = record { lucky = record { now = g; goes = λ rest. refl; walks = λ rest ok. ok }; below = λ q l. refl }
  repeated-at n r T lt code each (suc m) i limit le small g j rest begun success =
      let p = each i g j (repeated (suc i) m code rest) (below-limit i limit (omega arith) small) begun success in
      let now : Keeping = Lucky.now (Leaves.lucky p) in
      let q = repeated-at n r T lt code each m (suc i) limit (omega arith) small now j rest (subst (Begun T) (sym (Leaves.below p r lt)) begun)
      (sym (Lucky.goes (Leaves.lucky p) (repeated (suc i) m code rest)) ∙ success) in
      record { lucky = then-lucky (code i) (repeated (suc i) m code) g (Leaves.lucky p) (Leaves.lucky q); below = λ s l. Leaves.below q s l ∙ Leaves.below p s l }

  abbrev Rows : SourceType → Cores → Type 0
  Rows T es =
      (f : Inside) (x : Full) (n r : Register) (i k limit : ℕ) → i + count es ≤ limit → nat_le limit 2147483648 ≡ true → (g j : Keeping) (rest : Plains) → r < n → Begun T (g r)
      → Stand locals k (added (nodes_all es)) → runs (elements f.classes x es (record { register = r; type = T }) i n k rest) g ≡ Some j
      → Leaves n g (elements f.classes x es (record { register = r; type = T }) i n k)

  row-none : (T : SourceType) → Rows T none
  row-none T f x n r i k limit le small g j rest lt begun st success = record { lucky = record { now = g; goes = λ rest. refl; walks = λ rest ok. ok }; below = λ q l. refl }

  row-more : (T t : SourceType) (row : Row T t) (e : Core) (es : Cores) → is_element t e ≡ true → Inits t e → Rows T es → Rows T (core.more e es)
  row-more T t row e es ok inits others f x n r i k limit le small g j rest lt begun st success =
      let tick : Bool = is_array T && costs_tick e f.classes (part_type f.classes T i) in
      let quick : tick ≡ false = no-tick (is_array T) (costs_tick e f.classes (part_type f.classes T i)) (element-costs t e ok f.classes (part_type f.classes T i)) in
      let behind : Plains → Plains = elements f.classes x es (record { register = r; type = T }) (suc i) n (k + width e) in
      let p = item-at f T t row e inits tick quick n r i k g j (behind rest) (below-limit i limit (omega arith) small) begun (stand-left locals k (nodes e) (nodes_all es) st) success in
      let now : Keeping = Lucky.now (Leaves.lucky p) in
      let q = others f x n r (suc i) (k + width e) limit (omega arith) small now j rest lt (subst (Begun T) (sym (Leaves.below p r lt)) begun) (stand-right locals k (nodes e) (nodes_all es) st)
      (sym (Lucky.goes (Leaves.lucky p) (behind rest)) ∙ success) in
      record { lucky = then-lucky (item_code tick f.classes e n r T i k) behind g (Leaves.lucky p) (Leaves.lucky q); below = λ s l. Leaves.below q s l ∙ Leaves.below p s l }

  -- the same code
  by-leaves : (n : Register) (g : Keeping) (F G : Plains → Plains) → ((rest : Plains) → F rest ≡ G rest) → Leaves n g G → Leaves n g F
  by-leaves n g F G same p = record { lucky = by-lucky F G g same (Leaves.lucky p); below = Leaves.below p }

  filling-inits : (t : SourceType) (e : Core) → is_filling e ≡ true → Inits t e
  filling-inits t e fills f n k g i rest st begun success =
      by-leaves (suc n) g (started f.classes t e n k) (λ rest. more (act (fill e n)) rest) (started-is f.classes t e fills n k) (filled e fills)
    where
      there : elim (kept.filled (g n)) as (λ _. Option Keeping) [ None ↦ None | Some x ↦ Some g ] ≡ Some g
      there = ap (λ (o : Option Kept). elim o as (λ _. Option Keeping) [ None ↦ None | Some x ↦ Some g ]) (Takes.fills (Begun.takes begun))

      filled : (e : Core) → is_filling e ≡ true → Leaves (suc n) g (λ rest. more (act (fill e n)) rest)
      filled core.zeros ok = record { lucky = step (act (plain.zeros n)) g g there refl; below = λ r lt. refl }
      filled (core.string bytes) ok = record { lucky = step (act (plain.bytes n bytes)) g g there refl; below = λ r lt. refl }
      filled e ok = never ok

  module _ (named : (i : ℕ) → names_well_if (slice_get locals i) ≡ true) where
    abbrev Ready : Core → Type 0
    Ready e = node_is_ready body.scope e ≡ true

    initial-inits : (t : SourceType) (e : Core) → is_initial e ≡ true → is_element t e ≡ true → (typing scope e).start t ≡ true → Each Ready (nodes e) → Inits t e
    initial-inits t e ok element fit u f n k g i rest st begun success =
        let l = run-initial body locals keeps named f t e ok fit u n k st g i rest success in
        let p : RunsAt body locals keeps (suc n) g (started f.classes t e n k) = element-inits body locals keeps t e element fit f n k g st (Begun.takes begun) in
        let same : Lucky.now l ≡ RunsAt.now p = same-state locals body.result (Lucky.now l) (RunsAt.now p) (sym (Lucky.goes l nothing) ∙ RunsAt.goes p nothing) in
        record { lucky = l; below = λ r lt. ap (λ (k : Keeping). k r) same ∙ RunsAt.below p r lt }

    list-of : (T t : SourceType) (row : Row T t) (es : Cores) (last : Core) → is_filling last ≡ true → nat_le (count es) 2147483648 ≡ true → nat_le (bound T) 2147483648 ≡ true → Rows T es
        → Inits T (core.list es last)
    list-of T t row es last fills few small rows f n k g j rest st begun success =
        let cs : List Class = f.classes in
        let x : Full = record { first = k; base = suc n } in
        let d : Destination = record { register = n; type = T } in
        let m : Register = suc n + width (core.list es last) in
        let l : ℕ = k + width_all es in
        let arr = Row.arr row in
        let tick : Bool = is_array T && costs_tick last cs (part_type cs T 0) in
        let quick : tick ≡ false = no-tick (is_array T) (costs_tick last cs (part_type cs T 0)) (element-costs t last (filling-element t last fills) cs (part_type cs T 0)) in
        let code : ℕ → Plains → Plains = λ i. item_code tick cs last m n T i l in
        let left : Plains → Plains = repeated (count es) (parts_count cs T - count es) code in
        let first : Plains → Plains = elements cs x es d 0 m k in
        let low : n < m = omega arith in
        let none_there : Stand locals l (added (nodes last)) = subst (Stand locals l) (sym (filling-adds last fills)) tt in
        let many : nat_le (parts_count cs T) 2147483648 ≡ true = ap (λ n. nat_le n 2147483648) (array-parts cs T arr) ∙ small in
        let same : (rest : Plains) → started cs T (core.list es last) n k rest ≡ first (left rest) = λ rest.
        ap (λ b. if b then more (act (plain.begin_list n)) (first (left (if b then more (act (plain.end_list n)) rest else rest))) else first (left (if b then more (act (plain.end_list n)) rest else rest)))
        (array-no-class T arr) in
        let runs_now : runs (first (left rest)) g ≡ Some j = sym (ap (λ ss. runs ss g) (same rest)) ∙ success in
        let p = rows f x m n 0 k (count es) (omega arith) few g j (left rest) low begun (stand-left locals k (nodes_all es) (nodes last) st) runs_now in
        let now : Keeping = Lucky.now (Leaves.lucky p) in
        let q = repeated-at m n T low code
        (λ i g j rest small begun success. item-at f T t row last (filling-inits t last fills) tick quick m n i l g j rest small begun none_there success)
        (parts_count cs T - count es) (count es) (count es + (parts_count cs T - count es)) (omega arith) (within-limit (count es) (parts_count cs T) few many) now j rest
        (subst (Begun T) (sym (Leaves.below p n low)) begun) (sym (Lucky.goes (Leaves.lucky p) (left rest)) ∙ runs_now) in
        record {
          lucky = by-lucky (started cs T (core.list es last) n k) (λ rest. first (left rest)) g same (then-lucky first left g (Leaves.lucky p) (Leaves.lucky q));
          below = λ r lt. Leaves.below q r (omega (arith, lt)) ∙ Leaves.below p r (omega (arith, lt));
        }

    mutual
      list-inits : (T : SourceType) (e : Core) → is_list T e ≡ true → (typing scope e).start T ≡ true → row_is_ready T e ≡ true → Each Ready (nodes e) → Inits T e
      list-inits T (core.list es last) ok fit good u =
          let t : SourceType = element (unqualified T) in
          let kinds = both (is_row T) (are_elements t es && is_filling last) ok in
          let parts = both (are_elements t es) (is_filling last) kinds.1 in
          let one = both (has_objects T && not (is_code T)) (is_object t && (nat_le (count es) (2 ^ 31) && (nat_le (bound T) (2 ^ 31) && rows_are_ready t es))) good in
          let two = both (is_object t) (nat_le (count es) (2 ^ 31) && (nat_le (bound T) (2 ^ 31) && rows_are_ready t es)) one.1 in
          let three = both (nat_le (count es) (2 ^ 31)) (nat_le (bound T) (2 ^ 31) && rows_are_ready t es) two.1 in
          let four = both (nat_le (bound T) (2 ^ 31)) (rows_are_ready t es) three.1 in
          let row : Row T t = record { arr = row-array T kinds.0; same = refl; decays = row-decays T kinds.0; objects = one.0; object = two.0 } in
          list-of T t row es last parts.1 three.0 four.0 (rows-ready T t row es parts.0 (row-starts scope T kinds.0 es last fit) four.1 (each-left Ready (nodes_all es) (nodes last) u.1))
      list-inits T e ok fit good u = never ok

      rows-ready : (T t : SourceType) (row : Row T t) (es : Cores) → are_elements t es ≡ true → all_start scope t (typings scope es) ≡ true → rows_are_ready t es ≡ true → Each Ready (nodes_all es)
          → Rows T es
      rows-ready T t row none ok fit good u = row-none T
      rows-ready T t row (core.more e es) ok fit good u =
          let parts = both (is_element t e) (are_elements t es) ok in
          let starts = both ((typing scope e).start t) (all_start scope t (typings scope es)) fit in
          let ready = both (row_is_ready t e) (rows_are_ready t es) good in
          let here = each-left Ready (nodes e) (nodes_all es) u in
          row-more T t row e es parts.0
          (or-else (is_initial e) (is_list t e) parts.0 (λ initial. initial-inits t e initial parts.0 starts.0 here) (λ is. list-inits t e is starts.0 ready.0 here))
          (rows-ready T t row es parts.1 starts.1 ready.1 (each-right Ready (nodes e) (nodes_all es) u))

    -- the initialiser of a local, in the register of its object
    pub element-ready : (t : SourceType) (e : Core) → is_element t e ≡ true → (typing scope e).start t ≡ true → row_is_ready t e ≡ true → Each Ready (nodes e)
        → (f : Inside) (n k : ℕ) (g i : Keeping) (rest : Plains) → Stand locals k (added (nodes e)) → Begun t (g n) → runs (started f.classes t e n k rest) g ≡ Some i
        → Lucky locals body.result (started f.classes t e n k) g
    element-ready t e ok fit good u f n k g i rest st begun success =
        or-else (is_initial e) (is_list t e) ok (λ initial. Leaves.lucky (initial-inits t e initial ok fit u f n k g i rest st begun success))
        (λ is. Leaves.lucky (list-inits t e is fit good u f n k g i rest st begun success))
