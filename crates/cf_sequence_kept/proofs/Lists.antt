-- Lists as initialisers: each register is set before it is used, and holds there what is taken (8.4.1).
use Rattle.std.proofs.Common.{◌≡◌, ℕ, zero, suc, ◌+◌, ◌-◌, ◌≤◌, ◌<◌, Bool, true, false, ◌&&◌, ◌||◌, nat_le, if◌then◌else◌, List, length, reverse, refl, sym, ap, ◌∙◌, subst, arith}
use Rattle.std.specs.Prelude.{pos, Option, Some, slice_get}
use Rattle.cf_base.specs.Integers.{fits}
use Rattle.cf_base.proofs.Tests.{both}
use Rattle.cf_core.specs.Types.{SourceType, array, const, plain as unqualified, element, is_array}
use Rattle.cf_core.specs.Classes.{Class, fields_of, type_in}
use Rattle.cf_core.specs.Core as core
use Rattle.cf_core.specs.Core.{Core, Cores, none}
use Rattle.cf_core.specs.Joined.{is_nothing}
use Rattle.cf_core.specs.Nodes.{nodes, nodes_all}
use Rattle.cf_core.specs.Objects.{count, costs_tick}
use Rattle.cf_core.specs.Places.{class_of}
use Rattle.cf_core.specs.Typing.{Scope}
use Rattle.cf_core.specs.Typed.{typing, typings, all_start, list_starts}
use Rattle.cf_core.specs.Valid.{Body}
use Rattle.cf_plain.specs.Plain.{Register, Action, Plains, act, set, more}
use Rattle.cf_plain.specs.Plain as plain
use Rattle.cf_plain_kept.specs.Kept as kept
use Rattle.cf_plain_kept.specs.Kept.{Kept, no_value, an_integer, a_place, an_object, Keeping, keep, given, suits, moved_kept, kept_by}
use Rattle.cf_sequence.specs.Built.{is_value, is_start, is_filling, is_initial, is_row, is_list, is_element, are_elements}
use Rattle.cf_sequence.specs.Made.{Temporary, temporaries, added, width, width_all}
use Rattle.cf_sequence.specs.Expressions.{Full, Destination, destination, ended, settled, elements, repeated, in_turn, part_in, part_type, parts_count}
use Rattle.cf_sequence.specs.Statements.{Inside, started}
use Rattle.cf_sequence.proofs.Calling.{never}
use Rattle.cf_sequence.proofs.Filling.{fill, started-is, filling-adds, filling-element}
use Rattle.cf_sequence.proofs.Fulls.{nothing-is}
use Rattle.cf_sequence.proofs.Lists.{array-no-class, element-costs}
use Rattle.cf_sequence_kept.proofs.Fulls.{Held, held as held-value, ends-run}
use Rattle.cf_sequence_kept.proofs.Values.{keep-at, keep-below, runs, set-runs, act-runs}
use Rattle.cf_sequence_kept.proofs.Whole.{settled-put}
use Rattle.cf_sequence_valid.proofs.Serves.{as_start, either-true}
use Rattle.cf_sequence_valid.proofs.Stands.{Stand, stand-left, stand-right}
use Rattle.cf_sequence_valid.proofs.Values as locals_of

no-tick : (a b : Bool) → b ≡ false → a && b ≡ false
no-tick true b e = e
no-tick false b e = refl

-- what a register holds that takes a first value of this type, or those of its elements
pub record Takes (t : SourceType) (o : Option Kept) : Type 0 where
  pub first : (x : Kept) → suits t x ≡ true → kept.begun o (Some x) ≡ Some no_value
  pub fills : kept.filled o ≡ Some no_value
  pub decays : kept.decayed_kept o ≡ kept.decayed t

pub object-takes : (i : ℕ) (t : SourceType) (o : Option Kept) → o ≡ Some (an_object i t) → Takes t o
object-takes i t o e = subst (Takes t) (sym e) (record { first = λ x ok. ap (λ b. given b no_value) ok; fills = refl; decays = refl })

place-takes : (t : SourceType) (o : Option Kept) → o ≡ Some (a_place t) → Takes t o
place-takes t o e = subst (Takes t) (sym e) (record { first = λ x ok. ap (λ b. given b no_value) ok; fills = refl; decays = refl })

module _ (body : Body) (locals : List SourceType) (keeps : locals_of.Kept body.scope locals) where
  abbrev scope : Scope
  scope = body.scope

  abbrev run : Plains → Keeping → Option Keeping
  run ss g = runs locals body.result ss g

  -- code that runs from what is held, and leaves the registers below one
  pub record RunsAt (n : ℕ) (g : Keeping) (code : Plains → Plains) : Type 0 where
    pub now : Keeping
    pub below : (r : ℕ) → r < n → now r ≡ g r
    pub goes : (rest : Plains) → run (code rest) g ≡ run rest now

  none-at : (n : ℕ) (g : Keeping) → RunsAt n g (λ rest. rest)
  none-at n g = record { now = g; below = λ r lt. refl; goes = λ rest. refl }

  by-at : (n : ℕ) (g : Keeping) (F G : Plains → Plains) → ((rest : Plains) → F rest ≡ G rest) → RunsAt n g G → RunsAt n g F
  by-at n g F G same p = record { now = p.now; below = p.below; goes = λ rest. ap (λ ss. run ss g) (same rest) ∙ p.goes rest }

  then-at : (n : ℕ) (g : Keeping) (F G : Plains → Plains) (p : RunsAt n g F) → RunsAt n (RunsAt.now p) G → RunsAt n g (λ rest. F (G rest))
  then-at n g F G p q = record { now = q.now; below = λ r lt. q.below r lt ∙ p.below r lt; goes = λ rest. p.goes (G rest) ∙ q.goes rest }

  less-at : (n m : ℕ) (g : Keeping) (F : Plains → Plains) → n ≤ m → RunsAt m g F → RunsAt n g F
  less-at n m g F le p = record { now = p.now; below = λ r lt. p.below r (omega (arith, lt, le)); goes = p.goes }

  act-at : (n : ℕ) (g : Keeping) (a : Action) → kept_by locals body.result g a ≡ Some no_value → RunsAt n g (λ rest. more (act a) rest)
  act-at n g a e = record { now = g; below = λ r lt. refl; goes = λ rest. act-runs locals body.result g a no_value rest e }

  fill-at : (n m : ℕ) (g : Keeping) (e : Core) → is_filling e ≡ true → kept.filled (g n) ≡ Some no_value → RunsAt m g (λ rest. more (act (fill e n)) rest)
  fill-at n m g core.zeros ok fills = act-at m g (plain.zeros n) fills
  fill-at n m g (core.string bytes) ok fills = act-at m g (plain.bytes n bytes) fills
  fill-at n m g e ok fills = never ok

  -- an initialiser of the object or element in a register
  abbrev Inits : SourceType → Core → Type 0
  Inits t e = (f : Inside) (n k : ℕ) (g : Keeping) → Stand locals k (added (nodes e)) → Takes t (g n) → RunsAt (suc n) g (started f.classes t e n k)

  filling-inits : (t : SourceType) (e : Core) → is_filling e ≡ true → Inits t e
  filling-inits t e fills f n k g st takes =
      by-at (suc n) g (started f.classes t e n k) (λ rest. more (act (fill e n)) rest) (started-is f.classes t e fills n k) (fill-at n (suc n) g e fills takes.fills)

  pub initial-inits : (t : SourceType) (e : Core) → is_initial e ≡ true → (is_value e ≡ true → (typing scope e).start t ≡ true) → Inits t e
  initial-inits t e ok s f n k g st takes =
      either-true (is_filling e) (is_start e) ok (λ fills. filling-inits t e fills f n k g st takes)
      (λ starts. either-true (is_nothing e) (is_value e) starts
      (λ blank. by-at (suc n) g (started f.classes t e n k) (λ rest. rest) (λ rest. ap (λ e. started f.classes t e n k rest) (nothing-is e blank)) (none-at (suc n) g))
      (λ is.
      let m : ℕ = suc n + width e in
      let x : Full = record { first = k; base = suc n } in
      let ts : List Temporary = temporaries false e k in
      let p : Held locals body.result f.classes scope e (destination n t) (suc n) k g = held-value locals body.result f.classes scope keeps e is (as_start t (s is)) (destination n t) (suc n) k g st in
      let q = ends-run locals body.result e (suc n) k p.now p.flagged in
      let low : n < suc n = omega arith in
      record {
        now = q.now;
        below = λ r lt. q.same r ∙ p.below r lt;
        goes = λ rest.
            let last : Plains = ended x (reverse ts) rest in
            p.goes (settled e n m last) ∙ ap (λ ss. run ss p.now) (settled-put e is n m last)
            ∙ act-runs locals body.result p.now (plain.first n m) no_value last
            (ap (λ o. kept.begun o (p.now m)) (p.below n low) ∙ ap (kept.begun (g n)) p.at ∙ takes.first p.kept (p.related.start t (s is)))
            ∙ q.goes rest;
      }))

  -- ---- the place of an element

  record PartAt (n : ℕ) (g : Keeping) (t : SourceType) (code : Plains → Plains) : Type 0 where
    runs_at : RunsAt n g code
    there : RunsAt.now runs_at n ≡ Some (a_place t)

  part-at : (n r : Register) (T t : SourceType) (i : ℕ) (g : Keeping) → is_array T ≡ true → kept.decayed_kept (g r) ≡ Some (a_place t) → PartAt n g t (part_in n r T i)
  part-at n r T t i g arr decays =
      let number : Kept = an_integer (λ k. fits k (pos i)) in
      let g1 : Keeping = keep g n (a_place t) in
      let g2 : Keeping = keep g1 (suc n) number in
      let up : n < suc n = omega arith in
      let indexing : Plains → Plains = λ rest. more (set n (plain.index n (suc n))) rest in
      let numbered : Plains → Plains = λ rest. more (set (suc n) (plain.number (pos i))) (indexing rest) in
      let decaying : Plains → Plains = λ rest. more (set n (plain.decay r)) (numbered rest) in
      record {
        runs_at = record {
          now = keep g2 n (a_place t);
          below = λ q lt.
              let less : q < suc n = omega (arith, lt) in keep-below g2 n q (a_place t) lt ∙ keep-below g1 (suc n) q number less ∙ keep-below g n q (a_place t) lt;
          goes = λ rest.
              ap (λ b. run (if b then decaying rest else more (set n (plain.member r i)) rest) g) arr
              ∙ set-runs locals body.result g n (plain.decay r) (a_place t) (numbered rest) decays
              ∙ set-runs locals body.result g1 (suc n) (plain.number (pos i)) number (indexing rest) refl
              ∙ set-runs locals body.result g2 n (plain.index n (suc n)) (a_place t) rest
              (ap (λ o. moved_kept o (g2 (suc n))) (keep-below g1 (suc n) n number up ∙ keep-at g n (a_place t)) ∙ ap (moved_kept (Some (a_place t))) (keep-at g1 (suc n) number));
        };
        there = keep-at g2 n (a_place t);
      }

  -- ---- elements

  abbrev item_code : Bool → List Class → Core → Register → Register → SourceType → ℕ → ℕ → Plains → Plains
  item_code tick cs e n r T i k = in_turn tick (λ rest. part_in n r T i (started cs (part_type cs T i) e n k rest))

  item-at : (f : Inside) (T t : SourceType) (e : Core) → is_array T ≡ true → element (unqualified T) ≡ t → Inits t e → (tick : Bool) → tick ≡ false → (n r : Register) (i k : ℕ) (g : Keeping)
      → kept.decayed_kept (g r) ≡ Some (a_place t) → Stand locals k (added (nodes e)) → RunsAt n g (item_code tick f.classes e n r T i k)
  item-at f T t e arr same inits tick none_spent n r i k g decays st =
      let cs : List Class = f.classes in
      let typed : part_type cs T i ≡ t = ap (λ b. if b then element (unqualified T) else type_in (slice_get (fields_of cs (class_of T)) i)) arr ∙ same in
      let p = part-at n r T t i g arr decays in
      let q = inits f n k (RunsAt.now p.runs_at) st (place-takes t (RunsAt.now p.runs_at n) p.there) in
      by-at n g (item_code tick cs e n r T i k) (λ rest. part_in n r T i (started cs t e n k rest))
      (λ rest. ap (λ b. in_turn b (λ rest. part_in n r T i (started cs (part_type cs T i) e n k rest)) rest) none_spent ∙ ap (λ v. part_in n r T i (started cs v e n k rest)) typed)
      (then-at n g (part_in n r T i) (started cs t e n k) p.runs_at (less-at n (suc n) (RunsAt.now p.runs_at) (started cs t e n k) (omega arith) q))

  repeated-at : (n r : Register) (t : SourceType) → r < n → (code : ℕ → Plains → Plains) → ((i : ℕ) (g : Keeping) → kept.decayed_kept (g r) ≡ Some (a_place t) → RunsAt n g (code i))
      → (j i : ℕ) (g : Keeping) → kept.decayed_kept (g r) ≡ Some (a_place t) → RunsAt n g (repeated i j code)
  repeated-at n r t lt code each zero i g decays = none-at n g
  repeated-at n r t lt code each (suc j) i g decays =
      let p = each i g decays in
      then-at n g (code i) (repeated (suc i) j code) p (repeated-at n r t lt code each j (suc i) (RunsAt.now p) (ap kept.decayed_kept (RunsAt.below p r lt) ∙ decays))

  abbrev Rows : SourceType → SourceType → Cores → Type 0
  Rows T t es =
      (f : Inside) (x : Full) (n r : Register) (i k : ℕ) (g : Keeping) → r < n → kept.decayed_kept (g r) ≡ Some (a_place t) → Stand locals k (added (nodes_all es))
      → RunsAt n g (elements f.classes x es (record { register = r; type = T }) i n k)

  row-none : (T t : SourceType) → Rows T t none
  row-none T t f x n r i k g lt decays st = none-at n g

  row-more : (T t : SourceType) (e : Core) (es : Cores) → is_array T ≡ true → element (unqualified T) ≡ t → is_element t e ≡ true → Inits t e → Rows T t es → Rows T t (core.more e es)
  row-more T t e es arr same ok inits row f x n r i k g lt decays st =
      let tick : Bool = is_array T && costs_tick e f.classes (part_type f.classes T i) in
      let spent : tick ≡ false = no-tick (is_array T) (costs_tick e f.classes (part_type f.classes T i)) (element-costs t e ok f.classes (part_type f.classes T i)) in
      let p = item-at f T t e arr same inits tick spent n r i k g decays (stand-left locals k (nodes e) (nodes_all es) st) in
      then-at n g (item_code tick f.classes e n r T i k) (elements f.classes x es (record { register = r; type = T }) (suc i) n (k + width e)) p
      (row f x n r (suc i) (k + width e) (RunsAt.now p) lt (ap kept.decayed_kept (RunsAt.below p r lt) ∙ decays) (stand-right locals k (nodes e) (nodes_all es) st))

  list-of : (T t : SourceType) (es : Cores) (last : Core) → is_array T ≡ true → element (unqualified T) ≡ t → kept.decayed T ≡ Some (a_place t) → is_filling last ≡ true → Rows T t es
      → Inits T (core.list es last)
  list-of T t es last arr same decays fills row f n k g st takes =
      let cs : List Class = f.classes in
      let x : Full = record { first = k; base = suc n } in
      let d : Destination = record { register = n; type = T } in
      let m : Register = suc n + width (core.list es last) in
      let l : ℕ = k + width_all es in
      let tick : Bool = is_array T && costs_tick last cs (part_type cs T 0) in
      let spent : tick ≡ false = no-tick (is_array T) (costs_tick last cs (part_type cs T 0)) (element-costs t last (filling-element t last fills) cs (part_type cs T 0)) in
      let left : Plains → Plains = repeated (count es) (parts_count cs T - count es) (λ i. item_code tick cs last m n T i l) in
      let low : n < m = omega arith in
      let none_there : Stand locals l (added (nodes last)) = subst (Stand locals l) (sym (filling-adds last fills)) tt in
      let p = row f x m n 0 k g low (takes.decays ∙ decays) (stand-left locals k (nodes_all es) (nodes last) st) in
      let q = repeated-at m n t low (λ i. item_code tick cs last m n T i l) (λ i g there. item-at f T t last arr same (filling-inits t last fills) tick spent m n i l g there none_there)
      (parts_count cs T - count es) (count es) (RunsAt.now p) (ap kept.decayed_kept (RunsAt.below p n low) ∙ (takes.decays ∙ decays)) in
      by-at (suc n) g (started cs T (core.list es last) n k) (λ rest. elements cs x es d 0 m k (left rest))
      (λ rest. ap (λ b. if b then more (act (plain.begin_list n)) (elements cs x es d 0 m k (left (if b then more (act (plain.end_list n)) rest else rest))) else elements cs x es d 0 m k (left (if b then more (act (plain.end_list n)) rest else rest)))
      (array-no-class T arr))
      (less-at (suc n) m g (λ rest. elements cs x es d 0 m k (left rest)) (omega arith) (then-at m g (elements cs x es d 0 m k) left p q))

  -- what an array's elements are
  record OfRow (T : SourceType) (es : Cores) : Type 0 where
    item : SourceType
    arr : is_array T ≡ true
    same : element (unqualified T) ≡ item
    decays : kept.decayed T ≡ Some (a_place item)
    each : all_start scope item (typings scope es) ≡ true

  each-starts : (t : SourceType) (n : ℕ) (es : Cores) (last : Core) → list_starts scope (typings scope es) (typing scope last) (array t n) ≡ true → all_start scope t (typings scope es) ≡ true
  each-starts t n es last fit =
      let few = nat_le (length (typings scope es)) n in
      let all_there = all_start scope t (typings scope es) in
      (both few all_there (both (few && all_there) (nat_le n (length (typings scope es)) || (typing scope last).start t) fit).0).1

  row-of : (T : SourceType) → is_row T ≡ true → (es : Cores) (last : Core) → list_starts scope (typings scope es) (typing scope last) T ≡ true → OfRow T es
  row-of (array t n) ok es last fit = record { item = t; arr = refl; same = refl; decays = refl; each = each-starts t n es last fit }
  row-of (const (array t n)) ok es last fit = record { item = t; arr = refl; same = refl; decays = refl; each = each-starts t n es last fit }
  row-of T ok es last fit = never ok

  mutual
    pub list-inits : (T : SourceType) (e : Core) → is_list T e ≡ true → (typing scope e).start T ≡ true → Inits T e
    list-inits T (core.list es last) ok fit =
        let u : SourceType = element (unqualified T) in
        let kinds = both (is_row T) (are_elements u es && is_filling last) ok in
        let parts = both (are_elements u es) (is_filling last) kinds.1 in
        let o : OfRow T es = row-of T kinds.0 es last fit in
        list-of T o.item es last o.arr o.same o.decays parts.1 (rows T o.item o.arr o.same es (subst (λ t. are_elements t es ≡ true) o.same parts.0) o.each)
    list-inits T e ok fit = never ok

    rows : (T t : SourceType) → is_array T ≡ true → element (unqualified T) ≡ t → (es : Cores) → are_elements t es ≡ true → all_start scope t (typings scope es) ≡ true → Rows T t es
    rows T t arr same none ok fit = row-none T t
    rows T t arr same (core.more e es) ok fit =
        let parts = both (is_element t e) (are_elements t es) ok in
        let starts = both ((typing scope e).start t) (all_start scope t (typings scope es)) fit in
        row-more T t e es arr same parts.0 (either-true (is_initial e) (is_list t e) parts.0 (λ initial. initial-inits t e initial (λ v. starts.0)) (λ is. list-inits t e is starts.0))
        (rows T t arr same es parts.1 starts.1)

  -- the initialiser of a local, in the register of its object
  pub element-inits : (t : SourceType) (e : Core) → is_element t e ≡ true → (typing scope e).start t ≡ true → Inits t e
  element-inits t e ok fit = either-true (is_initial e) (is_list t e) ok (λ initial. initial-inits t e initial (λ v. fit)) (λ is. list-inits t e is fit)
