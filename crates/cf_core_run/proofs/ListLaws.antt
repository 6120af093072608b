-- How the elements of an array are initialised one by one (8.4.1), and an array of characters by a string (8.4.2).
use Rattle.std.proofs.Common.{◌≡◌, ◌∙◌, ℕ, zero, suc, ◌+◌, ◌-◌, ◌<◌, ◌≤◌, Bool, true, false, List, [], ◌∷◌, length, map, Some, Result, Ok, Err, Bor, refl, ap, sym, subst, arith, true≢false, nat_lt}
use Rattle.std.specs.Prelude.{◌&&◌, ◌||◌, nat_le}
use Rattle.std.proofs.lemmas.Bool.Decides.{nat_tests}
use Rattle.cf_base.specs.declared.kind.Kind.{Kind}
use Rattle.cf_base.specs.World.{World, Went}
use Rattle.cf_core.specs.FromTypes.{Tables}
use Rattle.cf_core.specs.Types.{SourceType, void, integer, enumeration, class, pointer, reference, array, takes, gives as gives_type, data_member, function_member, const, is_array, is_class, plain, element}
use Rattle.cf_core.specs.Core.{Core, Cores, Part, item, list, string}
use Rattle.cf_core.specs.View.{listed}
use Rattle.cf_core.specs.Places.{Place, inner, bound}
use Rattle.cf_core.specs.Store.{Value, Built}
use Rattle.cf_core.specs.Run.{State, Malformed, Act, ◌>>=◌, ◌>>◌, gives, done, valid, when, for_each}
use Rattle.cf_core.specs.Access.{place_type, fill_zeros}
use Rattle.cf_core.specs.Objects.{settled, element_part, element_count, begin_list, end_list, costs_tick, any_costs, one_tick, count, character_kind, write_bytes}
use Rattle.cf_core.specs.Calls.{full_expression}
use Rattle.cf_core.specs.Expressions.{value, elements}
use Rattle.cf_run_tree.specs.declared.node.Node.{Node, ind-Node, roll-Node}
use Rattle.cf_run_tree.specs.declared.node.Node.TheOpen.{Node-F}
use Rattle.cf_run_tree.specs.declared.node.Node.TheFolds.{fold-roll-Node, map-Node}
use Rattle.cf_run_tree.specs.declared.node.Unary.{Unary}
use Rattle.cf_run_tree.specs.declared.node.Unary.TheVariants as one
use Rattle.cf_run_tree.specs.declared.node.Binary.{Binary}
use Rattle.cf_run_tree.specs.declared.node.Binary.TheVariants as two
use Rattle.cf_run_tree.specs.declared.program.Program.{Program}
use Rattle.cf_run_tree.specs.Tree.{core_step, core_of, applied, joined, program_of}
use Rattle.cf_core_objects.specs.declared.answer.Stop.{Stop}
use Rattle.cf_core_objects.specs.declared.answer.Stop.TheVariants as stop
use Rattle.cf_core_objects.specs.Answer.{Stopped}
use Rattle.cf_core_objects.specs.Site.{Counted, HasElements, HasNone}
use Rattle.cf_core_objects.specs.Then.{◌▷◌}
use Rattle.cf_core_objects.proofs.ThenLaws.{then-assoc, then-same}
use Rattle.cf_core_run.specs.Going.{again, valued, full, cores, one_element, elements_from, listing, listing_with, writing}
use Rattle.cf_core_run.specs.declared.mark.Listing.{Listing}
use Rattle.cf_core_objects.specs.declared.filling.Array.{Array}
use Rattle.cf_core_place.specs.declared.goal.Goal.{Goal}
use Rattle.cf_core_place.specs.Routes.{goal_place, row_place}

-- No initialiser of the programs that are run costs a tick for an element.
costs-unary : (T : Tables) (op : Unary) (c : Core) (u : SourceType) → costs_tick (applied T op c) [] u ≡ false
costs-unary T one.Read c u = refl
costs-unary T one.Address c u = refl
costs-unary T one.Dereference c u = refl
costs-unary T one.Decay c u = refl
costs-unary T (one.Convert s) c u = refl
costs-unary T (one.Sign op k) c u = refl
costs-unary T one.Not c u = refl
costs-unary T (one.Increment b o) c u = refl

costs-binary : (T : Tables) (op : Binary) (a b : Core) (u : SourceType) → costs_tick (joined T op a b) [] u ≡ false
costs-binary T (two.Operate op k) a b u = refl
costs-binary T two.Store a b u = refl
costs-binary T (two.Update o) a b u = refl
costs-binary T two.Index a b u = refl
costs-binary T (two.Point op) a b u = refl

and-none : (a b : Bool) → b ≡ false → (a && b) ≡ false
and-none true b h = h
and-none false b h = refl

or-none : (a b : Bool) → a ≡ false → b ≡ false → (a || b) ≡ false
or-none true b h k = h
or-none false b h k = k

abbrev Costless : Tables → Program → Node → Type 0
Costless T p n = (u : SourceType) → costs_tick (core_of T p n) [] u ≡ false

any-none : (T : Tables) (p : Program) (ys : List ((n : Node) × Costless T p n)) (u : SourceType) → any_costs (listed (map (core_of T p) (map (λ (c : (n : Node) × Costless T p n). c.0) ys))) [] u ≡ false
any-none T p [] u = refl
any-none T p (y ∷ ys) u = or-none (costs_tick (core_of T p y.0) [] u) (any_costs (listed (map (core_of T p) (map (λ (c : (n : Node) × Costless T p n). c.0) ys))) [] u) (y.1 u) (any-none T p ys u)

list-none : (T : Tables) (p : Program) (es : List ((n : Node) × Costless T p n)) (rest : (n : Node) × Costless T p n) (u : SourceType)
    → costs_tick (list (listed (map (core_of T p) (map (λ (c : (n : Node) × Costless T p n). c.0) es))) (core_of T p rest.0)) [] u ≡ false
list-none T p es rest u =
    let cs = listed (map (core_of T p) (map (λ (c : (n : Node) × Costless T p n). c.0) es)) in
    and-none (is_array u) (any_costs cs [] (element (plain u)) || (nat_lt (count cs) (bound u) && costs_tick (core_of T p rest.0) [] (element (plain u))))
    (or-none (any_costs cs [] (element (plain u))) (nat_lt (count cs) (bound u) && costs_tick (core_of T p rest.0) [] (element (plain u))) (any-none T p es (element (plain u)))
    (and-none (nat_lt (count cs) (bound u)) (costs_tick (core_of T p rest.0) [] (element (plain u))) (rest.1 (element (plain u)))))

costs-layer : (T : Tables) (p : Program) (y : Node-F ((n : Node) × Costless T p n)) → Costless T p (roll-Node (map-Node ((n : Node) × Costless T p n) Node (λ c. c.0) y))
costs-layer T p (Node-F.List es rest) u =
    ap (λ c. costs_tick c [] u) (fold-roll-Node Core (core_step T p) (Node-F.List (map (λ (c : (n : Node) × Costless T p n). c.0) es) rest.0))
    ∙ list-none T p es rest u
costs-layer T p (Node-F.Apply op e) u = ap (λ c. costs_tick c [] u) (fold-roll-Node Core (core_step T p) (Node-F.Apply op e.0)) ∙ costs-unary T op (core_of T p e.0) u
costs-layer T p (Node-F.Join op a b) u = ap (λ c. costs_tick c [] u) (fold-roll-Node Core (core_step T p) (Node-F.Join op a.0 b.0)) ∙ costs-binary T op (core_of T p a.0) (core_of T p b.0) u
costs-layer T p y u = ap (λ c. costs_tick c [] u) (fold-roll-Node Core (core_step T p) (map-Node ((n : Node) × Costless T p n) Node (λ c. c.0) y))

costs-none : (T : Tables) (p : Program) (n : Node) → Costless T p n
costs-none T p = ind-Node (λ n. Costless T p n) (λ x y e. subst (λ z. Costless T p (roll-Node z)) e (costs-layer T p y))

-- The elements of an array are its items.
element-item : (t : SourceType) (i : ℕ) → is_array t ≡ true → element_part t i ≡ item i
element-item void i h = absurd (true≢false (sym h))
element-item (integer k) i h = absurd (true≢false (sym h))
element-item (enumeration n) i h = absurd (true≢false (sym h))
element-item (class c) i h = absurd (true≢false (sym h))
element-item (pointer t) i h = absurd (true≢false (sym h))
element-item (reference t) i h = absurd (true≢false (sym h))
element-item (array t n) i h = refl
element-item (takes q t) i h = absurd (true≢false (sym h))
element-item (gives_type t c) i h = absurd (true≢false (sym h))
element-item (data_member c t) i h = absurd (true≢false (sym h))
element-item (function_member c t) i h = absurd (true≢false (sym h))
element-item (const t) i h = element-item t i h

count-row : (T : Tables) (p : Program) (es : List Node) → count (listed (map (core_of T p) es)) ≡ length es
count-row T p [] = refl
count-row T p (e ∷ es) = ap suc (count-row T p es)

module _ (T : Tables) (p : Program) (k : ℕ) (q : Place) (t : SourceType) (is_an_array : is_array t ≡ true) where
  -- an element with what its initialiser costs
  abbrev with_cost : Node → ℕ → Act (Unit {0})
  with_cost e i =
      one_tick (is_array t && costs_tick (core_of T p e) [] (element (plain t)))
      >> full_expression (again T p k) (program_of T p) (settled [] (inner (element_part t i) q) (value (again T p k) (program_of T p) (core_of T p e) (Some (inner (element_part t i) q))))

  costless : (e : Node) (i : ℕ) → with_cost e i ≡ one_element T p k i q e
  costless e i =
      ap (λ (b : Bool). one_tick b >> full_expression (again T p k) (program_of T p) (settled [] (inner (element_part t i) q) (value (again T p k) (program_of T p) (core_of T p e) (Some (inner (element_part t i) q)))))
      (and-none (is_array t) (costs_tick (core_of T p e) [] (element (plain t))) (costs-none T p e (element (plain t))))
      ∙ ap (λ (x : Part). full T p k (settled [] (inner x q) (valued T p k (core_of T p e) (Some (inner x q))))) (element-item t i is_an_array)

  fill-from : (i n : ℕ) (filler : Node) (s : State) (w : World)
      → (for_each i n (λ i. one_element T p k i q filler) >> gives Built) s w ≡ elements_from T p k i q n [] filler s w
  fill-from i zero filler s w = refl
  fill-from i (suc n) filler s w =
      then-assoc (one_element T p k i q filler s w) (λ u. for_each (suc i) n (λ i. one_element T p k i q filler)) (λ u. gives Built)
      ∙ then-same (one_element T p k i q filler s w) (λ u. for_each (suc i) n (λ i. one_element T p k i q filler) >> gives Built) (λ u. elements_from T p k (suc i) q n [] filler)
      (λ u s w. fill-from (suc i) n filler s w)

  list-from : (es : List Node) (i m n d : ℕ) (filler : Node) (s : State) (w : World) → m ≡ i + length es → d ≡ length es + n
      → (elements (again T p k) (program_of T p) (cores T p es) i q t >> (for_each m n (with_cost filler) >> gives Built)) s w ≡ elements_from T p k i q d es filler s w
  list-from [] i m n d filler s w e f =
      ap (λ (f : ℕ → Act (Unit {0})). (for_each m n f >> gives Built) s w) (λ j i. costless filler i j)
      ∙ ap (λ m. (for_each m n (λ i. one_element T p k i q filler) >> gives Built) s w) (let h : m ≡ i = omega (arith, e) in h)
      ∙ fill-from i n filler s w
      ∙ ap (λ d. elements_from T p k i q d [] filler s w) (let h : n ≡ d = omega (arith, f) in h)
  list-from (x ∷ es) i m n d filler s w e f =
      let rest = elements (again T p k) (program_of T p) (cores T p es) (suc i) q t in
      let last : Act Value = for_each m n (with_cost filler) >> gives Built in
      let d' = length es + n in
      then-assoc (with_cost x i s w) (λ u. rest) (λ u. last)
      ∙ ap (λ (a : Act (Unit {0})). a s w ▷ (λ u. rest >> last)) (costless x i)
      ∙ then-same (one_element T p k i q x s w) (λ u. rest >> last) (λ u. elements_from T p k (suc i) q d' es filler)
      (λ u s w. list-from es (suc i) m n d' filler s w (let h : m ≡ suc i + length es = omega (arith, e) in h) refl)
      ∙ ap (λ d. elements_from T p k i q d (x ∷ es) filler s w) (let h : suc d' ≡ d = omega (arith, f) in h)

pub at-most : (m n : ℕ) → nat_le m n ≡ true → m ≤ n
at-most m n h = grind (arith, nat_tests, h)

module _ (T : Tables) (p : Program) (k : ℕ) (q : Place) (S : State) (w : World) where
  -- what a list does with an array of this type
  abbrev list_rest : SourceType → Cores → Node → ℕ → ℕ → Act Value
  list_rest t es filler m d =
      elements (again T p k) (program_of T p) es 0 q t >> (for_each m d (λ i. one_tick (is_array t && costs_tick (core_of T p filler) [] (element (plain t)))
      >> full_expression (again T p k) (program_of T p) (settled [] (inner (element_part t i) q) (value (again T p k) (program_of T p) (core_of T p filler) (Some (inner (element_part t i) q))))) >> gives Built)

  abbrev list_whole : Bool → Bool → SourceType → Cores → Node → ℕ → ℕ → Act Value
  list_whole b c t es filler m d =
      valid b >> (when c (begin_list q) done >> (elements (again T p k) (program_of T p) es 0 q t >> (for_each m d (λ i. one_tick (is_array t && costs_tick (core_of T p filler) [] (element (plain t)))
      >> full_expression (again T p k) (program_of T p) (settled [] (inner (element_part t i) q) (value (again T p k) (program_of T p) (core_of T p filler) (Some (inner (element_part t i) q))))) >> (when c (end_list q) done >> gives Built))))

  fits-as : (b : Bool) (t : SourceType) (n m : ℕ) (es : List Node) → is_array t ≡ true → element_count [] t ≡ n → nat_le (length es) n ≡ b
      → ((is_array t || is_class t) && nat_le (count (cores T p es)) (element_count [] t)) ≡ b
  fits-as b t n m es ha hc hb =
      ap (λ (x : Bool). (x || is_class t) && nat_le (count (cores T p es)) (element_count [] t)) ha
      ∙ ap (λ m. nat_le m (element_count [] t)) (count-row T p es) ∙ ap (nat_le (length es)) hc ∙ hb

  pub list-goes : (es : List Node) (filler : Node) (n : ℕ) → HasElements (place_type [] S q) n → nat_le (length es) n ≡ true
      → valued T p k (list (cores T p es) (core_of T p filler)) (Some q) S w ≡ elements_from T p k 0 q n es filler S w
  list-goes es filler n h le =
      let t = place_type [] S q in
      let c = count (cores T p es) in
      ap (λ (b : Bool). list_whole b (is_class t) t (cores T p es) filler c (element_count [] t - c) S w) (fits-as true t n n es h.array h.count le)
      ∙ ap (λ (b : Bool). list_whole true b t (cores T p es) filler c (element_count [] t - c) S w) h.class
      ∙ ap (λ d. list_rest t (cores T p es) filler c d S w) (ap (λ d. element_count [] t - d) (count-row T p es) ∙ ap (λ d. d - length es) h.count)
      ∙ list-from T p k q t h.array es 0 c (n - length es) n filler S w (let z : c ≡ 0 + length es = omega (arith, count-row T p es) in z)
      (let b = at-most (length es) n le in let z : n ≡ length es + (n - length es) = omega (arith, b) in z)

  pub list-many : (es : List Node) (filler : Node) (n : ℕ) → HasElements (place_type [] S q) n → nat_le (length es) n ≡ false
      → valued T p k (list (cores T p es) (core_of T p filler)) (Some q) S w ≡ Went Malformed w
  list-many es filler n h le =
      let t = place_type [] S q in
      let c = count (cores T p es) in
      ap (λ (b : Bool). list_whole b (is_class t) t (cores T p es) filler c (element_count [] t - c) S w) (fits-as false t n n es h.array h.count le)

  list-no_array : (es : List Node) (filler : Node) → HasNone (place_type [] S q) → valued T p k (list (cores T p es) (core_of T p filler)) (Some q) S w ≡ Went Malformed w
  list-no_array es filler h =
      let t = place_type [] S q in
      let c = count (cores T p es) in
      ap (λ (b : Bool). list_whole ((b || is_class t) && nat_le c (element_count [] t)) (is_class t) t (cores T p es) filler c (element_count [] t - c) S w) h.array
      ∙ ap (λ (b : Bool). list_whole (b && nat_le c (element_count [] t)) (is_class t) t (cores T p es) filler c (element_count [] t - c) S w) h.class

  pub list-stops : (es : List Node) (filler : Node) (g : Goal) (r : Result Array Stop) (e : Stop) → r ≡ Err e → Counted (place_type [] S q) g r
      → Stopped e w (valued T p k (list (cores T p es) (core_of T p filler)) (Some q) S w)
  list-stops es filler g r e is h = at e (subst (λ (r : Result Array Stop). Counted (place_type [] S q) g r) is h)
    where
      at : (e : Stop) → Counted (place_type [] S q) g (Err e) → Stopped e w (valued T p k (list (cores T p es) (core_of T p filler)) (Some q) S w)
      at (stop.Act n) h = absurd h
      at stop.Malformed h = list-no_array es filler h
      at stop.Memory h = absurd h

  -- a string
  abbrev string_rest : List ℕ → Act Value
  string_rest bytes = fill_zeros [] q >> (write_bytes (character_kind (place_type [] S q)) q 0 bytes >> gives Built)

  abbrev string_whole : Bool → List ℕ → Act Value
  string_whole b bytes = valid b >> string_rest bytes

  pub string-goes : (bytes : List ℕ) (n : ℕ) (kind : Kind) → HasElements (place_type [] S q) n → nat_le (length bytes) n ≡ true → character_kind (place_type [] S q) ≡ kind
      → valued T p k (string bytes) (Some q) S w ≡ writing T p kind q bytes S w
  string-goes bytes n kind h le is =
      let t = place_type [] S q in
      ap (λ (b : Bool). string_whole b bytes S w) (ap (λ (x : Bool). x && nat_le (length bytes) (element_count [] t)) h.array ∙ ap (nat_le (length bytes)) h.count ∙ le)
      ∙ ap (λ (kind : Kind). writing T p kind q bytes S w) is

  pub string-many : (bytes : List ℕ) (n : ℕ) → HasElements (place_type [] S q) n → nat_le (length bytes) n ≡ false
      → valued T p k (string bytes) (Some q) S w ≡ Went Malformed w
  string-many bytes n h le =
      let t = place_type [] S q in
      ap (λ (b : Bool). string_whole b bytes S w) (ap (λ (x : Bool). x && nat_le (length bytes) (element_count [] t)) h.array ∙ ap (nat_le (length bytes)) h.count ∙ le)

  pub string-stops : (bytes : List ℕ) (g : Goal) (r : Result Array Stop) (e : Stop) → r ≡ Err e → Counted (place_type [] S q) g r
      → Stopped e w (valued T p k (string bytes) (Some q) S w)
  string-stops bytes g r e is h = at e (subst (λ (r : Result Array Stop). Counted (place_type [] S q) g r) is h)
    where
      at : (e : Stop) → Counted (place_type [] S q) g (Err e) → Stopped e w (valued T p k (string bytes) (Some q) S w)
      at (stop.Act n) h = absurd h
      at stop.Malformed h = ap (λ (b : Bool). string_whole (b && nat_le (length bytes) (element_count [] (place_type [] S q))) bytes S w) h.array
      at stop.Memory h = absurd h

-- what is built is an array
pub counted-row : (t : SourceType) (g : Goal) (a : Array) (r : Result Array Stop) → r ≡ Ok a → Counted t g r → row_place a.row ≡ goal_place g
counted-row t g a r is h = (subst (λ (r : Result Array Stop). Counted t g r) is h).1

pub counted-elements : (type : Place → SourceType) (g : Goal) (a : Array) (r : Result Array Stop) → r ≡ Ok a → Counted (type (goal_place g)) g r → HasElements (type (row_place a.row)) a.count
counted-elements type g a r is h =
    let k = subst (λ (r : Result Array Stop). Counted (type (goal_place g)) g r) is h in
    subst (λ q. HasElements (type q) a.count) (sym k.1) k.0

-- The elements one by one.

one-more : (i n : ℕ) → i < n → n - i ≡ suc (n - suc i)
one-more i n lt = omega (arith, lt)

pub listed-all : (T : Tables) (p : Program) (k : ℕ) (l : Listing) (s : State) (w : World) → l.count ≤ l.index → listing T p k l s w ≡ gives Built s w
listed-all T p k l s w le = ap (λ n. elements_from T p k l.index (row_place l.array) n l.rest.now l.filler.now s w) (let h : l.count - l.index ≡ 0 = omega (arith, le) in h)

pub fill-goes : (T : Tables) (p : Program) (k : ℕ) (l : Listing) (e : Node) (s : State) (w : World) → l.rest.now ≡ [] → l.index < l.count → e ≡ l.filler.now
    → listing T p k l s w ≡ listing_with T p k l e s w
fill-goes T p k l e s w er lt he =
    let q = row_place l.array in
    let i = l.index in
    let n = l.count - suc i in
    ap (λ n. elements_from T p k i q n l.rest.now l.filler.now s w) (one-more i l.count lt)
    ∙ ap (λ (r : List Node). elements_from T p k i q (suc n) r l.filler.now s w) er
    ∙ ap (λ (r : List Node). one_element T p k i q l.filler.now s w ▷ (λ u. elements_from T p k (suc i) q n r l.filler.now)) (sym er)
    ∙ ap (λ (x : Node). one_element T p k i q x s w ▷ (λ u. elements_from T p k (suc i) q n l.rest.now l.filler.now)) (sym he)

pub first-goes : (T : Tables) (p : Program) (k : ℕ) (l : Listing) (rest : Bor (List Node)) (e : Node) (s : State) (w : World) → l.rest.now ≡ e ∷ rest.now → l.index < l.count
    → listing T p k l s w ≡ listing_with T p k (record l { rest = rest }) e s w
first-goes T p k l rest e s w er lt =
    let q = row_place l.array in
    let i = l.index in
    ap (λ n. elements_from T p k i q n l.rest.now l.filler.now s w) (one-more i l.count lt)
    ∙ ap (λ (r : List Node). elements_from T p k i q (suc (l.count - suc i)) r l.filler.now s w) er

pub element-goes : (T : Tables) (p : Program) (k : ℕ) (others : Listing) (next : ℕ) (goal : Goal) (e : Node) (s : State) (w : World)
    → goal_place goal ≡ inner (item others.index) (row_place others.array) → next ≡ others.index + 1
    → listing_with T p k others e s w
    ≡ (full T p k (settled [] (goal_place goal) (valued T p k (core_of T p e) (Some (goal_place goal)))) >> listing T p k (record others { index = next })) s w
element-goes T p k others next goal e s w hp hi =
    ap (λ (q : Place). (full T p k (settled [] q (valued T p k (core_of T p e) (Some q)))
    >> elements_from T p k (suc others.index) (row_place others.array) (others.count - suc others.index) others.rest.now others.filler.now) s w) (sym hp)
    ∙ ap (λ i. (full T p k (settled [] (goal_place goal) (valued T p k (core_of T p e) (Some (goal_place goal))))
    >> elements_from T p k i (row_place others.array) (others.count - i) others.rest.now others.filler.now) s w) (let h : suc others.index ≡ next = omega (arith, hi) in h)
