-- What is written for a list is the definition's: its elements in order, each by its own initialiser, and what it leaves out (8.4.1).
use Rattle.std.proofs.Common.{◌≡◌, ℕ, zero, suc, ◌+◌, ◌-◌, Bool, true, false, ◌&&◌, if◌then◌else◌, List, [], ◌∷◌, length, Some, refl, ap, sym, ◌∙◌, arith}
use Rattle.std.specs.Prelude.{pos}
use Rattle.cf_base.proofs.Tests.{both}
use Rattle.cf_classes.specs.declared.class.MemberRef.{MemberRef}
use Rattle.cf_core.specs.Types.{Name, SourceType, is_array, plain as unqualified, element}
use Rattle.cf_core.specs.Classes.{Class}
use Rattle.cf_core.specs.Core as core
use Rattle.cf_core.specs.Core.{Core, Cores, none}
use Rattle.cf_core.specs.FromTypes.{Tables, type_of}
use Rattle.cf_core.specs.Nodes.{nodes, nodes_all}
use Rattle.cf_core.specs.Objects.{count, costs_tick}
use Rattle.cf_core.specs.Places.{bound}
use Rattle.cf_plain.specs.declared.action.Action.TheVariants as action
use Rattle.cf_plain.specs.Plain.{Plains, more, set as sets, act as acts}
use Rattle.cf_plain.specs.Plain as plain
use Rattle.cf_sequence.specs.Built.{is_row, is_filling, is_element, are_elements}
use Rattle.cf_sequence.specs.Made.{added, width, width_all}
use Rattle.cf_sequence.specs.Expressions.{Full, part_in, part_type, parts_count, in_turn, repeated}
use Rattle.cf_sequence.specs.Expressions as definition
use Rattle.cf_sequence.specs.Statements.{started}
use Rattle.cf_sequence.proofs.Filling.{filling-adds, filling-element, started-is}
use Rattle.cf_sequence.proofs.Lists.{row-array, array-no-class, element-costs, all-width}
use Rattle.cf_sequence.proofs.Elements.{array-element, array-parts, no-tick}
use Rattle.cf_sequence_stmt.specs.declared.rows.Row.{Row}
use Rattle.cf_sequence_stmt.specs.Rows.{row_at}
use Rattle.cf_sequence_stmt.specs.Bodies.{element_placed}
use Rattle.cf_sequence_stmt.specs.Bodies as bodies
use Rattle.cf_sequence_stmt.specs.Steps.{Step, elements, left_out, elements_in, left_out_in, listed}
use Rattle.cf_sequence_expr.specs.declared.writing.Writing.{Writing}
use Rattle.cf_sequence_written.proofs.Followed.{followed}
use Rattle.cf_sequence_written.proofs.Puts.{Puts, Still, puts-none, puts-as, puts-still, puts-then, still-set, still-then, still-puts}
use Rattle.cf_sequence_written.proofs.Values.{nodes-count}
use Rattle.cf_sequence_written.proofs.Parameters.{RowOf}
use Rattle.cf_sequence_written.proofs.Wholes.{Initiates, Lists, puts-started}

module _ (tables : Tables) (signature : MemberRef → Name) where
  still-none : Still tables signature (λ w. w) (λ rest. rest)
  still-none = record { code = λ w rest. refl; next = λ w. refl }

  still-as : {f : Writing → Writing} {g h : Plains → Plains} → Still tables signature f g → ((rest : Plains) → g rest ≡ h rest) → Still tables signature f h
  still-as p same = record { code = λ w rest. p.code w rest ∙ ap (followed tables signature w.code) (same rest); next = p.next }

  -- the place of an element
  still-placed : (n m i : ℕ) (T : SourceType) → is_array T ≡ true → Still tables signature (element_placed n m i) (part_in m n T i)
  unfolding element_placed
  still-placed n m i T arr =
      still-as
      (still-then tables signature (still-set tables signature m (action.Decay n))
      (still-then tables signature (still-set tables signature (suc m) (action.Number (pos i))) (still-set tables signature m (action.Index m (suc m)))))
      (λ rest. ap (λ b. if b
      then more (sets m (plain.decay n)) (more (sets (suc m) (plain.number (pos i))) (more (sets m (plain.index m (suc m))) rest))
      else more (sets m (plain.member n i)) rest) (sym arr))

  -- the elements of an array whose elements are of the type of this number
  pub record PutsElements (ss : List Step) (es : Cores) : Type 0 where
    pub count_is : length ss ≡ count es
    pub puts : (classes : List Class) (u : ℕ) (T : SourceType) → is_array T ≡ true → type_of tables u ≡ element (unqualified T) → are_elements (type_of tables u) es ≡ true
        → (x : Full) (n m i : ℕ) → Puts tables signature (elements u n m i ss) (λ k rest. definition.elements classes x es (record { register = n; type = T }) i m k rest) (width_all es)

  pub elements-none : PutsElements [] none
  elements-none = record { count_is = refl; puts = λ classes u T arr same ok x n m i. puts-none tables signature }

  pub elements-more : {ss : List Step} {es : Cores} (s : Step) (e : Core) → ((t : ℕ) → is_element (type_of tables t) e ≡ true → Initiates tables signature s.initial s.piece t e)
      → PutsElements ss es → PutsElements (s ∷ ss) (core.more e es)
  elements-more {ss} {es} s e one all = record {
    count_is = ap suc all.count_is;
    puts = λ classes u T arr same ok x n m i.
        let U : SourceType = type_of tables u in
        let parts = both (is_element U e) (are_elements U es) ok in
        puts-as tables signature
        (puts-then tables signature
        (still-puts tables signature (still-placed n m i T arr) (puts-started tables signature classes u m s.initial (one u parts.0)))
        (all.puts classes u T arr same parts.1 x n m (suc i)))
        (λ k rest.
        let code : Bool → SourceType → Plains = λ b v.
        in_turn b (λ rest. part_in m n T i (started classes v e m k rest)) (definition.elements classes x es (record { register = n; type = T }) (suc i) m (k + width e) rest) in
        ap (code false) (same ∙ sym (array-element classes T arr i))
        ∙ ap (λ b. code b (part_type classes T i)) (sym (no-tick (is_array T) _ (element-costs U e parts.0 classes (part_type classes T i)))))
        refl;
  }

  -- ---- what is left out

  module _ (classes : List Class) (u : ℕ) (T : SourceType) (arr : is_array T ≡ true) (same : type_of tables u ≡ element (unqualified T))
      (s : Step) (last : Core) (fills : is_filling last ≡ true) (one : Initiates tables signature s.initial s.piece u last) (n m l : ℕ) where
    -- it adds no local, so it does not matter which is next
    still-last : Still tables signature (bodies.started s.initial s.piece u m) (λ rest. started classes (type_of tables u) last m l rest)
    still-last =
        let p = puts-started tables signature classes u m s.initial one in
        let none_there : width last ≡ 0 = ap length (filling-adds last fills) in
        record {
          code = λ w rest. Puts.code p w rest
              ∙ ap (followed tables signature w.code) (started-is classes (type_of tables u) last fills m w.next rest ∙ sym (started-is classes (type_of tables u) last fills m l rest));
          next = λ w. let goes = Puts.next p w in omega (arith, goes, none_there);
        }

    abbrev pub item_code : ℕ → Plains → Plains
    item_code i rest =
        in_turn (is_array T && costs_tick last classes (part_type classes T 0)) (λ rest. part_in m n T i (started classes (part_type classes T i) last m l rest)) rest

    still-item : (i : ℕ) → Still tables signature (λ w. bodies.started s.initial s.piece u m (element_placed n m i w)) (item_code i)
    still-item i =
        still-as (still-then tables signature (still-placed n m i T arr) still-last)
        (λ rest.
        let code : Bool → SourceType → Plains = λ b v. in_turn b (λ rest. part_in m n T i (started classes v last m l rest)) rest in
        ap (code false) (same ∙ sym (array-element classes T arr i))
        ∙ ap (λ b. code b (part_type classes T i))
        (sym (no-tick (is_array T) _ (element-costs (part_type classes T 0) last (filling-element (part_type classes T 0) last fills) classes (part_type classes T 0)))))

    pub still-left : (c i : ℕ) → Still tables signature (left_out u n m i c s) (λ rest. repeated i c item_code rest)
    still-left zero i = still-none
    still-left (suc c) i = still-then tables signature (still-item i) (still-left c (suc i))

  -- ---- lists

  module _ (ss : List Step) (s : Step) (es : Cores) (last : Core) (all : PutsElements ss es)
      (one : (t : ℕ) → is_element (type_of tables t) last ≡ true → Initiates tables signature s.initial s.piece t last) where
    list-width : is_filling last ≡ true → width_all es ≡ width (core.list es last)
    list-width fills =
        let more_none : length (added (nodes_all es)) ≡ length (added (nodes_all es)) + 0 = omega arith in
        all-width es ∙ more_none ∙ ap (λ z. length (added (nodes_all es)) + z) (sym (ap length (filling-adds last fills))) ∙ nodes-count (nodes_all es) (nodes last)

    puts-list : (classes : List Class) (u : ℕ) (b : ℕ) (T : SourceType) → is_row T ≡ true → type_of tables u ≡ element (unqualified T) → b ≡ bound T → are_elements (type_of tables u) es ≡ true → is_filling last ≡ true
        → (n m : ℕ) → m ≡ suc n + width (core.list es last) → (K : ℕ)
        → Puts tables signature (λ w. left_out u n m (length ss) (b - length ss) s (elements u n m 0 ss w))
        (λ k rest. definition.elements classes (record { first = K; base = suc n }) es (record { register = n; type = T }) 0 m k
        (repeated (length ss) (b - length ss) (λ i rest.
        in_turn (is_array T && costs_tick last classes (part_type classes T 0)) (λ rest. part_in m n T i (started classes (part_type classes T i) last m (K + width_all es) rest)) rest) rest)) (width_all es)
    puts-list classes u b T row same bounds ok fills n m free K =
        let arr = row-array T row in
        puts-still tables signature
        (all.puts classes u T arr same ok (record { first = K; base = suc n }) n m 0)
        (still-left classes u T arr same s last fills (one u (filling-element (type_of tables u) last fills)) n m (K + width_all es) (b - length ss) (length ss))

    as-defined : (classes : List Class) (b : ℕ) (T : SourceType) → is_row T ≡ true → b ≡ bound T → (n m : ℕ) → m ≡ suc n + width (core.list es last) → (K : ℕ) (rest : Plains)
        → definition.elements classes (record { first = K; base = suc n }) es (record { register = n; type = T }) 0 m K
        (repeated (length ss) (b - length ss) (λ i rest.
        in_turn (is_array T && costs_tick last classes (part_type classes T 0)) (λ rest. part_in m n T i (started classes (part_type classes T i) last m (K + width_all es) rest)) rest) rest)
        ≡ started classes T (core.list es last) n K rest
    as-defined classes b T row bounds n m free K rest =
        let arr = row-array T row in
        let code : Bool → ℕ → ℕ → ℕ → Plains = λ made m c q.
        let inside : Plains = definition.elements classes (record { first = K; base = suc n }) es (record { register = n; type = T }) 0 m K
        (repeated c (q - c) (λ i rest.
        in_turn (is_array T && costs_tick last classes (part_type classes T 0)) (λ rest. part_in m n T i (started classes (part_type classes T i) last m (K + width_all es) rest)) rest)
        (if made then more (acts (plain.end_list n)) rest else rest)) in
        if made then more (acts (plain.begin_list n)) inside else inside in
        ap (λ m. code false m (length ss) b) free
        ∙ ap (λ c. code false (suc n + width (core.list es last)) c b) all.count_is
        ∙ ap (λ q. code false (suc n + width (core.list es last)) (count es) q) (bounds ∙ sym (array-parts classes T arr))
        ∙ ap (λ made. code made (suc n + width (core.list es last)) (count es) (parts_count classes T)) (sym (array-no-class T arr))

    listed-as : (r : Row) (w : Writing) (n m : ℕ) → listed (Some r) ss s n m w ≡ left_out r.element n m (length ss) (r.bound - length ss) s (elements r.element n m 0 ss w)
    unfolding listed elements_in left_out_in
    listed-as r w n m = refl

    pub lists-are : ((t : ℕ) → is_row (type_of tables t) ≡ true → RowOf tables t) → Lists tables signature (λ t n m w. listed (row_at tables.types t) ss s n m w) (core.list es last)
    lists-are rows = record {
      puts = λ classes t n m ok free.
          let T : SourceType = type_of tables t in
          let v : SourceType = element (unqualified T) in
          let outer = both (is_row T) (are_elements v es && is_filling last) ok in
          let inner = both (are_elements v es) (is_filling last) outer.1 in
          let r = rows t outer.0 in
          let there : are_elements (type_of tables (Row.element r.row)) es ≡ true = ap (λ z. are_elements z es) r.element_is ∙ inner.0 in
          let puts = puts-list classes (Row.element r.row) (Row.bound r.row) T outer.0 r.element_is r.bound_is there inner.1 n m free in
          let same : (w : Writing) → listed (row_at tables.types t) ss s n m w
          ≡ left_out (Row.element r.row) n m (length ss) (Row.bound r.row - length ss) s (elements (Row.element r.row) n m 0 ss w) =
          λ w. ap (λ o. listed o ss s n m w) r.is ∙ listed-as r.row w n m in
          record {
            code = λ w rest.
                ap (λ (z : Writing). followed tables signature z.code rest) (same w) ∙ Puts.code (puts w.next) w rest
                ∙ ap (followed tables signature w.code) (as-defined classes (Row.bound r.row) T outer.0 r.bound_is n m free w.next rest);
            next = λ w. ap Writing.next (same w) ∙ Puts.next (puts w.next) w ∙ ap (λ z. w.next + z) (list-width inner.1);
          };
    }
