-- Initialisers of static objects, lists too: where what a core gives them is known before the run, all that their plain statements do is known.
use Rattle.std.proofs.Common.{◌≡◌, ℕ, zero, suc, ◌+◌, ◌-◌, ◌*◌, ◌<◌, ◌≤◌, Bool, true, false, ◌&&◌, ◌||◌, if◌then◌else◌, List, [], ◌++◌, reverse, refl, sym, ap, ◌∙◌, subst, arith}
use Rattle.std.specs.Prelude.{pos}
use Rattle.cf_base.proofs.Tests.{both, all_of}
use Rattle.cf_core.specs.Types.{Name, SourceType}
use Rattle.cf_core.specs.Classes.{Class}
use Rattle.cf_core.specs.Core as core
use Rattle.cf_core.specs.Core.{Core, Function, Static, CoreFile}
use Rattle.cf_lower_layout.specs.Sorts.{sort_of}
use Rattle.cf_plain.specs.Plain.{Register, Plains, PlainFunction, PlainStatic, act, set, branch, nothing, more}
use Rattle.cf_plain.specs.Plain as plain
use Rattle.cf_sequence.specs.Built.{is_constant_value, is_constant_initial, is_constant_list, is_filling}
use Rattle.cf_sequence.specs.Made.{Temporary, temporaries, width}
use Rattle.cf_sequence.specs.Expressions.{Full, Destination, destination, value, flags, ended, settled, builds}
use Rattle.cf_sequence.specs.Statements.{started}
use Rattle.cf_sequence.proofs.Calling.{never, or-else}
use Rattle.cf_sequence.proofs.Filling.{fill, started-is}
use Rattle.cf_lower.specs.Constants.{Known, a_number, at, decayed, sum}
use Rattle.cf_lower_program.specs.Starts.{is_known, is_value_of, starts_well, act_known}
use Rattle.cf_sequence_lowered.specs.Known.{core_known, all_known}
use Rattle.cf_sequence_lowered.proofs.KnownSteps.{Knowing, Steps, Finds, steps-then, finds-set}
use Rattle.cf_core.specs.Core.{Cores, none}
use Rattle.cf_core.specs.Objects.{count, costs_tick}
use Rattle.cf_core.specs.Size.{size}
use Rattle.cf_core.specs.Types.{plain as unqualified, element, is_array, is_class}
use Rattle.cf_plain.specs.Plain.{Action}
use Rattle.cf_sequence.specs.Built.{is_row, are_constant_elements, is_constant_element}
use Rattle.cf_sequence.specs.Made.{width_all}
use Rattle.cf_sequence.specs.Expressions.{elements, repeated, in_turn, part_in, part_type, parts_count, begun, built}
use Rattle.cf_sequence.proofs.Elements.{no-tick, array-element}
use Rattle.cf_sequence.proofs.Constants.{constant-element}
use Rattle.cf_sequence.proofs.Lists.{row-array, array-no-class, element-costs}
use Rattle.cf_sequence_lowered.specs.Known.{listed_known, items_known, item_known}
use Rattle.cf_sequence_lowered.proofs.KnownSteps.{steps-none, steps-by, steps-act}
use Rattle.cf_sequence_lowered.proofs.KnownValues.{known-is, find}

-- a constant value makes no temporary, and is no initialiser that builds its object
none-made : (e : Core) → is_constant_value e ≡ true → (b : Bool) (k : ℕ) → temporaries b e k ≡ []
none-made (core.number z) is b k = refl
none-made (core.text j bytes) is b k = refl
none-made (core.static_object name t) is b k = refl
none-made (core.function name t) is b k = refl
none-made (core.address e) is b k = none-made e is b k
none-made (core.dereference e) is b k = none-made e is b k
none-made (core.decay e) is b k = none-made e is b k
none-made (core.convert t e) is b k = none-made e is b k
none-made (core.unary op kind e) is b k = none-made e is b k
none-made (core.logical_not e) is b k = none-made e is b k
none-made (core.index a o) is b k =
    let q = both (is_constant_value a) (is_constant_value o) is in
    ap (λ l. l ++ temporaries b o (k + width a)) (none-made a q.0 b k) ∙ none-made o q.1 b (k + width a)
none-made (core.pointer_operate op a o) is b k =
    let q = both (is_constant_value a) (is_constant_value o) is in
    ap (λ l. l ++ temporaries b o (k + width a)) (none-made a q.0 b k) ∙ none-made o q.1 b (k + width a)
none-made (core.operate op kind a o) is b k =
    let q = both (is_constant_value a) (is_constant_value o) is in
    ap (λ l. l ++ temporaries b o (k + width a)) (none-made a q.0 b k) ∙ none-made o q.1 b (k + width a)
none-made (core.logical_and a o) is b k =
    let q = both (is_constant_value a) (is_constant_value o) is in
    ap (λ l. l ++ temporaries true o (k + width a)) (none-made a q.0 b k) ∙ none-made o q.1 true (k + width a)
none-made (core.logical_or a o) is b k =
    let q = both (is_constant_value a) (is_constant_value o) is in
    ap (λ l. l ++ temporaries true o (k + width a)) (none-made a q.0 b k) ∙ none-made o q.1 true (k + width a)
none-made (core.conditional c a o) is b k =
    let q = both (is_constant_value c) (is_constant_value a && is_constant_value o) is in
    let arms = both (is_constant_value a) (is_constant_value o) q.1 in
    ap (λ l. l ++ temporaries true a (k + width c) ++ temporaries true o (k + width c + width a)) (none-made c q.0 b k)
    ∙ ap (λ l. l ++ temporaries true o (k + width c + width a)) (none-made a arms.0 true (k + width c)) ∙ none-made o arms.1 true (k + width c + width a)
none-made e is b k = never is

none-built : (e : Core) → is_constant_value e ≡ true → builds e ≡ false
none-built (core.number z) is = refl
none-built (core.text j bytes) is = refl
none-built (core.static_object name t) is = refl
none-built (core.function name t) is = refl
none-built (core.address e) is = refl
none-built (core.dereference e) is = refl
none-built (core.decay e) is = refl
none-built (core.convert t e) is = refl
none-built (core.unary op k e) is = refl
none-built (core.logical_not e) is = refl
none-built (core.index a o) is = refl
none-built (core.pointer_operate op a o) is = refl
none-built (core.operate op k a o) is = refl
none-built (core.logical_and a o) is = refl
none-built (core.logical_or a o) is = refl
none-built (core.conditional c a o) is = refl
none-built e is = never is

-- such an initialiser is its value, and the first one of its object
plain-start : (classes : List Class) (t : SourceType) (e : Core) → is_constant_value e ≡ true → (n k : ℕ) (rest : Plains)
    → started classes t e n k rest
    ≡ value classes (record { first = k; base = suc n }) e (destination n t) (suc n + width e) k (more (act (plain.first n (suc n + width e))) rest)
plain-start classes t e is n k rest =
    let x : Full = record { first = k; base = suc n } in
    let m : Register = suc n + width e in
    ap (λ (ts : List Temporary). flags x ts (value classes x e (destination n t) m k (settled e n m (ended x (reverse ts) rest)))) (none-made e is false k)
    ∙ ap (λ b. value classes x e (destination n t) m k (if b then rest else more (act (plain.first n m)) rest)) (none-built e is)

-- the first value of an object whose place is in register n
first-known : (name : Name) (o : ℕ) (t : SourceType) (n m : Register) (h : Knowing) (k : Known) → h n ≡ at name o t → h m ≡ k → is_known k ≡ true → is_value_of (sort_of t) k ≡ true
    → act_known h (plain.first n m) ≡ true
first-known name o t n m h k place is known fits =
    ap (λ p. is_known p && is_known (h m) && starts_well p (h m)) place ∙ ap (λ v. is_known (at name o t) && is_known v && starts_well (at name o t) v) is
    ∙ all_of (is_known k) (is_value_of (sort_of t) k) known fits

filling-quick : (e : Core) → is_filling e ≡ true → (classes : List Class) (t : SourceType) → costs_tick e classes t ≡ false
filling-quick core.zeros ok classes t = refl
filling-quick (core.string bytes) ok classes t = refl
filling-quick e ok classes t = never ok

module _ (f : Name) where
  -- code that begins an object whose place is in register n: all that it does is known, and it leaves that register and those below it
  pub record Begins (code : Plains → Plains) (n : Register) (g : Knowing) : Type 0 where
    pub after : Knowing
    pub below : (r : Register) → r ≤ n → after r ≡ g r
    pub steps : Steps f code g after

  begins-none : (n : Register) (g : Knowing) → Begins (λ rest. rest) n g
  begins-none n g = record { after = g; below = λ r le. refl; steps = steps-none f g }

  begins-then : (F G : Plains → Plains) (n : Register) (g : Knowing) (p : Begins F n g) → Begins G n (Begins.after p) → Begins (λ rest. F (G rest)) n g
  begins-then F G n g p q = record {
    after = Begins.after q;
    below = λ r le. Begins.below q r le ∙ Begins.below p r le;
    steps = steps-then f F G g (Begins.after p) (Begins.after q) (Begins.steps p) (Begins.steps q);
  }

  begins-by : (F G : Plains → Plains) (n : Register) (g : Knowing) → ((rest : Plains) → F rest ≡ G rest) → Begins G n g → Begins F n g
  begins-by F G n g same p = record { after = p.after; below = p.below; steps = steps-by f F G g p.after same p.steps }

  begins-act : (a : Action) (n : Register) (g : Knowing) → act_known g a ≡ true → Begins (λ rest. more (act a) rest) n g
  begins-act a n g ok = record { after = g; below = λ r le. refl; steps = steps-act f a g ok }

  begins-fill : (e : Core) → is_filling e ≡ true → (n : Register) (g : Knowing) → is_known (g n) ≡ true → Begins (λ rest. more (act (fill e n)) rest) n g
  begins-fill core.zeros ok n g known = begins-act (plain.zeros n) n g known
  begins-fill (core.string bytes) ok n g known = begins-act (plain.bytes n bytes) n g known
  begins-fill e ok n g known = never ok

  begins-if : (b : Bool) → b ≡ false → (a : Action) (n : Register) (g : Knowing) → Begins (λ rest. if b then more (act a) rest else rest) n g
  begins-if b off a n g =
      begins-by (λ rest. if b then more (act a) rest else rest) (λ rest. rest) n g (λ rest. ap (λ b. if b then more (act a) rest else rest) off) (begins-none n g)

  -- as often as elements are left out
  begins-repeated : (name : Name) (o : ℕ) (t : SourceType) (n : Register) (code : ℕ → Plains → Plains) → ((i : ℕ) (g : Knowing) → g n ≡ at name o t → Begins (code i) n g) → (i j : ℕ) (g : Knowing)
      → g n ≡ at name o t → Begins (repeated i j code) n g
  begins-repeated name o t n code one i zero g place = begins-none n g
  begins-repeated name o t n code one i (suc j) g place =
      let p = one i g place in
      let still : Begins.after p n ≡ at name o t = Begins.below p n (omega arith) ∙ place in
      begins-then (code i) (repeated (suc i) j code) n g p (begins-repeated name o t n code one (suc i) j (Begins.after p) still)

  -- the place of an element
  part-finds : (t : SourceType) → is_array t ≡ true → (i : ℕ) (n q : Register) (g : Knowing) (name : Name) (o : ℕ) → g q ≡ at name o t
      → Finds f (part_in n q t i) n (at name (o + i * size [] (element (unqualified t))) (element (unqualified t))) g
  part-finds t arr i n q g name o place =
      let u : SourceType = element (unqualified t) in
      let there : Known = at name (o + i * size [] u) u in
      let F : Plains → Plains = λ rest. more (set n (plain.decay q)) rest in
      let G : Plains → Plains = λ rest. more (set (suc n) (plain.number (pos i))) rest in
      let H : Plains → Plains = λ rest. more (set n (plain.index n (suc n))) rest in
      let a : Finds f F n (at name o u) g = finds-set f n (plain.decay q) (at name o u) g (ap decayed place) refl in
      let b : Finds f G (suc n) (a_number (pos i)) (Finds.after a) = finds-set f (suc n) (plain.number (pos i)) (a_number (pos i)) (Finds.after a) refl refl in
      let left : Finds.after b n ≡ at name o u = Finds.below b n (omega arith) ∙ Finds.value a in
      let c : Finds f H n there (Finds.after b) =
      finds-set f n (plain.index n (suc n)) there (Finds.after b) (ap (λ x. sum [] x (Finds.after b (suc n))) left ∙ ap (λ y. sum [] (at name o u) y) (Finds.value b)) refl in
      record {
        after = Finds.after c;
        value = Finds.value c;
        below = λ r lt. Finds.below c r lt ∙ Finds.below b r (omega arith) ∙ Finds.below a r lt;
        steps =
            steps-by f (part_in n q t i) (λ rest. F (G (H rest))) g (Finds.after c) (λ rest. ap (λ b. if b then F (G (H rest)) else more (set n (plain.member q i)) rest) arr)
            (steps-then f F (λ rest. G (H rest)) g (Finds.after a) (Finds.after c) (Finds.steps a) (steps-then f G H (Finds.after a) (Finds.after b) (Finds.after c) (Finds.steps b) (Finds.steps c)));
      }

  -- what is known of an initialiser, by its form
  list-known : (t : SourceType) (e : Core) → is_constant_list t e ≡ true → item_known f t e ≡ true → listed_known f t e ≡ true
  list-known t (core.list es last) is ok = or-else (items_known f (element (unqualified t)) es) false ok (λ known. known) (λ e. never e)
  list-known t e is ok = never is

  initial-known : (t : SourceType) (e : Core) → is_constant_initial e ≡ true → item_known f t e ≡ true
      → is_filling e || (all_known f e && is_value_of (sort_of t) (core_known f e)) ≡ true
  initial-known t (core.list es last) is ok = never is
  initial-known t e is ok = ok

  module _ (classes : List Class) where
    -- an initialiser of an object of this type, wherever it is
    abbrev pub BeginsAt : SourceType → Core → Type 0
    BeginsAt t e = (n k : ℕ) (g : Knowing) (name : Name) (o : ℕ) → g n ≡ at name o t → Begins (started classes t e n k) n g

    filling-begins : (t : SourceType) (e : Core) → is_filling e ≡ true → BeginsAt t e
    filling-begins t e ok n k g name o place =
        begins-by (started classes t e n k) (λ rest. more (act (fill e n)) rest) n g (started-is classes t e ok n k) (begins-fill e ok n g (ap is_known place))

    value-begins : (t : SourceType) (e : Core) → is_constant_value e ≡ true → all_known f e ≡ true → is_value_of (sort_of t) (core_known f e) ≡ true → BeginsAt t e
    value-begins t e is ok fits n k g name o place =
        let m : Register = suc n + width e in
        let y : Full = record { first = k; base = suc n } in
        let F : Plains → Plains = value classes y e (destination n t) m k in
        let p : Finds f F m (core_known f e) g = find f classes e is ok y (destination n t) m k g in
        let still : Finds.after p n ≡ at name o t = Finds.below p n (omega arith) ∙ place in
        let known : act_known (Finds.after p) (plain.first n m) ≡ true =
        first-known name o t n m (Finds.after p) (core_known f e) still (Finds.value p) (known-is f e is ok) fits in
        begins-by (started classes t e n k) (λ rest. F (more (act (plain.first n m)) rest)) n g (λ rest. plain-start classes t e is n k rest)
        (record {
          after = Finds.after p;
          below = λ r le. Finds.below p r (omega arith);
          steps =
              steps-then f F (λ rest. more (act (plain.first n m)) rest) g (Finds.after p) (Finds.after p) (Finds.steps p) (steps-act f (plain.first n m) (Finds.after p) known);
        })

    initial-begins : (t : SourceType) (e : Core) → is_constant_initial e ≡ true → item_known f t e ≡ true → BeginsAt t e
    initial-begins t e initial ok = by (is_filling e) refl initial (initial-known t e initial ok)
      where
        by : (b : Bool) → is_filling e ≡ b → b || is_constant_value e ≡ true → b || (all_known f e && is_value_of (sort_of t) (core_known f e)) ≡ true → BeginsAt t e
        by true fills is ok = filling-begins t e fills
        by false other is ok = let p = both (all_known f e) (is_value_of (sort_of t) (core_known f e)) ok in value-begins t e is p.0 p.1

    -- ---- lists

    abbrev item_code : Bool → Core → SourceType → Register → ℕ → Register → ℕ → Plains → Plains
    item_code tick e t n i m k = in_turn tick (λ rest. part_in m n t i (started classes (part_type classes t i) e m k rest))

    -- an element: its place in a register behind that of the list's
    item-begins : (t : SourceType) → is_array t ≡ true → (tick : Bool) → tick ≡ false → (e : Core) → BeginsAt (element (unqualified t)) e → (i : ℕ) (n m : Register) (k : ℕ) → n < m
        → (g : Knowing) (name : Name) (o : ℕ) → g n ≡ at name o t → Begins (item_code tick e t n i m k) n g
    item-begins t arr tick quick e begins i n m k lt g name o place =
        let u : SourceType = element (unqualified t) in
        let p = part-finds t arr i m n g name o place in
        let b = begins m k (Finds.after p) name (o + i * size [] u) (Finds.value p) in
        let main : Begins (λ rest. part_in m n t i (started classes u e m k rest)) n g =
        record {
          after = Begins.after b;
          below = λ r le. Begins.below b r (omega arith) ∙ Finds.below p r (omega arith);
          steps = steps-then f (part_in m n t i) (started classes u e m k) g (Finds.after p) (Begins.after b) (Finds.steps p) (Begins.steps b);
        } in
        subst (λ l. Begins (item_code l e t n i m k) n g) (sym quick)
        (subst (λ v. Begins (λ rest. part_in m n t i (started classes v e m k rest)) n g) (sym (array-element classes t arr i)) main)

    abbrev RowBegins : SourceType → Cores → Type 0
    RowBegins t es = (x : Full) (i n m k : ℕ) → n < m → (g : Knowing) (name : Name) (o : ℕ) → g n ≡ at name o t
        → Begins (elements classes x es (record { register = n; type = t }) i m k) n g

    list-begins : (t : SourceType) (es : Cores) (last : Core) → is_array t ≡ true → is_filling last ≡ true → RowBegins t es → BeginsAt t (core.list es last)
    list-begins t es last arr fills row n k g name o place =
        let x : Full = record { first = k; base = suc n } in
        let to : Destination = record { register = n; type = t } in
        let m : Register = suc n + width (core.list es last) in
        let l : ℕ = k + width_all es in
        let tick : Bool = is_array t && costs_tick last classes (part_type classes t 0) in
        let quick : tick ≡ false = no-tick (is_array t) (costs_tick last classes (part_type classes t 0)) (filling-quick last fills classes (part_type classes t 0)) in
        let no_class : is_class t ≡ false = array-no-class t arr in
        let lt : n < m = omega arith in
        let left : Plains → Plains = repeated (count es) (parts_count classes t - count es) (λ i. item_code tick last t n i m l) in
        let p : Begins (begun classes to) n g = begins-if (is_class t) no_class (plain.begin_list n) n g in
        let p_place : Begins.after p n ≡ at name o t = Begins.below p n (omega arith) ∙ place in
        let q : Begins (elements classes x es to 0 m k) n (Begins.after p) = row x 0 n m k lt (Begins.after p) name o p_place in
        let q_place : Begins.after q n ≡ at name o t = Begins.below q n (omega arith) ∙ p_place in
        let r : Begins left n (Begins.after q) =
        begins-repeated name o t n (λ i. item_code tick last t n i m l)
        (λ i g place. item-begins t arr tick quick last (filling-begins (element (unqualified t)) last fills) i n m l lt g name o place) (count es) (parts_count classes t - count es) (Begins.after q) q_place in
        begins-then (begun classes to) (λ rest. elements classes x es to 0 m k (left (built classes to rest))) n g p
        (begins-then (elements classes x es to 0 m k) (λ rest. left (built classes to rest)) n (Begins.after p) q
        (begins-then left (built classes to) n (Begins.after q) r (begins-if (is_class t) no_class (plain.end_list n) n (Begins.after r))))

    row-begins : (t : SourceType) (e : Core) (es : Cores) → is_array t ≡ true → ((u : SourceType) → costs_tick e classes u ≡ false) → BeginsAt (element (unqualified t)) e → RowBegins t es
        → RowBegins t (core.more e es)
    row-begins t e es arr free one others x i n m k lt g name o place =
        let tick : Bool = is_array t && costs_tick e classes (part_type classes t i) in
        let quick : tick ≡ false = no-tick (is_array t) (costs_tick e classes (part_type classes t i)) (free (part_type classes t i)) in
        let p : Begins (item_code tick e t n i m k) n g = item-begins t arr tick quick e one i n m k lt g name o place in
        let still : Begins.after p n ≡ at name o t = Begins.below p n (omega arith) ∙ place in
        begins-then (item_code tick e t n i m k) (elements classes x es (record { register = n; type = t }) (suc i) m (k + width e)) n g p
        (others x (suc i) n m (k + width e) lt (Begins.after p) name o still)

    mutual
      known-list : (t : SourceType) (e : Core) → is_constant_list t e ≡ true → listed_known f t e ≡ true → BeginsAt t e
      known-list t (core.list es last) is ok =
          let u : SourceType = element (unqualified t) in
          let one = both (is_row t) (are_constant_elements u es && is_filling last) is in
          let two = both (are_constant_elements u es) (is_filling last) one.1 in
          list-begins t es last (row-array t one.0) two.1 (known-row t es (row-array t one.0) two.0 ok)
      known-list t e is ok = never is

      known-row : (t : SourceType) (es : Cores) → is_array t ≡ true → are_constant_elements (element (unqualified t)) es ≡ true → items_known f (element (unqualified t)) es ≡ true → RowBegins t es
      known-row t none arr is ok = λ x i n m k lt g name o place. begins-none n g
      known-row t (core.more e es) arr is ok =
          let u : SourceType = element (unqualified t) in
          let p = both (is_constant_element u e) (are_constant_elements u es) is in
          let q = both (item_known f u e) (items_known f u es) ok in
          row-begins t e es arr (element-costs u e (constant-element u e p.0) classes)
          (or-else (is_constant_initial e) (is_constant_list u e) p.0 (λ initial. initial-begins u e initial q.0) (λ list. known-list u e list (list-known u e list q.0)))
          (known-row t es arr p.1 q.1)

    pub known-begins : (t : SourceType) (e : Core) → is_constant_element t e ≡ true → item_known f t e ≡ true → BeginsAt t e
    known-begins t e is ok =
        or-else (is_constant_initial e) (is_constant_list t e) is (λ initial. initial-begins t e initial ok) (λ list. known-list t e list (list-known t e list ok))
