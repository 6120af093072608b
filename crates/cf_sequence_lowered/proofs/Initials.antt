-- Full expressions, initialisers and lists: what is so of each of their nodes makes their plain statements pass.
use Rattle.std.proofs.Common.{◌≡◌, ℕ, suc, zero, ◌+◌, ◌-◌, ◌*◌, ◌<◌, ◌≤◌, Bool, true, false, ◌&&◌, ◌||◌, not, nat_lt, if◌then◌else◌, List, ◌++◌, length, reverse, refl, sym, ap, subst, arith}
use Rattle.std.specs.Prelude.{ℤ, pos, Option, None}
use Rattle.cf_base.proofs.Tests.{both}
use Rattle.cf_core.specs.Types.{SourceType, is_class, is_array, element, plain as unqualified}
use Rattle.cf_core.specs.Classes.{Class}
use Rattle.cf_core.specs.Core as core
use Rattle.cf_core.specs.Core.{Core, Cores, no_temporary, local_temporary, static_temporary, none}
use Rattle.cf_core.specs.Joined.{is_nothing}
use Rattle.cf_core.specs.Nodes.{nodes, nodes_all}
use Rattle.cf_core.specs.Objects.{count, costs_tick}
use Rattle.cf_core.specs.Places.{is_reference}
use Rattle.cf_plain.specs.Plain.{Register, Action, Plains, act, set, branch, loop, leave, nothing, more}
use Rattle.cf_plain.specs.Plain as plain
use Rattle.cf_sequence.specs.Built.{is_value, is_start, is_filling, is_initial, is_row, is_list, is_element, are_elements, is_held, is_bound}
use Rattle.cf_sequence.specs.Made.{Temporary, temporaries, width, width_all, held_by}
use Rattle.cf_sequence.specs.Expressions.{Full, Destination, destination, value, whole, flags, ended, settled, elements, repeated, in_turn, part_in, part_type, parts_count, begun, built}
use Rattle.cf_sequence.specs.Statements.{started}
use Rattle.cf_sequence.proofs.Calling.{never, or-else}
use Rattle.cf_sequence.proofs.Constants.{constant-value}
use Rattle.cf_sequence.proofs.Elements.{no-tick}
use Rattle.cf_sequence.proofs.Filling.{fill, started-is, element-holds}
use Rattle.cf_sequence.proofs.Fulls.{nothing-is, held_at}
use Rattle.cf_sequence.proofs.Lists.{element-costs}
use Rattle.cf_sequence_lowered.proofs.Each.{Each, each-left, each-right}
use Rattle.cf_sequence_lowered.proofs.Rooms.{Room, Space, space-left, space-right, space-elements}
use Rattle.cf_sequence_lowered.proofs.Suits.{Suits, Own, Stays}
use Rattle.cf_sequence_lowered.proofs.Temporaries.{ends, ends-reversed, fine-flags, fine-ended}
use Rattle.cf_sequence_lowered.proofs.Expressions.{good-value}
use Rattle.cf_sequence_lowered.proofs.Walk.{Fine, fine-none, fine-then, fine-by, fine-set, fine-act, fine-settled}

module _ (T : Action → Type 0) (L : List ℤ → Type 0) (U : Core → Type 0) (B p W : ℕ) (suits : Suits T L U p) (classes : List Class) where
  -- the place of a full expression's value
  whole-room : (e : Core) (n k : ℕ) → n + width e + 3 * length (nodes e) + 3 ≤ B → p ≤ k → Room B p (record { first = k; base = n }) (n + width e) k (nodes e)
  whole-room e n k le behind = record { registers = omega arith; flags = omega arith; begun = omega arith; behind = behind }

  -- an expression, and then code with the register of its value
  pub fine-whole : (d : ℕ) (e : Core) → is_value e ≡ true → Each U (nodes e) → (n k : ℕ) → n + width e + 3 * length (nodes e) + 3 ≤ B → p ≤ k
      → (go : Register → Plains → Plains) (rest : Register → Plains → Plains) → ((m : Register) → m < B → Fine T L B d (go m)) → ((m : Register) → m < B → Fine T L B d (rest m))
      → (into : Option Destination) → Fine T L B d (λ last. whole e n k (λ x m rest. value classes x e into m k (go m rest)) (λ m. rest m last))
  fine-whole d e is u n k le behind go rest f g into =
      let x : Full = record { first = k; base = n } in
      let m : ℕ = n + width e in
      let r = whole-room e n k le behind in
      let low : m < B = omega arith in
      let ts : List Temporary = temporaries false e k in
      let ends_of : Plains → Plains = λ last. ended x (reverse ts) (rest m last) in
      fine-then T L B d (flags x ts) (λ last. value classes x e into m k (go m (ends_of last))) (fine-flags T L U B p suits d x ts (ends T L U B p suits e is u false x m k r))
      (fine-then T L B d (value classes x e into m k) (λ last. go m (ends_of last)) (good-value T L U B p suits classes e is u d x into m k r)
      (fine-then T L B d (go m) ends_of (f m low)
      (fine-then T L B d (ended x (reverse ts)) (rest m) (fine-ended T L U B p suits d x (reverse ts) (ends-reversed T L U B p suits e is u x m k r)) (g m low))))

  -- an initialiser of a place
  pub fine-fill : (d : ℕ) (e : Core) → is_filling e ≡ true → Each U (nodes e) → (n : Register) → Fine T L B d (λ rest. more (act (fill e n)) rest)
  fine-fill d core.zeros ok u n = fine-act T L B d (plain.zeros n) (suits.neutral (plain.zeros n) refl)
  fine-fill d (core.string bytes) ok u n = fine-act T L B d (plain.bytes n bytes) (suits.string bytes n u.0)
  fine-fill d e ok u n = never ok

  -- an initialiser's code, of a place in register n
  abbrev pub Sound : Core → Type 0
  Sound e = (d : ℕ) (t : SourceType) (n k : ℕ) → Space B p W d n k (nodes e) → Fine T L B d (started classes t e n k)

  pub initial-sound : (e : Core) → is_initial e ≡ true → Each U (nodes e) → Sound e
  initial-sound e ok u d t n k s =
      or-else (is_filling e) (is_start e) ok
      (λ fills. fine-by T L B d (started classes t e n k) (λ rest. more (act (fill e n)) rest) (started-is classes t e fills n k) (fine-fill d e fills u n))
      (λ starts. or-else (is_nothing e) (is_value e) starts
      (λ blank. fine-by T L B d (started classes t e n k) (λ rest. rest) (λ rest. ap (λ e. started classes t e n k rest) (nothing-is e blank)) (fine-none T L B d))
      (λ is.
      fine-whole d e is u (suc n) k (let a = Space.registers s in let b = Space.width s in omega arith) (Space.behind s) (λ m. settled e n m) (λ m rest. rest)
      (λ m low. fine-settled T L B d e n m (suits.neutral (plain.first n m) refl)) (λ m low. fine-none T L B d) (destination n t)))

  -- ---- lists

  fine-part : (d : ℕ) (n q : Register) (t : SourceType) (i : ℕ) → suc n < B → Fine T L B d (part_in n q t i)
  fine-part d n q t i low = by (is_array t)
    where
      first : n < B
      first = omega arith

      by : (l : Bool) → Fine T L B d (λ rest. if l then more (set n (plain.decay q)) (more (set (suc n) (plain.number (pos i))) (more (set n (plain.index n (suc n))) rest)) else more (set n (plain.member q i)) rest)
      by true = record {
        pass = λ rest ok. ((first, suits.neutral (plain.decay q) refl), ((low, suits.counter i), ((first, suits.neutral (plain.index n (suc n)) refl), ok)));
        labelled = λ rest. refl;
      }
      by false = fine-set T L B d n (plain.member q i) first (suits.neutral (plain.member q i) refl)

  fine-repeated : (d i j : ℕ) (code : ℕ → Plains → Plains) → ((i : ℕ) → Fine T L B d (code i)) → Fine T L B d (repeated i j code)
  fine-repeated d i zero code q = fine-none T L B d
  fine-repeated d i (suc j) code q = fine-then T L B d (code i) (repeated (suc i) j code) (q i) (fine-repeated d (suc i) j code q)

  fine-if : (d : ℕ) (l : Bool) (a : Action) → T a → Fine T L B d (λ rest. if l then more (act a) rest else rest)
  fine-if d true a t = fine-act T L B d a t
  fine-if d false a t = fine-none T L B d

  abbrev item_code : Bool → Core → Destination → ℕ → Register → ℕ → Plains → Plains
  item_code tick e to i n k = in_turn tick (λ rest. part_in n to.register to.type i (started classes (part_type classes to.type i) e n k rest))

  -- an element, of which none spends a tick
  fine-item : (d : ℕ) (tick : Bool) → tick ≡ false → (e : Core) → Sound e → (to : Destination) (i n k : ℕ) → suc n < B → Space B p W d n k (nodes e)
      → Fine T L B d (item_code tick e to i n k)
  fine-item d tick quick e sound to i n k low s =
      subst (λ b. Fine T L B d (item_code b e to i n k)) (sym quick)
      (fine-then T L B d (part_in n to.register to.type i) (started classes (part_type classes to.type i) e n k) (fine-part d n to.register to.type i low)
      (sound d (part_type classes to.type i) n k s))

  filling-sound : (e : Core) → is_filling e ≡ true → Each U (nodes e) → Sound e
  filling-sound e ok u d t n k s = fine-by T L B d (started classes t e n k) (λ rest. more (act (fill e n)) rest) (started-is classes t e ok n k) (fine-fill d e ok u n)

  filling-costs : (e : Core) → is_filling e ≡ true → (u : SourceType) → costs_tick e classes u ≡ false
  filling-costs core.zeros ok u = refl
  filling-costs (core.string bytes) ok u = refl
  filling-costs e ok u = never ok

  abbrev AllSound : Cores → Type 0
  AllSound es = (d : ℕ) (x : Full) (to : Destination) (i n k : ℕ) → suc n < B → Space B p W d n k (nodes_all es) → Fine T L B d (elements classes x es to i n k)

  list-of : (es : Cores) (last : Core) → AllSound es → is_filling last ≡ true → Each U (nodes last) → Sound (core.list es last)
  list-of es last row fills u d t n k s =
      let e = core.list es last in
      let x : Full = record { first = k; base = suc n } in
      let to : Destination = record { register = n; type = t } in
      let m : Register = suc n + width e in
      let l : ℕ = k + width_all es in
      let tick : Bool = is_array t && costs_tick last classes (part_type classes t 0) in
      let left : Plains → Plains = repeated (count es) (parts_count classes t - count es) (λ i. item_code tick last to i m l) in
      let inside = space-elements B p W d n k e (nodes_all es ++ nodes last) refl s in
      let low : suc m < B = let a = Space.registers s in let b = Space.width s in omega arith in
      let quick : tick ≡ false = no-tick (is_array t) (costs_tick last classes (part_type classes t 0)) (filling-costs last fills (part_type classes t 0)) in
      let first = space-left B p W d m k (nodes_all es) (nodes last) inside in
      let second = space-right B p W d m k (nodes_all es) (nodes last) inside in
      let behind : Space B p W d m l (nodes last) =
      record { registers = Space.registers second; width = Space.width second; behind = (let a = Space.behind s in omega arith); depth = Space.depth second } in
      fine-then T L B d (begun classes to) (λ rest. elements classes x es to 0 m k (left (built classes to rest))) (fine-if d (is_class t) (plain.begin_list n) (suits.neutral (plain.begin_list n) refl))
      (fine-then T L B d (elements classes x es to 0 m k) (λ rest. left (built classes to rest)) (row d x to 0 m k low first)
      (fine-then T L B d left (built classes to)
      (fine-repeated d (count es) (parts_count classes t - count es) (λ i. item_code tick last to i m l) (λ i. fine-item d tick quick last (filling-sound last fills u) to i m l low behind))
      (fine-if d (is_class t) (plain.end_list n) (suits.neutral (plain.end_list n) refl))))

  row-of : (e : Core) (es : Cores) → ((u : SourceType) → costs_tick e classes u ≡ false) → Sound e → AllSound es → AllSound (core.more e es)
  row-of e es free sound row d x to i n k low s =
      let tick : Bool = is_array to.type && costs_tick e classes (part_type classes to.type i) in
      let quick : tick ≡ false = no-tick (is_array to.type) (costs_tick e classes (part_type classes to.type i)) (free (part_type classes to.type i)) in
      fine-then T L B d (item_code tick e to i n k) (elements classes x es to (suc i) n (k + width e))
      (fine-item d tick quick e sound to i n k low (space-left B p W d n k (nodes e) (nodes_all es) s))
      (row d x to (suc i) n (k + width e) low (space-right B p W d n k (nodes e) (nodes_all es) s))

  mutual
    list-sound : (t : SourceType) (e : Core) → is_list t e ≡ true → Each U (nodes e) → Sound e
    list-sound t (core.list es last) ok u =
        let v : SourceType = element (unqualified t) in
        let parts = both (are_elements v es) (is_filling last) (both (is_row t) (are_elements v es && is_filling last) ok).1 in
        list-of es last (elements-sound v es parts.0 (each-left U (nodes_all es) (nodes last) u.1)) parts.1 (each-right U (nodes_all es) (nodes last) u.1)
    list-sound t e ok u = never ok

    elements-sound : (t : SourceType) (es : Cores) → are_elements t es ≡ true → Each U (nodes_all es) → AllSound es
    elements-sound t none ok u = λ d x to i n k low s. fine-none T L B d
    elements-sound t (core.more e es) ok u =
        let parts = both (is_element t e) (are_elements t es) ok in
        let first = each-left U (nodes e) (nodes_all es) u in
        row-of e es (element-costs t e parts.0 classes)
        (or-else (is_initial e) (is_list t e) parts.0 (λ initial. initial-sound e initial first) (λ is. list-sound t e is first))
        (elements-sound t es parts.1 (each-right U (nodes e) (nodes_all es) u))

  -- what binds a static reference
  pub bound-sound : (e : Core) → is_bound e ≡ true → Each U (nodes e) → Sound e
  bound-sound (core.bind no_temporary e) ok u = initial-sound (core.bind no_temporary e) (constant-value e ok) u
  bound-sound (core.bind (static_temporary name) e) ok u =
      λ d t n k s.
      let is = constant-value e ok in
      let a = Space.registers s in
      let b = Space.width s in
      let x : Full = record { first = k; base = suc n } in
      let m : Register = suc n + width e in
      let ts : List Temporary = temporaries false e k in
      let last : Plains → Plains = λ rest. more (act (plain.first n m)) (ended x (reverse ts) rest) in
      let placed : Plains → Plains = λ rest. more (set m (plain.finish_static name)) (settled e m (suc m) (last rest)) in
      let r : Room B p x (suc m) k (nodes e) = record { registers = omega arith; flags = omega arith; begun = omega arith; behind = Space.behind s } in
      fine-then T L B d (flags x ts) (λ rest. value classes x e None (suc m) k (placed rest)) (fine-flags T L U B p suits d x ts (ends T L U B p suits e is u.1 false x (suc m) k r))
      (fine-then T L B d (value classes x e None (suc m) k) placed (good-value T L U B p suits classes e is u.1 d x None (suc m) k r)
      (fine-then T L B d (λ rest. more (set m (plain.finish_static name)) rest) (λ rest. settled e m (suc m) (last rest))
      (fine-set T L B d m (plain.finish_static name) (omega arith) (suits.neutral (plain.finish_static name) refl))
      (fine-then T L B d (settled e m (suc m)) last (fine-settled T L B d e m (suc m) (suits.neutral (plain.first m (suc m)) refl))
      (fine-then T L B d (λ rest. more (act (plain.first n m)) rest) (ended x (reverse ts)) (fine-act T L B d (plain.first n m) (suits.neutral (plain.first n m) refl))
      (fine-ended T L U B p suits d x (reverse ts) (ends-reversed T L U B p suits e is u.1 x (suc m) k r))))))
  bound-sound e ok u = never ok

  -- ---- the initialisers of locals

  pub element-sound : (t : SourceType) (e : Core) → is_element t e ≡ true → Each U (nodes e) → Sound e
  element-sound t e ok u = or-else (is_initial e) (is_list t e) ok (λ initial. initial-sound e initial u) (λ is. list-sound t e is u)

  -- An initialiser of a local: a temporary that it binds stays, and its code passes.
  pub record StartsWell (t : SourceType) (e : Core) : Type 0 where
    pub stays : Each (Own T L U p) (held_by e)
    pub code : (d k : ℕ) → Space B p W d 0 k (nodes e) → Fine T L B d (started classes t e 0 k)

  starts-held : (i : ℕ) (t : SourceType) (e : Core) → is_held i e ≡ true → Each U (nodes e) → StartsWell t e
  starts-held i t (core.bind (local_temporary j v) e) ok u =
      let is : is_value e ≡ true = (both (not (is_reference v)) (is_value e) (both (nat_lt i j) (not (is_reference v) && is_value e) ok).1).1 in
      let stays : Stays T L U p j v = suits.held v e j u.0 in
      let n : Register = held_at e 0 in
      record {
        stays = (stays, tt);
        code = λ d k s.
            let a = Space.registers s in
            let b = Space.width s in
            let x : Full = record { first = k; base = 1 } in
            let ts : List Temporary = temporaries false e k in
            let last : Plains → Plains = λ rest. more (act (plain.first 0 n)) (ended x (reverse ts) rest) in
            let inside : Plains → Plains = λ rest. value classes x e (destination (suc n) v) (suc (suc n)) k (settled e (suc n) (suc (suc n)) (last rest)) in
            let named : Plains → Plains = λ rest. more (set n (plain.local j)) (inside rest) in
            let r : Room B p x (suc (suc n)) k (nodes e) = record { registers = omega arith; flags = omega arith; begun = omega arith; behind = Space.behind s } in
            fine-then T L B d (flags x ts) (λ rest. more (set (suc n) (plain.declare j v)) (named rest)) (fine-flags T L U B p suits d x ts (ends T L U B p suits e is u.1 false x (suc (suc n)) k r))
            (fine-then T L B d (λ rest. more (set (suc n) (plain.declare j v)) rest) named (fine-set T L B d (suc n) (plain.declare j v) (omega arith) stays.0)
            (fine-then T L B d (λ rest. more (set n (plain.local j)) rest) inside (fine-set T L B d n (plain.local j) (omega arith) (suits.neutral (plain.local j) refl))
            (fine-then T L B d (value classes x e (destination (suc n) v) (suc (suc n)) k) (λ rest. settled e (suc n) (suc (suc n)) (last rest))
            (good-value T L U B p suits classes e is u.1 d x (destination (suc n) v) (suc (suc n)) k r)
            (fine-then T L B d (settled e (suc n) (suc (suc n))) last (fine-settled T L B d e (suc n) (suc (suc n)) (suits.neutral (plain.first (suc n) (suc (suc n))) refl))
            (fine-then T L B d (λ rest. more (act (plain.first 0 n)) rest) (ended x (reverse ts)) (fine-act T L B d (plain.first 0 n) (suits.neutral (plain.first 0 n) refl))
            (fine-ended T L U B p suits d x (reverse ts) (ends-reversed T L U B p suits e is u.1 x (suc (suc n)) k r)))))));
      }
  starts-held i t e ok u = never ok

  pub starts-well : (i : ℕ) (t : SourceType) (e : Core) → (is_element t e || is_held i e) ≡ true → Each U (nodes e) → StartsWell t e
  starts-well i t e ok u =
      or-else (is_element t e) (is_held i e) ok
      (λ is. record { stays = subst (Each (Own T L U p)) (sym (element-holds t e is)) tt; code = λ d k s. element-sound t e is u d t 0 k s }) (λ held. starts-held i t e held u)
