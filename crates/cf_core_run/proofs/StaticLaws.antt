-- How static objects are named, and how they get their constant initialisers.
use Rattle.std.proofs.Common.{◌≡◌, ◌∙◌, ℕ, zero, suc, ◌+◌, ◌<◌, ◌≤◌, Bool, not, nat_lt, true, false, List, [], ◌∷◌, length, drop, map, find, position, get_or, Option, Some, None, option_map, refl, ap, sym, arith, bytes_eq, drop-cons, add-one, codes}
use Rattle.std.specs.Prelude.{filter, cond}
use Rattle.std.proofs.lemmas.Bool.Decides.{nat_tests}
use Rattle.std.specs.Fmt.{digits}
use Rattle.std.specs.List.{prefix_len}
use Rattle.cf_base.specs.World.{World, Went}
use Rattle.cf_core.specs.FromTypes.{Tables}
use Rattle.cf_core.specs.Types.{Name, SourceType, void, same_but_const}
use Rattle.cf_core.specs.Core.{Core, Static, static_object}
use Rattle.cf_core.specs.Places.{Place}
use Rattle.cf_core.specs.Store.{Value, Code}
use Rattle.cf_core.specs.Run.{State, Malformed, Act, ◌>>=◌, ◌>>◌, gives, malformed, done, changed, need, some_or, when, for_all, cast_from_void}
use Rattle.cf_core.specs.Access.{followed}
use Rattle.cf_core.specs.Objects.{settled, static_number, static_type}
use Rattle.cf_core.specs.Calls.{root, has_destructor}
use Rattle.cf_core.specs.Joined.{is_nothing, sets_constant, constant_setting, in_file, owner_or}
use Rattle.cf_core.specs.Program.{set_constant}
use Rattle.cf_run_tree.specs.declared.node.Node.{Node, roll-Node}
use Rattle.cf_run_tree.specs.declared.node.Node.TheOpen.{Node-F}
use Rattle.cf_run_tree.specs.declared.node.Node.TheFolds.{fold-roll-Node}
use Rattle.cf_run_tree.specs.declared.node.Node.TheVariants as node
use Rattle.cf_run_tree.specs.declared.node.Unary.{Unary}
use Rattle.cf_run_tree.specs.declared.node.Unary.TheVariants as one
use Rattle.cf_run_tree.specs.declared.node.Binary.{Binary}
use Rattle.cf_run_tree.specs.declared.node.Binary.TheVariants as two
use Rattle.cf_run_tree.specs.declared.program.Program.{Program}
use Rattle.cf_run_tree.specs.declared.program.RunStatic.{RunStatic}
use Rattle.cf_run_tree.specs.declared.shape.ObjectType.{ObjectType}
use Rattle.cf_run_tree.specs.Tree as tree
use Rattle.cf_run_tree.specs.Tree.{core_step, core_of, applied, joined, object_type, type_or, static_of, constants_of, program_of}
use Rattle.cf_core_objects.proofs.ThenLaws.{then-assoc, then-same}
use Rattle.cf_core_run.specs.Going.{again, valued, full, called, setting, setting_with, reaching}
use Rattle.cf_core_run.proofs.CallLaws.{find-map}
use Rattle.cf_core_run.proofs.LabelLaws.{form_of}
use Rattle.cf_core_run.proofs.ShapeLaws.{same-itself}
use Rattle.cf_core_run.proofs.StatementLaws.{destructor-none}

-- An initialiser does something unless it is blank.
nothing-unary : (T : Tables) (op : Unary) (c : Core) → is_nothing (applied T op c) ≡ false
nothing-unary T one.Read c = refl
nothing-unary T one.Address c = refl
nothing-unary T one.Dereference c = refl
nothing-unary T one.Decay c = refl
nothing-unary T (one.Convert s) c = refl
nothing-unary T (one.Sign op k) c = refl
nothing-unary T one.Not c = refl
nothing-unary T (one.Increment b o) c = refl

nothing-binary : (T : Tables) (op : Binary) (a b : Core) → is_nothing (joined T op a b) ≡ false
nothing-binary T (two.Operate op k) a b = refl
nothing-binary T two.Store a b = refl
nothing-binary T (two.Update o) a b = refl
nothing-binary T two.Index a b = refl
nothing-binary T (two.Point op) a b = refl

nothing-form : (T : Tables) (p : Program) (x : Node-F Node) → (roll-Node x ≡ node.Blank → ⊥) → is_nothing (core_of T p (roll-Node x)) ≡ false
nothing-form T p Node-F.Blank h = absurd (h node.rolls-Blank)
nothing-form T p (Node-F.Apply op e) h = ap is_nothing (fold-roll-Node Core (core_step T p) (Node-F.Apply op e)) ∙ nothing-unary T op (core_of T p e)
nothing-form T p (Node-F.Join op a b) h = ap is_nothing (fold-roll-Node Core (core_step T p) (Node-F.Join op a b)) ∙ nothing-binary T op (core_of T p a) (core_of T p b)
nothing-form T p x h = ap is_nothing (fold-roll-Node Core (core_step T p) x)

pub not-nothing : (T : Tables) (p : Program) (n : Node) → (n ≡ node.Blank → ⊥) → is_nothing (core_of T p n) ≡ false
not-nothing T p n h = let x = form_of n in ap (λ n. is_nothing (core_of T p n)) x.1 ∙ nothing-form T p x.0 (λ e. h (x.1 ∙ e))

-- The number of a static object.
some-suc : (c : Bool) (n : ℕ) → cond c (Some (suc n)) None ≡ option_map suc (cond c (Some n) None)
some-suc true n = refl
some-suc false n = refl

less-both : (n l : ℕ) → nat_lt (1 + n) (suc l) ≡ nat_lt n l
less-both n l = at (nat_lt n l) refl
  where
    at : (b : Bool) → nat_lt n l ≡ b → nat_lt (1 + n) (suc l) ≡ b
    at true h = grind (arith, nat_tests, h)
    at false h = grind (arith, nat_tests, h)

first-or : (b : Bool) (n l : ℕ) → cond (nat_lt (cond (not b) (1 + n) 0) (suc l)) (Some (cond (not b) (1 + n) 0)) None ≡ cond b (Some 0) (option_map suc (cond (nat_lt n l) (Some n) None))
first-or true n l = ap (λ (b : Bool). cond b (Some 0) None) (let h : nat_lt 0 (suc l) ≡ true = grind (arith, nat_tests) in h)
first-or false n l =
    ap (λ (b : Bool). cond b (Some (1 + n)) None) (less-both n l)
    ∙ ap (λ m. cond (nat_lt n l) (Some m) None) (let h : 1 + n ≡ suc n = omega arith in h)
    ∙ some-suc (nat_lt n l) n

position-cons : (f : Static → Bool) (x : Static) (xs : List Static) → position f (x ∷ xs) ≡ cond (f x) (Some 0) (option_map suc (position f xs))
position-cons f x xs = first-or (f x) (prefix_len (λ x. not (f x)) xs) (length xs)

number-moved : (i : ℕ) (r : Option ℕ) → option_map (λ n. i + n) (option_map suc r) ≡ option_map (λ n. i + 1 + n) r
number-moved i None = refl
number-moved i (Some n) = ap Some (let h : i + suc n ≡ i + 1 + n = omega arith in h)

left-at : (xs : List RunStatic) (i : ℕ) (x : RunStatic) → i < length xs → x ≡ get_or xs i x → drop i xs ≡ x ∷ drop (i + 1) xs
left-at xs i x lt e = drop-cons xs i x lt ∙ ap (λ (y : RunStatic). y ∷ drop (suc i) xs) (sym e) ∙ ap (λ k. x ∷ drop k xs) (sym (add-one i))

none-left : (xs : List RunStatic) (i : ℕ) → length xs ≤ i → drop i xs ≡ []
none-left [] zero le = refl
none-left [] (suc i) le = refl
none-left (y ∷ ys) zero le = absurd (omega (arith, le))
none-left (y ∷ ys) (suc i) le = none-left ys i (omega (arith, le))

-- the number of the first static object of this name behind the first so many
abbrev pub number_behind : Tables → Program → Name → List RunStatic → ℕ → Option ℕ
number_behind T p name xs i = option_map (λ n. i + n) (position (λ (x : Static). bytes_eq x.name name) (map (static_of T p) (drop i xs)))

number-next : (T : Tables) (p : Program) (name : Name) (xs : List RunStatic) (i : ℕ) (x : RunStatic) (b : Bool) → i < length xs → x ≡ get_or xs i x → bytes_eq x.name name ≡ b
    → number_behind T p name xs i ≡ cond b (Some i) (number_behind T p name xs (i + 1))
number-next T p name xs i x b lt e is =
    ap (λ (l : List RunStatic). option_map (λ n. i + n) (position (λ (x : Static). bytes_eq x.name name) (map (static_of T p) l))) (left-at xs i x lt e)
    ∙ ap (option_map (λ n. i + n)) (position-cons (λ (x : Static). bytes_eq x.name name) (static_of T p x) (map (static_of T p) (drop (i + 1) xs)))
    ∙ ap (λ (b : Bool). option_map (λ n. i + n) (cond b (Some 0) (option_map suc (position (λ (x : Static). bytes_eq x.name name) (map (static_of T p) (drop (i + 1) xs)))))) is
    ∙ at b
  where
    at : (b : Bool) → option_map (λ n. i + n) (cond b (Some 0) (option_map suc (position (λ (x : Static). bytes_eq x.name name) (map (static_of T p) (drop (i + 1) xs)))))
        ≡ cond b (Some i) (number_behind T p name xs (i + 1))
    at true = ap Some (let h : i + 0 ≡ i = omega arith in h)
    at false = number-moved i (position (λ (x : Static). bytes_eq x.name name) (map (static_of T p) (drop (i + 1) xs)))

module _ (T : Tables) (p : Program) (name : Name) (xs : List RunStatic) (i : ℕ) (whole : Option ℕ) where
  pub number-found : (x : RunStatic) → i < length xs → x ≡ get_or xs i x → bytes_eq x.name name ≡ true → number_behind T p name xs i ≡ whole → Some i ≡ whole
  number-found x lt e is kept = sym (number-next T p name xs i x true lt e is) ∙ kept

  pub number-past : (x : RunStatic) → i < length xs → x ≡ get_or xs i x → bytes_eq x.name name ≡ false → number_behind T p name xs i ≡ whole → number_behind T p name xs (i + 1) ≡ whole
  number-past x lt e is kept = sym (number-next T p name xs i x false lt e is) ∙ kept

  pub number-none : length xs ≤ i → number_behind T p name xs i ≡ whole → None ≡ whole
  number-none le kept = sym (ap (λ (l : List RunStatic). option_map (λ n. i + n) (position (λ (x : Static). bytes_eq x.name name) (map (static_of T p) l))) (none-left xs i le)) ∙ kept

pub number-start : (r : Option ℕ) → option_map (λ n. 0 + n) r ≡ r
number-start None = refl
number-start (Some n) = ap Some (let h : 0 + n ≡ n = omega arith in h)

pub static-none : (T : Tables) (p : Program) (k : ℕ) (name : Name) (t : SourceType) (into : Option Place) (s : State) (w : World) → static_number (program_of T p) name ≡ None
    → valued T p k (static_object name t) into s w ≡ Went Malformed w
static-none T p k name t into s w h =
    ap (λ (r : Option ℕ). ((((some_or r malformed >>= (λ o. gives (root o))) >> need (same_but_const (static_type (program_of T p) name) t) cast_from_void) >> (some_or r malformed >>= (λ o. gives (root o)))) >>= followed []) s w) h

-- one that has a number is found
number-found-none : (test : Static → Bool) (xs : List Static) → find test xs ≡ None → position test xs ≡ None
number-found-none test [] h = refl
number-found-none test (x ∷ xs) h = position-cons test x xs ∙ at (λ k. number-found-none test xs k) (test x) h
  where
    at : (find test xs ≡ None → position test xs ≡ None) → (b : Bool) → cond b (Some x) (find test xs) ≡ None → cond b (Some 0) (option_map suc (position test xs)) ≡ None
    at behind true h = absurd (cc)
    at behind false h = ap (option_map suc) (behind h)

abbrev typed_static : Option Static → SourceType
typed_static None = void
typed_static (Some y) = y.type

-- what the name of a static object of this number comes to, where its type is found so
abbrev named_by : Tables → Program → ℕ → ObjectType → Option RunStatic → Act Value
named_by T p n t o = (need (same_but_const (typed_static (option_map (static_of T p) o)) (object_type T (type_or o t))) cast_from_void >> gives (root n)) >>= followed []

static-as : (T : Tables) (p : Program) (k : ℕ) (name : Name) (t : ObjectType) (n : ℕ) (into : Option Place) (s : State) (w : World) (o : Option RunStatic)
    → static_number (program_of T p) name ≡ Some n → find (λ (x : RunStatic). bytes_eq x.name name) p.statics ≡ o
    → valued T p k (static_object name (object_type T (tree.static_type p name t))) into s w ≡ named_by T p n t o s w
static-as T p k name t n into s w o h is =
    ap (λ (r : Option ℕ). ((((some_or r malformed >>= (λ o. gives (root o))) >> need (same_but_const (static_type (program_of T p) name) (object_type T (tree.static_type p name t))) cast_from_void) >> (some_or r malformed >>= (λ o. gives (root o)))) >>= followed []) s w) h
    ∙ ap (λ (r : Option Static). ((need (same_but_const (typed_static r) (object_type T (tree.static_type p name t))) cast_from_void >> gives (root n)) >>= followed []) s w)
    (find-map (λ (x : Static). bytes_eq x.name name) (static_of T p) p.statics ∙ ap (option_map (static_of T p)) is)
    ∙ ap (λ (r : Option RunStatic). ((need (same_but_const (typed_static (option_map (static_of T p) o)) (object_type T (type_or r t))) cast_from_void >> gives (root n)) >>= followed []) s w) is

static-by : (T : Tables) (p : Program) (k : ℕ) (name : Name) (t : ObjectType) (n : ℕ) (into : Option Place) (s : State) (w : World) (o : Option RunStatic)
    → static_number (program_of T p) name ≡ Some n → find (λ (x : RunStatic). bytes_eq x.name name) p.statics ≡ o
    → valued T p k (static_object name (object_type T (tree.static_type p name t))) into s w ≡ followed [] (root n) s w
static-by T p k name t n into s w (Some x) h is =
    static-as T p k name t n into s w (Some x) h is ∙ ap (λ (b : Bool). ((need b cast_from_void >> gives (root n)) >>= followed []) s w) (same-itself (object_type T x.ty))
static-by T p k name t n into s w None h is =
    let none : static_number (program_of T p) name ≡ None =
    number-found-none (λ (x : Static). bytes_eq x.name name) (map (static_of T p) p.statics) (find-map (λ (x : Static). bytes_eq x.name name) (static_of T p) p.statics ∙ ap (option_map (static_of T p)) is) in absurd (cc)

pub static-goes : (T : Tables) (p : Program) (k : ℕ) (name : Name) (t : ObjectType) (n : ℕ) (into : Option Place) (s : State) (w : World)
    → static_number (program_of T p) name ≡ Some n → valued T p k (static_object name (object_type T (tree.static_type p name t))) into s w ≡ followed [] (root n) s w
static-goes T p k name t n into s w h = static-by T p k name t n into s w (find (λ (x : RunStatic). bytes_eq x.name name) p.statics) h refl

-- The static objects in order.
pub setting-main : (T : Tables) (p : Program) (k : ℕ) (xs : List RunStatic) (s : State) (w : World) → xs ≡ [] → setting T p k xs s w ≡ called T p k (Code (codes "__main")) [] s w
setting-main T p k xs s w h = ap (λ (xs : List RunStatic). setting T p k xs s w) h

setting-by : (T : Tables) (p : Program) (k : ℕ) (x : RunStatic) (xs : List RunStatic) (b : Bool) (s : State) (w : World) → sets_constant (static_of T p x) ≡ b
    → setting T p k (x ∷ xs) s w
    ≡ (for_all (map (constant_setting (in_file 1 (codes "__sti"))) (cond b (static_of T p x ∷ filter sets_constant (map (static_of T p) xs)) (filter sets_constant (map (static_of T p) xs)))) (set_constant (again T p k) (program_of T p)) >> called T p k (Code (codes "__main")) []) s w
setting-by T p k x xs b s w h =
    ap (λ (b : Bool). (for_all (map (constant_setting (in_file 1 (codes "__sti"))) (cond b (static_of T p x ∷ filter sets_constant (map (static_of T p) xs)) (filter sets_constant (map (static_of T p) xs)))) (set_constant (again T p k) (program_of T p)) >> called T p k (Code (codes "__main")) []) s w) h

pub setting-skips : (T : Tables) (p : Program) (k : ℕ) (all : List RunStatic) (x : RunStatic) (xs : List RunStatic) (s : State) (w : World) → all ≡ x ∷ xs → sets_constant (static_of T p x) ≡ false
    → setting T p k all s w ≡ setting T p k xs s w
setting-skips T p k all x xs s w is h = ap (λ (l : List RunStatic). setting T p k l s w) is ∙ setting-by T p k x xs false s w h

pub setting-sets : (T : Tables) (p : Program) (k : ℕ) (all : List RunStatic) (x : RunStatic) (xs : List RunStatic) (s : State) (w : World) → all ≡ x ∷ xs → sets_constant (static_of T p x) ≡ true
    → setting T p k all s w ≡ setting_with T p k x xs s w
setting-sets T p k all x xs s w is h =
    ap (λ (l : List RunStatic). setting T p k l s w) is ∙ setting-by T p k x xs true s w h
    ∙ then-assoc (set_constant (again T p k) (program_of T p) (constant_setting (in_file 1 (codes "__sti")) (static_of T p x)) s w)
    (λ u. for_all (constants_of (map (static_of T p) xs)) (set_constant (again T p k) (program_of T p))) (λ u. called T p k (Code (codes "__main")) [])

-- the state in which a static object is initialised
abbrev pub in_setter : Tables → Program → RunStatic → State → State
in_setter T p x s = record s { frame = record s.frame { function = owner_or (in_file 1 (codes "__sti")) (static_of T p x).owner } }

abbrev initialising : Tables → Program → ℕ → RunStatic → List RunStatic → Option ℕ → Bool → Act Value
initialising T p k x xs r b = do
  q ← some_or r malformed >>= (λ o. gives (root o))
  changed (λ s. record s { reached = x.name ∷ s.reached })
  full T p k (settled [] q (valued T p k (core_of T p x.start) (Some q)))
  when b (changed (λ s. record s { finished = q.object ∷ s.finished })) done
  setting T p k xs

set-as : (T : Tables) (p : Program) (k : ℕ) (x : RunStatic) (xs : List RunStatic) (s : State) (w : World)
    → setting_with T p k x xs s w ≡ initialising T p k x xs (static_number (program_of T p) x.name) (has_destructor [] (static_type (program_of T p) x.name)) (in_setter T p x s) w
set-as T p k x xs s w =
    let P = program_of T p in
    let A : Act Place = some_or (static_number P x.name) malformed >>= (λ o. gives (root o)) in
    let B : Act (Unit {0}) = changed (λ s. record s { reached = x.name ∷ s.reached }) in
    let C : Place → Act (Unit {0}) = λ q. full T p k (settled [] q (valued T p k (core_of T p x.start) (Some q))) in
    let D : Place → Act (Unit {0}) = λ q. when (has_destructor [] (static_type P x.name)) (changed (λ s. record s { finished = q.object ∷ s.finished })) done in
    let N : Act Value = setting T p k xs in
    then-assoc (A (in_setter T p x s) w) (λ q. B >> (C q >> D q)) (λ u. N)
    ∙ then-same (A (in_setter T p x s) w) (λ q. (B >> (C q >> D q)) >> N) (λ q. B >> (C q >> (D q >> N)))
    (λ q s w. then-assoc (B s w) (λ u. C q >> D q) (λ u. N) ∙ then-same (B s w) (λ u. (C q >> D q) >> N) (λ u. C q >> (D q >> N)) (λ u s w. then-assoc (C q s w) (λ u. D q) (λ u. N)))

pub set-none : (T : Tables) (p : Program) (k : ℕ) (x : RunStatic) (xs : List RunStatic) (s : State) (w : World) → static_number (program_of T p) x.name ≡ None
    → setting_with T p k x xs s w ≡ Went Malformed w
set-none T p k x xs s w h =
    set-as T p k x xs s w ∙ ap (λ (r : Option ℕ). initialising T p k x xs r (has_destructor [] (static_type (program_of T p) x.name)) (in_setter T p x s) w) h

pub set-goes : (T : Tables) (p : Program) (k : ℕ) (x : RunStatic) (xs : List RunStatic) (n : ℕ) (s : State) (w : World) → static_number (program_of T p) x.name ≡ Some n
    → setting_with T p k x xs s w ≡ reaching T p k x n xs (in_setter T p x s) w
set-goes T p k x xs n s w h =
    set-as T p k x xs s w
    ∙ ap (λ (r : Option ℕ). initialising T p k x xs r (has_destructor [] (static_type (program_of T p) x.name)) (in_setter T p x s) w) h
    ∙ ap (λ (b : Bool). initialising T p k x xs (Some n) b (in_setter T p x s) w) (destructor-none (static_type (program_of T p) x.name))

-- the function that initialises the first file
pub first-setter : codes "__sti__u1" ≡ in_file 1 (codes "__sti")
unfolding digits
first-setter = refl
