-- Which statements are labels, and what a label passes.
use Rattle.std.proofs.Common.{◌≡◌, ◌∙◌, ℕ, zero, suc, ◌<◌, ◌≤◌, ◌+◌, Bool, true, false, List, [], ◌∷◌, drop, length, get_or, ℤ, refl, ap, sym, arith, drop-cons, add-one}
use Rattle.std.specs.Prelude.{◌||◌, ◌&&◌, int_le}
use Rattle.cf_base.specs.World.{World, Went}
use Rattle.cf_core.specs.FromTypes.{Tables}
use Rattle.cf_core.specs.Types.{SourceType}
use Rattle.cf_core.specs.Core.{Core, Cores, more, case_label, default_label, declare}
use Rattle.cf_core.specs.Run.{State, Gives, Act, ◌>>◌, done, malformed, when}
use Rattle.cf_core.specs.Calls.{Flow, Again, Program as Whole}
use Rattle.cf_core.specs.Statements.{has_case, has_default, passes, passes_all, from_case, from_default, does_all}
use Rattle.cf_run_tree.specs.declared.node.Node.{Node, ind-Node, roll-Node}
use Rattle.cf_run_tree.specs.declared.node.Node.TheOpen.{Node-F}
use Rattle.cf_run_tree.specs.declared.node.Node.TheFolds.{fold-roll-Node}
use Rattle.cf_run_tree.specs.declared.node.Node.TheVariants as node
use Rattle.cf_run_tree.specs.declared.node.Unary.{Unary}
use Rattle.cf_run_tree.specs.declared.node.Unary.TheVariants as one
use Rattle.cf_run_tree.specs.declared.node.Binary.{Binary}
use Rattle.cf_run_tree.specs.declared.node.Binary.TheVariants as two
use Rattle.cf_run_tree.specs.declared.program.Program.{Program}
use Rattle.cf_run_tree.specs.declared.shape.ObjectType.{ObjectType}
use Rattle.cf_run_tree.specs.Tree.{core_step, core_of, applied, joined}
use Rattle.cf_core_objects.specs.Then.{◌▷◌}
use Rattle.cf_core_run.specs.Labels.{row, is_case, is_default}

-- a node is of one of the forms
pub form_of : (n : Node) → (x : Node-F Node) × (n ≡ roll-Node x)
form_of = ind-Node (λ n. (x : Node-F Node) × (n ≡ roll-Node x)) (λ x y is. (x, refl))

case-unary : (T : Tables) (z : ℤ) (op : Unary) (c : Core) → is_case z (applied T op c) ≡ false
case-unary T z one.Read c = refl
case-unary T z one.Address c = refl
case-unary T z one.Dereference c = refl
case-unary T z one.Decay c = refl
case-unary T z (one.Convert s) c = refl
case-unary T z (one.Sign op k) c = refl
case-unary T z one.Not c = refl
case-unary T z (one.Increment b o) c = refl

case-binary : (T : Tables) (z : ℤ) (op : Binary) (a b : Core) → is_case z (joined T op a b) ≡ false
case-binary T z (two.Operate op k) a b = refl
case-binary T z two.Store a b = refl
case-binary T z (two.Update o) a b = refl
case-binary T z two.Index a b = refl
case-binary T z (two.Point op) a b = refl

case-form : (T : Tables) (p : Program) (z : ℤ) (x : Node-F Node) → ((y : ℤ) → roll-Node x ≡ node.Case y → ⊥) → is_case z (core_of T p (roll-Node x)) ≡ false
case-form T p z (Node-F.Case y) h = absurd (h y (node.rolls-Case y))
case-form T p z (Node-F.Apply op e) h = ap (is_case z) (fold-roll-Node Core (core_step T p) (Node-F.Apply op e)) ∙ case-unary T z op (core_of T p e)
case-form T p z (Node-F.Join op a b) h = ap (is_case z) (fold-roll-Node Core (core_step T p) (Node-F.Join op a b)) ∙ case-binary T z op (core_of T p a) (core_of T p b)
case-form T p z x h = ap (is_case z) (fold-roll-Node Core (core_step T p) x)

pub no-case : (T : Tables) (p : Program) (z : ℤ) (n : Node) → ((y : ℤ) → n ≡ node.Case y → ⊥) → is_case z (core_of T p n) ≡ false
no-case T p z n h = let x = form_of n in ap (λ n. is_case z (core_of T p n)) x.1 ∙ case-form T p z x.0 (λ y e. h y (x.1 ∙ e))

default-unary : (T : Tables) (op : Unary) (c : Core) → is_default (applied T op c) ≡ false
default-unary T one.Read c = refl
default-unary T one.Address c = refl
default-unary T one.Dereference c = refl
default-unary T one.Decay c = refl
default-unary T (one.Convert s) c = refl
default-unary T (one.Sign op k) c = refl
default-unary T one.Not c = refl
default-unary T (one.Increment b o) c = refl

default-binary : (T : Tables) (op : Binary) (a b : Core) → is_default (joined T op a b) ≡ false
default-binary T (two.Operate op k) a b = refl
default-binary T two.Store a b = refl
default-binary T (two.Update o) a b = refl
default-binary T two.Index a b = refl
default-binary T (two.Point op) a b = refl

default-form : (T : Tables) (p : Program) (x : Node-F Node) → (roll-Node x ≡ node.Default → ⊥) → is_default (core_of T p (roll-Node x)) ≡ false
default-form T p Node-F.Default h = absurd (h node.rolls-Default)
default-form T p (Node-F.Apply op e) h = ap is_default (fold-roll-Node Core (core_step T p) (Node-F.Apply op e)) ∙ default-unary T op (core_of T p e)
default-form T p (Node-F.Join op a b) h = ap is_default (fold-roll-Node Core (core_step T p) (Node-F.Join op a b)) ∙ default-binary T op (core_of T p a) (core_of T p b)
default-form T p x h = ap is_default (fold-roll-Node Core (core_step T p) x)

pub no-default : (T : Tables) (p : Program) (n : Node) → (n ≡ node.Default → ⊥) → is_default (core_of T p n) ≡ false
no-default T p n h = let x = form_of n in ap (λ n. is_default (core_of T p n)) x.1 ∙ default-form T p x.0 (λ e. h (x.1 ∙ e))

-- what is passed without effect
passes-unary : (T : Tables) (op : Unary) (c : Core) → passes (applied T op c) ≡ done
passes-unary T one.Read c = refl
passes-unary T one.Address c = refl
passes-unary T one.Dereference c = refl
passes-unary T one.Decay c = refl
passes-unary T (one.Convert s) c = refl
passes-unary T (one.Sign op k) c = refl
passes-unary T one.Not c = refl
passes-unary T (one.Increment b o) c = refl

passes-binary : (T : Tables) (op : Binary) (a b : Core) → passes (joined T op a b) ≡ done
passes-binary T (two.Operate op k) a b = refl
passes-binary T two.Store a b = refl
passes-binary T (two.Update o) a b = refl
passes-binary T two.Index a b = refl
passes-binary T (two.Point op) a b = refl

passes-form : (T : Tables) (p : Program) (x : Node-F Node) → ((i : ℕ) (s : ObjectType) (e : Node) → roll-Node x ≡ node.Declare i s e → ⊥) → ((es : List Node) → roll-Node x ≡ node.Sequence es → ⊥)
    → passes (core_of T p (roll-Node x)) ≡ done
passes-form T p (Node-F.Declare i s e) h k = absurd (h i s e (node.rolls-Declare i s e))
passes-form T p (Node-F.Sequence es) h k = absurd (k es (node.rolls-Sequence es))
passes-form T p (Node-F.Apply op e) h k = ap passes (fold-roll-Node Core (core_step T p) (Node-F.Apply op e)) ∙ passes-unary T op (core_of T p e)
passes-form T p (Node-F.Join op a b) h k = ap passes (fold-roll-Node Core (core_step T p) (Node-F.Join op a b)) ∙ passes-binary T op (core_of T p a) (core_of T p b)
passes-form T p x h k = ap passes (fold-roll-Node Core (core_step T p) x)

pub passes-other : (T : Tables) (p : Program) (n : Node) → ((i : ℕ) (s : ObjectType) (e : Node) → n ≡ node.Declare i s e → ⊥) → ((es : List Node) → n ≡ node.Sequence es → ⊥) → passes (core_of T p n) ≡ done
passes-other T p n h k = let x = form_of n in ap (λ n. passes (core_of T p n)) x.1 ∙ passes-form T p x.0 (λ i s e eq. h i s e (x.1 ∙ eq)) (λ es eq. k es (x.1 ∙ eq))

-- a declaration with an initialiser is not passed
declare-unary : (T : Tables) (i : ℕ) (t : SourceType) (op : Unary) (c : Core) → passes (declare i t (applied T op c)) ≡ malformed
declare-unary T i t one.Read c = refl
declare-unary T i t one.Address c = refl
declare-unary T i t one.Dereference c = refl
declare-unary T i t one.Decay c = refl
declare-unary T i t (one.Convert s) c = refl
declare-unary T i t (one.Sign op k) c = refl
declare-unary T i t one.Not c = refl
declare-unary T i t (one.Increment b o) c = refl

declare-binary : (T : Tables) (i : ℕ) (t : SourceType) (op : Binary) (a b : Core) → passes (declare i t (joined T op a b)) ≡ malformed
declare-binary T i t (two.Operate op k) a b = refl
declare-binary T i t two.Store a b = refl
declare-binary T i t (two.Update o) a b = refl
declare-binary T i t two.Index a b = refl
declare-binary T i t (two.Point op) a b = refl

declare-form : (T : Tables) (p : Program) (i : ℕ) (t : SourceType) (x : Node-F Node) → (roll-Node x ≡ node.Blank → ⊥) → passes (declare i t (core_of T p (roll-Node x))) ≡ malformed
declare-form T p i t Node-F.Blank h = absurd (h node.rolls-Blank)
declare-form T p i t (Node-F.Apply op e) h = ap (λ c. passes (declare i t c)) (fold-roll-Node Core (core_step T p) (Node-F.Apply op e)) ∙ declare-unary T i t op (core_of T p e)
declare-form T p i t (Node-F.Join op a b) h = ap (λ c. passes (declare i t c)) (fold-roll-Node Core (core_step T p) (Node-F.Join op a b)) ∙ declare-binary T i t op (core_of T p a) (core_of T p b)
declare-form T p i t x h = ap (λ c. passes (declare i t c)) (fold-roll-Node Core (core_step T p) x)

pub declared-start : (T : Tables) (p : Program) (i : ℕ) (t : SourceType) (n : Node) → (n ≡ node.Blank → ⊥) → passes (declare i t (core_of T p n)) ≡ malformed
declared-start T p i t n h = let x = form_of n in ap (λ n. passes (declare i t (core_of T p n))) x.1 ∙ declare-form T p i t x.0 (λ e. h (x.1 ∙ e))

-- the statements of a switch one by one
pub case-among : (z : ℤ) (s : Core) (rest : Cores) → has_case z (more s rest) ≡ (is_case z s || has_case z rest)
case-among z (case_label y) rest = refl
case-among z s rest = refl

pub default-among : (s : Core) (rest : Cores) → has_default (more s rest) ≡ (is_default s || has_default rest)
default-among default_label rest = refl
default-among s rest = refl

-- the labels among the statements from a place on
left-at : (xs : List Node) (i : ℕ) (x : Node) → i < length xs → x ≡ get_or xs i x → drop i xs ≡ x ∷ drop (i + 1) xs
left-at xs i x lt e = drop-cons xs i x lt ∙ ap (λ (y : Node). y ∷ drop (suc i) xs) (sym e) ∙ ap (λ k. x ∷ drop k xs) (sym (add-one i))

none-left : (xs : List Node) (i : ℕ) → length xs ≤ i → drop i xs ≡ []
none-left [] zero le = refl
none-left [] (suc i) le = refl
none-left (y ∷ ys) zero le = absurd (omega (arith, le))
none-left (y ∷ ys) (suc i) le = none-left ys i (omega (arith, le))

module _ (T : Tables) (p : Program) (z : ℤ) (xs : List Node) (i : ℕ) where
  case-from : (x : Node) → i < length xs → x ≡ get_or xs i x → has_case z (row T p (drop i xs)) ≡ (is_case z (core_of T p x) || has_case z (row T p (drop (i + 1) xs)))
  case-from x lt e = ap (λ (l : List Node). has_case z (row T p l)) (left-at xs i x lt e) ∙ case-among z (core_of T p x) (row T p (drop (i + 1) xs))

  pub case-found : (x : Node) → i < length xs → x ≡ get_or xs i x → is_case z (core_of T p x) ≡ true → has_case z (row T p (drop i xs)) ≡ has_case z (row T p xs)
      → true ≡ has_case z (row T p xs)
  case-found x lt e is_one kept = sym (ap (λ (b : Bool). b || has_case z (row T p (drop (i + 1) xs))) is_one) ∙ sym (case-from x lt e) ∙ kept

  pub case-past : (x : Node) → i < length xs → x ≡ get_or xs i x → is_case z (core_of T p x) ≡ false → has_case z (row T p (drop i xs)) ≡ has_case z (row T p xs)
      → has_case z (row T p (drop (i + 1) xs)) ≡ has_case z (row T p xs)
  case-past x lt e is_none kept = sym (ap (λ (b : Bool). b || has_case z (row T p (drop (i + 1) xs))) is_none) ∙ sym (case-from x lt e) ∙ kept

  pub case-none : length xs ≤ i → has_case z (row T p (drop i xs)) ≡ has_case z (row T p xs) → false ≡ has_case z (row T p xs)
  case-none le kept = sym (ap (λ (l : List Node). has_case z (row T p l)) (none-left xs i le)) ∙ kept

module _ (T : Tables) (p : Program) (xs : List Node) (i : ℕ) where
  default-from : (x : Node) → i < length xs → x ≡ get_or xs i x → has_default (row T p (drop i xs)) ≡ (is_default (core_of T p x) || has_default (row T p (drop (i + 1) xs)))
  default-from x lt e = ap (λ (l : List Node). has_default (row T p l)) (left-at xs i x lt e) ∙ default-among (core_of T p x) (row T p (drop (i + 1) xs))

  pub default-found : (x : Node) → i < length xs → x ≡ get_or xs i x → is_default (core_of T p x) ≡ true → has_default (row T p (drop i xs)) ≡ has_default (row T p xs)
      → true ≡ has_default (row T p xs)
  default-found x lt e is_one kept = sym (ap (λ (b : Bool). b || has_default (row T p (drop (i + 1) xs))) is_one) ∙ sym (default-from x lt e) ∙ kept

  pub default-past : (x : Node) → i < length xs → x ≡ get_or xs i x → is_default (core_of T p x) ≡ false → has_default (row T p (drop i xs)) ≡ has_default (row T p xs)
      → has_default (row T p (drop (i + 1) xs)) ≡ has_default (row T p xs)
  default-past x lt e is_none kept = sym (ap (λ (b : Bool). b || has_default (row T p (drop (i + 1) xs))) is_none) ∙ sym (default-from x lt e) ∙ kept

  pub default-none : length xs ≤ i → has_default (row T p (drop i xs)) ≡ has_default (row T p xs) → false ≡ has_default (row T p xs)
  default-none le kept = sym (ap (λ (l : List Node). has_default (row T p l)) (none-left xs i le)) ∙ kept

-- statements that are passed, from a place on
pub passes-from : (T : Tables) (p : Program) (xs : List Node) (i : ℕ) (x : Node) (s : State) (w : World) → i < length xs → x ≡ get_or xs i x
    → passes_all (row T p (drop i xs)) s w ≡ (passes (core_of T p x) s w ▷ (λ u. passes_all (row T p (drop (i + 1) xs))))
passes-from T p xs i x s w lt e = ap (λ (l : List Node). passes_all (row T p l) s w) (left-at xs i x lt e)

pub passes-end : (T : Tables) (p : Program) (xs : List Node) (i : ℕ) (s : State) (w : World) → length xs ≤ i → passes_all (row T p (drop i xs)) s w ≡ Went (Gives tt s) w
passes-end T p xs i s w le = ap (λ (l : List Node). passes_all (row T p l) s w) (none-left xs i le)

behind-done : (b : Bool) (x y : Act Flow) (s : State) (w : World) → when b x y s w ≡ when b x (done >> y) s w
behind-done true x y s w = refl
behind-done false x y s w = refl

pub case-next : (again : Again) (P : Whole) (z : ℤ) (e : Core) (rest : Cores) (s : State) (w : World)
    → from_case again P z (more e rest) s w ≡ when (is_case z e) (does_all again P rest) (passes e >> from_case again P z rest) s w
case-next again P z (case_label y) rest s w = behind-done (int_le y z && int_le z y) (does_all again P rest) (from_case again P z rest) s w
case-next again P z e rest s w = refl

pub default-next : (again : Again) (P : Whole) (e : Core) (rest : Cores) (s : State) (w : World)
    → from_default again P (more e rest) s w ≡ when (is_default e) (does_all again P rest) (passes e >> from_default again P rest) s w
default-next again P default_label rest s w = refl
default-next again P e rest s w = refl
