-- What each expression does first, and what is left of it then.
use Rattle.std.proofs.Common.{◌≡◌, ◌∙◌, ℕ, ℤ, List, [], Option, None, Bor, refl, ap, sym, subst}
use Rattle.cf_base.specs.World.{World, Ran, Went, Stops}
use Rattle.cf_core.specs.FromTypes.{Tables}
use Rattle.cf_core.specs.Core.{Core, absent, pointer_call}
use Rattle.cf_core.specs.Places.{Place}
use Rattle.cf_core.specs.Store.{Value, At}
use Rattle.cf_core.specs.Run.{State, Did, Gives, Exits, Malformed, Act, ◌>>=◌, gives}
use Rattle.cf_core.specs.Access.{used, place_of, read_place}
use Rattle.cf_core.specs.Pointers.{pointer_op}
use Rattle.cf_core.specs.Scalars.{truth_of, pointed_to, decayed, indexed, signed, operated}
use Rattle.cf_core.specs.declared.operators.LoopForm.{LoopForm}
use Rattle.cf_run_tree.specs.declared.node.Node.{Node, roll-Node}
use Rattle.cf_run_tree.specs.declared.node.Node.TheOpen.{Node-F}
use Rattle.cf_run_tree.specs.declared.node.Node.TheFolds.{fold-roll-Node}
use Rattle.cf_run_tree.specs.declared.node.Node.TheVariants as node
use Rattle.cf_run_tree.specs.declared.node.Unary.{Unary}
use Rattle.cf_run_tree.specs.declared.node.Unary.TheVariants as one
use Rattle.cf_run_tree.specs.declared.node.Binary.{Binary}
use Rattle.cf_run_tree.specs.declared.node.Binary.TheVariants as two
use Rattle.cf_run_tree.specs.declared.program.Program.{Program}
use Rattle.cf_run_tree.specs.declared.shape.Shape.{Shape}
use Rattle.cf_run_tree.specs.declared.shape.ObjectType.{ObjectType}
use Rattle.cf_run_tree.specs.Tree.{core_step, core_of, signature_type, applied as made, joined}
use Rattle.cf_run_tree.specs.declared.program.Signature.{Signature}
use Rattle.cf_run_tree.proofs.Views.{core-PointerCall, core-Apply, core-Join, core-And, core-Or, core-Conditional}
use Rattle.cf_core_objects.specs.Then.{◌▷◌}
use Rattle.cf_core_run.proofs.LabelLaws.{form_of}
use Rattle.cf_core_run.specs.Going.{valued, performed, cores, go_and, go_or, go_choice, go_callee}
use Rattle.cf_core_store.specs.Values.{of_one, of_two, ready, placed_value, kept_place, put_at, changed_at, stepped_at, by_used}
use Rattle.cf_core_run.proofs.CallLaws.{pointer-goes}
use Rattle.cf_core_objects.proofs.ThenLaws.{then-assoc, then-same, placed-then}

then-unit : {A : Type 0} (r : Ran (Did A)) → (r ▷ gives) ≡ r
then-unit (Went (Gives a s) w) = refl
then-unit (Went (Exits z s) w) = refl
then-unit (Went Malformed w) = refl
then-unit (Stops e t) = refl

one-goes : (T : Tables) (p : Program) (k : ℕ) (op : Unary) (c : Core) (into : Option Place) (s : State) (w : World)
    → valued T p k (made T op c) into s w ≡ (valued T p k c None s w ▷ of_one T op)
one-goes T p k one.Read c into s w = placed-then (valued T p k c None s w) (read_place [])
one-goes T p k one.Address c into s w =
    then-same (valued T p k c None s w) used (λ v. used v >>= by_used one.Address) (λ v s w. sym (then-unit (used v s w)))
one-goes T p k one.Dereference c into s w = then-assoc (valued T p k c None s w) used pointed_to
one-goes T p k one.Decay c into s w = then-assoc (valued T p k c None s w) used (decayed [])
one-goes T p k (one.Convert x) c into s w = refl
one-goes T p k (one.Sign op kind) c into s w = then-assoc (valued T p k c None s w) used (signed op kind)
one-goes T p k one.Not c into s w = then-assoc (valued T p k c None s w) truth_of _
one-goes T p k (one.Increment is_postfix o) c into s w = placed-then (valued T p k c None s w) (stepped_at is_postfix o)

-- a place, then a used value, and what is done with both
placed-both : (A : Ran (Did Value)) (B : Act Value) (g : Place → Value → Act Value) (h : Value → Act Value)
    → ((q : Place) (s : State) (w : World) → ((B s w ▷ used) ▷ g q) ≡ h (At q) s w)
    → (((A ▷ used) ▷ place_of) ▷ (λ q. (B >>= used) >>= g q)) ≡ (A ▷ (λ v. kept_place v >>= h))
placed-both A B g h e =
    placed-then A (λ q. (B >>= used) >>= g q)
    ∙ then-same A (λ v. placed_value v >>= (λ q. (B >>= used) >>= g q)) (λ v. kept_place v >>= h)
    (λ v s w. then-same (placed_value v s w) (λ q. (B >>= used) >>= g q) (λ q. h (At q)) e
    ∙ sym (then-assoc (placed_value v s w) (λ q. gives (At q)) h))

-- a used value, then another, and what is done with both
used-both : (A : Ran (Did Value)) (B : Act Value) (g : Value → Value → Act Value)
    → ((A ▷ used) ▷ (λ x. (B >>= used) >>= g x)) ≡ (A ▷ (λ v. used v >>= (λ x. B >>= (λ y. used y >>= g x))))
used-both A B g =
    then-assoc A used (λ x. (B >>= used) >>= g x)
    ∙ then-same A (λ v. used v >>= (λ x. (B >>= used) >>= g x)) (λ v. used v >>= (λ x. B >>= (λ y. used y >>= g x)))
    (λ v s w. then-same (used v s w) (λ x. (B >>= used) >>= g x) (λ x. B >>= (λ y. used y >>= g x)) (λ x s w. then-assoc (B s w) used (g x)))

two-goes : (T : Tables) (p : Program) (k : ℕ) (op : Binary) (a b : Core) (into : Option Place) (s : State) (w : World)
    → valued T p k (joined T op a b) into s w ≡ (valued T p k a None s w ▷ (λ v. ready op v >>= (λ x. valued T p k b None >>= of_two op x)))
two-goes T p k (two.Operate op kind) a b into s w = used-both (valued T p k a None s w) (valued T p k b None) (operated op kind)
two-goes T p k two.Store a b into s w =
    placed-both (valued T p k a None s w) (valued T p k b None) put_at (λ x. valued T p k b None >>= of_two two.Store x)
    (λ q s w. then-assoc (valued T p k b None s w) used (put_at q))
two-goes T p k (two.Update o) a b into s w =
    placed-both (valued T p k a None s w) (valued T p k b None) (changed_at o) (λ x. valued T p k b None >>= of_two (two.Update o) x)
    (λ q s w. then-assoc (valued T p k b None s w) used (changed_at o q))
two-goes T p k two.Index a b into s w = used-both (valued T p k a None s w) (valued T p k b None) (indexed [])
two-goes T p k (two.Point op) a b into s w = used-both (valued T p k a None s w) (valued T p k b None) (pointer_op [] op)

pub node-Apply : (T : Tables) (p : Program) (k : ℕ) (n : Node) (op : Unary) (e : Node) (into : Option Place) (s : State) (w : World) → n ≡ node.Apply op e
    → valued T p k (core_of T p n) into s w ≡ (valued T p k (core_of T p e) None s w ▷ of_one T op)
node-Apply T p k n op e into s w is =
    ap (λ c. valued T p k c into s w) (ap (core_of T p) is ∙ core-Apply T p op e) ∙ one-goes T p k op (core_of T p e) into s w

pub node-Join : (T : Tables) (p : Program) (k : ℕ) (n : Node) (op : Binary) (a b : Node) (into : Option Place) (s : State) (w : World) → n ≡ node.Join op a b
    → valued T p k (core_of T p n) into s w
    ≡ (valued T p k (core_of T p a) None s w ▷ (λ v. ready op v >>= (λ x. valued T p k (core_of T p b) None >>= of_two op x)))
node-Join T p k n op a b into s w is =
    ap (λ c. valued T p k c into s w) (ap (core_of T p) is ∙ core-Join T p op a b) ∙ two-goes T p k op (core_of T p a) (core_of T p b) into s w

-- The parts that are evaluated alone.
pub node-And : (T : Tables) (p : Program) (k : ℕ) (n a b : Node) (into : Option Place) (s : State) (w : World) → n ≡ node.And a b
    → valued T p k (core_of T p n) into s w ≡ (valued T p k (core_of T p a) None s w ▷ go_and T p k b)
node-And T p k n a b into s w is =
    ap (λ c. valued T p k c into s w) (ap (core_of T p) is ∙ core-And T p a b) ∙ then-assoc (valued T p k (core_of T p a) None s w) truth_of _

pub node-Or : (T : Tables) (p : Program) (k : ℕ) (n a b : Node) (into : Option Place) (s : State) (w : World) → n ≡ node.Or a b
    → valued T p k (core_of T p n) into s w ≡ (valued T p k (core_of T p a) None s w ▷ go_or T p k b)
node-Or T p k n a b into s w is =
    ap (λ c. valued T p k c into s w) (ap (core_of T p) is ∙ core-Or T p a b) ∙ then-assoc (valued T p k (core_of T p a) None s w) truth_of _

pub node-Conditional : (T : Tables) (p : Program) (k : ℕ) (n c a b : Node) (into : Option Place) (s : State) (w : World) → n ≡ node.Conditional c a b
    → valued T p k (core_of T p n) into s w ≡ (valued T p k (core_of T p c) None s w ▷ go_choice T p k a b)
node-Conditional T p k n c a b into s w is =
    ap (λ c. valued T p k c into s w) (ap (core_of T p) is ∙ core-Conditional T p c a b) ∙ then-assoc (valued T p k (core_of T p c) None s w) truth_of _

pub node-PointerCall : (T : Tables) (p : Program) (k : ℕ) (n e : Node) (f : Signature) (all : List Node) (es : Bor (List Node)) (into : Option Place) (s : State) (w : World) → n ≡ node.PointerCall e f all
    → es.now ≡ all → valued T p k (core_of T p n) into s w ≡ (valued T p k (core_of T p e) None s w ▷ go_callee T p k f es.now)
node-PointerCall T p k n e f all es into s w is same =
    ap (λ c. valued T p k c into s w) (ap (core_of T p) is ∙ core-PointerCall T p e f all)
    ∙ ap (λ (l : List Node). valued T p k (pointer_call absent (core_of T p e) (signature_type T f) (cores T p l)) into s w) (sym same)
    ∙ pointer-goes T p k (core_of T p e) f es.now into s w

-- A node that is no expression has no value.
pub record NoExpression (n : Node) : Type 0 where
  pub number : (z : ℤ) → n ≡ node.Number z → ⊥
  pub text : (j : ℕ) (bytes : List ℕ) → n ≡ node.Text j bytes → ⊥
  pub function : (name : List ℕ) (f : Signature) → n ≡ node.Function name f → ⊥
  pub local : (i : ℕ) → n ≡ node.Local i → ⊥
  pub static : (name : List ℕ) (t : ObjectType) → n ≡ node.Static name t → ⊥
  pub apply : (op : Unary) (a : Node) → n ≡ node.Apply op a → ⊥
  pub join : (op : Binary) (a b : Node) → n ≡ node.Join op a b → ⊥
  pub and : (a b : Node) → n ≡ node.And a b → ⊥
  pub or : (a b : Node) → n ≡ node.Or a b → ⊥
  pub conditional : (c a b : Node) → n ≡ node.Conditional c a b → ⊥
  pub comma : (es : List Node) → n ≡ node.Comma es → ⊥
  pub call : (name : List ℕ) (f : Signature) (es : List Node) → n ≡ node.Call name f es → ⊥
  pub pointer_call : (a : Node) (f : Signature) (es : List Node) → n ≡ node.PointerCall a f es → ⊥
  pub bind : (a : Node) → n ≡ node.Bind a → ⊥
  pub temporary : (s : Shape) (a : Node) → n ≡ node.Temporary s a → ⊥
  pub hold : (i : ℕ) (s : Shape) (a : Node) → n ≡ node.Hold i s a → ⊥
  pub list : (es : List Node) (a : Node) → n ≡ node.List es a → ⊥
  pub characters : (bytes : List ℕ) → n ≡ node.Characters bytes → ⊥
  pub zeros : n ≡ node.Zeros → ⊥
  pub blank : n ≡ node.Blank → ⊥

no-value-form : (T : Tables) (p : Program) (k : ℕ) (x : Node-F Node) (into : Option Place) (s : State) (w : World) → NoExpression (roll-Node x)
    → valued T p k (core_of T p (roll-Node x)) into s w ≡ Went Malformed w
no-value-form T p k (Node-F.Number z) into s w h = absurd (h.number z (node.rolls-Number z))
no-value-form T p k (Node-F.Text j bytes) into s w h = absurd (h.text j bytes (node.rolls-Text j bytes))
no-value-form T p k (Node-F.Function name f) into s w h = absurd (h.function name f (node.rolls-Function name f))
no-value-form T p k (Node-F.Local i) into s w h = absurd (h.local i (node.rolls-Local i))
no-value-form T p k (Node-F.Static name t) into s w h = absurd (h.static name t (node.rolls-Static name t))
no-value-form T p k (Node-F.Apply op a) into s w h = absurd (h.apply op a (node.rolls-Apply op a))
no-value-form T p k (Node-F.Join op a b) into s w h = absurd (h.join op a b (node.rolls-Join op a b))
no-value-form T p k (Node-F.And a b) into s w h = absurd (h.and a b (node.rolls-And a b))
no-value-form T p k (Node-F.Or a b) into s w h = absurd (h.or a b (node.rolls-Or a b))
no-value-form T p k (Node-F.Conditional c a b) into s w h = absurd (h.conditional c a b (node.rolls-Conditional c a b))
no-value-form T p k (Node-F.Comma es) into s w h = absurd (h.comma es (node.rolls-Comma es))
no-value-form T p k (Node-F.Call name f es) into s w h = absurd (h.call name f es (node.rolls-Call name f es))
no-value-form T p k (Node-F.PointerCall a f es) into s w h = absurd (h.pointer_call a f es (node.rolls-PointerCall a f es))
no-value-form T p k (Node-F.Bind a) into s w h = absurd (h.bind a (node.rolls-Bind a))
no-value-form T p k (Node-F.Temporary t a) into s w h = absurd (h.temporary t a (node.rolls-Temporary t a))
no-value-form T p k (Node-F.Hold i t a) into s w h = absurd (h.hold i t a (node.rolls-Hold i t a))
no-value-form T p k (Node-F.List es a) into s w h = absurd (h.list es a (node.rolls-List es a))
no-value-form T p k (Node-F.Characters bytes) into s w h = absurd (h.characters bytes (node.rolls-Characters bytes))
no-value-form T p k Node-F.Zeros into s w h = absurd (h.zeros node.rolls-Zeros)
no-value-form T p k Node-F.Blank into s w h = absurd (h.blank node.rolls-Blank)
no-value-form T p k x into s w h = ap (λ c. valued T p k c into s w) (fold-roll-Node Core (core_step T p) x)

pub no-value : (T : Tables) (p : Program) (k : ℕ) (n : Node) (into : Option Place) (s : State) (w : World) → NoExpression n → valued T p k (core_of T p n) into s w ≡ Went Malformed w
no-value T p k n into s w h =
    let x = form_of n in
    ap (λ n. valued T p k (core_of T p n) into s w) x.1 ∙ no-value-form T p k x.0 into s w (subst NoExpression x.1 h)

-- A node that is no statement does nothing that has a meaning.
pub record NoStatement (n : Node) : Type 0 where
  pub full : (a : Node) → n ≡ node.Full a → ⊥
  pub block : (es : List Node) → n ≡ node.Block es → ⊥
  pub sequence : (es : List Node) → n ≡ node.Sequence es → ⊥
  pub declare : (i : ℕ) (t : ObjectType) (a : Node) → n ≡ node.Declare i t a → ⊥
  pub branch : (c a : Node) (b : Option Node) → n ≡ node.If c a b → ⊥
  pub loop : (f : LoopForm) (c e : Option Node) (a : Node) → n ≡ node.Loop f c e a → ⊥
  pub switch : (a : Node) (es : List Node) → n ≡ node.Switch a es → ⊥
  pub case : (z : ℤ) → n ≡ node.Case z → ⊥
  pub default : n ≡ node.Default → ⊥
  pub leave : n ≡ node.Break → ⊥
  pub continue : n ≡ node.Continue → ⊥
  pub give : (a : Option Node) → n ≡ node.Return a → ⊥

flow-unary : (T : Tables) (p : Program) (k : ℕ) (op : Unary) (c : Core) (s : State) (w : World) → performed T p k (made T op c) s w ≡ Went Malformed w
flow-unary T p k one.Read c s w = refl
flow-unary T p k one.Address c s w = refl
flow-unary T p k one.Dereference c s w = refl
flow-unary T p k one.Decay c s w = refl
flow-unary T p k (one.Convert t) c s w = refl
flow-unary T p k (one.Sign op l) c s w = refl
flow-unary T p k one.Not c s w = refl
flow-unary T p k (one.Increment b o) c s w = refl

flow-binary : (T : Tables) (p : Program) (k : ℕ) (op : Binary) (a b : Core) (s : State) (w : World) → performed T p k (joined T op a b) s w ≡ Went Malformed w
flow-binary T p k (two.Operate op l) a b s w = refl
flow-binary T p k two.Store a b s w = refl
flow-binary T p k (two.Update o) a b s w = refl
flow-binary T p k two.Index a b s w = refl
flow-binary T p k (two.Point op) a b s w = refl

no-flow-form : (T : Tables) (p : Program) (k : ℕ) (x : Node-F Node) (s : State) (w : World) → NoStatement (roll-Node x) → performed T p k (core_of T p (roll-Node x)) s w ≡ Went Malformed w
no-flow-form T p k (Node-F.Full a) s w h = absurd (h.full a (node.rolls-Full a))
no-flow-form T p k (Node-F.Block es) s w h = absurd (h.block es (node.rolls-Block es))
no-flow-form T p k (Node-F.Sequence es) s w h = absurd (h.sequence es (node.rolls-Sequence es))
no-flow-form T p k (Node-F.Declare i t a) s w h = absurd (h.declare i t a (node.rolls-Declare i t a))
no-flow-form T p k (Node-F.If c a b) s w h = absurd (h.branch c a b (node.rolls-If c a b))
no-flow-form T p k (Node-F.Loop f c e a) s w h = absurd (h.loop f c e a (node.rolls-Loop f c e a))
no-flow-form T p k (Node-F.Switch a es) s w h = absurd (h.switch a es (node.rolls-Switch a es))
no-flow-form T p k (Node-F.Case z) s w h = absurd (h.case z (node.rolls-Case z))
no-flow-form T p k Node-F.Default s w h = absurd (h.default node.rolls-Default)
no-flow-form T p k Node-F.Break s w h = absurd (h.leave node.rolls-Break)
no-flow-form T p k Node-F.Continue s w h = absurd (h.continue node.rolls-Continue)
no-flow-form T p k (Node-F.Return a) s w h = absurd (h.give a (node.rolls-Return a))
no-flow-form T p k (Node-F.Apply op a) s w h = ap (λ c. performed T p k c s w) (fold-roll-Node Core (core_step T p) (Node-F.Apply op a)) ∙ flow-unary T p k op (core_of T p a) s w
no-flow-form T p k (Node-F.Join op a b) s w h = ap (λ c. performed T p k c s w) (fold-roll-Node Core (core_step T p) (Node-F.Join op a b)) ∙ flow-binary T p k op (core_of T p a) (core_of T p b) s w
no-flow-form T p k x s w h = ap (λ c. performed T p k c s w) (fold-roll-Node Core (core_step T p) x)

pub no-flow : (T : Tables) (p : Program) (k : ℕ) (n : Node) (s : State) (w : World) → NoStatement n → performed T p k (core_of T p n) s w ≡ Went Malformed w
no-flow T p k n s w h =
    let x = form_of n in
    ap (λ n. performed T p k (core_of T p n) s w) x.1 ∙ no-flow-form T p k x.0 s w (subst NoStatement x.1 h)
