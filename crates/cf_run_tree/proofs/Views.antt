-- What each tree is as a core.
use Rattle.std.proofs.Common.{◌≡◌, ◌∙◌, ap, sym, ℕ, ℤ, List, Option, Some, None, map, option_map}
use Rattle.cf_core.specs.declared.operators.LoopForm.{LoopForm}
use Rattle.cf_core.specs.FromTypes.{Tables}
use Rattle.cf_core.specs.Core.{Core, no_temporary, local_temporary, absent, number, temporary, local, static_object, logical_and, logical_or, conditional, comma, text, function, call, pointer_call, bind, list, string, zeros, blank, full, block, sequence, declare, branch, loop, switch, case_label, default_label, leave, continue, give}
use Rattle.cf_core.specs.View.{listed, maybe}
use Rattle.cf_run_tree.specs.declared.shape.Shape.{Shape}
use Rattle.cf_run_tree.specs.declared.shape.ObjectType.{ObjectType}
use Rattle.cf_run_tree.specs.declared.node.Unary.{Unary}
use Rattle.cf_run_tree.specs.declared.node.Binary.{Binary}
use Rattle.cf_run_tree.specs.declared.node.Node.{Node}
use Rattle.cf_run_tree.specs.declared.node.Node.TheOpen.{Node-F}
use Rattle.cf_run_tree.specs.declared.node.Node.TheFolds.{fold-roll-Node}
use Rattle.cf_run_tree.specs.declared.node.Node.TheVariants as node
use Rattle.cf_run_tree.specs.declared.program.Signature.{Signature}
use Rattle.cf_run_tree.specs.declared.program.Program.{Program}
use Rattle.cf_run_tree.specs.Tree.{shape_type, object_type, signature_type, function_head, static_type, applied, joined, core_step, core_of}

pub core-Number : (tables : Tables) (p : Program) (z : ℤ) → core_of tables p (node.Number z) ≡ number z
core-Number tables p z = ap (core_of tables p) (sym (node.rolls-Number z)) ∙ fold-roll-Node Core (core_step tables p) (Node-F.Number z)

pub core-Local : (tables : Tables) (p : Program) (i : ℕ) → core_of tables p (node.Local i) ≡ local i
core-Local tables p i = ap (core_of tables p) (sym (node.rolls-Local i)) ∙ fold-roll-Node Core (core_step tables p) (Node-F.Local i)

pub core-Static : (tables : Tables) (p : Program) (name : List ℕ) (t : ObjectType) → core_of tables p (node.Static name t) ≡ static_object name (object_type tables (static_type p name t))
core-Static tables p name t = ap (core_of tables p) (sym (node.rolls-Static name t)) ∙ fold-roll-Node Core (core_step tables p) (Node-F.Static name t)

pub core-Apply : (tables : Tables) (p : Program) (op : Unary) (e : Node) → core_of tables p (node.Apply op e) ≡ applied tables op (core_of tables p e)
core-Apply tables p op e = ap (core_of tables p) (sym (node.rolls-Apply op e)) ∙ fold-roll-Node Core (core_step tables p) (Node-F.Apply op e)

pub core-Join : (tables : Tables) (p : Program) (op : Binary) (a b : Node) → core_of tables p (node.Join op a b) ≡ joined tables op (core_of tables p a) (core_of tables p b)
core-Join tables p op a b = ap (core_of tables p) (sym (node.rolls-Join op a b)) ∙ fold-roll-Node Core (core_step tables p) (Node-F.Join op a b)

pub core-And : (tables : Tables) (p : Program) (a b : Node) → core_of tables p (node.And a b) ≡ logical_and (core_of tables p a) (core_of tables p b)
core-And tables p a b = ap (core_of tables p) (sym (node.rolls-And a b)) ∙ fold-roll-Node Core (core_step tables p) (Node-F.And a b)

pub core-Or : (tables : Tables) (p : Program) (a b : Node) → core_of tables p (node.Or a b) ≡ logical_or (core_of tables p a) (core_of tables p b)
core-Or tables p a b = ap (core_of tables p) (sym (node.rolls-Or a b)) ∙ fold-roll-Node Core (core_step tables p) (Node-F.Or a b)

pub core-Conditional : (tables : Tables) (p : Program) (c a b : Node) → core_of tables p (node.Conditional c a b) ≡ conditional (core_of tables p c) (core_of tables p a) (core_of tables p b)
core-Conditional tables p c a b = ap (core_of tables p) (sym (node.rolls-Conditional c a b)) ∙ fold-roll-Node Core (core_step tables p) (Node-F.Conditional c a b)

pub core-Comma : (tables : Tables) (p : Program) (es : List Node) → core_of tables p (node.Comma es) ≡ comma (listed (map (core_of tables p) es))
core-Comma tables p es = ap (core_of tables p) (sym (node.rolls-Comma es)) ∙ fold-roll-Node Core (core_step tables p) (Node-F.Comma es)

pub core-Call : (tables : Tables) (p : Program) (name : List ℕ) (f : Signature) (es : List Node) → core_of tables p (node.Call name f es) ≡ call name (signature_type tables (function_head p name f)) absent (listed (map (core_of tables p) es))
core-Call tables p name f es = ap (core_of tables p) (sym (node.rolls-Call name f es)) ∙ fold-roll-Node Core (core_step tables p) (Node-F.Call name f es)

pub core-Bind : (tables : Tables) (p : Program) (e : Node) → core_of tables p (node.Bind e) ≡ bind no_temporary (core_of tables p e)
core-Bind tables p e = ap (core_of tables p) (sym (node.rolls-Bind e)) ∙ fold-roll-Node Core (core_step tables p) (Node-F.Bind e)

pub core-Temporary : (tables : Tables) (p : Program) (s : Shape) (e : Node) → core_of tables p (node.Temporary s e) ≡ temporary (shape_type tables s) (core_of tables p e)
core-Temporary tables p s e = ap (core_of tables p) (sym (node.rolls-Temporary s e)) ∙ fold-roll-Node Core (core_step tables p) (Node-F.Temporary s e)

pub core-Hold : (tables : Tables) (p : Program) (i : ℕ) (s : Shape) (e : Node) → core_of tables p (node.Hold i s e) ≡ bind (local_temporary i (shape_type tables s)) (core_of tables p e)
core-Hold tables p i s e = ap (core_of tables p) (sym (node.rolls-Hold i s e)) ∙ fold-roll-Node Core (core_step tables p) (Node-F.Hold i s e)

pub core-Blank : (tables : Tables) (p : Program) → core_of tables p node.Blank ≡ blank
core-Blank tables p = ap (core_of tables p) (sym node.rolls-Blank) ∙ fold-roll-Node Core (core_step tables p) Node-F.Blank

pub core-Full : (tables : Tables) (p : Program) (e : Node) → core_of tables p (node.Full e) ≡ full (core_of tables p e)
core-Full tables p e = ap (core_of tables p) (sym (node.rolls-Full e)) ∙ fold-roll-Node Core (core_step tables p) (Node-F.Full e)

pub core-Block : (tables : Tables) (p : Program) (es : List Node) → core_of tables p (node.Block es) ≡ block (listed (map (core_of tables p) es))
core-Block tables p es = ap (core_of tables p) (sym (node.rolls-Block es)) ∙ fold-roll-Node Core (core_step tables p) (Node-F.Block es)

pub core-Sequence : (tables : Tables) (p : Program) (es : List Node) → core_of tables p (node.Sequence es) ≡ sequence (listed (map (core_of tables p) es))
core-Sequence tables p es = ap (core_of tables p) (sym (node.rolls-Sequence es)) ∙ fold-roll-Node Core (core_step tables p) (Node-F.Sequence es)

pub core-Declare : (tables : Tables) (p : Program) (i : ℕ) (t : ObjectType) (e : Node) → core_of tables p (node.Declare i t e) ≡ declare i (object_type tables t) (core_of tables p e)
core-Declare tables p i t e = ap (core_of tables p) (sym (node.rolls-Declare i t e)) ∙ fold-roll-Node Core (core_step tables p) (Node-F.Declare i t e)

pub core-If : (tables : Tables) (p : Program) (c a : Node) (b : Option Node) → core_of tables p (node.If c a b) ≡ branch (core_of tables p c) (core_of tables p a) (maybe (option_map (core_of tables p) b))
core-If tables p c a None = ap (core_of tables p) (sym (node.rolls-If c a None)) ∙ fold-roll-Node Core (core_step tables p) (Node-F.If c a None)
core-If tables p c a (Some b) = ap (core_of tables p) (sym (node.rolls-If c a (Some b))) ∙ fold-roll-Node Core (core_step tables p) (Node-F.If c a (Some b))

pub core-Loop : (tables : Tables) (p : Program) (f : LoopForm) (c e : Option Node) (s : Node) → core_of tables p (node.Loop f c e s) ≡ loop f (maybe (option_map (core_of tables p) c)) (maybe (option_map (core_of tables p) e)) (core_of tables p s)
core-Loop tables p f None None s = ap (core_of tables p) (sym (node.rolls-Loop f None None s)) ∙ fold-roll-Node Core (core_step tables p) (Node-F.Loop f None None s)
core-Loop tables p f None (Some e) s = ap (core_of tables p) (sym (node.rolls-Loop f None (Some e) s)) ∙ fold-roll-Node Core (core_step tables p) (Node-F.Loop f None (Some e) s)
core-Loop tables p f (Some c) None s = ap (core_of tables p) (sym (node.rolls-Loop f (Some c) None s)) ∙ fold-roll-Node Core (core_step tables p) (Node-F.Loop f (Some c) None s)
core-Loop tables p f (Some c) (Some e) s = ap (core_of tables p) (sym (node.rolls-Loop f (Some c) (Some e) s)) ∙ fold-roll-Node Core (core_step tables p) (Node-F.Loop f (Some c) (Some e) s)

pub core-Switch : (tables : Tables) (p : Program) (e : Node) (es : List Node) → core_of tables p (node.Switch e es) ≡ switch (core_of tables p e) (listed (map (core_of tables p) es))
core-Switch tables p e es = ap (core_of tables p) (sym (node.rolls-Switch e es)) ∙ fold-roll-Node Core (core_step tables p) (Node-F.Switch e es)

pub core-Case : (tables : Tables) (p : Program) (z : ℤ) → core_of tables p (node.Case z) ≡ case_label z
core-Case tables p z = ap (core_of tables p) (sym (node.rolls-Case z)) ∙ fold-roll-Node Core (core_step tables p) (Node-F.Case z)

pub core-Default : (tables : Tables) (p : Program) → core_of tables p node.Default ≡ default_label
core-Default tables p = ap (core_of tables p) (sym node.rolls-Default) ∙ fold-roll-Node Core (core_step tables p) Node-F.Default

pub core-Break : (tables : Tables) (p : Program) → core_of tables p node.Break ≡ leave
core-Break tables p = ap (core_of tables p) (sym node.rolls-Break) ∙ fold-roll-Node Core (core_step tables p) Node-F.Break

pub core-Continue : (tables : Tables) (p : Program) → core_of tables p node.Continue ≡ continue
core-Continue tables p = ap (core_of tables p) (sym node.rolls-Continue) ∙ fold-roll-Node Core (core_step tables p) Node-F.Continue

pub core-Return : (tables : Tables) (p : Program) (e : Option Node) → core_of tables p (node.Return e) ≡ give (maybe (option_map (core_of tables p) e))
core-Return tables p None = ap (core_of tables p) (sym (node.rolls-Return None)) ∙ fold-roll-Node Core (core_step tables p) (Node-F.Return None)
core-Return tables p (Some e) = ap (core_of tables p) (sym (node.rolls-Return (Some e))) ∙ fold-roll-Node Core (core_step tables p) (Node-F.Return (Some e))

pub core-Text : (tables : Tables) (p : Program) (j : ℕ) (bytes : List ℕ) → core_of tables p (node.Text j bytes) ≡ text j bytes
core-Text tables p j bytes = ap (core_of tables p) (sym (node.rolls-Text j bytes)) ∙ fold-roll-Node Core (core_step tables p) (Node-F.Text j bytes)

pub core-Function : (tables : Tables) (p : Program) (name : List ℕ) (f : Signature) → core_of tables p (node.Function name f) ≡ function name (signature_type tables (function_head p name f))
core-Function tables p name f = ap (core_of tables p) (sym (node.rolls-Function name f)) ∙ fold-roll-Node Core (core_step tables p) (Node-F.Function name f)

pub core-PointerCall : (tables : Tables) (p : Program) (e : Node) (f : Signature) (es : List Node) → core_of tables p (node.PointerCall e f es) ≡ pointer_call absent (core_of tables p e) (signature_type tables f) (listed (map (core_of tables p) es))
core-PointerCall tables p e f es = ap (core_of tables p) (sym (node.rolls-PointerCall e f es)) ∙ fold-roll-Node Core (core_step tables p) (Node-F.PointerCall e f es)

pub core-List : (tables : Tables) (p : Program) (es : List Node) (rest : Node) → core_of tables p (node.List es rest) ≡ list (listed (map (core_of tables p) es)) (core_of tables p rest)
core-List tables p es rest = ap (core_of tables p) (sym (node.rolls-List es rest)) ∙ fold-roll-Node Core (core_step tables p) (Node-F.List es rest)

pub core-Characters : (tables : Tables) (p : Program) (bytes : List ℕ) → core_of tables p (node.Characters bytes) ≡ string bytes
core-Characters tables p bytes = ap (core_of tables p) (sym (node.rolls-Characters bytes)) ∙ fold-roll-Node Core (core_step tables p) (Node-F.Characters bytes)

pub core-Zeros : (tables : Tables) (p : Program) → core_of tables p node.Zeros ≡ zeros
core-Zeros tables p = ap (core_of tables p) (sym node.rolls-Zeros) ∙ fold-roll-Node Core (core_step tables p) Node-F.Zeros
