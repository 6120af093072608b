-- What is to be so of the actions that sequencing writes for each node of a core.
use Rattle.std.proofs.Common.{◌≡◌, ℕ, ◌≤◌, Bool, true, false, List}
use Rattle.std.specs.Prelude.{ℤ, pos, Option, None}
use Rattle.cf_base.specs.declared.kind.Kind.{Kind}
use Rattle.cf_base.specs.declared.arith.Arith.{Arith}
use Rattle.cf_core.specs.declared.operators.UnaryOperator.{UnaryOperator}
use Rattle.cf_core.specs.Types.{Name, SourceType, parameters}
use Rattle.cf_core.specs.Core as core
use Rattle.cf_core.specs.Core.{Core, Cores, Change, local_temporary, absent}
use Rattle.cf_plain.specs.Plain as plain
use Rattle.cf_plain.specs.Plain.{Register, Action}
use Rattle.cf_sequence.specs.Made.{Local, numbers}
use Rattle.cf_sequence_lowered.specs.Nodes.{core_labels}
use Rattle.cf_sequence_lowered.proofs.Each.{Each}

-- actions that take from the core no type, no name and no bytes
abbrev pub is_neutral : Action → Bool
is_neutral (plain.local i) = true
is_neutral (plain.member r i) = true
is_neutral (plain.read r) = true
is_neutral (plain.dereference r) = true
is_neutral (plain.decay r) = true
is_neutral (plain.index r q) = true
is_neutral (plain.truth r) = true
is_neutral (plain.logical_not r) = true
is_neutral (plain.pointer_operate op r q) = true
is_neutral (plain.store r q) = true
is_neutral (plain.first r q) = true
is_neutral (plain.zeros r) = true
is_neutral (plain.begin_list r) = true
is_neutral (plain.end_list r) = true
is_neutral (plain.reach name) = true
is_neutral (plain.finish_static name) = true
is_neutral a = false

-- T of each action, L of the labels of each switch, where U of each node; added locals are numbered from p on
module _ (T : Action → Type 0) (L : List ℤ → Type 0) (U : Core → Type 0) (p : ℕ) where
  -- the object of a parameter of a call
  abbrev pub Declared : SourceType → Type 0
  Declared t = (i : ℕ) → T (plain.declare i t)

  -- a local that is there from its declaration to its end
  abbrev pub Stays : ℕ → SourceType → Type 0
  Stays i t = T (plain.declare i t) × T (plain.finish t i)

  abbrev pub Own : Local → Type 0
  Own x = Stays x.number x.type

  -- a parameter of a function
  abbrev pub Passed : SourceType → Type 0
  Passed t = (i : ℕ) → Stays i t

  pub record Suits : Type 0 where
    pub neutral : (a : Action) → is_neutral a ≡ true → T a
    pub counter : (i : ℕ) → T (plain.number (pos i))
    pub number : (z : ℤ) → U (core.number z) → T (plain.number z)
    pub text : (j : ℕ) (bytes : List ℕ) → U (core.text j bytes) → T (plain.text j bytes)
    pub static_object : (name : Name) (t : SourceType) → U (core.static_object name t) → T (plain.static_object name t)
    pub function : (name : Name) (t : SourceType) → U (core.function name t) → T (plain.function name t)
    pub convert : (t : SourceType) (e : Core) (r : Register) → U (core.convert t e) → T (plain.convert t r)
    pub from_void : (t : SourceType) (e : Core) (r : Register) → U (core.from_void t e) → T (plain.from_void t r)
    pub operate : (op : Arith) (k : Kind) (a b : Core) (r q : Register) → U (core.operate op k a b) → T (plain.operate op k r q)
    pub unary : (op : UnaryOperator) (k : Kind) (e : Core) (r : Register) → U (core.unary op k e) → T (plain.unary op k r)
    pub update : (a b : Core) (change : Change) (r q : Register) → U (core.update a change b) → T (plain.changed change r q)
    pub step : (is_postfix : Bool) (change : Change) (e : Core) (r q : Register) → U (core.step is_postfix change e) → T (plain.changed change r q)
    pub temporary : (t : SourceType) (e : Core) (i : ℕ) → U (core.temporary t e) → Stays i t
    pub declare : (t : SourceType) (e : Core) (i : ℕ) → U (core.declare i t e) → Stays i t
    pub held : (t : SourceType) (e : Core) (i : ℕ) → U (core.bind (local_temporary i t) e) → Stays i t
    pub call : (name : Name) (t : SourceType) (args : Cores) (k : ℕ) (into : Option Register) → U (core.call name t absent args) → p ≤ k
        → T (plain.call name t None (numbers k (parameters t)) into)
    pub called : (name : Name) (t : SourceType) (args : Cores) → U (core.call name t absent args) → T (plain.function name t)
    pub passed : (name : Name) (t : SourceType) (args : Cores) → U (core.call name t absent args) → Each Declared (parameters t)
    pub pointer_call : (e : Core) (t : SourceType) (args : Cores) (r : Register) (k : ℕ) (into : Option Register) → U (core.pointer_call absent e t args) → p ≤ k
        → T (plain.pointer_call None r t (numbers k (parameters t)) into)
    pub passed_on : (e : Core) (t : SourceType) (args : Cores) → U (core.pointer_call absent e t args) → Each Declared (parameters t)
    pub string : (bytes : List ℕ) (r : Register) → U (core.string bytes) → T (plain.bytes r bytes)
    pub switch : (e : Core) (es : Cores) → U (core.switch e es) → L (core_labels es)
