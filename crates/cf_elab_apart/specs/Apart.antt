-- What a constant names: a value that is fixed, or has a known number and is no place, is typed the same without the locals of the function at hand (5.19, 8.4).
use Rattle.std.specs.Prelude.{◌≡◌, true, false, is_some, List, [], ◌∷◌, Option, None, Some}
use Rattle.cf_core.specs.declared.node.Core.{Core as Node}
use Rattle.cf_core.specs.Typed.{typing}
use Rattle.cf_elab.specs.Initial.{Start}
use Rattle.cf_elab.specs.Lists.{Tree, Trees, leaf, text, branch, no_trees, trees}
use Rattle.cf_elab.specs.Objects.{Written, equals, bracketed}
use Rattle.cf_elab.specs.Operand.{Value, Operand, value}
use Rattle.cf_elab_valid.specs.Scene.{Scene, core, typed, file_scope}

-- typed the same without the locals
abbrev pub Alike : Scene → Node → Type 0
Alike s n = typing (file_scope s) (core s n) ≡ typed s n

-- ---- values

pub record Apart (s : Scene) (v : Value) : Type 0 where
  pub fixed : v.is_fixed ≡ true → Alike s v.node
  pub number : v.is_lvalue ≡ false → is_some v.number ≡ true → Alike s v.node

abbrev pub OperandApart : Scene → Operand → Type 0
OperandApart s (value v) = Apart s v
OperandApart s other = Unit {0}

-- ---- initialisers

abbrev mutual
  pub TreeApart : Scene → Tree → Type 0
  TreeApart s (leaf at v) = Apart s v
  TreeApart s (text at n bytes) = Unit {0}
  TreeApart s (branch at ts) = TreesApart s ts

  pub TreesApart : Scene → Trees → Type 0
  TreesApart s no_trees = Unit {0}
  TreesApart s (trees t ts) = TreeApart s t × TreesApart s ts

abbrev pub ListApart : Scene → List Tree → Type 0
ListApart s [] = Unit {0}
ListApart s (t ∷ ts) = TreeApart s t × ListApart s ts

abbrev pub WrittenApart : Scene → Written → Type 0
WrittenApart s (equals at t) = TreeApart s t
WrittenApart s (bracketed at ts) = ListApart s ts

abbrev pub MaybeApart : Scene → Option Written → Type 0
MaybeApart s None = Unit {0}
MaybeApart s (Some w) = WrittenApart s w

-- what starts an object, where it is constant
pub record StartApart (s : Scene) (x : Start) : Type 0 where
  pub alike : x.is_constant ≡ true → Alike s x.node
