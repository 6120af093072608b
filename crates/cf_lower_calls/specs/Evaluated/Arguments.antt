-- The arguments of a call: their objects, which nothing points to yet, and their values in the C, which the parameters' blocks are born with.
use Rattle.std.specs.Prelude.{◌≡◌, ℕ, suc, ◌<◌, ◌≤◌, true, false, List, [], ◌∷◌, Some, Ok}
use Rattle.cf_core.specs.Store as source
use Rattle.cf_core.specs.Run.{State}
use Rattle.cf_lower_layout.specs.Sorts.{Sort, sort_of}
use Rattle.cc_whole_memory.specs.declared.value.Value.{Value}
use Rattle.cc_whole_memory.specs.Blocks.{Memory}
use Rattle.cc_whole_mean.specs.declared.named.Named.TheVariants as meant
use Rattle.cc_whole_mean.specs.declared.named.Shape.TheVariants.{Single as single}
use Rattle.cc_whole_mean.specs.Flow.{born_arguments}
use Rattle.cc_whole_mean.specs.Scope.{Scope}
use Rattle.cc_whole_mean.specs.Types.{scalar_of}
use Rattle.cc_whole_mean.specs.Values.{values_of}
use Rattle.cf_lower.specs.Statements.{passed}
use Rattle.cf_lower.specs.Written.{c_type, local_name}
use Rattle.cf_lower_relate.specs.Map.{Fixed, Map, Grows, Is, is_ended, is_hidden, is_shown, entered}
use Rattle.cf_lower_relate.specs.Relation.{Rel}

-- no object is among these
abbrev pub NotAmong : ℕ → List ℕ → Type 0
NotAmong o [] = Unit {0}
NotAmong o (p ∷ ps) = (o ≡ p → ⊥) × NotAmong o ps

abbrev pub Differ : List ℕ → Type 0
Differ [] = Unit {0}
Differ (o ∷ os) = NotAmong o os × Differ os

-- an object holds the value of a scalar, which is hidden and is this in the C
pub record Passed (K : Fixed) (F : Map) (s : State) (o : ℕ) (back : Value) : Type 0 where
  pub known : o < F.count
  pub hidden : is_hidden (F.stage o) ≡ true
  pub sort : Sort
  pub typed : sort_of (F.type o) ≡ Some sort
  pub value : source.Value
  pub held : (s.object o).held [] ≡ Some value
  pub same : Is K F sort value back

abbrev pub AllPassed : Fixed → Map → State → List ℕ → List Value → Type 0
AllPassed K F s [] [] = Unit {0}
AllPassed K F s [] (c ∷ cs) = ⊥
AllPassed K F s (o ∷ os) [] = ⊥
AllPassed K F s (o ∷ os) (c ∷ cs) = Passed K F s o c × AllPassed K F s os cs

-- the objects have come into the blocks from this number on
abbrev pub entered_all : List ℕ → ℕ → Map → Map
entered_all [] b F = F
entered_all (o ∷ os) b F = entered_all os (suc b) (entered o b F)

-- each object in its block
abbrev pub StandIn : Map → List ℕ → ℕ → Type 0
StandIn E [] b = Unit {0}
StandIn E (o ∷ os) b = ((E.block o ≡ b) × ((E.base o ≡ 0) × (is_shown (E.stage o) ≡ true))) × StandIn E os (suc b)

-- The objects stand in the memory in which the parameters were born; all others stand where they did.
pub record Enters (K : Fixed) (F : Map) (s : State) (m : Memory) (os : List ℕ) (cs : List Value) : Type 0 where
  pub grows : Grows F (entered_all os m.next F)
  pub rel : Rel K (entered_all os m.next F) s (born_arguments cs m)
  pub stand : StandIn (entered_all os m.next F) os m.next
  pub stage : (p : ℕ) → NotAmong p os → (entered_all os m.next F).stage p ≡ F.stage p
  pub block : (p : ℕ) → NotAmong p os → (entered_all os m.next F).block p ≡ F.block p
  pub base : (p : ℕ) → NotAmong p os → (entered_all os m.next F).base p ≡ F.base p

-- the object of a local that is passed: it stands in the C local, which is a scalar
pub record InItsLocal (K : Fixed) (F : Map) (scope : Scope) (s : State) (i o : ℕ) : Type 0 where
  pub known : o < F.count
  pub hidden : is_hidden (F.stage o) ≡ true
  pub sort : Sort
  pub typed : sort_of (F.type o) ≡ Some sort
  pub named : scope (local_name i) ≡ Some (meant.Variable (F.block o) (single (scalar_of (c_type sort))))
  pub base : F.base o ≡ 0
  pub value : source.Value
  pub held : (s.object o).held [] ≡ Some value

abbrev pub InTheirLocals : Fixed → Map → Scope → State → List ℕ → List ℕ → Type 0
InTheirLocals K F scope s [] [] = Unit {0}
InTheirLocals K F scope s [] (o ∷ os) = ⊥
InTheirLocals K F scope s (i ∷ is) [] = ⊥
InTheirLocals K F scope s (i ∷ is) (o ∷ os) = InItsLocal K F scope s i o × InTheirLocals K F scope s is os

-- the C's arguments have values, which are those of the objects
pub record Evaluates (K : Fixed) (F : Map) (scope : Scope) (s : State) (m : Memory) (is os : List ℕ) : Type 0 where
  pub values : List Value
  pub are : values_of (passed is) scope m ≡ Ok values
  pub passed_there : AllPassed K F s os values
