-- What a row of elaboration answers: where it makes something, that is valid in each end that the environment behind it leads to.
use Rattle.cf_elab.specs.Env.{Env}
use Rattle.cf_elab.specs.Answer.{Answer, Made, Refused, Passed}
use Rattle.cf_elab.specs.Operand.{Operand, Part}
use Rattle.cf_elab_valid.specs.Scene.{Scene, Within, Steps, Classless, Holds, OperandFits, IsShown}

-- made on the way from one environment to another
pub record Good {A : Type 0} (s : Scene) (P : A → Env → Type 0) (before : Env) (a : A) (behind : Env) : Type 0 where
  pub steps : Steps before behind
  pub classless : Classless behind
  pub holds : Within behind s → Holds s behind
  pub made : Within behind s → P a behind

-- nothing is said of an answer that is refused
abbrev pub Fine : {A : Type 0} → Scene → (A → Env → Type 0) → Env → Answer A → Type 0
Fine s P before (Made a behind) = Good s P before a behind
Fine s P before (Refused rule at) = Unit {0}
Fine s P before (Passed bound most) = Unit {0}

-- of what is made something is known at once
abbrev pub FineAs : {A : Type 0} → Scene → (A → Type 0) → (A → Env → Type 0) → Env → Answer A → Type 0
FineAs s Q P before (Made a behind) = Good s P before a behind × Q a
FineAs s Q P before (Refused rule at) = Unit {0}
FineAs s Q P before (Passed bound most) = Unit {0}

-- an operand, of which it is known at once that it is nothing of a class
abbrev pub FineOperand : Scene → Env → Answer Operand → Type 0
FineOperand s before r = FineAs s IsShown (OperandFits s) before r

-- a part of an expression is fine wherever it is elaborated
pub record IsPart (s : Scene) (p : Part) : Type 0 where
  pub run : (e : Env) → Classless e → (Within e s → Holds s e) → FineOperand s e (p.run e)
