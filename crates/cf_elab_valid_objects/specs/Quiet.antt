-- What is left as it was on the way from one environment to another.
use Rattle.std.specs.Prelude.{◌≡◌, List, [], ◌∷◌}
use Rattle.cf_elab.specs.Answer.{Answer, Made, Refused, Passed}
use Rattle.cf_elab.specs.Env.{Env}
use Rattle.cf_elab.specs.Operand.{Operand, Part}
use Rattle.cf_elab_env.specs.Holds.{HasNoClass}
use Rattle.cf_elab_valid.specs.Scene.{Classless, IsShown}

-- nothing but the types and the count of literals is changed, and no type names a class
pub record Quiet (a b : Env) : Type 0 where
  pub same : b ≡ record a { types = b.types; hand = record a.hand { literals = b.hand.literals } }
  pub no_type : HasNoClass b.types

-- nothing is said of an answer that is refused
abbrev pub QuietIn : {A : Type 0} → Env → Answer A → Type 0
QuietIn e (Made a f) = Quiet e f
QuietIn e (Refused rule at) = Unit {0}
QuietIn e (Passed bound most) = Unit {0}

-- an operand, which is nothing of a class
abbrev pub QuietOperand : Env → Answer Operand → Type 0
QuietOperand e (Made o f) = Quiet e f × IsShown o
QuietOperand e (Refused rule at) = Unit {0}
QuietOperand e (Passed bound most) = Unit {0}

-- a part that leaves everything wherever it is elaborated
pub record IsQuietPart (p : Part) : Type 0 where
  pub run : (e : Env) → Classless e → QuietOperand e (p.run e)

abbrev pub AreQuietParts : List Part → Type 0
AreQuietParts [] = Unit {0}
AreQuietParts (p ∷ ps) = IsQuietPart p × AreQuietParts ps

-- nothing that is named, defined or declared is changed: the types, the function at hand and the static objects may grow
pub record LeavesNames (a b : Env) : Type 0 where
  pub same : b ≡ record a { types = b.types; hand = b.hand; statics = b.statics }
  pub kind : b.hand.kind ≡ a.hand.kind
  pub no_type : HasNoClass b.types

abbrev pub LeavesIn : {A : Type 0} → Env → Answer A → Type 0
LeavesIn e (Made a f) = LeavesNames e f
LeavesIn e (Refused rule at) = Unit {0}
LeavesIn e (Passed bound most) = Unit {0}
