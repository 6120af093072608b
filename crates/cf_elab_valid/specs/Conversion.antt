-- Steps of a conversion that lead from a value of one tree to one of another.
use Rattle.std.specs.Prelude.{◌≡◌, Bool, true, false, List, [], ◌∷◌, ◌++◌, if◌then◌else◌}
use Rattle.cf_base.specs.declared.kind.Kind.{Kind}
use Rattle.cf_convert.specs.declared.conv.ConvStep.{ConvStep}
use Rattle.cf_convert.specs.declared.conv.ConvStep.TheVariants.{AddConst, Promote, Integer, Null, ToVoid}
use Rattle.cf_core.specs.Types.{SourceType, integer, pointer, is_void, without_const}
use Rattle.cf_core.specs.Typing.{is_integral}
use Rattle.cf_core_typed.specs.Same.{Same}

pub record BothIntegral (a b : SourceType) : Type 0 where
  pub from : is_integral (without_const a) ≡ true
  pub to : is_integral (without_const b) ≡ true

-- to an integer type of this kind
pub record IntoInteger (k : Kind) (a b : SourceType) : Type 0 where
  pub from : is_integral (without_const a) ≡ true
  pub to : Same b (integer k)

pub record IsPointer (t : SourceType) : Type 0 where
  pub pointee : SourceType
  pub same : Same t (pointer pointee)

pub record IntoVoid (a b : SourceType) : Type 0 where
  pub from : SourceType
  pub is_from : Same a (pointer from)
  pub to : SourceType
  pub is_to : Same b (pointer to)
  pub to_void : is_void to ≡ true

-- one step, or none
abbrev pub Leads : SourceType → SourceType → List ConvStep → Type 0
Leads a b [] = Same a b
Leads a b (Promote ∷ []) = BothIntegral a b
Leads a b (Integer k ∷ []) = IntoInteger k a b
Leads a b (Null ∷ []) = IsPointer b
Leads a b (ToVoid ∷ []) = IntoVoid a b
Leads a b other = ⊥

abbrev pub is_single : List ConvStep → Bool
is_single [] = true
is_single (Promote ∷ []) = true
is_single (Integer k ∷ []) = true
is_single (Null ∷ []) = true
is_single (ToVoid ∷ []) = true
is_single other = false

-- where const is added, that is the last step
abbrev pub with_last : Bool → List ConvStep → List ConvStep
with_last b steps = if b then steps ++ AddConst ∷ [] else steps

-- these steps, whatever const is added; what is said of them may wait
pub record Way (Says : List ConvStep → Type 0) (steps : List ConvStep) : Type 0 where
  pub core : List ConvStep
  pub const : Bool
  pub is : steps ≡ with_last const core
  pub single : is_single core ≡ true
  pub right : Says core
