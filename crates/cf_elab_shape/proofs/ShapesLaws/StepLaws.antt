-- The type behind one operator of a declarator, step by step.
use Rattle.std.proofs.Common.{◌≡◌, ℕ, Bool, true, not, ◌||◌, List, All, refl}
use Rattle.cf_types.specs.Table.{Table, AreParameters}
use Rattle.cf_syntax.specs.declared.specifier.Pointer.{Pointer}
use Rattle.cf_syntax.specs.declared.specifier.Pointer.TheVariants as pointer
use Rattle.cf_elab.specs.Answer.{Made, onward}
use Rattle.cf_elab.specs.Env.{Env}
use Rattle.cf_elab.specs.Operand.{Value}
use Rattle.cf_elab.specs.Shape.{Parameter, Shape, unbounded, fine_bound, count_of}
use Rattle.cf_elab_env.specs.Holds.{IsType}
use Rattle.cf_elab_env.specs.Shut as made
use Rattle.cf_elab_env.proofs.Growth.{grown_laws}
use Rattle.cf_elab_shape.specs.Shapes.Holds.{AreTaken}
use Rattle.cf_elab_shape.specs.Shapes.Seen.{is_built, pointed_shape}
use Rattle.cf_elab_shape.specs.Shapes.Shut as shut

pub pointing_is : (at : ℕ) (c : Bool) (t : ℕ) (env : Env)
    → shut.pointing at c t env ≡ onward (shut.need_at (shut.points env.types t) at env) (λ _ e. onward (made.pointer_to t e) (λ p f. made.const_if c p f))
unfolding shut.pointing shut.need_at shut.points made.pointer_to made.const_if
pointing_is at c t env = refl

pub referring_is : (at t : ℕ) (env : Env) → shut.referring at t env ≡ onward (shut.need_at (shut.refers env.types t) at env) (λ _ e. made.reference_to t e)
unfolding shut.referring shut.need_at shut.refers made.reference_to
referring_is at t env = refl

pub taking_is : (at : ℕ) (ps : List Parameter) (c may : Bool) (t : ℕ) (env : Env)
    → shut.taking at ps c may t env
    ≡ onward (shut.need_at (shut.returned env.types t) at env) (λ _ e. onward (shut.need_at (not c || may) at e) (λ _ f.
    onward (shut.parameter_types ps f) (λ qs g. made.function_type t qs c g)))
unfolding shut.taking shut.need_at shut.returned shut.parameter_types made.function_type
taking_is at ps c may t env = refl

pub holding_is : (at : ℕ) (b : Value) (t : ℕ) (env : Env)
    → shut.holding at b t env
    ≡ onward (shut.need_at (shut.held env.types t) at env) (λ _ e. onward (shut.need_at (fine_bound b.number) at e) (λ _ f. made.array_of t (count_of b.number) f))
unfolding shut.holding shut.need_at shut.held made.array_of
holding_is at b t env = refl

pub unbounded_is : (at : ℕ) (may : Bool) (t : ℕ) (env : Env)
    → shut.unbounded at may t env ≡ onward (shut.need_at (shut.held env.types t) at env) (λ _ e. onward (shut.need_at may at e) (λ _ f. Made (unbounded t) f))
unfolding shut.unbounded shut.need_at shut.held
unbounded_is at may t env = refl

-- ---- what the parts of a record say

pub taken_known : (types : Table) (ts : List ℕ) → AreTaken types ts → All (λ t. IsType types t) ts
taken_known types ts k = k.typed

pub taken_fine : (types : Table) (ts : List ℕ) → AreTaken types ts → AreParameters types.types ts
taken_fine types ts k = k.fine

-- ---- operators before the name

pub pointed_is : (p : Pointer) (s : Shape) (env : Env) → is_built p ≡ true → shut.pointed p s env ≡ Made (pointed_shape p s) env
unfolding shut.pointed
pointed_is (pointer.To at c) s env h = refl
pointed_is (pointer.Reference at) s env h = refl
pointed_is (pointer.ToMember at path c) s env h = cc

pub ruleset pointing_laws = (pointing_is, grown_laws)

pub ruleset referring_laws = (referring_is, grown_laws)

pub ruleset taking_laws = (taking_is, taken_known, taken_fine, grown_laws)

pub ruleset holding_laws = (holding_is, grown_laws)

pub ruleset unbounded_laws = (unbounded_is)
