-- What statements on the objects of a function need: which sequencing gives.
use Rattle.std.specs.Prelude.{◌≡◌, ℕ, ◌<◌, Bool, true, false, ◌&&◌, Some, length}
use Rattle.cf_core.specs.Types.{Name, SourceType, without_const}
use Rattle.cf_core.specs.Core.{Function}
use Rattle.cf_core.specs.Places.{Place, is_reference, is_scalar}
use Rattle.cf_core.specs.Store as source
use Rattle.cf_core.specs.Calls.{is_library, function_named}
use Rattle.cf_lower_layout.specs.Layout.{LaidOut, leads}
use Rattle.cf_lower_layout.specs.Sorts.{address, sort_to}
use Rattle.cf_plain.specs.Plain.{Register}
use Rattle.cc_whole_mean.specs.declared.named.Named.TheVariants as meant
use Rattle.cf_lower_relate.specs.Map.{is_ended}
use Rattle.cf_lower.specs.Kept.{is_argument, type_of_local}
use Rattle.cf_lower_steps.specs.Moment.{Moment}

-- A local of this number and type may begin: no object of it stands, and it is no parameter's of a call.
pub record MayBegin (at : Moment) (i : ℕ) (t : SourceType) : Type 0 where
  pub there : i < length at.own.locals.types
  pub type : without_const t ≡ without_const (type_of_local at.own.locals i)
  pub laid : LaidOut at.program.classes t
  pub over : (o : ℕ) → at.state.frame.locals i ≡ Some o → is_ended (at.map.stage o) ≡ true
  pub visible : is_argument at.own.locals i && is_scalar t ≡ false

-- a local of an object's type that no reference is, and that is no parameter's of a call
pub record Named (at : Moment) (i : ℕ) : Type 0 where
  pub there : i < length at.own.locals.types
  pub no_reference : is_reference (type_of_local at.own.locals i) ≡ false
  pub visible : is_argument at.own.locals i && is_scalar (type_of_local at.own.locals i) ≡ false
  pub object : sort_to (without_const (type_of_local at.own.locals i)) ≡ address (without_const (type_of_local at.own.locals i))

-- the place in a register is a part of an object that stands
abbrev pub InObject : Moment → Register → Type 0
InObject at r = (p : Place) → at.registers r ≡ Some (source.At p)
    → (is_ended (at.map.stage p.object) ≡ false) × (leads at.program.classes (at.map.type p.object) p.route ≡ true)

-- a name is that of a function in the C too, by its number, and its type is known
pub record NamesFunction (at : Moment) (name : Name) (t : SourceType) : Type 0 where
  pub scoped : at.scope name ≡ Some (meant.Function (at.function name))
  pub library : is_library name ≡ true → without_const (at.signature name) ≡ without_const t
  pub defined : (f : Function) → function_named at.program name ≡ Some f → at.signature name ≡ f.type
