-- Whether the numbers of types and classes in a file's plain statements are there in its tables.
use Rattle.std.specs.Prelude.{Bool, true, ◌&&◌, List}
use Rattle.std.specs.List.{list_all}
use Rattle.cf_core.specs.FromTypes.{Tables}
use Rattle.cf_core.specs.Numbers.{has_type, has_class, has_member, has_step, has_target, has_part, role_known}
use Rattle.cf_plain.specs.declared.action.Action.{Action as CodeAction}
use Rattle.cf_plain.specs.declared.action.Action.TheVariants as code
use Rattle.cf_plain.specs.declared.statement.Plain.{Plain as CodePlain, fold-Plain}
use Rattle.cf_plain.specs.declared.statement.Plain.TheOpen.{Plain-F}
use Rattle.cf_plain.specs.declared.statement.PlainPart.{PlainPart-F}
use Rattle.cf_plain.specs.declared.unit.PlainFn.{PlainFn}
use Rattle.cf_plain.specs.declared.unit.PlainStatic.{PlainStatic as CodeStatic}

abbrev pub all_of : List Bool → Bool
all_of bs = list_all (λ (b : Bool). b) bs

module _ (tables : Tables) where
  abbrev pub action_known : CodeAction → Bool
  action_known (code.Static n t) = has_type tables t
  action_known (code.Function n t) = has_type tables t
  action_known (code.Part w) = has_part tables w
  action_known (code.Convert t r) = has_type tables t
  action_known (code.Up path r) = list_all (has_step tables) path
  action_known (code.Down c path r) = has_class tables c && list_all (has_step tables) path
  action_known (code.FromVoid t r) = has_type tables t
  action_known (code.ToMember path r) = list_all (has_step tables) path
  action_known (code.FunctionPointer t) = has_target tables t
  action_known (code.Declare i t) = has_type tables t
  action_known (code.Carry t r q) = has_type tables t
  action_known (code.CarryOver t r q) = has_type tables t
  action_known (code.Finish t i) = has_type tables t
  action_known (code.New t) = has_type tables t
  action_known (code.NewArray t r) = has_type tables t
  action_known (code.Delete t r) = has_type tables t
  action_known (code.DeleteArray t r) = has_type tables t
  action_known (code.Call f t object is into) = has_type tables t
  action_known (code.VirtualCall m t object is into) = has_member tables m && has_type tables t
  action_known (code.PointerCall object r t is into) = has_type tables t
  action_known (code.Build f t r is) = has_type tables t
  action_known a = true

  abbrev pub known_step : Plain-F Bool Bool → Bool
  known_step (Plain-F.Act a) = action_known a
  known_step (Plain-F.Set r a) = action_known a
  known_step (Plain-F.If r ss ts) = all_of ss && all_of ts
  known_step (Plain-F.Loop ss ts) = all_of ss && all_of ts
  known_step (Plain-F.Switch r ss) = all_of ss
  known_step (Plain-F.Case z) = true
  known_step Plain-F.Default = true
  known_step Plain-F.Break = true
  known_step Plain-F.Continue = true
  known_step (Plain-F.Return r) = true
  known_step (Plain-F.Parts ps) = all_of ps

  abbrev pub known_part : PlainPart-F Bool Bool → Bool
  known_part x = has_part tables x.part && all_of x.statements

  abbrev pub are_known : List CodePlain → Bool
  are_known ss = list_all (fold-Plain Bool Bool known_step known_part) ss

  abbrev pub function_known : PlainFn → Bool
  function_known f =
      role_known tables f.role && has_type tables f.result && list_all (has_type tables) f.params && list_all (has_type tables) f.locals && are_known f.body

  abbrev pub static_known : CodeStatic → Bool
  static_known x = has_type tables x.ty && list_all (has_type tables) x.locals && are_known x.start
