-- A text has one unit, so its program is the one that this unit is linked to alone; and what the plain file means is what the core means.
use Rattle.std.proofs.Common.{◌≡◌, ◌∙◌, ℕ, List, [], ◌∷◌, map, Option, Some, None, Ok, refl, ap, sym, subst}
use Rattle.cf_base.specs.World.{Outcome}
use Rattle.cc_whole.specs.declared.unit.CUnit.{CUnit}
use Rattle.cc_whole.specs.declared.unit.CProgram.{CProgram}
use Rattle.cc_whole.specs.Text.{Text}
use Rattle.cc_whole_link.specs.Link.{Links}
use Rattle.cc_whole_outcome.specs.CMean.{AreTexts, none, more}
use Rattle.cf_core.specs.FromUnit.{Unit as CoreUnit, units_mean}
use Rattle.cf_lower_program.specs.Agrees.{AgreesWith, IsLowered, ProgramAgrees}
use Rattle.cf_lower_program.specs.Lowerable.{Lowerable}
use Rattle.cf_plain.specs.Joined.{files_mean}
use Rattle.cf_plain.specs.Plain.{PlainFile}
use Rattle.cf_plain.specs.View as plain
use Rattle.cf_sequence_unit.specs.Sequences.{AreSequenced}
use Rattle.cf_one_file.specs.Means.{LowerableFileMeans}

-- a text has one unit
abbrev pub OneUnit : Type 0
OneUnit = (text : List ℕ) (u v : CUnit) → Text text u → Text text v → u ≡ v

-- a lowered file and the program of its unit alone agree
abbrev OneFileAgrees : Type 0
OneFileAgrees = (file : PlainFile) (unit : CUnit) (program : CProgram) → Lowerable file → IsLowered file unit → Links (unit ∷ []) (Ok program) → ProgramAgrees (file ∷ []) program

-- plain units have the meaning of their cores
abbrev UnitsKeep : Type 0
UnitsKeep = (units : List CoreUnit) (made : List plain.Unit) → AreSequenced units made → (input : List ℕ) (heap depth n : ℕ) (x : Outcome)
    → units_mean units input heap depth n ≡ Some x → files_mean (map plain.file_of made) input heap depth n ≡ Some x

no-more : (units : List CUnit) → AreTexts [] units → units ≡ []
no-more units none = refl

only-unit : OneUnit → (text : List ℕ) (unit : CUnit) → Text text unit → (units : List CUnit) → AreTexts (text ∷ []) units → units ≡ unit ∷ []
only-unit one text unit spelled units (more _ u _ us s v rest) = ap (λ us. u ∷ us) (no-more us rest) ∙ ap (λ u. u ∷ []) (one text u unit s spelled)

-- what agrees with a meaning agrees with each that this keeps
agrees-before : (kept meant : Option Outcome) (end : Outcome) → ((x : Outcome) → meant ≡ Some x → kept ≡ Some x) → AgreesWith kept end → AgreesWith meant end
agrees-before kept None end keeps agrees = tt
agrees-before kept (Some x) end keeps agrees = subst (λ o. AgreesWith o end) (keeps x refl) agrees

-- what such a text runs is what this unit links to by itself
pub linked-alone : OneUnit → (text : List ℕ) (unit : CUnit) → Text text unit → (units : List CUnit) (program : CProgram) → AreTexts (text ∷ []) units → Links units (Ok program)
    → Links (unit ∷ []) (Ok program)
linked-alone one text unit spelled units program read links = subst (λ us. Links us (Ok program)) (only-unit one text unit spelled units read) links

pub text-means : OneUnit → OneFileAgrees → UnitsKeep → LowerableFileMeans
text-means one agrees keep core unit text valid translated lowerable input bytes heap depth n end m =
    let file = plain.file_of translated.made in
    let linked = linked-alone one text unit (translated.is_text lowerable).spelled m.units m.program m.read m.linked in
    agrees-before (files_mean (file ∷ []) input heap depth n) (units_mean (core ∷ []) input heap depth n) end
    (keep (core ∷ []) (translated.made ∷ []) (valid, translated.sequenced, tt) input heap depth n)
    (subst (AgreesWith (files_mean (file ∷ []) input heap depth n)) (sym m.runs) (agrees file unit m.program lowerable translated.lowered linked input bytes heap depth n))
