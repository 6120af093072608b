-- What is asked of both programs, of one linked file.
use Rattle.std.proofs.Common.{◌≡◌, true, List, [], ◌∷◌, Ok, refl, sym, subst}
use Rattle.std.proofs.lemmas.Bool.{true≢false}
use Rattle.cf_core.specs.Classes.{Class}
use Rattle.cf_plain.specs.Plain.{PlainFunction, PlainStatic, PlainFile}
use Rattle.cc_whole.specs.declared.unit.CProgram.{CProgram}
use Rattle.cc_whole.specs.declared.unit.CUnit.{CUnit}
use Rattle.cc_whole_link.specs.Link.{Links}
use Rattle.cf_lower_program.specs.Lowerable.{is_none, Lowerable}
use Rattle.cf_lower_program.specs.Agrees.{IsLowered}
use Rattle.cf_lower_valid.proofs.Tests.{file_of}
use Rattle.cf_lower_alone.specs.Linked.{LinkedAlone}
use Rattle.cf_lower_alone.proofs.AloneLaws.Alone.{linked-alone}
use Rattle.cf_lower_alone.specs.Programs.{beside, programs, FitTogether}
use Rattle.cf_lower_alone.proofs.FittingLaws.Sides.{joined, joined-functions}
use Rattle.cf_lower_alone.proofs.FittingLaws.Fits.{fitting}
use Rattle.cf_lower_alone.proofs.FittingLaws.Lowered.{all-lowered}
use Rattle.cf_lower_alone.proofs.FittingLaws.Numbers.{all-joined}

lists-fit : (fs : List PlainFunction) (xs : List PlainStatic) (program : CProgram) → Lowerable (file_of fs xs) → LinkedAlone (file_of fs xs) program
    → FitTogether (programs (file_of fs xs ∷ []) program)
lists-fit fs xs program low A =
    subst (λ gs. FitTogether (beside gs (joined fs xs low) program)) (sym (joined-functions fs xs low))
    (record {
      fitting = fitting fs xs low program A;
      joined = all-joined fs xs low program A;
      lowered = all-lowered fs xs low program A;
    })

no-classes : (cs : List Class) → is_none cs ≡ true → [] ≡ cs
no-classes [] e = refl
no-classes (c ∷ cs) e = absurd (true≢false (sym e))

pub one-fits : (file : PlainFile) (unit : CUnit) (program : CProgram) → Lowerable file → IsLowered file unit → Links (unit ∷ []) (Ok program)
    → FitTogether (programs (file ∷ []) program)
one-fits file unit program low is links =
    let with_classes : List Class → PlainFile = λ cs. record { classes = cs; functions = file.functions; statics = file.statics } in
    subst
    (λ cs. Lowerable (with_classes cs) → LinkedAlone (with_classes cs) program → FitTogether (programs (with_classes cs ∷ []) program))
    (no-classes file.classes low.no_classes) (lists-fit file.functions file.statics program) low (linked-alone file unit program low is links)
