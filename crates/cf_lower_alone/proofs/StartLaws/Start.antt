-- What stands in both programs of one linked file as they start.
use Rattle.std.proofs.Common.{◌≡◌, ℕ, true, List, [], ◌∷◌, Ok, refl, sym, subst}
use Rattle.std.proofs.lemmas.Bool.{true≢false}
use Rattle.cf_core.specs.Classes.{Class}
use Rattle.cf_plain.specs.Plain.{PlainFunction, PlainStatic, PlainFile}
use Rattle.cc_whole.specs.declared.unit.CProgram.{CProgram}
use Rattle.cc_whole.specs.declared.unit.CUnit.{CUnit}
use Rattle.cc_whole.specs.Plain.{items_of}
use Rattle.cc_whole_link.specs.Link.{Links}
use Rattle.cc_whole_mean.specs.Start as start
use Rattle.cf_lower_program.specs.Lowerable.{is_none, Lowerable}
use Rattle.cf_lower_program.specs.Agrees.{IsLowered}
use Rattle.cf_lower_valid.proofs.Tests.{file_of}
use Rattle.cf_lower_alone.specs.Linked.{LinkedAlone}
use Rattle.cf_lower_alone.proofs.AloneLaws.Alone.{linked-alone}
use Rattle.cf_lower_alone.specs.Programs.{beside, programs}
use Rattle.cf_lower_alone.proofs.FittingLaws.Sides.{joined, joined-functions}
use Rattle.cf_lower_alone.proofs.FittingLaws.Fits.{names}
use Rattle.cf_lower_begun.proofs.Begin.{statics-begin}
use Rattle.cf_lower_alone.specs.Starts.{Starts}
use Rattle.cf_lower_alone.proofs.StartLaws.Statics.{P, V, statics-first, static-there}
use Rattle.cf_lower_alone.proofs.StartLaws.Texts.{texts-new, texts-laid}

lists-start : (fs : List PlainFunction) (xs : List PlainStatic) (program : CProgram) (depth : ℕ) → Lowerable (file_of fs xs)
    → LinkedAlone (file_of fs xs) program → Starts (programs (file_of fs xs ∷ []) program) depth (start.first_state (items_of program.items)).memory
lists-start fs xs program depth low A =
    subst (λ gs. Starts (beside gs (joined fs xs low) program) depth (start.first_state (items_of program.items)).memory) (sym (joined-functions fs xs low))
    (record {
      rel = statics-begin (P fs xs low program A).program (P fs xs low program A).function (P fs xs low program A).signature (V fs xs low program A)
          (names fs xs low program A) depth (statics-first fs xs low program A);
      statics = static-there fs xs low program A;
      texts_laid = texts-laid fs xs low program A;
      texts = texts-new fs xs low program A;
    })

no-classes : (cs : List Class) → is_none cs ≡ true → [] ≡ cs
no-classes [] e = refl
no-classes (c ∷ cs) e = absurd (true≢false (sym e))

pub one-starts : (file : PlainFile) (unit : CUnit) (program : CProgram) (depth : ℕ) → Lowerable file → IsLowered file unit → Links (unit ∷ []) (Ok program)
    → Starts (programs (file ∷ []) program) depth (start.first_state (items_of program.items)).memory
one-starts file unit program depth low is links =
    let with_classes : List Class → PlainFile = λ cs. record { classes = cs; functions = file.functions; statics = file.statics } in
    subst
    (λ cs. Lowerable (with_classes cs) → LinkedAlone (with_classes cs) program
    → Starts (programs (with_classes cs ∷ []) program) depth (start.first_state (items_of program.items)).memory)
    (no-classes file.classes low.no_classes) (lists-start file.functions file.statics program depth) low (linked-alone file unit program low is links)
