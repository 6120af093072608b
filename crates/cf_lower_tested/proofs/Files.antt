-- Functions of lowered files pass.
use Rattle.std.proofs.Common.{◌≡◌, true, ◌&&◌, List, [], ◌∷◌, refl, subst}
use Rattle.std.specs.List.{list_all}
use Rattle.cf_base.proofs.Tests.{both, all_of}
use Rattle.cf_core.specs.Classes.{Class}
use Rattle.cf_plain.specs.Plain.{PlainFunction, PlainFile}
use Rattle.cf_lower_kept.specs.Opened.{function_opens}
use Rattle.cf_lower_kept.specs.Ready.{function_ready}
use Rattle.cf_lower_place.specs.Named.{function_in_place}
use Rattle.cf_lower_program.specs.Lowerable.{is_none, Lowerable}
use Rattle.cf_lower_tested.specs.Named.{passes}

no-classes : (cs : List Class) → is_none cs ≡ true → cs ≡ []
no-classes [] e = refl
no-classes (c ∷ cs) e = absurd (let k = e in cc)

all-pass : (fs : List PlainFunction) → list_all function_ready fs ≡ true → list_all function_opens fs ≡ true → list_all (function_in_place []) fs ≡ true
    → list_all (λ (f : PlainFunction). passes f) fs ≡ true
all-pass [] ready opened place = refl
all-pass (f ∷ fs) ready opened place =
    let r = both (function_ready f) (list_all function_ready fs) ready in
    let o = both (function_opens f) (list_all function_opens fs) opened in
    let p = both (function_in_place [] f) (list_all (function_in_place []) fs) place in
    all_of (passes f) (list_all (λ (g : PlainFunction). passes g) fs)
    (all_of (function_ready f) (function_opens f && function_in_place [] f) r.0 (all_of (function_opens f) (function_in_place [] f) o.0 p.0))
    (all-pass fs r.1 o.1 p.1)

pub functions-pass : (file : PlainFile) → Lowerable file → list_all (λ (f : PlainFunction). passes f) file.functions ≡ true
functions-pass file low =
    all-pass file.functions low.ready low.opened
    (subst (λ cs. list_all (function_in_place cs) file.functions ≡ true) (no-classes file.classes low.no_classes) low.places)
