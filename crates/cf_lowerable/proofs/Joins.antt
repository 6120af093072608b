-- A file passes all tests just where it passes each.
use Rattle.std.proofs.Common.{◌≡◌, Bool, true, false, ◌&&◌, sym, ap, ◌∙◌}
use Rattle.cf_base.proofs.Tests.{all_of, both}
use Rattle.cf_core.specs.Core.{CoreFile}
use Rattle.cf_lower_kept.specs.Opened.{functions_open}
use Rattle.cf_lower_kept.specs.Ready.{functions_ready}
use Rattle.cf_lower_place.specs.Named.{functions_in_place}
use Rattle.cf_lower_program.specs.Alike.{starts_alike}
use Rattle.cf_lower_program.specs.Names.{names_lowered, names_used}
use Rattle.cf_lower_program.specs.Starts.{statics_known}
use Rattle.cf_lowerable_core.specs.Looks.{looks, Looked}
use Rattle.cf_plain.specs.Plain.{PlainFile}
use Rattle.cf_sequence_lowered.specs.Literals.{core_literals_differ}
use Rattle.cf_lowerable.specs.Remaining.{Remaining, plain_passes}
use Rattle.cf_lowerable.specs.Tested.{CoreTested, core_passes}

-- ---- one test after the other

module _ (a p : Bool) (is : a ≡ p) where
  pub first_fails : (rest : Bool) → a ≡ false → false ≡ (p && rest)
  first_fails rest fails = sym (ap (λ v. v && rest) (sym is ∙ fails))

  pub past : (v rest : Bool) → a ≡ true → v ≡ rest → v ≡ (p && rest)
  past v rest passes next = next ∙ sym (ap (λ w. w && rest) (sym is ∙ passes))

-- ---- a core

module _ (file : CoreFile) where
  pub core_told : (looks file ≡ true → Looked file) → core_passes file ≡ true → CoreTested file
  core_told looked passed =
      let parts = both (looks file) (core_literals_differ file) passed in record { looked = looked parts.0; literals = parts.1 }

  pub core_passed : (Looked file → looks file ≡ true) → CoreTested file → core_passes file ≡ true
  core_passed look tested = all_of (looks file) (core_literals_differ file) (look (CoreTested.looked tested)) (CoreTested.literals tested)

-- ---- a plain file, by the tests from each on

module _ (file : PlainFile) where
  abbrev pub from_names : Bool
  from_names = names_lowered file && names_used file

  abbrev pub from_places : Bool
  from_places = functions_in_place file && from_names

  abbrev pub from_open : Bool
  from_open = functions_open file && from_places

  abbrev pub from_ready : Bool
  from_ready = functions_ready file && from_open

  abbrev pub from_starts : Bool
  from_starts = starts_alike file && from_ready

  pub plain_told : plain_passes file ≡ true → Remaining file
  plain_told passed =
      let one = both (statics_known file) from_starts passed in
      let two = both (starts_alike file) from_ready one.1 in
      let three = both (functions_ready file) from_open two.1 in
      let four = both (functions_open file) from_places three.1 in
      let five = both (functions_in_place file) from_names four.1 in
      let six = both (names_lowered file) (names_used file) five.1 in
      record { names = six.0; used = six.1; statics = one.0; starts = two.0; ready = three.0; opened = four.0; places = five.0 }

  pub plain_passed : Remaining file → plain_passes file ≡ true
  plain_passed left =
      all_of (statics_known file) from_starts (Remaining.statics left)
      (all_of (starts_alike file) from_ready (Remaining.starts left)
      (all_of (functions_ready file) from_open (Remaining.ready left)
      (all_of (functions_open file) from_places (Remaining.opened left)
      (all_of (functions_in_place file) from_names (Remaining.places left)
      (all_of (names_lowered file) (names_used file) (Remaining.names left) (Remaining.used left))))))
