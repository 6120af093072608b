-- What initialisers name goes by the same names in the C and in the source, and the literals that they name are there.
use Rattle.std.specs.Prelude.{◌≡◌, ℕ, true, List}
use Rattle.cf_core.specs.Types.{Name}
use Rattle.cf_core.specs.Calls.{is_library}
use Rattle.cf_plain.specs.Plain as plain
use Rattle.cf_plain.specs.Plain.{Action, Plain, Plains, set, branch, nothing, more}

-- Names of static objects and functions are the same after both renamings, the C's and the source's; those of the library stay. Of literals this holds, by number and bytes.
abbrev pub NameGoes : (Name → Name) → (Name → Name) → (ℕ → List ℕ → Type 0) → Action → Type 0
NameGoes q r L (plain.static_object n t) = r n ≡ q n
NameGoes q r L (plain.function n t) = (r n ≡ q n) × (is_library (q n) ≡ true → q n ≡ n)
NameGoes q r L (plain.text j b) = L j b
NameGoes q r L a = Unit {0}

abbrev mutual
  pub NamesIn : (Name → Name) → (Name → Name) → (ℕ → List ℕ → Type 0) → Plain → Type 0
  NamesIn q r L (set i a) = NameGoes q r L a
  NamesIn q r L (branch i ss ts) = NamesGo q r L ss × NamesGo q r L ts
  NamesIn q r L s = Unit {0}

  pub NamesGo : (Name → Name) → (Name → Name) → (ℕ → List ℕ → Type 0) → Plains → Type 0
  NamesGo q r L nothing = Unit {0}
  NamesGo q r L (more s ss) = NamesIn q r L s × NamesGo q r L ss
