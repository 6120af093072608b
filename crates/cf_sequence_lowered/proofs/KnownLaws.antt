-- Static objects: where what a core's initialisers give is known before the run, it is known of their plain statements.
use Rattle.std.proofs.Common.{◌≡◌, Bool, true, false, ◌&&◌, ◌||◌, not, if◌then◌else◌, List, [], ◌∷◌, map, refl, sym, ap, ◌∙◌, subst}
use Rattle.std.specs.Prelude.{Option, Some, None, bytes_eq}
use Rattle.std.specs.List.{list_all, list_any}
use Rattle.cf_base.proofs.Tests.{both, all_of}
use Rattle.cf_core.specs.Types.{Name, SourceType}
use Rattle.cf_core.specs.Classes.{Class}
use Rattle.cf_core.specs.Core as core
use Rattle.cf_core.specs.Core.{Core, Function, Static, CoreFile}
use Rattle.cf_core.specs.Joined.{is_nothing}
use Rattle.cf_core.specs.Valid as valid
use Rattle.cf_plain.specs.Plain.{Register, Plains, PlainFunction, PlainStatic, act, set, branch, nothing, more}
use Rattle.cf_plain.specs.Plain as plain
use Rattle.cf_sequence.specs.Built.{is_built_file, is_built_static, is_constant_element, is_constant_start, is_bound}
use Rattle.cf_sequence.specs.Statements.{type_of_static, reached, started, initialised}
use Rattle.cf_sequence.specs.Sequenced.{sequenced_start, sequenced_function, sequenced_static, sequenced_file}
use Rattle.cf_sequence.proofs.Calling.{never}
use Rattle.cf_sequence.proofs.Constants.{constant-start, something-constant, by-set, element-binds, constant-object, start-is}
use Rattle.cf_lower.specs.Constants.{at, know, nothing_known}
use Rattle.cf_lower.specs.Functions.{owner_of}
use Rattle.cf_lower_program.specs.Starts.{starts_known, owner_there, statics_known}
use Rattle.cf_sequence_lowered.specs.Known.{start_is_known, owner_is_plain, core_statics_known}
use Rattle.cf_sequence_lowered.specs.Literals.{owner_name}
use Rattle.cf_sequence_lowered.proofs.Each.{Each, each-as, each-of, all-of, each-both, each-mapped}
use Rattle.cf_sequence_lowered.proofs.Files.{built-statics}
use Rattle.cf_sequence_lowered.proofs.KnownSteps.{Knowing, Steps}
use Rattle.cf_sequence_lowered.specs.Known.{item_known}
use Rattle.cf_sequence_lowered.proofs.KnownStarts.{Begins, known-begins}

-- ---- what sets a static object

-- what a static reference is bound to is not known
bound-unknown : (f : Name) (t : SourceType) (e : Core) → is_bound e ≡ true → item_known f t e ≡ false
bound-unknown f t (core.bind h e) ok = refl
bound-unknown f t e ok = never ok

module _ (x : Static) (t : SourceType) (good : start_is_known t x ≡ true) where
  abbrev owner : Name
  owner = owner_name x

  -- the object's place is known
  abbrev placed : Knowing
  placed = know nothing_known 0 (at x.name 0 t)

  abbrev last : Plains
  last = more (act (plain.finish_static x.name)) nothing

  start-known : (classes : List Class) → is_constant_element t x.start ≡ true → item_known owner t x.start ≡ true → starts_known (started classes t x.start 0 0 last) owner placed ≡ true
  start-known classes constant known = Steps.goes (Begins.steps (known-begins owner classes t x.start constant known 0 0 placed x.name 0 refl)) last

  initial-known : (classes : List Class) → is_constant_start t x.start ≡ true → (b : Bool) → is_nothing x.start ≡ b
      → starts_known (if b then nothing else initialised classes t x.name x.start 0 nothing) owner nothing_known ≡ true
  initial-known classes built true e = refl
  initial-known classes built false e =
      let known : item_known owner t x.start ≡ true = subst (λ b. b || item_known owner t x.start ≡ true) e good in
      by-set t x.start (something-constant t x.start built e) (λ bound. never (sym (bound-unknown owner t x.start bound) ∙ known))
      (λ other constant.
      subst (λ b. starts_known (reached b t x.name (started classes t x.start 0 0 last)) owner nothing_known ≡ true) (sym (element-binds t x.start constant)) (start-known classes constant known))

-- ---- files

owner-there : (classes : List Class) (statics : List Static) (fs : List Function) (x : Static) → owner_is_plain x ≡ true → (o : Option Name) → x.owner ≡ o
    → (elim o [ None ↦ true | Some n ↦ list_any (λ (f : Function). bytes_eq f.name n) fs ]) ≡ true → owner_there (map (sequenced_function classes statics) fs) (sequenced_static classes statics x) ≡ true
owner-there classes statics fs x plain_one None e there =
    ap (λ (o : Option Name). elim o [ None ↦ not x.is_shared | Some n ↦ list_any (λ (g : PlainFunction). bytes_eq g.name n) (map (sequenced_function classes statics) fs) ]) e
    ∙ (sym (ap (λ (o : Option Name). elim o [ None ↦ not x.is_shared | Some n ↦ true ]) e) ∙ plain_one)
owner-there classes statics fs x plain_one (Some n) e there =
    ap (λ (o : Option Name). elim o [ None ↦ not x.is_shared | Some n ↦ list_any (λ (g : PlainFunction). bytes_eq g.name n) (map (sequenced_function classes statics) fs) ]) e
    ∙ (same-names n fs ∙ there)
  where
    same-names : (n : Name) (fs : List Function) → list_any (λ (g : PlainFunction). bytes_eq g.name n) (map (sequenced_function classes statics) fs) ≡ list_any (λ (f : Function). bytes_eq f.name n) fs
    same-names n [] = refl
    same-names n (f ∷ fs) = ap (λ b. bytes_eq f.name n || b) (same-names n fs)

owner-named : (file : CoreFile) (o : Option Name) → valid.owner_fits file o ≡ true → (elim o [ None ↦ true | Some n ↦ list_any (λ (f : Function). bytes_eq f.name n) file.functions ]) ≡ true
owner-named file None ok = refl
owner-named file (Some n) ok = ok

module _ (file : CoreFile) (valid_one : valid.valid_file file ≡ true) (built : is_built_file file ≡ true) where
  owners-fit : Each (λ (x : Static). valid.owner_fits file x.owner ≡ true) file.statics
  owners-fit =
      each-as (λ (x : Static). valid.static_fits file x ≡ true) (λ (x : Static). valid.owner_fits file x.owner ≡ true) file.statics
      (λ x ok. (both _ (valid.owner_fits file x.owner) ok).1) (each-of (valid.static_fits file) file.statics (both _ (list_all (valid.static_fits file) file.statics) valid_one).1)

  record Start (x : Static) : Type 0 where
    form : is_built_static file.statics x ≡ true
    owned : valid.owner_fits file x.owner ≡ true

  abbrev plain_known : PlainStatic → Bool
  plain_known x = x.is_constant && starts_known x.start (owner_of x) nothing_known && owner_there (map (sequenced_function file.classes file.statics) file.functions) x

  static-known : (x : Static) → Start x → start_is_known (type_of_static file.statics x.name) x && owner_is_plain x ≡ true → plain_known (sequenced_static file.classes file.statics x) ≡ true
  static-known x start ok =
      let t : SourceType = type_of_static file.statics x.name in
      let parts = both (start_is_known t x) (owner_is_plain x) ok in
      let ss : Plains = sequenced_start file.classes file.statics x in
      let known : starts_known ss (owner_name x) nothing_known ≡ true =
      ap (λ ss. starts_known ss (owner_name x) nothing_known) (start-is file.classes file.statics x (constant-object file.statics x (Start.form start)))
      ∙ initial-known x t parts.0 file.classes (constant-start file.statics x (Start.form start)) (is_nothing x.start) refl in
      let there : Bool = owner_there (map (sequenced_function file.classes file.statics) file.functions) (sequenced_static file.classes file.statics x) in
      all_of (x.is_constant && starts_known ss (owner_name x) nothing_known) there
      (all_of x.is_constant (starts_known ss (owner_name x) nothing_known) (constant-object file.statics x (Start.form start)) known)
      (owner-there file.classes file.statics file.functions x parts.1 x.owner refl (owner-named file x.owner (Start.owned start)))

  pub statics-known : core_statics_known file ≡ true → statics_known (sequenced_file file) ≡ true
  statics-known ok =
      all-of plain_known (map (sequenced_static file.classes file.statics) file.statics)
      (each-mapped (λ (x : PlainStatic). plain_known x ≡ true) (sequenced_static file.classes file.statics) file.statics
      (each-both Start (λ (x : Static). start_is_known (type_of_static file.statics x.name) x && owner_is_plain x ≡ true)
      (λ (x : Static). plain_known (sequenced_static file.classes file.statics x) ≡ true) file.statics static-known
      (each-both (λ (x : Static). is_built_static file.statics x ≡ true) (λ (x : Static). valid.owner_fits file x.owner ≡ true) Start file.statics (λ x b o. record { form = b; owned = o })
      (built-statics file built) owners-fit)
      (each-of (λ (x : Static). start_is_known (type_of_static file.statics x.name) x && owner_is_plain x) file.statics ok)))
