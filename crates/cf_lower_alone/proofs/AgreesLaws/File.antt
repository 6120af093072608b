-- One file linked alone does what its source means.
use Rattle.std.proofs.Common.{◌≡◌, ℕ, true, false, ◌||◌, cond, List, [], ◌∷◌, ◌++◌, map, Ok, refl, ap, sym, subst, ◌∙◌, inl, inr, ◌⊎◌}
use Rattle.std.specs.Prelude.{Some, None, Err, filter, bytes_eq, codes, option_map}
use Rattle.std.specs.List.{list_any}
use Rattle.std.proofs.lemmas.Bool.{true≢false, or_cases}
use Rattle.cf_core.specs.Types.{Name}
use Rattle.cf_core.specs.Classes.{Class}
use Rattle.cf_core.specs.Core as source
use Rattle.cf_core.specs.Calls as calls
use Rattle.cf_core.specs.Joined.{in_file, owner_or}
use Rattle.cf_plain.specs.Plain as plain_action
use Rattle.cf_plain.specs.Plain.{Action, Plain, Plains, set, branch, nothing, more, PlainFunction, PlainStatic, PlainFile}
use Rattle.cf_plain.specs.Named.{actions, all_actions}
use Rattle.cf_plain.specs.Joined.{sets_constant, constant_setting, program_of}
use Rattle.cc_whole.specs.declared.unit.CProgram.{CProgram}
use Rattle.cc_whole.specs.declared.unit.CUnit.{CUnit}
use Rattle.cc_whole.specs.Known.{is_helper, is_main}
use Rattle.cc_whole.specs.Plain.{Function, Statement, Item, declares, declares_variable, in_order, items_of, functions_of}
use Rattle.cc_whole_closed.proofs.Plains.{statement_with}
use Rattle.cc_whole.specs.Fault.{Checks, fine}
use Rattle.cc_whole.specs.Valid.{first_fault}
use Rattle.cc_whole.specs.ValidUnit.{keeps, valid_items, valid_program}
use Rattle.cc_whole.specs.Spellable.{spellable_items}
use Rattle.cc_whole_link.specs.Link.{Links}
use Rattle.cc_whole_mean.specs.Callee.{putchar, getchar, exit, malloc, free, atexit, library_named, function_named, found_library, found_function}
use Rattle.cc_whole_mean.specs.Flow as c
use Rattle.cc_whole_mean.specs.Flow.{in_memory}
use Rattle.cc_whole_mean.specs.Start as c_start
use Rattle.cc_whole_registered.specs.Registered.{RegistersNothing}
use Rattle.cc_whole_registered.proofs.Program.{registers-nothing}
use Rattle.cf_base.proofs.Tests.{both, bytes_same}
use Rattle.cf_lower.specs.Functions.{prototype_of, owner_of}
use Rattle.cf_lower.specs.Written.{variable_type}
use Rattle.cf_lower_program.specs.Agrees.{IsLowered, ProgramAgrees}
use Rattle.cf_lower_program.specs.Lowerable.{is_none, Lowerable}
use Rattle.cf_lower_program.specs.Names.{may_be_function}
use Rattle.cf_lower_begun.specs.Begun.{static_map}
use Rattle.cf_lower_calls.specs.Returns.Called.{Programs}
use Rattle.cf_lower_turns.specs.Texts.{Texts}
use Rattle.cf_lower_tested.specs.Named.{NamesTyped}
use Rattle.cf_lower_tested.specs.Tested.{AllTested}
use Rattle.cc_whole_sections.specs.Sections.{In, Every}
use Rattle.cc_whole_sections.proofs.Names.{in-left, in-right}
use Rattle.cf_lower_valid.proofs.Inner.{every-mapped}
use Rattle.cf_lower_valid.proofs.Naming.{object-foreign, function-foreign, declared-in-static}
use Rattle.cf_lower_valid.proofs.Once.{told-apart, either-way}
use Rattle.cf_lower_valid.proofs.Tests.{file_of, all-in, names-told}
use Rattle.cf_lower_calls.specs.Entered.Linked.{linked_function}
use Rattle.cf_lower_program.specs.Alike.{start_alike}
use Rattle.cf_lower_settings.specs.Named.{NameGoes, NamesIn, NamesGo}
use Rattle.cf_lower_settings.specs.Set.{NamesStand, LiteralThere}
use Rattle.cf_lower_settings.proofs.Settings.{Sets}
use Rattle.cf_lower_alone.specs.Linked.{in_program, stores_of, helpers_of, calls_of_helpers, main_function, LinkedAlone}
use Rattle.cf_lower_alone.specs.Programs.{beside, programs, FitTogether}
use Rattle.cf_lower_alone.specs.Starts.{Starts}
use Rattle.cf_lower_alone.specs.Added.{main_name, ConstantsAlike}
use Rattle.cf_lower_alone.proofs.AloneLaws.Alone.{linked-alone}
use Rattle.cf_lower_alone.proofs.AloneLaws.Names.{in_plain, foreign-plain, called-plain, plain-goes}
use Rattle.cf_lower_alone.proofs.AloneLaws.Statics.{object-foreign-name, locals}
use Rattle.cf_lower_alone.proofs.FittingLaws.Numbers.{source-library}
use Rattle.cf_lower_alone.proofs.FittingLaws.Outer.{foreign-there}
use Rattle.cf_lower_alone.proofs.FittingLaws.Sides.{filter-all, joined, joined-functions, joined-initialisers, there-foreign, GS, XS}
use Rattle.cf_lower_alone.proofs.FittingLaws.Fits.{gs, c-functions}
use Rattle.cf_lower_alone.proofs.FittingLaws.Together.{one-fits}
use Rattle.cf_lower_alone.proofs.StartLaws.Start.{one-starts}
use Rattle.cf_lower_alone.proofs.StartLaws.Numbered.{has-number, numbers-differ}
use Rattle.cf_lower_alone.proofs.StartLaws.Initialisers.{all_texts, all-new, all-laid, function-texts, literal-there-of}
use Rattle.cf_lower_alone.proofs.MainLaws.Whole.{MainFits}
use Rattle.cf_lower_alone.proofs.AgreesLaws.Main.{find-behind, main-found, main-fits}
use Rattle.cf_lower_alone.proofs.ConstantLaws.Helper.{helper}
use Rattle.cf_lower_alone.proofs.ConstantLaws.Behind.{HelperFound, AllTexts, named-there, constants-alike}
use Rattle.cf_lower_alone.proofs.AgreesLaws.Names.{library-stays, names-typed, all-tested}
use Rattle.cf_lower_alone.proofs.AgreesLaws.Whole.{program-agrees}

keeps-fine : (c : Checks) → keeps c ≡ true → c ≡ fine
keeps-fine (Ok u) e = refl
keeps-fine (Err f) e = absurd (true≢false (sym e))

-- a valid program has no fault
no-fault : (program : CProgram) → valid_program program ≡ true → first_fault (items_of program.items) ≡ fine
no-fault program e =
    let items = items_of program.items in
    keeps-fine (first_fault items) (both (spellable_items items) (keeps (first_fault items)) (both (valid_items items) _ e).0).1

-- ---- what initialisers name, and the helper that stores

mutual
  names-in : (q r : Name → Name) (L : ℕ → List ℕ → Type 0) (st : Plain) → ((a : Action) → In a (actions st) → NameGoes q r L a) → NamesIn q r L st
  names-in q r L (set i a) h = h a (inl refl)
  names-in q r L (branch i ss ts) h = (
    names-go q r L ss (λ a k. h a (in-left a (all_actions ss) (all_actions ts) k)),
    names-go q r L ts (λ a k. h a (in-right a (all_actions ss) (all_actions ts) k)),
  )
  names-in q r L st h = tt

  names-go : (q r : Name → Name) (L : ℕ → List ℕ → Type 0) (ss : Plains) → ((a : Action) → In a (all_actions ss) → NameGoes q r L a) → NamesGo q r L ss
  names-go q r L nothing h = tt
  names-go q r L (more st ss) h = (
    names-in q r L st (λ a k. h a (in-left a (actions st) (all_actions ss) k)),
    names-go q r L ss (λ a k. h a (in-right a (actions st) (all_actions ss) k)),
  )

no-library : (n : Name) → is_helper n ≡ true → library_named n ≡ None
no-library n h =
    ap (λ b. cond b (Some putchar) (cond (bytes_eq n (codes "getchar")) (Some getchar) (cond (bytes_eq n (codes "exit")) (Some exit)
    (cond (bytes_eq n (codes "malloc")) (Some malloc) (cond (bytes_eq n (codes "free")) (Some free) (cond (bytes_eq n (codes "atexit")) (Some atexit) None))))))
    (told-apart is_helper n (codes "putchar") h refl)
    ∙ ap (λ b. cond b (Some getchar) (cond (bytes_eq n (codes "exit")) (Some exit)
    (cond (bytes_eq n (codes "malloc")) (Some malloc) (cond (bytes_eq n (codes "free")) (Some free) (cond (bytes_eq n (codes "atexit")) (Some atexit) None)))))
    (told-apart is_helper n (codes "getchar") h refl)
    ∙ ap (λ b. cond b (Some exit) (cond (bytes_eq n (codes "malloc")) (Some malloc) (cond (bytes_eq n (codes "free")) (Some free) (cond (bytes_eq n (codes "atexit")) (Some atexit) None))))
    (told-apart is_helper n (codes "exit") h refl)
    ∙ ap (λ b. cond b (Some malloc) (cond (bytes_eq n (codes "free")) (Some free) (cond (bytes_eq n (codes "atexit")) (Some atexit) None)))
    (told-apart is_helper n (codes "malloc") h refl)
    ∙ ap (λ b. cond b (Some free) (cond (bytes_eq n (codes "atexit")) (Some atexit) None)) (told-apart is_helper n (codes "free") h refl)
    ∙ ap (λ b. cond b (Some atexit) None) (told-apart is_helper n (codes "atexit") h refl)

helper-no-main : (n : Name) → is_helper n ≡ true → is_main n ≡ false
helper-no-main n h = told-apart is_helper n (codes "main") h refl

-- ---- one file

module _ (fs : List PlainFunction) (xs : List PlainStatic) (low : Lowerable (file_of fs xs)) (u : CUnit) (program : CProgram) (is : IsLowered (file_of fs xs) u)
    (links : Links (u ∷ []) (Ok program)) (valid : valid_program program ≡ true) where
  abbrev file : PlainFile
  file = file_of fs xs

  abbrev A : LinkedAlone file program
  A = linked-alone file u program low is links

  abbrev B : Programs
  B = programs (file ∷ []) program

  abbrev first : c.State
  first = c_start.first_state (items_of program.items)

  of-file : (Q : Programs → Type 0) → Q (beside (GS fs xs low) (joined fs xs low) program) → Q B
  of-file Q h = subst (λ gs. Q (beside gs (joined fs xs low) program)) (sym (joined-functions fs xs low)) h

  tested : AllTested B
  tested = of-file AllTested (all-tested fs xs low u program is.items links A)

  mains : (f : source.Function) → calls.function_named B.program main_name ≡ Some f → MainFits B f
  mains = of-file (λ B. (f : source.Function) → calls.function_named B.program main_name ≡ Some f → MainFits B f) (main-fits fs xs low program A)

  registers : RegistersNothing (items_of program.items)
  registers = registers-nothing (items_of program.items) (no-fault program valid) A.no_exit

  with-constants : (helpers : List Function) → function_named (functions_of (items_of program.items)) (codes "main") ≡ Some (main_function helpers)
      → ConstantsAlike B (program_of (file ∷ [])).constants (calls_of_helpers helpers) first → ProgramAgrees (file ∷ []) program
  with-constants helpers found constants =
      program-agrees (file ∷ []) program (one-fits file u program low is links) tested mains (joined-initialisers fs xs low) helpers found constants registers

  abbrev texts : Texts
  texts = all_texts fs xs low program A

  -- the literals that an initialiser of the object names
  abbrev Literals : PlainStatic → ℕ → List ℕ → Type 0
  Literals x = LiteralThere texts B.c_program.names (in_program file) (owner_of x) (owner_or (in_file 1 (codes "__sti")) (option_map (in_plain fs xs low) x.owner))

  start-names : (x : PlainStatic) → In x xs → (a : Action) → In a (all_actions x.start) → NameGoes (in_plain fs xs low) (in_program file) (Literals x) a
  start-names x h (plain_action.static_object n t) m =
      let i : Item = declares_variable (variable_type [] t) n in
      plain-goes fs xs low n
      (foreign-plain n (object-foreign n ((names-told fs xs low).named i ((declared-in-static fs xs low x (plain_action.static_object n t) h m).names i (inl refl)))))
  start-names x h (plain_action.function n t) m = (plain-goes fs xs low n (called-plain n named), library-named (or_cases (calls.is_library n) (may_be_function n) named))
    where
      named : (calls.is_library n || may_be_function n) ≡ true
      named =
          let i : Item = declares (prototype_of false n t) in
          (names-told fs xs low).named i ((declared-in-static fs xs low x (plain_action.function n t) h m).names i (inl refl))

      library-named : (calls.is_library n ≡ true) ⊎ (may_be_function n ≡ true) → calls.is_library (in_plain fs xs low n) ≡ true → in_plain fs xs low n ≡ n
      library-named (inl k) lib = library-stays fs xs low u program is.items links A n k
      library-named (inr k) lib =
          absurd (true≢false (sym lib ∙ source-library (in_plain fs xs low n) (foreign-there (list_any (bytes_eq n) (locals fs xs low)) n (function-foreign n k))))
  start-names x h (plain_action.text j b) m = literal-there-of fs xs low program A x h j b m
  start-names x h a m = tt

  typed-names : NamesTyped B
  typed-names = of-file NamesTyped (names-typed fs xs low u program is.items links A)

  fits : FitTogether B
  fits = one-fits file u program low is links

  starts : (depth : ℕ) → Starts B depth first.memory
  starts depth = one-starts file u program depth low is links

  all-texts : AllTexts B first.memory texts
  all-texts =
      of-file (λ B. AllTexts B first.memory texts) (record {
        functions = function-texts fs xs low program A;
        laid = all-laid fs xs low program A;
        new = all-new fs xs low program A;
      })

  names-stand : NamesStand B.program B.function B.signature (static_map B.program) B.c_program.names
  names-stand = record {
    none = fits.fitting.none;
    statics = named-there B 0 first.memory (starts 0);
    functions = fits.fitting.named;
    typed = fits.fitting.typed;
    library = typed-names.library;
  }

  sets : Every (Sets B.program texts B.c_program.names (in_plain fs xs low) (in_program file) (in_file 1 (codes "__sti"))) xs
  sets x h =
      let number = has-number fs xs low program A x h in
      record {
        alike = all-in start_alike xs low.starts x h;
        names_go = names-go (in_plain fs xs low) (in_program file) (Literals x) x.start (start-names x h);
        object = number.object;
        numbered = number.is;
        goes = plain-goes fs xs low x.name (foreign-plain x.name (object-foreign-name fs xs low x h));
      }

  settings-are : (program_of (file ∷ [])).constants ≡ map (constant_setting (in_file 1 (codes "__sti"))) (filter sets_constant (XS fs xs low))
  settings-are = ap (λ l. map (constant_setting (in_file 1 (codes "__sti"))) (filter sets_constant l)) (filter-all (XS fs xs low))

  -- the helper is found by its name
  linked-no : (n : Name) → is_helper n ≡ true → Every (λ (f : Function). bytes_eq f.prototype.name n ≡ false) (map (linked_function []) (gs fs xs low program A))
  linked-no n e =
      every-mapped (λ (f : Function). bytes_eq f.prototype.name n ≡ false) (linked_function []) (gs fs xs low program A)
      (λ g h. either-way n g.name (told-apart is_helper n g.name e (there-foreign fs xs low g h).no_helper))

  helper-found : (ss : List Statement) → A.helpers ≡ helpers_of (in_program file) ss → HelperFound B (in_program file) ss
  helper-found [] e = tt
  helper-found (s ∷ ss) e =
      let n : Name = in_program file (codes "__hci") in
      let H : Function = helper n (in_order (map (λ (x : Statement). statement_with x (in_program file)) (s ∷ ss))) in
      let is : is_helper n ≡ true = A.helpers_named H (subst (In H) (sym e) (inl refl)) in (
        helper-no-main n is,
        (
          is,
          ap (λ l. found_library l (found_function (function_named (functions_of (items_of program.items)) n))) (no-library n is)
              ∙ ap found_function
              (ap (λ l. function_named l n) (c-functions fs xs low program A)
              ∙ find-behind (map (linked_function []) (gs fs xs low program A)) (A.helpers ++ main_function A.helpers ∷ []) n (linked-no n is)
              ∙ ap (λ hs. function_named (hs ++ main_function A.helpers ∷ []) n) e
              ∙ ap (λ b. cond b (Some H) (function_named (main_function A.helpers ∷ []) n)) (bytes_same n n refl)),
        ),
      )

  constants : ConstantsAlike B (program_of (file ∷ [])).constants (calls_of_helpers A.helpers) first
  constants =
      subst (λ s. ConstantsAlike B s (calls_of_helpers A.helpers) first) (sym settings-are)
      (subst (λ hs. ConstantsAlike B (map (constant_setting (in_file 1 (codes "__sti"))) (filter sets_constant (XS fs xs low))) (calls_of_helpers hs) first) (sym A.stored)
      (constants-alike B fits.fitting.none first starts names-stand (in_plain fs xs low) (in_program file) (in_file 1 (codes "__sti")) xs texts all-texts sets
      (numbers-differ fs xs low program A) (helper-found (stores_of file) A.stored)))

  pub file-agrees : ProgramAgrees (file ∷ []) program
  file-agrees = with-constants A.helpers (main-found fs xs low program A) constants

-- ---- of any file, which has no classes

no-classes : (cs : List Class) → is_none cs ≡ true → [] ≡ cs
no-classes [] e = refl
no-classes (c ∷ cs) e = absurd (true≢false (sym e))

abbrev with_classes : PlainFile → List Class → PlainFile
with_classes file cs = record { classes = cs; functions = file.functions; statics = file.statics }

pub one-agrees : (file : PlainFile) (unit : CUnit) (program : CProgram) → valid_program program ≡ true → Lowerable file → IsLowered file unit
    → Links (unit ∷ []) (Ok program) → ProgramAgrees (file ∷ []) program
one-agrees file unit program valid low is links =
    subst (λ cs. Lowerable (with_classes file cs) → IsLowered (with_classes file cs) unit → Links (unit ∷ []) (Ok program) → ProgramAgrees (with_classes file cs ∷ []) program)
    (no-classes file.classes low.no_classes) (λ low is links. file-agrees file.functions file.statics low unit program is links valid) low is links
