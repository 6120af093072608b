-- The names by which the source numbers the literals of initialisers tell their functions apart.
use Rattle.std.proofs.Common.{◌≡◌, Bool, true, false, not, ◌&&◌, cond, List, ◌++◌, refl, ap, sym, ◌∙◌}
use Rattle.std.specs.Prelude.{Option, Some, None, option_map, bytes_eq, codes, decimal}
use Rattle.std.specs.List.{list_any}
use Rattle.std.proofs.lemmas.Bool.{true≢false}
use Rattle.std.proofs.lemmas.List.{append_cancel_right}
use Rattle.cf_base.proofs.Tests.{both, same_bytes, bytes_same}
use Rattle.cf_core.specs.Types.{Name}
use Rattle.cf_core.specs.Joined.{in_file, owner_or}
use Rattle.cf_plain.specs.Plain.{PlainFunction, PlainStatic}
use Rattle.cc_whole.specs.declared.unit.CProgram.{CProgram}
use Rattle.cc_whole_sections.specs.Sections.{In}
use Rattle.cf_lower_program.specs.Lowerable.{Lowerable}
use Rattle.cf_lower_program.specs.Names.{is_foreign, is_function_name, ends_as_file}
use Rattle.cf_lower_program.specs.Starts.{starts_known, owner_there}
use Rattle.cf_lower.specs.Constants.{nothing_known}
use Rattle.cf_lower.specs.Functions.{owner_of}
use Rattle.cf_lower_valid.proofs.Naming.{foreign-parts}
use Rattle.cf_lower_valid.proofs.Once.{Differ, no-not}
use Rattle.cf_lower_valid.proofs.Own.{any-in}
use Rattle.cf_lower_valid.proofs.Tests.{file_of, all-in, names-told, three-parts}
use Rattle.cf_lower_alone.specs.Linked.{LinkedAlone}
use Rattle.cf_lower_alone.proofs.AloneLaws.Names.{in_plain, longer-in-file}
use Rattle.cf_lower_alone.proofs.AloneLaws.Statics.{one-named, locals}
use Rattle.cf_lower_alone.proofs.AloneLaws.Uses.{ends-longer}
use Rattle.cf_lower_alone.proofs.AloneLaws.Variables.{function_there}
use Rattle.cf_lower_alone.proofs.FittingLaws.Fits.{there-differ}
use Rattle.cf_lower_alone.proofs.FittingLaws.Sides.{differ-unmapped}
use Rattle.cf_lower_alone.proofs.AgreesLaws.Names.{foreign-ends}

-- of static objects outside functions
abbrev pub outside : Name
outside = codes "__sti"

abbrev pub owner_name : Option Name → Name
owner_name o = elim o [ None ↦ outside | Some f ↦ f ]

-- a function of the file
pub record FunctionOf (fs : List PlainFunction) (n : Name) : Type 0 where
  pub one : PlainFunction
  pub there : In one fs
  pub named : one.name ≡ n

abbrev pub Owned : List PlainFunction → Option Name → Type 0
Owned fs None = Unit {0}
Owned fs (Some f) = FunctionOf fs f

pub owned-by : (fs : List PlainFunction) (x : PlainStatic) (o : Option Name) → x.owner ≡ o → owner_there fs x ≡ true → Owned fs o
owned-by fs x None is e = tt
owned-by fs x (Some f) is e =
    let m = any-in (λ (g : PlainFunction). bytes_eq g.name f) fs
    (sym (ap (λ (o : Option Name). elim o [ None ↦ not x.is_shared | Some f ↦ list_any (λ (g : PlainFunction). bytes_eq g.name f) fs ]) is) ∙ e) in
    record { one = m.one; there = m.there; named = same_bytes m.one.name f m.passes }

module _ (fs : List PlainFunction) (xs : List PlainStatic) (low : Lowerable (file_of fs xs)) (program : CProgram) (A : LinkedAlone (file_of fs xs) program) where
  abbrev q : Name → Name
  q = in_plain fs xs low

  -- the name by which the source numbers
  abbrev pub key : Option Name → Name
  key o = owner_or (in_file 1 outside) (option_map q o)

  pub owned : (x : PlainStatic) → In x xs → Owned fs x.owner
  owned x h =
      owned-by fs x x.owner refl (three-parts x.is_constant (starts_known x.start (owner_of x) nothing_known) (owner_there fs x)
      (all-in (λ (x : PlainStatic). x.is_constant && starts_known x.start (owner_of x) nothing_known && owner_there fs x) xs low.statics x h)).2

  names-differ : Differ (λ (f : PlainFunction). q f.name) fs
  names-differ = differ-unmapped (λ (g : PlainFunction). g.name) (function_there fs xs low) fs (there-differ fs xs low program A)

  function-same : (f g : PlainFunction) → In f fs → In g fs → q f.name ≡ q g.name → f ≡ g
  function-same f g h k e = one-named (λ (f : PlainFunction). q f.name) fs f g names-differ h k (bytes_same (q f.name) (q g.name) e)

  -- no function has the name of what is outside
  no-function : (f : PlainFunction) → In f fs → in_file 1 outside ≡ q f.name → ⊥
  no-function f h e = go (list_any (bytes_eq f.name) (locals fs xs low)) e
    where
      foreign : is_foreign f.name ≡ true
      foreign = (both (is_foreign f.name) (is_function_name f.name) ((names-told fs xs low).functions f h)).0

      go : (b : Bool) → in_file 1 outside ≡ cond b (in_file 1 f.name) f.name → ⊥
      go true k =
          let same : outside ≡ f.name = append_cancel_right outside f.name (codes "__u" ++ decimal 1) (longer-in-file outside ∙ k ∙ sym (longer-in-file f.name)) in
          true≢false (sym (bytes_same f.name outside (sym same)) ∙ no-not (bytes_eq f.name outside) (foreign-parts f.name foreign).2)
      go false k =
          true≢false (sym (ends-longer outside) ∙ ap ends_as_file (longer-in-file outside ∙ k) ∙ foreign-ends f.name foreign)

  pub function-key : (o : Option Name) → Owned fs o → (f : PlainFunction) → In f fs → key o ≡ q f.name → owner_name o ≡ f.name
  function-key None w f h e = absurd (no-function f h e)
  function-key (Some n) w f h e =
      sym w.named ∙ ap (λ (f : PlainFunction). f.name) (function-same w.one f w.there h (ap q w.named ∙ e))

  pub same-key : (o p : Option Name) → Owned fs o → Owned fs p → key o ≡ key p → owner_name o ≡ owner_name p
  same-key None None v w e = refl
  same-key (Some n) None v w e = absurd (no-function v.one v.there (sym e ∙ ap q (sym v.named)))
  same-key o (Some n) v w e = function-key o v w.one w.there (e ∙ ap q (sym w.named)) ∙ w.named
