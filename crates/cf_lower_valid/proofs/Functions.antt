-- The C of a function of a lowered file is right where the names of the file are known.
use Rattle.std.proofs.Common.{◌≡◌, ℕ, Bool, true, false, not, List, [], ◌∷◌, ◌++◌, length, refl, ap, ◌∙◌, inl, inr}
use Rattle.std.specs.Prelude.{is_some}
use Rattle.std.specs.List.{list_all}
use Rattle.cf_base.proofs.Tests.{both, all_of}
use Rattle.cf_core.specs.Types.{Name, SourceType, takes, gives, const, parameters, result as result_type}
use Rattle.cf_core.specs.Valid.{is_complete}
use Rattle.cf_lower_layout.specs.Sorts.{sort_of}
use Rattle.cf_plain.specs.Plain as plain
use Rattle.cf_plain.specs.Plain.{Action, PlainFunction, PlainStatic, PlainFile}
use Rattle.cf_plain.specs.Named.{all_actions}
use Rattle.cc_whole.specs.declared.statement.CLocal.{CLocal}
use Rattle.cc_whole.specs.declared.unit.CParameter.{CParameter}
use Rattle.cc_whole.specs.Plain.{in_order}
use Rattle.cc_whole.specs.Landmarks.{locals_marks}
use Rattle.cc_whole.specs.Fault.{Checks, fine, moved, ◌before◌}
use Rattle.cc_whole.specs.Known.{Named, Known, lookup, is_helper}
use Rattle.cc_whole.specs.Statements.{checked_statements, checked_body}
use Rattle.cc_whole.specs.Valid as c
use Rattle.cf_lower.specs.Written.{result_of}
use Rattle.cf_lower.specs.Functions.{all_bound, all_nesting, lowered_parameters, prototype, lowered_function}
use Rattle.cf_lower_kept.specs.Ready.{is_code}
use Rattle.cf_lower_program.specs.Types.{is_laid, is_lowered}
use Rattle.cf_lower_program.specs.Lowerable.{Lowerable}
use Rattle.cf_lower_valid_body.specs.Scope.{Each, Names, Fits, Stands, statements_of, is_local_type}
use Rattle.cf_lower_valid_body.proofs.Bodies.{body-valid}
use Rattle.cc_whole_sections.specs.Sections.{In, Every, IsFunction}
use Rattle.cc_whole_sections.specs.Sections as sections
use Rattle.cf_lower_valid.proofs.Differ.{parameters-fine, locals-fine}
use Rattle.cf_lower_valid.proofs.Inner.{names_inside}
use Rattle.cf_lower_valid.proofs.Spans.{locals_after, locals-distinct, parameters-distinct}
use Rattle.cf_lower_valid.proofs.Scopes.{is_outer, own-names, takes-result, outer-name}
use Rattle.cf_lower_valid.proofs.Sizes.{locals-sized}
use Rattle.cf_lower_valid.proofs.Tests.{file_of, callable-few, callable-scalars, FunctionTold, function-told, action-of-function, action-lowered}
use Rattle.cf_lower_valid.proofs.Known.{wanted}
use Rattle.cf_lower_valid.proofs.Naming.{Foreign, function-foreign, declared-in-function, called-function, names-what}

-- ---- types of parameters and locals

-- no object is a function
complete-object : (t : SourceType) → is_complete [] t ≡ true → is_code t ≡ false
complete-object (takes p t) e = absurd (cc)
complete-object (gives t c) e = absurd (cc)
complete-object (const t) e = complete-object t e
complete-object t e = refl

parameters-lowered : (t : SourceType) → is_lowered t ≡ true → list_all is_lowered (parameters t) ≡ true
parameters-lowered (takes p t) e =
    let two = both (is_lowered p) (is_lowered t) e in all_of (is_lowered p) (list_all is_lowered (parameters t)) two.0 (parameters-lowered t two.1)
parameters-lowered t e = refl

all-append : (test : SourceType → Bool) (ts us : List SourceType) → list_all test ts ≡ true → list_all test us ≡ true → list_all test (ts ++ us) ≡ true
all-append test [] us h g = g
all-append test (t ∷ ts) us h g =
    let two = both (test t) (list_all test ts) h in all_of (test t) (list_all test (ts ++ us)) two.0 (all-append test ts us two.1 g)

all-right : (test : SourceType → Bool) (ts us : List SourceType) → list_all test (ts ++ us) ≡ true → list_all test us ≡ true
all-right test [] us h = h
all-right test (t ∷ ts) us h = all-right test ts us (both (test t) (list_all test (ts ++ us)) h).1

local-types : (ts : List SourceType) → list_all is_lowered ts ≡ true → list_all (is_complete []) ts ≡ true → list_all is_local_type ts ≡ true
local-types [] h g = refl
local-types (t ∷ ts) h g =
    let one = both (is_lowered t) (list_all is_lowered ts) h in
    let two = both (is_complete [] t) (list_all (is_complete []) ts) g in
    all_of (is_local_type t) (list_all is_local_type ts)
    (all_of (is_lowered t) (not (is_code t)) one.0 (ap not (complete-object t two.0))) (local-types ts one.1 two.1)

each-from : {A : Type 0} (P : A → Type 0) (xs : List A) → Every P xs → Each P xs
each-from P [] h = tt
each-from P (x ∷ xs) h = (h x (inl refl), each-from P xs (λ y k. h y (inr k)))

-- ---- functions

module _ (fs : List PlainFunction) (xs : List PlainStatic) (low : Lowerable (file_of fs xs)) (f : PlainFunction) (h : In f fs) where
  abbrev ps : List SourceType
  ps = parameters f.type

  abbrev n : ℕ
  n = all_bound f.body

  abbrev d : ℕ
  d = all_nesting f.body

  abbrev actions : List Action
  actions = all_actions f.body

  abbrev locals : List CLocal
  locals = locals_after (length ps) f.locals n d actions

  abbrev passed : List CParameter
  passed = lowered_parameters 0 ps

  told : FunctionTold fs xs low f
  told = function-told fs xs low f h

  scalars : list_all (λ p. is_some (sort_of p)) ps ≡ true
  scalars = callable-scalars f.type told.callable

  is-foreign : Foreign f.name
  is-foreign = function-foreign f.name told.name

  module _ (old : List Named) (there : Every (sections.Stands old) (wanted fs xs low)) where
    abbrev names : List Named
    names = names_inside locals passed old

    same : (y : Name) → is_outer y ≡ false → lookup names y ≡ lookup old y
    same y e = outer-name ps f.locals n d actions old told.few told.registers told.flags scalars y e

    names-it : (a : Action) → In a actions → Names names f.name a
    names-it (plain.text j b) m = names-what fs xs low names old there same f.name f.is_shared f.is_local (plain.text j b) (declared-in-function fs xs low f (plain.text j b) h m)
    names-it (plain.static_object name t) m =
        names-what fs xs low names old there same f.name f.is_shared f.is_local (plain.static_object name t) (declared-in-function fs xs low f (plain.static_object name t) h m)
    names-it (plain.function name t) m =
        names-what fs xs low names old there same f.name f.is_shared f.is_local (plain.function name t) (declared-in-function fs xs low f (plain.function name t) h m)
    names-it (plain.call name t on is into) m = (
      called-function fs xs low names old there same name t ((declared-in-function fs xs low f (plain.call name t on is into) h m).names _ (inl refl)),
      takes-result ps f.locals n d actions old told.few told.registers told.flags scalars (plain.call name t on is into) t m refl,
    )
    names-it (plain.pointer_call on r t is into) m =
        takes-result ps f.locals n d actions old told.few told.registers told.flags scalars (plain.pointer_call on r t is into) t m refl
    names-it a m = tt

    stands : Stands names f
    stands = record {
      kept = told.kept;
      ready = told.ready;
      fit = told.fit;
      labels = told.labels;
      types = local-types (ps ++ f.locals) (all-append is_lowered ps f.locals (parameters-lowered f.type told.lowered) told.locals_lowered) told.complete;
      actions = each-from (Fits names f.name) actions (λ a m. record { lowered = action-lowered fs xs low a (action-of-function fs xs low f a h m); names_it = names-it a m });
      own = own-names ps f.locals n d actions old told.few told.registers told.flags scalars;
    }

    body-fine : checked_body (lowered_function [] f).body (c.inside (prototype f) old) ≡ fine
    body-fine =
        let code = in_order (statements_of f) in
        let at : Bool → Known = λ helper. record { names = names; in_helper = helper; result = result_of (result_type f.type); in_loop = false; may_break = false } in
        let rest : Checks = moved (locals_marks locals) (checked_statements code (at (is_helper f.name))) in
        ap (λ y. y before rest)
        (locals-fine locals (locals-distinct (length ps) f.locals n d actions told.few told.registers told.flags)
        (locals-sized (length ps) f.locals n d actions (all-right is_laid ps f.locals told.laid)))
        ∙ ap (λ helper. moved (locals_marks locals) (checked_statements code (at helper))) is-foreign.no_helper
        ∙ ap (moved (locals_marks locals)) (body-valid names f stands)

  pub parameters-differ : c.checked_parameters passed [] ≡ fine
  parameters-differ = parameters-fine passed (parameters-distinct ps (callable-few f.type told.callable))

  pub function-right : IsFunction (wanted fs xs low) (lowered_function [] f)
  function-right = record {
    shared = told.shared;
    parameters = parameters-differ;
    no_library = is-foreign.no_library;
    body = λ old there. body-fine old there;
  }
