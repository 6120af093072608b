-- What constant initialisers store is valid, in the helper that is called before `main`.
use Rattle.std.proofs.Common.{Bool, true, false, ◌||◌, not, List, [], ◌∷◌, cond, refl, ap, subst, inl, inr}
use Rattle.std.specs.Prelude.{None, filter}
use Rattle.std.specs.List.{flat_map}
use Rattle.cf_plain.specs.Plain.{PlainFunction, PlainStatic}
use Rattle.cc_whole.specs.Plain.{Statement, body, in_order}
use Rattle.cc_whole.specs.Fault.{moved}
use Rattle.cc_whole.specs.Known.{Named, Known}
use Rattle.cf_lower.specs.Constants.{nothing_known, constant_code}
use Rattle.cf_lower.specs.Functions.{owner_of, constants_function}
use Rattle.cf_lower_program.specs.Lowerable.{Lowerable}
use Rattle.cf_lower_valid_body.proofs.Stores.{AllChecked, all-append, in-order}
use Rattle.cc_whole_sections.specs.Sections.{In, Every, Stands, IsFunction, Uses}
use Rattle.cf_lower_valid.proofs.Tests.{file_of, static-told, action-of-static, action-text}
use Rattle.cf_lower_valid.proofs.Known.{constants_prototype, wanted}
use Rattle.cf_lower_valid.proofs.Naming.{declared-in-static, names-what}
use Rattle.cf_lower_valid.proofs.Constants.{start-checked}

module _ (fs : List PlainFunction) (xs : List PlainStatic) (low : Lowerable (file_of fs xs)) where
  abbrev pub start_code : PlainStatic → List Statement
  start_code x = constant_code [] x.start (owner_of x) nothing_known

  -- the stores of all
  abbrev pub stores : List Statement
  stores = flat_map start_code (filter (λ (x : PlainStatic). x.is_constant) xs)

  -- where these names are known, in a helper
  abbrev helper : List Named → Known
  helper names = record { names = names; in_helper = true; result = None; in_loop = false; may_break = false }

  module _ (names : List Named) (there : Every (Stands names) (wanted fs xs low)) where
    static-checked : (x : PlainStatic) → In x xs → AllChecked (start_code x) (helper names)
    static-checked x h =
        start-checked (helper names) (owner_of x) x.start
        (λ a m. record {
          naming = names-what fs xs low names names there (λ y e. refl) (owner_of x) x.is_shared (x.is_local || not x.is_shared) a (declared-in-static fs xs low x a h m);
          text = action-text fs xs low a (action-of-static fs xs low x a h m);
        })
        (static-told fs xs low x h).known

    all-checked : (ys : List PlainStatic) → Every (λ y. In y xs) ys → AllChecked (flat_map start_code (filter (λ (x : PlainStatic). x.is_constant) ys)) (helper names)
    all-checked [] h = tt
    all-checked (y ∷ ys) h = go y.is_constant (static-checked y (h y (inl refl))) (all-checked ys (λ z k. h z (inr k)))
      where
        go : (b : Bool) → AllChecked (start_code y) (helper names) → AllChecked (flat_map start_code (filter (λ (x : PlainStatic). x.is_constant) ys)) (helper names)
            → AllChecked (flat_map start_code (cond b (y ∷ filter (λ (x : PlainStatic). x.is_constant) ys) (filter (λ (x : PlainStatic). x.is_constant) ys))) (helper names)
        go true one rest = all-append (start_code y) (flat_map start_code (filter (λ (x : PlainStatic). x.is_constant) ys)) (helper names) one rest
        go false one rest = rest

    stores-checked : AllChecked stores (helper names)
    stores-checked = all-checked xs (λ y h. h)

  constants-right : (ss : List Statement) → ((names : List Named) → Every (Stands names) (wanted fs xs low) → AllChecked ss (helper names))
      → IsFunction (wanted fs xs low) (record { is_shared = false; prototype = constants_prototype; body = body [] (in_order ss) })
  constants-right ss h = record {
    shared = refl;
    parameters = refl;
    no_library = refl;
    body = λ names there. ap (moved 0) (in-order ss (helper names) (h names there));
  }

  -- the helper, if there is one
  of-helper : (ss : List Statement) → ((names : List Named) → Every (Stands names) (wanted fs xs low) → AllChecked ss (helper names))
      → Every (Uses (wanted fs xs low)) (constants_function ss)
  of-helper [] h i k = absurd k
  of-helper (s ∷ ss) h i (inl e) = subst (Uses (wanted fs xs low)) e (constants-right (s ∷ ss) h)
  of-helper (s ∷ ss) h i (inr k) = absurd k

  pub helper-right : Every (Uses (wanted fs xs low)) (constants_function stores)
  helper-right = of-helper stores (λ names there. stores-checked names there)
