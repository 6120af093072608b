-- The calls, one by one: what each does in the source, and in the C.
use Rattle.std.proofs.Common.{◌≡◌, ℕ, suc, ◌<◌, ◌≤◌, Bool, true, false, ◌&&◌, ◌||◌, ◌==◌, List, [], ◌∷◌, length, codes, refl, sym, ◌∙◌, ap, subst, arith}
use Rattle.std.specs.Prelude.{ℤ, pos, negsuc, Option, Some, None, Ok, Result}
use Rattle.std.proofs.lemmas.Bool.Decides.{nat_tests}
use Rattle.cf_base.specs.declared.kind.Kind.TheVariants.{Int}
use Rattle.cf_base.specs.Event.{Out, In}
use Rattle.cf_base.specs.Integers.{fits, bits_of}
use Rattle.cf_base.specs.World.{World, Ran, Went, and_then, show, next_of}
use Rattle.cf_base.proofs.Tests.{both}
use Rattle.cf_core.specs.Types.{Name, SourceType, integer, result as result_type}
use Rattle.cf_core.specs.Store as source
use Rattle.cf_core.specs.Run.{State, Did, Gives, Exits, Malformed, Act, onward, ◌>>=◌, ◌>>◌, gives, malformed, some_or, for_all, object_changed, gone, with_object}
use Rattle.cf_core.specs.Calls.{call_library, put, leave_with, byte_value}
use Rattle.cf_lower_layout.specs.Sorts.{Sort, number, sort_of}
use Rattle.cf_plain.specs.Plain as plain
use Rattle.cf_plain.specs.Plain.{Register, set}
use Rattle.cf_plain.specs.Acts.{Registers}
use Rattle.cf_plain.specs.Running.{Flow, Falls, does, keep as keep_value}
use Rattle.cf_plain_frames.specs.Since.{is_among}
use Rattle.cc_whole.specs.declared.types.CType.TheVariants as ty
use Rattle.cc_whole.specs.Plain as c_tree
use Rattle.cc_whole.specs.Plain.{Statement, by_name, named}
use Rattle.cc_whole_memory.specs.declared.value.Value.{Value}
use Rattle.cc_whole_memory.specs.declared.value.Value.TheVariants as value
use Rattle.cc_whole_mean.specs.declared.named.Target.{Target}
use Rattle.cc_whole_mean.specs.Callee.{Callee, built_in, putchar, getchar, exit, callee_named}
use Rattle.cc_whole_mean.specs.Flow as c
use Rattle.cc_whole_mean.specs.Flow.{tried, falling, Back}
use Rattle.cc_whole_mean.specs.Library.{back_int, byte_or_end}
use Rattle.cc_whole_mean.specs.Mean as mean
use Rattle.cc_whole_mean.specs.Mean.{targeted, called, go_back}
use Rattle.cc_whole_mean.specs.Values.{values_of}
use Rattle.cf_lower.specs.Kept.{Keeping, keep, of_sort, of_type}
use Rattle.cf_lower.specs.Written.{if_scalar, c_type, result_name}
use Rattle.cf_lower.specs.Statements.{passed, lowered}
use Rattle.cf_lower_kept.specs.Opened.{Opened, is_open_one, is_open, closed, set_in, has_its_value}
use Rattle.cf_lower_relate.specs.Map.{Is}
use Rattle.cf_lower_relate.proofs.Counts.{fits-negsuc, fits-pos}
use Rattle.cf_lower_steps.specs.Flows.{Simulates}
use Rattle.cf_lower_place.specs.Input.{IsInput}
use Rattle.cf_lower_turns.specs.Around.{Around, depth_of, inside_at}
use Rattle.cf_lower_turns.specs.Here.{Here}
use Rattle.cf_lower_turns.specs.Scene.{SameBack, Scene, fixed_in, again_at, c_again_at, helps_at, list_at}
use Rattle.cf_lower_turns.proofs.Following.{sim-here, sim-as, sim-of}
use Rattle.cf_lower_calls.specs.Invoked.LowerActions.{Fits}
use Rattle.cf_lower_bounds.specs.Points.{these, Point, point_at, local_count, At}
use Rattle.cf_lower_bounds.specs.Bounds.{EndsAt, LeafRunsTo}
use Rattle.cf_lower_calls.proofs.InvokedLaws.LowerPoints.{open-set}
use Rattle.cf_lower_calls.specs.Invoked.Invoking.{point_kept}
use Rattle.cf_lower_calls.proofs.InvokedLaws.Arguments.{passed-below}
use Rattle.cf_lower_calls.proofs.InvokedLaws.Given.{typed-back, as-given}
use Rattle.cf_lower_calls.proofs.InvokedLaws.Results.{result_target, result-targeted}
use Rattle.cf_lower_calls.proofs.InvokedLaws.Storing.{to_register, InRegister, to-register}
use Rattle.cf_lower_calls.specs.Library.Library.{KeepsInt, Passes, NextFits}
use Rattle.cf_lower_calls.proofs.LibraryLaws.Closing.{closed-at, closed-set}
use Rattle.cf_lower_calls.proofs.LibraryLaws.Passing.{byte-fits, IsNumberOf, number-back, OneArgument, one-argument}

-- what holds a value is open
valued-open : (i : ℕ) (xs : List Opened) → has_its_value xs i ≡ true → is_open i xs ≡ true
valued-open i [] e = e
valued-open i (x ∷ xs) e = by_test (valued-open i xs) (is_open_one i x) x.has_value e
  where
    by_test : (has_its_value xs i ≡ true → is_open i xs ≡ true) → (b v : Bool) → (b && v) || has_its_value xs i ≡ true → b || is_open i xs ≡ true
    by_test rest true v k = refl
    by_test rest false v k = rest k

module _ (z : Scene) (n : ℕ) (around : Around Point) (h : Keeping) (xs : List Opened) (t : SourceType) (r : Register) (g : Registers) (s : State) (u : c.State) (w : World)
    (at : At z (point_at h xs) (depth_of around) g s u) where
  abbrev d : ℕ
  d = depth_of around

  -- behind the value that a call gives
  abbrev kept_run : Ran (Did source.Value) → Ran (Did Flow)
  kept_run x = and_then x (λ did w. onward did (λ v. gives (Falls (keep_value g r v))) w)

  -- a function of the library on these objects
  abbrev pub library-run : Name → List ℕ → Ran (Did Flow)
  library-run name os = kept_run (call_library name os s w)

  abbrev on_value : (source.Value → Act source.Value) → ℕ → Option source.Value → Ran (Did Flow)
  on_value go o x = kept_run (((some_or x malformed >>= go) >>= (λ v. for_all (o ∷ []) (λ o. object_changed o gone) >> gives v)) s w)

  -- what is lowered, by the sort of the result
  abbrev pub lowered_by : c_tree.Callee → List ℕ → Option Sort → List Statement
  lowered_by callee is o =
      if_scalar o (c_tree.call None callee (passed is) ∷ []) (λ a. c_tree.call (Some (named (result_name (c_type a)))) callee (passed is) ∷ to_register a r)

  abbrev pub c-run : c_tree.Callee → List ℕ → Ran c.Flow
  c-run callee is = list_at z n (lowered_by callee is (sort_of (result_type t))) u w

  -- what the C does, once it is known what is called
  abbrev pub after-call : Callee → List Statement → Option Target → List Value → Ran c.Flow
  after-call called_one rest target vs =
      and_then (and_then (called (c_again_at z n) (helps_at z n) z.c_program z.helper called_one vs z.depth u w) (λ r w. go_back target r w)) (falling (λ t w. list_at z n rest t w))

  -- the C's call of this, on these arguments, calls that
  abbrev pub Reaches : c_tree.Callee → List ℕ → Callee → Type 0
  Reaches callee is called_one =
      (place : Option c_tree.Place) (target : Option Target) → targeted place z.body.scope u.memory ≡ Ok target → (vs : List Value)
      → values_of (passed is) z.body.scope u.memory ≡ Ok vs
      → mean.does (c_again_at z n) (helps_at z n) z.c_program z.helper (c_tree.call place callee (passed is)) z.body.scope z.depth u w
      ≡ and_then (called (c_again_at z n) (helps_at z n) z.c_program z.helper called_one vs z.depth u w) (λ r w. go_back target r w)

  -- by a name
  abbrev c-from : Result (Option Target) ℕ → Result (List Value) ℕ → Result Callee ℕ → Ran c.Flow
  c-from place vs found =
      tried place w (λ at. tried vs w (λ vs. tried found w (λ c.
      and_then (called (c_again_at z n) (helps_at z n) z.c_program z.helper c vs z.depth u w) (λ r w. go_back at r w))))

  reaches-named : (name : Name) (is : List ℕ) (called_one : Callee) → callee_named z.c_program.functions name ≡ Ok called_one → Reaches (by_name name) is called_one
  reaches-named name is called_one found place target aimed vs values =
      ap (λ p. c-from p (values_of (passed is) z.body.scope u.memory) (callee_named z.c_program.functions name)) aimed
      ∙ ap (λ v. c-from (Ok target) v (callee_named z.c_program.functions name)) values
      ∙ ap (λ c. c-from (Ok target) (Ok vs) c) found

  -- ---- an int is given

  module _ (keeps : KeepsInt z t r) where
    abbrev rest : List Statement
    rest = to_register (number Int) r

    abbrev target : Option Target
    target = Some (result_target ty.Int keeps.local.block)

    int-run : (callee : c_tree.Callee) (is : List ℕ) (called_one : Callee) → Reaches callee is called_one → (vs : List Value) → values_of (passed is) z.body.scope u.memory ≡ Ok vs
        → c-run callee is ≡ after-call called_one rest target vs
    int-run callee is called_one reaches vs values =
        ap (λ o. list_at z n (lowered_by callee is o) u w) keeps.sort
        ∙ ap (λ x. and_then x (falling (λ t w. list_at z n rest t w)))
        (reaches (Some (named (result_name ty.Int))) target (result-targeted (fixed_in z) z.body h d g s u at.here ty.Int keeps.local.block keeps.local.is) vs values)

    module _ (ys : List Opened) (s2 : State) (w2 : World) (there : At z (point_at h ys) d g s2 u) (y : ℤ) (fit : fits Int y ≡ true) where
      abbrev back : Value
      back = value.Number Int y

      abbrev S : Flow → State → c.Flow → Type 0
      S = EndsAt z around (record { kept = keep h r (of_type (result_type t)); standing = these (set_in r ys) })

      same : SameBack (fixed_in z) there.here.map (number Int) (source.Number y) back
      same = record { is = refl; fits = fit }

      done : InRegister z n d h r g s2 u w2 (number Int) keeps.local.block (source.Number y) back
      done =
          to-register z n d h r g s2 u w2 there.here (number Int) keeps.bound keeps.local (source.Number y) back
          (typed-back z.program z.function z.signature there.here.map (number Int) (source.Number y) back same)
          (as-given z.program z.function z.signature there.here.map (integer Int) (number Int) (source.Number y) back same)

      int-kept : (run : Ran c.Flow) → run ≡ and_then (go_back target (Back (Some back) u) w2) (falling (λ t w. list_at z n rest t w))
          → Simulates S (Went (Gives (Falls (keep_value g r (source.Number y))) s2) w2) run
      int-kept run e =
          sim-here S (Falls (keep_value g r (source.Number y))) s2 w2 run (c.Falls done.after) (e ∙ done.run)
          (record {
            after = done.after;
            is = refl;
            related = record {
              here = subst (λ a. Here (fixed_in z) z.body (keep h r (of_sort a)) d (keep_value g r (source.Number y)) s2 done.after) (sym keeps.sort) done.here;
              frame = there.frame;
              standing = open-set (local_count z) r (source.Number y) g s2 ys there.standing;
            };
          })

    -- the next byte, or -1
    module _ (callee : c_tree.Callee) (fit : NextFits w) (reaches : Reaches callee [] (built_in getchar)) where
      abbrev taken-source : List ℕ → Ran (Did Flow)
      taken-source input =
          kept_run (and_then (next_of input w (λ b w. Went (Gives (byte_value b) s) w))
          (λ did w. onward did (λ v. for_all [] (λ o. object_changed o gone) >> gives v) w))

      abbrev taken-c : List ℕ → Ran c.Flow
      taken-c input =
          and_then (and_then (next_of input w (λ b w. back_int (byte_or_end b) u w)) (λ r w. go_back target r w)) (falling (λ t w. list_at z n rest t w))

      taken : (input : List ℕ) → w.input ≡ input → Simulates (EndsAt z around (point_kept h r t [] xs)) (taken-source input) (taken-c input)
      taken [] e = int-kept xs s (show (In None) w) at (negsuc 0) (fits-negsuc 0 (omega arith)) (taken-c []) refl
      taken (b ∷ more) e = int-kept xs s (show (In (Some b)) (record w { input = more })) at (pos b) (fit b more e) (taken-c (b ∷ more)) refl

      pub getchar-both : Simulates (EndsAt z around (point_kept h r t [] xs)) (library-run (codes "getchar") []) (c-run callee [])
      getchar-both =
          sim-as (EndsAt z around (point_kept h r t [] xs)) (library-run (codes "getchar") []) _ (c-run callee []) (int-run callee [] (built_in getchar) reaches [] refl)
          (taken w.input refl)

    -- ---- a byte is put

    module _ (fits_there : Fits z) (i : ℕ) (passes : Passes z i xs) (callee : c_tree.Callee) (reaches : Reaches callee (i ∷ []) (built_in putchar)) where
      abbrev pub arg : OneArgument z at.here.map s u i
      arg = one-argument z d h xs i passes g s u at

      abbrev o : ℕ
      o = arg.object

      below : i < local_count z
      below = passed-below z.body.own.locals (i ∷ []) i passes.passed (ap (λ b. b || false) (let k : i == i ≡ true = grind (arith, nat_tests) in k))

      behind : At z (point_at h (closed i xs)) d g (with_object o gone s) u
      behind = closed-at z fits_there around h xs i o below (valued-open i xs passes.valued) g s u w at arg.there.local

      abbrev put-point : Point
      put-point = point_kept h r t (i ∷ []) xs

      abbrev put-c : Value → Ran c.Flow
      put-c v = after-call (built_in putchar) rest target (v ∷ [])

      put-number : (y : ℤ) → IsNumberOf y arg.back → Simulates (EndsAt z around put-point) (on_value put o (Some (source.Number y))) (put-c arg.back)
      put-number y b =
          subst (λ l. Simulates (EndsAt z around (record { kept = keep h r (of_type (result_type t)); standing = these l })) (on_value put o (Some (source.Number y))) (put-c arg.back))
          (sym (closed-set i r xs))
          (int-kept (closed i xs) (with_object o gone s) (show (Out (bits_of 8 y)) w) behind (pos (bits_of 8 y)) (byte-fits y) (put-c arg.back) (ap put-c b.is))

      put-value : (v : source.Value) → Is (fixed_in z) at.here.map arg.is.sort v arg.back → Simulates (EndsAt z around put-point) (on_value put o (Some v)) (put-c arg.back)
      put-value (source.Number y) k = put-number y (number-back (fixed_in z) at.here.map arg.is.sort y arg.back k)
      put-value v k = record { by = tt }

      pub putchar-both : Simulates (EndsAt z around put-point) (library-run (codes "putchar") (o ∷ [])) (c-run callee (i ∷ []))
      putchar-both =
          sim-of (EndsAt z around put-point) _ (library-run (codes "putchar") (o ∷ [])) (c-run callee (i ∷ [])) (ap (on_value put o) arg.is.held)
          (sim-as (EndsAt z around put-point) (on_value put o (Some arg.is.value)) _ (c-run callee (i ∷ []))
          (int-run callee (i ∷ []) (built_in putchar) reaches (arg.back ∷ []) arg.are) (put-value arg.is.value arg.is.same))

  -- ---- the run ends

  module _ (void : sort_of (result_type t) ≡ None) (i : ℕ) (passes : Passes z i xs) (q : Point) (callee : c_tree.Callee) (reaches : Reaches callee (i ∷ []) (built_in exit)) where
    abbrev pub gone-arg : OneArgument z at.here.map s u i
    gone-arg = one-argument z d h xs i passes g s u at

    abbrev left-c : Value → Ran c.Flow
    left-c v = after-call (built_in exit) [] None (v ∷ [])

    left-value : (v : source.Value) → Is (fixed_in z) at.here.map gone-arg.is.sort v gone-arg.back
        → Simulates (EndsAt z around q) (on_value leave_with gone-arg.object (Some v)) (left-c gone-arg.back)
    left-value (source.Number y) k =
        let b = number-back (fixed_in z) at.here.map gone-arg.is.sort y gone-arg.back k in record { by = record { after = u; run = ap left-c b.is } }
    left-value v k = record { by = tt }

    pub exit-both : Simulates (EndsAt z around q) (library-run (codes "exit") (gone-arg.object ∷ [])) (c-run callee (i ∷ []))
    exit-both =
        sim-of (EndsAt z around q) _ (library-run (codes "exit") (gone-arg.object ∷ [])) (c-run callee (i ∷ [])) (ap (on_value leave_with gone-arg.object) gone-arg.is.held)
        (sim-as (EndsAt z around q) (on_value leave_with gone-arg.object (Some gone-arg.is.value)) _ (c-run callee (i ∷ []))
        (ap (λ o. list_at z n (lowered_by callee (i ∷ []) o) u w) void
        ∙ ap (λ x. and_then x (falling (λ t w. list_at z n [] t w))) (reaches None None refl (gone-arg.back ∷ []) gone-arg.are)) (left-value gone-arg.is.value gone-arg.is.same))

  -- ---- by their names

  abbrev source-run : Name → List ℕ → Ran (Did Flow)
  source-run name is = does (again_at z n) z.program (set r (plain.call name t None is None)) g s w

  -- the object of the argument is found
  abbrev on_object : Name → Option ℕ → Ran (Did Flow)
  on_object name x = kept_run ((some_or x malformed >>= (λ o. gives (o ∷ [])) >>= (λ os. call_library name os)) s w)

  pub putchar-kept : KeepsInt z t r → Fits z → (i : ℕ) → Passes z i xs
      → Simulates (EndsAt z around (point_kept h r t (i ∷ []) xs)) (source-run (codes "putchar") (i ∷ [])) (c-run (by_name (codes "putchar")) (i ∷ []))
  putchar-kept keeps fit i passes =
      sim-of (EndsAt z around (point_kept h r t (i ∷ []) xs)) _ (source-run (codes "putchar") (i ∷ [])) (c-run (by_name (codes "putchar")) (i ∷ []))
      (ap (on_object (codes "putchar")) (one-argument z d h xs i passes g s u at).there.local)
      (putchar-both keeps fit i passes (by_name (codes "putchar")) (reaches-named (codes "putchar") (i ∷ []) (built_in putchar) refl))

  pub exit-kept : sort_of (result_type t) ≡ None → (i : ℕ) → Passes z i xs → (q : Point)
      → Simulates (EndsAt z around q) (source-run (codes "exit") (i ∷ [])) (c-run (by_name (codes "exit")) (i ∷ []))
  exit-kept void i passes q =
      sim-of (EndsAt z around q) _ (source-run (codes "exit") (i ∷ [])) (c-run (by_name (codes "exit")) (i ∷ []))
      (ap (on_object (codes "exit")) (one-argument z d h xs i passes g s u at).there.local)
      (exit-both void i passes q (by_name (codes "exit")) (reaches-named (codes "exit") (i ∷ []) (built_in exit) refl))

  pub getchar-kept : KeepsInt z t r → NextFits w
      → Simulates (EndsAt z around (point_kept h r t [] xs)) (source-run (codes "getchar") []) (c-run (by_name (codes "getchar")) [])
  getchar-kept keeps fit = getchar-both keeps (by_name (codes "getchar")) fit (reaches-named (codes "getchar") [] (built_in getchar) refl)

pub putchar-leads : (z : Scene) → Fits z → (n : ℕ) (around : Around Point) (h : Keeping) (xs : List Opened) (t : SourceType) (r : Register) → KeepsInt z t r → (i : ℕ) → Passes z i xs
    → LeafRunsTo z n around (point_at h xs) (set r (plain.call (codes "putchar") t None (i ∷ []) None)) (point_kept h r t (i ∷ []) xs)
putchar-leads z fit n around h xs t r keeps i passes k le g s u w at input = putchar-kept z k around h xs t r g s u w at keeps fit i passes

pub exit-leads : (z : Scene) (n : ℕ) (around : Around Point) (h : Keeping) (xs : List Opened) (t : SourceType) (r : Register) → sort_of (result_type t) ≡ None → (i : ℕ) → Passes z i xs
    → (q : Point) → LeafRunsTo z n around (point_at h xs) (set r (plain.call (codes "exit") t None (i ∷ []) None)) q
exit-leads z n around h xs t r void i passes q k le g s u w at input = exit-kept z k around h xs t r g s u w at void i passes q

-- each byte is one of int
pub next-fits : (w : World) → IsInput w.input → NextFits w
next-fits w input b rest e =
    let below : b < 256 = subst IsInput e input 0 b (let k : 0 < suc (length rest) = omega arith in k) in
    fits-pos b (omega (arith, below))

pub getchar-leads : (z : Scene) (n : ℕ) (around : Around Point) (h : Keeping) (xs : List Opened) (t : SourceType) (r : Register) → KeepsInt z t r
    → LeafRunsTo z n around (point_at h xs) (set r (plain.call (codes "getchar") t None [] None)) (point_kept h r t [] xs)
getchar-leads z n around h xs t r keeps k le g s u w at input = getchar-kept z k around h xs t r g s u w at keeps (next-fits w input)
