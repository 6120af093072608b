-- What the statements of that program need, and that its functions do the same in both.
use Rattle.std.proofs.Common.{◌≡◌, ℕ, ◌+◌, ◌≤◌, Bool, true, false, if◌then◌else◌, List, [], ◌∷◌, bytes_eq, refl, sym, ◌∙◌, ap, subst, arith}
use Rattle.std.specs.Prelude.{pos, Option, Some, None}
use Rattle.cf_base.specs.declared.kind.Kind.TheVariants.{Int}
use Rattle.cf_base.proofs.Tests.{same_bytes}
use Rattle.cf_core.specs.Types.{Name, void, pointer, takes, gives, without_const}
use Rattle.cf_core.specs.Core.{Function}
use Rattle.cf_core.specs.Run.{State}
use Rattle.cf_core.specs.Calls.{function_named}
use Rattle.cf_lower_layout.specs.Sorts.{Sort, number}
use Rattle.cf_plain.specs.Plain as plain
use Rattle.cf_plain.specs.Plain.{Plain, act, set, give, nothing, PlainFunction}
use Rattle.cf_plain.specs.Running.{header}
use Rattle.cf_plain_kept.specs.Kept as told
use Rattle.cc_whole.specs.declared.types.CType.TheVariants as ty
use Rattle.cc_whole_memory.specs.declared.value.Value.{Value}
use Rattle.cc_whole_memory.specs.Blocks.{Memory}
use Rattle.cc_whole_mean.specs.Flow.{born_arguments}
use Rattle.cf_lower.specs.Kept.{Keeping, Locals, nothing_kept, after}
use Rattle.cf_lower.specs.Functions.{locals_of}
use Rattle.cf_lower.specs.Written.{c_type}
use Rattle.cf_lower_kept.specs.Opened.{Opened, open_one, keeping_or}
use Rattle.cf_lower_kept.specs.Told.{AllTold}
use Rattle.cf_lower_kept.proofs.Statements.{statement-told}
use Rattle.cf_lower_relate.specs.Map.{Map}
use Rattle.cf_lower_turns.specs.Around.{Around, function}
use Rattle.cf_lower_turns.specs.Scene.{Scene}
use Rattle.cf_lower_calls.specs.Invoked.LowerActions.{Fits}
use Rattle.cf_lower_bounds.specs.Points.{Point, point_at, point_never}
use Rattle.cf_lower_calls.specs.Invoked.LowerPoints.{opened_behind}
use Rattle.cf_lower_calls.proofs.InvokedLaws.LowerPoints.{leads-on}
use Rattle.cf_lower_calls.specs.Returns.Called.{Entry, FunctionsAlike}
use Rattle.cf_lower_calls.specs.Invoked.Invoking.{Invokes, HasLocal, KeepsResult}
use Rattle.cf_lower_calls.proofs.InvokedLaws.Kept.{call-kept-leads}
use Rattle.cf_lower_calls.specs.Library.Library.{KeepsInt}
use Rattle.cf_lower_calls.specs.Library.Pointed.{ReachesFunction, PointerFits}
use Rattle.cf_lower_calls.proofs.LibraryLaws.Calls.{putchar-leads}
use Rattle.cf_lower_calls.proofs.LibraryLaws.Pointed.{pointer-leads}
use Rattle.cf_lower_calls.specs.Born.Laid.{results_from}
use Rattle.cf_lower_calls.specs.Entered.Linked.{linked_function}
use Rattle.cf_lower_calls.specs.Entered.Lowered.{entered_scene, HasNeeds, AllHaveNeeds}
use Rattle.cf_lower_calls.proofs.EnteredLaws.Fitting.{scene-fits, programs-alike}
use Rattle.cf_lower_calls.proofs.EnteredLaws.Example.{int, g_name, f_name, k_name, of_int, the_call, k_put, k_call, k_end, g, f, k, P, type_of_function, B, found_by, fitting, g-lowered, f-lowered, k-lowered, some-function, g-pair, all-lowered}

-- ---- what statements need

abbrev around : Around Point
around = function

-- the parameter has its value
abbrev valued : List Opened
valued = open_one 0 None true ∷ []

module _ (n : ℕ) (alike : (i : ℕ) → i ≤ n → FunctionsAlike B i) (E : Map) (s : State) (first : Memory) (os : List ℕ) (cs : List Value) (depth : ℕ) where
  module _ (entry : Entry B (header g) E s first os cs) where
    abbrev zg : Scene
    zg = entered_scene B g E first cs depth

    g-fits : Fits zg
    g-fits = scene-fits B fitting n (header g) (linked_function [] g) g-lowered E s first os cs depth entry

    abbrev lg : Locals
    lg = locals_of g

    abbrev hg1 : Keeping
    hg1 = after lg (set 0 (plain.local 0)) nothing_kept

    abbrev hg2 : Keeping
    hg2 = after lg (set 0 (plain.read 0)) hg1

    abbrev v1 : List Opened
    v1 = opened_behind told.nothing_set (set 0 (plain.local 0)) valued

    abbrev v2 : List Opened
    v2 = opened_behind told.nothing_set (set 0 (plain.read 0)) v1

    g-needs : HasNeeds B n g E first cs depth
    g-needs = record {
      last = hg2;
      needs = record {
        point = point_at hg1 v1;
        kept_there = refl;
        first = leads-on zg g-fits around told.nothing_set nothing_kept valued (λ r. tt) (set 0 (plain.local 0)) refl refl n;
        second = record {
          point = point_at hg2 v2;
          kept_there = refl;
          first = leads-on zg g-fits around told.nothing_set hg1 v1 (λ r. tt) (set 0 (plain.read 0)) refl refl n;
          second = record {
            point = point_at hg2 [];
            kept_there = refl;
            first = leads-on zg g-fits around told.nothing_set hg2 v2 (λ r. tt) (act (plain.finish int 0)) refl refl n;
            second = record {
              point = point_never hg2;
              kept_there = refl;
              first = leads-on zg g-fits around told.nothing_set hg2 [] (λ r. tt) (give (Some 0)) refl refl n;
              second = record {
                point = point_never hg2;
                kept_there = refl;
                first = λ i le g s t w at. absurd at.standing;
                second = λ d g s t at. absurd at.standing;
              };
            };
          };
        };
      };
    }

  module _ (entry : Entry B (header f) E s first os cs) where
    abbrev zf : Scene
    zf = entered_scene B f E first cs depth

    f-fits : Fits zf
    f-fits = scene-fits B fitting n (header f) (linked_function [] f) f-lowered E s first os cs depth entry

    abbrev lf : Locals
    lf = locals_of f

    abbrev s1 : Plain
    s1 = set 0 (plain.declare 0 int)

    abbrev s2 : Plain
    s2 = set 1 (plain.number (pos 1))

    -- what plain statements tell of the registers behind one
    abbrev behind : told.Keeping → Plain → told.Keeping
    behind k st = keeping_or (told.after lf.types int st k)

    abbrev k1 : told.Keeping
    k1 = behind told.nothing_set s1

    abbrev k2 : told.Keeping
    k2 = behind k1 s2

    abbrev h1 : Keeping
    h1 = after lf s1 nothing_kept

    abbrev h2 : Keeping
    h2 = after lf s2 h1

    abbrev h4 : Keeping
    h4 = after lf the_call h2

    tells1 : AllTold lf k1 h1
    tells1 = statement-told lf int s1 told.nothing_set nothing_kept (λ r. tt) refl

    tells2 : AllTold lf k2 h2
    tells2 = statement-told lf int s2 k1 h1 tells1 refl

    -- the argument as it is declared, with a number in another register, and once it has its value
    abbrev y1 : List Opened
    y1 = opened_behind told.nothing_set s1 []

    abbrev y2 : List Opened
    y2 = opened_behind k1 s2 y1

    abbrev y3 : List Opened
    y3 = opened_behind k2 (act (plain.first 0 1)) y2

    some-sort : {a b : Sort} → Some a ≡ Some b → a ≡ b
    some-sort e = cc

    local-of : (u : Sort) → Some (number Int) ≡ Some u → HasLocal zf (c_type u)
    local-of u e = subst (λ (a : Sort). HasLocal zf (c_type a)) (some-sort e) (record { block = (born_arguments cs first).next + (results_from f + 0); is = refl })

    invokes : Invokes zf (header g) (0 ∷ [])
    invokes = record { passed = refl; typed = (refl, tt); shaped = f-fits.shaped; statics = λ name o e. absurd (let y = e in cc) }

    keeps : KeepsResult zf (header g) of_int 0
    keeps = record { bound = omega arith; sorts = refl; local = λ u e. local-of u e }

    f-needs : HasNeeds B n f E first cs depth
    f-needs = record {
      last = h4;
      needs = record {
        point = point_at h1 y1;
        kept_there = refl;
        first = leads-on zf f-fits around told.nothing_set nothing_kept [] (λ r. tt) s1 refl refl n;
        second = record {
          point = point_at h2 y2;
          kept_there = refl;
          first = leads-on zf f-fits around k1 h1 y1 tells1 s2 refl refl n;
          second = record {
            point = point_at h2 y3;
            kept_there = refl;
            first = leads-on zf f-fits around k2 h2 y2 tells2 (act (plain.first 0 1)) refl refl n;
            second = record {
              point = point_at h4 [];
              kept_there = refl;
              first =
                  call-kept-leads zf refl refl n alike around h2 y3 (header g) (linked_function [] g) g-pair (0 ∷ []) of_int 0
                  (λ same. (invokes, keeps)) refl;
              second = record {
                point = point_never h4;
                kept_there = refl;
                first = leads-on zf f-fits around told.nothing_set h4 [] (λ r. tt) (give (Some 0)) refl refl n;
                second = λ d g s t at. absurd at.standing;
              };
            };
          };
        };
      };
    }

  module _ (entry : Entry B (header k) E s first os cs) where
    abbrev zk : Scene
    zk = entered_scene B k E first cs depth

    k-fits : Fits zk
    k-fits = scene-fits B fitting n (header k) (linked_function [] k) k-lowered E s first os cs depth entry

    abbrev lk : Locals
    lk = locals_of k

    -- what plain statements tell of the registers behind one
    abbrev k-behind : told.Keeping → Plain → told.Keeping
    k-behind x st = keeping_or (told.after lk.types int st x)

    abbrev u1 : Plain
    u1 = set 0 (plain.declare 1 int)

    abbrev u2 : Plain
    u2 = set 1 (plain.number (pos 97))

    abbrev u5 : Plain
    u5 = set 0 (plain.local 0)

    abbrev u6 : Plain
    u6 = set 0 (plain.read 0)

    abbrev u7 : Plain
    u7 = set 1 (plain.declare 2 int)

    abbrev u8 : Plain
    u8 = set 2 (plain.number (pos 1))

    abbrev t1 : told.Keeping
    t1 = k-behind told.nothing_set u1

    abbrev t2 : told.Keeping
    t2 = k-behind t1 u2

    -- before the second argument nothing is asked of registers but that in which it is declared
    abbrev t7 : told.Keeping
    t7 = k-behind told.nothing_set u7

    abbrev t8 : told.Keeping
    t8 = k-behind t7 u8

    abbrev p1 : Keeping
    p1 = after lk u1 nothing_kept

    abbrev p2 : Keeping
    p2 = after lk u2 p1

    abbrev p4 : Keeping
    p4 = after lk k_put p2

    abbrev p5 : Keeping
    p5 = after lk u5 p4

    abbrev p6 : Keeping
    p6 = after lk u6 p5

    abbrev p7 : Keeping
    p7 = after lk u7 p6

    abbrev p8 : Keeping
    p8 = after lk u8 p7

    abbrev p10 : Keeping
    p10 = after lk k_call p8

    k-tells1 : AllTold lk t1 p1
    k-tells1 = statement-told lk int u1 told.nothing_set nothing_kept (λ r. tt) refl

    k-tells2 : AllTold lk t2 p2
    k-tells2 = statement-told lk int u2 t1 p1 k-tells1 refl

    k-tells7 : AllTold lk t7 p7
    k-tells7 = statement-told lk int u7 told.nothing_set p6 (λ r. tt) refl

    k-tells8 : AllTold lk t8 p8
    k-tells8 = statement-told lk int u8 t7 p7 k-tells7 refl

    abbrev w1 : List Opened
    w1 = opened_behind told.nothing_set u1 valued

    abbrev w2 : List Opened
    w2 = opened_behind t1 u2 w1

    abbrev w3 : List Opened
    w3 = opened_behind t2 (act (plain.first 0 1)) w2

    abbrev w4 : List Opened
    w4 = opened_behind told.nothing_set k_put w3

    abbrev w5 : List Opened
    w5 = opened_behind told.nothing_set u5 w4

    abbrev w6 : List Opened
    w6 = opened_behind told.nothing_set u6 w5

    abbrev w7 : List Opened
    w7 = opened_behind told.nothing_set u7 w6

    abbrev w8 : List Opened
    w8 = opened_behind t7 u8 w7

    abbrev w9 : List Opened
    w9 = opened_behind t8 (act (plain.first 1 2)) w8

    abbrev w10 : List Opened
    w10 = opened_behind told.nothing_set k_call w9

    int-local : HasLocal zk ty.Int
    int-local = record { block = (born_arguments cs first).next + (results_from k + 0); is = refl }

    int-kept : KeepsInt zk of_int 0
    int-kept = record { bound = omega arith; sort = refl; local = int-local }

    k-local-of : (u : Sort) → Some (number Int) ≡ Some u → HasLocal zk (c_type u)
    k-local-of u e = subst (λ (a : Sort). HasLocal zk (c_type a)) (k-some-sort e) int-local
      where
        k-some-sort : {a b : Sort} → Some a ≡ Some b → a ≡ b
        k-some-sort q = cc

    to-g : ReachesFunction zk of_int (2 ∷ []) 0 g_name (header g)
    to-g = record {
      named = refl;
      is_no_library = refl;
      callee = linked_function [] g;
      pair = g-pair;
      numbered = refl;
      typed = refl;
      invokes = record { passed = refl; typed = (refl, tt); shaped = k-fits.shaped; statics = λ name o e. absurd (let y = e in cc) };
      keeps = record { bound = omega arith; sorts = refl; local = λ u e. k-local-of u e };
    }

    reaches : (name : Name) (x : Function) → function_named P name ≡ Some x → without_const x.type ≡ of_int → ReachesFunction zk of_int (2 ∷ []) 0 name x
    reaches name x e type = by (bytes_eq g_name name) (bytes_eq f_name name) (bytes_eq k_name name) refl e
      where
        with-type : (q : PlainFunction) → Some (header q) ≡ Some x → without_const q.type ≡ of_int
        with-type q o = ap (λ (v : Function). without_const v.type) (some-function o) ∙ type

        by : (a b c : Bool) → bytes_eq g_name name ≡ a → found_by a b c ≡ Some x → ReachesFunction zk of_int (2 ∷ []) 0 name x
        by true b c i o =
            subst (λ (m : Name). ReachesFunction zk of_int (2 ∷ []) 0 m x) (same_bytes g_name name i)
            (subst (λ (v : Function). ReachesFunction zk of_int (2 ∷ []) 0 g_name v) (some-function o) to-g)
        by false true c i o = absurd (let y : gives int false ≡ of_int = with-type f o in cc)
        by false false true i o = absurd (let y : takes (pointer of_int) (gives int false) ≡ of_int = with-type k o in cc)
        by false false false i o = absurd (let y = o in cc)

    points : PointerFits zk p8 0 of_int (2 ∷ []) w9 0
    points = record {
      helper = refl;
      kept = refl;
      functions = λ name x e fresh type. reaches name x e (sym (ap (λ (o : Option Function). without_const (type_of_function name o)) e) ∙ type);
      putchar_there = λ e. (
        record {
          numbered = refl;
          typed = refl;
          local = 2;
          only = refl;
          passes = record { passed = refl; shaped = k-fits.shaped; valued = refl };
        },
        int-kept,
      );
      exit_there = λ e. absurd (let y : takes int (gives void false) ≡ of_int = e in cc);
      getchar_there = λ e. absurd (let y : gives int false ≡ of_int = e in cc);
    }

    k-needs : HasNeeds B n k E first cs depth
    k-needs = record {
      last = p10;
      needs = record {
        point = point_at p1 w1;
        kept_there = refl;
        first = leads-on zk k-fits around told.nothing_set nothing_kept valued (λ r. tt) u1 refl refl n;
        second = record {
          point = point_at p2 w2;
          kept_there = refl;
          first = leads-on zk k-fits around t1 p1 w1 k-tells1 u2 refl refl n;
          second = record {
            point = point_at p2 w3;
            kept_there = refl;
            first = leads-on zk k-fits around t2 p2 w2 k-tells2 (act (plain.first 0 1)) refl refl n;
            second = record {
              point = point_at p4 w4;
              kept_there = refl;
              first =
                  putchar-leads zk k-fits n around p2 w3 of_int 0 int-kept 1
                  (record { passed = refl; shaped = k-fits.shaped; valued = refl });
              second = record {
                point = point_at p5 w5;
                kept_there = refl;
                first = leads-on zk k-fits around told.nothing_set p4 w4 (λ r. tt) u5 refl refl n;
                second = record {
                  point = point_at p6 w6;
                  kept_there = refl;
                  first = leads-on zk k-fits around told.nothing_set p5 w5 (λ r. tt) u6 refl refl n;
                  second = record {
                    point = point_at p7 w7;
                    kept_there = refl;
                    first = leads-on zk k-fits around told.nothing_set p6 w6 (λ r. tt) u7 refl refl n;
                    second = record {
                      point = point_at p8 w8;
                      kept_there = refl;
                      first = leads-on zk k-fits around t7 p7 w7 k-tells7 u8 refl refl n;
                      second = record {
                        point = point_at p8 w9;
                        kept_there = refl;
                        first = leads-on zk k-fits around t8 p8 w8 k-tells8 (act (plain.first 1 2)) refl refl n;
                        second = record {
                          point = point_at p10 w10;
                          kept_there = refl;
                          first = pointer-leads zk refl refl k-fits n alike around p8 w9 0 of_int (2 ∷ []) 0 points refl;
                          second = record {
                            point = point_at p10 [];
                            kept_there = refl;
                            first = leads-on zk k-fits around told.nothing_set p10 w10 (λ r. tt) k_end refl refl n;
                            second = record {
                              point = point_never p10;
                              kept_there = refl;
                              first = leads-on zk k-fits around told.nothing_set p10 [] (λ r. tt) (give (Some 0)) refl refl n;
                              second = λ d g s t at. absurd at.standing;
                            };
                          };
                        };
                      };
                    };
                  };
                };
              };
            };
          };
        };
      };
    }

some-plain : {a b : PlainFunction} → Some a ≡ Some b → a ≡ b
some-plain e = cc

all-needs : AllHaveNeeds B
all-needs n alike p found E s first os cs depth entry = by (bytes_eq g_name p.name) (bytes_eq f_name p.name) (bytes_eq k_name p.name) found entry
  where
    by : (a b c : Bool) → (if a then Some g else (if b then Some f else (if c then Some k else None))) ≡ Some p → Entry B (header p) E s first os cs → HasNeeds B n p E first cs depth
    by true b c e = subst (λ q. Entry B (header q) E s first os cs → HasNeeds B n q E first cs depth) (some-plain e) (λ x. g-needs n alike E s first os cs depth x)
    by false true c e = subst (λ q. Entry B (header q) E s first os cs → HasNeeds B n q E first cs depth) (some-plain e) (λ x. f-needs n alike E s first os cs depth x)
    by false false true e = subst (λ q. Entry B (header q) E s first os cs → HasNeeds B n q E first cs depth) (some-plain e) (λ x. k-needs n alike E s first os cs depth x)
    by false false false e = absurd (let y = e in cc)

-- no premise is left
functions-alike : (n : ℕ) → FunctionsAlike B n
functions-alike n = programs-alike B fitting all-lowered all-needs n
