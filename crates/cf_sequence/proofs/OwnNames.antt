-- The names of what is local to a file are replaced alike in its core and in its plain statements.
use Rattle.std.proofs.Common.{◌≡◌, ℕ, zero, suc, ◌+◌, ◌/◌, ◌%◌, ◌<◌, ◌==◌, nat_le, nat_lt, arith, Bool, true, false, not, ◌&&◌, ◌||◌, cond, if◌then◌else◌, List, [], ◌∷◌, ◌++◌, map, filter, length, refl, sym, ◌∙◌, ap}
use Rattle.std.specs.Prelude.{Option, Some, find, bytes_eq, codes, decimal, option_map, reverse}
use Rattle.std.specs.Char.{is_ascii_digit}
use Rattle.std.specs.Fmt.{digits, digits_onto, digit_glyph}
use Rattle.std.specs.List.{list_all, list_any}
use Rattle.std.proofs.Math.Nat.{mod-lt}
use Rattle.std.proofs.lemmas.Bool.Decides.{nat_tests}
use Rattle.std.proofs.lemmas.List.{append_cancel_right}
use Rattle.cf_base.proofs.Tests.{both, all_of, same_bytes, bytes_same}
use Rattle.cf_core.specs.Types.{Name, SourceType, parameters, result, is_class}
use Rattle.cf_core.specs.Core.{Function, Static, CoreFile}
use Rattle.cf_core.specs.Joined as core
use Rattle.cf_core.specs.Joined.{renamed, is_nothing}
use Rattle.cf_plain.specs.Plain.{Plains, PlainFunction, PlainStatic, PlainFile, act, set, nothing, more}
use Rattle.cf_plain.specs.Plain as plain_tree
use Rattle.cf_plain.specs.Joined as plain
use Rattle.cf_sequence.specs.Built.{is_statement, is_built_function, is_body, is_plain_role, is_chain, is_none, is_constant_start, is_built_static, has_mark, arms_fit, is_numeral, is_mark}
use Rattle.cf_sequence.specs.Made.{declared, numbered}
use Rattle.cf_sequence.specs.Expressions.{finished}
use Rattle.cf_sequence.specs.Statements.{type_of_static, binds, reached, started, initialised, statement}
use Rattle.cf_sequence.specs.Sequenced.{inside, flowed_off, sequenced_body, sequenced_function, sequenced_file}
use Rattle.cf_sequence.proofs.Calling.{never}
use Rattle.cf_sequence.proofs.StaticObjects.{type_found}
use Rattle.cf_sequence.proofs.Constants.{set_as, start-is, constant-object, constant-start, something-constant, constant-element, by-set}
use Rattle.cf_sequence.proofs.JoinedObjects.{beside}
use Rattle.cf_sequence.proofs.Renamed.{same-adds, same-nothing, same-binds, same-declared, same-statement, same-constant-start, same-fit}
use Rattle.cf_sequence.proofs.RenamedCode.{over-finished, over-bound}
use Rattle.cf_sequence.proofs.RenamedLists.{over-element}
use Rattle.cf_sequence.proofs.RenamedStatements.{over-statement}
use Rattle.cf_sequence.proofs.SameStatics.{same-function}
use Rattle.cf_sequence.proofs.Whole.{built-parts}

-- ---- names

abbrev mark : List ℕ
mark = codes "__u"

mark-or : (a : Bool) → a || true ≡ true
mark-or true = refl
mark-or false = refl

-- each byte of a number's digits is a digit, however large it is
glyph-digit : (d : ℕ) → d < 10 → is_ascii_digit (digit_glyph false d) ≡ true
glyph-digit d lt = ap is_ascii_digit small ∙ inside (nat_le 48 (48 + d)) (nat_le (48 + d) 57) refl refl
  where
    small : digit_glyph false d ≡ 48 + d
    small = ap (λ (b : Bool). if b then 48 + d else 87 + d) (let less : nat_lt d 10 ≡ true = grind (arith, nat_tests) in less)

    inside : (a b : Bool) → nat_le 48 (48 + d) ≡ a → nat_le (48 + d) 57 ≡ b → a && b ≡ true
    inside true true e f = refl
    inside true false e f = grind (arith, nat_tests)
    inside false b e f = grind (arith, nat_tests)

-- a digit before those that there are
digit-before : (n : ℕ) (acc : Name) → list_all is_ascii_digit acc ≡ true → list_all is_ascii_digit (digit_glyph false (n % 10) ∷ acc) ≡ true
digit-before n acc ok =
    all_of (is_ascii_digit (digit_glyph false (n % 10))) (list_all is_ascii_digit acc) (glyph-digit (n % 10) (let lt : n % 10 < 10 = mod-lt n (omega arith) in lt)) ok

either-numeral : (b : Bool) (xs ys : Name) → is_numeral xs ≡ true → is_numeral ys ≡ true → is_numeral (if b then xs else ys) ≡ true
either-numeral true xs ys p q = p
either-numeral false xs ys p q = q

digits-onto : (k n : ℕ) (acc : Name) → list_all is_ascii_digit acc ≡ true → is_numeral (digits_onto (suc k) 10 false n acc) ≡ true
digits-onto zero n acc ok =
    let d : ℕ = digit_glyph false (n % 10) in
    let digits : list_all is_ascii_digit (d ∷ acc) ≡ true = digit-before n acc ok in either-numeral (n / 10 == 0) (d ∷ acc) (d ∷ acc) digits digits
digits-onto (suc k) n acc ok =
    let d : ℕ = digit_glyph false (n % 10) in
    let digits : list_all is_ascii_digit (d ∷ acc) ≡ true = digit-before n acc ok in
    either-numeral (n / 10 == 0) (d ∷ acc) (digits_onto (suc k) 10 false (n / 10) (d ∷ acc)) digits (digits-onto k (n / 10) (d ∷ acc) digits)

numeral : (k : ℕ) → is_numeral (decimal k) ≡ true
unfolding digits
numeral k = digits-onto 63 k [] refl

-- a name that joining makes has a mark
marked : (n rest : Name) → is_numeral rest ≡ true → has_mark (n ++ mark ++ rest) ≡ true
marked [] rest ok = ap (λ v. v || has_mark (95 ∷ 117 ∷ rest)) ok
marked (b ∷ n) rest ok = ap (λ v. is_mark (b ∷ (n ++ mark ++ rest)) || v) (marked n rest ok) ∙ mark-or (is_mark (b ∷ (n ++ mark ++ rest)))

file-marked : (k : ℕ) (n : Name) → has_mark (core.in_file k n) ≡ true
file-marked k n = marked n (decimal k) (numeral k)

-- it is not that of `main`
not-main : (k : ℕ) (n : Name) → bytes_eq (core.in_file k n) (codes "__main") ≡ false
not-main k n = by n (bytes_eq (core.in_file k n) (codes "__main")) refl
  where
    by : (n : Name) (b : Bool) → bytes_eq (core.in_file k n) (codes "__main") ≡ b → b ≡ false
    by n true e = sym (file-marked k n) ∙ ap has_mark (same_bytes (core.in_file k n) (codes "__main") e)
    by n false e = refl

abbrev pub is_own : List Static → Static → Bool
is_own statics x = is_built_static statics x && not (has_mark x.name)

module _ (k : ℕ) (names : List Name) where
  abbrev r : Name → Name
  r = core.name_in k names

  -- names without a mark stay different
  same-name : (a b : Name) → not (has_mark a) ≡ true → not (has_mark b) ≡ true → r a ≡ r b → a ≡ b
  same-name a b plain_a plain_b = by (list_any (bytes_eq a) names) (list_any (bytes_eq b) names)
    where
      by : (u v : Bool) → (if u then core.in_file k a else a) ≡ (if v then core.in_file k b else b) → a ≡ b
      by true true e = append_cancel_right a b mark (append_cancel_right (a ++ mark) (b ++ mark) (decimal k) e)
      by true false e = never (sym (ap not (sym (ap has_mark e) ∙ file-marked k a)) ∙ plain_b)
      by false true e = never (sym (ap not (ap has_mark e ∙ file-marked k b)) ∙ plain_a)
      by false false e = e

  same-test : (a b : Name) → not (has_mark a) ≡ true → not (has_mark b) ≡ true → bytes_eq (r a) (r b) ≡ bytes_eq a b
  same-test a b plain_a plain_b = by (bytes_eq a b) (bytes_eq (r a) (r b)) refl refl
    where
      by : (u v : Bool) → bytes_eq a b ≡ u → bytes_eq (r a) (r b) ≡ v → v ≡ u
      by true v e f = sym f ∙ bytes_same (r a) (r b) (ap r (same_bytes a b e))
      by false true e f = sym (bytes_same a b (same-name a b plain_a plain_b (same_bytes (r a) (r b) f))) ∙ e
      by false false e f = refl

  -- the type of a name stays
  same-type : (all xs : List Static) → list_all (is_own all) xs ≡ true → (n : Name) → not (has_mark n) ≡ true → type_of_static (map (core.static_in_file r) xs) (r n) ≡ type_of_static xs n
  same-type all [] ok n plain_n = refl
  same-type all (x ∷ xs) ok n plain_n =
      let parts = both (is_own all x) (list_all (is_own all) xs) ok in
      ap (λ b. type_found (cond b (Some (core.static_in_file r x)) (find (λ (y : Static). bytes_eq y.name (r n)) (map (core.static_in_file r) xs))))
      (same-test x.name n (both (is_built_static all x) (not (has_mark x.name)) parts.0).1 plain_n)
      ∙ by (bytes_eq x.name n) (same-type all xs parts.1 n plain_n)
    where
      others : Option Static
      others = find (λ (y : Static). bytes_eq y.name (r n)) (map (core.static_in_file r) xs)

      by : (b : Bool) → type_found others ≡ type_of_static xs n → type_found (cond b (Some (core.static_in_file r x)) others) ≡ type_found (cond b (Some x) (find (λ (y : Static). bytes_eq y.name n) xs))
      by true e = refl
      by false e = e

  -- ---- functions

  abbrev plain_function_in_file : PlainFunction → PlainFunction
  plain_function_in_file f = record f { name = r f.name; body = plain.renamed_all r f.body }

  over-flowed : (f : Function) → plain.renamed_all r (flowed_off f) ≡ flowed_off f
  over-flowed f = by (is_class (result f.type))
    where
      ends : Plains
      ends = finished (reverse (numbered 0 (parameters f.type))) nothing

      by : (b : Bool) → plain.renamed_all r (if b then nothing else ends) ≡ (if b then nothing else ends)
      by true = refl
      by false = over-finished r (reverse (numbered 0 (parameters f.type))) nothing

  over-body : (f : Function) → is_built_function f ≡ true → plain.renamed_all r (sequenced_body [] [] f) ≡ sequenced_body [] [] (core.function_in_file r f)
  over-body f ok =
      let parts = built-parts f ok in
      let j : ℕ = length (parameters f.type) + length f.locals in
      over-statement r f.body (length (parameters f.type)) parts.statement (inside [] [] f) parts.scalar j (finished (declared f.body) (flowed_off f))
      ∙ ap (statement (inside [] [] f) (renamed r f.body) j)
      (over-finished r (declared f.body) (flowed_off f) ∙ ap (finished (declared f.body)) (over-flowed f) ∙ ap (λ xs. finished xs (flowed_off f)) (sym (same-declared r f.body)))

  over-function : (f : Function) → is_built_function f ≡ true → plain_function_in_file (sequenced_function [] [] f) ≡ sequenced_function [] [] (core.function_in_file r f)
  over-function f ok =
      ap (λ ss. let g : PlainFunction = record (sequenced_function [] [] f) { name = r f.name; body = ss } in g) (over-body f ok)
      ∙ ap (λ (ls : List SourceType). let g : PlainFunction = record (sequenced_function [] [] (core.function_in_file r f)) { locals = f.locals ++ ls } in g) (sym (same-adds r f.body))

  main-stays : (f : Function) → (not (bytes_eq f.name (codes "__main")) || is_none (parameters f.type)) ≡ true → (not (bytes_eq (r f.name) (codes "__main")) || is_none (parameters f.type)) ≡ true
  main-stays f ok = by (list_any (bytes_eq f.name) names)
    where
      by : (b : Bool) → (not (bytes_eq (if b then core.in_file k f.name else f.name) (codes "__main")) || is_none (parameters f.type)) ≡ true
      by true = ap (λ v. not v || is_none (parameters f.type)) (not-main k f.name)
      by false = ok

  own-function : (f : Function) → is_built_function f ≡ true → is_built_function (core.function_in_file r f) ≡ true
  own-function f ok =
      let main_ok : Bool = not (bytes_eq f.name (codes "__main")) || is_none (parameters f.type) in
      let main_own : Bool = not (bytes_eq (r f.name) (codes "__main")) || is_none (parameters f.type) in
      let plain_result : Bool = not (is_class (result f.type)) in
      let stated : Bool = is_statement (length (parameters f.type)) (renamed r f.body) && arms_fit (length (parameters f.type) + length f.locals) (renamed r f.body) in
      let one = both (is_plain_role f.role) (is_chain f.type && (main_ok && is_body f)) ok in
      let two = both (is_chain f.type) (main_ok && is_body f) one.1 in
      let three = both main_ok (is_body f) two.1 in
      let four = both plain_result (is_statement (length (parameters f.type)) f.body && arms_fit (length (parameters f.type) + length f.locals) f.body) three.1 in
      let five = both (is_statement (length (parameters f.type)) f.body) (arms_fit (length (parameters f.type) + length f.locals) f.body) four.1 in
      all_of (is_plain_role f.role) (is_chain f.type && (main_own && (plain_result && stated))) one.0
      (all_of (is_chain f.type) (main_own && (plain_result && stated)) two.0
      (all_of main_own (plain_result && stated) (main-stays f three.0)
      (all_of plain_result stated four.0
      (all_of (is_statement (length (parameters f.type)) (renamed r f.body)) (arms_fit (length (parameters f.type) + length f.locals) (renamed r f.body)) (same-statement r (length (parameters f.type)) f.body ∙ five.0)
      (same-fit r (length (parameters f.type) + length f.locals) f.body ∙ five.1)))))

  pub own-functions : (gs : List Function) → list_all is_built_function gs ≡ true → list_all is_built_function (map (core.function_in_file r) gs) ≡ true
  own-functions [] ok = refl
  own-functions (f ∷ gs) ok =
      let parts = both (is_built_function f) (list_all is_built_function gs) ok in
      all_of (is_built_function (core.function_in_file r f)) (list_all is_built_function (map (core.function_in_file r) gs)) (own-function f parts.0) (own-functions gs parts.1)

  over-functions : (ys zs : List Static) (gs : List Function) → list_all is_built_function gs ≡ true
      → map plain_function_in_file (map (sequenced_function [] ys) gs) ≡ map (sequenced_function [] zs) (map (core.function_in_file r) gs)
  over-functions ys zs [] ok = refl
  over-functions ys zs (f ∷ gs) ok =
      let parts = both (is_built_function f) (list_all is_built_function gs) ok in
      ap (λ (g : PlainFunction). g ∷ map plain_function_in_file (map (sequenced_function [] ys) gs))
      (ap plain_function_in_file (same-function ys f parts.0) ∙ over-function f parts.0 ∙ sym (same-function zs (core.function_in_file r f) (own-function f parts.0)))
      ∙ ap (λ (hs : List PlainFunction). sequenced_function [] zs (core.function_in_file r f) ∷ hs) (over-functions ys zs gs parts.1)

  -- ---- static objects

  abbrev plain_static_in_file : PlainStatic → PlainStatic
  plain_static_in_file x = record x { name = r x.name; start = plain.renamed_all r x.start; owner = option_map r x.owner }

  module _ (ys : List Static) (all : list_all (is_own ys) ys ≡ true) where
    abbrev zs : List Static
    zs = map (core.static_in_file r) ys

    own-object : (x : Static) → is_own ys x ≡ true → is_built_static zs (core.static_in_file r x) ≡ true
    own-object x ok =
        let parts = both (is_built_static ys x) (not (has_mark x.name)) ok in
        ap (λ t. x.is_constant && is_constant_start t (renamed r x.start)) (same-type ys ys all x.name parts.1)
        ∙ ap (λ b. x.is_constant && b) (same-constant-start r (type_of_static ys x.name) x.start) ∙ parts.0

    own-each : (xs : List Static) → list_all (is_own ys) xs ≡ true → list_all (is_built_static zs) (map (core.static_in_file r) xs) ≡ true
    own-each [] ok = refl
    own-each (x ∷ xs) ok =
        let parts = both (is_own ys x) (list_all (is_own ys) xs) ok in
        all_of (is_built_static zs (core.static_in_file r x)) (list_all (is_built_static zs) (map (core.static_in_file r) xs)) (own-object x parts.0) (own-each xs parts.1)

    pub own-objects : list_all (is_built_static zs) zs ≡ true
    own-objects = own-each ys all

    over-reached : (b : Bool) (t : SourceType) (name : Name) (rest : Plains) → plain.renamed_all r (reached b t name rest) ≡ reached b t (r name) (plain.renamed_all r rest)
    over-reached true t name rest = refl
    over-reached false t name rest = refl

    over-set : (x : Static) → is_built_static ys x ≡ true → plain.renamed_all r (set_as [] x (type_of_static ys x.name)) ≡ set_as [] (core.static_in_file r x) (type_of_static ys x.name)
    over-set x ok = by (is_nothing x.start) refl ∙ ap (λ b. if b then nothing else initialised [] t (r x.name) (renamed r x.start) 0 nothing) (sym (same-nothing r x.start))
      where
        t : SourceType
        t = type_of_static ys x.name

        by : (b : Bool) → is_nothing x.start ≡ b
            → plain.renamed_all r (if b then nothing else initialised [] t x.name x.start 0 nothing) ≡ (if b then nothing else initialised [] t (r x.name) (renamed r x.start) 0 nothing)
        by true e = refl
        by false e =
            let last : Plains = more (act (plain_tree.finish_static x.name)) nothing in
            over-reached (binds x.start) t x.name (started [] t x.start 0 0 last)
            ∙ ap (reached (binds x.start) t (r x.name))
            (by-set t x.start (something-constant t x.start (constant-start ys x ok) e) (λ bound. over-bound r [] t x.start bound 0 0 last)
            (λ other constant. over-element r [] t x.start (constant-element t x.start constant) t 0 0 last))
            ∙ ap (λ b. reached b t (r x.name) (started [] t (renamed r x.start) 0 0 (plain.renamed_all r last))) (sym (same-binds r x.start))

    over-object : (x : Static) → is_own ys x ≡ true → plain_static_in_file (beside ys x) ≡ beside zs (core.static_in_file r x)
    over-object x ok =
        let y = core.static_in_file r x in
        let parts = both (is_built_static ys x) (not (has_mark x.name)) ok in
        ap (λ ss. let z : PlainStatic = record (plain_static_in_file (beside ys x)) { start = ss } in z)
        (ap (plain.renamed_all r) (start-is [] ys x (constant-object ys x parts.0)) ∙ over-set x parts.0
        ∙ ap (set_as [] y) (sym (same-type ys ys all x.name parts.1)) ∙ sym (start-is [] zs y (constant-object ys x parts.0)))
        ∙ ap (λ (ls : List SourceType). let z : PlainStatic = record (beside zs y) { locals = ls } in z) (sym (same-adds r x.start))

    over-objects : (xs : List Static) → list_all (is_own ys) xs ≡ true → map plain_static_in_file (map (beside ys) xs) ≡ map (beside zs) (map (core.static_in_file r) xs)
    over-objects [] ok = refl
    over-objects (x ∷ xs) ok =
        let parts = both (is_own ys x) (list_all (is_own ys) xs) ok in
        ap (λ (y : PlainStatic). y ∷ map plain_static_in_file (map (beside ys) xs)) (over-object x parts.0)
        ∙ ap (λ (us : List PlainStatic). beside zs (core.static_in_file r x) ∷ us) (over-objects xs parts.1)

-- ---- the names that are local

local-functions : (ys : List Static) (gs : List Function)
    → map (λ (f : PlainFunction). f.name) (filter (λ (f : PlainFunction). f.is_local) (map (sequenced_function [] ys) gs)) ≡ map (λ (f : Function). f.name) (filter (λ (f : Function). f.is_local) gs)
local-functions ys [] = refl
local-functions ys (f ∷ gs) = by f.is_local (local-functions ys gs)
  where
    others : List PlainFunction
    others = filter (λ (f : PlainFunction). f.is_local) (map (sequenced_function [] ys) gs)

    by : (b : Bool) → map (λ (f : PlainFunction). f.name) others ≡ map (λ (f : Function). f.name) (filter (λ (f : Function). f.is_local) gs)
        → map (λ (f : PlainFunction). f.name) (cond b (sequenced_function [] ys f ∷ others) others) ≡ map (λ (f : Function). f.name) (cond b (f ∷ filter (λ (f : Function). f.is_local) gs) (filter (λ (f : Function). f.is_local) gs))
    by true e = ap (λ (ns : List Name). f.name ∷ ns) e
    by false e = e

local-objects : (ys xs : List Static)
    → map (λ (x : PlainStatic). x.name) (filter (λ (x : PlainStatic). x.is_local) (map (beside ys) xs)) ≡ map (λ (x : Static). x.name) (filter (λ (x : Static). x.is_local) xs)
local-objects ys [] = refl
local-objects ys (x ∷ xs) = by x.is_local (local-objects ys xs)
  where
    others : List PlainStatic
    others = filter (λ (x : PlainStatic). x.is_local) (map (beside ys) xs)

    by : (b : Bool) → map (λ (x : PlainStatic). x.name) others ≡ map (λ (x : Static). x.name) (filter (λ (x : Static). x.is_local) xs)
        → map (λ (x : PlainStatic). x.name) (cond b (beside ys x ∷ others) others) ≡ map (λ (x : Static). x.name) (cond b (x ∷ filter (λ (x : Static). x.is_local) xs) (filter (λ (x : Static). x.is_local) xs))
    by true e = ap (λ (ns : List Name). x.name ∷ ns) e
    by false e = e

-- ---- files

abbrev pub in_file : List Static → List Function → CoreFile
in_file xs gs = record { classes = []; functions = gs; statics = xs }

pub own-is : (k : ℕ) (ys : List Static) (gs : List Function) → list_all (is_own ys) ys ≡ true → list_all is_built_function gs ≡ true
    → plain.own_names k (sequenced_file (in_file ys gs)) ≡ sequenced_file (core.own_names k (in_file ys gs))
own-is k ys gs own ok =
    let names = core.local_names (in_file ys gs) in
    let with_names : List Name → PlainFile = λ ns. record {
      classes = [];
      functions = map (plain_function_in_file k ns) (map (sequenced_function [] ys) gs);
      statics = map (plain_static_in_file k ns) (map (beside ys) ys);
    } in
    let zs = map (core.static_in_file (core.name_in k names)) ys in
    ap (λ ns. with_names (ns ++ map (λ (x : PlainStatic). x.name) (filter (λ (x : PlainStatic). x.is_local) (map (beside ys) ys)))) (local-functions ys gs)
    ∙ ap (λ ns. with_names (map (λ (f : Function). f.name) (filter (λ (f : Function). f.is_local) gs) ++ ns)) (local-objects ys ys)
    ∙ ap (λ (fs : List PlainFunction). let x : PlainFile = record { classes = []; functions = fs; statics = map (plain_static_in_file k names) (map (beside ys) ys) } in x) (over-functions k names ys zs gs ok)
    ∙ ap (λ (us : List PlainStatic). let x : PlainFile = record { classes = []; functions = map (sequenced_function [] zs) (map (core.function_in_file (core.name_in k names)) gs); statics = us } in x)
    (over-objects k names ys own ys own)
