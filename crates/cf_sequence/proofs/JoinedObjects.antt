-- The static objects of files that are joined: their plain statements and settings are those of the joined program.
use Rattle.std.proofs.Common.{◌≡◌, Bool, true, false, not, ◌&&◌, ◌||◌, cond, if◌then◌else◌, List, [], ◌∷◌, ◌++◌, map, filter, refl, sym, ◌∙◌, ap, subst}
use Rattle.std.specs.Prelude.{Option, Some, find, bytes_eq, is_some}
use Rattle.std.specs.List.{list_all, list_any}
use Rattle.std.proofs.lemmas.List.{map-append}
use Rattle.std.proofs.lemmas.List.Folds.{list_all-append}
use Rattle.cf_base.proofs.Tests.{both, all_of, same_bytes, bytes_same}
use Rattle.cf_core.specs.Types.{Name, SourceType}
use Rattle.cf_core.specs.Core.{Static}
use Rattle.cf_core.specs.Calls.{Setting}
use Rattle.cf_core.specs.Joined as core
use Rattle.cf_core.specs.Joined.{is_nothing}
use Rattle.cf_plain.specs.Plain.{Plains, PlainStatic, nothing}
use Rattle.cf_plain.specs.Program.{PlainSetting}
use Rattle.cf_plain.specs.Joined as plain
use Rattle.cf_sequence.specs.Built.{is_constant_set, is_built_static, is_built_setting}
use Rattle.cf_sequence.specs.Statements.{type_of_static, binds, reached, initialised}
use Rattle.cf_sequence.specs.Sequenced.{sequenced_static}
use Rattle.cf_sequence.proofs.Calling.{never}
use Rattle.cf_sequence.proofs.StaticObjects.{type_found}
use Rattle.cf_sequence.proofs.Constants.{set_as, start-is, constant-object, constant-start, something-constant}

-- ---- the type of a name

-- whether an object of this name is among these
abbrev pub is_among : Name → List Static → Bool
is_among name xs = list_any (λ (x : Static). bytes_eq x.name name) xs

type-first : (b : Bool) (x : Static) (old new : Option Static) → (b ≡ false → type_found new ≡ type_found old) → type_found (cond b (Some x) new) ≡ type_found (cond b (Some x) old)
type-first true x old new e = refl
type-first false x old new e = e refl

or-false : (a b : Bool) → a || b ≡ false → (a ≡ false) × (b ≡ false)
or-false true b e = never (sym e)
or-false false b e = (refl, e)

-- it stays where more objects come behind
pub type-grown : (xs zs : List Static) (name : Name) → is_among name xs ≡ true → type_of_static (xs ++ zs) name ≡ type_of_static xs name
type-grown [] zs name there = never there
type-grown (x ∷ xs) zs name there =
    type-first (bytes_eq x.name name) x (find (λ (x : Static). bytes_eq x.name name) xs) (find (λ (x : Static). bytes_eq x.name name) (xs ++ zs))
    (λ other. type-grown xs zs name (subst (λ b. b || is_among name xs ≡ true) other there))

-- objects of other names before don't matter
pub type-behind : (xs zs : List Static) (name : Name) → is_among name xs ≡ false → type_of_static (xs ++ zs) name ≡ type_of_static zs name
type-behind [] zs name none = refl
type-behind (x ∷ xs) zs name none =
    let parts = or-false (bytes_eq x.name name) (is_among name xs) none in
    ap (λ b. type_found (cond b (Some x) (find (λ (x : Static). bytes_eq x.name name) (xs ++ zs)))) parts.0 ∙ type-behind xs zs name parts.1

same-found : (a b : Name) → bytes_eq a b ≡ true → (xs : List Static) → is_among a xs ≡ is_among b xs
same-found a b e xs = ap (λ n. is_among n xs) (same_bytes a b e)

-- nor do those that are left out because their name is known
type-new : (xs ys : List Static) (name : Name) → is_among name xs ≡ false → type_of_static (core.new_statics xs ys) name ≡ type_of_static ys name
type-new xs [] name none = refl
type-new xs (y ∷ ys) name none = by-test (is_among y.name xs) refl (type-new xs ys name none)
  where
    rest : List Static
    rest = core.new_statics xs ys

    known : is_among y.name xs ≡ true → bytes_eq y.name name ≡ false
    known there = by (bytes_eq y.name name) refl
      where
        by : (b : Bool) → bytes_eq y.name name ≡ b → b ≡ false
        by true e = sym there ∙ same-found y.name name e xs ∙ none
        by false e = refl

    by-test : (b : Bool) → is_among y.name xs ≡ b → type_of_static rest name ≡ type_of_static ys name → type_of_static ((if b then [] else y ∷ []) ++ rest) name ≡ type_of_static (y ∷ ys) name
    by-test true there later = later ∙ sym (ap (λ b. type_found (cond b (Some y) (find (λ (x : Static). bytes_eq x.name name) ys))) (known there))
    by-test false there later = type-first (bytes_eq y.name name) y (find (λ (x : Static). bytes_eq x.name name) ys) (find (λ (x : Static). bytes_eq x.name name) rest) (λ other. later)

pub type-joined : (xs ys : List Static) (name : Name) → is_among name xs ≡ false → type_of_static (xs ++ core.new_statics xs ys) name ≡ type_of_static ys name
type-joined xs ys name none = type-behind xs (core.new_statics xs ys) name none ∙ type-new xs ys name none

-- ---- where names stand

among-more : (xs : List Static) (x : Static) (name : Name) → is_among name xs ≡ true → is_among name (x ∷ xs) ≡ true
among-more xs x name there = by (bytes_eq x.name name)
  where
    by : (b : Bool) → b || is_among name xs ≡ true
    by true = refl
    by false = there

among-left : (xs zs : List Static) (name : Name) → is_among name xs ≡ true → is_among name (xs ++ zs) ≡ true
among-left [] zs name there = never there
among-left (x ∷ xs) zs name there = by (bytes_eq x.name name) there (among-left xs zs name)
  where
    by : (b : Bool) → b || is_among name xs ≡ true → (is_among name xs ≡ true → is_among name (xs ++ zs) ≡ true) → b || is_among name (xs ++ zs) ≡ true
    by true e later = refl
    by false e later = later e

among-right : (xs zs : List Static) (name : Name) → is_among name zs ≡ true → is_among name (xs ++ zs) ≡ true
among-right [] zs name there = there
among-right (x ∷ xs) zs name there = among-more (xs ++ zs) x name (among-right xs zs name there)

-- objects whose names are all among these, or none of them
abbrev pub are_among : List Static → List Static → Bool
are_among xs ws = list_all (λ (x : Static). is_among x.name xs) ws

abbrev are_absent : List Static → List Static → Bool
are_absent xs ws = list_all (λ (x : Static). not (is_among x.name xs)) ws

among-all : (xs ys : List Static) → ((name : Name) → is_among name xs ≡ true → is_among name ys ≡ true) → (ws : List Static) → are_among xs ws ≡ true → are_among ys ws ≡ true
among-all xs ys more [] ok = refl
among-all xs ys more (w ∷ ws) ok =
    let parts = both (is_among w.name xs) (are_among xs ws) ok in all_of (is_among w.name ys) (are_among ys ws) (more w.name parts.0) (among-all xs ys more ws parts.1)

their-own : (xs : List Static) → are_among xs xs ≡ true
their-own [] = refl
their-own (x ∷ xs) =
    all_of (is_among x.name (x ∷ xs)) (are_among (x ∷ xs) xs) (ap (λ b. b || is_among x.name xs) (bytes_same x.name x.name refl))
    (among-all xs (x ∷ xs) (λ name there. among-more xs x name there) xs (their-own xs))

new-absent : (xs ys : List Static) → are_absent xs (core.new_statics xs ys) ≡ true
new-absent xs [] = refl
new-absent xs (y ∷ ys) = by (is_among y.name xs) refl (new-absent xs ys)
  where
    by : (b : Bool) → is_among y.name xs ≡ b → are_absent xs (core.new_statics xs ys) ≡ true → are_absent xs ((if b then [] else y ∷ []) ++ core.new_statics xs ys) ≡ true
    by true e later = later
    by false e later = all_of (not (is_among y.name xs)) (are_absent xs (core.new_statics xs ys)) (ap not e) later

absent-is : (b : Bool) → not b ≡ true → b ≡ false
absent-is true e = sym e
absent-is false e = refl

pub new-all : (p : Static → Bool) (xs ys : List Static) → list_all p ys ≡ true → list_all p (core.new_statics xs ys) ≡ true
new-all p xs [] ok = refl
new-all p xs (y ∷ ys) ok =
    let parts = both (p y) (list_all p ys) ok in by (is_among y.name xs) parts.0 (new-all p xs ys parts.1)
  where
    by : (b : Bool) → p y ≡ true → list_all p (core.new_statics xs ys) ≡ true → list_all p ((if b then [] else y ∷ []) ++ core.new_statics xs ys) ≡ true
    by true first later = later
    by false first later = all_of (p y) (list_all p (core.new_statics xs ys)) first later

-- objects with constant initialisers
abbrev pub are_constant : List Static → Bool
are_constant xs = list_all (λ (x : Static). x.is_constant) xs

pub built-constant : (all ws : List Static) → list_all (is_built_static all) ws ≡ true → are_constant ws ≡ true
built-constant all [] ok = refl
built-constant all (w ∷ ws) ok =
    let parts = both (is_built_static all w) (list_all (is_built_static all) ws) ok in
    all_of w.is_constant (are_constant ws) (constant-object all w parts.0) (built-constant all ws parts.1)

-- ---- plain statements

-- a static object beside those of its file or program
abbrev pub beside : List Static → Static → PlainStatic
beside all x = sequenced_static [] all x

same-object : (xs ys : List Static) (x : Static) → x.is_constant ≡ true → type_of_static xs x.name ≡ type_of_static ys x.name → beside xs x ≡ beside ys x
same-object xs ys x ok e =
    ap (λ ss. let y : PlainStatic = record (beside ys x) { start = ss } in y) (start-is [] xs x ok ∙ ap (set_as [] x) e ∙ sym (start-is [] ys x ok))

pub objects-grown : (xs zs : List Static) (ws : List Static) → are_constant ws ≡ true → are_among xs ws ≡ true → map (beside (xs ++ zs)) ws ≡ map (beside xs) ws
objects-grown xs zs [] ok there = refl
objects-grown xs zs (w ∷ ws) ok there =
    let parts = both w.is_constant (are_constant ws) ok in
    let known = both (is_among w.name xs) (are_among xs ws) there in
    ap (λ (x : PlainStatic). x ∷ map (beside (xs ++ zs)) ws) (same-object (xs ++ zs) xs w parts.0 (type-grown xs zs w.name known.0))
    ∙ ap (λ (us : List PlainStatic). beside xs w ∷ us) (objects-grown xs zs ws parts.1 known.1)

objects-new : (xs ys : List Static) (ws : List Static) → are_constant ws ≡ true → are_absent xs ws ≡ true → map (beside (xs ++ core.new_statics xs ys)) ws ≡ map (beside ys) ws
objects-new xs ys [] ok none = refl
objects-new xs ys (w ∷ ws) ok none =
    let all = xs ++ core.new_statics xs ys in
    let parts = both w.is_constant (are_constant ws) ok in
    let known = both (not (is_among w.name xs)) (are_absent xs ws) none in
    ap (λ (x : PlainStatic). x ∷ map (beside all) ws) (same-object all ys w parts.0 (type-joined xs ys w.name (absent-is (is_among w.name xs) known.0)))
    ∙ ap (λ (us : List PlainStatic). beside ys w ∷ us) (objects-new xs ys ws parts.1 known.1)

pub objects-joined : (xs ys : List Static) → are_constant xs ≡ true → are_constant ys ≡ true
    → map (beside (xs ++ core.new_statics xs ys)) (xs ++ core.new_statics xs ys) ≡ map (beside xs) xs ++ map (beside ys) (core.new_statics xs ys)
objects-joined xs ys ok good =
    let new = core.new_statics xs ys in
    map-append (beside (xs ++ new)) xs new
    ∙ ap (λ (us : List PlainStatic). us ++ map (beside (xs ++ new)) new) (objects-grown xs new xs ok (their-own xs))
    ∙ ap (λ (us : List PlainStatic). map (beside xs) xs ++ us) (objects-new xs ys new (new-all (λ (x : Static). x.is_constant) xs ys good) (new-absent xs ys))

-- shared objects stand once
any-same : (all : List Static) (name : Name) (xs : List Static) → list_any (λ (y : PlainStatic). bytes_eq y.name name) (map (beside all) xs) ≡ is_among name xs
any-same all name [] = refl
any-same all name (x ∷ xs) = ap (λ b. bytes_eq x.name name || b) (any-same all name xs)

pub new-same : (all xs ys zs : List Static) → plain.new_statics (map (beside all) xs) (map (beside ys) zs) ≡ map (beside ys) (core.new_statics xs zs)
new-same all xs ys [] = refl
new-same all xs ys (z ∷ zs) =
    pick (is_among z.name xs) (list_any (λ (y : PlainStatic). bytes_eq y.name z.name) (map (beside all) xs)) (core.new_statics xs zs)
    (plain.new_statics (map (beside all) xs) (map (beside ys) zs)) (any-same all z.name xs) (new-same all xs ys zs)
  where
    pick : (b c : Bool) (old : List Static) (new : List PlainStatic) → c ≡ b → new ≡ map (beside ys) old → cond (not c) (beside ys z ∷ new) new ≡ map (beside ys) ((if b then [] else z ∷ []) ++ old)
    pick true c old new e h = ap (λ c. cond (not c) (beside ys z ∷ new) new) e ∙ h
    pick false c old new e h = ap (λ c. cond (not c) (beside ys z ∷ new) new) e ∙ ap (λ (us : List PlainStatic). beside ys z ∷ us) h

-- ---- settings

-- what sets an object of the program
abbrev pub placed : List Static → Setting → PlainSetting
placed all x = record { function = x.function; start = initialised [] (type_of_static all x.object) x.object x.start 0 nothing }

abbrev pub set_among : List Static → List Setting → Bool
set_among xs ks = list_all (λ (x : Setting). is_among x.object xs) ks

pub settings-grown : (xs zs : List Static) (ks : List Setting) → set_among xs ks ≡ true → map (placed (xs ++ zs)) ks ≡ map (placed xs) ks
settings-grown xs zs [] there = refl
settings-grown xs zs (x ∷ ks) there =
    let known = both (is_among x.object xs) (set_among xs ks) there in
    ap (λ t. (let s : PlainSetting = record { function = x.function; start = initialised [] t x.object x.start 0 nothing } in s) ∷ map (placed (xs ++ zs)) ks) (type-grown xs zs x.object known.0)
    ∙ ap (λ (us : List PlainSetting). placed xs x ∷ us) (settings-grown xs zs ks known.1)

pub built-grown : (xs zs : List Static) (ks : List Setting) → set_among xs ks ≡ true → list_all (is_built_setting xs) ks ≡ true → list_all (is_built_setting (xs ++ zs)) ks ≡ true
built-grown xs zs [] there ok = refl
built-grown xs zs (x ∷ ks) there ok =
    let known = both (is_among x.object xs) (set_among xs ks) there in
    let parts = both (is_built_setting xs x) (list_all (is_built_setting xs) ks) ok in
    all_of (is_built_setting (xs ++ zs) x) (list_all (is_built_setting (xs ++ zs)) ks)
    (ap (λ t. is_constant_set t x.start) (type-grown xs zs x.object known.0) ∙ parts.0) (built-grown xs zs ks known.1 parts.1)

pub among-grown : (xs zs : List Static) (ks : List Setting) → set_among xs ks ≡ true → set_among (xs ++ zs) ks ≡ true
among-grown xs zs [] there = refl
among-grown xs zs (x ∷ ks) there =
    let known = both (is_among x.object xs) (set_among xs ks) there in
    all_of (is_among x.object (xs ++ zs)) (set_among (xs ++ zs) ks) (among-left xs zs x.object known.0) (among-grown xs zs ks known.1)

empty-is : (x : Static) (t : SourceType) (b : Bool) → plain.is_empty (if b then nothing else initialised [] t x.name x.start 0 nothing) ≡ b
empty-is x t true = refl
empty-is x t false = by (binds x.start) _
  where
    by : (b : Bool) (rest : Plains) → plain.is_empty (reached b t x.name rest) ≡ false
    by true rest = refl
    by false rest = refl

sets-same : (ys : List Static) (x : Static) → x.is_constant ≡ true → plain.sets_constant (beside ys x) ≡ core.sets_constant x
sets-same ys x ok =
    ap (λ ss. x.is_constant && not (plain.is_empty ss)) (start-is [] ys x ok) ∙ ap (λ b. x.is_constant && not b) (empty-is x (type_of_static ys x.name) (is_nothing x.start))

pub filtered : (ys ws : List Static) → are_constant ws ≡ true → filter plain.sets_constant (map (beside ys) ws) ≡ map (beside ys) (filter core.sets_constant ws)
filtered ys [] ok = refl
filtered ys (w ∷ ws) ok =
    let parts = both w.is_constant (are_constant ws) ok in
    pick (core.sets_constant w) (plain.sets_constant (beside ys w)) (filter core.sets_constant ws) (filter plain.sets_constant (map (beside ys) ws)) (sets-same ys w parts.0) (filtered ys ws parts.1)
  where
    pick : (b c : Bool) (old : List Static) (new : List PlainStatic) → c ≡ b → new ≡ map (beside ys) old → cond c (beside ys w ∷ new) new ≡ map (beside ys) (cond b (w ∷ old) old)
    pick true c old new e h = ap (λ c. cond c (beside ys w ∷ new) new) e ∙ ap (λ (us : List PlainStatic). beside ys w ∷ us) h
    pick false c old new e h = ap (λ c. cond c (beside ys w ∷ new) new) e ∙ h

-- those of a further file
pub settings-new : (xs ys : List Static) (name : Name) (ws : List Static) → are_constant ws ≡ true → are_absent xs ws ≡ true
    → map (plain.constant_setting name) (map (beside ys) (filter core.sets_constant ws)) ≡ map (placed (xs ++ core.new_statics xs ys)) (map (core.constant_setting name) (filter core.sets_constant ws))
settings-new xs ys name [] ok none = refl
settings-new xs ys name (w ∷ ws) ok none =
    by (core.sets_constant w) refl
    (settings-new xs ys name ws (both w.is_constant (are_constant ws) ok).1 (both (not (is_among w.name xs)) (are_absent xs ws) none).1)
  where
    parts : (w.is_constant ≡ true) × (are_constant ws ≡ true)
    parts = both w.is_constant (are_constant ws) ok

    known : (not (is_among w.name xs) ≡ true) × (are_absent xs ws ≡ true)
    known = both (not (is_among w.name xs)) (are_absent xs ws) none

    all : List Static
    all = xs ++ core.new_statics xs ys

    of_start : Plains → PlainSetting
    of_start ss = record { function = core.owner_or name w.owner; start = ss }

    others : List Static
    others = filter core.sets_constant ws

    Same : List Static → Type 0
    Same zs = map (plain.constant_setting name) (map (beside ys) zs) ≡ map (placed all) (map (core.constant_setting name) zs)

    by : (b : Bool) → core.sets_constant w ≡ b → Same others → Same (cond b (w ∷ others) others)
    by true e later =
        let something = absent-is (is_nothing w.start) (both w.is_constant (not (is_nothing w.start)) e).1 in
        ap (λ ss. of_start ss ∷ map (plain.constant_setting name) (map (beside ys) others))
        (start-is [] ys w parts.0 ∙ ap (λ b. if b then nothing else initialised [] (type_of_static ys w.name) w.name w.start 0 nothing) something
        ∙ ap (λ t. initialised [] t w.name w.start 0 nothing) (sym (type-joined xs ys w.name (absent-is (is_among w.name xs) known.0))))
        ∙ ap (λ (us : List PlainSetting). placed all (core.constant_setting name w) ∷ us) later
    by false e later = later

starts-constant : (all : List Static) (x : Static) → is_built_static all x ≡ true → core.sets_constant x ≡ true → is_constant_set (type_of_static all x.name) x.start ≡ true
starts-constant all x ok sets =
    something-constant (type_of_static all x.name) x.start (constant-start all x ok) (absent-is (is_nothing x.start) (both x.is_constant (not (is_nothing x.start)) sets).1)

pub built-new : (xs ys : List Static) (name : Name) (ws : List Static) → list_all (is_built_static ys) ws ≡ true → are_absent xs ws ≡ true
    → list_all (is_built_setting (xs ++ core.new_statics xs ys)) (map (core.constant_setting name) (filter core.sets_constant ws)) ≡ true
built-new xs ys name [] ok none = refl
built-new xs ys name (w ∷ ws) ok none =
    by (core.sets_constant w) refl
    (built-new xs ys name ws (both (is_built_static ys w) (list_all (is_built_static ys) ws) ok).1 (both (not (is_among w.name xs)) (are_absent xs ws) none).1)
  where
    parts : (is_built_static ys w ≡ true) × (list_all (is_built_static ys) ws ≡ true)
    parts = both (is_built_static ys w) (list_all (is_built_static ys) ws) ok

    known : (not (is_among w.name xs) ≡ true) × (are_absent xs ws ≡ true)
    known = both (not (is_among w.name xs)) (are_absent xs ws) none

    all : List Static
    all = xs ++ core.new_statics xs ys

    others : List Static
    others = filter core.sets_constant ws

    by : (b : Bool) → core.sets_constant w ≡ b → list_all (is_built_setting all) (map (core.constant_setting name) others) ≡ true
        → list_all (is_built_setting all) (map (core.constant_setting name) (cond b (w ∷ others) others)) ≡ true
    by true e later =
        all_of (is_built_setting all (core.constant_setting name w)) (list_all (is_built_setting all) (map (core.constant_setting name) others))
        (ap (λ t. is_constant_set t w.start) (type-joined xs ys w.name (absent-is (is_among w.name xs) known.0)) ∙ starts-constant ys w parts.0 e) later
    by false e later = later

pub among-new : (all : List Static) (name : Name) (ws : List Static) → are_among all ws ≡ true → set_among all (map (core.constant_setting name) (filter core.sets_constant ws)) ≡ true
among-new all name [] there = refl
among-new all name (w ∷ ws) there =
    let known = both (is_among w.name all) (are_among all ws) there in by (core.sets_constant w) known.0 (among-new all name ws known.1)
  where
    others : List Static
    others = filter core.sets_constant ws

    by : (b : Bool) → is_among w.name all ≡ true → set_among all (map (core.constant_setting name) others) ≡ true → set_among all (map (core.constant_setting name) (cond b (w ∷ others) others)) ≡ true
    by true first later = all_of (is_among w.name all) (set_among all (map (core.constant_setting name) others)) first later
    by false first later = later

-- what is joined, by its parts
pub record Set (xs ys : List Static) (name : Name) (ks : List Setting) : Type 0 where
  pub same : map (placed xs) ks ++ map (plain.constant_setting name) (filter plain.sets_constant (map (beside ys) (core.new_statics xs ys)))
      ≡ map (placed (xs ++ core.new_statics xs ys)) (ks ++ map (core.constant_setting name) (filter core.sets_constant (core.new_statics xs ys)))
  pub built : list_all (is_built_setting (xs ++ core.new_statics xs ys)) (ks ++ map (core.constant_setting name) (filter core.sets_constant (core.new_statics xs ys))) ≡ true
  pub among : set_among (xs ++ core.new_statics xs ys) (ks ++ map (core.constant_setting name) (filter core.sets_constant (core.new_statics xs ys))) ≡ true

pub settings-joined : (xs ys : List Static) (name : Name) (ks : List Setting) → list_all (is_built_static ys) ys ≡ true → set_among xs ks ≡ true → list_all (is_built_setting xs) ks ≡ true → Set xs ys name ks
settings-joined xs ys name ks good there ok =
    let new = core.new_statics xs ys in
    let sets = map (core.constant_setting name) (filter core.sets_constant new) in
    let built = new-all (is_built_static ys) xs ys good in
    let constant = built-constant ys new built in
    let absent = new-absent xs ys in
    record {
      same =
          ap (λ us. map (placed xs) ks ++ map (plain.constant_setting name) us) (filtered ys new constant)
          ∙ ap (λ (us : List PlainSetting). map (placed xs) ks ++ us) (settings-new xs ys name new constant absent)
          ∙ ap (λ (us : List PlainSetting). us ++ map (placed (xs ++ new)) sets) (sym (settings-grown xs new ks there))
          ∙ sym (map-append (placed (xs ++ new)) ks sets);
      built =
          list_all-append (is_built_setting (xs ++ new)) ks sets
          ∙ all_of (list_all (is_built_setting (xs ++ new)) ks) (list_all (is_built_setting (xs ++ new)) sets) (built-grown xs new ks there ok) (built-new xs ys name new built absent);
      among =
          list_all-append (λ (x : Setting). is_among x.object (xs ++ new)) ks sets
          ∙ all_of (set_among (xs ++ new) ks) (set_among (xs ++ new) sets) (among-grown xs new ks there)
          (among-new (xs ++ new) name new (among-all new (xs ++ new) (λ n there. among-right xs new n there) new (their-own new)));
    }

-- ---- what is not constant: there is none

pub none-needed : (ws : List Static) → are_constant ws ≡ true → filter core.needs_initialiser ws ≡ []
none-needed [] ok = refl
none-needed (w ∷ ws) ok =
    let parts = both w.is_constant (are_constant ws) ok in
    ap (λ b. cond (not b && not (is_some w.owner)) (w ∷ filter core.needs_initialiser ws) (filter core.needs_initialiser ws)) parts.0 ∙ none-needed ws parts.1

pub none-needed-beside : (ys ws : List Static) → are_constant ws ≡ true → filter plain.needs_initialiser (map (beside ys) ws) ≡ []
none-needed-beside ys [] ok = refl
none-needed-beside ys (w ∷ ws) ok =
    let parts = both w.is_constant (are_constant ws) ok in
    let others = filter plain.needs_initialiser (map (beside ys) ws) in
    ap (λ b. cond (not b && not (is_some w.owner)) (beside ys w ∷ others) others) parts.0 ∙ none-needed-beside ys ws parts.1
